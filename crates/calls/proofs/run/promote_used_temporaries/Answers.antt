use Rattle.hir.specs.Environments.{model}
use Rattle.hir.specs.Scratches.{tables, both}
use Rattle.promote.proofs.Visiting as visiting
use Rattle.instances.proofs.Passes as instancing
use Rattle.calls.proofs.Passing.{passable, ready_collect, ready_interposed, after_collect, after_temporaries, after_interposed}
use Rattle.calls.proofs.run.promote_used_temporaries.Goals as goal

pub collect_promotable-requires : goal.collect_promotable-requires
collect_promotable-requires g c =
    let b = tables c.args.env.now c.args.scratch.now in
    let p = passable b c.args.parameters _ c.requires in
    record { shallow = p.shallow; ready = ready_collect c.args.parameters _ b _ p (λ i. both (model c.args.env.now) (c.reset.ensures i)) }

pub promote_temporaries-requires : goal.promote_temporaries-requires
promote_temporaries-requires g c =
    let read = g.S.TreeSource.reading in
    let b = tables c.args.env.now c.args.scratch.now in
    let p = passable b c.args.parameters _ c.requires in
    let q = after_collect c.args.parameters (read c.args.source.now) _ c.collect_promotable.ensures.source b _ _ p (λ i. both (model c.args.env.now) (c.reset.ensures i)) c.collect_promotable.ensures.after in
    record { shallow = q.shallow; known = q.parameters; ready = visiting.ready_rows _ _ q.sound q.rows }

pub promote_interposed-requires : goal.promote_interposed-requires
promote_interposed-requires g c =
    let read = g.S.TreeSource.reading in
    let b = tables c.args.env.now c.args.scratch.now in
    let p = passable b c.args.parameters _ c.requires in
    let q = after_collect c.args.parameters (read c.args.source.now) _ c.collect_promotable.ensures.source b _ _ p (λ i. both (model c.args.env.now) (c.reset.ensures i)) c.collect_promotable.ensures.after in
    let r = after_temporaries c.args.parameters (read c.collect_promotable.new.source) _ c.promote_temporaries.ensures.source _ _ q c.promote_temporaries.ensures.after in
    record { shallow = r.shallow; ready = ready_interposed c.args.parameters _ _ r }

pub promote_all_instances-requires : goal.promote_all_instances-requires
promote_all_instances-requires g c =
    let read = g.S.TreeSource.reading in
    let b = tables c.args.env.now c.args.scratch.now in
    let p = passable b c.args.parameters _ c.requires in
    let q = after_collect c.args.parameters (read c.args.source.now) _ c.collect_promotable.ensures.source b _ _ p (λ i. both (model c.args.env.now) (c.reset.ensures i)) c.collect_promotable.ensures.after in
    let r = after_temporaries c.args.parameters (read c.collect_promotable.new.source) _ c.promote_temporaries.ensures.source _ _ q c.promote_temporaries.ensures.after in
    let s = after_interposed c.args.parameters (read c.promote_temporaries.new.source) _ c.promote_interposed.ensures.source _ _ r c.promote_interposed.ensures.after in
    record { shallow = s.shallow; known = s.parameters; ready = instancing.ready_rows _ _ s.sound s.rows }

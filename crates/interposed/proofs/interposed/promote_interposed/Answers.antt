use Rattle.std.proofs.Common.{[], map, ap, ◌∙◌, arith}
use Rattle.hir.specs.Scratches.{tables}
use Rattle.hir.specs.Spans.{identifiers_in}
use Rattle.walk.specs.Events.{events, acts_of}
use Rattle.walk.proofs.Acting.{ready_onward, over_onward, acting_over, acting_allowed}
use Rattle.interposed.specs.Acts.{State, fixes, does, Ready}
use Rattle.interposed.specs.Interposed.{keeps, acts, begun}
use Rattle.interposed.proofs.Passes.{splits}
use Rattle.interposed.proofs.interposed.promote_interposed.Goals as goal

pub fix_parameters-requires : goal.fix_parameters-requires
fix_parameters-requires g c =
    let w = begun (tables c.args.env.now c.args.scratch.now) in
    splits.front w (map fixes (identifiers_in c.args.env.now.pool.now c.args.parameters)) _ c.requires.ready

pub walk-requires : goal.walk-requires
walk-requires g c =
    let w = begun (tables c.args.env.now c.args.scratch.now) in
    let rows = (g.S.TreeSource.reading c.args.source.now).rows in (
      omega arith,
      (
        c.requires.shallow,
        acting_allowed does Ready splits acts (events keeps [] rows) _ (ready_onward does Ready splits w _ (map fixes (identifiers_in c.args.env.now.pool.now c.args.parameters)) (acts_of acts (events keeps [] rows)) c.requires.ready c.fix_parameters.ensures),
      ),
    )

pub returns : goal.returns
returns g c =
    let w = begun (tables c.args.env.now c.args.scratch.now) in
    let rows = (g.S.TreeSource.reading c.args.source.now).rows in
    record {
      after =
          ap (λ (x : State). x.tables)
          (over_onward does Ready splits w _ _ (map fixes (identifiers_in c.args.env.now.pool.now c.args.parameters)) (acts_of acts (events keeps [] rows)) c.fix_parameters.ensures
          (c.walk.ensures.after ∙ acting_over does Ready splits acts (events keeps [] rows) _));
      source = c.walk.ensures.source;
    }

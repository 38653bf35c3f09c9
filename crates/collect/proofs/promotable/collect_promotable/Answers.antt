use Rattle.std.proofs.Common.{[], ap, ◌∙◌, arith}
use Rattle.hir.specs.Scratches.{tables}
use Rattle.walk.specs.Events.{Whole, events}
use Rattle.walk.proofs.Acting.{acting_over, acting_allowed}
use Rattle.collect.specs.declared.promotable.CollectPromotable.{CollectPromotable}
use Rattle.collect.specs.Promotable.{does, keeps, acts, Ready, begun}
use Rattle.collect.proofs.Keeping.{splits}
use Rattle.collect.proofs.promotable.collect_promotable.Goals as goal

pub walk-requires : goal.walk-requires
walk-requires g c =
    let rows = (g.S.TreeSource.reading c.args.source.now).rows in
    (omega arith, (c.requires.shallow, acting_allowed does Ready splits acts (events keeps [] rows) (begun (tables c.args.env.now c.args.scratch.now)) c.requires.ready))

pub returns-clause-after : goal.returns-clause-after
returns-clause-after g c =
    let rows = (g.S.TreeSource.reading c.args.source.now).rows in
    ap (λ (w : Whole CollectPromotable). w.tables) (c.walk.ensures.after ∙ acting_over does Ready splits acts (events keeps [] rows) (begun (tables c.args.env.now c.args.scratch.now)))

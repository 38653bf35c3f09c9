use Rattle.hir.specs.Scratches.{tables}
use Rattle.walk.specs.Events.{whole}
use Rattle.walk.proofs.Acting.{Doing}
use Rattle.interposed.specs.Acts.{uses, does, Ready}
use Rattle.interposed.proofs.Passes.{splits}
use Rattle.interposed.proofs.acts.PromoteInterposed.use_operands.Given as goal

abbrev pub invariant-loop-id : goal.invariant-loop-id
invariant-loop-id g l =
    (goal.iterator-loop-id g).can_next l.id-iterator ×
    (goal.iterator-loop-id g).is_finite l.id-iterator ×
    Doing does Ready splits uses (whole l.self (tables l.initial.env l.initial.scratch)) (whole l.self (tables l.env l.scratch)) l.row.operands l.id-iterator

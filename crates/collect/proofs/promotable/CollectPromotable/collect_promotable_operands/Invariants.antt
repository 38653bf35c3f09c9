use Rattle.hir.specs.Scratches.{tables}
use Rattle.walk.specs.Events.{whole}
use Rattle.walk.proofs.Acting.{Doing}
use Rattle.collect.specs.Promotable.{sees, does, Ready}
use Rattle.collect.proofs.Keeping.{splits}
use Rattle.collect.proofs.promotable.CollectPromotable.collect_promotable_operands.Given as goal

abbrev pub invariant-loop-id : goal.invariant-loop-id
invariant-loop-id g l =
    (goal.iterator-loop-id g).can_next l.id-iterator ×
    (goal.iterator-loop-id g).is_finite l.id-iterator ×
    Doing does Ready splits sees (whole l.self (tables l.env l.initial.scratch)) (whole l.self (tables l.env l.scratch)) l.row.operands l.id-iterator

use Rattle.hir.specs.Scratches.{tables}
use Rattle.walk.specs.Events.{whole}
use Rattle.walk.proofs.Acting.{Doing}
use Rattle.interposed.specs.Acts.{fixes, does, Ready}
use Rattle.interposed.proofs.Passes.{splits}
use Rattle.interposed.proofs.acts.PromoteInterposed.fix_marks.Given as goal

abbrev pub invariant-loop-id : goal.invariant-loop-id
invariant-loop-id g l =
    (goal.iterator-loop-id g).can_next l.id-iterator ×
    (goal.iterator-loop-id g).is_finite l.id-iterator ×
    Doing does Ready splits fixes (whole l.self (tables l.initial.env l.initial.scratch)) (whole l.self (tables l.env l.scratch)) l.row.marks l.id-iterator

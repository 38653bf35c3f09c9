use Rattle.hir.specs.Scratches.{tables}
use Rattle.walk.proofs.Acting.{Doing}
use Rattle.instances.specs.Instances.{again, does, Ready}
use Rattle.instances.proofs.Passes.{splits}
use Rattle.instances.proofs.instances.promote_all_instances_operands.Given as goal

abbrev pub invariant-loop-id : goal.invariant-loop-id
invariant-loop-id g l =
    (goal.iterator-loop-id g).can_next l.id-iterator ×
    (goal.iterator-loop-id g).is_finite l.id-iterator ×
    Doing does Ready splits again (tables l.initial.env l.initial.scratch) (tables l.env l.scratch) l.row.operands l.id-iterator

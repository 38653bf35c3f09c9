use Rattle.hir.specs.Scratches.{tables}
use Rattle.promote.proofs.Listing.{Listed}
use Rattle.instances.specs.Instances.{promote_instance}
use Rattle.instances.proofs.instances.promote_all_instances_list.Given as goal

abbrev pub invariant-loop-n : goal.invariant-loop-n
invariant-loop-n l = Listed promote_instance (tables l.initial.env l.initial.scratch) (tables l.env l.scratch) l.n-items l.n-index

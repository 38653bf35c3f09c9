use Rattle.hir.specs.Scratches.{tables}
use Rattle.promote.specs.Temporaries.{promote_escaped}
use Rattle.promote.proofs.Listing.{Listed}
use Rattle.promote.proofs.temporaries.promote_pruned_scope.Given as goal

abbrev pub invariant-loop-n : goal.invariant-loop-n
invariant-loop-n l = Listed promote_escaped (tables l.initial.env l.initial.scratch) (tables l.env l.scratch) l.n-items l.n-index

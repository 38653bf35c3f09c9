use Rattle.hir.specs.Scratches.{tables}
use Rattle.promote.specs.Identifier.{promote_unnamed}
use Rattle.promote.proofs.Listing.{Listed}
use Rattle.promote.proofs.identifier.promote_list.Given as goal

abbrev pub invariant-loop-n : goal.invariant-loop-n
invariant-loop-n l = Listed (promote_unnamed l.reason) (tables l.initial.env l.initial.scratch) (tables l.env l.scratch) l.n-items l.n-index

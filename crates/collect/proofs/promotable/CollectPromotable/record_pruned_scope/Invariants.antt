use Rattle.hir.specs.Scratches.{tables}
use Rattle.promote.proofs.Listing.{Listed}
use Rattle.collect.specs.Promotable.{recorded_at}
use Rattle.collect.proofs.promotable.CollectPromotable.record_pruned_scope.Given as goal

abbrev pub invariant-loop-n : goal.invariant-loop-n
invariant-loop-n l = Listed (recorded_at l.self.innermost) (tables l.env l.initial.scratch) (tables l.env l.scratch) l.n-items l.n-index

use Rattle.hir.specs.Scratches.{tables}
use Rattle.promote.specs.Temporaries.{unvisited}
use Rattle.promote.proofs.Visiting.{Visiting}
use Rattle.promote.proofs.temporaries.+visit_hir_function_for_promotion.Given as goal

abbrev pub decreases-visit_hir_function_for_promotion : goal.decreases-visit_hir_function_for_promotion
decreases-visit_hir_function_for_promotion l = unvisited (tables l.env.now l.scratch.now)

abbrev pub invariant-loop-n : goal.invariant-loop-n
invariant-loop-n l = Visiting (tables l.initial.env l.initial.scratch) (tables l.env l.scratch) l.n-items l.n-index

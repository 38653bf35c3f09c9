use Rattle.hir.specs.Scratches.{tables}
use Rattle.promote.proofs.Visiting.{unvisited_few}
use Rattle.promote.proofs.temporaries.promote_inner_function.Goals as goal

pub returns : goal.returns
returns c = c.visit_hir_function_for_promotion.ensures _ (unvisited_few (tables c.args.env.now c.args.scratch.now))

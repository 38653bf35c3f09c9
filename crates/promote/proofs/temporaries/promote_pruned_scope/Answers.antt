use Rattle.std.proofs.Common.{arith}
use Rattle.promote.specs.Temporaries.{promote_escaped}
use Rattle.promote.proofs.Visiting.{grows_escaped}
use Rattle.promote.proofs.Listing.{listed_more}
use Rattle.promote.proofs.temporaries.promote_pruned_scope.Goals as goal

pub loop-n-preserved : goal.loop-n-preserved
loop-n-preserved c = listed_more promote_escaped grows_escaped _ _ _ _ c.loop-n.invariant (omega arith) _ c.promote_escaped.ensures

use Rattle.std.proofs.Common.{arith}
use Rattle.promote.proofs.Growing.{grows_unnamed}
use Rattle.promote.proofs.Listing.{listed_more}
use Rattle.promote.proofs.identifier.promote_list.Goals as goal

pub loop-n-preserved : goal.loop-n-preserved
loop-n-preserved c = listed_more _ (grows_unnamed c.args.reason) _ _ _ _ c.loop-n.invariant (omega arith) _ c.promote_unnamed.ensures

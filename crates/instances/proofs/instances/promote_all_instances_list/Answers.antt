use Rattle.std.proofs.Common.{arith}
use Rattle.promote.proofs.Listing.{listed_more}
use Rattle.instances.specs.Instances.{promote_instance}
use Rattle.instances.proofs.Passes.{grows_instance}
use Rattle.instances.proofs.instances.promote_all_instances_list.Goals as goal

pub loop-n-preserved : goal.loop-n-preserved
loop-n-preserved c = listed_more promote_instance grows_instance _ _ _ _ c.loop-n.invariant (omega arith) _ c.promote_all_instances_place.ensures

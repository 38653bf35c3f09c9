use Rattle.walk.proofs.Acting.{doing_more}
use Rattle.instances.specs.Instances.{again, does, Ready}
use Rattle.instances.proofs.Passes.{splits}
use Rattle.instances.proofs.instances.promote_all_instances_operands.Goals as goal

pub loop-id-preserved : goal.loop-id-preserved
loop-id-preserved g c = (tt, tt, doing_more does Ready splits again _ _ _ _ c.in-Some.id _ c.loop-id.invariant.2 c.in-Some.ensures.steps _ c.promote_all_instances_place.ensures)

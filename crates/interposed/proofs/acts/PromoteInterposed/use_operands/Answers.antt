use Rattle.walk.proofs.Acting.{doing_more}
use Rattle.interposed.specs.Acts.{uses, does, Ready}
use Rattle.interposed.proofs.Passes.{splits}
use Rattle.interposed.proofs.acts.PromoteInterposed.use_operands.Goals as goal

pub loop-id-preserved : goal.loop-id-preserved
loop-id-preserved g c = (tt, tt, doing_more does Ready splits uses _ _ _ _ c.in-Some.id _ c.loop-id.invariant.2 c.in-Some.ensures.steps _ c.use_place.ensures)

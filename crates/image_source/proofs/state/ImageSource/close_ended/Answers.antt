use Rattle.std.proofs.Common.{true-eqb}
use Rattle.image_source.proofs.Keeps.{closed}
use Rattle.image_source.proofs.state.ImageSource.close_ended.Goals as goal

pub invariant_of-self-in-loop-self-2 : goal.invariant_of-self-in-loop-self-2
invariant_of-self-in-loop-self-2 c = record { ok = closed c.loop-self.self c.pop.new.self.items c.in-Some.rest c.in-Some.ensures.items (true-eqb _ 0 c.loop-self-test.ensures) }

use Rattle.std.proofs.Common.{◌≡◌, length}
use Rattle.image_source.specs.Sources.{image_reading}
use Rattle.image_source.proofs.state.ImageSource.close_ended.Given as goal

abbrev pub invariant-loop-self : goal.invariant-loop-self
invariant-loop-self l = image_reading l.self ≡ image_reading l.initial.self

abbrev pub decreases-loop-self : goal.decreases-loop-self
decreases-loop-self l = length l.self.behind.items

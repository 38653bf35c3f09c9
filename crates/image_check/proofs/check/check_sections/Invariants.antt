use Rattle.std.proofs.Common.{length}
use Rattle.image.specs.Steps.{see_reader}
use Rattle.image_check.specs.Ranks.{stage_of}
use Rattle.image_check.proofs.Sections.{Ahead}
use Rattle.image_check.proofs.check.check_sections.Given as goal

abbrev pub invariant-loop-sections : goal.invariant-loop-sections
invariant-loop-sections l = Ahead l.image (stage_of l.sections.last) (see_reader l.sections.reader)

abbrev pub decreases-loop-sections : goal.decreases-loop-sections
decreases-loop-sections l = length l.sections.reader.left.rest.now

use Rattle.std.proofs.Common.{arith}
use Rattle.image.specs.Steps.{passed}
use Rattle.image_check.specs.Steps.{image_at}
use Rattle.image_check.proofs.Verdicts.{all_bytes, verdict, is_same}
use Rattle.image_check.proofs.check.check_image.Goals as goal

pub returns : goal.returns
returns c =
    let bs = c.args.image.now in
    verdict bs (all_bytes bs (λ i. omega (arith, c.type_inv.image i))) c.check_sections.result (is_same c.check_sections.result (passed (image_at bs)) c.check_sections.ensures)

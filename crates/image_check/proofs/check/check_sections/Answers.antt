use Rattle.std.proofs.Common.{sym}
use Rattle.std.proofs.lemmas.Result.{err_from_is_err_and}
use Rattle.image.specs.Steps.{see_reader}
use Rattle.image_check.specs.Ranks.{stage_of}
use Rattle.image_check.proofs.Sections.{stop}
use Rattle.image_check.proofs.check.check_sections.Goals as goal

pub returns-in_err-sections : goal.returns-in_err-sections
returns-in_err-sections c =
    let s = c.loop-sections.sections in
    let p = err_from_is_err_and c.from_residual-in_err-sections.result c.from_residual-in_err-sections.ensures.1 in
    rw (p.1, p.2) (stop c.args.image.now (stage_of s.last) (see_reader s.reader) _ c.loop-sections.invariant (sym c.loop-sections-test.ensures) c.in_err-sections.ensures.is)

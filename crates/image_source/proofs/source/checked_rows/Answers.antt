use Rattle.std.proofs.Common.{sym, ap, ◌∙◌, true-eqb}
use Rattle.image.specs.Bytes.{see}
use Rattle.image.specs.Steps.{numbers_at}
use Rattle.image_source.proofs.Checks.{rows_held}
use Rattle.image_source.proofs.source.checked_rows.Goals as goal

pub returns-in-Ok-check_row-clause-rows : goal.returns-in-Ok-check_row-clause-rows
returns-in-Ok-check_row-clause-rows c = rows_held c.args.content.now _ (see c.in-Ok.rows) (see c.in-Ok-check_row.behind) (ap numbers_at (sym c.new.ensures) ∙ c.in-Ok.ensures) c.in-Ok-check_row.ensures.is (true-eqb _ 0 c.if-is_empty.ensures)

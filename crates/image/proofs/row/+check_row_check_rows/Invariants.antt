use Rattle.std.proofs.Common.{◌+◌, ◌*◌, length}
use Rattle.image.specs.Bytes.{see}
use Rattle.image.specs.Steps.{row_at}
use Rattle.image.proofs.Turns.{Sofar}
use Rattle.image.proofs.row.+check_row_check_rows.Given as goal

abbrev pub decreases-check_row : goal.decreases-check_row
decreases-check_row l = 2 * l.left

abbrev pub decreases-check_rows : goal.decreases-check_rows
decreases-check_rows l = 2 * l.left + 1

abbrev pub invariant-check_rows-loop-rest : goal.invariant-check_rows-loop-rest
invariant-check_rows-loop-rest l = Sofar (row_at l.left) (see l.cursor) (see l.rest)

abbrev pub decreases-check_rows-loop-rest : goal.decreases-check_rows-loop-rest
decreases-check_rows-loop-rest l = length l.rest.rest.now

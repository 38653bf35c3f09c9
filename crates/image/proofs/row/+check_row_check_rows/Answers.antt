use Rattle.std.proofs.Common.{arith}
use Rattle.std.proofs.lemmas.Result.{err_from_is_err_and}
use Rattle.image.specs.Bytes.{see}
use Rattle.image.proofs.Turns.{head_fault, child_fault, row_passes}
use Rattle.image.proofs.row.+check_row_check_rows.Goals as goal

pub check_row-returns-in_err-children-clause-is : goal.check_row-returns-in_err-children-clause-is
check_row-returns-in_err-children-clause-is t c =
    let p = err_from_is_err_and c.from_residual.result c.from_residual.ensures.1 in
    rw (p.1, p.2) (head_fault c.args.left (see c.args.cursor) (λ e. omega arith) _ c.in_err-children.ensures.is)

pub check_row-returns-in_err-check_rows-clause-is : goal.check_row-returns-in_err-check_rows-clause-is
check_row-returns-in_err-check_rows-clause-is t c =
    let p = err_from_is_err_and c.from_residual-in_err-check_rows.result c.from_residual-in_err-check_rows.ensures.1 in
    rw (p.1, p.2) (child_fault c.args.left (see c.args.cursor) (λ e. omega arith) _ _ c.in_ok-children.ensures.is c.in_err-check_rows.ensures)

pub check_row-returns-clause-is : goal.check_row-returns-clause-is
check_row-returns-clause-is t c = row_passes c.args.left (see c.args.cursor) (λ e. omega arith) _ c.in_ok-children.ensures.is c.in_ok-check_rows.ensures

-- The row that a source gave last. Assumes nothing.
use Rattle.std.specs.Prelude.{◌≡◌, ◌<◌, ◌^◌, true, List, length, is_some}
use Rattle.hir.specs.declared.ids.IdentifierId.{IdentifierId}
use Rattle.reactive.specs.declared.given.RowList.{RowList}
use Rattle.reactive.specs.declared.given.RowList.TheVariants.{Operands, Marks}
use Rattle.reactive.specs.declared.row.RowHead.{RowHead}
use Rattle.reactive.specs.Rows.{Row, Reading, head, given, last_row}

-- the operands of a row, or its marks
abbrev pub list_of : RowList → Row → List IdentifierId
list_of Operands r = r.operands
list_of Marks r = r.marks

-- a row was given, and last the one that this is without its lists
pub record Given (s : Reading) (h : RowHead) : Type 0 where
  pub given : is_some (given s) ≡ true
  pub row : h ≡ head (last_row s)

-- a row was given, and its list has fewer than 2 ^ 64 identifiers
pub record Lists (s : Reading) (l : RowList) : Type 0 where
  pub given : is_some (given s) ≡ true
  pub short : length (list_of l (last_row s)) < 2 ^ 64

-- What a table of rows stands for. Assumes nothing.
use Rattle.std.specs.Prelude.{ℕ, List, map}
use Rattle.hir.specs.Spans.{identifiers_in}
use Rattle.reactive.specs.declared.row.RowHead.{RowHead}
use Rattle.reactive.specs.declared.table.RowEntry.{RowEntry}
use Rattle.reactive.specs.declared.table.TableSource.{TableSource}
use Rattle.reactive.specs.Rows.{Row, Reading, at_place, head}
pub use Rattle.reactive.specs.Rows.{before}

-- the row of an entry: its spans are read from the pool
abbrev pub table_row : List ℕ → RowEntry → Row
table_row pool e = record {
  depth = e.depth;
  code = e.code;
  identifier = e.identifier;
  number = e.number;
  kind = e.kind;
  mode = e.mode;
  operands = identifiers_in pool e.operands;
  marks = identifiers_in pool e.marks;
}

-- the row of an entry without its lists: their lengths are as the pool's end cuts them
abbrev pub table_head : List ℕ → RowEntry → RowHead
table_head pool e = head (table_row pool e)

-- the rows of a table, of which the first p were given
abbrev pub table_reading : List RowEntry → List ℕ → ℕ → Reading
table_reading es pool p = at_place (map (table_row pool) es) p

-- what a table source stands for now: the rows of its table, and its position
abbrev pub table_source : TableSource → Reading
table_source s = table_reading s.rows.now s.pool.now s.position

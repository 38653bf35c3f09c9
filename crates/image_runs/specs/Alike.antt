-- Runs over a tree of an image, and over a table of the same rows. Assumes nothing.
use Rattle.std.specs.Prelude.{◌≡◌, ℕ, List, map, Result}
use Rattle.hir.specs.declared.refusal.Refusal.{Refusal}
use Rattle.hir.specs.declared.span.Span.{Span}
use Rattle.hir.specs.Environments.{Model}
use Rattle.hir.specs.Scratches.{Notes}
use Rattle.reactive.specs.declared.table.RowEntry.{RowEntry}
use Rattle.reactive.specs.Rows.{at_place}
use Rattle.reactive.specs.Tables.{table_row, table_reading}
use Rattle.image.specs.Format.{Panel, tree}
use Rattle.image_source.specs.Trees.{tree_rows}
use Rattle.image_source.specs.Sections.{section_rows}
use Rattle.calls.specs.Steps.{SameSize, RunStep}

-- a tree that an image can hold, and a table of its rows
pub record Tabled (t : Panel) (es : List RowEntry) (pool : List ℕ) : Type 0 where
  pub fine : tree.Fine t
  pub rows : map (table_row pool) es ≡ tree_rows 128 0 t.1

-- at their start the source over the section's bytes and the source over the table stand for the same
abbrev pub EqualSources : Type 0
EqualSources = (t : Panel) (es : List RowEntry) (pool : List ℕ) → Tabled t es pool → at_place (section_rows (tree.write t)) 0 ≡ table_reading es pool 0

-- on equal environments and with scratch of equal sizes, runs over the two answer alike and leave equal environments
abbrev pub EqualAnswers : Type 0
EqualAnswers =
    (t : Panel) (es : List RowEntry) (pool : List ℕ) → Tabled t es pool
    → (m : Model) (ps : Span) (n k : Notes) → SameSize n k
    → (answer other : Result (ℕ × ℕ) Refusal) (after leaves : Model) (noted left : Notes)
    → RunStep m n ps (section_rows (tree.write t)) answer after noted → RunStep m k ps (table_reading es pool 0).rows other leaves left
    → (answer ≡ other) × (after ≡ leaves)

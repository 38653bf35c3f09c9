-- The own parameters and the rows of a T section. Assumes nothing.
use Rattle.std.specs.Prelude.{◌≡◌, ℕ, cond, List, [], length, Ok, Err, Result, ◌==◌}
use Rattle.reactive.specs.Rows.{Row}
use Rattle.image.specs.declared.fault.ByteFault.{ByteFault}
use Rattle.image.specs.declared.fault.RowFault.{RowFault}
use Rattle.image.specs.Bytes.{Place}
use Rattle.image.specs.Format.{Tree, Panel, tree}
use Rattle.image.specs.Steps.{numbers_at, many_at, row_at}
use Rattle.image_check.specs.Steps.{tree_at}
use Rattle.image_source.specs.Trees.{all_rows, tree_rows}

-- the rows of a tree, where nothing is behind it
abbrev pub only_rows : Result ((List ℕ × Tree 128) × Place) RowFault → List Row
only_rows (Ok v) = cond (length v.1.1 == 0) (tree_rows 128 0 v.0.1) []
only_rows (Err e) = []

-- the rows of a T section's content: none, where it is not own parameters and a tree
abbrev pub section_rows : List ℕ → List Row
section_rows content = only_rows (tree_at (0, content))

-- the list that was read, or none
abbrev pub list_read : Result (List ℕ × Place) ByteFault → List ℕ
list_read (Ok v) = v.0
list_read (Err e) = []

-- the own parameters of a T section's content: none, where their list does not fit
abbrev pub section_parameters : List ℕ → List ℕ
section_parameters content = list_read (numbers_at (0, content))

-- the rows of trees that were read, or none
abbrev pub rows_read : Result (List (Tree 128)) RowFault → List Row
rows_read (Ok ts) = all_rows (tree_rows 128 0) ts
rows_read (Err e) = []

-- the rows that fill a holder
abbrev pub held_rows : Place → List Row
held_rows p = rows_read (many_at (row_at 128) p)

-- the content of a T section gives the rows of its tree
abbrev pub GivesItsTree : Type 0
GivesItsTree = (t : Panel) → tree.Fine t → section_rows (tree.write t) ≡ tree_rows 128 0 t.1

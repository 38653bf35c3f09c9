-- The tree that rows are. Assumes nothing.
use Rattle.std.specs.Prelude.{◌≡◌, ℕ, List}
use Rattle.reactive.specs.Rows.{Row}
use Rattle.image.specs.Format.{Tree, row}
use Rattle.image_source.specs.Trees.{tree_rows}

-- the bytes are a tree that can be written, and these are its rows
pub record TreeOf (rs : List Row) (bs : List ℕ) : Type 0 where
  pub tree : Tree 128
  pub fine : (row 128).Fine tree
  pub rows : rs ≡ tree_rows 128 0 tree
  pub bytes : bs ≡ (row 128).write tree

-- no tree that can be written has these rows
abbrev pub NoTree : List Row → Type 0
NoTree rs = (bs : List ℕ) → TreeOf rs bs → ⊥

-- Values that were written behind bytes. Assumes nothing.
use Rattle.std.specs.Prelude.{◌≡◌, ℕ, List, ◌++◌}
use Rattle.hir.specs.Lists.{Each}
use Rattle.image.specs.Bytes.{joined}
use Rattle.image.specs.Layouts.{Layout}

-- a value that the layout can write was written behind the bytes that were there
pub record Put {X : Type 0} (L : Layout X) (x : X) (before after : List ℕ) : Type 0 where
  pub fine : L.Fine x
  pub bytes : after ≡ before ++ L.write x

-- such values were written, one behind the other
pub record PutAll {X : Type 0} (L : Layout X) (xs : List X) (before after : List ℕ) : Type 0 where
  pub fine : Each L.Fine xs
  pub bytes : after ≡ before ++ joined L.write xs

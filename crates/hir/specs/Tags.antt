-- The numbers of tags. Assumes nothing.
use Rattle.std.specs.Prelude.{ℕ}
use Rattle.hir.specs.declared.tag.Tag.{Tag}
use Rattle.hir.specs.declared.tag.Tag.TheVariants as tags

-- the byte that stands for a tag in an identifier's row
abbrev pub tag_number : Tag → ℕ
tag_number tags.Unnamed = 0
tag_number tags.Author = 1
tag_number tags.Lower = 2
tag_number tags.Upper = 3

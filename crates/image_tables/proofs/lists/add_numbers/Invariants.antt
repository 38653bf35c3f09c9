use Rattle.std.proofs.Common.{◌≡◌, ◌++◌, map, take, vec_items}
use Rattle.image.specs.Bytes.{u32_of}
use Rattle.image_tables.proofs.lists.add_numbers.Given as goal

abbrev pub invariant-loop-word : goal.invariant-loop-word
invariant-loop-word l = vec_items l.pool ≡ vec_items l.initial.pool ++ map u32_of (take l.word-index l.list.words.now)

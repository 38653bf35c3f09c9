-- The rows that the content of a T section gives. Assumes nothing.
use Rattle.std.proofs.Common.{◌+◌, length, [], sym, refl, ap, append-nil}
use Rattle.image.specs.Format.{tree}
use Rattle.image_check.proofs.Contents.{exact_tree}
use Rattle.image_source.specs.Sections.{only_rows, GivesItsTree}

pub gives_its_tree : GivesItsTree
gives_its_tree t fine = ap only_rows (exact_tree.finds t (0, tree.write t) (0 + length (tree.write t), []) (record { fine = fine; bytes = sym (append-nil (tree.write t)); end = refl }))

use Rattle.std.proofs.Common.{map, length, vec_items}
use Rattle.reactive.specs.Rows.{left}
use Rattle.image_encode.proofs.Rows.{Writing}
use Rattle.image_encode.proofs.tree.write_rows.Given as goal

abbrev pub invariant-loop-row : goal.invariant-loop-row
invariant-loop-row g l = Writing (g.S.TreeSource.reading l.initial.source) (g.S.TreeSource.reading l.source) (vec_items l.open.top) (map vec_items (vec_items l.open.around))

abbrev pub decreases-loop-row : goal.decreases-loop-row
decreases-loop-row g l = length (left (g.S.TreeSource.reading l.source))

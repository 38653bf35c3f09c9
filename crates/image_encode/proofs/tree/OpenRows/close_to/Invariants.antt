use Rattle.std.proofs.Common.{◌≡◌, min, map, vec_items, vec_len}
use Rattle.image_encode.specs.Opens.{ClosedTo}
use Rattle.image_encode.proofs.tree.OpenRows.close_to.Given as goal

abbrev pub invariant-loop-self : goal.invariant-loop-self
invariant-loop-self l = ClosedTo (vec_items l.initial.self.top) (map vec_items (vec_items l.initial.self.around)) (vec_items l.self.top) (map vec_items (vec_items l.self.around)) × (min (vec_len l.self.around) l.depth ≡ min (vec_len l.initial.self.around) l.depth)

abbrev pub decreases-loop-self : goal.decreases-loop-self
decreases-loop-self l = vec_len l.self.around

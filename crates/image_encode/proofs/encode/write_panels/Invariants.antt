use Rattle.std.proofs.Common.{map, vec_items}
use Rattle.image_encode.specs.Panels.{lent}
use Rattle.image_encode.proofs.Panels.{Lending}
use Rattle.image_encode.proofs.encode.write_panels.Given as goal

abbrev pub invariant-loop-i : goal.invariant-loop-i
invariant-loop-i g l = Lending l.pool (map (lent g.S.TreeSource.reading) l.initial.panels) (map (lent g.S.TreeSource.reading) l.panels) l.i (vec_items l.initial.out) (vec_items l.out)

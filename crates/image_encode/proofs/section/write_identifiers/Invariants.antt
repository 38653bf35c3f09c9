use Rattle.std.proofs.Common.{[], ◌∷◌, map, take, vec_items}
use Rattle.image.specs.Format.{identifier}
use Rattle.image_tables.specs.Tables.{identifier_row}
use Rattle.image_encode.specs.Puts.{PutAll}
use Rattle.image_encode.proofs.section.write_identifiers.Given as goal

abbrev pub invariant-loop-row : goal.invariant-loop-row
invariant-loop-row l = PutAll identifier (map identifier_row (take l.row-index l.identifiers)) (73 ∷ []) (vec_items l.content)

use Rattle.std.proofs.Common.{◌≡◌, ◌++◌, map, vec_items}
use Rattle.image_check.specs.Steps.{identifiers_of}
use Rattle.image_tables.specs.Tables.{identifier_row}
use Rattle.image_tables.proofs.lists.add_identifiers.Given as goal

abbrev pub invariant-loop-a : goal.invariant-loop-a
invariant-loop-a l = map identifier_row (vec_items l.identifiers) ≡ map identifier_row (vec_items l.initial.identifiers) ++ identifiers_of l.a-index l.content

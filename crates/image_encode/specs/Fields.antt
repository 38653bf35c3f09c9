-- The fields that stand for a row. Assumes nothing.
use Rattle.std.specs.Prelude.{ℕ, ◌^◌, ◌≤◌, Bool, true, not, ◌&&◌, ◌⊎◌, map, length, Some, None, Option, ◌==◌}
use Rattle.hir.specs.declared.ids.IdentifierId.{IdentifierId}
use Rattle.reactive.specs.declared.row.Number.{Number}
use Rattle.reactive.specs.declared.row.Number.TheVariants as numbers
use Rattle.reactive.specs.Codes.{has_scope}
use Rattle.reactive.specs.Rows.{Row}
use Rattle.image.specs.Format.{Fields}
use Rattle.image_source.specs.Trees.{absent}

-- the number of an identifier
abbrev pub plain : IdentifierId → ℕ
plain i = i.0

-- the number that an image has for the identifier of a row: all ones, where it is absent
abbrev pub identifier_word : Option IdentifierId → ℕ
identifier_word None = absent
identifier_word (Some i) = i.0

-- the number that an image has for the scope or the function of a row: all ones, where both are absent
abbrev pub number_word : Option Number → ℕ
number_word None = absent
number_word (Some (numbers.Scope s)) = s.0
number_word (Some (numbers.Function f)) = f.0

-- the fields of a row
abbrev pub fields_of : Row → Fields
fields_of r = (r.code, (identifier_word r.identifier, (number_word r.number, (r.kind, (r.mode, (map plain r.operands, map plain r.marks))))))

-- the identifier is absent, or its number is not the one that stands for an absent one
abbrev pub identifier_fits : Option IdentifierId → Bool
identifier_fits None = true
identifier_fits (Some i) = not (i.0 == absent)

-- the number is absent, or of the sort that a row of this code has in an image, and not the one that stands for an absent one
abbrev pub number_fits : ℕ → Option Number → Bool
number_fits code None = true
number_fits code (Some (numbers.Scope s)) = has_scope code && not (s.0 == absent)
number_fits code (Some (numbers.Function f)) = not (has_scope code) && not (f.0 == absent)

-- the identifier and the number can be told by four bytes each
abbrev pub fits_in : ℕ → Option IdentifierId → Option Number → Bool
fits_in code i n = identifier_fits i && number_fits code n

-- a list of the row has more numbers than four bytes can count
abbrev pub LongList : Row → Type 0
LongList r = (2 ^ 32 ≤ length r.operands) ⊎ (2 ^ 32 ≤ length r.marks)

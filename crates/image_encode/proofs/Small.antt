-- The definitions on one small image. Assumes nothing.
use Rattle.std.proofs.Common.{◌≡◌, List, [], ◌∷◌, Some, None, refl}
use Rattle.hir.specs.Spans.{ident}
use Rattle.reactive.specs.declared.row.Number.TheVariants as numbers
use Rattle.reactive.specs.Rows.{Row}
use Rattle.image.specs.Format.{Fields, Content, of_identifiers, of_scope, of_function, of_tree, image_bytes}
use Rattle.image_source.specs.Trees.{absent}
use Rattle.image_encode.specs.Values.{values_of}

abbrev outer : Fields
outer = (1, (1, (2, (3, (4, (3 ∷ [], []))))))

abbrev inner : Fields
inner = (0, (absent, (absent, (0, (0, ([], 6 ∷ []))))))

-- one identifier, one scope, one function, and a panel of two rows
abbrev contents : List Content
contents = of_identifiers ((7, 0) ∷ []) ∷ (of_scope (1 ∷ [], ([], 2 ∷ [])) ∷ (of_function ([], 4 ∷ []) ∷ (of_tree (5 ∷ [], (outer, (inner, []) ∷ [])) ∷ [])))

abbrev outer_row : Row
outer_row = record { depth = 0; code = 1; identifier = Some (ident 1); number = Some (numbers.Function (record { 0 = 2 })); kind = 3; mode = 4; operands = ident 3 ∷ []; marks = [] }

abbrev inner_row : Row
inner_row = record { depth = 1; code = 0; identifier = None; number = None; kind = 0; mode = 0; operands = []; marks = ident 6 ∷ [] }

says : values_of contents ≡ record {
  identifiers = (7, 0) ∷ [];
  scopes = (1 ∷ [], ([], 2 ∷ [])) ∷ [];
  functions = ([], 4 ∷ []) ∷ [];
  panels = (5 ∷ [], outer_row ∷ (inner_row ∷ [])) ∷ [];
}
says = refl

are : image_bytes contents ≡ 1 ∷ 0 ∷ 0 ∷ 0 ∷ 6 ∷ 73 ∷ 0 ∷ 0 ∷ 0 ∷ 7 ∷ 0 ∷ 0 ∷ 0 ∷ 0 ∷ 21 ∷ 83 ∷ 0 ∷ 0 ∷ 0 ∷ 1 ∷ 0 ∷ 0 ∷ 0 ∷ 1 ∷ 0 ∷ 0 ∷ 0 ∷ 0 ∷ 0 ∷ 0 ∷ 0 ∷ 1 ∷ 0 ∷ 0 ∷ 0 ∷ 2 ∷ 0 ∷ 0 ∷ 0 ∷ 13 ∷ 70 ∷ 0 ∷ 0 ∷ 0 ∷ 0 ∷ 0 ∷ 0 ∷ 0 ∷ 1 ∷ 0 ∷ 0 ∷ 0 ∷ 4 ∷ 0 ∷ 0 ∷ 0 ∷ 63 ∷ 84 ∷ 0 ∷ 0 ∷ 0 ∷ 1 ∷ 0 ∷ 0 ∷ 0 ∷ 5 ∷ 0 ∷ 0 ∷ 0 ∷ 50 ∷ 1 ∷ 0 ∷ 0 ∷ 0 ∷ 1 ∷ 0 ∷ 0 ∷ 0 ∷ 2 ∷ 3 ∷ 4 ∷ 0 ∷ 0 ∷ 0 ∷ 1 ∷ 0 ∷ 0 ∷ 0 ∷ 3 ∷ 0 ∷ 0 ∷ 0 ∷ 0 ∷ 0 ∷ 0 ∷ 0 ∷ 23 ∷ 0 ∷ 255 ∷ 255 ∷ 255 ∷ 255 ∷ 255 ∷ 255 ∷ 255 ∷ 255 ∷ 0 ∷ 0 ∷ 0 ∷ 0 ∷ 0 ∷ 0 ∷ 0 ∷ 0 ∷ 0 ∷ 1 ∷ 0 ∷ 0 ∷ 0 ∷ 6 ∷ []
are = refl

-- Where a source over bytes stands. Assumes nothing.
use Rattle.std.specs.Prelude.{◌≡◌, ℕ, suc, ◌+◌, List, [], ◌∷◌, ◌++◌, map, reverse, length, drop, Some, None, Ok, Option}
use Rattle.std.specs.Borrow.{Bor}
use Rattle.hir.specs.declared.ids.IdentifierId.{IdentifierId}
use Rattle.hir.specs.Spans.{ident}
use Rattle.reactive.specs.Rows.{Row, before}
use Rattle.image.specs.Bytes.{Place, Inside, see}
use Rattle.image.specs.Format.{Fields, Tree}
use Rattle.image.specs.Steps.{see_numbers, passed, many_at, row_at}
use Rattle.image_source.specs.declared.standing.Standing.{Standing}
use Rattle.image_source.specs.Trees.{all_rows, tree_rows}
use Rattle.image_source.specs.Sections.{held_rows}

-- what follows each open row, innermost first: a source has the innermost last
abbrev pub innermost_first : List (Bor (List ℕ)) → List (List ℕ)
innermost_first behind = reverse (map (λ x. x.now) behind)

-- where a holder ends
abbrev pub end : Place → ℕ
end p = p.0 + length p.1

-- the rows behind open rows, by what follows each, innermost first: the first ends at byte e, where n more may be open
abbrev pub Below : List (List ℕ) → ℕ → ℕ → List Row → Type 0
Below [] n e rows = rows ≡ []
Below (bs ∷ around) n e rows = (ts : List (Tree (suc n))) × (rest : List Row) × Inside (e, bs) × (many_at (row_at (suc n)) (e, bs) ≡ Ok ts) × Below around (suc n) (end (e, bs)) rest × (rows ≡ all_rows (tree_rows (suc n) (length around)) ts ++ rest)

-- a list of the row last given, empty without one
abbrev pub list_of : (Row → List IdentifierId) → Option Row → List IdentifierId
list_of f None = []
list_of f (Some r) = f r

-- what is left of the innermost open row, how many rows were given, and the lists of the last
pub record Stand : Type 0 where
  pub left : Place
  pub given : ℕ
  pub operands : List ℕ
  pub marks : List ℕ

-- what a standing stands for
abbrev pub see_standing : Standing → Stand
see_standing s = record { left = see s.left; given = s.given; operands = see_numbers s.operands; marks = see_numbers s.marks }

-- before the first of the rows at a place
abbrev pub starting : Place → Stand
starting p = record { left = p; given = 0; operands = []; marks = [] }

-- at the same byte, with these bytes left there
abbrev pub closed_to : Stand → List ℕ → Stand
closed_to s rest = record { left = (s.left.0, rest); given = s.given; operands = s.operands; marks = s.marks }

-- the row with this head is given, and is open
abbrev pub opened_to : Stand → Fields × Place × Place → Stand
opened_to s h = record { left = h.1; given = s.given + 1; operands = h.0.1.1.1.1.1.0; marks = h.0.1.1.1.1.1.1 }

-- of the rows at a place, those to come fill what is left of the innermost open row and lie behind the open ones
pub record Stands (rows : Place) (s : Stand) (tails : List (List ℕ)) : Type 0 where
  pub holder : Inside rows
  pub fills : passed (many_at (row_at 128) rows) ≡ Ok tt
  pub inside : Inside s.left
  pub room : ℕ
  pub most : length tails + room ≡ 128
  pub trees : List (Tree room)
  pub reads : many_at (row_at room) s.left ≡ Ok trees
  pub rest : List Row
  pub below : Below tails room (end s.left) rest
  pub coming : drop s.given (held_rows rows) ≡ all_rows (tree_rows room (length tails)) trees ++ rest
  pub operands : list_of (λ r. r.operands) (before (held_rows rows) s.given) ≡ map ident s.operands
  pub marks : list_of (λ r. r.marks) (before (held_rows rows) s.given) ≡ map ident s.marks

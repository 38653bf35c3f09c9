-- The rows of a tree that an image holds, in walk order. Assumes nothing.
use Rattle.std.specs.Prelude.{ℕ, zero, suc, cond, List, [], ◌∷◌, ◌++◌, map, Some, None, Option, ◌==◌}
use Rattle.hir.specs.declared.ids.IdentifierId.{IdentifierId}
use Rattle.hir.specs.Spans.{ident, function}
use Rattle.reactive.specs.declared.row.Number.{Number}
use Rattle.reactive.specs.declared.row.Number.TheVariants as numbers
use Rattle.reactive.specs.Codes.{has_scope}
use Rattle.reactive.specs.Rows.{Row}
use Rattle.image.specs.Format.{Fields, Tree}

-- the number that stands for an absent one
abbrev pub absent : ℕ
absent = 4294967295

-- the identifier that a number of an image stands for; none for all ones
abbrev pub identifier_of : ℕ → Option IdentifierId
identifier_of n = cond (n == absent) None (Some (ident n))

-- the number of a Scope or Pruned row is a scope, that of any other a function
abbrev pub number_kind : ℕ → ℕ → Number
number_kind code n = cond (has_scope code) (numbers.Scope (record { 0 = n })) (numbers.Function (function n))

-- the scope or the function that a number of an image stands for in a row of this code; none for all ones
abbrev pub number_of : ℕ → ℕ → Option Number
number_of code n = cond (n == absent) None (Some (number_kind code n))

-- a row at this depth, by its fields
abbrev pub row_of : ℕ → Fields → Row
row_of depth f = record {
  depth = depth;
  code = f.0;
  identifier = identifier_of f.1.0;
  number = number_of f.0 f.1.1.0;
  kind = f.1.1.1.0;
  mode = f.1.1.1.1.0;
  operands = map ident f.1.1.1.1.1.0;
  marks = map ident f.1.1.1.1.1.1;
}

-- the rows of trees beside one another
abbrev pub all_rows : {A : Type 0} → (A → List Row) → List A → List Row
all_rows f [] = []
all_rows f (x ∷ xs) = f x ++ all_rows f xs

-- a row, and the rows within it, in walk order
abbrev pub tree_rows : (n : ℕ) → ℕ → Tree n → List Row
tree_rows zero depth t = []
tree_rows (suc n) depth t = row_of depth t.0 ∷ all_rows (tree_rows n (suc depth)) t.1

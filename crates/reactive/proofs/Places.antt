-- Elements of lists by place, and the rows of a table. Assumes nothing.
use Rattle.std.proofs.Common.{◌≡◌, ℕ, zero, suc, ◌+◌, ◌-◌, ◌<◌, ◌≤◌, List, [], ◌∷◌, map, take, drop, None, Option, sym, refl, ap, ◌∙◌, arith, length-take}
use Rattle.std.specs.Option.{option_map}
use Rattle.std.specs.List.{slice_get}
use Rattle.std.proofs.lemmas.Option.{slice_get-map, slice_get_past}
use Rattle.hir.specs.declared.ids.IdentifierId.{IdentifierId}
use Rattle.hir.specs.declared.span.Span.{Span}
use Rattle.hir.specs.Spans.{ident, part, identifiers_in}
use Rattle.reactive.specs.declared.table.RowEntry.{RowEntry}
use Rattle.reactive.specs.Rows.{Row, before, pick}
use Rattle.reactive.specs.Tables.{table_row}

before_map : {A B : Type 0} (f : A → B) (xs : List A) (p : ℕ) → before (map f xs) p ≡ option_map f (before xs p)
before_map f xs zero = refl
before_map f xs (suc p) = slice_get-map f xs p

-- the list of the row last given, where that is one of a table
pub table_list : (f : Row → List IdentifierId) (es : List RowEntry) (pool : List ℕ) (p i : ℕ) (o : Option RowEntry) → o ≡ before es p → pick f (option_map (table_row pool) o) i ≡ pick f (before (map (table_row pool) es) p) i
table_list f es pool p i o e = ap (λ x. pick f (option_map (table_row pool) x) i) e ∙ ap (λ x. pick f x i) (sym (before_map (table_row pool) es p))

slice_get_take : (n : ℕ) (xs : List ℕ) (i : ℕ) → i < n → slice_get (take n xs) i ≡ slice_get xs i
slice_get_take zero xs i h = absurd (omega arith)
slice_get_take (suc n) [] i h = refl
slice_get_take (suc n) (x ∷ xs) zero h = refl
slice_get_take (suc n) (x ∷ xs) (suc i) h = slice_get_take n xs i (omega arith)

slice_get_drop : (n : ℕ) (xs : List ℕ) (i k : ℕ) → i ≡ k - n → n ≤ k → slice_get (drop n xs) i ≡ slice_get xs k
slice_get_drop zero xs i k e h = ap (slice_get xs) (let z : i ≡ k = omega arith in z)
slice_get_drop (suc n) [] i k e h = refl
slice_get_drop (suc n) (x ∷ xs) i zero e h = absurd (omega arith)
slice_get_drop (suc n) (x ∷ xs) i (suc k) e h = slice_get_drop n xs i k (omega arith) (omega arith)

-- an element of a list of the pool, by its place in the pool
pub in_list : (pool : List ℕ) (s : Span) (i : ℕ) → i < s.count → slice_get (identifiers_in pool s) i ≡ option_map ident (slice_get pool (s.start + i))
in_list pool s i h = slice_get-map ident (part pool s) i ∙ ap (option_map ident) (slice_get_take s.count (drop s.start pool) i h ∙ slice_get_drop s.start pool i (s.start + i) (omega arith) (omega arith))

pub beyond_list : (pool : List ℕ) (s : Span) (i : ℕ) → s.count ≤ i → slice_get (identifiers_in pool s) i ≡ None
beyond_list pool s i h = slice_get-map ident (part pool s) i ∙ ap (option_map ident) (slice_get_past (part pool s) i (let k = length-take s.count (drop s.start pool) in omega (arith, k)))

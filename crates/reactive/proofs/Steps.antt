-- What one call of `next` does to what is left. Assumes nothing.
use Rattle.std.proofs.Common.{◌≡◌, ℕ, zero, suc, ◌<◌, ◌≤◌, List, [], ◌∷◌, length, drop, Some, None, Option, sym, refl, ap, ◌∙◌, add-one, arith}
use Rattle.std.specs.Option.{option_map}
use Rattle.std.specs.List.{slice_get}
use Rattle.std.proofs.lemmas.List.{drop_all}
use Rattle.std.proofs.lemmas.Option.{slice_get_within}
use Rattle.std.proofs.lemmas.Bool.{cond-true, cond-false, lt-ltb, le-ltb}
use Rattle.reactive.specs.declared.row.RowHead.{RowHead}
use Rattle.reactive.specs.Rows.{Row, Reading, at_place, head, upcoming, advanced, given, left}

-- a row is given
pub record Gives (s : Reading) (row : RowHead) : Type 0 where
  pub item : Row
  pub is : head item ≡ row
  pub rest : left s ≡ item ∷ left (advanced s)
  pub last : given (advanced s) ≡ Some item
  pub more : s.place < length s.rows

pub none_place : {A : Type 0} (xs : List A) (i : ℕ) → slice_get xs i ≡ None → length xs ≤ i
none_place [] i e = omega arith
none_place (y ∷ ys) zero e = absurd (let z : ◌≡◌ {A = ℕ} 0 1 = cc in omega arith)
none_place (y ∷ ys) (suc i) e = let h = none_place ys i e in omega arith

pub drop_at_some : {A : Type 0} (xs : List A) (i : ℕ) (x : A) → slice_get xs i ≡ Some x → drop i xs ≡ x ∷ drop (suc i) xs
drop_at_some [] i x e = absurd (let z : ◌≡◌ {A = ℕ} 0 1 = cc in omega arith)
drop_at_some (y ∷ ys) zero x e = let f : y ≡ x = cc in ap (λ z. z ∷ ys) f
drop_at_some (y ∷ ys) (suc i) x e = drop_at_some ys i x e

unmapped : (o : Option Row) (row : RowHead) → option_map head o ≡ Some row → (i : Row) × (o ≡ Some i) × (head i ≡ row)
unmapped None row e = absurd (let z : ◌≡◌ {A = ℕ} 0 1 = cc in omega arith)
unmapped (Some i) row e = (i, refl, cc)

unmapped_none : (o : Option Row) → option_map head o ≡ None → o ≡ None
unmapped_none None e = refl
unmapped_none (Some i) e = absurd (let z : ◌≡◌ {A = ℕ} 0 1 = cc in omega arith)

pub gives : (s : Reading) (row : RowHead) → Some row ≡ upcoming s → Gives s row
gives s row e =
    let u = unmapped (slice_get s.rows s.place) row (sym e) in
    let h = slice_get_within s.rows s.place u.0 u.1 in
    let on : advanced s ≡ at_place s.rows (suc s.place) = ap (at_place s.rows) (cond-true _ _ _ (lt-ltb _ _ h) ∙ add-one s.place) in
    record {
      item = u.0;
      is = u.2;
      rest = drop_at_some s.rows s.place u.0 u.1 ∙ ap (λ t. u.0 ∷ left t) (sym on);
      last = ap given on ∙ u.1;
      more = h;
    }

-- no row is given
pub ended : (s : Reading) → None ≡ upcoming s → (left s ≡ []) × (advanced s ≡ s)
ended s e =
    let h = none_place s.rows s.place (unmapped_none _ (sym e)) in
    (drop_all _ _ h, ap (at_place s.rows) (cond-false _ _ _ (le-ltb _ _ h)))

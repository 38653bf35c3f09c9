-- Bytes taken four or five at a time. Assumes nothing.
use Rattle.std.proofs.Common.{◌≡◌, ℕ, zero, suc, ◌+◌, ◌*◌, ◌^◌, ◌<◌, Bool, true, false, cond, ltb, List, [], ◌∷◌, ◌++◌, length, get_or, take, drop, Ok, Err, Result, sym, refl, ap, subst, arith, length-drop, length-take-le, get_or-take}
use Rattle.std.proofs.lemmas.Bool.{ltb-false}
use Rattle.image.specs.declared.fault.ByteFault.{ByteFault}
use Rattle.std.specs.Simd.{first_chunks}
use Rattle.image.specs.Bytes.{Place, past, u32_of, words}
use Rattle.image.specs.Steps.{missing, numbers_at}
use Rattle.image.proofs.Words.{length_words}
use Rattle.image_check.specs.Steps.{identifiers_of}

-- one identifier row more
pub rows_more : (n i : ℕ) (bs : List ℕ) → i < n → identifiers_of (suc i) bs ≡ identifiers_of i bs ++ ((u32_of (get_or (first_chunks 5 n bs) i []), get_or (get_or (first_chunks 5 n bs) i []) 4 0) ∷ [])
rows_more zero i bs lt = absurd (omega arith)
rows_more (suc n) zero bs lt = λ j. (sym (front 0 (omega arith)) j * 2 ^ 24 + sym (front 1 (omega arith)) j * 2 ^ 16 + sym (front 2 (omega arith)) j * 2 ^ 8 + sym (front 3 (omega arith)) j, sym (front 4 (omega arith)) j) ∷ []
  where
    front : (k : ℕ) → k < 5 → get_or (take 5 bs) k 0 ≡ get_or bs k 0
    front k lt = get_or-take 5 bs k 0 lt
rows_more (suc n) (suc i) bs lt = ap (λ t. (u32_of bs, get_or bs 4 0) ∷ t) (rows_more n i (drop 5 bs) (omega arith))

-- how many bytes a list takes
pub record Taken (p : Place) (x : List ℕ) (q : Place) : Type 0 where
  pub size : 4 + 4 * length x + length q.1 ≡ length p.1
  pub place : q.0 + length q.1 ≡ p.0 + length p.1

taken_by : (p : Place) (b : Bool) (x : List ℕ) (q : Place) → ltb (length p.1) (4 + 4 * u32_of p.1) ≡ b → cond {A = Result (List ℕ × Place) ByteFault} b (Err (missing p.0)) (Ok (words (take (4 * u32_of p.1) (drop 4 p.1)), past (4 + 4 * u32_of p.1) p)) ≡ Ok (x, q) → Taken p x q
taken_by p true x q t e = absurd (cc)
taken_by p false x q t e =
    let v : ◌≡◌ {A = List ℕ × Place} (words (take (4 * u32_of p.1) (drop 4 p.1)), past (4 + 4 * u32_of p.1) p) (x, q) = cc in
    let long = ltb-false _ _ t in
    let size : length (take (4 * u32_of p.1) (drop 4 p.1)) ≡ 4 * u32_of p.1 = length-take-le (4 * u32_of p.1) (drop 4 p.1) (omega (arith, length-drop 4 p.1)) in
    let some = length_words (take (4 * u32_of p.1) (drop 4 p.1)) in
    let rest = length-drop (4 + 4 * u32_of p.1) p.1 in
    subst (λ (w : List ℕ × Place). Taken p w.0 w.1) v (record { size = omega arith; place = omega arith })

pub taken : (p : Place) (x : List ℕ) (q : Place) → numbers_at p ≡ Ok (x, q) → Taken p x q
taken p x q e = taken_by p (ltb (length p.1) (4 + 4 * u32_of p.1)) x q refl e

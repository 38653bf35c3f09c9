-- What one turn over rows keeps. Assumes nothing.
use Rattle.std.proofs.Common.{◌≡◌, ℕ, zero, suc, ◌-◌, ◌<◌, ◌≤◌, List, [], ◌∷◌, length, Ok, Err, Result, refl, ap, ◌∙◌, arith}
use Rattle.std.proofs.lemmas.Bool.{eq-eqb, ne_eqb, cond-false, cond-true}
use Rattle.image.specs.declared.fault.SectionFault.{SectionFault}
use Rattle.image.specs.declared.fault.RowFault.{RowFault}
use Rattle.image.specs.declared.fault.RowFault.TheVariants.{Deep, Section}
use Rattle.image.specs.Bytes.{Place}
use Rattle.image.specs.Format.{Fields, Tree}
use Rattle.image.specs.Steps.{and_then, in_row, ended, passed, head_at, many_by, many_at, row_at}

-- a reading that ends somewhere got something
pub ended_ok : {X E : Type 0} (r : Result (X × Place) E) (q : Place) → ended r ≡ Ok q → (x : X) × (r ≡ Ok (x, q))
ended_ok (Ok v) q e = (v.0, ap (λ (t : Place). Ok (v.0, t)) (cc))
ended_ok (Err f) q e = absurd (cc)

pub passed_ok : {X E : Type 0} (r : Result X E) → passed r ≡ Ok tt → (x : X) × (r ≡ Ok x)
passed_ok (Ok x) e = (x, refl)
passed_ok (Err f) e = absurd (cc)

-- what is made of a value does not alter whether it passes
pub passed_made : {X Y E : Type 0} (r : Result X E) (f : X → Y) → passed (and_then r (λ x. Ok (f x))) ≡ passed r
passed_made (Ok x) f = refl
passed_made (Err e) f = refl

-- nor does it alter where a reading ends
pub ended_made : {X Y E : Type 0} (r : Result (X × Place) E) (f : X → Y) → ended (and_then r (λ v. Ok (f v.0, v.1))) ≡ ended r
ended_made (Ok v) f = refl
ended_made (Err e) f = refl

-- of the rows at p, those at q are left to check: at most `most` of them
pub record Sofar {X : Type 0} (read : Place → Result (X × Place) RowFault) (p q : Place) : Type 0 where
  pub most : ℕ
  pub enough : length q.1 ≤ most
  pub same : passed (many_at read p) ≡ passed (many_by read most q)

module _ {X : Type 0} (read : Place → Result (X × Place) RowFault) where
  -- what comes of the first reading
  abbrev first : ℕ → Result (X × Place) RowFault → Result (List X) RowFault
  first n r = and_then r (λ v. and_then (many_by read n v.1) (λ xs. Ok (v.0 ∷ xs)))

  pub more : (q : Place) (n : ℕ) → (length q.1 ≡ 0 → ⊥) → many_by read (suc n) q ≡ first n (read q)
  more q n some = cond-false _ _ _ (ne_eqb (length q.1) 0 some)

  pub done : (q : Place) (n : ℕ) → length q.1 ≡ 0 → many_by read n q ≡ Ok []
  done q zero none = refl
  done q (suc n) none = cond-true _ _ _ (eq-eqb (length q.1) 0 none)

  step : (p q : Place) (m : ℕ) → length q.1 ≤ m → passed (many_at read p) ≡ passed (many_by read m q) → (length q.1 ≡ 0 → ⊥) → (n : ℕ) × (m ≡ suc n) × (passed (many_at read p) ≡ passed (first n (read q)))
  step p q zero le same some = absurd (some (omega arith))
  step p q (suc n) le same some = (n, refl, same ∙ ap passed (more q n some))

  pub turn : (p q r : Place) → Sofar read p q → (length q.1 ≡ 0 → ⊥) → ended (read q) ≡ Ok r → length r.1 < length q.1 → Sofar read p r
  turn p q r s some is less =
      let t = step p q s.most s.enough s.same some in
      let got = ended_ok (read q) r is in
      record {
        most = t.0;
        enough = omega (arith, t.1, s.enough);
        same = t.2 ∙ ap (λ x. passed (first t.0 x)) got.1 ∙ passed_made (many_by read t.0 r) (λ xs. got.0 ∷ xs);
      }

pub row_deep : (left : ℕ) (p : Place) → left ≡ 0 → ended (row_at left p) ≡ Err (Deep p.0)
row_deep zero p e = refl
row_deep (suc n) p e = absurd (omega arith)

-- what comes of a row's head
abbrev on_head : (n : ℕ) → Result (Fields × Place × Place) SectionFault → Result (Tree (suc n) × Place) RowFault
on_head n r = and_then (in_row r) (λ h. and_then (many_at (row_at n) h.1) (λ kids. Ok ((h.0, kids), h.2)))

-- what comes of the rows within it
on_kids : (n : ℕ) (h : Fields × Place × Place) (r : Result (List (Tree n)) RowFault) → ended {X = Tree (suc n)} (and_then r (λ kids. Ok ((h.0, kids), h.2))) ≡ and_then (passed r) (λ _. Ok h.2)
on_kids n h (Ok kids) = refl
on_kids n h (Err e) = refl

row_open : (left : ℕ) (p : Place) → (left ≡ 0 → ⊥) → ended (row_at left p) ≡ ended (on_head (left - 1) (head_at p))
row_open zero p some = absurd (some refl)
row_open (suc n) p some =
    let back : n ≡ suc n - 1 = omega arith in
    ap (λ k. ended (on_head k (head_at p))) back

module _ (left : ℕ) (p : Place) (some : left ≡ 0 → ⊥) where
  pub head_fault : (e : SectionFault) → head_at p ≡ Err e → ended (row_at left p) ≡ Err (Section e)
  head_fault e is = row_open left p some ∙ ap (λ x. ended (on_head (left - 1) x)) is

  head_passes : (h : Fields × Place × Place) → head_at p ≡ Ok h → ended (row_at left p) ≡ and_then (passed (many_at (row_at (left - 1)) h.1)) (λ _. Ok h.2)
  head_passes h is = row_open left p some ∙ ap (λ x. ended (on_head (left - 1) x)) is ∙ on_kids (left - 1) h (many_at (row_at (left - 1)) h.1)

  pub child_fault : (h : Fields × Place × Place) (e : RowFault) → head_at p ≡ Ok h → passed (many_at (row_at (left - 1)) h.1) ≡ Err e → ended (row_at left p) ≡ Err e
  child_fault h e is rows = head_passes h is ∙ ap (λ x. and_then x (λ _. Ok h.2)) rows

  pub row_passes : (h : Fields × Place × Place) → head_at p ≡ Ok h → passed (many_at (row_at (left - 1)) h.1) ≡ Ok tt → ended (row_at left p) ≡ Ok h.2
  row_passes h is rows = head_passes h is ∙ ap (λ x. and_then x (λ _. Ok h.2)) rows

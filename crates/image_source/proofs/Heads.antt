-- A row, the rows within it and what follows it lie behind one another in their holder. Assumes nothing.
use Rattle.std.proofs.Common.{◌≡◌, ℕ, ◌+◌, ◌*◌, ◌≤◌, cond, ltb, length, drop, Ok, Err, Result, ◌∙◌, subst, arith, length-drop, length-take}
use Rattle.std.proofs.lemmas.Bool.{cond_both, ltb-false}
use Rattle.image.specs.declared.fault.ByteFault.{ByteFault}
use Rattle.image.specs.declared.fault.SectionFault.{SectionFault}
use Rattle.image.specs.Bytes.{Place, past, next, u32_of}
use Rattle.image.specs.Format.{Fields}
use Rattle.image.specs.Steps.{and_then, in_section, missing, both, u8_at, u32_at, numbers_at, fields_at, head_at}
use Rattle.image_source.specs.Standings.{end}

-- q lies in the holder of p, and not before it
record Later (p q : Place) : Type 0 where
  same : end q ≡ end p
  less : length q.1 ≤ length p.1

-- a reading ends in the holder, where it ends
abbrev Stays : {X : Type 0} → Place → Result (X × Place) ByteFault → Type 0
Stays p (Ok v) = Later p v.1
Stays p (Err e) = Unit {0}

later_past : (n : ℕ) (p : Place) → n ≤ length p.1 → Later p (past n p)
later_past n p h = record { same = omega (arith, length-drop n p.1); less = omega (arith, length-drop n p.1) }

taken : {X : Type 0} (n : ℕ) (p : Place) (x : X) → Stays {X = X} p (cond (ltb (length p.1) n) (Err (missing p.0)) (Ok (x, past n p)))
taken {X} n p x = cond_both (ltb (length p.1) n) (Err (missing p.0)) (Ok (x, past n p)) (Stays {X = X} p) (λ e. tt) (λ e. later_past n p (ltb-false _ _ e))

module _ {X Y : Type 0} (a : Place → Result (X × Place) ByteFault) (b : Place → Result (Y × Place) ByteFault) (a_stays : (p : Place) → Stays p (a p)) (b_stays : (p : Place) → Stays p (b p)) where
  second : (p : Place) (v : X × Place) (r : Result (Y × Place) ByteFault) → Later p v.1 → Stays v.1 r → Stays {X = X × Y} p (and_then r (λ w. Ok ((v.0, w.0), w.1)))
  second p v (Ok w) h k = record { same = k.same ∙ h.same; less = omega (arith, h.less, k.less) }
  second p v (Err e) h k = tt

  first : (p : Place) (r : Result (X × Place) ByteFault) → Stays p r → Stays {X = X × Y} p (and_then r (λ v. and_then (b v.1) (λ w. Ok ((v.0, w.0), w.1))))
  first p (Ok v) h = second p v (b v.1) h (b_stays v.1)
  first p (Err e) h = tt

  both_stay : (p : Place) → Stays p (both a b p)
  both_stay p = first p (a p) (a_stays p)

u8_stays : (p : Place) → Stays p (u8_at p)
u8_stays p = taken 1 p _

u32_stays : (p : Place) → Stays p (u32_at p)
u32_stays p = taken 4 p _

numbers_stay : (p : Place) → Stays p (numbers_at p)
numbers_stay p = taken (4 + 4 * u32_of p.1) p _

fields_stay : (p : Place) → Stays p (fields_at p)
fields_stay = both_stay _ _ u8_stays (both_stay _ _ u32_stays (both_stay _ _ u32_stays (both_stay _ _ u8_stays (both_stay _ _ u8_stays (both_stay _ _ numbers_stay numbers_stay)))))

-- the rows within a row end where what follows it begins, and that ends with the holder
pub record Parts (p : Place) (h : Fields × Place × Place) : Type 0 where
  pub size : length h.1.1 + length h.2.1 + 4 ≤ length p.1
  pub meets : end h.1 ≡ h.2.0
  pub same : end h.2 ≡ end p

abbrev Parted : Place → Result (Fields × Place × Place) SectionFault → Type 0
Parted p (Ok h) = Parts p h
Parted p (Err e) = Unit {0}

module _ (p : Place) where
  -- what comes of a part that was read, or of none
  abbrev on_part : Result (Place × Place) ByteFault → Result (Fields × Place × Place) SectionFault
  on_part r = and_then (in_section r) (λ v. and_then (in_section (fields_at v.0)) (λ w. Ok (w.0, w.1, v.1)))

  on_fields : (r : Result (Fields × Place) ByteFault) → 4 + u32_of p.1 ≤ length p.1 → Stays (next (u32_of p.1) (past 4 p)) r → Parted p (and_then (in_section r) (λ w. Ok (w.0, w.1, past (4 + u32_of p.1) p)))
  on_fields (Err e) long s = tt
  on_fields (Ok w) long s =
      let u = u32_of p.1 in
      let front = length-take u (drop 4 p.1) in
      let four = length-drop 4 p.1 in
      let back = length-drop (4 + u) p.1 in
      record { size = omega (arith, front, four, back, s.less); meets = omega (arith, front, four, s.same); same = omega (arith, back) }

  parted : Parted p (head_at p)
  parted = cond_both (ltb (length p.1) (4 + u32_of p.1)) _ _ (λ r. Parted p (on_part r)) (λ e. tt) (λ e. on_fields (fields_at (next (u32_of p.1) (past 4 p))) (ltb-false _ _ e) (fields_stay (next (u32_of p.1) (past 4 p))))

  pub parts : (h : Fields × Place × Place) → head_at p ≡ Ok h → Parts p h
  parts h e = subst (Parted p) e parted

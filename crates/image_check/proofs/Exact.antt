-- A reader is exact for a layout: it gets what bytes begin with, and meets their first fault. Assumes nothing.
use Rattle.std.proofs.Common.{◌≡◌, ℕ, zero, suc, ◌+◌, ◌<◌, ◌≤◌, Bool, true, false, cond, eqb, List, [], ◌∷◌, ◌++◌, length, Ok, Err, Result, sym, refl, ap, ◌∙◌, subst, append_assoc, append-nil, arith, length-append, eqb-true}
use Rattle.std.proofs.lemmas.Bool.{ne_eqb, cond-false}
use borrow.Author.Tests.{eqb-false}
use Rattle.hir.specs.Lists.{Each}
use Rattle.image.specs.declared.fault.ByteFault.{ByteFault}
use Rattle.image.specs.declared.fault.RowFault.{RowFault}
use Rattle.image.specs.Bytes.{Place, joined}
use Rattle.image.specs.Layouts.{Layout, Begins, Whole, Fills, AfterFault, ◌then◌, ◌then_all◌, only, OnlyFault, many, ManyFault, left}
use Rattle.image.specs.Layouts as layouts
use Rattle.image.specs.Steps.{and_then, in_section, in_row, both, many_by, many_at}
use Rattle.image.proofs.Turns.{more, done}

-- every number is a byte
abbrev pub AllBytes : List ℕ → Type 0
AllBytes bs = Each (λ b. b < 256) bs

-- what an answer says of the bytes
abbrev pub Tells : {X : Type 0} → Layout X → Place → Result (X × Place) RowFault → Type 0
Tells L p (Ok v) = Begins L v.0 p v.1
Tells L p (Err f) = L.Fault p f

pub record Exact {X : Type 0} (L : Layout X) (read : Place → Result (X × Place) RowFault) : Type 0 where
  pub sound : (p : Place) → AllBytes p.1 → Tells L p (read p)
  pub finds : (x : X) (p q : Place) → Begins L x p q → read p ≡ Ok (x, q)
  pub meets : (p : Place) (f : RowFault) → L.Fault p f → read p ≡ Err f

-- the same of what fills a holder
abbrev pub TellsAll : {X : Type 0} → Whole X → Place → Result X RowFault → Type 0
TellsAll W p (Ok x) = Fills W x p
TellsAll W p (Err f) = W.Fault p f

pub record ExactAll {X : Type 0} (W : Whole X) (read : Place → Result X RowFault) : Type 0 where
  pub sound : (p : Place) → AllBytes p.1 → TellsAll W p (read p)
  pub finds : (x : X) (p : Place) → Fills W x p → read p ≡ Ok x
  pub meets : (p : Place) (f : RowFault) → W.Fault p f → read p ≡ Err f

-- readers that answer alike are exact alike
pub exact_same : {X : Type 0} (L : Layout X) (a b : Place → Result (X × Place) RowFault) → ((p : Place) → a p ≡ b p) → Exact L b → Exact L a
exact_same L a b same e = record {
  sound = λ p h. subst (Tells L p) (sym (same p)) (e.sound p h);
  finds = λ x p q t. same p ∙ e.finds x p q t;
  meets = λ p f t. same p ∙ e.meets p f t;
}

pub bytes_parts : (xs ys : List ℕ) → AllBytes (xs ++ ys) → AllBytes xs × AllBytes ys
bytes_parts [] ys h = (tt, h)
bytes_parts (x ∷ xs) ys h = let t = bytes_parts xs ys h.1 in ((h.0, t.0), t.1)

pub bytes_rest : {X : Type 0} (L : Layout X) (x : X) (p q : Place) → Begins L x p q → AllBytes p.1 → AllBytes q.1
bytes_rest L x p q t h = (bytes_parts (L.write x) q.1 (subst AllBytes t.bytes h)).1

-- one behind the other
module _ {X Y : Type 0} (A : Layout X) (B : Layout Y) where
  pub begins_then : (x : X) (y : Y) (p q r : Place) → Begins A x p q → Begins B y q r → Begins (A then B) (x, y) p r
  begins_then x y p q r t u = record {
    fine = (t.fine, u.fine);
    bytes = t.bytes ∙ ap (λ s. A.write x ++ s) u.bytes ∙ sym (append_assoc (A.write x) (B.write y) r.1);
    end = omega (arith, t.end, u.end, length-append (A.write x) (B.write y));
  }

  -- where the first ends
  abbrev pub middle : X → Y → Place → Place → Place
  middle x y p q = (p.0 + length (A.write x), B.write y ++ q.1)

  pub first_part : (x : X) (y : Y) (p q : Place) → Begins (A then B) (x, y) p q → Begins A x p (middle x y p q)
  first_part x y p q t = record { fine = t.fine.0; bytes = t.bytes ∙ append_assoc (A.write x) (B.write y) q.1; end = refl }

  pub second_part : (x : X) (y : Y) (p q : Place) → Begins (A then B) (x, y) p q → Begins B y (middle x y p q) q
  second_part x y p q t = record { fine = t.fine.1; bytes = refl; end = omega (arith, t.end, length-append (A.write x) (B.write y)) }

module _ {X Y : Type 0} (A : Layout X) (B : Layout Y) (a : Place → Result (X × Place) RowFault) (b : Place → Result (Y × Place) RowFault) (ea : Exact A a) (eb : Exact B b) where
  abbrev then_pair : X × Place → Result (Y × Place) RowFault → Result ((X × Y) × Place) RowFault
  then_pair v r = and_then r (λ w. Ok ((v.0, w.0), w.1))

  abbrev then_second : Result (X × Place) RowFault → Result ((X × Y) × Place) RowFault
  then_second r = and_then r (λ v. then_pair v (b v.1))

  then_sound_2 : (p : Place) (v : X × Place) → Begins A v.0 p v.1 → (r : Result (Y × Place) RowFault) → Tells B v.1 r → Tells (A then B) p (then_pair v r)
  then_sound_2 p v t (Ok w) u = begins_then A B v.0 w.0 p v.1 w.1 t u
  then_sound_2 p v t (Err f) u = layouts.later v.0 t u

  then_sound : (p : Place) → AllBytes p.1 → (r : Result (X × Place) RowFault) → Tells A p r → Tells (A then B) p (then_second r)
  then_sound p h (Ok v) t = then_sound_2 p v t (b v.1) (eb.sound v.1 (bytes_rest A v.0 p v.1 t h))
  then_sound p h (Err f) t = layouts.here t

  then_meets : (p : Place) (f : RowFault) → AfterFault A B.Fault p f → both a b p ≡ Err f
  then_meets p f (layouts.here t) = ap then_second (ea.meets p f t)
  then_meets p f (layouts.later {q = q} x t u) = ap then_second (ea.finds x p q t) ∙ ap (then_pair (x, q)) (eb.meets q f u)

  pub exact_then : Exact (A then B) (both a b)
  exact_then = record {
    sound = λ p h. then_sound p h (a p) (ea.sound p h);
    finds = λ v p q t.
        let m = middle A B v.0 v.1 p q in
        ap then_second (ea.finds v.0 p m (first_part A B v.0 v.1 p q t))
        ∙ ap (then_pair (v.0, m)) (eb.finds v.1 m q (second_part A B v.0 v.1 p q t));
    meets = then_meets;
  }

-- a reading of layer 1, seen from layer 3
abbrev pub lifted : {X : Type 0} → (Place → Result X ByteFault) → Place → Result X RowFault
lifted r p = in_row (in_section (r p))

lift_pair : {X Y : Type 0} (v : X × Place) (r : Result (Y × Place) ByteFault) → in_row {X = (X × Y) × Place} (in_section (and_then r (λ w. Ok ((v.0, w.0), w.1)))) ≡ and_then (in_row (in_section r)) (λ w. Ok ((v.0, w.0), w.1))
lift_pair v (Ok w) = refl
lift_pair v (Err e) = refl

lift_second : {X Y : Type 0} (b : Place → Result (Y × Place) ByteFault) (r : Result (X × Place) ByteFault) → in_row {X = (X × Y) × Place} (in_section (and_then r (λ v. and_then (b v.1) (λ w. Ok ((v.0, w.0), w.1))))) ≡ and_then (in_row (in_section r)) (λ v. and_then (lifted b v.1) (λ w. Ok ((v.0, w.0), w.1)))
lift_second b (Ok v) = lift_pair v (b v.1)
lift_second b (Err e) = refl

pub exact_both : {X Y : Type 0} (A : Layout X) (B : Layout Y) (a : Place → Result (X × Place) ByteFault) (b : Place → Result (Y × Place) ByteFault) → Exact A (lifted a) → Exact B (lifted b) → Exact (A then B) (lifted (both a b))
exact_both A B a b ea eb = exact_same (A then B) (lifted (both a b)) (both (lifted a) (lifted b)) (λ p. lift_second b (a p)) (exact_then A B (lifted a) (lifted b) ea eb)

-- a value, and behind it one that fills the rest
module _ {X Y : Type 0} (A : Layout X) (W : Whole Y) (a : Place → Result (X × Place) RowFault) (w : Place → Result Y RowFault) (ea : Exact A a) (ew : ExactAll W w) where
  abbrev all_pair : X → Result Y RowFault → Result (X × Y) RowFault
  all_pair x r = and_then r (λ y. Ok (x, y))

  abbrev all_second : Result (X × Place) RowFault → Result (X × Y) RowFault
  all_second r = and_then r (λ v. all_pair v.0 (w v.1))

  -- the reading of both
  abbrev pub then_all_at : Place → Result (X × Y) RowFault
  then_all_at p = all_second (a p)

  all_sound_2 : (p : Place) (v : X × Place) → Begins A v.0 p v.1 → (r : Result Y RowFault) → TellsAll W v.1 r → TellsAll (A then_all W) p (all_pair v.0 r)
  all_sound_2 p v t (Ok y) u = record { fine = (t.fine, u.fine); bytes = t.bytes ∙ ap (λ s. A.write v.0 ++ s) u.bytes }
  all_sound_2 p v t (Err f) u = layouts.later v.0 t u

  all_sound : (p : Place) → AllBytes p.1 → (r : Result (X × Place) RowFault) → Tells A p r → TellsAll (A then_all W) p (all_second r)
  all_sound p h (Ok v) t = all_sound_2 p v t (w v.1) (ew.sound v.1 (bytes_rest A v.0 p v.1 t h))
  all_sound p h (Err f) t = layouts.here t

  all_meets : (p : Place) (f : RowFault) → AfterFault A W.Fault p f → then_all_at p ≡ Err f
  all_meets p f (layouts.here t) = ap all_second (ea.meets p f t)
  all_meets p f (layouts.later {q = q} x t u) = ap all_second (ea.finds x p q t) ∙ ap (all_pair x) (ew.meets q f u)

  all_finds : (v : X × Y) (p : Place) → Fills (A then_all W) v p → then_all_at p ≡ Ok v
  all_finds v p t =
      let m : Place = (p.0 + length (A.write v.0), W.write v.1) in
      let b : Begins A v.0 p m = record { fine = t.fine.0; bytes = t.bytes; end = refl } in
      let c : Fills W v.1 m = record { fine = t.fine.1; bytes = refl } in
      ap all_second (ea.finds v.0 p m b) ∙ ap (all_pair v.0) (ew.finds v.1 m c)

  pub exact_then_all : ExactAll (A then_all W) then_all_at
  exact_then_all = record { sound = λ p h. all_sound p h (a p) (ea.sound p h); finds = all_finds; meets = all_meets }

pub positive : (n : ℕ) → (n ≡ 0 → ⊥) → 0 < n
positive zero h = absurd (h refl)
positive (suc n) h = omega arith

pub none_left : (bs : List ℕ) → length bs ≡ 0 → bs ≡ []
none_left [] e = refl
none_left (b ∷ bs) e = absurd (omega arith)

-- values to the end of their holder, each of at least a byte
module _ {X : Type 0} (A : Layout X) (a : Place → Result (X × Place) RowFault) (ea : Exact A a) (some : (x : X) → A.Fine x → 0 < length (A.write x)) where
  abbrev many_cons : X → Result (List X) RowFault → Result (List X) RowFault
  many_cons x r = and_then r (λ xs. Ok (x ∷ xs))

  abbrev many_second : ℕ → Result (X × Place) RowFault → Result (List X) RowFault
  many_second n r = and_then r (λ v. many_cons v.0 (many_by a n v.1))

  shorter : (x : X) (p q : Place) → Begins A x p q → length q.1 < length p.1
  shorter x p q t = omega (arith, ap length t.bytes, length-append (A.write x) q.1, some x t.fine)

  many_sound_2 : (p : Place) (v : X × Place) → Begins A v.0 p v.1 → (r : Result (List X) RowFault) → TellsAll (many A) v.1 r → TellsAll (many A) p (many_cons v.0 r)
  many_sound_2 p v t (Ok xs) u = record { fine = (t.fine, u.fine); bytes = t.bytes ∙ ap (λ s. A.write v.0 ++ s) u.bytes }
  many_sound_2 p v t (Err f) u = layouts.later v.0 t u

  -- what holds of fewer bytes
  abbrev Before : ℕ → Type 0
  Before n = (q : Place) → AllBytes q.1 → length q.1 ≤ n → TellsAll (many A) q (many_by a n q)

  many_step : (n : ℕ) (p : Place) → AllBytes p.1 → length p.1 ≤ suc n → Before n → 0 < length p.1 → (r : Result (X × Place) RowFault) → Tells A p r → TellsAll (many A) p (many_second n r)
  many_step n p h le rest go (Ok v) t = many_sound_2 p v t (many_by a n v.1) (rest v.1 (bytes_rest A v.0 p v.1 t h) (omega (arith, shorter v.0 p v.1 t)))
  many_step n p h le rest go (Err f) t = layouts.here go t

  many_test : (n : ℕ) (p : Place) → AllBytes p.1 → length p.1 ≤ suc n → Before n → (b : Bool) → eqb (length p.1) 0 ≡ b → TellsAll (many A) p (cond b (Ok []) (many_second n (a p)))
  many_test n p h le rest true e = record { fine = tt; bytes = none_left p.1 (eqb-true _ 0 e) }
  many_test n p h le rest false e = many_step n p h le rest (positive (length p.1) (eqb-false _ 0 e)) (a p) (ea.sound p h)

  many_sound : (n : ℕ) → Before n
  many_sound zero p h le = record { fine = tt; bytes = none_left p.1 (omega arith) }
  many_sound (suc n) p h le = many_test n p h le (many_sound n) (eqb (length p.1) 0) refl

  many_finds : (n : ℕ) (xs : List X) (p : Place) → length p.1 ≤ n → Fills (many A) xs p → many_by a n p ≡ Ok xs
  many_finds n [] p le t = done a p n (ap length t.bytes)
  many_finds zero (x ∷ xs) p le t = absurd (omega (arith, ap length t.bytes, length-append (A.write x) (joined A.write xs), some x t.fine.0))
  many_finds (suc n) (x ∷ xs) p le t =
      let q : Place = (p.0 + length (A.write x), joined A.write xs) in
      let b : Begins A x p q = record { fine = t.fine.0; bytes = t.bytes; end = refl } in
      let s = shorter x p q b in
      more a p n (λ e. omega arith)
      ∙ ap (many_second n) (ea.finds x p q b)
      ∙ ap (many_cons x) (many_finds n xs q (omega arith) (record { fine = t.fine.1; bytes = refl }))

  many_meets : (n : ℕ) (p : Place) (f : RowFault) → length p.1 ≤ n → ManyFault A p f → many_by a n p ≡ Err f
  many_meets zero p f le (layouts.here go t) = absurd (omega arith)
  many_meets zero p f le (layouts.later {q = q} x t u) = absurd (omega (arith, shorter x p q t))
  many_meets (suc n) p f le (layouts.here go t) = more a p n (λ e. omega arith) ∙ ap (many_second n) (ea.meets p f t)
  many_meets (suc n) p f le (layouts.later {q = q} x t u) =
      let s = shorter x p q t in
      more a p n (λ e. omega arith) ∙ ap (many_second n) (ea.finds x p q t) ∙ ap (many_cons x) (many_meets n q f (omega arith) u)

  pub exact_many : ExactAll (many A) (many_at a)
  exact_many = record {
    sound = λ p h. many_sound (length p.1) p h (omega arith);
    finds = λ xs p t. many_finds (length p.1) xs p (omega arith) t;
    meets = λ p f t. many_meets (length p.1) p f (omega arith) t;
  }

-- a value that should fill its holder
module _ {X : Type 0} (A : Layout X) (a : Place → Result (X × Place) RowFault) (ea : Exact A a) where
  -- the first byte left over is the fault
  abbrev pub end_at : X × Place → Result X RowFault
  end_at v = cond (eqb (length v.1.1) 0) (Ok v.0) (Err (left v.1.0))

  abbrev pub only_at : Place → Result X RowFault
  only_at p = and_then (a p) end_at

  only_test : (p : Place) (v : X × Place) → Begins A v.0 p v.1 → (b : Bool) → eqb (length v.1.1) 0 ≡ b → TellsAll (only A) p (cond b (Ok v.0) (Err (left v.1.0)))
  only_test p v t true e = record { fine = t.fine; bytes = t.bytes ∙ ap (λ s. A.write v.0 ++ s) (none_left v.1.1 (eqb-true _ 0 e)) ∙ append-nil (A.write v.0) }
  only_test p v t false e = layouts.over v.0 t (positive (length v.1.1) (eqb-false _ 0 e))

  only_sound : (p : Place) (r : Result (X × Place) RowFault) → Tells A p r → TellsAll (only A) p (and_then r end_at)
  only_sound p (Ok v) t = only_test p v t (eqb (length v.1.1) 0) refl
  only_sound p (Err f) t = layouts.within t

  only_meets : (p : Place) (f : RowFault) → OnlyFault A p f → only_at p ≡ Err f
  only_meets p f (layouts.within t) = ap (λ r. and_then r end_at) (ea.meets p f t)
  only_meets p f (layouts.over {q = q} x t go) = ap (λ r. and_then r end_at) (ea.finds x p q t) ∙ cond-false _ _ _ (ne_eqb (length q.1) 0 (λ e. omega arith))

  only_finds : (x : X) (p : Place) → Fills (only A) x p → only_at p ≡ Ok x
  only_finds x p t =
      let q : Place = (p.0 + length (A.write x), []) in
      let b : Begins A x p q = record { fine = t.fine; bytes = t.bytes ∙ sym (append-nil (A.write x)); end = refl } in
      ap (λ r. and_then r end_at) (ea.finds x p q b)

  pub exact_only : ExactAll (only A) only_at
  exact_only = record { sound = λ p h. only_sound p (a p) (ea.sound p h); finds = only_finds; meets = only_meets }

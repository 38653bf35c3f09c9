-- What holds of each row holds of the acts of its events. Assumes nothing.
use Rattle.std.proofs.Common.{◌≡◌, ℕ, Bool, true, false, cond, leb, List, [], ◌∷◌, ◌++◌, map, length, Some, None, Option, refl, subst, arith}
use Rattle.std.proofs.lemmas.Bool.{cond_both}
use Rattle.hir.specs.Lists.{Each}
use Rattle.reactive.specs.declared.row.RowHead.{RowHead}
use Rattle.reactive.specs.Codes.{listed}
use Rattle.reactive.specs.Rows.{Row, head}
use Rattle.walk.specs.Events.{Event, entering, leaving, closing, staying, innermost_of, events, acts_of}

pub each_append : {A : Type 0} (P : A → Type 0) (xs ys : List A) → Each P xs → Each P ys → Each P (xs ++ ys)
each_append P [] ys a b = b
each_append P (x ∷ xs) ys a b = (a.0, each_append P xs ys a.1 b)

pub each_cond : {A : Type 0} (P : A → Type 0) (b : Bool) (xs ys : List A) → Each P xs → Each P ys → Each P (cond b xs ys)
each_cond P true xs ys h k = h
each_cond P false xs ys h k = k

pub each_map : {A B : Type 0} (P : B → Type 0) (f : A → B) (Q : A → Type 0) → ((x : A) → Q x → P (f x)) → (xs : List A) → Each Q xs → Each P (map f xs)
each_map P f Q on [] h = tt
each_map P f Q on (x ∷ xs) h = (on x h.0, each_map P f Q on xs h.1)

pub each_front : {A : Type 0} (P : A → Type 0) (xs ys : List A) → Each P (xs ++ ys) → Each P xs
each_front P [] ys h = tt
each_front P (x ∷ xs) ys h = (h.0, each_front P xs ys h.1)

each_back : {A : Type 0} (P : A → Type 0) (xs ys : List A) → Each P (xs ++ ys) → Each P ys
each_back P [] ys h = h
each_back P (x ∷ xs) ys h = each_back P xs ys h.1

-- a list of at most one element
pub each_listed : {A : Type 0} (P : A → Type 0) (o : Option A) → ((x : A) → o ≡ Some x → P x) → Each P (listed o)
each_listed P None h = tt
each_listed P (Some x) h = (h x refl, tt)

pub each_imp : {A : Type 0} (P Q : A → Type 0) → ((x : A) → P x → Q x) → (xs : List A) → Each P xs → Each Q xs
each_imp P Q on [] h = tt
each_imp P Q on (x ∷ xs) h = (on x h.0, each_imp P Q on xs h.1)

-- what holds of a parent, where there is one
abbrev pub Within : {K : Type 0} → (K → Type 0) → Option K → Type 0
Within {K} Q o = (p : K) → o ≡ Some p → Q p

module _ {K A : Type 0} (keeps : RowHead → K) (P : Row → Type 0) (Q : K → Type 0) (down : (r : Row) → P r → Q (keeps (head r))) (acts : Event K → List A) (F : A → Type 0) (enters : (p : Option K) (r : Row) → Within Q p → P r → Each F (acts (entering p r))) (leaves : (h : K) → Q h → Each F (acts (leaving h))) where
  acts_append : (xs ys : List (Event K)) → Each F (acts_of acts xs) → Each F (acts_of acts ys) → Each F (acts_of acts (xs ++ ys))
  acts_append [] ys a b = b
  acts_append (x ∷ xs) ys a b =
      each_append F (acts x) _ (each_front F (acts x) (acts_of acts xs) a) (acts_append xs ys (each_back F (acts x) (acts_of acts xs) a) b)

  closing_acts : (d : ℕ) (around : List K) → Each Q around → Each F (acts_of acts (closing d around))
  closing_acts d [] h = tt
  closing_acts d (r ∷ around) h =
      cond_both (leb d (length around)) (leaving r ∷ closing d around) [] (λ es. Each F (acts_of acts es))
      (λ e. each_append F (acts (leaving r)) _ (leaves r h.0) (closing_acts d around h.1))
      (λ e. tt)

  staying_each : (d : ℕ) (around : List K) → Each Q around → Each Q (staying d around)
  staying_each d [] h = tt
  staying_each d (r ∷ around) h =
      cond_both (leb d (length around)) (staying d around) (r ∷ around) (Each Q) (λ e. staying_each d around h.1) (λ e. h)

  innermost_within : (around : List K) → Each Q around → Within Q (innermost_of around)
  innermost_within [] h p e = absurd (let z : ◌≡◌ {A = ℕ} 0 1 = cc in omega arith)
  innermost_within (r ∷ around) h p e = let f : r ≡ p = cc in subst Q f h.0

  pub each_acts : (around : List K) (rs : List Row) → Each Q around → Each P rs → Each F (acts_of acts (events keeps around rs))
  each_acts around [] q h = closing_acts 0 around q
  each_acts around (r ∷ rs) q h =
      let stay = staying_each r.depth around q in
      acts_append (closing r.depth around) _ (closing_acts r.depth around q)
      (each_append F (acts (entering (innermost_of (staying r.depth around)) r)) _
      (enters (innermost_of (staying r.depth around)) r (innermost_within (staying r.depth around) stay) h.0)
      (each_acts (keeps (head r) ∷ staying r.depth around) rs (down r h.0, stay) h.1))

-- The open rows of a walk, outermost first. Assumes nothing.
use Rattle.std.proofs.Common.{◌≡◌, ℕ, ◌-◌, ◌<◌, ◌≤◌, List, [], ◌∷◌, ◌++◌, length, get_or, take, drop, reverse, Some, Option, sym, refl, ap, ◌∙◌, ⊎_elim, arith}
use Rattle.std.specs.List.{slice_get}
use Rattle.std.proofs.lemmas.Bool.{cond-true, cond-false, le-leb, lt-leb, cases_lt}
use Rattle.std.proofs.lemmas.List.{take_all, take-append-drop, length-take, length-append, reverse-append, length-reverse, get_or-reverse}
use Rattle.std.proofs.lemmas.Option.{slice_get-get_or}
use Rattle.walk.specs.Events.{closing, staying, innermost_of}

module _ {K : Type 0} where
  -- the open rows, innermost first, after one more was opened
  pub reverse_push : (rs : List K) (r : K) → reverse (rs ++ r ∷ []) ≡ r ∷ reverse rs
  reverse_push rs r = reverse-append rs (r ∷ [])

  closing_short : (around : List K) (d : ℕ) → length around ≤ d → closing d around ≡ []
  closing_short [] d h = refl
  closing_short (r ∷ around) d h = let l : length around < d = omega arith in cond-false _ _ _ (lt-leb _ _ l)

  staying_short : (around : List K) (d : ℕ) → length around ≤ d → staying d around ≡ around
  staying_short [] d h = refl
  staying_short (r ∷ around) d h = let l : length around < d = omega arith in cond-false _ _ _ (lt-leb _ _ l)

  -- as many rows are open as may stay
  pub closing_none : (rs : List K) (d : ℕ) → length rs ≤ d → closing d (reverse rs) ≡ []
  closing_none rs d h = closing_short (reverse rs) d (omega (arith, length-reverse rs))

  -- of more rows than may stay those further in go
  staying_past : (inner outer : List K) (d : ℕ) → length outer ≡ d → staying d (inner ++ outer) ≡ outer
  staying_past [] outer d e = staying_short outer d (omega arith)
  staying_past (r ∷ inner) outer d e =
      let l : d ≤ length (inner ++ outer) = omega (arith, length-append inner outer) in
      cond-true _ _ _ (le-leb _ _ l) ∙ staying_past inner outer d e

  -- those that stay are the outermost
  pub staying_take : (rs : List K) (d : ℕ) → staying d (reverse rs) ≡ reverse (take d rs)
  staying_take rs d =
      ⊎_elim
      (λ h.
      let size : length (reverse (take d rs)) ≡ d = omega (arith, length-reverse (take d rs), length-take d rs) in
      ap (staying d) (ap reverse (sym (take-append-drop d rs)) ∙ reverse-append (take d rs) (drop d rs))
      ∙ staying_past (reverse (drop d rs)) (reverse (take d rs)) d size)
      (λ h. staying_short (reverse rs) d (omega (arith, length-reverse rs)) ∙ ap reverse (sym (take_all d rs h)))
      (cases_lt d (length rs))

  innermost_first : (around : List K) → innermost_of around ≡ slice_get around 0
  innermost_first [] = refl
  innermost_first (r ∷ around) = refl

  last_or : (rs : List K) (d : K) → 0 < length rs → slice_get (reverse rs) 0 ≡ slice_get rs (length rs - 1)
  last_or rs d h =
      let e : length rs - 1 - 0 ≡ length rs - 1 = omega arith in
      slice_get-get_or (reverse rs) 0 d (omega (arith, length-reverse rs))
      ∙ ap Some (get_or-reverse rs 0 d h ∙ ap (λ k. get_or rs k d) e)
      ∙ sym (slice_get-get_or rs (length rs - 1) d (omega arith))

  -- the innermost row is the last
  pub innermost_last : (rs : List K) → innermost_of (reverse rs) ≡ slice_get rs (length rs - 1)
  innermost_last [] = refl
  innermost_last (r ∷ rs) = innermost_first (reverse (r ∷ rs)) ∙ last_or (r ∷ rs) r (omega arith)

  -- the parent of a row: the innermost of the rows that stay open
  pub parent_last : (rs mid : List K) (d : ℕ) (p : Option K) → mid ≡ take d rs → p ≡ slice_get mid (length mid - 1) → p ≡ innermost_of (staying d (reverse rs))
  parent_last rs mid d p e f = f ∙ sym (innermost_last mid) ∙ ap innermost_of (ap reverse e ∙ sym (staying_take rs d))

  -- the open rows after one more was entered
  pub entered : (rs mid now : List K) (d : ℕ) (r : K) → mid ≡ take d rs → now ≡ mid ++ r ∷ [] → r ∷ staying d (reverse rs) ≡ reverse now
  entered rs mid now d r e f = ap (λ around. r ∷ around) (staying_take rs d ∙ sym (ap reverse e)) ∙ sym (ap reverse f ∙ reverse_push mid r)

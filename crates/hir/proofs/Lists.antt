-- Tests of the elements of a list. Assumes nothing.
use Rattle.std.proofs.Common.{◌≡◌, Bool, false, ◌||◌, List, [], ◌∷◌, map, refl, ap}
use Rattle.std.proofs.lemmas.Bool.{or_parts}
use Rattle.std.specs.List.{list_any}
use Rattle.hir.specs.Lists.{Each}

pub any_map : {A B : Type 0} (f : A → B) (p : B → Bool) (xs : List A) → list_any p (map f xs) ≡ list_any (λ x. p (f x)) xs
any_map f p [] = refl
any_map f p (x ∷ xs) = ap (λ b. p (f x) || b) (any_map f p xs)

-- where no element passes a test, each fails it
pub each_none : {A : Type 0} (p : A → Bool) (Q : A → Type 0) → ((x : A) → p x ≡ false → Q x) → (xs : List A) → list_any p xs ≡ false → Each Q xs
each_none p Q each [] e = tt
each_none p Q each (x ∷ xs) e = let h = or_parts (p x) (list_any p xs) e in (each x h.0, each_none p Q each xs h.1)

-- Values that are written one behind the other. Assumes nothing.
use Rattle.std.proofs.Common.{◌≡◌, ℕ, zero, suc, ◌+◌, ◌<◌, ◌≤◌, List, [], ◌∷◌, ◌++◌, length, get_or, take, map, sym, refl, ap, ◌∙◌, subst, arith}
use Rattle.std.proofs.lemmas.List.{take_more, take_all, map-append}
use Rattle.hir.specs.Lists.{Each}
use Rattle.image.specs.Layouts.{Layout}
use Rattle.image_encode.specs.Puts.{Put, PutAll}
use Rattle.image_encode.proofs.Writings.{end_written, each_end}

-- one more behind those that were written
pub put_end : {X : Type 0} (L : Layout X) (xs : List X) (x : X) (start out out' : List ℕ) → PutAll L xs start out → Put L x out out' → PutAll L (xs ++ (x ∷ [])) start out'
put_end L xs x start out out' a p = record {
  fine = each_end L.Fine xs x a.fine p.fine;
  bytes = end_written L.write start out out' xs x a.bytes p.bytes;
}

module _ {X A : Type 0} (L : Layout X) (f : A → X) (xs : List A) (i : ℕ) (start out : List ℕ) (inv : PutAll L (map f (take i xs)) start out) where
  -- the element at i is written
  pub put_more : (d : A) (out' : List ℕ) → i < length xs → Put L (f (get_or xs i d)) out out' → PutAll L (map f (take (i + 1) xs)) start out'
  put_more d out' lt p =
      subst (λ ys. PutAll L ys start out') (sym (ap (map f) (take_more xs i d lt) ∙ map-append f (take i xs) (get_or xs i d ∷ [])))
      (put_end L (map f (take i xs)) (f (get_or xs i d)) start out out' inv p)

module _ {A : Type 0} (P : A → Type 0) (xs : List A) (i : ℕ) where
  pub each_more : (d : A) → Each P (take i xs) → i < length xs → P (get_or xs i d) → Each P (take (i + 1) xs)
  each_more d h lt p = subst (Each P) (sym (take_more xs i d lt)) (each_end P (take i xs) (get_or xs i d) h p)

  pub each_all : Each P (take i xs) → length xs ≤ i → Each P xs
  each_all h le = subst (Each P) (take_all i xs le) h

pub each_at : {A : Type 0} (P : A → Type 0) (xs : List A) (i : ℕ) (d : A) → Each P xs → i < length xs → P (get_or xs i d)
each_at P [] i d h lt = absurd (omega arith)
each_at P (x ∷ xs) zero d h lt = h.0
each_at P (x ∷ xs) (suc i) d h lt = each_at P xs i d h.1 (omega arith)

pub map_twice : {A B X : Type 0} (g : B → X) (f : A → B) (xs : List A) → map (λ x. g (f x)) xs ≡ map g (map f xs)
map_twice g f [] = refl
map_twice g f (x ∷ xs) = ap (λ k. g (f x) ∷ k) (map_twice g f xs)

pub put_twice : {A B X : Type 0} (L : Layout X) (g : B → X) (f : A → B) (xs : List A) (start out : List ℕ) → PutAll L (map (λ x. g (f x)) xs) start out → PutAll L (map g (map f xs)) start out
put_twice L g f xs start out a = subst (λ ys. PutAll L ys start out) (map_twice g f xs) a

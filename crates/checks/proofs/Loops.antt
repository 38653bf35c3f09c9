-- Loops that stop at an element that passes a test. Assumes nothing.
use Rattle.std.proofs.Common.{◌≡◌, ℕ, ◌+◌, ◌<◌, ◌≤◌, Bool, true, false, cond, ◌||◌, eqb, List, [], ◌∷◌, length, get_or, drop, refl, sym, ap, ◌∙◌}
use Rattle.hir.specs.Environments.{unnamed}
use Rattle.std.proofs.lemmas.Bool.{or_left}
use Rattle.std.proofs.lemmas.List.Sums.{sum_by-cons}
use Rattle.std.proofs.lemmas.List.{at_drop_more, at_drop_all}
use Rattle.hir.specs.declared.tables.Identifier.{Identifier}
use Rattle.std.specs.List.{list_any, count_by}

module _ {A : Type 0} (p : A → Bool) (xs : List A) (i : ℕ) (inv : list_any p (drop i xs) ≡ list_any p xs) where
  -- the element at i passes
  pub found : (d : A) → i < length xs → true ≡ p (get_or xs i d) → true ≡ list_any p xs
  found d h e = sym (sym inv ∙ at_drop_more (list_any p) xs i d h ∙ or_left _ _ (sym e))

  -- the element at i fails, so what is after it decides
  pub passed : (d : A) → i < length xs → false ≡ p (get_or xs i d) → list_any p (drop (i + 1) xs) ≡ list_any p xs
  passed d h e = ap (λ b. b || list_any p (drop (i + 1) xs)) e ∙ sym (at_drop_more (list_any p) xs i d h) ∙ inv

  -- none of them passed
  pub all_passed : length xs ≤ i → false ≡ list_any p xs
  all_passed h = sym (at_drop_all (list_any p) xs i h) ∙ inv

-- identifiers without a name, as the library counts
pub unnamed_count : (is : List Identifier) → count_by (λ (i : Identifier). eqb i.tag 0) is ≡ unnamed is
unnamed_count [] = refl
unnamed_count (i ∷ is) = sum_by-cons (λ (x : Identifier). cond (eqb x.tag 0) 1 0) i is ∙ ap (λ n. cond (eqb i.tag 0) 1 0 + n) (unnamed_count is)

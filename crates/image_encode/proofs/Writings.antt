-- Bytes written one element at a time. Assumes nothing.
use mathlib.Core.List.{map-id}
use Rattle.std.proofs.Common.{◌≡◌, ℕ, ◌^◌, ◌<◌, List, [], ◌∷◌, ◌++◌, sym, ap, ◌∙◌, append_assoc, append-nil, Option, length, subst, arith}
use Rattle.std.specs.Iterator.{Drains, DrainsIf}
use Rattle.std.proofs.lemmas.Iterator.{YieldsList, items_from_drains}
use Rattle.hir.specs.Lists.{Each}
use Rattle.image.specs.Bytes.{be, joined}
use Rattle.image.specs.Layouts.{numbers}
use Rattle.image_encode.specs.Puts.{Put}

module _ {X : Type 0} (write : X → List ℕ) where
  pub joined_end : (xs : List X) (x : X) → joined write (xs ++ (x ∷ [])) ≡ joined write xs ++ write x
  joined_end [] x = append-nil (write x)
  joined_end (y ∷ ys) x = ap (λ t. write y ++ t) (joined_end ys x) ∙ sym (append_assoc (write y) (joined write ys) (write x))

  -- one more at the end
  pub end_written : (start out out' : List ℕ) (xs : List X) (x : X) → out ≡ start ++ joined write xs → out' ≡ out ++ write x → out' ≡ start ++ joined write (xs ++ (x ∷ []))
  end_written start out out' xs x inv e =
      e
      ∙ ap (λ t. t ++ write x) inv
      ∙ append_assoc start (joined write xs) (write x)
      ∙ ap (λ t. start ++ t) (sym (joined_end xs x))

pub each_end : {A : Type 0} (P : A → Type 0) (xs : List A) (x : A) → Each P xs → P x → Each P (xs ++ (x ∷ []))
each_end P [] x h p = (p, tt)
each_end P (y ∷ ys) x h p = (h.0, each_end P ys x h.1 p)

-- an iterator gives what its list holds
pub given_all : {S : Type 0} {steps : S → Option ℕ → S → Type 0} {s : S} {all : List ℕ} (xs : List ℕ) → Drains steps s xs → YieldsList steps (λ x. x) s all → xs ≡ all
given_all {steps = steps} {s = s} xs h y =
    let d : DrainsIf steps (Unit {0}) s xs = (h.1.0, h.1.1, λ _. (h.0, h.1.2)) in
    sym (map-id xs) ∙ items_from_drains xs d y

-- a list was written whose numbers were drawn from an iterator
pub list_put : {S : Type 0} {steps : S → Option ℕ → S → Type 0} {s : S} {all : List ℕ} (before after : List ℕ) (count : ℕ) → (xs : List ℕ) × Drains steps s xs × Each (λ (n : ℕ). n < 2 ^ 32) xs × (after ≡ before ++ (be count ++ joined be xs)) → YieldsList steps (λ x. x) s all → count ≡ length all → count < 2 ^ 32 → Put numbers all before after
list_put before after count w y e low =
    let is = given_all w.0 w.1 y in
    record {
      fine = (omega arith, subst (Each (λ (n : ℕ). n < 2 ^ 32)) is w.2);
      bytes = w.3 ∙ (λ i. before ++ (be (e i) ++ joined be (is i)));
    }

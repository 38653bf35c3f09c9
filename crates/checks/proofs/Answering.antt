-- What an answer tells of the refusal behind it. Assumes nothing.
use Rattle.std.proofs.Common.{◌≡◌, ℕ, Some, None, Ok, Err, Option, Result, sym, refl, ap, ◌∙◌, arith}
use Rattle.hir.specs.declared.refusal.Refusal.{Refusal}
use Rattle.hir.specs.declared.refusal.Refusal.TheVariants as refusals
use Rattle.hir.specs.Refusals.{answered}
use Rattle.checks.specs.Rows.{Open, unplaced}

pub refuses : {X : Type 0} (o : Option Refusal) (r : Refusal) (x : X) → o ≡ Some r → Err r ≡ answered o x
refuses o r x e = sym (ap (λ k. answered k x) e)

-- the refusal of a `?` that is handed on
pub hands_on : {X : Type 0} (a : Result X Refusal) (o : Option Refusal) (q r : Refusal) (x : X) → a ≡ Err q → q ≡ r → o ≡ Some r → a ≡ answered o x
hands_on a o q r x is same e = is ∙ ap Err same ∙ refuses o r x e

pub refused_by : {X : Type 0} (o : Option Refusal) (r : Refusal) (x : X) → Err r ≡ answered o x → o ≡ Some r
refused_by None r x e = absurd (let z : ◌≡◌ {A = ℕ} 0 1 = cc in omega arith)
refused_by (Some q) r x e = let f : q ≡ r = cc in ap Some f

pub not_refused : {X : Type 0} (o : Option Refusal) (x y : X) → Ok y ≡ answered o x → o ≡ None
not_refused None x y e = refl
not_refused (Some q) x y e = absurd (let z : ◌≡◌ {A = ℕ} 0 1 = cc in omega arith)

-- a row that was refused has no place
pub unplaced_refused : (o : Option Open) (r : Refusal) → ◌≡◌ {A = Result (Unit {0}) Refusal} (Err r) (answered (unplaced o) tt) → (o ≡ None) × (r ≡ refusals.Shape)
unplaced_refused None r e = (refl, cc)
unplaced_refused (Some os) r e = absurd (let z : ◌≡◌ {A = ℕ} 0 1 = cc in omega arith)

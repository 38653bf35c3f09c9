-- The way along a link. Assumes nothing.
use Rattle.std.proofs.Common.{◌≡◌, ℕ, ◌≤◌, Bool, eqb, List, Option}
use Rattle.hir.specs.declared.scratch.Trail.{Trail}
use Rattle.std.specs.List.{list_any}
use Rattle.collect.specs.Links.{reach, along, is_along}

-- a scope is among the first along a link
abbrev pub is_first : ℕ → List Trail → Option ℕ → ℕ → Bool
is_first fuel trail l s = list_any (λ x. eqb x s) (along fuel trail l)

-- of the way along a link, this is still to be looked at
pub record Following (trail : List Trail) (s : ℕ) (link at : Option ℕ) : Type 0 where
  pub fuel : ℕ
  pub enough : reach at ≤ fuel
  pub below : reach at ≤ reach link
  pub same : is_along trail link s ≡ is_first fuel trail at s

-- The scopes that were active where a trail row was appended. Assumes nothing.
use Rattle.std.specs.Prelude.{ℕ, zero, suc, ◌<◌, ◌≤◌, Bool, List, [], ◌∷◌, Some, None, Option, length, nat_eq, slice_index_or}
use Rattle.hir.specs.declared.scratch.Trail.{Trail}
use Rattle.std.specs.List.{list_any}
use Rattle.hir.specs.Packed.{of_link}
use Rattle.hir.specs.Scratches.{no_trail}

-- the trail row of an active scope
abbrev pub trail_of : List Trail → ℕ → Trail
trail_of trail j = slice_index_or trail j no_trail

-- how many trail rows there are up to that of a link
abbrev pub reach : Option ℕ → ℕ
reach = of_link

-- the first scopes along a link, the innermost first
abbrev pub along : ℕ → List Trail → Option ℕ → List ℕ
along zero trail l = []
along (suc fuel) trail None = []
along (suc fuel) trail (Some j) = (trail_of trail j).scope.0 ∷ along fuel trail (trail_of trail j).link

-- all scopes along a link: each row leads to an earlier one
abbrev pub scopes_along : List Trail → Option ℕ → List ℕ
scopes_along trail l = along (reach l) trail l

-- a scope is among those along a link
abbrev pub is_along : List Trail → Option ℕ → ℕ → Bool
is_along trail l s = list_any (λ x. nat_eq x s) (scopes_along trail l)

-- a link leads along trail rows, each to an earlier one
pub record Leads (trail : List Trail) (l : Option ℕ) : Type 0 where
  pub within : reach l ≤ length trail
  pub down : (j : ℕ) → j < reach l → reach (trail_of trail j).link ≤ j

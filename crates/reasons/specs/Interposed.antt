-- Which identifiers are used after something was interposed. Assumes nothing.
use Rattle.std.specs.Prelude.{ℕ, Bool, false, cond, not, ◌&&◌, ◌||◌, List, [], ◌∷◌, ◌++◌, Some, None, ◌==◌}
use Rattle.hir.specs.declared.ids.IdentifierId.{IdentifierId}
use Rattle.std.specs.List.{fold}
use Rattle.interposed.specs.Acts.{Act, uses, fixes, loads, takes, global, barrier, tracks}

-- what is known of identifiers after some acts; exposed: a barrier came since the last tracking
pub record Known : Type 0 where
  pub named : ℕ → Bool
  pub constant : ℕ → Bool
  pub global : ℕ → Bool
  pub tracked : ℕ → Bool
  pub exposed : ℕ → Bool
  pub found : List IdentifierId

-- the identifiers of p, and x
abbrev pub plus : (ℕ → Bool) → ℕ → ℕ → Bool
plus p x i = i == x || p i

-- the identifiers of p, but not x
abbrev pub minus : (ℕ → Bool) → ℕ → ℕ → Bool
minus p x i = not (i == x) && p i

-- x is found by a use: it has a name from then on, and is the last found so far
abbrev pub finds : IdentifierId → Known → Known
finds x s = record { named = plus s.named x.0; constant = s.constant; global = s.global; tracked = s.tracked; exposed = s.exposed; found = s.found ++ x ∷ [] }

-- x is constant from then on
abbrev pub fixing : ℕ → Known → Known
fixing x s = record { named = s.named; constant = plus s.constant x; global = s.global; tracked = s.tracked; exposed = s.exposed; found = s.found }

-- x is global from then on
abbrev pub globally : ℕ → Known → Known
globally x s = record { named = s.named; constant = s.constant; global = plus s.global x; tracked = s.tracked; exposed = s.exposed; found = s.found }

-- x is tracked, and no longer exposed by the barriers before
abbrev pub tracking : ℕ → Known → Known
tracking x s = record { named = s.named; constant = s.constant; global = s.global; tracked = plus s.tracked x; exposed = minus s.exposed x; found = s.found }

-- a barrier: every identifier that was tracked before is exposed
abbrev pub raising : Known → Known
raising s = record { named = s.named; constant = s.constant; global = s.global; tracked = s.tracked; exposed = s.tracked; found = s.found }

-- a change where a condition holds
abbrev pub if : Bool → (Known → Known) → Known → Known
if b f s = cond b (f s) s

-- what is known after an act of the third pass, where names are those of this moment
abbrev pub act : Known → Act → Known
act s (uses x) = if (not (s.named x.0) && (not (s.constant x.0) && s.exposed x.0)) (finds x) s
act s (fixes x) = fixing x.0 s
act s (loads l x) = if (not (s.named l.0)) (λ k. tracking l.0 (if (s.constant x.0) (fixing l.0) k)) s
act s (takes l x) = if (not (s.named l.0)) (tracking l.0) (if (s.global x.0) (λ k. fixing l.0 (globally l.0 k)) s)
act s (global l) = globally l.0 s
act s (barrier None) = raising s
act s (barrier (Some l)) = if (s.named l.0) raising s
act s (tracks l) = if (not (s.named l.0)) (tracking l.0) s

-- before any act, where these have a name
abbrev pub nothing : (ℕ → Bool) → Known
nothing named = record { named = named; constant = λ i. false; global = λ i. false; tracked = λ i. false; exposed = λ i. false; found = [] }

-- the identifiers that are used while they have no name, are not constant and are exposed, in the order of their uses
abbrev pub interposed : (ℕ → Bool) → List Act → List IdentifierId
interposed named acts = (fold act (nothing named) acts).found

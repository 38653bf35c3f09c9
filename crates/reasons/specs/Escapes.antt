-- Which declarations escape. Assumes nothing.
use Rattle.std.specs.Prelude.{ℕ, Bool, false, cond, not, ◌||◌, List, [], ◌∷◌, ◌==◌, nat_eq}
use Rattle.hir.specs.declared.ids.IdentifierId.{IdentifierId}
use Rattle.hir.specs.declared.ids.ScopeId.{ScopeId}
use Rattle.hir.specs.Environments.{Model, declaration_of, scope_of}
use Rattle.std.specs.List.{fold, list_any}
use Rattle.hir.specs.Spans.{identifiers_in}
use Rattle.reactive.specs.Rows.{Row}
use Rattle.collect.specs.Promotable.{Act, opens, shuts, prunes, sees, flags, pass_acts}

-- what is known of a declaration: never recorded, or the scopes active at its last recording and whether it escaped since
pub data Seen : Type 0 where
  never : Seen
  since : List ScopeId → Bool → Seen

-- the active scopes, innermost first, and what is known of each declaration
pub record Known : Type 0 where
  pub active : List ScopeId
  pub seen : ℕ → Seen

-- before the first row: no scope is active, and no declaration was recorded
abbrev pub nothing : Known
nothing = record { active = []; seen = λ d. never }

-- scopes are compared by number
abbrev pub among : ScopeId → List ScopeId → Bool
among s ss = list_any (λ x. nat_eq x.0 s.0) ss

-- some scope is active, and the innermost is none of these
abbrev pub outside : List ScopeId → List ScopeId → Bool
outside [] at = false
outside (s ∷ ss) at = not (among s at)

-- what is known of a declaration once it is used under these active scopes; an escape stays, and one never recorded does not escape
abbrev pub used : List ScopeId → Seen → Seen
used active never = never
used active (since at b) = since at (b || outside active at)

-- the active scopes once the innermost is left; none, where none was active
abbrev pub rest : List ScopeId → List ScopeId
rest [] = []
rest (s ∷ ss) = ss

-- what is known changes for declaration x alone
abbrev pub at_declaration : ℕ → (Seen → Seen) → (ℕ → Seen) → ℕ → Seen
at_declaration x f seen d = cond (d == x) (f (seen d)) (seen d)

-- an identifier's declaration is recorded under the active scopes, which takes an earlier escape of it back
abbrev pub recorded : Model → Known → IdentifierId → Known
recorded m s i = record { active = s.active; seen = at_declaration (declaration_of m i.0) (λ _. since s.active false) s.seen }

-- what is known after an act of the first pass; that an identifier is a JSX tag changes nothing
abbrev pub act : Model → Known → Act → Known
act m s (opens x) = record { active = x ∷ s.active; seen = s.seen }
act m s shuts = record { active = rest s.active; seen = s.seen }
act m s (prunes x) = fold (recorded m) s (identifiers_in m.pool (scope_of m x.0).declarations)
act m s (sees i) = record { active = s.active; seen = at_declaration (declaration_of m i.0) (used s.active) s.seen }
act m s (flags i) = s

-- the declaration escaped after its last recording; one that was never recorded did not
abbrev pub has_escaped : Seen → Bool
has_escaped never = false
has_escaped (since at b) = b

-- the declaration escaped, after the whole tree
abbrev pub escaped : Model → List Row → ℕ → Bool
escaped m rs d = has_escaped ((fold (act m) nothing (pass_acts rs)).seen d)

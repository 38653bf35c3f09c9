-- Escape and interposed uses as sentences over places in the list of acts. Assumes nothing.
use Rattle.std.specs.Prelude.{◌≡◌, ℕ, ◌<◌, Bool, true, false, not, ◌&&◌, List, [], ◌∷◌, take, Some, None, ◌==◌, nat_eq, slice_index_or}
use Rattle.hir.specs.declared.ids.IdentifierId.{IdentifierId}
use Rattle.hir.specs.declared.ids.ScopeId.{ScopeId}
use Rattle.hir.specs.declared.span.Span.{Span}
use Rattle.hir.specs.Environments.{Model, declaration_of, scope_of}
use Rattle.std.specs.List.{fold, list_any}
use Rattle.hir.specs.Spans.{ident, identifiers_in}
use Rattle.reactive.specs.Rows.{Row}
use Rattle.collect.specs.Promotable as collect
use Rattle.interposed.specs.Acts as third
use Rattle.interposed.specs.Interposed as pass
use Rattle.reasons.specs.Escapes as escapes
use Rattle.reasons.specs.Interposed as interposed
use Rattle.reasons.specs.Coverings.{named_then}

-- a Pruned row of a scope that declares an identifier of the declaration
abbrev pub records : Model → ℕ → collect.Act → Bool
records m d (collect.opens x) = false
records m d collect.shuts = false
records m d (collect.prunes x) = list_any (λ i. nat_eq (declaration_of m i.0) d) (identifiers_in m.pool (scope_of m x.0).declarations)
records m d (collect.sees i) = false
records m d (collect.flags i) = false

-- a use of an identifier of the declaration
abbrev pub uses_one : Model → ℕ → collect.Act → Bool
uses_one m d (collect.opens x) = false
uses_one m d collect.shuts = false
uses_one m d (collect.prunes x) = false
uses_one m d (collect.sees i) = d == declaration_of m i.0
uses_one m d (collect.flags i) = false

-- the active scopes follow from the Scope rows entered and left
abbrev pub active_by : List ScopeId → collect.Act → List ScopeId
active_by ss (collect.opens x) = x ∷ ss
active_by ss collect.shuts = escapes.rest ss
active_by ss (collect.prunes x) = ss
active_by ss (collect.sees i) = ss
active_by ss (collect.flags i) = ss

module _ (m : Model) (acts : List collect.Act) (d : ℕ) where
  -- the scopes active where act k comes, innermost first
  abbrev pub active_at : ℕ → List ScopeId
  active_at k = fold active_by [] (take k acts)

  -- act k records the declaration; where there is no act k, nothing is recorded
  abbrev pub RecordedAt : ℕ → Type 0
  RecordedAt k = records m d (slice_index_or acts k collect.shuts) ≡ true

  -- act k uses an identifier of the declaration; where there is no act k, nothing is used
  abbrev pub UsedAt : ℕ → Type 0
  UsedAt k = uses_one m d (slice_index_or acts k collect.shuts) ≡ true

  -- after its last recording it is used while some scope is active and the innermost is not among those active at that recording
  pub record Escaped : Type 0 where
    pub at : ℕ
    pub recorded : RecordedAt at
    pub last : (i : ℕ) → at < i → RecordedAt i → ⊥
    pub place : ℕ
    pub used : UsedAt place
    pub after : at < place
    pub innermost : ScopeId
    pub outer : List ScopeId
    pub active : active_at place ≡ innermost ∷ outer
    pub fresh : escapes.among innermost (active_at at) ≡ false

-- what is known says the act tracks x: it has the lvalue x, which has no name
abbrev pub tracks_it : interposed.Known → ℕ → third.Act → Bool
tracks_it s x (third.uses y) = false
tracks_it s x (third.fixes y) = false
tracks_it s x (third.loads l y) = x == l.0 && not (s.named l.0)
tracks_it s x (third.takes l y) = x == l.0 && not (s.named l.0)
tracks_it s x (third.global l) = false
tracks_it s x (third.barrier l) = false
tracks_it s x (third.tracks l) = x == l.0 && not (s.named l.0)

-- the act is a barrier: its instruction has no lvalue, or one with a name
abbrev pub raises_it : interposed.Known → third.Act → Bool
raises_it s (third.uses y) = false
raises_it s (third.fixes y) = false
raises_it s (third.loads l y) = false
raises_it s (third.takes l y) = false
raises_it s (third.global l) = false
raises_it s (third.barrier None) = true
raises_it s (third.barrier (Some l)) = s.named l.0
raises_it s (third.tracks l) = false

-- the act is a use of identifier x; an lvalue and a mark are no uses
abbrev pub uses_it : ℕ → third.Act → Bool
uses_it x (third.uses y) = x == y.0
uses_it x (third.fixes y) = false
uses_it x (third.loads l y) = false
uses_it x (third.takes l y) = false
uses_it x (third.global l) = false
uses_it x (third.barrier l) = false
uses_it x (third.tracks l) = false

module _ (named : ℕ → Bool) (acts : List third.Act) where
  -- what is known where act k comes
  abbrev pub known_at : ℕ → interposed.Known
  known_at k = fold interposed.act (interposed.nothing named) (take k acts)

  -- act k; where there is none, an act that neither uses nor tracks an identifier and is no barrier
  abbrev pub act_at : ℕ → third.Act
  act_at k = slice_index_or acts k (third.fixes (ident 0))

  -- act k tracks x, by what is known where it comes
  abbrev pub TrackedAt : ℕ → ℕ → Type 0
  TrackedAt x k = tracks_it (known_at k) x (act_at k) ≡ true

  -- act k is a barrier, by what is known where it comes
  abbrev pub BarrierAt : ℕ → Type 0
  BarrierAt k = raises_it (known_at k) (act_at k) ≡ true

  -- act k uses x while x is unnamed and not constant, after a tracking of it, with a barrier between the last tracking and this use
  pub record FoundAt (x k : ℕ) : Type 0 where
    pub used : uses_it x (act_at k) ≡ true
    pub unnamed : (known_at k).named x ≡ false
    pub variable : (known_at k).constant x ≡ false
    pub at : ℕ
    pub tracked : TrackedAt x at
    pub last : (i : ℕ) → at < i → i < k → TrackedAt x i → ⊥
    pub wall : ℕ
    pub barrier : BarrierAt wall
    pub after : at < wall
    pub since : wall < k

  -- some act uses x as `FoundAt` says
  pub record Found (x : ℕ) : Type 0 where
    pub place : ℕ
    pub found : FoundAt x place

-- the definitions say what the sentences say
pub record SentencesHold (m : Model) (ps : Span) (rs : List Row) : Type 0 where
  -- d is an escaped declaration exactly when the sentence on escape holds of it
  pub escape : (d : ℕ) → escapes.escaped m rs d ≡ true → Escaped m (collect.pass_acts rs) d
  pub by_escape : (d : ℕ) → Escaped m (collect.pass_acts rs) d → escapes.escaped m rs d ≡ true
  -- x is covered for reason 5 exactly when some use of it is found as above
  pub between : (x : ℕ) → list_any (λ (i : IdentifierId). nat_eq x i.0) (interposed.interposed (named_then m ps rs) (pass.pass_acts (identifiers_in m.pool ps) rs)) ≡ true → Found (named_then m ps rs) (pass.pass_acts (identifiers_in m.pool ps) rs) x
  pub by_between : (x : ℕ) → Found (named_then m ps rs) (pass.pass_acts (identifiers_in m.pool ps) rs) x → list_any (λ (i : IdentifierId). nat_eq x i.0) (interposed.interposed (named_then m ps rs) (pass.pass_acts (identifiers_in m.pool ps) rs)) ≡ true

-- the definitions say what the sentences say, for every environment, parameter list and list of rows
abbrev pub EverySentence : Type 0
EverySentence = (m : Model) (ps : Span) (rs : List Row) → SentencesHold m ps rs

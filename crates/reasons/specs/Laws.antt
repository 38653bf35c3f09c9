-- What holds of every journal, in relations. Assumes nothing.
use Rattle.std.specs.Prelude.{◌≡◌, ℕ, Bool, true, false, cond, not, ◌||◌, List, [], ◌∷◌, ◌++◌, length, Some, None, Option, ◌==◌, nat_eq}
use Rattle.hir.specs.declared.ids.IdentifierId.{IdentifierId}
use Rattle.hir.specs.declared.span.Span.{Span}
use Rattle.hir.specs.declared.tables.JournalRow.{JournalRow}
use Rattle.hir.specs.declared.tables.Reason.{Reason}
use Rattle.hir.specs.declared.tables.Reason.TheVariants as reasons
use Rattle.hir.specs.Environments.{Model, declaration_of}
use Rattle.std.specs.List.{list_any}
use Rattle.hir.specs.Spans.{identifiers_in}
use Rattle.reactive.specs.Rows.{Row}
use Rattle.reactive.specs.Lvalues.{some_without_temporary}
use Rattle.promote.specs.Identifier.{is_unnamed}
use Rattle.instances.specs.Instances as instances
use Rattle.reasons.specs.Journals.{names, is_named, declares}
use Rattle.reasons.specs.Coverings.{early, between, before, visits, coverings, journal}

-- the reason of the first row of an identifier
abbrev pub first_reason : ℕ → List JournalRow → Option Reason
first_reason i [] = None
first_reason i (r ∷ rows) = cond (i == r.identifier.0) (Some r.reason) (first_reason i rows)

-- no identifier has two rows
abbrev pub Once : List JournalRow → Type 0
Once [] = Unit {0}
Once (r ∷ rows) = (names r.identifier.0 rows ≡ false) × Once rows

-- the last pass visits the identifier
abbrev pub visited : Model → Span → List Row → ℕ → Bool
visited m ps rs i = list_any (λ (x : IdentifierId). nat_eq i x.0) (identifiers_in m.pool ps ++ visits m (instances.pass_acts rs))

-- it has no name after reasons 1 to 5, the last pass visits it, and it shares its declaration with one that this run named for them
pub record Sixth (m : Model) (ps : Span) (rs : List Row) (i : ℕ) : Type 0 where
  pub unnamed : (names i (early m ps rs ++ between m ps rs) || is_named m i) ≡ false
  pub visits_it : visited m ps rs i ≡ true
  pub shares : declares m (before m ps rs) (declaration_of m i) ≡ true

-- what holds of the journal of a run over these rows
pub record JournalLaws (m : Model) (ps : Span) (rs : List Row) : Type 0 where
  -- an identifier is journalled exactly when it has no name and some reason covers it, and the first that covers it is its reason
  pub first : (i : ℕ) → first_reason i (journal m ps rs) ≡ cond (is_named m i) None (first_reason i (coverings m ps rs))
  -- no identifier is journalled twice
  pub once : Once (journal m ps rs)
  -- an identifier is journalled for reason 6 exactly when the sentence of that reason holds of it
  pub sixth : (i : ℕ) → first_reason i (journal m ps rs) ≡ Some reasons.SameDeclaration → Sixth m ps rs i
  pub by_sixth : (i : ℕ) → Sixth m ps rs i → first_reason i (journal m ps rs) ≡ Some reasons.SameDeclaration

-- the laws hold of every environment, parameter list and list of rows
abbrev pub EveryJournal : Type 0
EveryJournal = (m : Model) (ps : Span) (rs : List Row) → JournalLaws m ps rs

-- there is a scope, a function, or an own parameter without a name
abbrev pub tables_can_name : Model → Span → Bool
tables_can_name m ps = not (length m.scopes == 0) || (not (length m.functions == 0) || list_any (is_unnamed m) (identifiers_in m.pool ps))

-- some Instruction's lvalue is absent or named, or the tables can name something
abbrev pub can_name : Model → Span → List Row → Bool
can_name m ps rs = some_without_temporary m rs || tables_can_name m ps

-- a run that can name nothing journals nothing
abbrev pub IdleRuns : Type 0
IdleRuns = (m : Model) (ps : Span) (rs : List Row) → can_name m ps rs ≡ false → journal m ps rs ≡ []

-- What a run covers, in order, and what it journals. Assumes nothing.
use Rattle.std.specs.Prelude.{ℕ, zero, suc, Bool, false, cond, ◌&&◌, ◌||◌, List, [], ◌∷◌, ◌++◌, map, length, ◌==◌, nat_eq}
use Rattle.hir.specs.declared.ids.FunctionId.{FunctionId}
use Rattle.hir.specs.declared.ids.IdentifierId.{IdentifierId}
use Rattle.hir.specs.declared.span.Span.{Span}
use Rattle.hir.specs.declared.tables.JournalRow.{JournalRow}
use Rattle.hir.specs.declared.tables.Reason.{Reason}
use Rattle.hir.specs.declared.tables.Reason.TheVariants as reasons
use Rattle.hir.specs.Environments.{Model, declaration_of, scope_of, function_of}
use Rattle.std.specs.List.{fold, filter, list_any}
use Rattle.hir.specs.Spans.{identifiers_in, functions_in}
use Rattle.reactive.specs.declared.code.Code.TheVariants as codes
use Rattle.reactive.specs.Rows.{Row, is}
use Rattle.promote.specs.Temporaries as temporaries
use Rattle.interposed.specs.Interposed as acts_of
use Rattle.instances.specs.Instances as instances
use Rattle.reasons.specs.Journals.{is_named, names, firsts, declares, name_all}
use Rattle.reasons.specs.Escapes.{escaped}
use Rattle.reasons.specs.Interposed.{interposed}

-- coverings of identifiers for one reason
abbrev pub covers : Reason → List IdentifierId → List JournalRow
covers why is = map (λ i. record { identifier = i; reason = why }) is

-- the functions visited so far, and the coverings
pub record Covered : Type 0 where
  pub visited : ℕ → Bool
  pub rows : List JournalRow

-- these coverings come behind those so far, and no function more is visited
abbrev pub with_rows : Covered → List JournalRow → Covered
with_rows s more = record { visited = s.visited; rows = s.rows ++ more }

-- a function is visited: its parameters are covered
abbrev pub entering : Model → Covered → FunctionId → Covered
entering m s f = record {
  visited = λ g. (g == f.0) || s.visited g;
  rows = s.rows ++ covers reasons.InnerParameter (identifiers_in m.pool (function_of m f.0).parameters);
}

-- a function and those nested in it, at most k deep, depth first, each once
abbrev pub reaching : ℕ → Model → Covered → FunctionId → Covered
reaching zero m s f = s
reaching (suc k) m s f = cond (s.visited f.0) s (fold (reaching k m) (entering m s f) (functions_in m.pool (function_of m f.0).nested))

-- what a row covers: a scope's dependencies and declarations, a pruned scope's escaped declarations, inner parameters
abbrev pub covering : Model → (ℕ → Bool) → Covered → temporaries.Act → Covered
covering m out s (temporaries.scope x) =
    with_rows s
    (covers reasons.Scope (identifiers_in m.pool (scope_of m x.0).dependencies)
    ++ covers reasons.Scope (identifiers_in m.pool (scope_of m x.0).declarations))
covering m out s (temporaries.pruned x) =
    with_rows s (covers reasons.Escape (filter (λ i. out (declaration_of m i.0)) (identifiers_in m.pool (scope_of m x.0).declarations)))
covering m out s (temporaries.inner f) = reaching (length m.functions) m s f

-- reasons 1 to 4
abbrev pub early : Model → Span → List Row → List JournalRow
early m ps rs =
    (fold (covering m (escaped m rs)) (record { visited = λ f. false; rows = covers reasons.OwnParameter (identifiers_in m.pool ps) }) (temporaries.pass_acts rs)).rows

-- who has a name after reasons 1 to 4
abbrev pub named_then : Model → Span → List Row → ℕ → Bool
named_then m ps rs i = names i (early m ps rs) || is_named m i

-- reason 5
abbrev pub between : Model → Span → List Row → List JournalRow
between m ps rs = covers reasons.Interposed (interposed (named_then m ps rs) (acts_of.pass_acts (identifiers_in m.pool ps) rs))

-- what this run names for reasons 1 to 5
abbrev pub before : Model → Span → List Row → List JournalRow
before m ps rs = firsts (is_named m) (early m ps rs ++ between m ps rs)

-- the identifiers that an act of the last pass visits, in order
abbrev pub visits_of : Model → instances.Act → List IdentifierId
visits_of m (instances.again i) = i ∷ []
visits_of m (instances.parameters f) = identifiers_in m.pool (function_of m f.0).parameters
visits_of m (instances.leaves s) =
    identifiers_in m.pool (scope_of m s.0).declarations
    ++ (identifiers_in m.pool (scope_of m s.0).dependencies ++ identifiers_in m.pool (scope_of m s.0).reassignments)

-- the identifiers that the last pass visits in these acts, in order, each as often as it is visited
abbrev pub visits : Model → List instances.Act → List IdentifierId
visits m [] = []
visits m (a ∷ more) = visits_of m a ++ visits m more

-- reason 6: visited last, of a declaration that this run named for 1 to 5
abbrev pub late : Model → Span → List Row → List JournalRow
late m ps rs =
    covers reasons.SameDeclaration
    (filter (λ i. declares m (before m ps rs) (declaration_of m i.0)) (identifiers_in m.pool ps ++ visits m (instances.pass_acts rs)))

-- every covering, in the order of the journal
abbrev pub coverings : Model → Span → List Row → List JournalRow
coverings m ps rs = early m ps rs ++ (between m ps rs ++ late m ps rs)

-- what a run journals: of each identifier without a name, its first covering
abbrev pub journal : Model → Span → List Row → List JournalRow
journal m ps rs = firsts (is_named m) (coverings m ps rs)

-- the declaration has the letter T: some Leaf of kind 15 has a mark of it
abbrev pub upper : Model → List Row → ℕ → Bool
upper m rs d = list_any (λ r. (is codes.Leaf r && r.kind == 15) && list_any (λ i. nat_eq (declaration_of m i.0) d) r.marks) rs

-- the environment after an accepted run
abbrev pub ran : Model → Span → List Row → Model
ran m ps rs = name_all (upper m rs) m (journal m ps rs)

-- What holds of tables and rows that are not refused. Assumes nothing.
use Rattle.std.specs.Prelude.{◌≡◌, ℕ, ◌+◌, ◌<◌, ◌≤◌, true, List, length, Some}
use Rattle.hir.specs.declared.ids.IdentifierId.{IdentifierId}
use Rattle.hir.specs.declared.ids.ScopeId.{ScopeId}
use Rattle.hir.specs.declared.ids.FunctionId.{FunctionId}
use Rattle.hir.specs.declared.span.Span.{Span}
use Rattle.hir.specs.declared.tables.Scope.{Scope}
use Rattle.hir.specs.declared.tables.Function.{Function}
use Rattle.hir.specs.Environments.{Model, tag_of, declaration_of, scope_of, function_of, unnamed}
use Rattle.hir.specs.Lists.{Each}
use Rattle.hir.specs.Scratches.{Notes}
use Rattle.hir.specs.Spans.{identifiers_in, functions_in}
use Rattle.reactive.specs.declared.row.Number.TheVariants as numbers
use Rattle.reactive.specs.Codes.{has_scope}
use Rattle.reactive.specs.Rows.{Row}
use Rattle.checks.specs.Rows.{Sizes}

-- each of these identifiers is below the count
abbrev pub Present : ℕ → List IdentifierId → Type 0
Present n is = Each (λ i. i.0 < n) is

-- each of these functions is below the count
abbrev pub Defined : ℕ → List FunctionId → Type 0
Defined n fs = Each (λ f. f.0 < n) fs

-- the identifiers of a scope are there
pub record SoundScope (n : ℕ) (pool : List ℕ) (s : Scope) : Type 0 where
  pub dependencies : Present n (identifiers_in pool s.dependencies)
  pub declarations : Present n (identifiers_in pool s.declarations)
  pub reassignments : Present n (identifiers_in pool s.reassignments)

-- the parameters of a function and the functions nested in it are there
pub record SoundFunction (n fs : ℕ) (pool : List ℕ) (f : Function) : Type 0 where
  pub parameters : Present n (identifiers_in pool f.parameters)
  pub nested : Defined fs (functions_in pool f.nested)

-- every number of the tables and the parameters is in range, and journal and scratch have room
pub record SoundTables (m : Model) (n : Notes) (ps : Span) : Type 0 where
  pub identifiers : length m.identifiers ≤ 65536
  pub declared : (k : ℕ) → k < length m.identifiers → declaration_of m k < length m.identifiers
  pub tags : (k : ℕ) → k < length m.identifiers → tag_of m k ≤ 3
  pub work : length m.identifiers ≤ length n.work
  pub marks : length m.functions ≤ length n.marks
  pub room : m.count + unnamed m.identifiers ≤ length m.journal
  pub scopes : (s : ℕ) → s < length m.scopes → SoundScope (length m.identifiers) m.pool (scope_of m s)
  pub functions : (f : ℕ) → f < length m.functions → SoundFunction (length m.identifiers) (length m.functions) m.pool (function_of m f)
  pub parameters : Present (length m.identifiers) (identifiers_in m.pool ps)

-- every number of a row is in range, and a row that needs a scope has it
pub record SoundRow (z : Sizes) (r : Row) : Type 0 where
  pub shallow : r.depth < 128
  pub identifier : (i : IdentifierId) → r.identifier ≡ Some i → i.0 < z.identifiers
  pub scope : (s : ScopeId) → r.number ≡ Some (numbers.Scope s) → s.0 < z.scopes
  pub function : (f : FunctionId) → r.number ≡ Some (numbers.Function f) → f.0 < z.functions
  pub scoped : has_scope r.code ≡ true → (s : ScopeId) × (r.number ≡ Some (numbers.Scope s))
  pub operands : Present z.identifiers r.operands
  pub marks : Present z.identifiers r.marks

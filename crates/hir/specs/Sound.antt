-- Tables that a pass can go over. Assumes nothing.
use Rattle.std.specs.Prelude.{ℕ, ◌+◌, ◌<◌, ◌≤◌, length}
use Rattle.hir.specs.declared.ids.IdentifierId.{IdentifierId}
use Rattle.hir.specs.declared.ids.ScopeId.{ScopeId}
use Rattle.hir.specs.declared.ids.FunctionId.{FunctionId}
use Rattle.hir.specs.declared.span.Span.{Span}
use Rattle.hir.specs.Environments.{Model, declaration_of, scope_of, function_of, unnamed}
use Rattle.hir.specs.Lists.{Each}
use Rattle.hir.specs.Scratches.{Tables}
use Rattle.hir.specs.Spans.{identifiers_in, functions_in}

-- That a number is known is no type: it is of an environment too, which is written while the number is held.
-- That tables are sound is none either: it is of the environment and of scratch, which are lent to each call.

-- the identifier has a row
abbrev pub Known : Model → IdentifierId → Type 0
Known m i = i.0 < length m.identifiers

-- every identifier of a list has a row
abbrev pub KnownIn : Model → Span → Type 0
KnownIn m s = Each (Known m) (identifiers_in m.pool s)

-- the scope has a row
abbrev pub KnownScope : Model → ScopeId → Type 0
KnownScope m s = s.0 < length m.scopes

-- the lists of a scope
pub record ScopeSound (m : Model) (s : ℕ) : Type 0 where
  pub dependencies : KnownIn m (scope_of m s).dependencies
  pub declarations : KnownIn m (scope_of m s).declarations
  pub reassignments : KnownIn m (scope_of m s).reassignments

-- the function has a row
abbrev pub KnownFunction : Model → FunctionId → Type 0
KnownFunction m f = f.0 < length m.functions

-- the lists of a function
pub record FunctionSound (m : Model) (f : ℕ) : Type 0 where
  pub parameters : KnownIn m (function_of m f).parameters
  pub nested : Each (KnownFunction m) (functions_in m.pool (function_of m f).nested)

-- every number in the tables is that of a row, and scratch and the journal have room
pub record Sound (t : Tables) : Type 0 where
  pub declared : (k : ℕ) → k < length t.env.identifiers → declaration_of t.env k < length t.env.identifiers
  pub work : length t.env.identifiers ≤ length t.notes.work
  pub marks : length t.env.functions ≤ length t.notes.marks
  pub room : t.env.count + unnamed t.env.identifiers ≤ length t.env.journal
  pub scopes : (s : ℕ) → s < length t.env.scopes → ScopeSound t.env s
  pub functions : (f : ℕ) → f < length t.env.functions → FunctionSound t.env f

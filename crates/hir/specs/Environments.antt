-- What an environment stands for. Assumes nothing.
use Rattle.std.specs.Prelude.{ℕ, ◌+◌, cond, List, [], ◌∷◌, take, ◌==◌, slice_index_or, slice_set}
use Rattle.hir.specs.declared.span.Span.{Span}
use Rattle.hir.specs.declared.tables.Identifier.{Identifier}
use Rattle.hir.specs.declared.tables.Scope.{Scope}
use Rattle.hir.specs.declared.tables.Function.{Function}
use Rattle.hir.specs.declared.tables.JournalRow.{JournalRow}
use Rattle.hir.specs.declared.environment.Environment.{Environment}

-- what an environment holds: its tables, the pool, all rows of the journal, and how many of these are in use
pub record Model : Type 0 where
  pub identifiers : List Identifier
  pub scopes : List Scope
  pub functions : List Function
  pub pool : List ℕ
  pub journal : List JournalRow
  pub count : ℕ

-- what the slices that are lent to an environment hold now, with the count of journal rows in use
abbrev pub model : Environment → Model
model e = record {
  identifiers = e.identifiers.now;
  scopes = e.scopes.now;
  functions = e.functions.now;
  pool = e.pool.now;
  journal = e.journal.now;
  count = e.count;
}

-- an environment of these tables, with an empty journal
abbrev pub fresh : List Identifier → List Scope → List Function → List ℕ → List JournalRow → Model
fresh is ss fs pool js = record { identifiers = is; scopes = ss; functions = fs; pool = pool; journal = js; count = 0 }

-- an empty list at the start of the pool
abbrev pub no_span : Span
no_span = record { start = 0; count = 0 }

-- the row that is read where an identifier has none: without a name, and of declaration 0
abbrev pub no_identifier : Identifier
no_identifier = record { declaration = record { 0 = 0 }; tag = 0 }

-- the scope that is read where there is none: three empty lists
abbrev pub no_scope : Scope
no_scope = record { dependencies = no_span; declarations = no_span; reassignments = no_span }

-- the function that is read where there is none: neither parameters nor nested functions
abbrev pub no_function : Function
no_function = record { parameters = no_span; nested = no_span }

-- the row of an identifier
abbrev pub row_of : Model → ℕ → Identifier
row_of m i = slice_index_or m.identifiers i no_identifier

-- the tag of an identifier; 0, which is no name, for one without a row
abbrev pub tag_of : Model → ℕ → ℕ
tag_of m i = (row_of m i).tag

-- the declaration number of an identifier; 0, which may be that of others too, for one without a row
abbrev pub declaration_of : Model → ℕ → ℕ
declaration_of m i = (row_of m i).declaration.0

-- the scope of a scope number; one with empty lists, where the number has no row
abbrev pub scope_of : Model → ℕ → Scope
scope_of m s = slice_index_or m.scopes s no_scope

-- the function of a function number; one with empty lists, where the number has no row
abbrev pub function_of : Model → ℕ → Function
function_of m f = slice_index_or m.functions f no_function

-- the journal rows in use
abbrev pub journal_of : Model → List JournalRow
journal_of m = take m.count m.journal

-- an identifier's row with this tag and its declaration as it was
abbrev pub with_tag : Identifier → ℕ → Identifier
with_tag i t = record { declaration = i.declaration; tag = t }

-- the tag of one identifier is set
abbrev pub tagged : Model → ℕ → ℕ → Model
tagged m i t = record {
  identifiers = slice_set m.identifiers i (with_tag (row_of m i) t);
  scopes = m.scopes;
  functions = m.functions;
  pool = m.pool;
  journal = m.journal;
  count = m.count;
}

-- one row more in the journal
abbrev pub journaled : Model → JournalRow → Model
journaled m r = record {
  identifiers = m.identifiers;
  scopes = m.scopes;
  functions = m.functions;
  pool = m.pool;
  journal = slice_set m.journal m.count r;
  count = m.count + 1;
}

-- how many identifiers have no name
abbrev pub unnamed : List Identifier → ℕ
unnamed [] = 0
unnamed (i ∷ is) = cond (i.tag == 0) 1 0 + unnamed is

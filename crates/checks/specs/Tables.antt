-- When a run refuses its tables or parameters. Assumes nothing.
use Rattle.std.specs.Prelude.{ℕ, ◌+◌, ◌-◌, Bool, ◌||◌, leb, List, length, None, Option, nat_le, nat_lt}
use Rattle.hir.specs.declared.refusal.Refusal.{Refusal}
use Rattle.hir.specs.declared.refusal.Refusal.TheVariants as refusals
use Rattle.hir.specs.declared.span.Span.{Span}
use Rattle.hir.specs.declared.tables.Identifier.{Identifier}
use Rattle.hir.specs.declared.tables.Scope.{Scope}
use Rattle.hir.specs.declared.tables.Function.{Function}
use Rattle.hir.specs.Environments.{Model, unnamed}
use Rattle.std.specs.List.{list_any}
use Rattle.hir.specs.Refusals.{refused_if}
use Rattle.hir.specs.Scratches.{Notes}
use Rattle.hir.specs.Spans.{part}

-- a list of more than 4,096 numbers
abbrev pub long_list : Span → Bool
long_list s = nat_lt 4096 s.count

-- a list of the scope has more than 4,096 numbers
abbrev pub long_scope : Scope → Bool
long_scope s = long_list s.dependencies || (long_list s.declarations || long_list s.reassignments)

-- a list of the function has more than 4,096 numbers
abbrev pub long_function : Function → Bool
long_function f = long_list f.parameters || long_list f.nested

-- more than 65,536 identifiers
abbrev pub many_identifiers : Model → Bool
many_identifiers m = nat_lt 65536 (length m.identifiers)

-- a limit passed: identifiers, scopes, functions, or the length of a list
abbrev pub passes_limit : Model → Span → Bool
passes_limit m ps =
    many_identifiers m
    || (nat_lt 16384 (length m.scopes) || (nat_lt 4096 (length m.functions)
    || (list_any long_scope m.scopes || (list_any long_function m.functions || long_list ps))))

-- a declaration not below the identifier count, or a tag above 3
abbrev pub bad_row : ℕ → Identifier → Bool
bad_row n i = nat_le n i.declaration.0 || nat_lt 3 i.tag

-- a list that leaves the pool, or names an item not below n
abbrev pub bad_list : ℕ → List ℕ → Span → Bool
bad_list n pool s = nat_lt (length pool) (s.start + s.count) || list_any (leb n) (part pool s)

-- a list of the scope leaves the pool, or names an identifier not below n
abbrev pub bad_scope : ℕ → List ℕ → Scope → Bool
bad_scope n pool s = bad_list n pool s.dependencies || (bad_list n pool s.declarations || bad_list n pool s.reassignments)

-- a list of the function leaves the pool, or names a parameter not below n or a nested function not below fs
abbrev pub bad_function : ℕ → ℕ → List ℕ → Function → Bool
bad_function n fs pool f = bad_list n pool f.parameters || bad_list fs pool f.nested

-- a list of some scope or function, or the own parameters, leaves the pool or names an identifier or a function that has no row
abbrev pub bad_lists : Model → Span → Bool
bad_lists m ps =
    list_any (bad_scope (length m.identifiers) m.pool) m.scopes
    || (list_any (bad_function (length m.identifiers) (length m.functions) m.pool) m.functions
    || bad_list (length m.identifiers) m.pool ps)

-- the count is beyond the journal's length, or fewer rows are free than identifiers have no name
abbrev pub no_room : Model → Bool
no_room m = nat_lt (length m.journal) m.count || nat_lt (length m.journal - m.count) (unnamed m.identifiers)

-- fewer work rows than identifiers, or fewer marks than functions
abbrev pub little_scratch : Model → Notes → Bool
little_scratch m n = nat_lt (length n.work) (length m.identifiers) || nat_lt (length n.marks) (length m.functions)

-- the first fault of the tables and the own parameters
abbrev pub tables_refusal : Model → Notes → Span → Option Refusal
tables_refusal m n ps =
    refused_if (passes_limit m ps) refusals.Limit
    (refused_if (list_any (bad_row (length m.identifiers)) m.identifiers) refusals.Row
    (refused_if (bad_lists m ps) refusals.List
    (refused_if (no_room m) refusals.Journal
    (refused_if (little_scratch m n) refusals.Scratch None))))

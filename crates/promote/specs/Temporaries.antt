-- The second pass on the tables: its acts and what each does. Assumes nothing.
use Rattle.std.specs.Prelude.{ℕ, zero, suc, ◌+◌, Bool, true, false, cond, ◌&&◌, List, [], ◌∷◌, length, take, Some, None, Option, ◌==◌, slice_index_or, slice_set}
use Rattle.hir.specs.declared.ids.FunctionId.{FunctionId}
use Rattle.hir.specs.declared.ids.IdentifierId.{IdentifierId}
use Rattle.hir.specs.declared.ids.ScopeId.{ScopeId}
use Rattle.hir.specs.declared.span.Span.{Span}
use Rattle.hir.specs.declared.tables.Reason.TheVariants as reasons
use Rattle.hir.specs.Environments.{Model, declaration_of, scope_of, function_of}
use Rattle.std.specs.List.{fold}
use Rattle.hir.specs.Scratches.{Tables, both, work_of}
use Rattle.hir.specs.Sound.{KnownFunction, KnownScope}
use Rattle.hir.specs.Spans.{identifiers_in, functions_in}
use Rattle.reactive.specs.declared.code.Code.TheVariants as codes
use Rattle.reactive.specs.declared.row.Number.{Number}
use Rattle.reactive.specs.declared.row.RowHead.{RowHead}
use Rattle.reactive.specs.declared.row.Number.TheVariants as numbers
use Rattle.reactive.specs.Codes.{code_number}
use Rattle.reactive.specs.Rows.{Row}
use Rattle.walk.specs.Events.{Whole, Event, entering, leaving, events, acts_of}
use Rattle.promote.specs.declared.temporaries.PromoteTemporaries.{PromoteTemporaries}
use Rattle.promote.specs.Growth as growth
use Rattle.promote.specs.Identifier.{is_unnamed, promote_if, promote_unnamed}

-- a Scope row comes, or a Pruned row, or a row that names a function
pub data Act : Type 0 where
  scope : ScopeId → Act
  pruned : ScopeId → Act
  inner : FunctionId → Act

-- an identifier is named if it has no name and its declaration escaped
abbrev pub promote_escaped : Tables → IdentifierId → Tables
promote_escaped t i = promote_if (is_unnamed t.env i && (work_of t.notes (declaration_of t.env i.0)).escaped) reasons.Escape t i

-- the function is marked as visited in this run; one without a mark in scratch is not
abbrev pub is_marked : Tables → FunctionId → Bool
is_marked t f = slice_index_or t.notes.marks f.0 false

-- the function is marked as visited; where scratch has no mark for it, nothing changes
abbrev pub with_mark : Tables → FunctionId → Tables
with_mark t f = both t.env (record { work = t.notes.work; marks = slice_set t.notes.marks f.0 true; trail = t.notes.trail })

-- a function is marked, and its parameters are named
abbrev pub entered : Tables → FunctionId → Tables
entered t f = fold (promote_unnamed reasons.InnerParameter) (with_mark t f) (identifiers_in t.env.pool (function_of t.env f.0).parameters)

-- the functions that lie directly in a function
abbrev pub nested_in : Tables → FunctionId → List FunctionId
nested_in t f = functions_in t.env.pool (function_of t.env f.0).nested

-- a function and those nested in it, at most k deep, are visited, depth first, each once
abbrev pub visit : ℕ → Tables → FunctionId → Tables
visit zero t f = t
visit (suc k) t f = cond (is_marked t f) t (fold (visit k) (entered t f) (nested_in t f))

-- how many of the marks are not set
abbrev pub unmarked : List Bool → ℕ
unmarked [] = 0
unmarked (m ∷ ms) = cond m 0 1 + unmarked ms

-- how many functions are not marked: no visit goes deeper
abbrev pub unvisited : Tables → ℕ
unvisited t = unmarked (take (length t.env.functions) t.notes.marks)

-- what an act leaves: a scope names its dependencies and then its declarations, a pruned scope its escaped declarations, a function what a visit names
abbrev pub does : Tables → Act → Tables
does t (scope s) =
    fold (promote_unnamed reasons.Scope)
    (fold (promote_unnamed reasons.Scope) t (identifiers_in t.env.pool (scope_of t.env s.0).dependencies))
    (identifiers_in t.env.pool (scope_of t.env s.0).declarations)
does t (pruned s) = fold promote_escaped t (identifiers_in t.env.pool (scope_of t.env s.0).declarations)
does t (inner f) = visit (length t.env.functions) t f

-- the act of a row, by its code and number
abbrev pub row_acts : ℕ → Option Number → List Act
row_acts c None = []
row_acts c (Some (numbers.Scope s)) =
    cond (c == code_number codes.Scope) (scope s ∷ []) (cond (c == code_number codes.Pruned) (pruned s ∷ []) [])
row_acts c (Some (numbers.Function f)) = inner f ∷ []

-- what is kept of an open row: nothing
abbrev pub keeps : RowHead → Unit {0}
keeps r = tt

-- the act of a row that is entered; a row that is left has none
abbrev pub acts : Event (Unit {0}) → List Act
acts (entering p r) = row_acts r.code r.number
acts (leaving r) = []

-- the acts of all rows, in walk order
abbrev pub pass_acts : List Row → List Act
pass_acts rs = acts_of acts (events keeps [] rs)

-- an act speaks of a scope or a function that has a row
abbrev pub Fits : Model → Act → Type 0
Fits m (scope s) = KnownScope m s
Fits m (pruned s) = KnownScope m s
Fits m (inner f) = KnownFunction m f

-- the acts can be done
abbrev pub Ready : Tables → List Act → Type 0
Ready = growth.Ready Fits

-- the tables are such that the acts of an event can be done
abbrev pub Readies : Whole PromoteTemporaries → Event (Unit {0}) → Type 0
Readies w e = Ready w.tables (acts e)

-- own parameters are named, and then what the rows take
abbrev pub promote_temporaries : Tables → Span → List Row → Tables
promote_temporaries t ps rs = fold does (fold (promote_unnamed reasons.OwnParameter) t (identifiers_in t.env.pool ps)) (pass_acts rs)

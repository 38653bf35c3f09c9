-- The last pass on the tables: its acts and what each does. Assumes nothing.
use Rattle.std.specs.Prelude.{ℕ, Bool, cond, ◌&&◌, List, [], ◌++◌, map, Option, ◌==◌}
use Rattle.hir.specs.declared.ids.FunctionId.{FunctionId}
use Rattle.hir.specs.declared.ids.IdentifierId.{IdentifierId}
use Rattle.hir.specs.declared.ids.ScopeId.{ScopeId}
use Rattle.hir.specs.declared.span.Span.{Span}
use Rattle.hir.specs.declared.tables.Identifier.{Identifier}
use Rattle.hir.specs.declared.tables.Reason.TheVariants as reasons
use Rattle.hir.specs.Environments.{Model, row_of, scope_of, function_of}
use Rattle.std.specs.List.{fold}
use Rattle.hir.specs.Scratches.{Notes, Tables, work_of}
use Rattle.hir.specs.Sound.{Known, KnownFunction, KnownScope}
use Rattle.hir.specs.Spans.{identifiers_in}
use Rattle.reactive.specs.declared.code.Code.TheVariants as codes
use Rattle.reactive.specs.declared.row.Number.{Number}
use Rattle.reactive.specs.declared.row.RowHead.{RowHead}
use Rattle.reactive.specs.Codes.{code_number, listed}
use Rattle.reactive.specs.Numbers.{scope_in, function_in}
use Rattle.reactive.specs.Rows.{Row}
use Rattle.walk.specs.Events.{Whole, Event, entering, leaving, events, acts_of}
use Rattle.promote.specs.Growth as growth
use Rattle.promote.specs.Identifier.{promote_if}
use Rattle.instances.specs.declared.instances.PromoteAllInstances.{PromoteAllInstances}

-- an identifier is visited, or the parameters of a function, or the lists of a scope whose row is left
pub data Act : Type 0 where
  again : IdentifierId → Act
  parameters : FunctionId → Act
  leaves : ScopeId → Act

-- an identifier has no name, though this run named one of its declaration
abbrev pub is_left : Notes → Identifier → Bool
is_left n i = i.tag == 0 && (work_of n i.declaration.0).promoted

-- an identifier is named if it has no name and this run named one of its declaration
abbrev pub promote_instance : Tables → IdentifierId → Tables
promote_instance t i = promote_if (is_left t.notes (row_of t.env i.0)) reasons.SameDeclaration t i

-- what an act leaves: what it visits is named as `promote_instance` says; of a scope first declarations, then dependencies, then reassignments
abbrev pub does : Tables → Act → Tables
does t (again i) = promote_instance t i
does t (parameters f) = fold promote_instance t (identifiers_in t.env.pool (function_of t.env f.0).parameters)
does t (leaves s) =
    fold promote_instance
    (fold promote_instance
    (fold promote_instance t (identifiers_in t.env.pool (scope_of t.env s.0).declarations))
    (identifiers_in t.env.pool (scope_of t.env s.0).dependencies))
    (identifiers_in t.env.pool (scope_of t.env s.0).reassignments)

-- a Leaf's operands and the parameters of its function; of another row the identifier
abbrev pub row_acts : ℕ → Option IdentifierId → Option Number → List IdentifierId → List Act
row_acts c i n os = cond (c == code_number codes.Leaf) (map again os ++ map parameters (listed (function_in n))) (map again (listed i))

-- what is kept of an open row: its scope
abbrev pub keeps : RowHead → Option ScopeId
keeps r = scope_in r.number

-- the acts of a row that is entered, or left: then its scope's lists are visited, if it has a scope
abbrev pub acts : Event (Option ScopeId) → List Act
acts (entering p r) = row_acts r.code r.identifier r.number r.operands
acts (leaving s) = map leaves (listed s)

-- the acts of all rows, in walk order
abbrev pub pass_acts : List Row → List Act
pass_acts rs = acts_of acts (events keeps [] rs)

-- an act speaks of what has a row
abbrev pub Fits : Model → Act → Type 0
Fits m (again i) = Known m i
Fits m (parameters f) = KnownFunction m f
Fits m (leaves s) = KnownScope m s

-- the acts can be done
abbrev pub Ready : Tables → List Act → Type 0
Ready = growth.Ready Fits

-- the tables are such that the acts of an event can be done
abbrev pub Readies : Whole PromoteAllInstances → Event (Option ScopeId) → Type 0
Readies w e = Ready w.tables (acts e)

-- own parameters are visited, and then the rows
abbrev pub promote_all_instances : Tables → Span → List Row → Tables
promote_all_instances t ps rs = fold does (fold promote_instance t (identifiers_in t.env.pool ps)) (pass_acts rs)

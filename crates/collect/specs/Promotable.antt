-- The first pass on the tables: its acts and what each does. Assumes nothing.
use Rattle.std.specs.Prelude.{ℕ, ◌+◌, ◌^◌, ◌<◌, ◌≤◌, Bool, true, false, cond, not, List, [], ◌∷◌, ◌++◌, Some, None, Option, IfSome, map, length, ◌==◌, slice_set, ◌&&◌, is_some}
use Rattle.hir.specs.declared.ids.IdentifierId.{IdentifierId}
use Rattle.hir.specs.declared.ids.ScopeId.{ScopeId}
use Rattle.hir.specs.declared.scratch.Trail.{Trail}
use Rattle.hir.specs.declared.scratch.Work.{Work}
use Rattle.hir.specs.Environments.{Model, declaration_of, scope_of}
use Rattle.hir.specs.Lists.{Each}
use Rattle.std.specs.List.{fold}
use Rattle.hir.specs.Scratches.{Notes, Tables, both, work_of}
use Rattle.hir.specs.Sound.{Sound, Known, KnownScope}
use Rattle.hir.specs.Spans.{identifiers_in}
use Rattle.reactive.specs.declared.code.Code.TheVariants as codes
use Rattle.reactive.specs.declared.row.RowHead.{RowHead}
use Rattle.reactive.specs.Codes.{code_number, used_in, listed}
use Rattle.reactive.specs.Numbers.{scope_in}
use Rattle.reactive.specs.Rows.{Row, is}
use Rattle.walk.specs.Events.{Whole, whole, Event, entering, leaving, events, acts_of}
use Rattle.promote.specs.Identifier.{with_work}
use Rattle.collect.specs.declared.promotable.CollectPromotable.{CollectPromotable}
use Rattle.collect.specs.Links.{trail_of, reach, is_along}

-- a Scope row is entered or left, a Pruned row comes, an identifier is used, or it is a JSX tag
pub data Act : Type 0 where
  opens : ScopeId → Act
  shuts : Act
  prunes : ScopeId → Act
  sees : IdentifierId → Act
  flags : IdentifierId → Act

-- a declaration that is that of a JSX tag
abbrev pub as_tag : Work → Work
as_tag w = record { tag = true; promoted = w.promoted; recorded = w.recorded; escaped = w.escaped; constant = w.constant; global = w.global; tracked = w.tracked }

-- a declaration recorded under this link, with no escape since
abbrev pub as_recorded : Option ℕ → Work → Work
as_recorded l w = record { tag = w.tag; promoted = w.promoted; recorded = Some l; escaped = false; constant = w.constant; global = w.global; tracked = w.tracked }

-- a declaration that was used in another scope
abbrev pub as_escaped : Work → Work
as_escaped w = record { tag = w.tag; promoted = w.promoted; recorded = w.recorded; escaped = true; constant = w.constant; global = w.global; tracked = w.tracked }

-- the work row of an identifier's declaration
abbrev pub work_by : Tables → IdentifierId → Work
work_by t i = work_of t.notes (declaration_of t.env i.0)

-- that row is changed
abbrev pub noting : (Work → Work) → Tables → IdentifierId → Tables
noting f t i = both t.env (with_work t.notes (declaration_of t.env i.0) (f (work_by t i)))

-- a declaration is recorded under the innermost active scope, which takes an escape back
abbrev pub recorded_at : Option ℕ → Tables → IdentifierId → Tables
recorded_at innermost t i = noting (as_recorded innermost) t i

-- a link was recorded and some scope is active, and the innermost is not among those along that link
abbrev pub is_outside : List Trail → Option (Option ℕ) → Option ℕ → Bool
is_outside trail None innermost = false
is_outside trail (Some l) None = false
is_outside trail (Some l) (Some j) = not (is_along trail l (trail_of trail j).scope.0)

-- the declaration was recorded, and the innermost active scope is not among those active then
abbrev pub escapes_at : Option ℕ → Notes → Work → Bool
escapes_at innermost n w = is_outside n.trail w.recorded innermost

-- a declaration is used under the innermost active scope
abbrev pub used_at : Option ℕ → Tables → IdentifierId → Tables
used_at innermost t i = cond (escapes_at innermost t.notes (work_by t i)) (noting as_escaped t i) t

-- what a scope declares
abbrev pub declared_in : Model → ScopeId → List IdentifierId
declared_in m s = identifiers_in m.pool (scope_of m s.0).declarations

-- one trail row is set
abbrev pub with_trail : Notes → ℕ → Trail → Notes
with_trail n i r = record { work = n.work; marks = n.marks; trail = slice_set n.trail i r }

-- an active scope and the link of the one around it
abbrev pub trail_row : ScopeId → Option ℕ → Trail
trail_row s l = record { scope = s; link = l }

-- the link of the scope around the innermost active one
abbrev pub around : Notes → Option ℕ → Option ℕ
around n None = None
around n (Some j) = (trail_of n.trail j).link

-- the pass under this link, with so many trail rows in use
abbrev pub at : Option ℕ → ℕ → CollectPromotable
at innermost used = record { innermost = innermost; used = used }

-- what an act does to the pass and the tables
abbrev pub does : Whole CollectPromotable → Act → Whole CollectPromotable
does w (opens s) =
    whole (at (Some w.visitor.used) (w.visitor.used + 1))
    (both w.tables.env (with_trail w.tables.notes w.visitor.used (trail_row s w.visitor.innermost)))
does w shuts = whole (at (around w.tables.notes w.visitor.innermost) w.visitor.used) w.tables
does w (prunes s) = whole w.visitor (fold (recorded_at w.visitor.innermost) w.tables (declared_in w.tables.env s))
does w (sees i) = whole w.visitor (used_at w.visitor.innermost w.tables i)
does w (flags i) = whole w.visitor (noting as_tag w.tables i)

-- a Leaf uses its operands, and a JSX expression's marks are tags
abbrev pub leaf_acts : Row → List Act
leaf_acts r = map sees r.operands ++ cond (r.kind == 15) (map flags r.marks) []

-- the acts of a row that is entered, by its code
abbrev pub row_acts : Row → List Act
row_acts r =
    cond (is codes.Scope r) (map opens (listed (scope_in r.number)))
    (cond (is codes.Pruned r) (map prunes (listed (scope_in r.number)))
    (cond (is codes.Leaf r) (leaf_acts r) (map sees (listed (used_in r.code r.identifier)))))

-- what is kept of an open row: whether it made a scope active
abbrev pub keeps : RowHead → Bool
keeps r = r.code == code_number codes.Scope && is_some (scope_in r.number)

-- the acts of a row that is entered, or left: one that made a scope active then makes it inactive
abbrev pub acts : Event Bool → List Act
acts (entering p r) = row_acts r
acts (leaving active) = cond active (shuts ∷ []) []

-- the acts of all rows
abbrev pub pass_acts : List Row → List Act
pass_acts rs = acts_of acts (events keeps [] rs)

-- an act speaks of what has a row
abbrev pub Fits : Model → Act → Type 0
Fits m (opens s) = Unit {0}
Fits m shuts = Unit {0}
Fits m (prunes s) = KnownScope m s
Fits m (sees i) = Known m i
Fits m (flags i) = Known m i

-- how many trail rows acts append
abbrev pub openings : List Act → ℕ
openings [] = 0
openings (opens s ∷ more) = 1 + openings more
openings (shuts ∷ more) = openings more
openings (prunes s ∷ more) = openings more
openings (sees i ∷ more) = openings more
openings (flags i ∷ more) = openings more

-- every trail row in use leads to an earlier one, and every recorded link to a row in use
pub record Linked (v : CollectPromotable) (n : Notes) : Type 0 where
  pub innermost : reach v.innermost ≤ v.used
  pub down : (j : ℕ) → j < v.used → reach (trail_of n.trail j).link ≤ j
  pub recorded : (d : ℕ) → IfSome (work_of n d).recorded (λ l. reach l ≤ v.used)

-- the acts can be done; no type holds it, since it is of lent tables, and each function asks it of other acts
pub record Ready (w : Whole CollectPromotable) (todo : List Act) : Type 0 where
  pub sound : Sound w.tables
  pub linked : Linked w.visitor w.tables.notes
  pub fits : Each (Fits w.tables.env) todo
  pub room : w.visitor.used + openings todo ≤ length w.tables.notes.trail
  pub low : w.visitor.used + openings todo + 1 < 2 ^ 32

-- what an event needs
abbrev pub Readies : Whole CollectPromotable → Event Bool → Type 0
Readies w e = Ready w (acts e)

-- no scope is active, and no trail row in use
abbrev pub begun : Tables → Whole CollectPromotable
begun t = whole (at None 0) t

-- what the rows leave
abbrev pub collected : Tables → List Row → Tables
collected t rs = (fold does (begun t) (pass_acts rs)).tables

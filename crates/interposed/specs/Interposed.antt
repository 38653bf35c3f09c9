-- The acts of a tree in the third pass. Assumes nothing.
use Rattle.std.specs.Prelude.{ℕ, cond, List, [], ◌∷◌, ◌++◌, map, Some, None, Option, ◌==◌}
use Rattle.hir.specs.declared.ids.IdentifierId.{IdentifierId}
use Rattle.hir.specs.declared.span.Span.{Span}
use Rattle.std.specs.List.{fold}
use Rattle.hir.specs.Scratches.{Tables}
use Rattle.hir.specs.Spans.{identifiers_in}
use Rattle.reactive.specs.declared.code.Code.TheVariants as codes
use Rattle.reactive.specs.declared.row.RowHead.{RowHead}
use Rattle.reactive.specs.Codes.{code_number, used_in, listed}
use Rattle.reactive.specs.Rows.{Row, head}
use Rattle.walk.specs.Events.{whole, Event, entering, leaving, events, acts_of}
use Rattle.interposed.specs.declared.interposed.Parent.{Parent}
use Rattle.interposed.specs.declared.interposed.Parent.TheVariants.{Other, WithoutLvalue, WithLvalue}
use Rattle.interposed.specs.Kinds.{is_load, is_property_load, is_global_load, is_barrier, fixes_marks, may_raise}
use Rattle.interposed.specs.Acts.{State, Act, uses, fixes, loads, takes, global, barrier, tracks, does, Ready}

-- before the uses, the marks may become constant
abbrev pub fix_acts : ℕ → ℕ → List IdentifierId → List Act
fix_acts k mode ms = cond (fixes_marks k mode) (map fixes ms) []

-- a load or a property load acts on the lvalue, by the mark
abbrev pub mark_acts : ℕ → IdentifierId → IdentifierId → List Act
mark_acts k l m = cond (is_load k) (loads l m ∷ []) (cond (is_property_load k) (takes l m ∷ []) [])

-- what the first mark does to the lvalue, by the kind; nothing without marks, and no later mark acts
abbrev pub marks_acts : ℕ → IdentifierId → List IdentifierId → List Act
marks_acts k l [] = []
marks_acts k l (m ∷ ms) = mark_acts k l m

-- then a load acts on the lvalue, if there is one
abbrev pub value_acts : ℕ → Option IdentifierId → List IdentifierId → List Act
value_acts k None ms = []
value_acts k (Some l) ms = cond (is_global_load k) (global l ∷ []) (marks_acts k l ms)

-- after the uses, the barrier, and then the tracking of the lvalue
abbrev pub end_acts : ℕ → ℕ → Option IdentifierId → List Act
end_acts k mode l = cond (may_raise k mode) (barrier l ∷ []) [] ++ cond (is_barrier k) (map tracks (listed l)) []

-- a Leaf directly under an Instruction with the lvalue l
abbrev pub leaf_acts : Option IdentifierId → ℕ → ℕ → List IdentifierId → List IdentifierId → List Act
leaf_acts l k mode ms os = fix_acts k mode ms ++ (value_acts k l ms ++ (map uses os ++ end_acts k mode l))

-- an Instruction with this lvalue, or without one
abbrev pub instruction : Option IdentifierId → Parent
instruction None = WithoutLvalue
instruction (Some l) = WithLvalue l

-- what is kept of an open row: whether it is an Instruction, and its lvalue
abbrev pub keeps : RowHead → Parent
keeps r = cond (r.code == code_number codes.Instruction) (instruction r.identifier) Other

-- the acts of a Leaf: within an Instruction those of its kind, anywhere else the uses of its operands
abbrev pub under_acts : Option Parent → ℕ → ℕ → List IdentifierId → List IdentifierId → List Act
under_acts None k mode ms os = map uses os
under_acts (Some Other) k mode ms os = map uses os
under_acts (Some WithoutLvalue) k mode ms os = leaf_acts None k mode ms os
under_acts (Some (WithLvalue l)) k mode ms os = leaf_acts (Some l) k mode ms os

-- the acts of a row that is entered within this parent: those of a Leaf, and of another row the use of its identifier, if its code uses it
abbrev pub row_acts : Option Parent → RowHead → List IdentifierId → List IdentifierId → List Act
row_acts p r ms os = cond (r.code == code_number codes.Leaf) (under_acts p r.kind r.mode ms os) (map uses (listed (used_in r.code r.identifier)))

-- the acts of a row that is entered; a row that is left has none
abbrev pub acts : Event Parent → List Act
acts (entering p r) = row_acts p (head r) r.marks r.operands
acts (leaving i) = []

-- own parameters are constant from the start; then come the rows
abbrev pub pass_acts : List IdentifierId → List Row → List Act
pass_acts ps rs = map fixes ps ++ acts_of acts (events keeps [] rs)

-- the tables and the epoch are such that the acts of an event can be done
abbrev pub Readies : State → Event Parent → Type 0
Readies w e = Ready w (acts e)

-- before the first act, in the first epoch
abbrev pub begun : Tables → State
begun t = whole (record { epoch = 1 }) t

-- what the third pass leaves: the acts of own parameters and rows are done from the first epoch on
abbrev pub promote_interposed : Tables → Span → List Row → Tables
promote_interposed t ps rs = (fold does (begun t) (pass_acts (identifiers_in t.env.pool ps) rs)).tables

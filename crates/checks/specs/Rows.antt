-- When a run refuses its rows. Assumes nothing.
use Rattle.std.specs.Prelude.{ℕ, ◌+◌, ◌-◌, Bool, false, cond, not, ◌&&◌, ◌||◌, leb, List, [], ◌∷◌, length, take, drop, Some, None, Option, ◌==◌, nat_le, nat_lt}
use Rattle.hir.specs.declared.ids.IdentifierId.{IdentifierId}
use Rattle.hir.specs.declared.refusal.Refusal.{Refusal}
use Rattle.hir.specs.declared.refusal.Refusal.TheVariants as refusals
use Rattle.hir.specs.declared.span.Span.{Span}
use Rattle.hir.specs.Environments.{Model}
use Rattle.std.specs.List.{list_any}
use Rattle.hir.specs.Refusals.{refused_if, or_else}
use Rattle.hir.specs.Scratches.{Notes}
use Rattle.reactive.specs.declared.row.Number.{Number}
use Rattle.reactive.specs.declared.row.Number.TheVariants as numbers
use Rattle.reactive.specs.declared.row.RowHead.{RowHead}
use Rattle.reactive.specs.Codes.{has_scope}
use Rattle.reactive.specs.Rows.{Row, head, scope_rows}
use Rattle.checks.specs.declared.sizes.Sizes as own
use Rattle.checks.specs.Grammar.{Slot, between, children, follow, lacking}
use Rattle.checks.specs.Tables.{tables_refusal}

-- how many identifiers, scopes and functions there are
abbrev pub Sizes : Type 0
Sizes = own.Sizes

-- how many identifiers, scopes and functions an environment has
abbrev pub sizes : Model → Sizes
sizes m = record { identifiers = length m.identifiers; scopes = length m.scopes; functions = length m.functions }

-- a row beyond the 262,144th, or a list of more than 4,096 numbers
abbrev pub row_passes_limit : ℕ → RowHead → Bool
row_passes_limit seen r = nat_le 262144 seen || (nat_lt 4096 r.operands || nat_lt 4096 r.marks)

-- the open rows, innermost first, each as the places that it has left
abbrev pub Open : Type 0
Open = List (List Slot)

-- row 0 has depth 0; a later one lies in row 0, and at most one deeper than the row before
abbrev pub wrong_depth : Open → ℕ → Bool
wrong_depth [] d = nat_lt 0 d
wrong_depth (o ∷ os) d = d == 0 || nat_lt (length (o ∷ os)) d

-- the open rows once a child of this code is open in the innermost, which then has these places left; none, where the child has no place
abbrev pub with_child : ℕ → Open → Option (List Slot) → Option Open
with_child c os None = None
with_child c os (Some rest) = Some (children c ∷ rest ∷ os)

-- a row within these rows: row 0 is a Block, another has its place in the innermost
abbrev pub placed : Open → ℕ → Option Open
placed [] c = cond (c == 1) (Some (children c ∷ [])) None
placed (o ∷ os) c = with_child c os (follow o c)

-- a row that has no place is refused
abbrev pub unplaced : Option Open → Option Refusal
unplaced None = Some refusals.Shape
unplaced (Some os) = None

-- the rows that a row of depth d closes: those with d rows around them, or more
abbrev pub closing : Open → ℕ → Open
closing os d = take (length os - d) os

-- the rows that stay open where a row of depth d comes: the d outermost, and all where there are fewer
abbrev pub staying : Open → ℕ → Open
staying os d = drop (length os - d) os

-- the open rows after a row comes, or none where its depth, its code or a closing row's children are wrong
abbrev pub opened : Open → ℕ → ℕ → Option Open
opened os d c = cond (wrong_depth os d || list_any lacking (closing os d)) None (placed (staying os d) c)

-- codes whose identifier is required: Return, Throw, Switch, If
abbrev pub needs_identifier : ℕ → Bool
needs_identifier c = between 12 14 c || c == 21

-- codes whose identifier is optional: Instruction, Case, Handler
abbrev pub may_have_identifier : ℕ → Bool
may_have_identifier c = c == 2 || (c == 15 || c == 24)

-- an identifier is absent where the code requires one, is there where the code has none, or is not below n
abbrev pub wrong_identifier : ℕ → ℕ → Option IdentifierId → Bool
wrong_identifier n c None = needs_identifier c
wrong_identifier n c (Some i) = not (needs_identifier c || may_have_identifier c) || nat_le n i.0

-- a Leaf that is a function expression or an object method
abbrev pub needs_function : ℕ → ℕ → Bool
needs_function c kind = c == 5 && (kind == 17 || kind == 30)

-- a scope or function is absent where the row needs one, is there where the row has none of this sort, or has no row in the tables
abbrev pub wrong_number : Sizes → ℕ → ℕ → Option Number → Bool
wrong_number z c kind None = has_scope c || needs_function c kind
wrong_number z c kind (Some (numbers.Scope s)) = not (has_scope c) || nat_le z.scopes s.0
wrong_number z c kind (Some (numbers.Function f)) = not (needs_function c kind) || nat_le z.functions f.0

-- a mode above 7, or one where the kind has none
abbrev pub wrong_mode : ℕ → ℕ → Bool
wrong_mode kind mode = cond (between 2 6 kind) (nat_lt 7 mode) (not (mode == 0))

-- kinds with exactly one mark
abbrev pub one_mark : ℕ → Bool
one_mark kind = nat_le kind 5 || (kind == 12 || (kind == 23 || kind == 26))

-- the kind cannot have so many marks: exactly one where `one_mark` says so, any number in kind 6, at most one in kind 15, none elsewhere
abbrev pub wrong_marks : ℕ → ℕ → Bool
wrong_marks kind count =
    cond (one_mark kind) (not (count == 1))
    (cond (kind == 6) false
    (cond (kind == 15) (nat_lt 1 count) (not (count == 0))))

-- some identifier of the list is not below n
abbrev pub absent_in : ℕ → List IdentifierId → Bool
absent_in n is = list_any (λ i. leb n i.0) is

-- in a Leaf the kind is above 41, the mode or the number of marks is wrong, or an operand or mark is not below n
abbrev pub wrong_leaf : ℕ → Row → Bool
wrong_leaf n r =
    nat_lt 41 r.kind || (wrong_mode r.kind r.mode || (wrong_marks r.kind (length r.marks)
    || (absent_in n r.operands || absent_in n r.marks)))

-- what belongs to a Leaf is 0 or empty elsewhere
abbrev pub leafless : RowHead → Bool
leafless r = r.kind == 0 && (r.mode == 0 && (r.operands == 0 && r.marks == 0))

-- a field of the row is wrong: its identifier, its number, a Leaf's own fields, or one of these that is not 0 or empty in another row
abbrev pub wrong_fields : Sizes → Row → Bool
wrong_fields z r =
    wrong_identifier z.identifiers r.code r.identifier
    || (wrong_number z r.code r.kind r.number
    || cond (r.code == 5) (wrong_leaf z.identifiers r) (not (leafless (head r))))

-- no rows at all, or a row that lacks a child at the end
abbrev pub ended : Open → Option Refusal
ended [] = Some refusals.Shape
ended (o ∷ os) = refused_if (list_any lacking (o ∷ os)) refusals.Shape None

-- refused by shape, or tested further with the rows that are open then
abbrev pub shaped : Option Open → (Open → Option Refusal) → Option Refusal
shaped None further = Some refusals.Shape
shaped (Some os) further = further os

-- the first fault of the rows, where `seen` came before them: each is tested for its limits, depth, shape and fields
abbrev pub rows_refusal : Sizes → ℕ → Open → List Row → Option Refusal
rows_refusal z seen os [] = ended os
rows_refusal z seen os (r ∷ rs) =
    refused_if (row_passes_limit seen (head r)) refusals.Limit
    (refused_if (nat_lt 127 r.depth) refusals.Depth
    (shaped (opened os r.depth r.code)
    (λ open_now. refused_if (wrong_fields z r) refusals.Field (rows_refusal z (seen + 1) open_now rs))))

-- the first fault of a tree: of its rows, and last of the trail rows for its scopes
abbrev pub tree_refusal : Sizes → ℕ → List Row → Option Refusal
tree_refusal z trail rs = or_else (rows_refusal z 0 [] rs) (refused_if (nat_lt trail (scope_rows rs)) refusals.Scratch None)

-- when a run is refused, and by what
abbrev pub run_refusal : Model → Notes → Span → List Row → Option Refusal
run_refusal m n ps rs = or_else (tables_refusal m n ps) (tree_refusal (sizes m) (length n.trail) rs)

-- What a tree source stands for. Assumes nothing.
use Rattle.std.specs.Prelude.{ℕ, zero, suc, ◌+◌, Bool, cond, List, [], ◌∷◌, length, drop, Some, None, Option, ◌==◌, nat_lt}
use Rattle.std.specs.Option.{option_map, unwrap_or}
use Rattle.std.specs.List.{slice_get}
use Rattle.hir.specs.declared.ids.IdentifierId.{IdentifierId}
use Rattle.reactive.specs.declared.code.Code.{Code}
use Rattle.reactive.specs.declared.row.Number.{Number}
use Rattle.reactive.specs.declared.row.RowHead.{RowHead}
use Rattle.reactive.specs.Codes.{code_number}

-- a row of a tree, with its lists
pub record Row : Type 0 where
  pub depth : ℕ
  pub code : ℕ
  pub identifier : Option IdentifierId
  pub number : Option Number
  pub kind : ℕ
  pub mode : ℕ
  pub operands : List IdentifierId
  pub marks : List IdentifierId

-- the row with the lengths of its lists in their place
abbrev pub head : Row → RowHead
head r = record {
  depth = r.depth;
  code = r.code;
  identifier = r.identifier;
  number = r.number;
  kind = r.kind;
  mode = r.mode;
  operands = length r.operands;
  marks = length r.marks;
}

-- the row has this code
abbrev pub is : Code → Row → Bool
is c r = r.code == code_number c

-- how many Scope rows there are
abbrev pub scope_rows : List Row → ℕ
scope_rows [] = 0
scope_rows (r ∷ rs) = cond (r.code == 3) 1 0 + scope_rows rs

-- a fixed list of rows, and how many of them were given since the start
pub record Reading : Type 0 where
  pub rows : List Row
  pub place : ℕ

-- these rows, of which the first p were given
abbrev pub at_place : List Row → ℕ → Reading
at_place rs p = record { rows = rs; place = p }

-- back at the start, with no row given
abbrev pub rewound : Reading → Reading
rewound s = at_place s.rows 0

-- what `next` answers: the row at the position, or none at the end
abbrev pub upcoming : Reading → Option RowHead
upcoming s = option_map head (slice_get s.rows s.place)

-- one row on; at the end nothing alters
abbrev pub advanced : Reading → Reading
advanced s = at_place s.rows (cond (nat_lt s.place (length s.rows)) (s.place + 1) s.place)

-- the element before a place
abbrev pub before : {A : Type 0} → List A → ℕ → Option A
before xs zero = None
before xs (suc p) = slice_get xs p

-- the row last given
abbrev pub given : Reading → Option Row
given s = before s.rows s.place

-- element i of a list of the row, and none without a row
abbrev pub pick : (Row → List IdentifierId) → Option Row → ℕ → Option IdentifierId
pick f None i = None
pick f (Some r) i = slice_get (f r) i

-- operand i of the row last given; none beyond its operands, and none before any row
abbrev pub operand_at : Reading → ℕ → Option IdentifierId
operand_at s i = pick (λ r. r.operands) (given s) i

-- mark i of the row last given; none beyond its marks, and none before any row
abbrev pub mark_at : Reading → ℕ → Option IdentifierId
mark_at s i = pick (λ r. r.marks) (given s) i

-- the rows that are still to be given
abbrev pub left : Reading → List Row
left s = drop s.place s.rows

-- the row that is read where none was given: of code 0, which is that of no row, without identifier, number and lists
abbrev pub no_row : Row
no_row = record { depth = 0; code = 0; identifier = None; number = None; kind = 0; mode = 0; operands = []; marks = [] }

-- the row last given, where there is one
abbrev pub last_row : Reading → Row
last_row s = unwrap_or (given s) no_row

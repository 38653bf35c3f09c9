-- The numbers of refusals, and what a call answers by them. Assumes nothing.
use Rattle.std.specs.Prelude.{ℕ, Bool, cond, Some, None, Ok, Err, Option, Result}
use Rattle.hir.specs.declared.refusal.Refusal.{Refusal}
use Rattle.hir.specs.declared.refusal.Refusal.TheVariants as refusals

-- the number of a refusal
abbrev pub refusal_number : Refusal → ℕ
refusal_number refusals.Limit = 1
refusal_number refusals.Row = 2
refusal_number refusals.List = 3
refusal_number refusals.Journal = 4
refusal_number refusals.Scratch = 5
refusal_number refusals.Shape = 6
refusal_number refusals.Depth = 7
refusal_number refusals.Field = 8
refusal_number refusals.Absent = 9
refusal_number refusals.Named = 10
refusal_number refusals.NotPromoted = 11
refusal_number refusals.Buffer = 12

-- a condition for a refusal, and what is tested after it
abbrev pub refused_if : Bool → Refusal → Option Refusal → Option Refusal
refused_if b r rest = cond b (Some r) rest

-- the first refusal of two tests
abbrev pub or_else : Option Refusal → Option Refusal → Option Refusal
or_else None o = o
or_else (Some r) o = Some r

-- the answer of a call that is refused, or gives x
abbrev pub answered : {X : Type 0} → Option Refusal → X → Result X Refusal
answered None x = Ok x
answered (Some r) x = Err r

-- what a call leaves: what was there where it is refused
abbrev pub unless : {X : Type 0} → Option Refusal → X → X → X
unless None before after = after
unless (Some r) before after = before

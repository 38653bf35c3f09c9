-- Which children a row may have, in order. Assumes nothing.
use Rattle.std.specs.Prelude.{ℕ, Bool, true, false, cond, ◌&&◌, ◌||◌, List, [], ◌∷◌, Some, None, Option, ◌==◌, nat_le, slice_index_or}
use Rattle.std.specs.List.{list_any}
use Rattle.checks.specs.declared.grammar.Sort.{Sort}
use Rattle.checks.specs.declared.grammar.Sort.TheVariants as sorts
use Rattle.checks.specs.declared.grammar.Places.{Places}
use Rattle.checks.specs.declared.grammar.Places.TheVariants as places

-- n is a, b or a number between them
abbrev pub between : ℕ → ℕ → ℕ → Bool
between a b n = nat_le a n && nat_le n b

-- the codes of a sort
abbrev pub admits : Sort → ℕ → Bool
admits sorts.Block c = c == 1
admits sorts.Statement c = between 2 4 c || (between 10 14 c || between 16 23 c)
admits sorts.Instruction c = c == 2
admits sorts.Value c = between 5 9 c
admits sorts.Case c = c == 15
admits sorts.Handler c = c == 24

-- a place for children of one sort: for exactly one, for one or none, for any number
pub data Slot : Type 0 where
  One : Sort → Slot
  Optional : Sort → Slot
  Many : Sort → Slot

-- a place that has to be filled
abbrev pub required : Slot → Bool
required (One s) = true
required (Optional s) = false
required (Many s) = false

-- the place of exactly one Block
abbrev pub block : Slot
block = One sorts.Block

-- the place of exactly one value
abbrev pub value : Slot
value = One sorts.Value

-- the children of each code, from 0 on, which no row has
abbrev pub child_table : List (List Slot)
child_table =
    [] ∷  -- 0
    (Many sorts.Statement ∷ []) ∷  -- 1 Block
    (value ∷ []) ∷  -- 2 Instruction
    (block ∷ []) ∷  -- 3 Scope
    (block ∷ []) ∷  -- 4 Pruned
    [] ∷  -- 5 Leaf
    (value ∷ value ∷ []) ∷  -- 6 Logical
    (value ∷ value ∷ value ∷ []) ∷  -- 7 Conditional
    (Many sorts.Instruction ∷ value ∷ []) ∷  -- 8 Sequence
    (value ∷ []) ∷  -- 9 Optional
    [] ∷  -- 10 Break
    [] ∷  -- 11 Continue
    [] ∷  -- 12 Return
    [] ∷  -- 13 Throw
    (Many sorts.Case ∷ []) ∷  -- 14 Switch
    (Optional sorts.Block ∷ []) ∷  -- 15 Case
    (block ∷ value ∷ []) ∷  -- 16 DoWhile
    (value ∷ block ∷ []) ∷  -- 17 While
    (value ∷ value ∷ block ∷ Optional sorts.Value ∷ []) ∷  -- 18 For
    (value ∷ value ∷ block ∷ []) ∷  -- 19 ForOf
    (value ∷ block ∷ []) ∷  -- 20 ForIn
    (block ∷ Optional sorts.Block ∷ []) ∷  -- 21 If
    (block ∷ []) ∷  -- 22 Label
    (block ∷ One sorts.Handler ∷ []) ∷  -- 23 Try
    (block ∷ []) ∷  -- 24 Handler
    []

-- the places for children of a row with this code, in order; none for a code without children, nor for a number that is no code
abbrev pub children : ℕ → List Slot
children c = slice_index_or child_table c []

-- the places that are left after a child of this code, or none where it may not come
abbrev pub follow : List Slot → ℕ → Option (List Slot)
follow [] c = None
follow (One s ∷ rest) c = cond (admits s c) (Some rest) None
follow (Optional s ∷ rest) c = cond (admits s c) (Some rest) (follow rest c)
follow (Many s ∷ rest) c = cond (admits s c) (Some (Many s ∷ rest)) (follow rest c)

-- a child is missing
abbrev pub lacking : List Slot → Bool
lacking slots = list_any required slots

-- the places that a value of `Places` stands for
abbrev pub slots : Places → List Slot
slots places.Nothing = []
slots places.Statements = Many sorts.Statement ∷ []
slots places.Cases = Many sorts.Case ∷ []
slots places.InstructionsThenValue = Many sorts.Instruction ∷ value ∷ []
slots places.OptionalBlock = Optional sorts.Block ∷ []
slots places.OptionalValue = Optional sorts.Value ∷ []
slots places.Block = block ∷ []
slots places.BlockThenOptionalBlock = block ∷ Optional sorts.Block ∷ []
slots places.BlockThenOptionalValue = block ∷ Optional sorts.Value ∷ []
slots places.BlockThenValue = block ∷ value ∷ []
slots places.BlockThenHandler = block ∷ One sorts.Handler ∷ []
slots places.Handler = One sorts.Handler ∷ []
slots places.Value = value ∷ []
slots places.ValueThenBlock = value ∷ block ∷ []
slots places.ValueThenBlockThenOptionalValue = value ∷ block ∷ Optional sorts.Value ∷ []
slots places.TwoValues = value ∷ value ∷ []
slots places.TwoValuesThenBlock = value ∷ value ∷ block ∷ []
slots places.TwoValuesThenBlockThenOptionalValue = value ∷ value ∷ block ∷ Optional sorts.Value ∷ []
slots places.ThreeValues = value ∷ value ∷ value ∷ []

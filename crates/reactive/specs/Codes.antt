-- The numbers of row codes, and which rows use their identifier. Assumes nothing.
use Rattle.std.specs.Prelude.{ℕ, Bool, cond, ◌&&◌, ◌||◌, List, [], ◌∷◌, Some, None, Option, ◌==◌, nat_le}
use Rattle.hir.specs.declared.ids.IdentifierId.{IdentifierId}
use Rattle.reactive.specs.declared.code.Code.{Code}
use Rattle.reactive.specs.declared.code.Code.TheVariants as codes

-- the byte that stands for a code in a row; 0 stands for none
abbrev pub code_number : Code → ℕ
code_number codes.Block = 1
code_number codes.Instruction = 2
code_number codes.Scope = 3
code_number codes.Pruned = 4
code_number codes.Leaf = 5
code_number codes.Logical = 6
code_number codes.Conditional = 7
code_number codes.Sequence = 8
code_number codes.Optional = 9
code_number codes.Break = 10
code_number codes.Continue = 11
code_number codes.Return = 12
code_number codes.Throw = 13
code_number codes.Switch = 14
code_number codes.Case = 15
code_number codes.DoWhile = 16
code_number codes.While = 17
code_number codes.For = 18
code_number codes.ForOf = 19
code_number codes.ForIn = 20
code_number codes.If = 21
code_number codes.Label = 22
code_number codes.Try = 23
code_number codes.Handler = 24

-- rows that have a scope: Scope, Pruned
abbrev pub has_scope : ℕ → Bool
has_scope c = c == 3 || c == 4

-- rows that use their identifier: Return, Throw, Switch, Case, If, Handler
abbrev pub uses_identifier : ℕ → Bool
uses_identifier c = (nat_le 12 c && nat_le c 15) || (c == 21 || c == 24)

-- the identifier that a row of this code uses; none, where it is absent or the code uses none, as with an Instruction's lvalue
abbrev pub used_in : ℕ → Option IdentifierId → Option IdentifierId
used_in c i = cond (uses_identifier c) i None

-- what is there as a list of one, and an empty list where nothing is
abbrev pub listed : {A : Type 0} → Option A → List A
listed None = []
listed (Some x) = x ∷ []

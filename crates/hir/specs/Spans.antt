-- What a span of a pool stands for. Assumes nothing.
use Rattle.std.specs.Prelude.{ℕ, List, map, take, drop}
use Rattle.hir.specs.declared.ids.IdentifierId.{IdentifierId}
use Rattle.hir.specs.declared.ids.FunctionId.{FunctionId}
use Rattle.hir.specs.declared.span.Span.{Span}

-- the numbers of a list, cut at the pool's end
abbrev pub part : List ℕ → Span → List ℕ
part pool s = take s.count (drop s.start pool)

-- the identifier of this number, whether or not it has a row
abbrev pub ident : ℕ → IdentifierId
ident n = record { 0 = n }

-- the function of this number, whether or not it has a row
abbrev pub function : ℕ → FunctionId
function n = record { 0 = n }

-- a list of identifiers
abbrev pub identifiers_in : List ℕ → Span → List IdentifierId
identifiers_in pool s = map ident (part pool s)

-- a list of functions
abbrev pub functions_in : List ℕ → Span → List FunctionId
functions_in pool s = map function (part pool s)

-- Which Instructions have no temporary as lvalue. Assumes nothing.
use Rattle.std.specs.Prelude.{Bool, true, not, ◌&&◌, List, Some, None, Option, ◌==◌}
use Rattle.std.specs.List.{list_any}
use Rattle.hir.specs.declared.ids.IdentifierId.{IdentifierId}
use Rattle.hir.specs.Environments.{Model, tag_of}
use Rattle.reactive.specs.declared.code.Code.TheVariants as codes
use Rattle.reactive.specs.declared.row.RowHead.{RowHead}
use Rattle.reactive.specs.Codes.{code_number}
use Rattle.reactive.specs.Rows.{Row, head}

-- the lvalue is absent or named
abbrev pub absent_or_named : Model → Option IdentifierId → Bool
absent_or_named m None = true
absent_or_named m (Some i) = not (tag_of m i.0 == 0)

-- the row is an Instruction whose lvalue is absent or named
abbrev pub without_temporary : Model → RowHead → Bool
without_temporary m r = r.code == code_number codes.Instruction && absent_or_named m r.identifier

-- some row is such an Instruction
abbrev pub some_without_temporary : Model → List Row → Bool
some_without_temporary m rs = list_any (λ r. without_temporary m (head r)) rs

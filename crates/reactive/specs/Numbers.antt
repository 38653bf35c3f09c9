-- The scope or the function that a row's number stands for. Assumes nothing.
use Rattle.std.specs.Prelude.{Some, None, Option}
use Rattle.hir.specs.declared.ids.FunctionId.{FunctionId}
use Rattle.hir.specs.declared.ids.ScopeId.{ScopeId}
use Rattle.reactive.specs.declared.row.Number.{Number}
use Rattle.reactive.specs.declared.row.Number.TheVariants as numbers

-- the scope of a number, where it is one
abbrev pub scope_in : Option Number → Option ScopeId
scope_in None = None
scope_in (Some (numbers.Scope s)) = Some s
scope_in (Some (numbers.Function f)) = None

-- the function of a number, where it is one
abbrev pub function_in : Option Number → Option FunctionId
function_in None = None
function_in (Some (numbers.Scope s)) = None
function_in (Some (numbers.Function f)) = Some f

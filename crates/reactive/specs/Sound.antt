-- Rows whose numbers all have a row in the tables. Assumes nothing.
use Rattle.std.specs.Prelude.{◌≡◌, Some}
use Rattle.hir.specs.declared.ids.FunctionId.{FunctionId}
use Rattle.hir.specs.declared.ids.IdentifierId.{IdentifierId}
use Rattle.hir.specs.declared.ids.ScopeId.{ScopeId}
use Rattle.hir.specs.Environments.{Model}
use Rattle.hir.specs.Lists.{Each}
use Rattle.hir.specs.Sound.{Known, KnownFunction, KnownScope}
use Rattle.reactive.specs.Numbers.{scope_in, function_in}
use Rattle.reactive.specs.Rows.{Row}

-- whatever a row names, its operands and marks among it, has a row in the tables
pub record RowSound (m : Model) (r : Row) : Type 0 where
  pub identifier : (i : IdentifierId) → r.identifier ≡ Some i → Known m i
  pub scope : (s : ScopeId) → scope_in r.number ≡ Some s → KnownScope m s
  pub function : (f : FunctionId) → function_in r.number ≡ Some f → KnownFunction m f
  pub operands : Each (Known m) r.operands
  pub marks : Each (Known m) r.marks

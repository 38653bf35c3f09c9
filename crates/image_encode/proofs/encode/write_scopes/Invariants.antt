use Rattle.std.proofs.Common.{length, map, take, vec_items}
use Rattle.hir.specs.Lists.{Each}
use Rattle.image.specs.Format.{of_scope, section}
use Rattle.image_tables.specs.Tables.{scope_lists}
use Rattle.image_encode.specs.Fits.{ScopeWithin}
use Rattle.image_encode.specs.Puts.{PutAll}
use Rattle.image_encode.proofs.encode.write_scopes.Given as goal

abbrev pub invariant-loop-scope : goal.invariant-loop-scope
invariant-loop-scope l = Each (ScopeWithin (length l.pool)) (take l.scope-index l.scopes) × PutAll (section 1) (map (λ s. of_scope (scope_lists l.pool s)) (take l.scope-index l.scopes)) (vec_items l.initial.out) (vec_items l.out)

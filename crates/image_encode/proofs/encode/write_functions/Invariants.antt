use Rattle.std.proofs.Common.{length, map, take, vec_items}
use Rattle.hir.specs.Lists.{Each}
use Rattle.image.specs.Format.{of_function, section}
use Rattle.image_tables.specs.Tables.{function_lists}
use Rattle.image_encode.specs.Fits.{FunctionWithin}
use Rattle.image_encode.specs.Puts.{PutAll}
use Rattle.image_encode.proofs.encode.write_functions.Given as goal

abbrev pub invariant-loop-function : goal.invariant-loop-function
invariant-loop-function l = Each (FunctionWithin (length l.pool)) (take l.function-index l.functions) × PutAll (section 2) (map (λ f. of_function (function_lists l.pool f)) (take l.function-index l.functions)) (vec_items l.initial.out) (vec_items l.out)

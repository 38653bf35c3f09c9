use Rattle.std.proofs.Common.{arith}
use Rattle.std.proofs.lemmas.Result.{err_from_is_err_and}
use Rattle.image_encode.proofs.Refusing.{hand_on}
use Rattle.image_encode.proofs.Putting.{put_more, each_more, each_at}
use Rattle.image_encode.proofs.encode.write_functions.Goals as goal

pub loop-function-preserved : goal.loop-function-preserved
loop-function-preserved c =
    let w = c.in_ok-write_function.ensures.items in
    (each_more _ c.args.functions.now c.loop-function.function-index _ c.loop-function.invariant.0 (omega arith) w.0, put_more _ _ c.args.functions.now c.loop-function.function-index _ _ c.loop-function.invariant.1 _ _ (omega arith) w.1)

pub returns-in_err-write_function-clause-fault : goal.returns-in_err-write_function-clause-fault
returns-in_err-write_function-clause-fault c =
    let p = err_from_is_err_and c.from_residual.result c.from_residual.ensures.1 in
    hand_on c.from_residual.result p.0 c.in_err-write_function.field-0.0 p.1 p.2 (λ u all. c.in_err-write_function.ensures.fault u (each_at _ c.args.functions.now c.loop-function.function-index _ all (omega arith)))

use Rattle.std.proofs.Common.{arith}
use Rattle.image_encode.proofs.Putting.{put_more, each_more}
use Rattle.image_encode.proofs.encode.write_scopes.Goals as goal

pub loop-scope-preserved : goal.loop-scope-preserved
loop-scope-preserved c =
    let w = c.in_ok-write_scope.ensures.items in
    (each_more _ c.args.scopes.now c.loop-scope.scope-index _ c.loop-scope.invariant.0 (omega arith) w.0, put_more _ _ c.args.scopes.now c.loop-scope.scope-index _ _ c.loop-scope.invariant.1 _ _ (omega arith) w.1)

use Rattle.std.proofs.Common.{arith}
use Rattle.image_encode.proofs.Putting.{put_more}
use Rattle.image_encode.proofs.section.write_identifiers.Goals as goal

pub loop-row-preserved : goal.loop-row-preserved
loop-row-preserved c = put_more _ _ c.args.identifiers.now c.loop-row.row-index _ _ c.loop-row.invariant _ _ (omega arith) c.in_ok-write_identifier.ensures

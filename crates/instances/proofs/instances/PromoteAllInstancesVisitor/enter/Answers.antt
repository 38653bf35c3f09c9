use Rattle.instances.proofs.Passes.{ready_function}
use Rattle.instances.proofs.instances.PromoteAllInstancesVisitor.enter.Goals as goal

pub promote_all_instances_function-requires : goal.promote_all_instances_function-requires
promote_all_instances_function-requires g c =
    let ready = ready_function c.args._parent c.args.row.now c.head-head.result.now c.head-head.ensures c.if-is.ensures _ c.requires _ c.promote_all_instances_operands.ensures c.in-Some.function c.in-Some.ensures in
    record { known = ready.fits.0; sound = ready.sound }

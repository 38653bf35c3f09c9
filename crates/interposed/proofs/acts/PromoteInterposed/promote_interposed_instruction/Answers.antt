use Rattle.interposed.proofs.Passes.{ready_begin, ready_value, ready_uses, ready_end}
use Rattle.interposed.proofs.acts.PromoteInterposed.promote_interposed_instruction.Goals as goal

pub begin_leaf-requires : goal.begin_leaf-requires
begin_leaf-requires g c =
    let r = c.args.row.now in
    ready_begin c.args.lvalue r.kind r.mode r.marks r.operands _ c.requires

pub load_value-requires : goal.load_value-requires
load_value-requires g c =
    let r = c.args.row.now in
    ready_value c.args.lvalue r.kind r.mode r.marks r.operands _ c.requires _ c.begin_leaf.ensures

pub use_operands-requires : goal.use_operands-requires
use_operands-requires g c =
    let r = c.args.row.now in
    ready_uses c.args.lvalue r.kind r.mode r.marks r.operands _ c.requires _ c.begin_leaf.ensures _ c.load_value.ensures

pub end_leaf-requires : goal.end_leaf-requires
end_leaf-requires g c =
    let r = c.args.row.now in
    ready_end c.args.lvalue r.kind r.mode r.marks r.operands _ c.requires _ c.begin_leaf.ensures _ c.load_value.ensures _ c.use_operands.ensures

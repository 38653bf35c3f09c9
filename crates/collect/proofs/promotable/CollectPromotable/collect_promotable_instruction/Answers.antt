use Rattle.std.proofs.Common.{◌==◌, sym, ap, ◌∙◌}
use Rattle.reactive.specs.declared.row.RowHead.{RowHead}
use Rattle.collect.proofs.Leaves.{ready_uses, ready_tags}
use Rattle.collect.proofs.promotable.CollectPromotable.collect_promotable_instruction.Goals as goal

pub collect_promotable_operands-requires : goal.collect_promotable_operands-requires
collect_promotable_operands-requires g c = ready_uses c.args.row.now _ c.requires

pub collect_promotable_tags-requires : goal.collect_promotable_tags-requires
collect_promotable_tags-requires g c =
    let is = ap (λ (h : RowHead). h.kind == 15) (sym c.head.ensures) ∙ sym c.is_kind.ensures ∙ c.if-is_kind.true in
    ready_tags c.args.row.now _ c.requires is _ c.collect_promotable_operands.ensures

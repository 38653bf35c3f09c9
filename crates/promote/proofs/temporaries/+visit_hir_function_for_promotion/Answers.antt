use Rattle.std.proofs.Common.{arith}
use Rattle.hir.specs.Scratches.{tables}
use Rattle.promote.proofs.Visiting.{start_sound, start_nested, start_known, start_less, visiting_none, visiting_known, visiting_more, visiting_all}
use Rattle.promote.proofs.temporaries.+visit_hir_function_for_promotion.Goals as goal

pub loop-n-init : goal.loop-n-init
loop-n-init t c =
    let b = tables c.args.env.now c.args.scratch.now in
    visiting_none _ _
    (start_sound b _ c.args.id _ c.requires.sound c.requires.known c.promote_list.ensures c.of-n-items.ensures)
    (start_known b _ c.args.id _ c.requires.sound c.requires.known c.promote_list.ensures c.of-n-items.ensures)

pub visit_hir_function_for_promotion-requires : goal.visit_hir_function_for_promotion-requires
visit_hir_function_for_promotion-requires t c =
    let b = tables c.args.env.now c.args.scratch.now in
    let less = start_less b _ c.args.id _ c.requires.sound c.requires.known c.promote_list.ensures c.of-n-items.ensures c.if-scratch-f.false in
    (omega (arith, less, c.loop-n.invariant.visited_so.fewer, c.decreases), (visiting_known _ _ _ _ c.loop-n.invariant c.loop-n-test.true, c.loop-n.invariant.sound))

pub loop-n-preserved : goal.loop-n-preserved
loop-n-preserved t c = visiting_more _ _ _ _ c.loop-n.invariant c.loop-n-test.true _ c.visit_hir_function_for_promotion.ensures

pub returns : goal.returns
returns t c =
    let b = tables c.args.env.now c.args.scratch.now in
    visiting_all b _ _ c.args.id _ _ c.requires.sound c.requires.known c.if-scratch-f.false c.promote_list.ensures
    (start_nested b _ c.args.id _ c.requires.sound c.requires.known c.promote_list.ensures c.of-n-items.ensures)
    c.loop-n.invariant (omega arith)

use Rattle.std.proofs.Common.{take, vec_items, sym, ◌∙◌, subst, arith}
use Rattle.std.proofs.lemmas.List.{take_more_set, length-set}
use Rattle.image.specs.Bytes.{see}
use Rattle.image_tables.specs.Tables.{AddedLists}
use Rattle.image_tables.proofs.Spans.{added_more, others_read}
use Rattle.image_tables.proofs.lists.add_lists.Goals as goal

pub loop-span-preserved : goal.loop-span-preserved
loop-span-preserved g c =
    let i = c.loop-span.span-index in
    let inv = c.loop-span.invariant in
    let added = c.in_ok-span.ensures.added in
    record {
      lists =
          subst (λ ss. AddedLists (vec_items c.args.pool.now) (0, c.args.content.now) ss (see c.in_ok-span.field-0-1) (vec_items c.add_list.new.pool)) (sym (take_more_set c.loop-span.span-items i c.in_ok-span.field-0-0 (omega (arith, inv.size, c.loop-span-test.true))))
          (added_more _ _ (take i c.loop-span.span-items) (see c.loop-span.rest) (vec_items c.loop-span.pool) c.in_ok-span.field-0-0 (see c.in_ok-span.field-0-1) (vec_items c.add_list.new.pool) inv.lists added);
      reads = others_read g.row.N i (see c.loop-span.rest) (see c.in_ok-span.field-0-1) added.list c.loop-span-test.true inv.reads added.reads;
      room = c.in_ok-span.ensures.room;
      size = length-set c.loop-span.span-items i c.in_ok-span.field-0-0 ∙ inv.size;
    }

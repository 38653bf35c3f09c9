use Rattle.std.proofs.Common.{◌≡◌, ◌+◌, ◌-◌, ◌*◌, ◌^◌, ◌<◌, true, length, take, is_ok, vec_items, vec_len}
use Rattle.image.specs.Bytes.{see}
use Rattle.image_check.specs.Steps.{lists_end}
use Rattle.image_tables.specs.Tables.{AddedLists}
use Rattle.image_tables.proofs.lists.add_lists.Given as goal

abbrev pub invariant-loop-span : goal.invariant-loop-span
invariant-loop-span g l = record {
  lists : AddedLists (vec_items l.initial.pool) (0, l.content) (take l.span-index l.span-items) (see l.rest) (vec_items l.pool);
  reads : is_ok (lists_end (g.row.N - l.span-index) (see l.rest)) ≡ true;
  room : 4 * vec_len l.pool + length l.rest.rest.now < 2 ^ 32;
  size : length l.span-items ≡ g.row.N;
}

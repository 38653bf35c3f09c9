use Rattle.std.proofs.Common.{◌^◌, ◌<◌, length, ap, ◌∙◌, arith, rules, length-append}
use Rattle.image.specs.Bytes.{see}
use Rattle.image.specs.Steps.{see_numbers}
use Rattle.image_tables.proofs.Chunks.{taken}
use Rattle.image_tables.proofs.lists.add_list.Goals as goal

pub overflow_cast-span-2 : goal.overflow_cast-span-2
overflow_cast-span-2 c =
    let small : length (see_numbers c.in-Ok.list) < 2 ^ 32 = omega (arith, c.requires.room, (taken (see c.args.cursor) (see_numbers c.in-Ok.list) (see c.in-Ok.rest) c.in-Ok.ensures).size) in
    search rules

pub returns-clause-room : goal.returns-clause-room
returns-clause-room c =
    let size = (taken (see c.args.cursor) (see_numbers c.in-Ok.list) (see c.in-Ok.rest) c.in-Ok.ensures).size in
    let more = ap length c.in_ok-add_numbers.ensures ∙ length-append _ (see_numbers c.in-Ok.list) in
    omega (arith, size, more, c.requires.room, c.args.pool.now.ok.0, c.add_numbers.new.pool.ok.0)

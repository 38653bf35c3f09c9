use Rattle.std.proofs.Common.{◌^◌, ◌<◌, vec_items}
use Rattle.image.specs.Bytes.{be}
use Rattle.image_encode.proofs.Writings.{end_written, each_end}
use Rattle.image_encode.proofs.bytes.write_numbers.Goals as goal

pub loop-number-preserved : goal.loop-number-preserved
loop-number-preserved g c =
    let w = c.in_ok-write_u32-2.ensures in
    (each_end (λ n. n < 2 ^ 32) c.loop-number.yielded c.in-Some.number c.loop-number.invariant.0 w.fine, end_written be (vec_items c.write_u32.new.out) (vec_items c.loop-number.out) (vec_items c.write_u32-in-loop-number.new.out) c.loop-number.yielded c.in-Some.number c.loop-number.invariant.1 w.bytes)

use Rattle.std.proofs.Common.{vec_items, arith}
use Rattle.std.proofs.lemmas.Iterator.{YieldsList-from_slice}
use Rattle.std.proofs.lemmas.Iterator.Consumers.{YieldsList-from_copied}
use Rattle.image_encode.proofs.Writings.{list_put}
use Rattle.image_encode.proofs.bytes.write_list.Goals as goal

pub returns-clause-items : goal.returns-clause-items
returns-clause-items c = list_put (vec_items c.args.out.now) (vec_items c.write_numbers.new.out) c.in_ok-try_from.field-0 c.in_ok-write_numbers.ensures (YieldsList-from_copied (YieldsList-from_slice c.args.list.now (cc))) (omega (arith, c.in_ok-try_from.ensures)) (omega (arith, c.in_ok-try_from.ensures))

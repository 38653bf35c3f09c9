use Rattle.std.proofs.Common.{vec_items, rules, arith}
use Rattle.std.proofs.lemmas.List.{length-map}
use Rattle.std.proofs.lemmas.Iterator.{YieldsList-from_map}
use Rattle.std.proofs.lemmas.Iterator.Consumers.{YieldsList-from_first}
use Rattle.image_encode.specs.Fields.{plain}
use Rattle.image_encode.proofs.Writings.{list_put}
use Rattle.image_encode.proofs.row.write_items.Goals as goal

pub returns-clause-items : goal.returns-clause-items
returns-clause-items g c =
    let ids = c.args.ids in
    list_put (vec_items c.args.out.now) (vec_items c.write_numbers.new.out) c.in_ok-try_from.field-0 c.in_ok-write_numbers.ensures (YieldsList-from_map _ plain (YieldsList-from_first (λ x. x) (λ i. i) ids (cc)) (cc) (λ x r q k. search rules)) (omega (arith, c.in_ok-try_from.ensures, length-map ids plain)) (omega (arith, c.in_ok-try_from.ensures))

use Rattle.std.proofs.Common.{◌≡◌, suc, ◌<◌, vec_items, vec_len, refl, arith, rules}
use Rattle.std.proofs.lemmas.List.{length-map}
use Rattle.image_encode.specs.Opens.{none, more}
use Rattle.image_encode.proofs.Opens.{fewer}
use Rattle.image_encode.proofs.tree.OpenRows.close_to.Goals as goal

pub loop-self-init : goal.loop-self-init
loop-self-init c = (none, refl)

pub loop-self-preserved : goal.loop-self-preserved
loop-self-preserved c =
    let old = c.loop-self.self.around in
    let new = c.close.new.self.around in
    let f = fewer _ _ _ _ c.in_ok-close.ensures.closed in
    let one : vec_len old ≡ suc (vec_len new) = omega (arith, length-map (vec_items old) vec_items, length-map (vec_items new) vec_items, old.ok.0, new.ok.0) in
    let deep : c.args.depth < vec_len old = search rules in
    (more c.loop-self.invariant.0 c.in_ok-close.ensures.closed, omega (arith, c.loop-self.invariant.1))

use Rattle.std.proofs.Common.{◌≡◌, IfErr, subst}
use Rattle.reactive.specs.Rows.{Reading}
use Rattle.image_encode.specs.declared.fault.EncodeFault.TheVariants.{Unfit}
use Rattle.image_encode.specs.Trees.{NoTree}
use Rattle.image_encode.proofs.tree.write_tree.Goals as goal

pub returns-clause-none : goal.returns-clause-none
returns-clause-none g c = subst (λ (s : Reading). IfErr c.write_rows-written.result (λ e. e ≡ Unfit → NoTree s.rows)) c.rewind.ensures c.write_rows-written.ensures.none

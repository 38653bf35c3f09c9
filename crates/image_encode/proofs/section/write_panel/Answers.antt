use Rattle.std.proofs.Common.{vec_items, rules}
use Rattle.std.proofs.lemmas.Result.{err_from_is_err_and}
use Rattle.image_encode.specs.Panels.{lent}
use Rattle.image_encode.proofs.Refusing.{hand_on}
use Rattle.image_encode.proofs.Panels.{no_tree_no_fit, long_no_fit}
use Rattle.image_encode.proofs.section.write_panel.Goals as goal

pub returns-in_err-tree-clause-fault : goal.returns-in_err-tree-clause-fault
returns-in_err-tree-clause-fault g c =
    let p = err_from_is_err_and c.from_residual.result c.from_residual.ensures.1 in
    hand_on c.from_residual.result p.0 c.in_err-tree.field-0.0 p.1 p.2 (λ u. no_tree_no_fit _ _ (c.in_err-tree.ensures.none u))

pub returns-clause-fault : goal.returns-clause-fault
returns-clause-fault g c = long_no_fit c.args.pool.now (lent g.S.TreeSource.reading c.args.panel.now) c.deref-2.result.now (vec_items c.in_ok-tree.tree) c.in_ok-tree.ensures.tree (search rules) c.write_part.result c.write_part.ensures.fault

use Rattle.std.proofs.Common.{Ok, Err, refl, ap, ◌∙◌}
use Rattle.std.proofs.lemmas.Result.{err_from_is_err_and}
use Rattle.calls.proofs.Calling.{run_follows}
use Rattle.calls.proofs.perform.call.Goals as goal

pub returns-in_ok-place-in-Run : goal.returns-in_ok-place-in-Run
returns-in_ok-place-in-Run g c =
    let ran = c.in_ok-place-in-Run in
    run_follows g.S.TreeSource.reading _ _ _ c.args.trees.now _ _ _ _ c.index-trees-tree.result c.run.new.source
    (Ok (ran.place, ran.count)) _ _ _ c.in-Run.is c.if-tree-trees.false ran.ensures.step c.run.ensures.source refl

pub returns-in_err-place-in-Run : goal.returns-in_err-place-in-Run
returns-in_err-place-in-Run g c =
    let p = err_from_is_err_and c.from_residual.result c.from_residual.ensures.1 in
    run_follows g.S.TreeSource.reading _ _ _ c.args.trees.now _ _ _ _ c.index-trees-tree.result c.run.new.source
    (Err c.in_err-place-in-Run.field-0.0) _ _ _ c.in-Run.is c.if-tree-trees.false c.in_err-place-in-Run.ensures.step c.run.ensures.source (p.1 ∙ ap Err p.2)

use Rattle.std.proofs.Common.{length, Err, sym, ap, ◌∙◌}
use Rattle.std.proofs.lemmas.Result.{err_from_is_err_and}
use Rattle.hir.specs.Environments.{model}
use Rattle.hir.specs.Refusals.{answered, or_else}
use Rattle.reactive.specs.Rows.{Reading}
use Rattle.reactive.specs.Lvalues.{some_without_temporary}
use Rattle.checks.specs.Rows.{sizes, tree_refusal}
use Rattle.calls.proofs.Passing.{answered_none, answered_some}
use Rattle.calls.proofs.run.check_run.Goals as goal

pub returns-in_err-check_tables-clause-value : goal.returns-in_err-check_tables-clause-value
returns-in_err-check_tables-clause-value g c =
    let p = err_from_is_err_and c.from_residual.result c.from_residual.ensures.1 in
    let rows = (g.S.TreeSource.reading c.args.source.now).rows in
    let tree = tree_refusal (sizes (model c.args.env.now)) (length c.args.scratch.now.trail.now) rows in
    let some = some_without_temporary (model c.args.env.now) rows in
    p.1 ∙ ap Err p.2 ∙ sym (ap (λ o. answered (or_else o tree) some) (answered_some _ _ c.in_err-check_tables.ensures))

pub returns-clause-value : goal.returns-clause-value
returns-clause-value g c =
    let tree = tree_refusal (sizes (model c.args.env.now)) (length c.args.scratch.now.trail.now) in
    let some = some_without_temporary (model c.args.env.now) in
    let rows = (g.S.TreeSource.reading c.args.source.now).rows in
    c.check_rows.ensures.value
    ∙ ap (λ (s : Reading). answered (tree s.rows) (some s.rows)) c.rewind.ensures
    ∙ sym (ap (λ o. answered (or_else o (tree rows)) (some rows)) (answered_none _ _ _ c.in_ok-check_tables.ensures))

use Rattle.std.proofs.Common.{sym, ap, ◌∙◌}
use Rattle.std.specs.List.{list_any}
use Rattle.hir.specs.Environments.{model}
use Rattle.hir.specs.Spans.{ident, part}
use Rattle.hir.proofs.Lists.{any_map}
use Rattle.promote.specs.Identifier.{is_unnamed}
use Rattle.calls.proofs.run.some_unnamed.Goals as goal

pub returns : goal.returns
returns c =
    let m = model c.args.env.now in
    c.some_lacks_name.ensures ∙ ap (list_any (λ n. is_unnamed m (ident n))) c.of.ensures ∙ sym (any_map ident (is_unnamed m) (part m.pool c.args.list))

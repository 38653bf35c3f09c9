use Rattle.std.proofs.Common.{◌≡◌, rules, eqb, ◌∙◌}
use Rattle.std.specs.List.{count_by}
use Rattle.hir.specs.declared.tables.Identifier.{Identifier}
use Rattle.checks.proofs.Loops.{unnamed_count}
use Rattle.checks.proofs.tables.count_unnamed.Goals as goal

pub returns : goal.returns
returns c =
    let e : c.count.result ≡ count_by (λ (i : Identifier). eqb i.tag 0) c.args.identifiers.now = search rules in
    e ∙ unnamed_count c.args.identifiers.now

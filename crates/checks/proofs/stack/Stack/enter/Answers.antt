use Rattle.std.proofs.Common.{◌≡◌, Some, OnOk, sym, ap, ◌∙◌, subst}
use Rattle.hir.specs.Refusals.{answered}
use Rattle.reactive.specs.Codes.{code_number}
use Rattle.checks.specs.Rows.{unplaced}
use Rattle.checks.proofs.Opening.{opened_placed}
use Rattle.checks.proofs.stack.Stack.enter.Goals as goal

pub returns-clause-value : goal.returns-clause-value
returns-clause-value c =
    let q = opened_placed c.args.self.now c.self.inside.rows c.truncate.new.self c.args.depth (code_number c.args.code) c.self.view_is c.truncate.ensures (sym c.if-wrong_depth.ensures) (sym c.if-lacks.ensures) in
    c.place.ensures.value ∙ ap (λ o. answered (unplaced o) tt) (sym q)

pub returns-clause-rows : goal.returns-clause-rows
returns-clause-rows c =
    let q = opened_placed c.args.self.now c.self.inside.rows c.truncate.new.self c.args.depth (code_number c.args.code) c.self.view_is c.truncate.ensures (sym c.if-wrong_depth.ensures) (sym c.if-lacks.ensures) in
    subst (λ o. OnOk c.place.result (o ≡ Some c.place.new.self)) (sym q) c.place.ensures.rows

use Rattle.std.proofs.Common.{◌-◌, length, take, drop, ap, ◌∙◌}
use Rattle.std.specs.List.{list_any}
use Rattle.std.proofs.lemmas.List.{take_rest}
use Rattle.checks.specs.Grammar.{slots, lacking}
use Rattle.checks.proofs.Loops.{found, all_passed}
use Rattle.checks.proofs.Opening.{lacks_closing}
use Rattle.checks.proofs.stack.Stack.lacks.Goals as goal

pub returns-then-lack : goal.returns-then-lack
returns-then-lack c =
    let xs = c.deref.result.now in
    found (λ x. lacking (slots x)) (take (length xs - c.args.depth) (drop c.args.depth xs)) c.loop-places.places-index c.loop-places.invariant _ c.loop-places-test.true c.if-lack.ensures
    ∙ ap (list_any (λ x. lacking (slots x))) (take_rest xs c.args.depth)
    ∙ ap (λ ys. list_any (λ x. lacking (slots x)) (drop c.args.depth ys)) c.deref.ensures.0
    ∙ lacks_closing c.args.self.now c.self.inside.rows c.args.depth c.self.view_is

pub returns : goal.returns
returns c =
    let xs = c.deref.result.now in
    all_passed (λ x. lacking (slots x)) (take (length xs - c.args.depth) (drop c.args.depth xs)) c.loop-places.places-index c.loop-places.invariant c.loop-places-test.false
    ∙ ap (list_any (λ x. lacking (slots x))) (take_rest xs c.args.depth)
    ∙ ap (λ ys. list_any (λ x. lacking (slots x)) (drop c.args.depth ys)) c.deref.ensures.0
    ∙ lacks_closing c.args.self.now c.self.inside.rows c.args.depth c.self.view_is

use Rattle.std.proofs.Common.{◌≡◌, drop}
use Rattle.std.specs.List.{list_any}
use Rattle.checks.specs.Grammar.{slots, lacking}
use Rattle.checks.proofs.stack.Stack.lacks.Given as goal

abbrev pub invariant-loop-places : goal.invariant-loop-places
invariant-loop-places l = list_any (λ x. lacking (slots x)) (drop l.places-index l.places-items) ≡ list_any (λ x. lacking (slots x)) l.places-items

use Rattle.collect.specs.Links.{reach}
use Rattle.collect.proofs.Following.{Following}
use Rattle.collect.proofs.links.is_along.Given as goal

abbrev pub invariant-loop-at : goal.invariant-loop-at
invariant-loop-at l = Following l.trail l.scope.0 l.fn.link l.at

abbrev pub decreases-loop-at : goal.decreases-loop-at
decreases-loop-at l = reach l.at

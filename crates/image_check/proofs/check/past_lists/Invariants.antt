use Rattle.std.proofs.Common.{◌≡◌, ◌-◌}
use Rattle.image.specs.Bytes.{see}
use Rattle.image_check.specs.Steps.{lists_end}
use Rattle.image_check.proofs.check.past_lists.Given as goal

abbrev pub invariant-loop : goal.invariant-loop
invariant-loop l = lists_end l.fn.count (see l.fn.cursor) ≡ lists_end (l.count - l.counter) (see l.rest)

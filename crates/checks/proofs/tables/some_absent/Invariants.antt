use Rattle.std.proofs.Common.{◌≡◌, leb, drop}
use Rattle.std.specs.List.{list_any}
use Rattle.checks.proofs.tables.some_absent.Given as goal

abbrev pub invariant-loop-number : goal.invariant-loop-number
invariant-loop-number l = list_any (leb l.count) (drop l.number-index l.numbers) ≡ list_any (leb l.count) l.numbers

-- The digits that are still to come, before those that stand, are the number's.
use Rattle.std.proofs.Common.{◌≡◌, ◌++◌, length, drop}
use Rattle.naming.specs.Texts.{last_digits}
use Rattle.naming.proofs.digits.write_digits.Given as goal

abbrev pub invariant-loop-place : goal.invariant-loop-place
invariant-loop-place l = last_digits l.base l.place l.rest ++ drop l.place l.places ≡ last_digits l.base (length l.initial.places) l.number

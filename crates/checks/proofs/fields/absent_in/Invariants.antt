use Rattle.std.proofs.Common.{◌≡◌}
use Rattle.checks.specs.Rows.{absent_in}
use Rattle.checks.proofs.fields.absent_in.Given as goal

abbrev pub invariant-loop-id : goal.invariant-loop-id
invariant-loop-id g l =
    (goal.iterator-loop-id g).can_next l.id-iterator ×
    (goal.iterator-loop-id g).is_finite l.id-iterator ×
    (absent_in l.count l.id-iterator ≡ absent_in l.count l.fn.ids)

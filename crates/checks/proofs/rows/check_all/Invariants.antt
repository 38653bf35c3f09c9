use Rattle.std.proofs.Common.{length}
use Rattle.hir.specs.Environments.{model}
use Rattle.reactive.specs.Rows.{left}
use Rattle.checks.proofs.Seeing.{Seen}
use Rattle.checks.proofs.rows.check_all.Given as goal

abbrev pub invariant-loop-row : goal.invariant-loop-row
invariant-loop-row g l = Seen (model l.env) (g.S.TreeSource.reading l.initial.source) (g.S.TreeSource.reading l.source) l.stack l.seen l.scopes l.some_without

abbrev pub decreases-loop-row : goal.decreases-loop-row
decreases-loop-row g l = length (left (g.S.TreeSource.reading l.source))

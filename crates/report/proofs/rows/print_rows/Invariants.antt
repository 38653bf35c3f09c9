use Rattle.std.proofs.Common.{length}
use Rattle.reactive.specs.Rows.{left}
use Rattle.report.proofs.rows.print_rows.Given as goal

abbrev pub decreases-loop-row : goal.decreases-loop-row
decreases-loop-row g l = length (left (g.S.TreeSource.reading l.source))

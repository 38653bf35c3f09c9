use Rattle.reasons.proofs.Idle.{idle_runs}
use Rattle.reasons.proofs.laws.idle_runs_journal_nothing.Goals as goal

pub returns : goal.returns
returns c = idle_runs

use Rattle.calls.proofs.Equal.{equal_runs}
use Rattle.calls.proofs.promise.equal_runs_answer_alike.Goals as goal

pub returns : goal.returns
returns c = equal_runs

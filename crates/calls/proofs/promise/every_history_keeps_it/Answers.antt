use Rattle.calls.proofs.Promises.{promise}
use Rattle.calls.proofs.promise.every_history_keeps_it.Goals as goal

pub returns : goal.returns
returns c = promise

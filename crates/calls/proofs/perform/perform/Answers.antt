use Rattle.std.proofs.Common.{arith}
use Rattle.calls.proofs.Calling.{performing_none, performing_more, performed}
use Rattle.calls.proofs.perform.perform.Goals as goal

pub loop-i-init : goal.loop-i-init
loop-i-init g c = performing_none _ _ _ _

pub loop-i-preserved : goal.loop-i-preserved
loop-i-preserved g c = performing_more _ _ _ _ c.args.requests.now _ c.loop-i.answers c.loop-i.i _ c.call.result (omega arith) (omega arith) c.loop-i.invariant c.call.ensures

pub returns-clause-promise : goal.returns-clause-promise
returns-clause-promise g c = performed _ _ _ _ _ _ _ _ (omega (arith, c.loop-i.auto.i-end)) c.loop-i.invariant

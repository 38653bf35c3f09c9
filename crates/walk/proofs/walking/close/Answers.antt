use Rattle.std.proofs.Common.{arith}
use Rattle.walk.proofs.Opened.{closing_none}
use Rattle.walk.proofs.Rows.{onward_end}
use Rattle.walk.proofs.walking.close.Goals as goal

pub returns-clause-after : goal.returns-clause-after
returns-clause-after g c = onward_end _ _ _ _ _ _ _ c.loop-opened.invariant.1 (closing_none c.loop-opened.opened c.args.depth (omega arith))

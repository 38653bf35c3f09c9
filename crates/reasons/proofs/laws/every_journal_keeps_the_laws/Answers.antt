use Rattle.reasons.proofs.Keeping.{laws}
use Rattle.reasons.proofs.laws.every_journal_keeps_the_laws.Goals as goal

pub returns : goal.returns
returns c = laws

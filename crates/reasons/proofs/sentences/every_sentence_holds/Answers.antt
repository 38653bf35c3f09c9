use Rattle.hir.specs.Spans.{identifiers_in}
use Rattle.collect.specs.Promotable as collect
use Rattle.interposed.specs.Interposed as pass
use Rattle.reasons.specs.Coverings.{named_then}
use Rattle.reasons.proofs.Escaping.{escapes_said, escapes_heard}
use Rattle.reasons.proofs.Finding.{found_said, found_heard}
use Rattle.reasons.proofs.sentences.every_sentence_holds.Goals as goal

pub returns : goal.returns
returns c = λ m ps rs. record {
  escape = λ d. escapes_said m d (collect.pass_acts rs);
  by_escape = λ d. escapes_heard m d (collect.pass_acts rs);
  between = λ x. found_said (named_then m ps rs) (pass.pass_acts (identifiers_in m.pool ps) rs) x;
  by_between = λ x. found_heard (named_then m ps rs) (pass.pass_acts (identifiers_in m.pool ps) rs) x;
}

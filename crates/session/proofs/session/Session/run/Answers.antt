use Rattle.std.proofs.Common.{◌∙◌}
use Rattle.session.specs.Runs.{run_answer, count_after}
use Rattle.session.proofs.Runs.{answers, counts}
use Rattle.session.proofs.session.Session.run.Goals as goal

pub returns-clause-answer : goal.returns-clause-answer
returns-clause-answer c =
    answers _ _ _ _ _ _ _ c.run-answer.ensures.step
    ∙ (λ i. run_answer (c.lend-env.ensures.env i) (c.lend-env.ensures.scratch i) c.args.panel.parameters (c.new-source.ensures i).rows)

pub returns-clause-count : goal.returns-clause-count
returns-clause-count c =
    counts _ _ _ _ _ _ _ c.run-answer.ensures.step
    ∙ (λ i. count_after (c.lend-env.ensures.env i) (c.lend-env.ensures.scratch i) c.args.panel.parameters (c.new-source.ensures i).rows)

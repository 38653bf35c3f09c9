use Rattle.std.proofs.Common.{◌≡◌, ◌-◌, ◌||◌, Ok, None, sym, ap, ◌∙◌, subst, arith}
use Rattle.hir.specs.Scratches.{Tables, tables}
use Rattle.reactive.specs.Rows.{Reading}
use Rattle.checks.specs.Rows.{run_refusal}
use Rattle.reasons.specs.Laws.{tables_can_name}
use Rattle.reasons.specs.Passes.{passed}
use Rattle.calls.specs.Steps.{RunStep}
use Rattle.calls.proofs.Passing.{run_accepted, run_idle, run_more, answered_none, answered_is}
use Rattle.calls.proofs.run.run.Goals as goal
use Rattle.calls.proofs.run.run.Goals.{then-can_name, else-can_name}

pub overflow_sub-result : goal.overflow_sub-result
overflow_sub-result g c =
    let b = tables c.args.env.now c.args.scratch.now in
    let rs = (g.S.TreeSource.reading c.args.source.now).rows in
    let none : run_refusal b.env b.notes c.args.parameters rs ≡ None = answered_none _ _ _ c.in_ok-some_without.ensures.value in
    elim c.if-can_name.branch [
      | then-can_name w ↦
          let t = tables c.if-can_name.env c.if-can_name.scratch in
          let is : t ≡ passed b c.args.parameters rs = (λ k. tables (w.env-is k) (w.scratch-is k)) ∙ w.promote_used_temporaries.ensures.after ∙ ap (λ (s : Reading). passed b c.args.parameters s.rows) c.check_run.ensures.source in
          run_more b t c.args.parameters rs none is
      | else-can_name w ↦ let same : c.if-can_name.env.count ≡ c.args.env.now.count = λ k. (w.env-is k).count in omega (arith, same)
    ]

pub returns-clause-step : goal.returns-clause-step
returns-clause-step g c =
    let b = tables c.args.env.now c.args.scratch.now in
    let rs = (g.S.TreeSource.reading c.args.source.now).rows in
    let t = tables c.if-can_name.env c.if-can_name.scratch in
    let none : run_refusal b.env b.notes c.args.parameters rs ≡ None = answered_none _ _ _ c.in_ok-some_without.ensures.value in
    elim c.if-can_name.branch [
      | then-can_name w ↦
          let is : t ≡ passed b c.args.parameters rs = (λ k. tables (w.env-is k) (w.scratch-is k)) ∙ w.promote_used_temporaries.ensures.after ∙ ap (λ (s : Reading). passed b c.args.parameters s.rows) c.check_run.ensures.source in
          run_accepted b t c.args.parameters rs none is
      | else-can_name w ↦
          let idle = sym (w.if-can_name.ensures ∙ ap (λ s. s || tables_can_name b.env c.args.parameters) (answered_is _ _ _ c.in_ok-some_without.ensures.value)) in
          let same : b ≡ t = λ k. tables (sym w.env-is k) (sym w.scratch-is k) in
          subst (λ (x : Tables). RunStep b.env b.notes c.args.parameters rs (Ok (b.env.count, x.env.count - b.env.count)) x.env x.notes) same (run_idle b.env b.notes c.args.parameters rs none idle)
    ]

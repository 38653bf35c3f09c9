-- The answer of a run, and the journal's count after it, as they are computed. Assumes nothing.
use Rattle.std.proofs.Common.{◌≡◌, ℕ, ◌+◌, List, length, Option, Result, ap, sym, ◌∙◌}
use Rattle.hir.specs.declared.refusal.Refusal.{Refusal}
use Rattle.hir.specs.declared.span.Span.{Span}
use Rattle.hir.specs.Environments.{Model}
use Rattle.hir.specs.Refusals.{answered, unless}
use Rattle.hir.specs.Scratches.{Notes}
use Rattle.reactive.specs.Rows.{Row}
use Rattle.reasons.specs.Coverings.{journal}
use Rattle.calls.specs.Steps.{RunStep}
use Rattle.calls.proofs.Fates.{run_cases}
use Rattle.session.specs.Runs.{run_answer, count_after}

module _ (m : Model) (n : Notes) (ps : Span) (rows : List Row) (answer : Result (ℕ × ℕ) Refusal) (after : Model) (notes : Notes) (step : RunStep m n ps rows answer after notes) where
  pub answers : answer ≡ run_answer m n ps rows
  answers =
      let of = λ (o : Option Refusal). answered o (m.count, length (journal m ps rows)) in
      run_cases step
      (λ e a. a.answers ∙ sym (ap of e))
      (λ r e no. no.answers ∙ sym (ap of e))

  pub counts : after.count ≡ count_after m n ps rows
  counts =
      let of = λ (o : Option Refusal). unless o m.count (m.count + length (journal m ps rows)) in
      run_cases step
      (λ e a. a.names_them.count ∙ sym (ap of e))
      (λ r e no. ap (λ (x : Model). x.count) no.env ∙ sym (ap of e))

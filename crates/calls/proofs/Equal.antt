-- What settles the answer of a run. Assumes nothing.
use Rattle.std.proofs.Common.{◌≡◌, ℕ, ◌||◌, ltb, List, length, None, Result, sym, ◌∙◌}
use Rattle.hir.specs.declared.refusal.Refusal.{Refusal}
use Rattle.hir.specs.declared.refusal.Refusal.TheVariants as refusals
use Rattle.hir.specs.declared.span.Span.{Span}
use Rattle.hir.specs.Environments.{Model}
use Rattle.std.specs.List.{list_any}
use Rattle.hir.specs.Refusals.{refused_if, or_else}
use Rattle.hir.specs.Scratches.{Notes}
use Rattle.reactive.specs.Rows.{Row}
use Rattle.checks.specs.Tables.{passes_limit, bad_row, bad_lists, no_room}
use Rattle.checks.specs.Rows.{sizes, tree_refusal, run_refusal}
use Rattle.calls.specs.Steps.{SameSize, RunStep}
use Rattle.calls.proofs.Fates.{run_cases}

-- a refusal depends on the sizes of scratch alone
same_refusal : (m : Model) (ps : Span) (rows : List Row) (n k : Notes) → SameSize n k → run_refusal m k ps rows ≡ run_refusal m n ps rows
same_refusal m ps rows n k s = (λ i.
    or_else
    (refused_if (passes_limit m ps) refusals.Limit
    (refused_if (list_any (bad_row (length m.identifiers)) m.identifiers) refusals.Row
    (refused_if (bad_lists m ps) refusals.List
    (refused_if (no_room m) refusals.Journal
    (refused_if (ltb (s.work i) (length m.identifiers) || ltb (s.marks i) (length m.functions)) refusals.Scratch None)))))
    (tree_refusal (sizes m) (s.trail i) rows))

pub equal_runs : (m : Model) (ps : Span) (rows : List Row) (n k : Notes) → SameSize n k → (answer other : Result (ℕ × ℕ) Refusal) (after leaves : Model) (noted left : Notes) → RunStep m n ps rows answer after noted → RunStep m k ps rows other leaves left → (answer ≡ other) × (after ≡ leaves)
equal_runs m ps rows n k s answer other after leaves noted left a b =
    let same = same_refusal m ps rows n k s in
    run_cases a
    (λ e x. let y = b.accepted (same ∙ e) in (x.answers ∙ sym y.answers, x.env ∙ sym y.env))
    (λ r e x. let y = b.refused r (same ∙ e) in (x.answers ∙ sym y.answers, x.env ∙ sym y.env))

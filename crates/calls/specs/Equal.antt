-- What settles a run. Assumes nothing.
use Rattle.std.specs.Prelude.{◌≡◌, ℕ, List, Result}
use Rattle.hir.specs.declared.refusal.Refusal.{Refusal}
use Rattle.hir.specs.declared.span.Span.{Span}
use Rattle.hir.specs.Environments.{Model}
use Rattle.hir.specs.Scratches.{Notes}
use Rattle.reactive.specs.Rows.{Row}
use Rattle.calls.specs.Steps.{SameSize, RunStep}

-- two runs on equal environments, over sources with equal rows and with scratch of equal sizes, answer alike and leave equal environments, whatever the sources are made of and whatever scratch held
abbrev pub EqualRuns : Type 0
EqualRuns =
    (m : Model) (ps : Span) (rows : List Row) (n k : Notes) → SameSize n k
    → (answer other : Result (ℕ × ℕ) Refusal) (after leaves : Model) (noted left : Notes)
    → RunStep m n ps rows answer after noted → RunStep m k ps rows other leaves left
    → (answer ≡ other) × (after ≡ leaves)

-- Bytes that stand for cases. Assumes nothing.
use Rattle.std.specs.Prelude.{◌≡◌, ℕ, ◌<◌, ◌≤◌, Result, MatchResult}
use Rattle.hir.specs.declared.unknown.Unknown.{Unknown}

-- the case whose number the byte is, or the byte, which is not from the least to the most of the numbers
abbrev pub Decodes : {A : Type 0} → (A → ℕ) → ℕ → ℕ → ℕ → Result A Unknown → Type 0
Decodes number least most byte r = MatchResult r (λ x. number x ≡ byte) (λ e. (e.0 ≡ byte) × (least ≤ byte → most < byte))

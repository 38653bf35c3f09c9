use Rattle.std.proofs.Common.{◌≡◌, ℕ, ◌^◌, ◌<◌, ◌++◌, vec_items}
use Rattle.hir.specs.Lists.{Each}
use Rattle.image.specs.Bytes.{be, joined}
use Rattle.image_encode.proofs.bytes.write_numbers.Given as goal

abbrev pub invariant-loop-number : goal.invariant-loop-number
invariant-loop-number g l = Each (λ (n : ℕ). n < 2 ^ 32) l.yielded × (vec_items l.out ≡ vec_items l.initial.out ++ joined be l.yielded)

-- Where lists end, and what stands behind them. Assumes nothing.
use Rattle.std.proofs.Common.{◌≡◌, ℕ, suc, ◌+◌, ◌-◌, ◌<◌, List, Ok, Err, Result, refl, ap, ◌∙◌, arith}
use Rattle.image.specs.declared.fault.ByteFault.{ByteFault}
use Rattle.image.specs.Bytes.{Place}
use Rattle.image.specs.Format.{of_tree}
use Rattle.image.specs.Steps.{and_then, in_section, in_row, ended, numbers_at, row_at}
use Rattle.image.proofs.Turns.{ended_made}
use Rattle.image_check.specs.Steps.{lists_end, tree_at, content_at}

-- one list more is read
pub lists_next : (n i : ℕ) (p q : Place) (x : List ℕ) → i < n → numbers_at p ≡ Ok (x, q) → lists_end (n - i) p ≡ lists_end (n - (i + 1)) q
lists_next n i p q x lt e =
    let more : n - i ≡ suc (n - (i + 1)) = omega arith in
    ap (λ k. lists_end k p) more ∙ ap (λ r. and_then (ended r) (lists_end (n - (i + 1)))) e

-- a reading behind another ends where it ends
module _ {X Y E : Type 0} (b : Place → Result (Y × Place) E) where
  behind : (r : Result (X × Place) E) → ended {X = X × Y} (and_then r (λ v. and_then (b v.1) (λ w. Ok ((v.0, w.0), w.1)))) ≡ and_then (ended r) (λ q. ended (b q))
  behind (Ok v) = ended_made (b v.1) (λ y. (v.0, y))
  behind (Err f) = refl

-- the same in layer 3
tree_layers : (r : Result (List ℕ × Place) ByteFault) → and_then (ended (in_row (in_section r))) (λ q. ended (row_at 128 q)) ≡ and_then (in_row (in_section (and_then (ended r) (λ q. Ok q)))) (λ q. ended (row_at 128 q))
tree_layers (Ok v) = refl
tree_layers (Err f) = refl

pub tree_ends : (p : Place) → ended (content_at 3 p) ≡ and_then (in_row (in_section (lists_end 1 p))) (λ q. ended (row_at 128 q))
tree_ends p = ended_made (tree_at p) of_tree ∙ behind (row_at 128) (in_row (in_section (numbers_at p))) ∙ tree_layers (numbers_at p)

-- The places of a row, one after another. Assumes nothing.
use Rattle.std.proofs.Common.{◌≡◌, ℕ, ◌<◌, ◌≤◌, false, eqb, ◌||◌, List, [], ◌∷◌, None, refl, ap, arith, ◌∙◌}
use Rattle.std.proofs.lemmas.Bool.{cond-false, cond_both}
use Rattle.std.specs.List.{list_any}
use Rattle.checks.specs.declared.grammar.Sort.{Sort}
use Rattle.checks.specs.declared.grammar.Sort.TheVariants as sorts
use Rattle.checks.specs.Grammar.{Slot, One, Optional, Many, admits, follow, lacking}
use Rattle.checks.specs.Rows.{Open, wrong_depth, closing, staying, with_child, placed, opened}

-- a code that no row has
module _ (c : ℕ) (no : 1 ≤ c → 24 < c) where
  admits_none : (s : Sort) → admits s c ≡ false
  admits_none sorts.Block = grind arith
  admits_none sorts.Statement = grind arith
  admits_none sorts.Instruction = grind arith
  admits_none sorts.Value = grind arith
  admits_none sorts.Case = grind arith
  admits_none sorts.Handler = grind arith

  follow_none : (slots : List Slot) → follow slots c ≡ None
  follow_none [] = refl
  follow_none (One s ∷ rest) = cond-false _ _ _ (admits_none s)
  follow_none (Optional s ∷ rest) = cond-false _ _ _ (admits_none s) ∙ follow_none rest
  follow_none (Many s ∷ rest) = cond-false _ _ _ (admits_none s) ∙ follow_none rest

  placed_none : (os : Open) → placed os c ≡ None
  placed_none [] = let e : eqb c 1 ≡ false = grind arith in cond-false _ _ _ e
  placed_none (o ∷ os) = ap (with_child c os) (follow_none o)

  pub opened_none : (os : Open) (d : ℕ) → opened os d c ≡ None
  opened_none os d = cond_both (wrong_depth os d || list_any lacking (closing os d)) None (placed (staying os d) c) (λ o. o ≡ None) (λ e. refl) (λ e. placed_none (staying os d))

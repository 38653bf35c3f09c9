-- A tree that fills a section behind its own parameters. Assumes nothing.
use Rattle.std.proofs.Common.{◌≡◌, ℕ, zero, suc, ◌≤◌, List, [], ◌∷◌, length, Ok, Result, sym, ap, ◌∙◌, append-nil, arith}
use Rattle.std.proofs.lemmas.Bool.{cond-true, eq-eqb}
use Rattle.image.specs.declared.fault.ByteFault.{ByteFault}
use Rattle.image.specs.declared.fault.RowFault.{RowFault}
use Rattle.image.specs.Bytes.{Place}
use Rattle.image.specs.Format.{Tree}
use Rattle.image.specs.Steps.{and_then, in_section, in_row, ended, numbers_at, many_by, many_at, row_at}
use Rattle.image.proofs.Turns.{ended_ok, more, done}
use Rattle.image_source.specs.Trees.{tree_rows}
use Rattle.image_source.specs.Sections.{only_rows, section_rows, rows_read, held_rows}
use Rattle.image_source.proofs.Trees.{row_shrinks}

-- one reading that fills the holder
alone : {X : Type 0} (read : Place → Result (X × Place) RowFault) (n : ℕ) (p q : Place) (x : X) → length p.1 ≤ n → (length p.1 ≡ 0 → ⊥) → read p ≡ Ok (x, q) → length q.1 ≡ 0 → many_by read n p ≡ Ok (x ∷ [])
alone read zero p q x le some is none = absurd (some (omega arith))
alone read (suc n) p q x le some is none =
    more read p n some
    ∙ ap (λ r. and_then r (λ v. and_then (many_by read n v.1) (λ xs. Ok (v.0 ∷ xs)))) is
    ∙ ap (λ r. and_then r (λ xs. Ok (x ∷ xs))) (done read q n none)

-- what comes of own parameters
abbrev on_parameters : Result (List ℕ × Place) ByteFault → Result ((List ℕ × Tree 128) × Place) RowFault
on_parameters r = and_then (in_row (in_section r)) (λ v. and_then (row_at 128 v.1) (λ w. Ok ((v.0, w.0), w.1)))

module _ (content ns : List ℕ) (p q : Place) (own : numbers_at (0, content) ≡ Ok (ns, p)) (reads : ended (row_at 128 p) ≡ Ok q) (none : length q.1 ≡ 0) where
  one : (t : Tree 128) × (row_at 128 p ≡ Ok (t, q))
  one = ended_ok (row_at 128 p) q reads

  filled : many_at (row_at 128) p ≡ Ok (one.0 ∷ [])
  filled = alone (row_at 128) (length p.1) p q one.0 (omega arith) (λ e. omega (arith, row_shrinks 128 p (one.0, q) one.1)) one.1 none

  pub rows_held : held_rows p ≡ section_rows content
  rows_held =
      ap rows_read filled ∙ append-nil (tree_rows 128 0 one.0)
      ∙ sym (ap (λ r. only_rows (on_parameters r)) own ∙ ap (λ r. only_rows (and_then r (λ w. Ok ((ns, w.0), w.1)))) one.1 ∙ cond-true _ _ _ (eq-eqb (length q.1) 0 none))

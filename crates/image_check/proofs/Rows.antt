-- Rows within rows. Assumes nothing.
use Rattle.std.proofs.Common.{◌≡◌, ℕ, zero, suc, ◌<◌, List, length, Ok, Err, Result, sym, refl, ap, arith}
use Rattle.image.specs.declared.fault.ByteFault.{ByteFault}
use Rattle.image.specs.declared.fault.RowFault.{RowFault}
use Rattle.image.specs.Bytes.{Place}
use Rattle.image.specs.Layouts.{Layout, byte, word, numbers, ◌then◌, ◌then_all◌, many}
use Rattle.image.specs.Format.{Fields, Tree, fields, row}
use Rattle.image.specs.Steps.{and_then, in_section, in_row, both, u8_at, u32_at, numbers_at, part_at, fields_at, many_at, row_at}
use Rattle.image_check.proofs.Exact.{Exact, ExactAll, lifted, exact_same, exact_both, then_all_at, exact_then_all, exact_many}
use Rattle.image_check.proofs.Leaves.{exact_byte, exact_word, exact_numbers, holder_at, exact_part}

-- the layouts of the fields from one on
abbrev lists : Layout (List ℕ × List ℕ)
lists = numbers then numbers

pub exact_lists : Exact lists (lifted (both numbers_at numbers_at))
exact_lists = exact_both numbers numbers numbers_at numbers_at exact_numbers exact_numbers

pub exact_fields : Exact fields (lifted fields_at)
exact_fields =
    exact_both byte (word then word then byte then byte then lists) u8_at (both u32_at (both u32_at (both u8_at (both u8_at (both numbers_at numbers_at))))) exact_byte
    (exact_both word (word then byte then byte then lists) u32_at (both u32_at (both u8_at (both u8_at (both numbers_at numbers_at)))) exact_word
    (exact_both word (byte then byte then lists) u32_at (both u8_at (both u8_at (both numbers_at numbers_at))) exact_word
    (exact_both byte (byte then lists) u8_at (both u8_at (both numbers_at numbers_at)) exact_byte
    (exact_both byte lists u8_at (both numbers_at numbers_at) exact_byte exact_lists))))

-- a row is a holder of fields and rows
module _ (n : ℕ) (kids : ExactAll (many (row n)) (many_at (row_at n))) where
  abbrev inner : ExactAll (fields then_all many (row n)) (then_all_at fields (many (row n)) (lifted fields_at) (many_at (row_at n)) exact_fields kids)
  inner = exact_then_all fields (many (row n)) (lifted fields_at) (many_at (row_at n)) exact_fields kids

  -- what comes of the kids
  on_kids : (f : Fields) (q : Place) (r : Result (List (Tree n)) RowFault) → and_then {Y = Tree (suc n) × Place} r (λ ks. Ok ((f, ks), q)) ≡ and_then (and_then r (λ ks. Ok (f, ks))) (λ x. Ok (x, q))
  on_kids f q (Ok ks) = refl
  on_kids f q (Err e) = refl

  -- of the fields
  on_fields : (q : Place) (r : Result (Fields × Place) ByteFault) → and_then {X = Fields × Place × Place} {Y = Tree (suc n) × Place} (in_row (and_then (in_section r) (λ w. Ok (w.0, w.1, q)))) (λ h. and_then (many_at (row_at n) h.1) (λ ks. Ok ((h.0, ks), h.2))) ≡ and_then (and_then (in_row (in_section r)) (λ v. and_then (many_at (row_at n) v.1) (λ ks. Ok (v.0, ks)))) (λ x. Ok (x, q))
  on_fields q (Ok w) = on_kids w.0 q (many_at (row_at n) w.1)
  on_fields q (Err e) = refl

  -- of the length
  on_part : (r : Result (Place × Place) ByteFault) → and_then {X = Fields × Place × Place} {Y = Tree (suc n) × Place} (in_row (and_then (in_section r) (λ v. and_then (in_section (fields_at v.0)) (λ w. Ok (w.0, w.1, v.1))))) (λ h. and_then (many_at (row_at n) h.1) (λ ks. Ok ((h.0, ks), h.2))) ≡ and_then (in_row (in_section r)) (λ v. and_then (and_then (lifted fields_at v.0) (λ u. and_then (many_at (row_at n) u.1) (λ ks. Ok (u.0, ks)))) (λ x. Ok (x, v.1)))
  on_part (Ok v) = on_fields v.1 (fields_at v.0)
  on_part (Err e) = refl

  pub exact_deeper : Exact (row (suc n)) (row_at (suc n))
  exact_deeper =
      exact_same (row (suc n)) (row_at (suc n)) (holder_at (fields then_all many (row n)) (then_all_at fields (many (row n)) (lifted fields_at) (many_at (row_at n)) exact_fields kids) inner)
      (λ p. on_part (part_at p))
      (exact_part (fields then_all many (row n)) (then_all_at fields (many (row n)) (lifted fields_at) (many_at (row_at n)) exact_fields kids) inner)

row_some : (n : ℕ) (t : Tree n) → (row n).Fine t → 0 < length ((row n).write t)
row_some zero t h = absurd h
row_some (suc n) t h = omega arith

pub exact_row : (n : ℕ) → Exact (row n) (row_at n)
exact_row zero = record {
  sound = λ p h. refl;
  finds = λ x p q t. absurd t.fine;
  meets = λ p f t. ap Err (sym t);
}
exact_row (suc n) = exact_deeper n (exact_many (row n) (row_at n) (exact_row n) (row_some n))

-- Trees that fill a holder, one row after another. Assumes nothing.
use Rattle.std.proofs.Common.{◌≡◌, ℕ, zero, suc, ◌<◌, ◌≤◌, cond, eqb, List, [], ◌∷◌, ◌++◌, length, Ok, Err, Result, sym, refl, ap, ◌∙◌, ⊎_elim, arith, length-append}
use Rattle.std.proofs.lemmas.Bool.{cases_eq}
use Rattle.reactive.specs.Rows.{Row}
use Rattle.image.specs.declared.fault.SectionFault.{SectionFault}
use Rattle.image.specs.declared.fault.RowFault.{RowFault}
use Rattle.image.specs.Bytes.{Place}
use Rattle.image.specs.Format.{Fields, Tree}
use Rattle.image.specs.Steps.{and_then, in_row, head_at, many_by, many_at, row_at}
use Rattle.image.proofs.Turns.{more, done}
use Rattle.image_source.specs.Trees.{row_of, all_rows, tree_rows}
use Rattle.image_source.proofs.Heads.{parts}

-- the first of several readings, and those behind it
record Front {X : Type 0} (read : Place → Result (X × Place) RowFault) (p : Place) (xs : List X) : Type 0 where
  item : X
  after : Place
  is : read p ≡ Ok (item, after)
  others : List X
  then : many_at read after ≡ Ok others
  made : xs ≡ item ∷ others

-- readings that take a byte at least each
module _ {X : Type 0} (read : Place → Result (X × Place) RowFault) (shrinks : (p : Place) (v : X × Place) → read p ≡ Ok v → length v.1.1 < length p.1) where
  -- what comes of the first reading
  abbrev on_first : ℕ → Result (X × Place) RowFault → Result (List X) RowFault
  on_first n r = and_then r (λ v. and_then (many_by read n v.1) (λ xs. Ok (v.0 ∷ xs)))

  first_fuel : (m n : ℕ) (p : Place) → length p.1 ≤ suc m → length p.1 ≤ suc n → ((q : Place) → length q.1 ≤ m → length q.1 ≤ n → many_by read m q ≡ many_by read n q) → (r : Result (X × Place) RowFault) → read p ≡ r → on_first m r ≡ on_first n r
  first_fuel m n p lm ln same (Ok v) is = let h = shrinks p v is in ap (λ r. and_then r (λ xs. Ok (v.0 ∷ xs))) (same v.1 (omega arith) (omega arith))
  first_fuel m n p lm ln same (Err f) is = refl

  -- how many readings are allowed does not matter, where that is enough
  fuel : (m n : ℕ) (p : Place) → length p.1 ≤ m → length p.1 ≤ n → many_by read m p ≡ many_by read n p
  fuel zero n p lm ln = sym (done read p n (omega arith))
  fuel (suc m) zero p lm ln = done read p (suc m) (omega arith)
  fuel (suc m) (suc n) p lm ln = ap (cond (eqb (length p.1) 0) (Ok [])) (first_fuel m n p lm ln (λ q. fuel m n q) (read p) refl)

  front_rest : (n : ℕ) (p : Place) (v : X × Place) (r : Result (List X) RowFault) (xs : List X) → read p ≡ Ok v → many_at read v.1 ≡ r → and_then r (λ ys. Ok (v.0 ∷ ys)) ≡ Ok xs → Front read p xs
  front_rest n p v (Ok ys) xs is then e = record { item = v.0; after = v.1; is = is; others = ys; then = then; made = cc }
  front_rest n p v (Err f) xs is then e = absurd (cc)

  front_first : (n : ℕ) (p : Place) (r : Result (X × Place) RowFault) (xs : List X) → length p.1 ≤ suc n → read p ≡ r → on_first n r ≡ Ok xs → Front read p xs
  front_first n p (Ok v) xs le is e =
      let h = shrinks p v is in
      front_rest n p v (many_by read n v.1) xs is (fuel (length v.1.1) n v.1 (omega arith) (omega arith)) e
  front_first n p (Err f) xs le is e = absurd (cc)

  front_by : (n : ℕ) (p : Place) (xs : List X) → length p.1 ≤ n → (length p.1 ≡ 0 → ⊥) → many_by read n p ≡ Ok xs → Front read p xs
  front_by zero p xs le some e = absurd (some (omega arith))
  front_by (suc n) p xs le some e = front_first n p (read p) xs le refl (sym (more read p n some) ∙ e)

  front : (p : Place) (xs : List X) → (length p.1 ≡ 0 → ⊥) → many_at read p ≡ Ok xs → Front read p xs
  front p xs some e = front_by (length p.1) p xs (omega arith) some e

-- a row that was read: its head, and the rows within it
record RowRead (n : ℕ) (p : Place) (v : Tree (suc n) × Place) : Type 0 where
  head : Fields × Place × Place
  is : head_at p ≡ Ok head
  kids : List (Tree n)
  reads : many_at (row_at n) head.1 ≡ Ok kids
  made : v ≡ ((head.0, kids), head.2)

row_kids : (n : ℕ) (p : Place) (v : Tree (suc n) × Place) (h : Fields × Place × Place) (r : Result (List (Tree n)) RowFault) → head_at p ≡ Ok h → many_at (row_at n) h.1 ≡ r → ◌≡◌ {A = Result (Tree (suc n) × Place) RowFault} (and_then r (λ kids. Ok ((h.0, kids), h.2))) (Ok v) → RowRead n p v
row_kids n p v h (Ok kids) is reads e = record { head = h; is = is; kids = kids; reads = reads; made = cc }
row_kids n p v h (Err f) is reads e = absurd (cc)

row_head : (n : ℕ) (p : Place) (v : Tree (suc n) × Place) (r : Result (Fields × Place × Place) SectionFault) → head_at p ≡ r → ◌≡◌ {A = Result (Tree (suc n) × Place) RowFault} (and_then (in_row r) (λ h. and_then (many_at (row_at n) h.1) (λ kids. Ok ((h.0, kids), h.2)))) (Ok v) → RowRead n p v
row_head n p v (Ok h) is e = row_kids n p v h (many_at (row_at n) h.1) is refl e
row_head n p v (Err f) is e = absurd (cc)

row_read : (n : ℕ) (p : Place) (v : Tree (suc n) × Place) → row_at (suc n) p ≡ Ok v → RowRead n p v
row_read n p v e = row_head n p v (head_at p) refl e

pub row_shrinks : (n : ℕ) (p : Place) (v : Tree n × Place) → row_at n p ≡ Ok v → length v.1.1 < length p.1
row_shrinks zero p v e = absurd (cc)
row_shrinks (suc n) p v e =
    let r = row_read n p v e in
    let s = parts p r.head r.is in
    omega (arith, ap (λ (w : Tree (suc n) × Place). length w.1.1) r.made, s.size)

-- the first row of a holder, the rows within it, and those that follow it
pub record Next (n depth : ℕ) (p : Place) (rows : List Row) : Type 0 where
  pub deeper : ℕ
  pub may : n ≡ suc deeper
  pub head : Fields × Place × Place
  pub is : head_at p ≡ Ok head
  pub kids : List (Tree deeper)
  pub kids_read : many_at (row_at deeper) head.1 ≡ Ok kids
  pub others : List (Tree (suc deeper))
  pub others_read : many_at (row_at (suc deeper)) head.2 ≡ Ok others
  pub made : rows ≡ row_of depth head.0 ∷ (all_rows (tree_rows deeper (suc depth)) kids ++ all_rows (tree_rows (suc deeper) depth) others)

pub next_row : (n depth : ℕ) (p : Place) (ts : List (Tree n)) → (length p.1 ≡ 0 → ⊥) → many_at (row_at n) p ≡ Ok ts → Next n depth p (all_rows (tree_rows n depth) ts)
next_row zero depth p ts some e = absurd (front (row_at zero) (row_shrinks zero) p ts some e).item
next_row (suc n) depth p ts some e =
    let f = front (row_at (suc n)) (row_shrinks (suc n)) p ts some e in
    let r = row_read n p (f.item, f.after) f.is in
    let tree : f.item ≡ (r.head.0, r.kids) = ap (λ (w : Tree (suc n) × Place). w.0) r.made in
    let after : f.after ≡ r.head.2 = ap (λ (w : Tree (suc n) × Place). w.1) r.made in
    record {
      deeper = n;
      may = refl;
      head = r.head;
      is = r.is;
      kids = r.kids;
      kids_read = r.reads;
      others = f.others;
      others_read = ap (many_at (row_at (suc n))) (sym after) ∙ f.then;
      made = ap (all_rows (tree_rows (suc n) depth)) f.made ∙ ap (λ t. tree_rows (suc n) depth t ++ all_rows (tree_rows (suc n) depth) f.others) tree;
    }

-- nothing fills an empty holder
pub no_rows : (n depth : ℕ) (p : Place) (ts : List (Tree n)) → length p.1 ≡ 0 → many_at (row_at n) p ≡ Ok ts → all_rows (tree_rows n depth) ts ≡ []
no_rows n depth p ts none e =
    let empty : ts ≡ [] = cc (done (row_at n) p (length p.1) none, e) in
    ap (all_rows (tree_rows n depth)) empty

-- there are no more rows than bytes
pub few : (k n depth : ℕ) (p : Place) (ts : List (Tree n)) → length p.1 ≤ k → many_at (row_at n) p ≡ Ok ts → length (all_rows (tree_rows n depth) ts) ≤ length p.1
few zero n depth p ts le e = omega (arith, ap length (no_rows n depth p ts (omega arith) e))
few (suc k) n depth p ts le e =
    ⊎_elim
    (λ none. omega (arith, ap length (no_rows n depth p ts none e)))
    (λ some.
    let x = next_row n depth p ts some e in
    let s = parts p x.head x.is in
    let inner = few k x.deeper (suc depth) x.head.1 x.kids (omega (arith, s.size)) x.kids_read in
    let outer = few k (suc x.deeper) depth x.head.2 x.others (omega (arith, s.size)) x.others_read in
    let sum = length-append (all_rows (tree_rows x.deeper (suc depth)) x.kids) (all_rows (tree_rows (suc x.deeper) depth) x.others) in
    omega (arith, ap length x.made, inner, outer, sum, s.size))
    (cases_eq (length p.1) 0)

-- How a source over bytes moves. Assumes nothing.
use Rattle.std.proofs.Common.{◌≡◌, ℕ, zero, suc, ◌+◌, ◌^◌, ◌<◌, ◌≤◌, List, [], ◌∷◌, ◌++◌, length, drop, Some, Ok, Err, sym, refl, ap, ◌∙◌, subst, ⊎_elim, append_assoc, append-nil, add-one, arith}
use Rattle.std.specs.List.{slice_get}
use Rattle.std.proofs.lemmas.Bool.{cases_eq}
use Rattle.reactive.specs.Rows.{Row, before}
use Rattle.image.specs.declared.fault.SectionFault.{SectionFault}
use Rattle.image.specs.Bytes.{Place, Inside}
use Rattle.image.specs.Format.{Fields}
use Rattle.image.specs.Steps.{passed, head_at, many_at, row_at}
use Rattle.image.proofs.Turns.{passed_ok}
use Rattle.image_source.specs.Trees.{row_of, all_rows, tree_rows}
use Rattle.image_source.specs.Sections.{rows_read, held_rows}
use Rattle.image_source.specs.Standings.{end, Below, list_of, Stand, starting, closed_to, opened_to, Stands}
use Rattle.image_source.proofs.Heads.{parts}
use Rattle.image_source.proofs.Trees.{Next, next_row, no_rows, few}

drop_front : {A : Type 0} (k : ℕ) (xs : List A) (x : A) (more : List A) → drop k xs ≡ x ∷ more → (slice_get xs k ≡ Some x) × (drop (suc k) xs ≡ more) × (k < length xs)
drop_front zero [] x more e = absurd (cc)
drop_front (suc k) [] x more e = absurd (cc)
drop_front zero (y ∷ ys) x more e = let a : y ≡ x = cc in let b : ys ≡ more = cc in (ap Some a, b, omega arith)
drop_front (suc k) (y ∷ ys) x more e = let h = drop_front k ys x more e in (h.0, h.1, omega (arith, h.2))

-- the row whose head is h is given next
pub record Gives (rows : Place) (s : Stand) (tails : List (List ℕ)) (h : Fields × Place × Place) : Type 0 where
  pub room : length tails < 128
  pub more : s.given < length (held_rows rows)
  pub fits : s.given + 1 < 2 ^ 64
  pub row : slice_get (held_rows rows) s.given ≡ Some (row_of (length tails) h.0)
  pub on : Stands rows (opened_to s h) (h.2.1 ∷ tails)

begins : (rows : Place) → Inside rows → passed (many_at (row_at 128) rows) ≡ Ok tt → Stands rows (starting rows) []
begins rows inside fills =
    let all = passed_ok (many_at (row_at 128) rows) fills in
    record {
      holder = inside;
      fills = fills;
      inside = inside;
      room = 128;
      most = refl;
      trees = all.0;
      reads = all.1;
      rest = [];
      below = refl;
      coming = ap rows_read all.1 ∙ sym (append-nil _);
      operands = refl;
      marks = refl;
    }

pub starts : (rows : Place) (s : Stand) → s ≡ starting rows → Inside rows → passed (many_at (row_at 128) rows) ≡ Ok tt → Stands rows s []
starts rows s e inside fills = subst (λ at. Stands rows at []) (sym e) (begins rows inside fills)

module _ (rows : Place) (s : Stand) (tails : List (List ℕ)) (st : Stands rows s tails) where
  -- no more rows were given than there are bytes
  bounded : length (held_rows rows) ≤ length rows.1
  bounded =
      let all = passed_ok (many_at (row_at 128) rows) st.fills in
      omega (arith, few (length rows.1) 128 0 rows all.0 (omega arith) all.1, ap (λ r. length (rows_read r)) all.1)

  -- nothing is left of the innermost row
  only_rest : length s.left.1 ≡ 0 → drop s.given (held_rows rows) ≡ st.rest
  only_rest none = st.coming ∙ ap (λ r. r ++ st.rest) (no_rows st.room (length tails) s.left st.trees none st.reads)

  goes : (length s.left.1 ≡ 0 → ⊥) → Next st.room (length tails) s.left (all_rows (tree_rows st.room (length tails)) st.trees)
  goes some = next_row st.room (length tails) s.left st.trees some st.reads

  -- what is left reads, unless it is empty
  pub faultless : (e : SectionFault) → head_at s.left ≡ Err e → length s.left.1 ≡ 0
  faultless e is = ⊎_elim (λ none. none) (λ some. absurd (let z : ◌≡◌ {A = ℕ} 0 1 = cc ((goes some).is, is) in omega arith)) (cases_eq (length s.left.1) 0)

  module _ (x : Next st.room (length tails) s.left (all_rows (tree_rows st.room (length tails)) st.trees)) where
    next_rest : List Row
    next_rest = all_rows (tree_rows (suc x.deeper) (length tails)) x.others ++ st.rest

    at_next : (slice_get (held_rows rows) s.given ≡ Some (row_of (length tails) x.head.0)) × (drop (suc s.given) (held_rows rows) ≡ all_rows (tree_rows x.deeper (suc (length tails))) x.kids ++ next_rest) × (s.given < length (held_rows rows))
    unfolding next_rest
    at_next = drop_front s.given (held_rows rows) (row_of (length tails) x.head.0) _ (st.coming ∙ ap (λ r. r ++ st.rest) x.made ∙ ap (λ r. row_of (length tails) x.head.0 ∷ r) (append_assoc (all_rows (tree_rows x.deeper (suc (length tails))) x.kids) (all_rows (tree_rows (suc x.deeper) (length tails)) x.others) st.rest))

    next_below : Below (x.head.2.1 ∷ tails) x.deeper (end x.head.1) next_rest
    unfolding next_rest
    next_below =
        let h = x.head in
        let ps = parts s.left h x.is in
        let there : h.2 ≡ (end h.1, h.2.1) = λ i. (sym ps.meets i, h.2.1) in
        let old : Below tails (suc x.deeper) (end h.2) st.rest = subst (λ n. Below tails n (end h.2) st.rest) x.may (subst (λ e. Below tails st.room e st.rest) (sym ps.same) st.below) in (
          x.others,
          st.rest,
          subst Inside there (omega (arith, ps.same, st.inside)),
          subst (λ q. many_at (row_at (suc x.deeper)) q ≡ Ok x.others) there x.others_read,
          subst (λ (q : Place). Below tails (suc x.deeper) (end q) st.rest) there old,
          refl,
        )

    gives_next : Gives rows s tails x.head
    gives_next =
        let h = x.head in
        let ps = parts s.left h x.is in
        let last = ap (before (held_rows rows)) (add-one s.given) ∙ at_next.0 in
        record {
          room = omega (arith, st.most, x.may);
          more = at_next.2;
          fits = omega (arith, at_next.2, bounded, st.holder);
          row = at_next.0;
          on = record {
            holder = st.holder;
            fills = st.fills;
            inside = omega (arith, ps.meets, ps.same, st.inside);
            room = x.deeper;
            most = omega (arith, st.most, x.may);
            trees = x.kids;
            reads = x.kids_read;
            rest = next_rest;
            below = next_below;
            coming = ap (λ k. drop k (held_rows rows)) (add-one s.given) ∙ at_next.1;
            operands = ap (list_of (λ r. r.operands)) last;
            marks = ap (list_of (λ r. r.marks)) last;
          };
        }

  -- a row that reads is given, and is open then
  pub gives : (h : Fields × Place × Place) → head_at s.left ≡ Ok h → Gives rows s tails h
  gives h is =
      let x = goes (λ none. omega (arith, none, (parts s.left h is).size)) in
      let same : x.head ≡ h = cc (x.is, is) in
      subst (Gives rows s tails) same (gives_next x)

-- no row is open, and nothing is left
pub ends : (rows : Place) (s : Stand) → Stands rows s [] → length s.left.1 ≡ 0 → drop s.given (held_rows rows) ≡ []
ends rows s st none = only_rest rows s [] st none ∙ st.below

-- the innermost row is read to its end: it is closed
pub closes : (rows : Place) (s : Stand) (bs : List ℕ) (around : List (List ℕ)) → Stands rows s (bs ∷ around) → length s.left.1 ≡ 0 → Stands rows (closed_to s bs) around
closes rows s bs around st none =
    let here : end s.left ≡ s.left.0 = omega arith in
    let b = subst (λ e. Below (bs ∷ around) st.room e st.rest) here st.below in
    record {
      holder = st.holder;
      fills = st.fills;
      inside = b.2;
      room = suc st.room;
      most = omega (arith, st.most);
      trees = b.0;
      reads = b.3;
      rest = b.1;
      below = b.4;
      coming = only_rest rows s (bs ∷ around) st none ∙ b.5;
      operands = st.operands;
      marks = st.marks;
    }

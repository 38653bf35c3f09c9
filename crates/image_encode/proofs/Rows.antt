-- How far the rows of a source are written. Assumes nothing.
use Rattle.std.proofs.Common.{◌≡◌, ℕ, ◌<◌, min, false, true, ◌⊎◌, inl, inr, length-append, List, [], ◌∷◌, ◌++◌, length, drop, is_some, unwrap_or, Some, None, Ok, Err, Result, IfErr, IfOk, Vec, Global, vec_items, sym, refl, ap, subst, ◌∙◌, append_assoc, append-nil, arith}
use Rattle.reactive.specs.declared.row.RowHead.{RowHead}
use Rattle.reactive.specs.Given.{Given}
use Rattle.reactive.specs.Rows.{Row, Reading, head, no_row, upcoming, advanced, given, last_row, left}
use Rattle.reactive.proofs.Steps.{gives, ended}
use Rattle.image.specs.Format.{fields}
use Rattle.image_encode.specs.declared.fault.EncodeFault.{EncodeFault}
use Rattle.image_encode.specs.declared.fault.EncodeFault.TheVariants.{Unfit}
use Rattle.image_encode.specs.Fields.{fields_of, LongList}
use Rattle.image_encode.specs.Opens.{ClosedTo, Entered, TooLong, fits_at}
use Rattle.image_encode.specs.Trees.{TreeOf, NoTree}
use Rattle.image_encode.proofs.Trees.{Begun, fresh, begun_on, begun_all, stands}
use Rattle.image_encode.proofs.Nesting.{Shallower}
use Rattle.image_encode.proofs.Refusing.{Follows, height_of, height_end, follows_at, follow_tree, begun_long, begun_none}

-- the rows before those that are left are written, and these are open
pub record Writing (first s : Reading) (top : List ℕ) (below : List (List ℕ)) : Type 0 where
  pub same : s.rows ≡ first.rows
  pub written : List Row
  pub all : first.rows ≡ written ++ left s
  pub begun : Begun written top below
  pub height : length below ≡ height_of 0 written

pub start : (s : Reading) → s.place ≡ 0 → (top : List ℕ) (below : List (List ℕ)) → top ≡ [] → below ≡ [] → Writing s s top below
start s z top below t b = record {
  same = refl;
  written = [];
  all = sym (ap (λ n. drop n s.rows) z);
  begun = subst (λ k. Begun [] k below) (sym t) (subst (λ k. Begun [] [] k) (sym b) fresh);
  height = ap length b;
}

module _ (first s t : Reading) (top : List ℕ) (below : List (List ℕ)) (inv : Writing first s top below) (row : RowHead) (gave : Some row ≡ upcoming s) (on : t ≡ advanced s) where
  last_is : last_row t ≡ (gives s row gave).item
  last_is = ap last_row on ∙ ap (λ o. unwrap_or o no_row) (gives s row gave).last

  pub row_given : Given t row
  row_given = record {
    given = ap (λ (r : Reading). is_some (given r)) on ∙ ap is_some (gives s row gave).last;
    row = sym (gives s row gave).is ∙ ap head (sym last_is);
  }

  pub turn : (height : ℕ) → height ≡ length below → true ≡ fits_at height row → (r : Row) → r ≡ last_row t → (mid top' : List ℕ) (midst below' : List (List ℕ)) → ClosedTo top below mid midst → length midst ≡ min height row.depth → Entered r mid midst top' below' → Writing first t top' below'
  turn height many fits r is mid top' midst below' c len e =
      let at : row ≡ head r = row_given.row ∙ ap head (sym is) in
      let s' = stands (length below) (head r) (sym (fits ∙ (λ i. fits_at (many i) (at i)))) in
      let deep : length midst ≡ min (length below) r.depth = len ∙ (λ i. min (many i) (at i).depth) in
      let b = begun_on inv.begun r s' e.fine mid midst c deep in
      let rest : left s ≡ r ∷ left t = (gives s row gave).rest ∙ (λ i. sym (is ∙ last_is) i ∷ left (sym on i)) in
      record {
        same = ap (λ (k : Reading). k.rows) on ∙ inv.same;
        written = inv.written ++ (r ∷ []);
        all = inv.all ∙ ap (λ k. inv.written ++ k) rest ∙ sym (append_assoc inv.written (r ∷ []) (left t));
        begun = subst (λ k. Begun (inv.written ++ (r ∷ [])) k below') (sym e.bytes) (subst (λ k. Begun (inv.written ++ (r ∷ [])) (fields.write (fields_of r)) k) (sym e.around) b);
        height = omega (arith, ap length e.around, length-append midst (mid ∷ []), deep, s'.near, height_end 0 inv.written r);
      }

  item_all : first.rows ≡ inv.written ++ ((gives s row gave).item ∷ left (advanced s))
  item_all = inv.all ∙ ap (λ k. inv.written ++ k) (gives s row gave).rest

  followed : (bs : List ℕ) → TreeOf first.rows bs → (fits_at (height_of 0 inv.written) (head (gives s row gave).item) ≡ true) × (LongList (gives s row gave).item → ⊥)
  followed bs tree = follows_at 0 inv.written (gives s row gave).item (left (advanced s)) (subst (Follows 0) item_all (follow_tree first.rows bs tree))

  -- a row that cannot stand there
  pub unfit_row : (height : ℕ) → height ≡ length below → false ≡ fits_at height row → NoTree first.rows
  unfit_row height many fails bs tree =
      let is : fits_at height row ≡ true = (λ i. fits_at ((many ∙ inv.height) i) (sym (gives s row gave).is i)) ∙ (followed bs tree).0 in
      absurd (cc)

  -- a row within it is too long
  pub unfit_close : TooLong row.depth top below → NoTree first.rows
  unfit_close l bs tree =
      let rest : left s ≡ (gives s row gave).item ∷ left (advanced s) = (gives s row gave).rest in
      let deep : (gives s row gave).item.depth ≡ row.depth = ap (λ (h : RowHead). h.depth) (gives s row gave).is in
      begun_long inv.begun row.depth (left s) (λ j lt. subst (Shallower j) (sym rest) (omega (arith, deep))) l bs (subst (λ k. TreeOf k bs) inv.all tree)

  -- its lists are too long
  pub unfit_lists : (r : Row) → r ≡ last_row t → LongList r → NoTree first.rows
  unfit_lists r is long bs tree = (followed bs tree).1 (subst LongList (is ∙ last_is) long)

stop : (first s : Reading) (top : List ℕ) (below : List (List ℕ)) → Writing first s top below → None ≡ upcoming s → 0 < length below → (bs : List ℕ) → ClosedTo top below bs [] → TreeOf first.rows bs
stop first s top below inv gave some bs c =
    let all = inv.all ∙ ap (λ k. inv.written ++ k) (ended s gave).0 ∙ append-nil inv.written in
    subst (λ k. TreeOf k bs) (sym all) (begun_all inv.begun some bs [] c refl)

-- all that is open was closed behind the last row
pub stopped : (first s : Reading) (top : List ℕ) (below : List (List ℕ)) → Writing first s top below → None ≡ upcoming s → (height : ℕ) → height ≡ length below → (r : Result (Vec ℕ Global) EncodeFault) → IfOk r (λ v. 0 < height) → IfOk r (λ v. ClosedTo top below (vec_items v) []) → IfOk r (λ v. TreeOf first.rows (vec_items v))
stopped first s top below inv gave height many (Ok v) some c = stop first s top below inv gave (omega arith) (vec_items v) c
stopped first s top below inv gave height many (Err e) some c = c

-- no rows, or an open row that is too long
pub unfit_end : (first s : Reading) (top : List ℕ) (below : List (List ℕ)) → Writing first s top below → None ≡ upcoming s → (height : ℕ) → height ≡ length below → (height ≡ 0) ⊎ TooLong 0 top below → NoTree first.rows
unfit_end first s top below inv gave height many (inl z) bs tree =
    let all = inv.all ∙ ap (λ k. inv.written ++ k) (ended s gave).0 ∙ append-nil inv.written in
    begun_none inv.begun (omega (arith, z)) bs (subst (λ k. TreeOf k bs) all tree)
unfit_end first s top below inv gave height many (inr l) bs tree =
    let all = inv.all ∙ ap (λ k. inv.written ++ k) (ended s gave).0 in
    begun_long inv.begun 0 [] (λ j lt. tt) l bs (subst (λ k. TreeOf k bs) all tree)

-- the same of what was answered
pub unfit_ended : (first s : Reading) (top : List ℕ) (below : List (List ℕ)) → Writing first s top below → None ≡ upcoming s → (height : ℕ) → height ≡ length below → {X : Type 0} (r : Result X EncodeFault) → IfErr r (λ e. e ≡ Unfit → (height ≡ 0) ⊎ TooLong 0 top below) → IfErr r (λ e. e ≡ Unfit → NoTree first.rows)
unfit_ended first s top below inv gave height many (Ok v) h = tt
unfit_ended first s top below inv gave height many (Err e) h = λ u. unfit_end first s top below inv gave height many (h u)

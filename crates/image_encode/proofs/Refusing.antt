-- Rows of which there is no tree. Assumes nothing.
use Rattle.std.proofs.Common.{◌≡◌, ℕ, zero, suc, ◌+◌, ◌^◌, ◌<◌, ◌≤◌, Bool, true, false, ◌||◌, eqb, ltb, List, [], ◌∷◌, ◌++◌, length, sym, refl, ap, ◌∙◌, subst, append_assoc, append-nil, arith, inl, inr, Ok, Err, Result, IfErr}
use Rattle.std.proofs.lemmas.Bool.{le-leb, lt-ltb}
use Rattle.std.proofs.lemmas.List.{length-map}
use Rattle.hir.specs.Spans.{ident}
use Rattle.hir.specs.Lists.{Each}
use Rattle.reactive.specs.Rows.{Row, head}
use Rattle.image.specs.Bytes.{joined}
use Rattle.image.specs.Format.{Fields, fields, Tree, row}
use Rattle.image_source.specs.Trees.{row_of, all_rows, tree_rows}
use Rattle.image_encode.specs.declared.fault.EncodeFault.{EncodeFault}
use Rattle.image_encode.specs.declared.fault.EncodeFault.TheVariants.{Unfit}
use Rattle.image_encode.specs.Fields.{LongList}
use Rattle.image_encode.specs.Opens.{TooLong, fits_at}
use Rattle.image_encode.specs.Trees.{TreeOf, NoTree}
use Rattle.image_encode.proofs.Fields.{both_true, image_fits}
use Rattle.image_encode.proofs.Trees.{Partial, root, inside, opened, closes_inner, none_closed, Begun, fresh, going}
use Rattle.image_encode.proofs.Nesting.{Shallower, cons_head, cons_tail, row_fields, weaker, forest, beside}

-- each row can stand where those before it leave so many open, and its lists can be counted
abbrev pub Follows : ℕ → List Row → Type 0
Follows height [] = Unit {0}
Follows height (r ∷ rs) = (fits_at height (head r) ≡ true) × (LongList r → ⊥) × Follows (suc r.depth) rs

-- how many rows are open behind these
abbrev pub height_of : ℕ → List Row → ℕ
height_of height [] = height
height_of height (r ∷ rs) = height_of (suc r.depth) rs

pub height_end : (height : ℕ) (rs : List Row) (r : Row) → height_of height (rs ++ (r ∷ [])) ≡ suc r.depth
height_end height [] r = refl
height_end height (x ∷ rs) r = height_end (suc x.depth) rs r

pub follows_at : (height : ℕ) (rs : List Row) (r : Row) (rest : List Row) → Follows height (rs ++ (r ∷ rest)) → (fits_at (height_of height rs) (head r) ≡ true) × (LongList r → ⊥)
follows_at height [] r rest f = (f.0, f.1)
follows_at height (x ∷ rs) r rest f = follows_at (suc x.depth) rs r rest f.2

short_lists : (d : ℕ) (f : Fields) → fields.Fine f → LongList (row_of d f) → ⊥
short_lists d f fine (inl le) = omega (arith, le, fine.1.1.1.1.1.0.0, length-map f.1.1.1.1.1.0 ident)
short_lists d f fine (inr le) = omega (arith, le, fine.1.1.1.1.1.1.0, length-map f.1.1.1.1.1.1 ident)

or_true : (a b : Bool) → b ≡ true → a || b ≡ true
or_true true b e = refl
or_true false b e = e

-- a row of a tree within others, where at least these are open
stands_in : (d height : ℕ) (f : Fields) → 0 < d → d ≤ height → d < 128 → fits_at height (head (row_of d f)) ≡ true
stands_in d height f some le low = both_true _ _ (both_true _ _ (le-leb d height le) (lt-ltb d 128 low)) (both_true _ _ (or_true (eqb height 0) (ltb 0 d) (lt-ltb 0 d some)) (image_fits d f))

follow_forest : (n d : ℕ) (ts : List (Tree n)) (rest : List Row) (height : ℕ) → d + n ≡ 128 → 0 < d → d ≤ height → Each (row n).Fine ts → ((h : ℕ) → d ≤ h → Follows h rest) → Follows height (all_rows (tree_rows n d) ts ++ rest)
follow_forest n d [] rest height sum some le fine on = on height le
follow_forest zero d (t ∷ ts) rest height sum some le fine on = absurd t
follow_forest (suc n) d (t ∷ ts) rest height sum some le fine on =
    let kids = all_rows (tree_rows n (suc d)) t.1 in
    let others = all_rows (tree_rows (suc n) d) ts in
    let inner = follow_forest n (suc d) t.1 (others ++ rest) (suc d) (omega arith) (omega arith) (omega arith) fine.0.0.1 (λ h g. follow_forest (suc n) d ts rest h sum some (omega arith) fine.1 on) in
    (stands_in d height t.0 some le (omega arith), short_lists d t.0 fine.0.0.0, subst (Follows (suc d)) (sym (append_assoc kids others rest)) inner)

-- the rows of a tree
pub follow_tree : (rs : List Row) (bs : List ℕ) → TreeOf rs bs → Follows 0 rs
follow_tree rs bs t =
    let kids = all_rows (tree_rows 127 1) t.tree.1 in
    let inner = subst (Follows 1) (append-nil kids) (follow_forest 127 1 t.tree.1 [] 1 refl (omega arith) (omega arith) t.fine.0.1 (λ h g. tt)) in
    subst (Follows 0) (sym t.rows) (both_true _ _ refl (both_true _ _ refl (image_fits 0 t.tree.0)), short_lists 0 t.tree.0 t.fine.0.0, inner)

-- trees that were read are the front of those that are there

record Front (n d : ℕ) (ts : List (Tree n)) (rest : List Row) (us : List (Tree n)) (ys : List Row) : Type 0 where
  others : List (Tree n)
  are : us ≡ ts ++ others
  left : rest ≡ all_rows (tree_rows n d) others ++ ys

deeper : (n d : ℕ) (ts : List (Tree (suc n))) (xs : List Row) → Shallower (suc d) xs → Shallower (suc d) (all_rows (tree_rows (suc n) d) ts ++ xs)
deeper n d [] xs h = h
deeper n d (t ∷ ts) xs h = omega arith

front : (n d : ℕ) (ts : List (Tree n)) (rest : List Row) (us : List (Tree n)) (ys : List Row) → Shallower (suc d) rest → Shallower d ys → all_rows (tree_rows n d) ts ++ rest ≡ all_rows (tree_rows n d) us ++ ys → Front n d ts rest us ys
front n d [] rest us ys hr hy e = record { others = us; are = refl; left = e }
front zero d (t ∷ ts) rest us ys hr hy e = absurd t
front (suc n) d (t ∷ ts) rest [] ys hr hy e = absurd (let lt : d < d = subst (Shallower d) (sym e) hy in omega arith)
front (suc n) d (t ∷ ts) rest (u ∷ us) ys hr hy e =
    let kids = λ (v : Tree (suc n)). all_rows (tree_rows n (suc d)) v.1 in
    let all = all_rows (tree_rows (suc n) d) in
    let f : t.0 ≡ u.0 = row_fields d t.0 u.0 (cons_head (row_of d t.0) (row_of d u.0) ((kids t ++ all ts) ++ rest) ((kids u ++ all us) ++ ys) e) in
    let tail = cons_tail (row_of d t.0) (row_of d u.0) ((kids t ++ all ts) ++ rest) ((kids u ++ all us) ++ ys) e in
    let inner = forest n (suc d) t.1 u.1 (all ts ++ rest) (all us ++ ys) (deeper n d ts rest hr) (beside n d us ys hy) (sym (append_assoc (kids t) (all ts) rest) ∙ tail ∙ append_assoc (kids u) (all us) ys) in
    let outer = front (suc n) d ts rest us ys hr hy inner.1 in
    record { others = outer.others; are = (λ i. (sym f i, sym inner.0 i) ∷ outer.are i); left = outer.left }

-- of a tree that has the rows read so far, and these behind them, the row that is innermost open
record Agrees (k n : ℕ) (top : List ℕ) (rest : List Row) : Type 0 where
  f : Fields
  ts : List (Tree n)
  others : List (Tree n)
  behind : List Row
  fine : (row (suc n)).Fine (f, ts ++ others)
  bytes : top ≡ fields.write f ++ joined (row n).write ts
  left : rest ≡ all_rows (tree_rows n k) others ++ behind
  shallow : Shallower k behind

each_second : {A : Type 0} (P : A → Type 0) (xs ys : List A) → Each P (xs ++ ys) → Each P ys
each_second P [] ys h = h
each_second P (x ∷ xs) ys h = each_second P xs ys h.1

module _ (k n : ℕ) (f : Fields) (ts : List (Tree n)) (rest : List Row) (h : Shallower (suc (suc k)) rest) where
  one_deeper : (g : Fields) (ks others : List (Tree (suc n))) (behind : List Row) → (row (suc (suc n))).Fine (g, ks ++ others) → row_of k f ∷ (all_rows (tree_rows n (suc k)) ts ++ rest) ≡ all_rows (tree_rows (suc n) k) others ++ behind → Shallower k behind → Agrees (suc k) n (fields.write f ++ joined (row n).write ts) rest
  one_deeper g ks [] behind fine e hb = absurd (let lt : k < k = subst (Shallower k) (sym e) hb in omega arith)
  one_deeper g ks (u ∷ us) behind fine e hb =
      let kids = all_rows (tree_rows n (suc k)) in
      let all = all_rows (tree_rows (suc n) k) us in
      let same : f ≡ u.0 = row_fields k f u.0 (cons_head (row_of k f) (row_of k u.0) (kids ts ++ rest) ((kids u.1 ++ all) ++ behind) e) in
      let tail = cons_tail (row_of k f) (row_of k u.0) (kids ts ++ rest) ((kids u.1 ++ all) ++ behind) e in
      let r = front n (suc k) ts rest u.1 (all ++ behind) h (beside n k us behind hb) (tail ∙ append_assoc (kids u.1) all behind) in
      let deep = (each_second (row (suc n)).Fine ks (u ∷ us) fine.0.1).0 in
      record {
        f = f;
        ts = ts;
        others = r.others;
        behind = all ++ behind;
        fine = subst (λ (v : Tree (suc n)). (row (suc n)).Fine v) (λ i. (sym same i, r.are i)) deep;
        bytes = refl;
        left = r.left;
        shallow = beside n k us behind hb;
      }

agrees : {k n : ℕ} {rows : List Row} {top : List ℕ} {below : List (List ℕ)} → Partial k n rows top below → (rest : List Row) → Shallower (suc k) rest → (t : Tree 128) → (row 128).Fine t → rows ++ rest ≡ tree_rows 128 0 t → Agrees k n top rest
agrees (root f ts hf hs) rest h t fine e =
    let kids = all_rows (tree_rows 127 1) in
    let same : f ≡ t.0 = row_fields 0 f t.0 (cons_head (row_of 0 f) (row_of 0 t.0) (kids ts ++ rest) (kids t.1) e) in
    let tail = cons_tail (row_of 0 f) (row_of 0 t.0) (kids ts ++ rest) (kids t.1) e in
    let r = front 127 1 ts rest t.1 [] h tt (tail ∙ sym (append-nil (kids t.1))) in
    record {
      f = f;
      ts = ts;
      others = r.others;
      behind = [];
      fine = subst (λ (v : Tree 128). (row 128).Fine v) (λ i. (sym same i, r.are i)) fine;
      bytes = refl;
      left = r.left;
      shallow = tt;
    }
agrees (inside {k} {n} {rows} p f ts hf hs) rest h t fine e =
    let kids = all_rows (tree_rows n (suc k)) ts in
    let a = agrees p (row_of k f ∷ (kids ++ rest)) (omega arith) t fine (sym (append_assoc rows (row_of k f ∷ kids) rest) ∙ e) in
    one_deeper k n f ts rest h a.f a.ts a.others a.behind a.fine a.left a.shallow

-- an open row that is now at its end is one of the tree, which can be written
not_long : (k n : ℕ) (top : List ℕ) (rest : List Row) (f : Fields) (ts others : List (Tree n)) (behind : List Row) → (row (suc n)).Fine (f, ts ++ others) → top ≡ fields.write f ++ joined (row n).write ts → rest ≡ all_rows (tree_rows n k) others ++ behind → Shallower k rest → length top < 2 ^ 32
not_long k n top rest f ts [] behind fine bytes left h = let e = ap length (bytes ∙ ap (λ us. fields.write f ++ joined (row n).write us) (sym (append-nil ts))) in omega (arith, e, fine.1)
not_long k zero top rest f ts (u ∷ us) behind fine bytes left h = absurd u
not_long k (suc n) top rest f ts (u ∷ us) behind fine bytes left h = absurd (let lt : k < k = subst (Shallower k) left h in omega arith)

no_close : {k n : ℕ} {rows : List Row} {top : List ℕ} {below : List (List ℕ)} → Partial k n rows top below → (depth : ℕ) (rest : List Row) → ((j : ℕ) → depth < j → Shallower j rest) → TooLong depth top below → NoTree (rows ++ rest)
no_close p depth rest next l bs t =
    let q = closes_inner l.closes p (omega (arith, l.deep)) in
    let o = opened q.2 in
    let h = next q.0 (omega (arith, l.deep, o.many)) in
    let a = agrees q.2 rest (weaker q.0 rest h) t.tree t.fine t.rows in
    omega (arith, l.long, not_long q.0 q.1 l.inner rest a.f a.ts a.others a.behind a.fine a.bytes a.left h)

-- where a row cannot be closed, there is no tree
pub begun_long : {rows : List Row} {top : List ℕ} {below : List (List ℕ)} → Begun rows top below → (depth : ℕ) (rest : List Row) → ((j : ℕ) → depth < j → Shallower j rest) → TooLong depth top below → NoTree (rows ++ rest)
begun_long fresh depth rest next l bs t = let n = none_closed l.closes refl in omega (arith, ap length n.1, l.deep)
begun_long (going p) depth rest next l bs t = no_close p depth rest next l bs t

-- no rows are no tree
pub begun_none : {rows : List Row} {top : List ℕ} {below : List (List ℕ)} → Begun rows top below → length below ≡ 0 → NoTree rows
begun_none fresh z bs t = absurd (let e = ap length t.rows in omega arith)
begun_none (going p) z bs t = let o = opened p in omega (arith, z, o.many, o.some)

-- a refusal that is handed on
pub hand_on : {X Q : Type 0} (r : Result X EncodeFault) (e f : EncodeFault) → r ≡ Err e → e ≡ f → (f ≡ Unfit → Q) → IfErr r (λ k. k ≡ Unfit → Q)
hand_on (Ok x) e f is same q = tt
hand_on (Err g) e f is same q = λ u. let back : g ≡ e = cc in q (sym same ∙ sym back ∙ u)

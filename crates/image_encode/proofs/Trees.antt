-- Rows while they are written, and the trees that they become. Assumes nothing.
use Rattle.std.proofs.Common.{◌≡◌, ℕ, zero, suc, ◌+◌, ◌<◌, ◌≤◌, min, Bool, true, false, ◌&&◌, ◌||◌, eqb, ltb, leb, ◌⊎◌, List, [], ◌∷◌, ◌++◌, length, sym, refl, ap, ◌∙◌, subst, inl, inr, append_assoc, append-nil, arith, length-append, ltb-true, eqb-true, leb-true}
use Rattle.hir.specs.Lists.{Each}
use Rattle.reactive.specs.declared.row.RowHead.{RowHead}
use Rattle.reactive.specs.Rows.{Row, head}
use Rattle.image.specs.Bytes.{joined}
use Rattle.image.specs.Format.{Fields, fields, Tree, row}
use Rattle.image_source.specs.Trees.{row_of, all_rows, tree_rows}
use Rattle.image_encode.specs.Fields.{fields_of, fits_in}
use Rattle.image_encode.specs.Trees.{TreeOf}
use Rattle.image_encode.specs.Opens.{Closed, ClosedTo, none, more, fits_at}
use Rattle.image_encode.proofs.Writings.{joined_end, each_end}
use Rattle.image_encode.proofs.Opens.{fewer}
use Rattle.image_encode.proofs.Fields.{and_first, and_second, row_back}

-- the rows so far are those of trees that can be written, of which k rows are still open, with room for n more; each open row's bytes so far
pub data Partial : ℕ → ℕ → List Row → List ℕ → List (List ℕ) → Type 0 where
  root : (f : Fields) (ts : List (Tree 127)) → fields.Fine f → Each (row 127).Fine ts → Partial 1 127 (row_of 0 f ∷ all_rows (tree_rows 127 1) ts) (fields.write f ++ joined (row 127).write ts) ([] ∷ [])
  inside : {k n : ℕ} {rows : List Row} {top : List ℕ} {below : List (List ℕ)} → Partial k (suc n) rows top below → (f : Fields) (ts : List (Tree n)) → fields.Fine f → Each (row n).Fine ts → Partial (suc k) n (rows ++ (row_of k f ∷ all_rows (tree_rows n (suc k)) ts)) (fields.write f ++ joined (row n).write ts) (below ++ (top ∷ []))

pub record Open (k n : ℕ) (below : List (List ℕ)) : Type 0 where
  pub many : length below ≡ k
  pub room : k + n ≡ 128
  pub some : 1 ≤ k

pub opened : {k n : ℕ} {rows : List Row} {top : List ℕ} {below : List (List ℕ)} → Partial k n rows top below → Open k n below
opened (root f ts h hs) = record { many = refl; room = refl; some = omega arith }
opened (inside {top = top} {below = below} p f ts h hs) = let o = opened p in record { many = omega (arith, length-append below (top ∷ []), o.many); room = omega (arith, o.room); some = omega arith }

all_put : {A : Type 0} (g : A → List Row) (ts : List A) (t : A) → all_rows g (ts ++ (t ∷ [])) ≡ all_rows g ts ++ g t
all_put g [] t = append-nil (g t)
all_put g (x ∷ ts) t = ap (λ s. g x ++ s) (all_put g ts t) ∙ sym (append_assoc (g x) (all_rows g ts) (g t))

cast : {k n : ℕ} {rows rows' : List Row} {top top' : List ℕ} {below below' : List (List ℕ)} → rows ≡ rows' → top ≡ top' → below ≡ below' → Partial k n rows top below → Partial k n rows' top' below'
cast {k} {n} {rows} {rows'} {top} {top'} {below} {below'} e f g p = subst (λ b. Partial k n rows' top' b) g (subst (λ t. Partial k n rows' t below) f (subst (λ r. Partial k n r top below) e p))

-- a whole tree, which can be written, behind those that the innermost open row has
put : {k n : ℕ} {rows : List Row} {top : List ℕ} {below : List (List ℕ)} → Partial k n rows top below → (t : Tree n) → (row n).Fine t → Partial k n (rows ++ tree_rows n k t) (top ++ (row n).write t) below
put (root f ts h hs) t g =
    cast (ap (λ s. row_of 0 f ∷ s) (all_put (tree_rows 127 1) ts t))
    (ap (λ s. fields.write f ++ s) (joined_end (row 127).write ts t) ∙ sym (append_assoc (fields.write f) (joined (row 127).write ts) ((row 127).write t))) refl
    (root f (ts ++ (t ∷ [])) h (each_end (row 127).Fine ts t hs g))
put (inside {k} {n} {rows} p f ts h hs) t g =
    cast (ap (λ s. rows ++ (row_of k f ∷ s)) (all_put (tree_rows n (suc k)) ts t) ∙ sym (append_assoc rows (row_of k f ∷ all_rows (tree_rows n (suc k)) ts) (tree_rows n (suc k) t)))
    (ap (λ s. fields.write f ++ s) (joined_end (row n).write ts t) ∙ sym (append_assoc (fields.write f) (joined (row n).write ts) ((row n).write t))) refl
    (inside p f (ts ++ (t ∷ [])) h (each_end (row n).Fine ts t hs g))

last_of : List (List ℕ) → List ℕ
last_of [] = []
last_of (x ∷ []) = x
last_of (x ∷ (y ∷ xs)) = last_of (y ∷ xs)

record Snoc (xs ys : List (List ℕ)) (x y : List ℕ) : Type 0 where
  front : xs ≡ ys
  end : x ≡ y

snoc_is : (xs ys : List (List ℕ)) (x y : List ℕ) → xs ++ (x ∷ []) ≡ ys ++ (y ∷ []) → Snoc xs ys x y
snoc_is [] [] x y e = record { front = refl; end = cc }
snoc_is [] (b ∷ ys) x y e = absurd (omega (arith, ap length e, length-append ys (y ∷ [])))
snoc_is (a ∷ xs) [] x y e = absurd (omega (arith, ap length e, length-append xs (x ∷ [])))
snoc_is (a ∷ xs) (b ∷ ys) x y e =
    let h : a ≡ b = cc in
    let t : xs ++ (x ∷ []) ≡ ys ++ (y ∷ []) = cc in
    let s = snoc_is xs ys x y t in
    record { front = (λ i. h i ∷ s.front i); end = s.end }

-- the innermost open row is closed, and becomes the last tree of the row around it
pub close_inner : {k n : ℕ} {rows : List Row} {top : List ℕ} {below : List (List ℕ)} → Partial k n rows top below → (top' : List ℕ) (below' : List (List ℕ)) → Closed top below top' below' → 1 ≤ length below' → (j : ℕ) × Partial j (suc n) rows top' below'
close_inner (root f ts h hs) top' below' c some = absurd (omega (arith, fewer _ _ _ _ c))
close_inner (inside {k} {n} {rows} {top} {below} p f ts h hs) top' below' c some =
    let s = snoc_is below below' top c.parent c.around in
    (k, cast refl (ap (λ t. t ++ (row (suc n)).write (f, ts)) s.end ∙ sym c.bytes) s.front (put p (f, ts) ((h, hs), c.short)))

pub closes_inner : {top top' : List ℕ} {below below' : List (List ℕ)} → ClosedTo top below top' below' → {k n : ℕ} {rows : List Row} → Partial k n rows top below → 1 ≤ length below' → (j : ℕ) × (m : ℕ) × Partial j m rows top' below'
closes_inner none {k} {n} p some = (k, n, p)
closes_inner (more {top' = top'} {top'' = top''} {below' = below'} {below'' = below''} c d) p some =
    let q = closes_inner c p (omega (arith, fewer _ _ _ _ d)) in
    let r = close_inner q.2 top'' below'' d some in
    (r.0, suc q.1, r.1)

close_root : {k n : ℕ} {rows : List Row} {top : List ℕ} {below : List (List ℕ)} → Partial k n rows top below → k ≡ 1 → (top' : List ℕ) (below' : List (List ℕ)) → Closed top below top' below' → TreeOf rows top'
close_root (root f ts h hs) one top' below' c =
    let s = snoc_is [] below' [] c.parent c.around in
    record { tree = (f, ts); fine = ((h, hs), c.short); rows = refl; bytes = c.bytes ∙ ap (λ t. t ++ (row 128).write (f, ts)) (sym s.end) }
close_root (inside p f ts h hs) one top' below' c = let o = opened p in absurd (omega (arith, o.some))

pub closes_all : {top top' : List ℕ} {below below' : List (List ℕ)} → ClosedTo top below top' below' → {k n : ℕ} {rows : List Row} → Partial k n rows top below → length below' ≡ 0 → TreeOf rows top'
closes_all none p none_left = let o = opened p in absurd (omega (arith, o.some, o.many))
closes_all (more {top'' = top''} {below'' = below''} c d) p none_left =
    let q = closes_inner c p (omega (arith, fewer _ _ _ _ d)) in
    let o = opened q.2 in
    close_root q.2 (omega (arith, o.many, fewer _ _ _ _ d)) top'' below'' d

-- what was read so far: nothing, or open rows
pub data Begun : List Row → List ℕ → List (List ℕ) → Type 0 where
  fresh : Begun [] [] []
  going : {k n : ℕ} {rows : List Row} {top : List ℕ} {below : List (List ℕ)} → Partial k n rows top below → Begun rows top below

-- a row, and no row within it yet
enter : {k n : ℕ} {rows : List Row} {top : List ℕ} {below : List (List ℕ)} → Partial k n rows top below → k < 128 → (r : Row) → r.depth ≡ k → fits_in r.code r.identifier r.number ≡ true → fields.Fine (fields_of r) → (m : ℕ) × Partial (suc k) m (rows ++ (r ∷ [])) (fields.write (fields_of r)) (below ++ (top ∷ []))
enter {k = k} {n = zero} p low r at fits fine = let o = opened p in absurd (omega (arith, o.room))
enter {k = k} {n = suc n} {rows = rows} p low r at fits fine =
    let is : row_of k (fields_of r) ≡ r = ap (λ d. row_of d (fields_of r)) (sym at) ∙ row_back r fits in
    (n, cast (ap (λ x. rows ++ (x ∷ [])) is) (append-nil (fields.write (fields_of r))) refl (inside p (fields_of r) [] fine tt))

-- the parts of the test whether a row can stand where so many are open
pub record Stands (height : ℕ) (h : RowHead) : Type 0 where
  pub near : h.depth ≤ height
  pub low : h.depth < 128
  pub alone : (height ≡ 0) ⊎ (0 < h.depth)
  pub fits : fits_in h.code h.identifier h.number ≡ true

pub stands : (height : ℕ) (h : RowHead) → fits_at height h ≡ true → Stands height h
stands height h e =
    let a = and_first (leb h.depth height && ltb h.depth 128) _ e in
    let b = and_second (leb h.depth height && ltb h.depth 128) _ e in
    record {
      near = leb-true _ _ (and_first (leb h.depth height) _ a);
      low = ltb-true _ _ (and_second (leb h.depth height) _ a);
      alone = either (eqb height 0) refl (and_first (eqb height 0 || ltb 0 h.depth) _ b);
      fits = and_second (eqb height 0 || ltb 0 h.depth) _ b;
    }
  where
    either : (c : Bool) → eqb height 0 ≡ c → c || ltb 0 h.depth ≡ true → (height ≡ 0) ⊎ (0 < h.depth)
    either true e f = inl (eqb-true _ 0 e)
    either false e f = inr (ltb-true _ _ f)

pub none_closed : {top top' : List ℕ} {below below' : List (List ℕ)} → ClosedTo top below top' below' → length below ≡ 0 → (top ≡ top') × (below ≡ below')
none_closed none e = (refl, refl)
none_closed (more c d) e = let s = none_closed c e in absurd (omega (arith, ap length s.1, fewer _ _ _ _ d))

-- one row more
pub begun_on : {rows : List Row} {top : List ℕ} {below : List (List ℕ)} → Begun rows top below → (r : Row) → Stands (length below) (head r) → fields.Fine (fields_of r) → (top' : List ℕ) (below' : List (List ℕ)) → ClosedTo top below top' below' → length below' ≡ min (length below) r.depth → Begun (rows ++ (r ∷ [])) (fields.write (fields_of r)) (below' ++ (top' ∷ []))
begun_on fresh r s fine top' below' c len =
    let n = none_closed c refl in
    let at : 0 ≡ r.depth = omega (arith, s.near) in
    let is : row_of 0 (fields_of r) ≡ r = ap (λ d. row_of d (fields_of r)) at ∙ row_back r s.fits in
    going (cast (ap (λ x. x ∷ []) is) (append-nil (fields.write (fields_of r))) (λ i. n.1 i ++ (n.0 i ∷ [])) (root (fields_of r) [] fine tt))
begun_on (going {below = below} p) r s fine top' below' c len =
    let o = opened p in
    let some : 0 < r.depth = elim s.alone [ inl z ↦ absurd (omega (arith, z, o.many, o.some)) | inr lt ↦ lt ] in
    let q = closes_inner c p (omega (arith, len, o.many, o.some)) in
    let i = opened q.2 in
    let at : r.depth ≡ q.0 = omega (arith, len, s.near, i.many) in
    going (enter q.2 (omega (arith, s.low)) r at s.fits fine).1

-- at the end all are closed
pub begun_all : {rows : List Row} {top : List ℕ} {below : List (List ℕ)} → Begun rows top below → 0 < length below → (top' : List ℕ) (below' : List (List ℕ)) → ClosedTo top below top' below' → length below' ≡ 0 → TreeOf rows top'
begun_all fresh some top' below' c none_left = absurd (omega arith)
begun_all (going p) some top' below' c none_left = closes_all c p none_left

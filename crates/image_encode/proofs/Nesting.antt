-- A tree is told by its rows. Assumes nothing.
use Rattle.std.proofs.Common.{◌≡◌, ℕ, zero, suc, ◌<◌, Bool, true, false, cond, eqb, List, [], ◌∷◌, ◌++◌, map, Some, None, sym, refl, ap, ◌∙◌, subst, append_assoc, arith, eqb-true}
use Rattle.hir.specs.Spans.{ident}
use Rattle.reactive.specs.declared.row.Number.TheVariants as numbers
use Rattle.reactive.specs.Codes.{has_scope}
use Rattle.reactive.specs.Rows.{Row}
use Rattle.image.specs.Format.{Fields, Tree, Panel}
use Rattle.image_source.specs.Trees.{absent, number_kind, row_of, all_rows, tree_rows}
use Rattle.image_encode.specs.Fields.{plain, identifier_word, number_word, fields_of}
use Rattle.image_encode.specs.Panels.{panel_says}

word_back : (n : ℕ) (b : Bool) → eqb n absent ≡ b → identifier_word (cond b None (Some (ident n))) ≡ n
word_back n true e = sym (eqb-true n absent e)
word_back n false e = refl

kind_word : (n : ℕ) (s : Bool) → number_word (Some (cond s (numbers.Scope (record { 0 = n })) (numbers.Function (record { 0 = n })))) ≡ n
kind_word n true = refl
kind_word n false = refl

number_back : (code n : ℕ) (b : Bool) → eqb n absent ≡ b → number_word (cond b None (Some (number_kind code n))) ≡ n
number_back code n true e = sym (eqb-true n absent e)
number_back code n false e = kind_word n (has_scope code)

list_back : (l : List ℕ) → map plain (map ident l) ≡ l
list_back [] = refl
list_back (n ∷ l) = ap (λ k. n ∷ k) (list_back l)

-- the fields of a row of an image are those that it was made of
pub fields_back : (d : ℕ) (f : Fields) → fields_of (row_of d f) ≡ f
fields_back d f = λ i. (f.0, (word_back f.1.0 (eqb f.1.0 absent) refl i, (number_back f.0 f.1.1.0 (eqb f.1.1.0 absent) refl i, (f.1.1.1.0, (f.1.1.1.1.0, (list_back f.1.1.1.1.1.0 i, list_back f.1.1.1.1.1.1 i))))))

pub cons_head : {A : Type 0} (x y : A) (xs ys : List A) → x ∷ xs ≡ y ∷ ys → x ≡ y
cons_head x y xs ys e = cc

pub cons_tail : {A : Type 0} (x y : A) (xs ys : List A) → x ∷ xs ≡ y ∷ ys → xs ≡ ys
cons_tail x y xs ys e = cc

pub row_fields : (d : ℕ) (f g : Fields) → row_of d f ≡ row_of d g → f ≡ g
row_fields d f g e = sym (fields_back d f) ∙ ap fields_of e ∙ fields_back d g

-- the next row, where there is one, lies less deep
abbrev pub Shallower : ℕ → List Row → Type 0
Shallower d [] = Unit {0}
Shallower d (r ∷ rs) = r.depth < d

pub weaker : (d : ℕ) (xs : List Row) → Shallower d xs → Shallower (suc d) xs
weaker d [] h = tt
weaker d (r ∷ rs) h = omega arith

pub beside : (n d : ℕ) (ts : List (Tree (suc n))) (xs : List Row) → Shallower d xs → Shallower (suc d) (all_rows (tree_rows (suc n) d) ts ++ xs)
beside n d [] xs h = weaker d xs h
beside n d (t ∷ ts) xs h = omega arith

-- trees beside one another are told by their rows, and by where the next row lies less deep
pub forest : (n d : ℕ) (ts us : List (Tree n)) (xs ys : List Row) → Shallower d xs → Shallower d ys → all_rows (tree_rows n d) ts ++ xs ≡ all_rows (tree_rows n d) us ++ ys → (ts ≡ us) × (xs ≡ ys)
forest n d [] [] xs ys hx hy e = (refl, e)
forest zero d (t ∷ ts) us xs ys hx hy e = absurd t
forest zero d [] (u ∷ us) xs ys hx hy e = absurd u
forest (suc n) d [] (u ∷ us) xs ys hx hy e = absurd (let lt : d < d = subst (Shallower d) e hx in omega arith)
forest (suc n) d (t ∷ ts) [] xs ys hx hy e = absurd (let lt : d < d = subst (Shallower d) (sym e) hy in omega arith)
forest (suc n) d (t ∷ ts) (u ∷ us) xs ys hx hy e =
    let kids = λ (v : Tree (suc n)). all_rows (tree_rows n (suc d)) v.1 in
    let rest = all_rows (tree_rows (suc n) d) in
    let f : t.0 ≡ u.0 = row_fields d t.0 u.0 (cons_head (row_of d t.0) (row_of d u.0) ((kids t ++ rest ts) ++ xs) ((kids u ++ rest us) ++ ys) e) in
    let tail = cons_tail (row_of d t.0) (row_of d u.0) ((kids t ++ rest ts) ++ xs) ((kids u ++ rest us) ++ ys) e in
    let inner = forest n (suc d) t.1 u.1 (rest ts ++ xs) (rest us ++ ys) (beside n d ts xs hx) (beside n d us ys hy) (sym (append_assoc (kids t) (rest ts) xs) ∙ tail ∙ append_assoc (kids u) (rest us) ys) in
    let outer = forest (suc n) d ts us xs ys hx hy inner.1 in
    ((λ i. (f i, inner.0 i) ∷ outer.0 i), outer.1)

pub one_tree : (n d : ℕ) (t u : Tree n) → tree_rows n d t ≡ tree_rows n d u → t ≡ u
one_tree n d t u e = cons_head t u [] [] (forest n d (t ∷ []) (u ∷ []) [] [] tt tt (ap (λ k. (k ++ []) ++ []) e)).0

-- panels are told by their parameters and rows
pub one_panel : (ts us : List Panel) → map panel_says ts ≡ map panel_says us → ts ≡ us
one_panel [] [] e = refl
one_panel [] (u ∷ us) e = absurd (cc)
one_panel (t ∷ ts) [] e = absurd (cc)
one_panel (t ∷ ts) (u ∷ us) e =
    let h = cons_head (panel_says t) (panel_says u) (map panel_says ts) (map panel_says us) e in
    let rest = one_panel ts us (cons_tail (panel_says t) (panel_says u) (map panel_says ts) (map panel_says us) e) in
    let own : t.0 ≡ u.0 = ap (λ (v : List ℕ × List Row). v.0) h in
    let tree : t.1 ≡ u.1 = one_tree 128 0 t.1 u.1 (ap (λ (v : List ℕ × List Row). v.1) h) in
    (λ i. (own i, tree i) ∷ rest i)

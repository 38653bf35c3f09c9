-- What a section holds. Assumes nothing.
use Rattle.std.proofs.Common.{◌≡◌, ℕ, zero, suc, ◌+◌, ◌*◌, ◌/◌, ◌^◌, ◌<◌, ◌≤◌, Bool, true, false, cond, eqb, List, [], ◌∷◌, ◌++◌, length, get_or, drop, Ok, Err, Result, sym, refl, ap, ◌∙◌, subst, append_assoc, append-nil, arith, length-append, length-drop, drop-drop, eqb-true}
use borrow.Author.Tests.{eqb-false}
use Rattle.std.proofs.lemmas.Bool.{cond-false, cond-true, eq-eqb, ne_eqb}
use Rattle.hir.specs.Lists.{Each}
use Rattle.image.specs.declared.fault.RowFault.{RowFault}
use Rattle.image.specs.Bytes.{Place, u32_of, be, joined}
use Rattle.image.specs.Layouts.{Layout, only, left, numbers, ◌then◌}
use Rattle.image.specs.Format.{Scope, Function, Panel, identifier, IdentifiersFault, over, scope, function, tree, row, Content, of_identifiers, of_scope, of_function, of_tree, rank_of, content_bytes, FineContent, ContentFault}
use Rattle.image.specs.Steps.{and_then, both, numbers_at, row_at}
use Rattle.image_check.specs.Steps.{identifiers_of, scope_at, function_at, tree_at, wrapped, content_at}
use Rattle.image_check.proofs.Exact.{AllBytes, Exact, TellsAll, ExactAll, lifted, exact_then, exact_both, only_at, exact_only, none_left, positive}
use Rattle.image_check.proofs.Leaves.{four_bytes, be_says, bytes_drop, exact_numbers}
use Rattle.image_check.proofs.Rows.{exact_lists, exact_row}

-- the first byte left over is the fault
abbrev pub closing : Content × Place → Result Content RowFault
closing v = cond (eqb (length v.1.1) 0) (Ok v.0) (Err (left v.1.0))

-- the content of a section that is read to its end
abbrev pub content_read : ℕ → Place → Result Content RowFault
content_read r p = and_then (content_at r p) closing

-- what an answer says of the bytes
abbrev pub TellsContent : ℕ → Place → Result Content RowFault → Type 0
TellsContent r p (Ok c) = FineContent c × (p.1 ≡ content_bytes c) × (rank_of c ≡ r)
TellsContent r p (Err f) = ContentFault r p f

-- content of a layout, under one of the cases
module _ {X : Type 0} (k : X → Content) where
  close_wrapped : (b : Bool) (x : X) (f : RowFault) → cond b (Ok (k x)) (Err f) ≡ and_then (cond b (Ok x) (Err f)) (λ y. Ok (k y))
  close_wrapped true x f = refl
  close_wrapped false x f = refl

  pub read_wrapped : (r : Result (X × Place) RowFault) → and_then (wrapped k r) closing ≡ and_then (and_then r (λ v. cond (eqb (length v.1.1) 0) (Ok v.0) (Err (left v.1.0)))) (λ x. Ok (k x))
  read_wrapped (Ok v) = close_wrapped (eqb (length v.1.1) 0) v.0 (left v.1.0)
  read_wrapped (Err f) = refl

pub exact_scope : Exact scope (lifted scope_at)
exact_scope = exact_both numbers (numbers then numbers) numbers_at (both numbers_at numbers_at) exact_numbers exact_lists

pub exact_tree : Exact tree tree_at
exact_tree = exact_then numbers (row 128) (lifted numbers_at) (row_at 128) exact_numbers (exact_row 128)

-- a scope, a function or a tree
module _ {X : Type 0} (L : Layout X) (a : Place → Result (X × Place) RowFault) (ea : Exact L a) (k : X → Content) where
  abbrev whole : ExactAll (only L) (only_at L a ea)
  whole = exact_only L a ea

  pub wrapped_finds : (x : X) (p : Place) → L.Fine x → p.1 ≡ L.write x → and_then (wrapped k (a p)) closing ≡ Ok (k x)
  wrapped_finds x p fine e = read_wrapped k (a p) ∙ ap (λ r. and_then r (λ y. Ok (k y))) (whole.finds x p (record { fine = fine; bytes = e }))

  pub wrapped_meets : (p : Place) (f : RowFault) → (only L).Fault p f → and_then (wrapped k (a p)) closing ≡ Err f
  wrapped_meets p f t = read_wrapped k (a p) ∙ ap (λ r. and_then r (λ y. Ok (k y))) (whole.meets p f t)

tells_scope : (p : Place) (r : Result Scope RowFault) → TellsAll (only scope) p r → TellsContent 1 p (and_then r (λ x. Ok (of_scope x)))
tells_scope p (Ok x) t = (t.fine, t.bytes, refl)
tells_scope p (Err f) t = t

tells_function : (p : Place) (r : Result Function RowFault) → TellsAll (only function) p r → TellsContent 2 p (and_then r (λ x. Ok (of_function x)))
tells_function p (Ok x) t = (t.fine, t.bytes, refl)
tells_function p (Err f) t = t

tells_tree : (p : Place) (r : Result Panel RowFault) → TellsAll (only tree) p r → TellsContent 3 p (and_then r (λ x. Ok (of_tree x)))
tells_tree p (Ok x) t = (t.fine, t.bytes, refl)
tells_tree p (Err f) t = t

-- identifier rows

five_bytes : (bs : List ℕ) → AllBytes bs → 5 ≤ length bs → (bs ≡ identifier.write (u32_of bs, get_or bs 4 0) ++ drop 5 bs) × identifier.Fine (u32_of bs, get_or bs 4 0)
five_bytes bs h le = five bs (four_bytes bs h (omega arith)) (bytes_drop 4 bs h) le
  where
    five : (cs : List ℕ) → (cs ≡ be (u32_of cs) ++ drop 4 cs) × (u32_of cs < 2 ^ 32) → AllBytes (drop 4 cs) → 5 ≤ length cs → (cs ≡ identifier.write (u32_of cs, get_or cs 4 0) ++ drop 5 cs) × identifier.Fine (u32_of cs, get_or cs 4 0)
    five [] f h le = absurd (omega arith)
    five (a ∷ []) f h le = absurd (omega arith)
    five (a ∷ (b ∷ [])) f h le = absurd (omega arith)
    five (a ∷ (b ∷ (c ∷ []))) f h le = absurd (omega arith)
    five (a ∷ (b ∷ (c ∷ (d ∷ [])))) f h le = absurd (omega arith)
    five (a ∷ (b ∷ (c ∷ (d ∷ (t ∷ cs))))) f h le = (f.0, (f.1, h.0))

identifiers_length : (xs : List (ℕ × ℕ)) → length (joined identifier.write xs) ≡ 5 * length xs
identifiers_length [] = refl
identifiers_length (x ∷ xs) = let e = identifiers_length xs in omega arith

-- the first k rows of bytes that have as many
record Rows (k : ℕ) (bs : List ℕ) (xs : List (ℕ × ℕ)) : Type 0 where
  count : length xs ≡ k
  bytes : bs ≡ joined identifier.write xs ++ drop (5 * k) bs
  fine : Each identifier.Fine xs

rows_of : (k : ℕ) (bs : List ℕ) → AllBytes bs → 5 * k ≤ length bs → Rows k bs (identifiers_of k bs)
rows_of zero bs h le = record { count = refl; bytes = refl; fine = tt }
rows_of (suc k) bs h le =
    let f = five_bytes bs h (omega arith) in
    let w = rows_of k (drop 5 bs) (bytes_drop 5 bs h) (omega (arith, length-drop 5 bs)) in
    let x : ℕ × ℕ = (u32_of bs, get_or bs 4 0) in
    let n : 5 * k + 5 ≡ 5 * suc k = omega arith in
    record {
      count = ap suc w.count;
      bytes =
          f.0 ∙ ap (λ t. identifier.write x ++ t) (w.bytes ∙ ap (λ t. joined identifier.write (identifiers_of k (drop 5 bs)) ++ t) (drop-drop (5 * k) 5 bs ∙ ap (λ j. drop j bs) (omega arith)))
          ∙ sym (append_assoc (identifier.write x) (joined identifier.write (identifiers_of k (drop 5 bs))) (drop (5 * suc k) bs));
      fine = (f.1, w.fine);
    }

rows_back : (xs : List (ℕ × ℕ)) (r : List ℕ) → Each identifier.Fine xs → identifiers_of (length xs) (joined identifier.write xs ++ r) ≡ xs
rows_back [] r h = refl
rows_back (x ∷ xs) r h =
    let rest = joined identifier.write xs ++ r in
    let e : (identifier.write x ++ joined identifier.write xs) ++ r ≡ identifier.write x ++ rest = append_assoc (identifier.write x) (joined identifier.write xs) r in
    ap (identifiers_of (suc (length xs))) e ∙ (λ i. (be_says x.0 (x.1 ∷ rest) h.0.0 i, x.1) ∷ rows_back xs r h.1 i)

-- k whole rows, and fewer bytes than another row has
rows_told : (p : Place) (k : ℕ) → Rows k p.1 (identifiers_of k p.1) → k * 5 ≤ length p.1 → length p.1 < k * 5 + 5 → (b : Bool) → eqb (length (drop (k * 5) p.1)) 0 ≡ b → TellsContent 0 p (cond b (Ok (of_identifiers (identifiers_of k p.1))) (Err (left (p.0 + k * 5))))
rows_told p k w le lt b e =
    let xs = identifiers_of k p.1 in
    let five : 5 * k ≡ k * 5 = omega arith in
    by_test (w.bytes ∙ ap (λ j. joined identifier.write xs ++ drop j p.1) five) b e
  where
    by_test : p.1 ≡ joined identifier.write (identifiers_of k p.1) ++ drop (k * 5) p.1 → (c : Bool) → eqb (length (drop (k * 5) p.1)) 0 ≡ c → TellsContent 0 p (cond c (Ok (of_identifiers (identifiers_of k p.1))) (Err (left (p.0 + k * 5))))
    by_test cut true e = (w.fine, cut ∙ ap (λ t. joined identifier.write (identifiers_of k p.1) ++ t) (none_left (drop (k * 5) p.1) (eqb-true _ 0 e)) ∙ append-nil (joined identifier.write (identifiers_of k p.1)), refl)
    by_test cut false e =
        let l : length (joined identifier.write (identifiers_of k p.1)) ≡ k * 5 = omega (arith, identifiers_length (identifiers_of k p.1), w.count) in
        subst (λ n. IdentifiersFault p (left (p.0 + n))) l
        (over (identifiers_of k p.1) (drop (k * 5) p.1) w.fine cut (positive _ (eqb-false _ 0 e)) (omega (arith, length-drop (k * 5) p.1)))

rows_sound : (p : Place) → AllBytes p.1 → TellsContent 0 p (content_read 0 p)
rows_sound p h =
    let k = length p.1 / 5 in
    rows_told p k (rows_of k p.1 h (omega arith)) (omega arith) (omega arith) (eqb (length (drop (k * 5) p.1)) 0) refl

rows_finds : (xs : List (ℕ × ℕ)) (p : Place) → Each identifier.Fine xs → p.1 ≡ joined identifier.write xs → content_read 0 p ≡ Ok (of_identifiers xs)
rows_finds xs p h e =
    let l = ap length e ∙ identifiers_length xs in
    let k : length p.1 / 5 ≡ length xs = omega arith in
    let none : length (drop (length p.1 / 5 * 5) p.1) ≡ 0 = omega (arith, length-drop (length p.1 / 5 * 5) p.1) in
    cond-true _ _ _ (eq-eqb (length (drop (length p.1 / 5 * 5) p.1)) 0 none)
    ∙ ap (λ t. Ok (of_identifiers t)) ((λ i. identifiers_of (k i) ((e ∙ sym (append-nil (joined identifier.write xs))) i)) ∙ rows_back xs [] h)

rows_meets : (p : Place) (f : RowFault) → IdentifiersFault p f → content_read 0 p ≡ Err f
rows_meets p f (over xs rest h e some few) =
    let l = identifiers_length xs in
    let s = ap length e ∙ length-append (joined identifier.write xs) rest in
    let k : length p.1 / 5 * 5 ≡ length (joined identifier.write xs) = omega arith in
    cond-false _ _ _ (ne_eqb (length (drop (length p.1 / 5 * 5) p.1)) 0 (λ z. omega (arith, length-drop (length p.1 / 5 * 5) p.1)))
    ∙ ap (λ n. Err (left (p.0 + n))) k

-- every section

pub content_sound : (r : ℕ) (p : Place) → r < 4 → AllBytes p.1 → TellsContent r p (content_read r p)
content_sound zero p lt h = rows_sound p h
content_sound (suc zero) p lt h = subst (TellsContent 1 p) (sym (read_wrapped of_scope (lifted scope_at p))) (tells_scope p (only_at scope (lifted scope_at) exact_scope p) ((exact_only scope (lifted scope_at) exact_scope).sound p h))
content_sound (suc (suc zero)) p lt h = subst (TellsContent 2 p) (sym (read_wrapped of_function (lifted function_at p))) (tells_function p (only_at function (lifted function_at) exact_lists p) ((exact_only function (lifted function_at) exact_lists).sound p h))
content_sound (suc (suc (suc zero))) p lt h = subst (TellsContent 3 p) (sym (read_wrapped of_tree (tree_at p))) (tells_tree p (only_at tree tree_at exact_tree p) ((exact_only tree tree_at exact_tree).sound p h))
content_sound (suc (suc (suc (suc r)))) p lt h = absurd (omega arith)

pub content_finds : (c : Content) (p : Place) → FineContent c → p.1 ≡ content_bytes c → content_read (rank_of c) p ≡ Ok c
content_finds (of_identifiers xs) p h e = rows_finds xs p h e
content_finds (of_scope x) p h e = wrapped_finds scope (lifted scope_at) exact_scope of_scope x p h e
content_finds (of_function x) p h e = wrapped_finds function (lifted function_at) exact_lists of_function x p h e
content_finds (of_tree x) p h e = wrapped_finds tree tree_at exact_tree of_tree x p h e

pub content_meets : (r : ℕ) (p : Place) (f : RowFault) → ContentFault r p f → content_read r p ≡ Err f
content_meets zero p f t = rows_meets p f t
content_meets (suc zero) p f t = wrapped_meets scope (lifted scope_at) exact_scope of_scope p f t
content_meets (suc (suc zero)) p f t = wrapped_meets function (lifted function_at) exact_lists of_function p f t
content_meets (suc (suc (suc r))) p f t = wrapped_meets tree tree_at exact_tree of_tree p f t

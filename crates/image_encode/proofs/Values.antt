-- The contents of an image, and what they say. Assumes nothing.
use Rattle.std.proofs.Common.{◌≡◌, ℕ, suc, ◌≤◌, true, List, [], ◌∷◌, ◌++◌, map, sym, refl, ap, ◌∙◌, subst, append_assoc, append-nil, arith}
use Rattle.std.proofs.lemmas.Bool.Decides.{nat_tests}
use Rattle.hir.specs.Lists.{Each}
use Rattle.reactive.specs.Rows.{Row}
use Rattle.image.specs.Bytes.{joined}
use Rattle.image.specs.Format.{Content, of_identifiers, of_scope, of_function, of_tree, rank_of, due, after, section, section_bytes, InOrder, image_bytes}
use Rattle.image.specs.Format as format
use Rattle.image_tables.specs.Tables.{identifiers_in, scopes_in, functions_in}
use Rattle.image_encode.specs.Puts.{Put, PutAll}
use Rattle.image_encode.specs.Panels.{panel_says}
use Rattle.image_encode.specs.Values.{trees_in, values_of, ImageOf}

-- the contents of an image with these lists
abbrev pub arranged : List (ℕ × ℕ) → List format.Scope → List format.Function → List format.Panel → List Content
arranged is ss fs ts = of_identifiers is ∷ (map of_scope ss ++ (map of_function fs ++ map of_tree ts))

-- what lists of one kind say, and what the sections behind them say

passes : {A V : Type 0} (g : List Content → List V) (f : A → Content) → ((x : A) (cs : List Content) → g (f x ∷ cs) ≡ g cs) → (xs : List A) (rest : List Content) → g (map f xs ++ rest) ≡ g rest
passes g f on [] rest = refl
passes g f on (x ∷ xs) rest = on x (map f xs ++ rest) ∙ passes g f on xs rest

finds : {A : Type 0} (g : List Content → List A) (f : A → Content) → ((x : A) (cs : List Content) → g (f x ∷ cs) ≡ x ∷ g cs) → (xs : List A) (rest : List Content) → g (map f xs ++ rest) ≡ xs ++ g rest
finds g f on [] rest = refl
finds g f on (x ∷ xs) rest = on x (map f xs ++ rest) ∙ ap (λ k. x ∷ k) (finds g f on xs rest)

module _ (is : List (ℕ × ℕ)) (ss : List format.Scope) (fs : List format.Function) (ts : List format.Panel) where
  nothing_of_trees : {V : Type 0} (g : List Content → List V) → ((t : format.Panel) (cs : List Content) → g (of_tree t ∷ cs) ≡ g cs) → g [] ≡ [] → g (map of_tree ts) ≡ []
  nothing_of_trees g on z = ap g (sym (append-nil (map of_tree ts))) ∙ passes g of_tree on ts [] ∙ z

  their_identifiers : identifiers_in (arranged is ss fs ts) ≡ is
  their_identifiers =
      ap (λ k. is ++ k)
      (passes identifiers_in of_scope (λ x cs. refl) ss (map of_function fs ++ map of_tree ts)
      ∙ passes identifiers_in of_function (λ x cs. refl) fs (map of_tree ts)
      ∙ nothing_of_trees identifiers_in (λ x cs. refl) refl)
      ∙ append-nil is

  their_scopes : scopes_in (arranged is ss fs ts) ≡ ss
  their_scopes =
      finds scopes_in of_scope (λ x cs. refl) ss (map of_function fs ++ map of_tree ts)
      ∙ ap (λ k. ss ++ k) (passes scopes_in of_function (λ x cs. refl) fs (map of_tree ts) ∙ nothing_of_trees scopes_in (λ x cs. refl) refl)
      ∙ append-nil ss

  their_functions : functions_in (arranged is ss fs ts) ≡ fs
  their_functions =
      passes functions_in of_scope (λ x cs. refl) ss (map of_function fs ++ map of_tree ts)
      ∙ finds functions_in of_function (λ x cs. refl) fs (map of_tree ts)
      ∙ ap (λ k. fs ++ k) (nothing_of_trees functions_in (λ x cs. refl) refl)
      ∙ append-nil fs

  their_trees : trees_in (arranged is ss fs ts) ≡ ts
  their_trees =
      passes trees_in of_scope (λ x cs. refl) ss (map of_function fs ++ map of_tree ts)
      ∙ passes trees_in of_function (λ x cs. refl) fs (map of_tree ts)
      ∙ ap trees_in (sym (append-nil (map of_tree ts)))
      ∙ finds trees_in of_tree (λ x cs. refl) ts []
      ∙ append-nil ts

  -- what sections in this order say
  pub arranged_says : values_of (arranged is ss fs ts) ≡ record { identifiers = is; scopes = ss; functions = fs; panels = map panel_says ts }
  arranged_says = λ i. record { identifiers = their_identifiers i; scopes = their_scopes i; functions = their_functions i; panels = map panel_says (their_trees i) }

-- a section that may stand behind a later rank may stand behind an earlier one

earlier_due : (s r k : ℕ) → s ≤ r → due (suc r) k ≡ true → due (suc s) k ≡ true
earlier_due s r k le e = grind (arith, nat_tests)

earlier : (s r : ℕ) → s ≤ r → (cs : List Content) → InOrder cs (suc r) → InOrder cs (suc s)
earlier s r le [] o = tt
earlier s r le (c ∷ cs) o = (((o.0.0.0, earlier_due s r (rank_of c) le o.0.0.1), o.0.1), o.1)

in_order : {A : Type 0} (f : A → Content) (r : ℕ) → ((x : A) → after (f x) ≡ suc r) → (xs : List A) (rest : List Content) → Each (section (suc r)).Fine (map f xs) → InOrder rest (suc r) → InOrder (map f xs ++ rest) (suc r)
in_order f r on [] rest h o = o
in_order f r on (x ∷ xs) rest h o = (h.0, subst (InOrder (map f xs ++ rest)) (sym (on x)) (in_order f r on xs rest h.1 o))

-- such sections were written behind the version byte
module _ (is : List (ℕ × ℕ)) (ss : List format.Scope) (fs : List format.Function) (ts : List format.Panel) (out0 out1 out2 out3 out4 : List ℕ) (version : out0 ≡ 1 ∷ []) (i : Put (section 0) (of_identifiers is) out0 out1) (s : PutAll (section 1) (map of_scope ss) out1 out2) (f : PutAll (section 2) (map of_function fs) out2 out3) (t : PutAll (section 3) (map of_tree ts) out3 out4) where
  ordered : InOrder (arranged is ss fs ts) 0
  ordered =
      let trees = subst (λ k. InOrder k 3) (append-nil (map of_tree ts)) (in_order of_tree 2 (λ x. refl) ts [] t.fine tt) in
      let functions = in_order of_function 1 (λ x. refl) fs (map of_tree ts) f.fine (earlier 1 2 (omega arith) (map of_tree ts) trees) in
      (i.fine, in_order of_scope 0 (λ x. refl) ss (map of_function fs ++ map of_tree ts) s.fine (earlier 0 1 (omega arith) (map of_function fs ++ map of_tree ts) functions))

  regroup : (a b c d : List ℕ) → ((((1 ∷ []) ++ a) ++ b) ++ c) ++ d ≡ 1 ∷ (a ++ (b ++ (c ++ d)))
  regroup a b c d = simp append_assoc

  joined_append : (cs ds : List Content) → joined section_bytes (cs ++ ds) ≡ joined section_bytes cs ++ joined section_bytes ds
  joined_append [] ds = refl
  joined_append (c ∷ cs) ds = ap (λ k. section_bytes c ++ k) (joined_append cs ds) ∙ sym (append_assoc (section_bytes c) (joined section_bytes cs) (joined section_bytes ds))

  bytes : out4 ≡ image_bytes (arranged is ss fs ts)
  bytes =
      let all : out4 ≡ ((((1 ∷ []) ++ section_bytes (of_identifiers is)) ++ joined section_bytes (map of_scope ss)) ++ joined section_bytes (map of_function fs)) ++ joined section_bytes (map of_tree ts) =
      t.bytes ∙ ap (λ k. k ++ joined section_bytes (map of_tree ts)) (f.bytes ∙ ap (λ k. k ++ joined section_bytes (map of_function fs)) (s.bytes ∙ ap (λ k. k ++ joined section_bytes (map of_scope ss)) (i.bytes ∙ ap (λ k. k ++ section_bytes (of_identifiers is)) version)))
      in
      let parts : joined section_bytes (map of_scope ss ++ (map of_function fs ++ map of_tree ts)) ≡ joined section_bytes (map of_scope ss) ++ (joined section_bytes (map of_function fs) ++ joined section_bytes (map of_tree ts)) =
      joined_append (map of_scope ss) (map of_function fs ++ map of_tree ts) ∙ ap (λ k. joined section_bytes (map of_scope ss) ++ k) (joined_append (map of_function fs) (map of_tree ts))
      in
      all ∙ regroup (section_bytes (of_identifiers is)) (joined section_bytes (map of_scope ss)) (joined section_bytes (map of_function fs)) (joined section_bytes (map of_tree ts)) ∙ ap (λ k. 1 ∷ (section_bytes (of_identifiers is) ++ k)) (sym parts)

  pub image_put : (panels : List (List ℕ × List Row)) → map panel_says ts ≡ panels → ImageOf (record { identifiers = is; scopes = ss; functions = fs; panels = panels }) out4
  image_put panels says = record {
    contents = arranged is ss fs ts;
    ordered = ordered;
    bytes = bytes;
    values = arranged_says is ss fs ts ∙ (λ j. record { identifiers = is; scopes = ss; functions = fs; panels = says j });
  }

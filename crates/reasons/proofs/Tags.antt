-- Which declarations the first pass notes as those of tags. Assumes nothing.
use Rattle.std.proofs.Common.{◌≡◌, ℕ, Bool, true, false, cond, ◌&&◌, ◌||◌, eqb, leb, List, [], ◌∷◌, ◌++◌, map, length, sym, refl, ap, ◌∙◌, ⊎_elim, arith}
use Rattle.std.proofs.lemmas.List.Folds.{list_any-append}
use Rattle.std.proofs.lemmas.Bool.{cases_Bool, cond-true, cond-false, eqb-true, ne_eqb}
use Rattle.hir.specs.Environments.{Model, declaration_of}
use Rattle.std.specs.List.{fold, list_any}
use Rattle.hir.proofs.Lists.{any_map}
use Rattle.reactive.specs.declared.code.Code.TheVariants as codes
use Rattle.reactive.specs.Codes.{used_in, listed}
use Rattle.reactive.specs.Numbers.{scope_in}
use Rattle.reactive.specs.Rows.{Row, head, is}
use Rattle.walk.specs.Events.{Event, leaving, closing, staying, events, acts_of}
use Rattle.collect.specs.Promotable as table
use Rattle.reasons.specs.Coverings.{upper}
use Rattle.reasons.proofs.Bools.{or_false, or_assoc}
use Rattle.reasons.proofs.Early.{Static}
use Rattle.reasons.proofs.Marking.{tags_after, tagging}

some_none : {A B : Type 0} (p : B → Bool) (f : A → B) (xs : List A) → ((x : A) → p (f x) ≡ false) → list_any p (map f xs) ≡ false
some_none p f [] e = refl
some_none p f (x ∷ xs) e = ap (λ b. b || list_any p (map f xs)) (e x) ∙ some_none p f xs e

module _ (m : Model) (static : Static m) (d : ℕ) where
  -- the act makes the declaration that of a tag
  flagged : table.Act → Bool
  flagged (table.opens x) = false
  flagged table.shuts = false
  flagged (table.prunes x) = false
  flagged (table.sees i) = false
  flagged (table.flags i) = eqb (declaration_of m i.0) d

  after_one : (up : ℕ → Bool) (a : table.Act) → tags_after m static up a d ≡ (up d || flagged a)
  unfolding flagged tags_after tagging
  after_one up (table.opens x) = sym (or_false (up d))
  after_one up table.shuts = sym (or_false (up d))
  after_one up (table.prunes x) = sym (or_false (up d))
  after_one up (table.sees i) = sym (or_false (up d))
  after_one up (table.flags i) = refl

  after_all : (up : ℕ → Bool) (acts : List table.Act) → fold (tags_after m static) up acts d ≡ (up d || list_any flagged acts)
  after_all up [] = sym (or_false (up d))
  after_all up (a ∷ acts) =
      after_all (tags_after m static up a) acts
      ∙ ap (λ b. b || list_any flagged acts) (after_one up a)
      ∙ or_assoc (up d) (flagged a) (list_any flagged acts)

  -- the row has a mark of the declaration as a tag
  tags : Row → Bool
  tags r = (is codes.Leaf r && eqb r.kind 15) && list_any (λ i. eqb (declaration_of m i.0) d) r.marks

  of_leaf : (r : Row) → list_any flagged (table.leaf_acts r) ≡ (eqb r.kind 15 && list_any (λ i. eqb (declaration_of m i.0) d) r.marks)
  unfolding flagged
  of_leaf r =
      list_any-append flagged (map table.sees r.operands) (cond (eqb r.kind 15) (map table.flags r.marks) [])
      ∙ ap (λ b. b || list_any flagged (cond (eqb r.kind 15) (map table.flags r.marks) [])) (some_none flagged table.sees r.operands (λ i. refl))
      ∙ ⊎_elim
      (λ e. ap (list_any flagged) (cond-true _ _ _ e) ∙ any_map table.flags flagged r.marks ∙ sym (ap (λ b. b && list_any (λ i. eqb (declaration_of m i.0) d) r.marks) e))
      (λ e. ap (list_any flagged) (cond-false _ _ _ e) ∙ sym (ap (λ b. b && list_any (λ i. eqb (declaration_of m i.0) d) r.marks) e))
      (cases_Bool (eqb r.kind 15))

  no_leaf : (r : Row) (n : ℕ) → (n ≡ 5 → ⊥) → eqb r.code n ≡ true → tags r ≡ false
  unfolding tags
  no_leaf r n ne e =
      let c = eqb-true r.code n e in
      ap (λ b. (b && eqb r.kind 15) && list_any (λ i. eqb (declaration_of m i.0) d) r.marks) (ap (λ k. eqb k 5) c ∙ ne_eqb n 5 ne)

  of_row : (r : Row) → list_any flagged (table.row_acts r) ≡ tags r
  unfolding flagged tags
  of_row r =
      ⊎_elim
      (λ e. ap (list_any flagged) (cond-true _ _ _ e) ∙ some_none flagged table.opens (listed (scope_in r.number)) (λ x. refl) ∙ sym (no_leaf r 3 (λ z. omega arith) e))
      (λ e.
      ap (list_any flagged) (cond-false _ _ _ e)
      ∙ ⊎_elim
      (λ f. ap (list_any flagged) (cond-true _ _ _ f) ∙ some_none flagged table.prunes (listed (scope_in r.number)) (λ x. refl) ∙ sym (no_leaf r 4 (λ z. omega arith) f))
      (λ f.
      ap (list_any flagged) (cond-false _ _ _ f)
      ∙ ⊎_elim
      (λ g. ap (list_any flagged) (cond-true _ _ _ g) ∙ of_leaf r ∙ sym (ap (λ b. (b && eqb r.kind 15) && list_any (λ i. eqb (declaration_of m i.0) d) r.marks) g))
      (λ g.
      ap (list_any flagged) (cond-false _ _ _ g)
      ∙ some_none flagged table.sees (listed (used_in r.code r.identifier)) (λ x. refl)
      ∙ sym (ap (λ b. (b && eqb r.kind 15) && list_any (λ i. eqb (declaration_of m i.0) d) r.marks) g))
      (cases_Bool (is codes.Leaf r)))
      (cases_Bool (is codes.Pruned r)))
      (cases_Bool (is codes.Scope r))

  of_leaving : (active : Bool) → list_any flagged (table.acts (leaving active)) ≡ false
  unfolding flagged
  of_leaving true = refl
  of_leaving false = refl

  of_closing : (n : ℕ) (around : List Bool) → list_any flagged (acts_of table.acts (closing n around)) ≡ false
  unfolding flagged
  of_closing n [] = refl
  of_closing n (r ∷ around) =
      ⊎_elim
      (λ e.
      ap (λ es. list_any flagged (acts_of table.acts es)) (cond-true _ _ _ e)
      ∙ list_any-append flagged (table.acts (leaving r)) (acts_of table.acts (closing n around))
      ∙ ap (λ b. b || list_any flagged (acts_of table.acts (closing n around))) (of_leaving r)
      ∙ of_closing n around)
      (λ e. ap (λ es. list_any flagged (acts_of table.acts es)) (cond-false _ _ _ e))
      (cases_Bool (leb n (length around)))

  acts_append : (xs ys : List (Event Bool)) → list_any flagged (acts_of table.acts (xs ++ ys)) ≡ (list_any flagged (acts_of table.acts xs) || list_any flagged (acts_of table.acts ys))
  acts_append [] ys = refl
  acts_append (x ∷ xs) ys =
      list_any-append flagged (table.acts x) (acts_of table.acts (xs ++ ys))
      ∙ ap (λ b. list_any flagged (table.acts x) || b) (acts_append xs ys)
      ∙ sym (or_assoc (list_any flagged (table.acts x)) (list_any flagged (acts_of table.acts xs)) (list_any flagged (acts_of table.acts ys)))
      ∙ ap (λ b. b || list_any flagged (acts_of table.acts ys)) (sym (list_any-append flagged (table.acts x) (acts_of table.acts xs)))

  of_rows : (around : List Bool) (rs : List Row) → list_any flagged (acts_of table.acts (events table.keeps around rs)) ≡ list_any tags rs
  of_rows around [] = of_closing 0 around
  of_rows around (r ∷ rs) =
      let on = staying r.depth around in
      let rest = acts_of table.acts (events table.keeps (table.keeps (head r) ∷ on) rs) in
      acts_append (closing r.depth around) _
      ∙ ap (λ b. b || list_any flagged (table.row_acts r ++ rest)) (of_closing r.depth around)
      ∙ list_any-append flagged (table.row_acts r) rest
      ∙ (λ k. of_row r k || of_rows (table.keeps (head r) ∷ on) rs k)

  -- a declaration is noted as that of a tag exactly when it has the letter T
  pub tags_are : (rs : List Row) → fold (tags_after m static) (λ n. false) (table.pass_acts rs) d ≡ upper m rs d
  unfolding tags
  tags_are rs = after_all (λ n. false) (table.pass_acts rs) ∙ of_rows [] rs

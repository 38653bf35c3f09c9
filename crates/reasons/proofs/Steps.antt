-- Naming the identifiers of a list under a condition, seen as admitting coverings. Assumes nothing.
use Rattle.std.proofs.Common.{◌≡◌, ℕ, Bool, true, false, not, ◌&&◌, ◌||◌, List, [], ◌∷◌, ◌++◌, sym, refl, ap, ◌∙◌, subst, ⊎_elim, arith}
use Rattle.std.specs.List.{filter, fold}
use Rattle.std.proofs.lemmas.List.Folds.{list_any-append}
use Rattle.std.proofs.lemmas.Bool.{cases_Bool, cond-true, cond-false, eq-eqb, ne_eqb, and_parts}
use Rattle.hir.specs.declared.ids.IdentifierId.{IdentifierId}
use Rattle.hir.specs.declared.tables.JournalRow.{JournalRow}
use Rattle.hir.specs.declared.tables.Reason.{Reason}
use Rattle.hir.specs.Environments.{Model, declaration_of}
use Rattle.hir.specs.Lists.{Each}
use Rattle.hir.specs.Scratches.{Tables}
use Rattle.hir.specs.Sound.{Sound, Known}
use Rattle.promote.specs.Growth.{Grows}
use Rattle.promote.specs.Identifier.{promoted, promote_if, promote_unnamed, is_unnamed, row}
use Rattle.promote.proofs.Growing.{grows_if, sound_grows}
use Rattle.reasons.specs.Journals.{declares}
use Rattle.reasons.specs.Coverings.{covers}
use Rattle.reasons.proofs.Bools.{or_true, or_false, and_true, and_false}
use Rattle.reasons.proofs.Admitting.{taken, admit}
use Rattle.reasons.proofs.Views.{View, view_unnamed, view_promoted}

-- how the flags of named declarations go on with the journal
pub record Goes (m : Model) (next : List JournalRow → ℕ → Bool) (keep : IdentifierId → Bool) : Type 0 where
  pub here : (js : List JournalRow) (r : JournalRow) → keep r.identifier ≡ true → next (js ++ r ∷ []) (declaration_of m r.identifier.0) ≡ true
  pub there : (js : List JournalRow) (r : JournalRow) (d : ℕ) → (d ≡ declaration_of m r.identifier.0 → ⊥) → next (js ++ r ∷ []) d ≡ next js d

-- the tables seen, and sound
pub record Seen (m : Model) (up out : ℕ → Bool) (next : List JournalRow → ℕ → Bool) (js : List JournalRow) (t : Tables) : Type 0 where
  pub view : View m up out (next js) js t
  pub sound : Sound t

module _ (m : Model) (up out : ℕ → Bool) (next : List JournalRow → ℕ → Bool) (why : Reason) (f : Tables → IdentifierId → Tables) (flag : Tables → IdentifierId → Bool) (keep : IdentifierId → Bool) (goes : Goes m next keep) (is : (t : Tables) (i : IdentifierId) → f t i ≡ promote_if (is_unnamed t.env i && flag t i) why t i) (agree : (js : List JournalRow) (t : Tables) (i : IdentifierId) → View m up out (next js) js t → Sound t → Known m i → flag t i ≡ keep i) where
  module _ (js : List JournalRow) (t : Tables) (s : Seen m up out next js t) (i : IdentifierId) (h : Known m i) where
    stays : f t i ≡ t → Seen m up out next js (f t i)
    stays e = subst (Seen m up out next js) (sym e) s

    test_is : (is_unnamed t.env i && flag t i) ≡ (not (taken m js i.0) && keep i)
    test_is = (λ k. view_unnamed m up out (next js) js t s.view i k && agree js t i s.view s.sound h k)

    kept_out : keep i ≡ false → Seen m up out next js (f t i)
    kept_out e = stays (is t i ∙ cond-false _ _ _ (test_is ∙ ap (λ b. not (taken m js i.0) && b) e ∙ and_false (not (taken m js i.0))))

    let_in : keep i ≡ true → Seen m up out next (admit m js (row i why)) (f t i)
    let_in e =
        ⊎_elim
        (λ k.
        let P : List JournalRow → Type 0 = λ xs. Seen m up out next xs (f t i) in
        subst P (sym (cond-true _ _ _ k))
        (stays (is t i ∙ cond-false _ _ _ (test_is ∙ ap (λ b. not b && keep i) k))))
        (λ k.
        let P : List JournalRow → Type 0 = λ xs. Seen m up out next xs (f t i) in
        let yes_test : (is_unnamed t.env i && flag t i) ≡ true = test_is ∙ (λ j. not (k j) && e j) in
        let open_now : is_unnamed t.env i ≡ true = (and_parts _ _ yes_test).0 in
        let done : f t i ≡ promoted why t i = is t i ∙ cond-true _ _ _ yes_test in
        let Q : Tables → Type 0 = λ x. Seen m up out next (js ++ row i why ∷ []) x in
        let known_now : Known t.env i = omega (arith, s.view.grown.size) in
        subst P (sym (cond-false _ _ _ k))
        (subst Q (sym done)
        (record {
          view = view_promoted m up out (next js) (next (js ++ row i why ∷ [])) js t why i s.view s.sound h open_now (goes.here js (row i why) e) (goes.there js (row i why));
          sound = subst Sound done (sound_grows s.sound (subst (Grows t) (sym (is t i)) (grows_if _ why t i (λ x. (and_parts _ _ x).0) s.sound known_now)));
        })))
        (cases_Bool (taken m js i.0))

  pub seen_list : (js : List JournalRow) (t : Tables) → Seen m up out next js t → (xs : List IdentifierId) → Each (Known m) xs → Seen m up out next (fold (admit m) js (covers why (filter keep xs))) (fold f t xs)
  seen_list js t s [] h = s
  seen_list js t s (i ∷ xs) h =
      ⊎_elim
      (λ e.
      let P : List IdentifierId → Type 0 = λ ys. Seen m up out next (fold (admit m) js (covers why ys)) (fold f (f t i) xs) in
      subst P (sym (cond-true _ _ _ e)) (seen_list (admit m js (row i why)) (f t i) (let_in js t s i h.0 e) xs h.1))
      (λ e.
      let P : List IdentifierId → Type 0 = λ ys. Seen m up out next (fold (admit m) js (covers why ys)) (fold f (f t i) xs) in
      subst P (sym (cond-false _ _ _ e)) (seen_list js (f t i) (kept_out js t s i h.0 e) xs h.1))
      (cases_Bool (keep i))

-- every identifier of a list
pub filter_all : {A : Type 0} (xs : List A) → filter (λ x. true) xs ≡ xs
filter_all [] = refl
filter_all (x ∷ xs) = ap (λ ys. x ∷ ys) (filter_all xs)

pub unnamed_is : (why : Reason) (t : Tables) (i : IdentifierId) → promote_unnamed why t i ≡ promote_if (is_unnamed t.env i && true) why t i
unnamed_is why t i = ap (λ b. promote_if b why t i) (sym (and_true (is_unnamed t.env i)))

-- in the passes before the last, a declaration is promoted once a row of it is journalled
pub goes_declares : (m : Model) (keep : IdentifierId → Bool) → Goes m (declares m) keep
goes_declares m keep = record {
  here = λ js r e. list_any-append _ js (r ∷ []) ∙ ap (λ b. declares m js (declaration_of m r.identifier.0) || (b || false)) (eq-eqb _ _ refl) ∙ or_true (declares m js (declaration_of m r.identifier.0));
  there = λ js r d ne. list_any-append _ js (r ∷ []) ∙ ap (λ b. declares m js d || (b || false)) (ne_eqb (declaration_of m r.identifier.0) d (λ e. ne (sym e))) ∙ or_false (declares m js d);
}

-- in the last pass nothing is added to them
pub goes_same : (m : Model) (done : ℕ → Bool) → Goes m (λ js. done) (λ i. done (declaration_of m i.0))
goes_same m done = record { here = λ js r e. e; there = λ js r d ne. refl }

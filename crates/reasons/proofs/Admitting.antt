-- First coverings, one after another. Assumes nothing.
use Rattle.std.proofs.Common.{◌≡◌, ℕ, Bool, true, cond, ◌||◌, eqb, List, [], ◌∷◌, ◌++◌, sym, refl, ap, ◌∙◌, ⊎_elim, append_assoc, append-nil}
use Rattle.std.proofs.lemmas.List.Folds.{list_any-append}
use Rattle.std.proofs.lemmas.Bool.{cases_Bool, cond-true, cond-false, eqb-true}
use Rattle.hir.specs.declared.tables.JournalRow.{JournalRow}
use Rattle.hir.specs.Environments.{Model}
use Rattle.std.specs.List.{fold}
use Rattle.reasons.specs.Journals.{names, is_named, firsts}
use Rattle.reasons.proofs.Bools.{or_false, or_swap}

-- who has a name once these rows are journalled
abbrev pub taken : Model → List JournalRow → ℕ → Bool
taken m js i = names i js || is_named m i

-- a covering is journalled unless its identifier has a name
abbrev pub admit : Model → List JournalRow → JournalRow → List JournalRow
admit m js r = cond (taken m js r.identifier.0) js (js ++ r ∷ [])

firsts_same : (p q : ℕ → Bool) (rows : List JournalRow) → ((i : ℕ) → p i ≡ q i) → firsts p rows ≡ firsts q rows
firsts_same p q [] e = refl
firsts_same p q (r ∷ rows) e =
    (λ k. cond (e r.identifier.0 k) (firsts_same p q rows e k) (r ∷ firsts_same (λ i. eqb i r.identifier.0 || p i) (λ i. eqb i r.identifier.0 || q i) rows (λ i. ap (λ b. eqb i r.identifier.0 || b) (e i)) k))

names_push : (i : ℕ) (js : List JournalRow) (r : JournalRow) → names i (js ++ r ∷ []) ≡ (names i js || eqb i r.identifier.0)
names_push i js r = list_any-append (λ x. eqb i x.identifier.0) js (r ∷ []) ∙ ap (λ b. names i js || b) (or_false (eqb i r.identifier.0))

pub taken_push : (m : Model) (js : List JournalRow) (r : JournalRow) (i : ℕ) → taken m (js ++ r ∷ []) i ≡ (eqb i r.identifier.0 || taken m js i)
taken_push m js r i = ap (λ b. b || is_named m i) (names_push i js r) ∙ or_swap (names i js) (eqb i r.identifier.0) (is_named m i)

pub firsts_admit : (m : Model) (js rows : List JournalRow) → js ++ firsts (taken m js) rows ≡ fold (admit m) js rows
firsts_admit m js [] = append-nil js
firsts_admit m js (r ∷ rows) =
    ⊎_elim
    (λ e.
    ap (λ xs. js ++ xs) (cond-true _ _ _ e) ∙ firsts_admit m js rows ∙ ap (λ x. fold (admit m) x rows) (sym (cond-true _ _ _ e)))
    (λ e.
    ap (λ xs. js ++ xs) (cond-false _ _ _ e)
    ∙ sym (append_assoc js (r ∷ []) (firsts (λ i. eqb i r.identifier.0 || taken m js i) rows))
    ∙ ap (λ xs. (js ++ r ∷ []) ++ xs) (firsts_same _ _ rows (λ i. sym (taken_push m js r i)))
    ∙ firsts_admit m (js ++ r ∷ []) rows
    ∙ ap (λ x. fold (admit m) x rows) (sym (cond-false _ _ _ e)))
    (cases_Bool (taken m js r.identifier.0))

-- what a run journals, one covering after another
pub firsts_all : (m : Model) (rows : List JournalRow) → firsts (is_named m) rows ≡ fold (admit m) [] rows
firsts_all m rows = firsts_admit m [] rows

absorbed : (i x : ℕ) (p : ℕ → Bool) → p x ≡ true → p i ≡ (eqb i x || p i)
absorbed i x p h =
    ⊎_elim
    (λ e. let q = eqb-true i x e in ap p q ∙ h ∙ sym (ap (λ b. b || p i) e))
    (λ e. sym (ap (λ b. b || p i) e))
    (cases_Bool (eqb i x))

admit_taken : (m : Model) (js : List JournalRow) (r : JournalRow) (i : ℕ) → taken m (admit m js r) i ≡ (eqb i r.identifier.0 || taken m js i)
admit_taken m js r i =
    ⊎_elim
    (λ e. ap (λ xs. taken m xs i) (cond-true _ _ _ e) ∙ absorbed i r.identifier.0 (taken m js) e)
    (λ e. ap (λ xs. taken m xs i) (cond-false _ _ _ e) ∙ taken_push m js r i)
    (cases_Bool (taken m js r.identifier.0))

-- who has a name once some coverings were admitted: those covered, and those that had one
pub taken_over : (m : Model) (js rows : List JournalRow) (i : ℕ) → taken m (fold (admit m) js rows) i ≡ (names i rows || taken m js i)
taken_over m js [] i = refl
taken_over m js (r ∷ rows) i =
    taken_over m (admit m js r) rows i
    ∙ ap (λ b. names i rows || b) (admit_taken m js r i)
    ∙ sym (or_swap (eqb i r.identifier.0) (names i rows) (taken m js i))

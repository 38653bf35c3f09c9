-- The laws of every journal. Assumes nothing.
use Rattle.std.proofs.Common.{◌≡◌, ℕ, zero, suc, Bool, true, false, cond, ◌&&◌, ◌||◌, eqb, List, [], ◌∷◌, ◌++◌, length, Some, None, Option, sym, refl, ap, ◌∙◌, ⊎_elim, append_assoc, arith}
use Rattle.std.proofs.lemmas.Bool.{cases_Bool, cond-true, cond-false, cond_both, eqb-true, ne_eqb, eq-eqb, or_parts, or_from, and_parts}
use Rattle.hir.specs.declared.ids.FunctionId.{FunctionId}
use Rattle.hir.specs.declared.ids.IdentifierId.{IdentifierId}
use Rattle.hir.specs.declared.span.Span.{Span}
use Rattle.hir.specs.declared.tables.JournalRow.{JournalRow}
use Rattle.hir.specs.declared.tables.Reason.{Reason}
use Rattle.hir.specs.declared.tables.Reason.TheVariants as reasons
use Rattle.hir.specs.Environments.{Model, declaration_of, scope_of, function_of}
use Rattle.hir.specs.Lists.{Each}
use Rattle.std.specs.List.{fold, filter, list_any}
use Rattle.hir.specs.Spans.{identifiers_in, functions_in}
use Rattle.reactive.specs.Rows.{Row}
use Rattle.walk.proofs.Fitting.{each_append}
use Rattle.promote.specs.Temporaries as temporaries
use Rattle.instances.specs.Instances as instances
use Rattle.reasons.specs.Journals.{names, is_named, firsts, declares}
use Rattle.reasons.specs.Escapes.{escaped}
use Rattle.reasons.specs.Coverings.{covers, Covered, entering, reaching, covering, early, between, before, visits, late, coverings, journal}
use Rattle.reasons.specs.Laws.{first_reason, Once, visited, Sixth, JournalLaws}
use Rattle.reasons.proofs.Bools.{or_true, and_false}

-- the first rows keep of each identifier the first reason, unless it had a name
first_of : (i : ℕ) (named : ℕ → Bool) (rows : List JournalRow) → first_reason i (firsts named rows) ≡ cond (named i) None (first_reason i rows)
first_of i named [] = cond_both (named i) None None (λ (o : Option Reason). None ≡ o) (λ e. refl) (λ e. refl)
first_of i named (r ∷ rows) =
    let x = r.identifier.0 in
    ⊎_elim
    (λ taken.
    ap (first_reason i) (cond-true _ _ _ taken)
    ∙ first_of i named rows
    ∙ ⊎_elim
    (λ same. let q : named i ≡ true = ap named (eqb-true i r.identifier.0 same) ∙ taken in cond-true _ _ _ q ∙ sym (cond-true _ _ _ q))
    (λ other. ap (cond (named i) None) (sym (cond-false _ _ _ other)))
    (cases_Bool (eqb i x)))
    (λ free.
    ap (first_reason i) (cond-false _ _ _ free)
    ∙ ⊎_elim
    (λ same.
    let q : named i ≡ false = ap named (eqb-true i r.identifier.0 same) ∙ free in
    cond-true _ _ _ same ∙ sym (cond-false _ _ _ q ∙ cond-true _ _ _ same))
    (λ other.
    cond-false _ _ _ other
    ∙ first_of i (λ k. eqb k r.identifier.0 || named k) rows
    ∙ ap (λ b. cond (b || named i) None (first_reason i rows)) other
    ∙ ap (cond (named i) None) (sym (cond-false _ _ _ other)))
    (cases_Bool (eqb i x)))
    (cases_Bool (named x))

-- a named identifier has no row
none_of : (i : ℕ) (named : ℕ → Bool) (rows : List JournalRow) → named i ≡ true → names i (firsts named rows) ≡ false
none_of i named [] e = refl
none_of i named (r ∷ rows) e =
    ⊎_elim
    (λ taken. ap (names i) (cond-true _ _ _ taken) ∙ none_of i named rows e)
    (λ free.
    ap (names i) (cond-false _ _ _ free)
    ∙ or_from (eqb i r.identifier.0) (names i (firsts (λ k. eqb k r.identifier.0 || named k) rows))
    (ne_eqb i r.identifier.0 (λ q. let z : ◌≡◌ {A = Bool} true false = sym e ∙ ap named q ∙ free in let k : ◌≡◌ {A = ℕ} 0 1 = cc in omega arith))
    (none_of i (λ k. eqb k r.identifier.0 || named k) rows (ap (λ b. eqb i r.identifier.0 || b) e ∙ or_true (eqb i r.identifier.0))))
    (cases_Bool (named r.identifier.0))

once_firsts : (named : ℕ → Bool) (rows : List JournalRow) → Once (firsts named rows)
once_firsts named [] = tt
once_firsts named (r ∷ rows) =
    cond_both (named r.identifier.0) (firsts named rows) (r ∷ firsts (λ k. eqb k r.identifier.0 || named k) rows) Once
    (λ taken. once_firsts named rows)
    (λ free. (
      none_of r.identifier.0 (λ k. eqb k r.identifier.0 || named k) rows (ap (λ b. b || named r.identifier.0) (eq-eqb r.identifier.0 r.identifier.0 refl)),
      once_firsts (λ k. eqb k r.identifier.0 || named k) rows,
    ))

-- a row of another reason than 6
Other : JournalRow → Type 0
Other r = r.reason ≡ reasons.SameDeclaration → ⊥

each_covers : (why : Reason) → (why ≡ reasons.SameDeclaration → ⊥) → (is : List IdentifierId) → Each Other (covers why is)
unfolding Other
each_covers why ne [] = tt
each_covers why ne (i ∷ is) = (ne, each_covers why ne is)

own_ne : reasons.OwnParameter ≡ reasons.SameDeclaration → ⊥
own_ne e = let z : ◌≡◌ {A = ℕ} 0 1 = cc in omega arith

scope_ne : reasons.Scope ≡ reasons.SameDeclaration → ⊥
scope_ne e = let z : ◌≡◌ {A = ℕ} 0 1 = cc in omega arith

escape_ne : reasons.Escape ≡ reasons.SameDeclaration → ⊥
escape_ne e = let z : ◌≡◌ {A = ℕ} 0 1 = cc in omega arith

inner_ne : reasons.InnerParameter ≡ reasons.SameDeclaration → ⊥
inner_ne e = let z : ◌≡◌ {A = ℕ} 0 1 = cc in omega arith

between_ne : reasons.Interposed ≡ reasons.SameDeclaration → ⊥
between_ne e = let z : ◌≡◌ {A = ℕ} 0 1 = cc in omega arith

module _ (m : Model) (out : ℕ → Bool) where
  each_functions : (reach : Covered → FunctionId → Covered) → ((s : Covered) (f : FunctionId) → Each Other s.rows → Each Other (reach s f).rows) → (fs : List FunctionId) (s : Covered) → Each Other s.rows → Each Other (fold reach s fs).rows
  each_functions reach one [] s h = h
  each_functions reach one (f ∷ fs) s h = each_functions reach one fs (reach s f) (one s f h)

  each_reaching : (k : ℕ) (s : Covered) (f : FunctionId) → Each Other s.rows → Each Other (reaching k m s f).rows
  each_reaching zero s f h = h
  each_reaching (suc k) s f h =
      let on = entering m s f in
      let nested = functions_in m.pool (function_of m f.0).nested in
      cond_both (s.visited f.0) s (fold (reaching k m) on nested) (λ (x : Covered). Each Other x.rows)
      (λ e. h)
      (λ e. each_functions (reaching k m) (λ x g l. each_reaching k x g l) nested on (each_append Other s.rows _ h (each_covers reasons.InnerParameter inner_ne (identifiers_in m.pool (function_of m f.0).parameters))))

  each_covering : (s : Covered) (a : temporaries.Act) → Each Other s.rows → Each Other (covering m out s a).rows
  each_covering s (temporaries.scope x) h =
      each_append Other s.rows _ h
      (each_append Other (covers reasons.Scope (identifiers_in m.pool (scope_of m x.0).dependencies)) _
      (each_covers reasons.Scope scope_ne (identifiers_in m.pool (scope_of m x.0).dependencies))
      (each_covers reasons.Scope scope_ne (identifiers_in m.pool (scope_of m x.0).declarations)))
  each_covering s (temporaries.pruned x) h =
      each_append Other s.rows _ h (each_covers reasons.Escape escape_ne (filter (λ i. out (declaration_of m i.0)) (identifiers_in m.pool (scope_of m x.0).declarations)))
  each_covering s (temporaries.inner f) h = each_reaching (length m.functions) s f h

  each_acts : (acts : List temporaries.Act) (s : Covered) → Each Other s.rows → Each Other (fold (covering m out) s acts).rows
  each_acts [] s h = h
  each_acts (a ∷ acts) s h = each_acts acts (covering m out s a) (each_covering s a h)

each_earlier : (m : Model) (ps : Span) (rs : List Row) → Each Other (early m ps rs ++ between m ps rs)
each_earlier m ps rs =
    each_append Other (early m ps rs) (between m ps rs)
    (each_acts m (escaped m rs) (temporaries.pass_acts rs) _ (each_covers reasons.OwnParameter own_ne (identifiers_in m.pool ps)))
    (each_covers reasons.Interposed between_ne _)

-- the first reason in two lists of rows
first_append : (i : ℕ) (xs ys : List JournalRow) → first_reason i (xs ++ ys) ≡ cond (names i xs) (first_reason i xs) (first_reason i ys)
first_append i [] ys = refl
first_append i (r ∷ xs) ys =
    ⊎_elim
    (λ e. cond-true _ _ _ e ∙ sym (cond-true _ _ _ e) ∙ sym (cond-true _ _ _ (ap (λ b. b || names i xs) e)))
    (λ e.
    cond-false _ _ _ e ∙ first_append i xs ys
    ∙ (λ k. cond (sym (ap (λ b. b || names i xs) e) k) (sym (cond-false (eqb i r.identifier.0) (Some r.reason) (first_reason i xs) e) k) (first_reason i ys)))
    (cases_Bool (eqb i r.identifier.0))

other_first : (i : ℕ) (xs : List JournalRow) → Each Other xs → first_reason i xs ≡ Some reasons.SameDeclaration → ⊥
unfolding Other
other_first i [] h e = let z : ◌≡◌ {A = ℕ} 0 1 = cc in omega arith
other_first i (r ∷ xs) h e =
    ⊎_elim
    (λ same. h.0 (let q : Some r.reason ≡ Some reasons.SameDeclaration = sym (cond-true _ _ _ same) ∙ e in cc))
    (λ other. other_first i xs h.1 (sym (cond-false _ _ _ other) ∙ e))
    (cases_Bool (eqb i r.identifier.0))

-- coverings for one reason, of the identifiers that a test keeps
first_filtered : (m : Model) (why : Reason) (done : ℕ → Bool) (i : ℕ) (is : List IdentifierId) → first_reason i (covers why (filter (λ x. done (declaration_of m x.0)) is)) ≡ cond (list_any (λ (x : IdentifierId). eqb i x.0) is && done (declaration_of m i)) (Some why) None
first_filtered m why done i [] = refl
first_filtered m why done i (x ∷ is) =
    ⊎_elim
    (λ keeps.
    ap (λ xs. first_reason i (covers why xs)) (cond-true _ _ _ keeps)
    ∙ ⊎_elim
    (λ same.
    let q : done (declaration_of m i) ≡ true = ap (λ n. done (declaration_of m n)) (eqb-true i x.0 same) ∙ keeps in
    cond-true _ _ _ same ∙ sym (cond-true _ _ _ (λ k. (same k || list_any (λ (y : IdentifierId). eqb i y.0) is) && q k)))
    (λ other.
    cond-false _ _ _ other ∙ first_filtered m why done i is
    ∙ ap (λ b. cond ((b || list_any (λ (y : IdentifierId). eqb i y.0) is) && done (declaration_of m i)) (Some why) None) (sym other))
    (cases_Bool (eqb i x.0)))
    (λ drops.
    ap (λ xs. first_reason i (covers why xs)) (cond-false _ _ _ drops)
    ∙ first_filtered m why done i is
    ∙ ⊎_elim
    (λ same.
    let q : done (declaration_of m i) ≡ false = ap (λ n. done (declaration_of m n)) (eqb-true i x.0 same) ∙ drops in
    cond-false _ _ _ (ap (λ b. list_any (λ (y : IdentifierId). eqb i y.0) is && b) q ∙ and_false _)
    ∙ sym (cond-false _ _ _ (ap (λ b. (eqb i x.0 || list_any (λ (y : IdentifierId). eqb i y.0) is) && b) q ∙ and_false _)))
    (λ other. ap (λ b. cond ((b || list_any (λ (y : IdentifierId). eqb i y.0) is) && done (declaration_of m i)) (Some why) None) (sym other))
    (cases_Bool (eqb i x.0)))
    (cases_Bool (done (declaration_of m x.0)))

module _ (m : Model) (ps : Span) (rs : List Row) (i : ℕ) where
  abbrev earlier : List JournalRow
  earlier = early m ps rs ++ between m ps rs

  abbrev test : Bool
  test = visited m ps rs i && declares m (before m ps rs) (declaration_of m i)

  journal_first : first_reason i (journal m ps rs) ≡ cond (is_named m i) None (cond (names i earlier) (first_reason i earlier) (cond test (Some reasons.SameDeclaration) None))
  journal_first =
      first_of i (is_named m) (coverings m ps rs)
      ∙ ap (cond (is_named m i) None)
      (ap (first_reason i) (sym (append_assoc (early m ps rs) (between m ps rs) (late m ps rs)))
      ∙ first_append i earlier (late m ps rs)
      ∙ ap (cond (names i earlier) (first_reason i earlier)) (first_filtered m reasons.SameDeclaration (declares m (before m ps rs)) i (identifiers_in m.pool ps ++ visits m (instances.pass_acts rs))))

  no_six : None ≡ Some reasons.SameDeclaration → ⊥
  no_six e = let z : ◌≡◌ {A = ℕ} 0 1 = cc in omega arith

  pub sixth_only : first_reason i (journal m ps rs) ≡ Some reasons.SameDeclaration → Sixth m ps rs i
  sixth_only e =
      let f : cond (is_named m i) None (cond (names i earlier) (first_reason i earlier) (cond test (Some reasons.SameDeclaration) None)) ≡ Some reasons.SameDeclaration = sym journal_first ∙ e in
      ⊎_elim
      (λ n. absurd (no_six (sym (cond-true _ _ _ n) ∙ f)))
      (λ n.
      let g = sym (cond-false _ _ _ n) ∙ f in
      ⊎_elim
      (λ c. absurd (other_first i earlier (each_earlier m ps rs) (sym (cond-true _ _ _ c) ∙ g)))
      (λ c.
      let h = sym (cond-false _ _ _ c) ∙ g in
      ⊎_elim
      (λ t. let p = and_parts _ _ t in record { unnamed = or_from (names i earlier) (is_named m i) c n; visits_it = p.0; shares = p.1 })
      (λ t. absurd (no_six (sym (cond-false _ _ _ t) ∙ h)))
      (cases_Bool test))
      (cases_Bool (names i earlier)))
      (cases_Bool (is_named m i))

  pub sixth_so : Sixth m ps rs i → first_reason i (journal m ps rs) ≡ Some reasons.SameDeclaration
  sixth_so s =
      let p = or_parts (names i earlier) (is_named m i) s.unnamed in
      journal_first
      ∙ cond-false _ _ _ p.1
      ∙ cond-false _ _ _ p.0
      ∙ cond-true _ _ _ (λ k. s.visits_it k && s.shares k)

pub laws : (m : Model) (ps : Span) (rs : List Row) → JournalLaws m ps rs
laws m ps rs = record {
  first = λ i. first_of i (is_named m) (coverings m ps rs);
  once = once_firsts (is_named m) (coverings m ps rs);
  sixth = λ i. sixth_only m ps rs i;
  by_sixth = λ i. sixth_so m ps rs i;
}

-- The definition of escape says what its sentence says. Assumes nothing.
use Rattle.std.proofs.Common.{◌≡◌, ℕ, zero, suc, ◌<◌, ◌≤◌, Bool, true, false, cond, not, ◌||◌, eqb, List, [], ◌∷◌, length, get_or, take, sym, refl, ap, ◌∙◌, subst, ⊎_elim, arith, take_all}
use Rattle.std.proofs.lemmas.List.{get_or_past}
use Rattle.std.proofs.lemmas.Bool.{cases_Bool, cases_eq, cases_lt, cases_order, cond-true, cond-false, eqb-true, eq-eqb, ne_eqb}
use Rattle.hir.specs.declared.ids.IdentifierId.{IdentifierId}
use Rattle.hir.specs.declared.ids.ScopeId.{ScopeId}
use Rattle.hir.specs.Environments.{Model, declaration_of, scope_of}
use Rattle.std.specs.List.{fold, list_any}
use Rattle.hir.specs.Spans.{identifiers_in}
use Rattle.collect.specs.Promotable as collect
use Rattle.reasons.specs.Escapes.{Seen, never, since, Known, nothing, among, outside, used, recorded, act, has_escaped}
use Rattle.reasons.specs.Sentences.{records, uses_one, active_by, active_at, RecordedAt, UsedAt, Escaped}
use Rattle.reasons.proofs.Bools.{true_false, was_not}

-- one act more
pub take_next : {W A : Type 0} (f : W → A → W) (w : W) (acts : List A) (k : ℕ) (d : A) → k < length acts → fold f w (take (suc k) acts) ≡ f (fold f w (take k acts)) (get_or acts k d)
take_next f w [] k d h = absurd (omega arith)
take_next f w (a ∷ acts) zero d h = refl
take_next f w (a ∷ acts) (suc k) d h = take_next f (f w a) acts k d (omega arith)

-- one list of declarations is recorded
all_active : (m : Model) (s : Known) (is : List IdentifierId) → (fold (recorded m) s is).active ≡ s.active
all_active m s [] = refl
all_active m s (i ∷ is) = all_active m (recorded m s i) is

all_recorded : (m : Model) (d : ℕ) (s : Known) (is : List IdentifierId) → (fold (recorded m) s is).seen d ≡ cond (list_any (λ i. eqb (declaration_of m i.0) d) is) (since s.active false) (s.seen d)
all_recorded m d s [] = refl
all_recorded m d s (i ∷ is) =
    all_recorded m d (recorded m s i) is
    ∙ ⊎_elim
    (λ e.
    let q : d ≡ declaration_of m i.0 = sym (eqb-true (declaration_of m i.0) d e) in
    ap (cond (list_any (λ x. eqb (declaration_of m x.0) d) is) (since s.active false)) (cond-true _ _ _ (eq-eqb d (declaration_of m i.0) q))
    ∙ both (list_any (λ x. eqb (declaration_of m x.0) d) is) (since s.active false)
    ∙ sym (cond-true _ _ _ (ap (λ b. b || list_any (λ x. eqb (declaration_of m x.0) d) is) e)))
    (λ e.
    ap (cond (list_any (λ x. eqb (declaration_of m x.0) d) is) (since s.active false)) (cond-false _ _ _ (ne_eqb d (declaration_of m i.0) (λ q. true_false _ (eq-eqb (declaration_of m i.0) d (sym q)) e)))
    ∙ ap (λ b. cond (b || list_any (λ x. eqb (declaration_of m x.0) d) is) (since s.active false) (s.seen d)) (sym e))
    (cases_Bool (eqb (declaration_of m i.0) d))
  where
    both : (b : Bool) (x : Seen) → cond b x x ≡ x
    both true x = refl
    both false x = refl

module _ (m : Model) (d : ℕ) where
  -- what an act does to one declaration
  seen_step : (s : Known) (a : collect.Act) → (act m s a).seen d ≡ cond (records m d a) (since s.active false) (cond (uses_one m d a) (used s.active (s.seen d)) (s.seen d))
  seen_step s (collect.opens x) = refl
  seen_step s collect.shuts = refl
  seen_step s (collect.prunes x) = all_recorded m d s (identifiers_in m.pool (scope_of m x.0).declarations)
  seen_step s (collect.sees i) = refl
  seen_step s (collect.flags i) = refl

  active_step : (s : Known) (a : collect.Act) → (act m s a).active ≡ active_by s.active a
  active_step s (collect.opens x) = refl
  active_step s collect.shuts = refl
  active_step s (collect.prunes x) = all_active m s (identifiers_in m.pool (scope_of m x.0).declarations)
  active_step s (collect.sees i) = refl
  active_step s (collect.flags i) = refl

  active_all : (s : Known) (acts : List collect.Act) → (fold (act m) s acts).active ≡ fold active_by s.active acts
  active_all s [] = refl
  active_all s (a ∷ acts) = active_all (act m s a) acts ∙ ap (λ ss. fold active_by ss acts) (active_step s a)

  module _ (acts : List collect.Act) where
    abbrev Rec : ℕ → Type 0
    Rec = RecordedAt m acts d

    abbrev Use : ℕ → Type 0
    Use = UsedAt m acts d

    abbrev active_at_row : ℕ → List ScopeId
    active_at_row = active_at m acts d

    -- all that is to be said of the declaration before act k
    data Story (k : ℕ) : Seen → Type 0 where
      unheard : ((i : ℕ) → i < k → Rec i → ⊥) → Story k never
      quiet : (j : ℕ) → j < k → Rec j → ((i : ℕ) → j < i → i < k → Rec i → ⊥) → ((p : ℕ) → j < p → p < k → Use p → outside (active_at_row p) (active_at_row j) ≡ false) → Story k (since (active_at_row j) false)
      gone : (j p : ℕ) → Rec j → ((i : ℕ) → j < i → i < k → Rec i → ⊥) → j < p → p < k → Use p → outside (active_at_row p) (active_at_row j) ≡ true → Story k (since (active_at_row j) true)

    -- below k, or k itself
    upto : (P Q : ℕ → Type 0) (k i : ℕ) → (i < k → P i → Q i) → (P k → Q k) → i < suc k → P i → Q i
    upto P Q k i below at h p = ⊎_elim (λ e. subst Q (sym e) (at (subst P e p))) (λ ne. below (omega arith) p) (cases_eq i k)

    keep : (k : ℕ) (v : Seen) → (Rec k → ⊥) → (Use k → ⊥) → Story k v → Story (suc k) v
    keep k v nr nu (unheard f) = unheard (λ i. upto Rec (λ x. ⊥) k i (f i) nr)
    keep k v nr nu (quiet j l r last f) = quiet j (omega arith) r (λ i u. upto Rec (λ x. ⊥) k i (last i u) nr) (λ p u. upto Use (λ q. outside (active_at_row q) (active_at_row j) ≡ false) k p (f p u) (λ x. absurd (nu x)))
    keep k v nr nu (gone j p r last u w x o) = gone j p r (λ i y. upto Rec (λ z. ⊥) k i (last i y) nr) u (omega arith) x o

    use_quiet : (k j : ℕ) (b : Bool) → outside (active_at_row k) (active_at_row j) ≡ b → Use k → (Rec k → ⊥) → j < k → Rec j → ((i : ℕ) → j < i → i < k → Rec i → ⊥) → ((p : ℕ) → j < p → p < k → Use p → outside (active_at_row p) (active_at_row j) ≡ false) → Story (suc k) (since (active_at_row j) b)
    use_quiet k j true o x nr l r last f = gone j k r (λ i u. upto Rec (λ y. ⊥) k i (last i u) nr) l (omega arith) x o
    use_quiet k j false o x nr l r last f = quiet j (omega arith) r (λ i u. upto Rec (λ y. ⊥) k i (last i u) nr) (λ p u. upto Use (λ q. outside (active_at_row q) (active_at_row j) ≡ false) k p (f p u) (λ y. o))

    use_step : (k : ℕ) (v : Seen) → Use k → (Rec k → ⊥) → Story k v → Story (suc k) (used (active_at_row k) v)
    use_step k v x nr (unheard f) = unheard (λ i. upto Rec (λ y. ⊥) k i (f i) nr)
    use_step k v x nr (quiet j l r last f) = use_quiet k j (outside (active_at_row k) (active_at_row j)) refl x nr l r last f
    use_step k v x nr (gone j p r last u w y o) = gone j p r (λ i z. upto Rec (λ q. ⊥) k i (last i z) nr) u (omega arith) y o

    record_step : (k : ℕ) → Rec k → Story (suc k) (since (active_at_row k) false)
    record_step k r = quiet k (omega arith) r (λ i u w y. omega arith) (λ p u w y. absurd (omega arith))

    story : (k : ℕ) → k ≤ length acts → Story k ((fold (act m) nothing (take k acts)).seen d)
    story zero h = unheard (λ i l f. omega arith)
    story (suc k) h =
        let s = fold (act m) nothing (take k acts) in
        let a = get_or acts k collect.shuts in
        let now : s.active ≡ active_at_row k = active_all nothing (take k acts) in
        let was = story k (omega arith) in
        let step : (fold (act m) nothing (take (suc k) acts)).seen d ≡ cond (records m d a) (since (active_at_row k) false) (cond (uses_one m d a) (used (active_at_row k) (s.seen d)) (s.seen d)) =
        ap (λ (x : Known). x.seen d) (take_next (act m) nothing acts k collect.shuts (omega arith)) ∙ seen_step s a
        ∙ ap (λ ss. cond (records m d a) (since ss false) (cond (uses_one m d a) (used ss (s.seen d)) (s.seen d))) now in
        subst (Story (suc k)) (sym step)
        (⊎_elim
        (λ r. subst (Story (suc k)) (sym (cond-true _ _ _ r)) (record_step k r))
        (λ r.
        subst (Story (suc k)) (sym (cond-false _ _ _ r))
        (⊎_elim
        (λ u. subst (Story (suc k)) (sym (cond-true _ _ _ u)) (use_step k (s.seen d) u (λ x. true_false _ x r) was))
        (λ u. subst (Story (suc k)) (sym (cond-false _ _ _ u)) (keep k (s.seen d) (λ x. true_false _ x r) (λ x. true_false _ x u) was))
        (cases_Bool (uses_one m d a))))
        (cases_Bool (records m d a)))

    -- nothing is recorded or used past the end
    ended : (p : collect.Act → Bool) → p collect.shuts ≡ false → (i : ℕ) → length acts ≤ i → p (get_or acts i collect.shuts) ≡ true → ⊥
    ended p e i h f = true_false _ f (ap p (get_or_past acts i collect.shuts h) ∙ e)

    out_parts : (ss at : List ScopeId) → outside ss at ≡ true → (x : ScopeId) × (xs : List ScopeId) × (ss ≡ x ∷ xs) × (among x at ≡ false)
    out_parts [] at e = true_false _ e refl
    out_parts (x ∷ xs) at e = (x, xs, refl, was_not _ e)

    said : (k : ℕ) (v : Seen) → k ≡ length acts → Story k v → has_escaped v ≡ true → Escaped m acts d
    said k v n (unheard f) e = true_false _ e refl
    said k v n (quiet j l r last f) e = true_false _ e refl
    said k v n (gone j p r last u w x o) e =
        let parts = out_parts (active_at_row p) (active_at_row j) o in
        record {
          at = j;
          recorded = r;
          last = λ i q y. ⊎_elim (λ b. last i q b y) (λ b. ended (records m d) refl i (omega arith) y) (cases_lt i k);
          place = p;
          used = x;
          after = u;
          innermost = parts.0;
          outer = parts.1;
          active = parts.2;
          fresh = parts.3;
        }

    is_out : (h : Escaped m acts d) → outside (active_at_row h.place) (active_at_row h.at) ≡ true
    is_out h = ap (λ ss. outside ss (active_at_row h.at)) h.active ∙ ap not h.fresh

    within : (h : Escaped m acts d) → h.place < length acts
    within h = ⊎_elim (λ l. l) (λ l. absurd (ended (uses_one m d) refl h.place l h.used)) (cases_lt h.place (length acts))

    heard : (k : ℕ) (v : Seen) → k ≡ length acts → Story k v → Escaped m acts d → has_escaped v ≡ true
    heard k v n (unheard f) h = absurd (f h.at (omega (arith, h.after, within h)) h.recorded)
    heard k v n (gone j p r last u w x o) h = refl
    heard k v n (quiet j l r last f) h =
        absurd (⊎_elim
        (λ same. true_false _ (ap (λ q. outside (active_at_row h.place) (active_at_row q)) (sym same) ∙ is_out h) (f h.place (omega (arith, h.after)) (omega (arith, within h)) h.used))
        (λ more. ⊎_elim (λ less. h.last j less r) (λ less. last h.at less (omega (arith, h.after, within h)) h.recorded) more)
        (cases_order h.at j))

    whole_story : Story (length acts) ((fold (act m) nothing acts).seen d)
    whole_story = subst (λ xs. Story (length acts) ((fold (act m) nothing xs).seen d)) (take_all (length acts) acts (omega arith)) (story (length acts) (omega arith))

    pub escapes_said : has_escaped ((fold (act m) nothing acts).seen d) ≡ true → Escaped m acts d
    escapes_said e = said (length acts) _ refl whole_story e

    pub escapes_heard : Escaped m acts d → has_escaped ((fold (act m) nothing acts).seen d) ≡ true
    escapes_heard h = heard (length acts) _ refl whole_story h

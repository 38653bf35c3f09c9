-- The definition of interposed uses says what its sentence says. Assumes nothing.
use Rattle.std.proofs.Common.{◌≡◌, ℕ, zero, suc, ◌<◌, ◌≤◌, Bool, true, false, cond, not, ◌&&◌, ◌||◌, eqb, ◌⊎◌, List, [], ◌∷◌, length, Some, None, sym, refl, ap, ◌∙◌, subst, inl, inr, ⊎_elim, arith, take_all}
use Rattle.std.proofs.lemmas.List.Folds.{list_any-append}
use Rattle.std.proofs.lemmas.List.{get_or_past}
use Rattle.std.proofs.lemmas.Bool.{cases_Bool, cases_eq, cases_lt, cases_order, cond-true, cond-false, cond_both, eqb-true, or_cases, and_parts}
use Rattle.hir.specs.declared.ids.IdentifierId.{IdentifierId}
use Rattle.std.specs.List.{fold, list_any}
use Rattle.hir.specs.Spans.{ident}
use Rattle.interposed.specs.Acts as third
use Rattle.reasons.specs.Interposed.{Known, finds, fixing, globally, tracking, raising, if, act, nothing, interposed}
use Rattle.reasons.specs.Sentences.{tracks_it, raises_it, uses_it, known_at, act_at, TrackedAt, BarrierAt, FoundAt, Found}
use Rattle.reasons.proofs.Bools.{or_false, and_true, and_false, true_false, was_not}
use Rattle.reasons.proofs.Escaping.{take_next}

-- what an act does to what is tracked and exposed of x
record Turns (x : ℕ) (s t : Known) (tr ra : Bool) : Type 0 where
  tracked : t.tracked x ≡ (tr || s.tracked x)
  exposed : t.exposed x ≡ (not tr && cond ra (s.tracked x) (s.exposed x))

turns_if : (x : ℕ) (s t u : Known) (b tr ra : Bool) → Turns x s t tr ra → Turns x s u tr ra → Turns x s (cond b t u) tr ra
turns_if x s t u true tr ra h k = h
turns_if x s t u false tr ra h k = k

-- an lvalue is tracked unless it has a name
turns_tracking : (x l : ℕ) (s t u : Known) (b : Bool) → t.tracked ≡ s.tracked → t.exposed ≡ s.exposed → u.tracked ≡ s.tracked → u.exposed ≡ s.exposed → Turns x s (cond (not b) (tracking l t) u) (eqb x l && not b) false
turns_tracking x l s t u true a c e f =
    let P : Bool → Type 0 = λ q. Turns x s u q false in
    subst P (sym (and_false (eqb x l))) (record { tracked = ap (λ p. p x) e; exposed = ap (λ p. p x) f })
turns_tracking x l s t u false a c e f =
    let P : Bool → Type 0 = λ q. Turns x s (tracking l t) q false in
    subst P (sym (and_true (eqb x l))) (record { tracked = ap (λ p. eqb x l || p x) a; exposed = ap (λ p. not (eqb x l) && p x) c })

fixed_tracked : (b : Bool) (l : ℕ) (s : Known) → (if b (fixing l) s).tracked ≡ s.tracked
fixed_tracked true l s = refl
fixed_tracked false l s = refl

fixed_exposed : (b : Bool) (l : ℕ) (s : Known) → (if b (fixing l) s).exposed ≡ s.exposed
fixed_exposed true l s = refl
fixed_exposed false l s = refl

globally_tracked : (b : Bool) (l : ℕ) (s : Known) → (if b (λ k. fixing l (globally l k)) s).tracked ≡ s.tracked
globally_tracked true l s = refl
globally_tracked false l s = refl

globally_exposed : (b : Bool) (l : ℕ) (s : Known) → (if b (λ k. fixing l (globally l k)) s).exposed ≡ s.exposed
globally_exposed true l s = refl
globally_exposed false l s = refl

turns_barrier : (x : ℕ) (s : Known) (b : Bool) → Turns x s (if b raising s) false b
turns_barrier x s true = record { tracked = refl; exposed = refl }
turns_barrier x s false = record { tracked = refl; exposed = refl }

turns : (x : ℕ) (s : Known) (a : third.Act) → Turns x s (act s a) (tracks_it s x a) (raises_it s a)
turns x s (third.uses y) = turns_if x s (finds y s) s _ false false (record { tracked = refl; exposed = refl }) (record { tracked = refl; exposed = refl })
turns x s (third.fixes y) = record { tracked = refl; exposed = refl }
turns x s (third.loads l y) = turns_tracking x l.0 s (if (s.constant y.0) (fixing l.0) s) s (s.named l.0) (fixed_tracked (s.constant y.0) l.0 s) (fixed_exposed (s.constant y.0) l.0 s) refl refl
turns x s (third.takes l y) =
    let b = s.global y.0 in
    let on = if (s.global y.0) (λ k. fixing l.0 (globally l.0 k)) s in
    turns_tracking x l.0 s on on (s.named l.0) (globally_tracked b l.0 s) (globally_exposed b l.0 s) (globally_tracked b l.0 s) (globally_exposed b l.0 s)
turns x s (third.global l) = record { tracked = refl; exposed = refl }
turns x s (third.barrier None) = record { tracked = refl; exposed = refl }
turns x s (third.barrier (Some l)) = turns_barrier x s (s.named l.0)
turns x s (third.tracks l) = turns_tracking x l.0 s s s (s.named l.0) refl refl refl refl

among : ℕ → List IdentifierId → Bool
among x is = list_any (λ (i : IdentifierId). eqb x i.0) is

-- x is found by an act that uses it while it is unnamed, not constant and exposed
due : Known → ℕ → Bool
due s x = not (s.named x) && (not (s.constant x) && s.exposed x)

same_found : (x : ℕ) (s t : Known) → t.found ≡ s.found → among x t.found ≡ (among x s.found || false)
same_found x s t e = ap (among x) e ∙ sym (or_false (among x s.found))

if_found : (b : Bool) (f : Known → Known) (s : Known) → (f s).found ≡ s.found → (if b f s).found ≡ s.found
if_found true f s e = e
if_found false f s e = refl

found_step : (x : ℕ) (s : Known) (a : third.Act) → among x (act s a).found ≡ (among x s.found || (uses_it x a && due s x))
unfolding among due
found_step x s (third.uses y) =
    ⊎_elim
    (λ e.
    ap (λ (t : Known). among x t.found) (cond-true _ _ _ e)
    ∙ list_any-append (λ (i : IdentifierId). eqb x i.0) s.found (y ∷ [])
    ∙ ap (λ b. among x s.found || b)
    (or_false (eqb x y.0)
    ∙ ⊎_elim
    (λ q. q ∙ sym (λ k. q k && (ap (due s) (eqb-true x y.0 q) ∙ e) k))
    (λ q. q ∙ sym (ap (λ b. b && due s x) q))
    (cases_Bool (eqb x y.0))))
    (λ e.
    ap (λ (t : Known). among x t.found) (cond-false _ _ _ e)
    ∙ sym (or_false (among x s.found))
    ∙ ap (λ b. among x s.found || b)
    (⊎_elim
    (λ q. sym (ap (λ b. eqb x y.0 && b) (ap (due s) (eqb-true x y.0 q) ∙ e) ∙ and_false (eqb x y.0)))
    (λ q. sym (ap (λ b. b && due s x) q))
    (cases_Bool (eqb x y.0))))
    (cases_Bool (due s y.0))
found_step x s (third.fixes y) = same_found x s (act s (third.fixes y)) refl
found_step x s (third.loads l y) = same_found x s (act s (third.loads l y)) (if_found (not (s.named l.0)) (λ k. tracking l.0 (if (s.constant y.0) (fixing l.0) k)) s (if_found (s.constant y.0) (fixing l.0) s refl))
found_step x s (third.takes l y) = same_found x s (act s (third.takes l y)) (cond_both (not (s.named l.0)) (tracking l.0 (if (s.global y.0) (λ k. fixing l.0 (globally l.0 k)) s)) (if (s.global y.0) (λ k. fixing l.0 (globally l.0 k)) s) (λ (t : Known). t.found ≡ s.found) (λ e. if_found (s.global y.0) (λ k. fixing l.0 (globally l.0 k)) s refl) (λ e. if_found (s.global y.0) (λ k. fixing l.0 (globally l.0 k)) s refl))
found_step x s (third.global l) = same_found x s (act s (third.global l)) refl
found_step x s (third.barrier None) = same_found x s (act s (third.barrier None)) refl
found_step x s (third.barrier (Some l)) = same_found x s (act s (third.barrier (Some l))) (if_found (s.named l.0) raising s refl)
found_step x s (third.tracks l) = same_found x s (act s (third.tracks l)) (if_found (not (s.named l.0)) (tracking l.0) s refl)

module _ (named : ℕ → Bool) (acts : List third.Act) (x : ℕ) where
  abbrev at : ℕ → Known
  at = known_at named acts

  abbrev Tr : ℕ → Type 0
  Tr = TrackedAt named acts x

  abbrev Ba : ℕ → Type 0
  Ba = BarrierAt named acts

  -- all that is to be said of x before act k: whether it is tracked and exposed
  data Story (k : ℕ) : Bool → Bool → Type 0 where
    never : ((i : ℕ) → i < k → Tr i → ⊥) → Story k false false
    calm : (j : ℕ) → j < k → Tr j → ((i : ℕ) → j < i → i < k → Tr i → ⊥) → ((b : ℕ) → j < b → b < k → Ba b → ⊥) → Story k true false
    opened : (j b : ℕ) → Tr j → ((i : ℕ) → j < i → i < k → Tr i → ⊥) → j < b → b < k → Ba b → Story k true true

  upto : (P : ℕ → Type 0) (k i : ℕ) → (i < k → P i → ⊥) → (P k → ⊥) → i < suc k → P i → ⊥
  upto P k i below here h p = ⊎_elim (λ e. here (subst P e p)) (λ ne. below (omega arith) p) (cases_eq i k)

  story_step : (k : ℕ) (tr ra s-tr s-ex : Bool) → tracks_it (at k) x (act_at named acts k) ≡ tr → raises_it (at k) (act_at named acts k) ≡ ra → Story k s-tr s-ex → Story (suc k) (tr || s-tr) (not tr && cond ra s-tr s-ex)
  story_step k true ra s-tr s-ex t r h = calm k (omega arith) t (λ i l u p. omega arith) (λ b l u p. omega arith)
  story_step k false true s-tr s-ex t r (never f) = never (λ i. upto Tr k i (f i) (λ y. true_false _ y t))
  story_step k false true s-tr s-ex t r (calm j l p last f) = opened j k p (λ i u. upto Tr k i (last i u) (λ y. true_false _ y t)) l (omega arith) r
  story_step k false true s-tr s-ex t r (opened j b p last u v w) = opened j b p (λ i y. upto Tr k i (last i y) (λ z. true_false _ z t)) u (omega arith) w
  story_step k false false s-tr s-ex t r (never f) = never (λ i. upto Tr k i (f i) (λ y. true_false _ y t))
  story_step k false false s-tr s-ex t r (calm j l p last f) = calm j (omega arith) p (λ i u. upto Tr k i (last i u) (λ y. true_false _ y t)) (λ b u. upto Ba k b (f b u) (λ y. true_false _ y r))
  story_step k false false s-tr s-ex t r (opened j b p last u v w) = opened j b p (λ i y. upto Tr k i (last i y) (λ z. true_false _ z t)) u (omega arith) w

  next_at : (k : ℕ) → k < length acts → at (suc k) ≡ act (at k) (act_at named acts k)
  next_at k h = take_next act (nothing named) acts k (third.fixes (ident 0)) h

  story : (k : ℕ) → k ≤ length acts → Story k ((at k).tracked x) ((at k).exposed x)
  story zero h = never (λ i l t. omega arith)
  story (suc k) h =
      let e = next_at k (omega arith) in
      let t = turns x (at k) (act_at named acts k) in
      let tracked_is = ap (λ (y : Known). y.tracked x) e ∙ t.tracked in
      let exposed_is = ap (λ (y : Known). y.exposed x) e ∙ t.exposed in
      subst (λ (p : Bool × Bool). Story (suc k) p.0 p.1) (λ j. (sym tracked_is j, sym exposed_is j))
      (story_step k _ _ ((at k).tracked x) ((at k).exposed x) refl refl (story k (omega arith)))

  -- what the story says of a use
  opens : (k : ℕ) (b c : Bool) → c ≡ true → uses_it x (act_at named acts k) ≡ true → (at k).named x ≡ false → (at k).constant x ≡ false → Story k b c → FoundAt named acts x k
  opens k b c e u n v (never f) = true_false _ e refl
  opens k b c e u n v (calm j l p last f) = true_false _ e refl
  opens k b c e u n v (opened j w p last l o q) = record { used = u; unnamed = n; variable = v; at = j; tracked = p; last = last; wall = w; barrier = q; after = l; since = o }

  exposed_so : (k : ℕ) (b c : Bool) → Story k b c → FoundAt named acts x k → c ≡ true
  exposed_so k b c (never f) h = absurd (f h.at (omega (arith, h.after, h.since)) h.tracked)
  exposed_so k b c (calm j l p last f) h =
      absurd (⊎_elim
      (λ same. f h.wall (omega (arith, h.after)) h.since h.barrier)
      (λ more. ⊎_elim (λ less. h.last j less l p) (λ less. last h.at less (omega (arith, h.after, h.since)) h.tracked) more)
      (cases_order h.at j))
  exposed_so k b c (opened j w p last l o q) h = refl

  found_here : (k : ℕ) → k < length acts → (uses_it x (act_at named acts k) && due (at k) x) ≡ true → FoundAt named acts x k
  unfolding due
  found_here k h e =
      let p = and_parts _ _ e in
      let q = and_parts _ _ p.1 in
      let r = and_parts _ _ q.1 in
      opens k ((at k).tracked x) ((at k).exposed x) r.1 p.0 (was_not _ q.0) (was_not _ r.0) (story k (omega arith))

  due_here : (k : ℕ) → k < length acts → FoundAt named acts x k → (uses_it x (act_at named acts k) && due (at k) x) ≡ true
  unfolding due
  due_here k h f =
      let e = exposed_so k _ _ (story k (omega arith)) f in
      (λ i. f.used i && (not (f.unnamed i) && (not (f.variable i) && e i)))

  said : (k : ℕ) → k ≤ length acts → among x (at k).found ≡ true → Found named acts x
  unfolding among
  said zero h e = true_false _ e refl
  said (suc k) h e =
      ⊎_elim
      (λ old. said k (omega arith) old)
      (λ new. record { place = k; found = found_here k (omega arith) new })
      (or_cases _ _ (sym (found_step x (at k) (act_at named acts k)) ∙ sym (ap (λ (s : Known). among x s.found) (next_at k (omega arith))) ∙ e))

  or_either : (a b : Bool) → (a ≡ true) ⊎ (b ≡ true) → (a || b) ≡ true
  or_either true b h = refl
  or_either false b h = ⊎_elim (λ e. true_false _ e refl) (λ e. e) h

  heard : (k p : ℕ) → k ≤ length acts → p < k → FoundAt named acts x p → among x (at k).found ≡ true
  heard zero p h l f = absurd (omega arith)
  heard (suc k) p h l f =
      ap (λ (s : Known). among x s.found) (next_at k (omega arith))
      ∙ found_step x (at k) (act_at named acts k)
      ∙ or_either _ _
      (⊎_elim
      (λ same. inr (due_here k (omega arith) (subst (FoundAt named acts x) same f)))
      (λ other. inl (heard k p (omega arith) (omega arith) f))
      (cases_eq p k))

  within : (p : ℕ) → FoundAt named acts x p → p < length acts
  within p f = ⊎_elim (λ l. l) (λ l. true_false _ f.used (ap (uses_it x) (get_or_past acts p (third.fixes (ident 0)) l))) (cases_lt p (length acts))

  all_taken : (at (length acts)).found ≡ interposed named acts
  all_taken = ap (λ xs. (fold act (nothing named) xs).found) (take_all (length acts) acts (omega arith))

  pub found_said : list_any (λ (i : IdentifierId). eqb x i.0) (interposed named acts) ≡ true → Found named acts x
  unfolding among
  found_said e = said (length acts) (omega arith) (ap (among x) all_taken ∙ e)

  pub found_heard : Found named acts x → list_any (λ (i : IdentifierId). eqb x i.0) (interposed named acts) ≡ true
  unfolding among
  found_heard f = ap (among x) (sym all_taken) ∙ heard (length acts) f.place (omega arith) (within f.place f.found) f.found

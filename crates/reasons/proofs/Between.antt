-- The third pass names what reason 5 covers. Assumes nothing.
use Rattle.std.proofs.Common.{◌≡◌, ℕ, zero, suc, ◌+◌, ◌<◌, ◌≤◌, Bool, true, false, cond, not, ◌&&◌, ◌||◌, eqb, List, [], ◌∷◌, ◌++◌, length, Some, None, Option, IfSome, is_some, sym, refl, ap, ◌∙◌, subst, ⊎_elim, append_assoc, arith, length-set, get_or-set_other, get_or-set_same}
use Rattle.std.proofs.lemmas.List.Sums.{fold-append}
use Rattle.std.specs.List.{filter, fold}
use Rattle.std.proofs.lemmas.Bool.{cases_Bool, cases_eq, cond-true, cond-false, eq-eqb, ne_eqb, lt-ltb, le-ltb}
use Rattle.hir.specs.declared.ids.IdentifierId.{IdentifierId}
use Rattle.hir.specs.declared.scratch.Work.{Work}
use Rattle.hir.specs.declared.tables.JournalRow.{JournalRow}
use Rattle.hir.specs.declared.tables.Reason.TheVariants as reasons
use Rattle.hir.specs.Environments.{Model, declaration_of}
use Rattle.hir.specs.Lists.{Each}
use Rattle.hir.specs.Scratches.{Tables, no_work, work_of}
use Rattle.hir.specs.Sound.{Known}
use Rattle.walk.specs.Events.{whole}
use Rattle.promote.specs.Growth.{none}
use Rattle.promote.specs.Identifier.{as_promoted, promote_if, is_unnamed, row}
use Rattle.promote.proofs.Growing.{sound_grows}
use Rattle.interposed.specs.Acts as table
use Rattle.reasons.specs.Journals.{declares}
use Rattle.reasons.specs.Coverings.{covers}
use Rattle.reasons.specs.Interposed as known
use Rattle.reasons.proofs.Bools.{or_true, or_false, and_false}
use Rattle.reasons.proofs.Admitting.{taken, admit, taken_push}
use Rattle.reasons.proofs.Views.{view_unnamed, same_field}
use Rattle.reasons.proofs.Steps.{Seen, seen_list, goes_declares}
use Rattle.reasons.proofs.Late.{covers_append}

-- one identifier, as known and as its work row has it
pub record Agrees (e : ℕ) (x : Work) (s : known.Known) (i : ℕ) : Type 0 where
  pub constant : x.constant ≡ s.constant i
  pub global : x.global ≡ s.global i
  pub tracked : is_some x.tracked ≡ s.tracked i
  pub exposed : table.exposed e x ≡ s.exposed i
  pub low : IfSome x.tracked (λ t. t ≤ e)

-- after a barrier, each tracking lies before
before_next : (e : ℕ) (o : Option ℕ) → IfSome o (λ t. t ≤ e) → table.is_before (e + 1) o ≡ is_some o
before_next e None h = refl
before_next e (Some t) h = lt-ltb t (e + 1) (omega arith)

-- and none lies after it
low_next : (e : ℕ) (o : Option ℕ) → IfSome o (λ t. t ≤ e) → IfSome o (λ t. t ≤ e + 1)
low_next e None h = tt
low_next e (Some t) h = omega arith

promoted_field : {A : Type 0} (g : Work → A) → ((w : Work) → g (as_promoted w) ≡ g w) → (b : Bool) (t : Tables) (i : IdentifierId) (d : ℕ) → g (work_of (promote_if b reasons.Interposed t i).notes d) ≡ g (work_of t.notes d)
promoted_field g keeps true t i d = same_field g keeps t.notes.work (declaration_of t.env i.0) d
promoted_field g keeps false t i d = refl

module _ (m : Model) (up out : ℕ → Bool) (js : List JournalRow) where
  -- the journal with what was found
  abbrev with_found : known.Known → List JournalRow
  with_found s = js ++ covers reasons.Interposed s.found

  -- the tables agree with what is known
  pub record Knows (s : known.Known) (w : table.State) : Type 0 where
    pub seen : Seen m up out (declares m) (js ++ covers reasons.Interposed s.found) w.tables
    pub named : (i : ℕ) → s.named i ≡ taken m (js ++ covers reasons.Interposed s.found) i
    pub rows : (i : ℕ) → i < length m.identifiers → Agrees (table.epoch w) (work_of w.tables.notes i) s i
    -- epochs count from 1
    pub begun : 0 < table.epoch w
    -- each that was found was admitted to the journal
    pub admitted : fold (admit m) js (covers reasons.Interposed s.found) ≡ js ++ covers reasons.Interposed s.found

  nameless_is : (s : known.Known) (w : table.State) → Knows s w → (i : IdentifierId) → table.nameless w i ≡ not (s.named i.0)
  nameless_is s w k i = view_unnamed m up out _ _ w.tables k.seen.view i ∙ ap not (sym (k.named i.0))

  -- a work row is set, with its flags of declarations as they were
  module _ (s s' : known.Known) (w : table.State) (l : IdentifierId) (x : Work) (k : Knows s w) (h : Known m l) (found_same : s'.found ≡ s.found) (named_same : (i : ℕ) → s'.named i ≡ s.named i) (tag : x.tag ≡ (table.work w l).tag) (escaped : x.escaped ≡ (table.work w l).escaped) (promoted_same : x.promoted ≡ (table.work w l).promoted) (here : Agrees (table.epoch w) x s' l.0) (there : (i : ℕ) → (i ≡ l.0 → ⊥) → i < length m.identifiers → Agrees (table.epoch w) (work_of w.tables.notes i) s i → Agrees (table.epoch w) (work_of w.tables.notes i) s' i) where
    in_range : l.0 < length w.tables.notes.work
    in_range = omega (arith, k.seen.sound.work, k.seen.view.grown.size)

    row_is : {A : Type 0} (g : Work → A) → g x ≡ g (table.work w l) → (d : ℕ) → g (work_of (table.noting w l x).tables.notes d) ≡ g (work_of w.tables.notes d)
    row_is g e d =
        ⊎_elim
        (λ q. ap (λ n. g (work_of (table.noting w l x).tables.notes n)) q ∙ ap g (get_or-set_same w.tables.notes.work l.0 x no_work in_range) ∙ e ∙ ap (λ n. g (work_of w.tables.notes n)) (sym q))
        (λ ne. ap g (get_or-set_other w.tables.notes.work l.0 d x no_work ne))
        (cases_eq d l.0)

    pub knows_noting : Knows s' (table.noting w l x)
    knows_noting =
        let v = k.seen.view in
        let P : List IdentifierId → Type 0 = λ f. Seen m up out (declares m) (js ++ covers reasons.Interposed f) (table.noting w l x).tables in
        let Q : List IdentifierId → Type 0 = λ f. (i : ℕ) → s'.named i ≡ taken m (js ++ covers reasons.Interposed f) i in
        let A : List IdentifierId → Type 0 = λ f. fold (admit m) js (covers reasons.Interposed f) ≡ js ++ covers reasons.Interposed f in
        record {
          seen = subst P (sym found_same) (record {
            view = record {
              env = v.env;
              known = v.known;
              grown = v.grown;
              upper = λ d b. row_is (λ y. y.tag) tag d ∙ v.upper d b;
              escaped = λ d b. row_is (λ y. y.escaped) escaped d ∙ v.escaped d b;
              promoted_so = λ d b. row_is (λ y. y.promoted) promoted_same d ∙ v.promoted_so d b;
            };
            sound = sound_grows k.seen.sound (record { rows = []; named = none; work = length-set _ _ _; marks = refl; trail = refl });
          });
          named = subst Q (sym found_same) (λ i. named_same i ∙ k.named i);
          rows = λ i b.
              ⊎_elim
              (λ q.
              let R : Work → Type 0 = λ y. Agrees (table.epoch w) y s' i in
              let S : ℕ → Type 0 = λ n. Agrees (table.epoch w) x s' n in
              subst R (sym (ap (work_of (table.noting w l x).tables.notes) q ∙ get_or-set_same w.tables.notes.work l.0 x no_work in_range)) (subst S (sym q) here))
              (λ ne.
              let R : Work → Type 0 = λ y. Agrees (table.epoch w) y s' i in
              subst R (sym (get_or-set_other w.tables.notes.work l.0 i x no_work ne)) (there i ne b (k.rows i b)))
              (cases_eq i l.0);
          admitted = subst A (sym found_same) k.admitted;
          begun = k.begun;
        }

  plus_here : (p : ℕ → Bool) (x : ℕ) → known.plus p x x ≡ true
  plus_here p x = ap (λ b. b || p x) (eq-eqb x x refl)

  plus_there : (p : ℕ → Bool) (x i : ℕ) → (i ≡ x → ⊥) → known.plus p x i ≡ p i
  plus_there p x i ne = ap (λ b. b || p i) (ne_eqb i x ne)

  minus_here : (p : ℕ → Bool) (x : ℕ) → known.minus p x x ≡ false
  minus_here p x = ap (λ b. not b && p x) (eq-eqb x x refl)

  minus_there : (p : ℕ → Bool) (x i : ℕ) → (i ≡ x → ⊥) → known.minus p x i ≡ p i
  minus_there p x i ne = ap (λ b. not b && p i) (ne_eqb i x ne)

  -- an identifier becomes constant
  knows_fixes : (s : known.Known) (w : table.State) (l : IdentifierId) → Knows s w → Known m l → Knows (known.fixing l.0 s) (table.noting w l (table.as_constant true (table.work w l)))
  knows_fixes s w l k h =
      let a = k.rows l.0 h in
      knows_noting s (known.fixing l.0 s) w l (table.as_constant true (table.work w l)) k h refl (λ i. refl) refl refl refl
      (record { constant = or_true _ ∙ sym (plus_here s.constant l.0); global = a.global; tracked = a.tracked; exposed = a.exposed; low = a.low })
      (λ i ne b c. record { constant = c.constant ∙ sym (plus_there s.constant l.0 i ne); global = c.global; tracked = c.tracked; exposed = c.exposed; low = c.low })

  -- an identifier becomes global
  knows_global : (s : known.Known) (w : table.State) (l : IdentifierId) → Knows s w → Known m l → Knows (known.globally l.0 s) (table.noting w l (table.as_global true (table.work w l)))
  knows_global s w l k h =
      let a = k.rows l.0 h in
      knows_noting s (known.globally l.0 s) w l (table.as_global true (table.work w l)) k h refl (λ i. refl) refl refl refl
      (record { constant = a.constant; global = or_true _ ∙ sym (plus_here s.global l.0); tracked = a.tracked; exposed = a.exposed; low = a.low })
      (λ i ne b c. record { constant = c.constant; global = c.global ∙ sym (plus_there s.global l.0 i ne); tracked = c.tracked; exposed = c.exposed; low = c.low })

  -- one row under the changes of an act
  agrees_tracked : (e : ℕ) (x : Work) (s : known.Known) (i : ℕ) → 0 < e → Agrees e x s i → Agrees e (table.as_tracked e x) (known.tracking i s) i
  agrees_tracked zero x s i h a = absurd (omega (arith, h))
  agrees_tracked (suc e) x s i h a = record {
    constant = a.constant;
    global = a.global;
    tracked = sym (plus_here s.tracked i);
    exposed = le-ltb (suc e) (suc e) (omega arith) ∙ sym (minus_here s.exposed i);
    low = omega arith;
  }

  tracked_other : (e : ℕ) (y : Work) (s : known.Known) (l i : ℕ) → (i ≡ l → ⊥) → Agrees e y s i → Agrees e y (known.tracking l s) i
  tracked_other e y s l i ne c = record {
    constant = c.constant;
    global = c.global;
    tracked = c.tracked ∙ sym (plus_there s.tracked l i ne);
    exposed = c.exposed ∙ sym (minus_there s.exposed l i ne);
    low = c.low;
  }

  agrees_constant : (b : Bool) (e : ℕ) (x : Work) (s : known.Known) (i : ℕ) → Agrees e x s i → Agrees e (table.as_constant b x) (known.if b (known.fixing i) s) i
  agrees_constant true e x s i a = record { constant = or_true _ ∙ sym (plus_here s.constant i); global = a.global; tracked = a.tracked; exposed = a.exposed; low = a.low }
  agrees_constant false e x s i a = record { constant = or_false _ ∙ a.constant; global = a.global; tracked = a.tracked; exposed = a.exposed; low = a.low }

  constant_other : (b : Bool) (e : ℕ) (y : Work) (s : known.Known) (l i : ℕ) → (i ≡ l → ⊥) → Agrees e y s i → Agrees e y (known.if b (known.fixing l) s) i
  constant_other true e y s l i ne c = record { constant = c.constant ∙ sym (plus_there s.constant l i ne); global = c.global; tracked = c.tracked; exposed = c.exposed; low = c.low }
  constant_other false e y s l i ne c = c

  agrees_global : (b : Bool) (e : ℕ) (x : Work) (s : known.Known) (i : ℕ) → Agrees e x s i → Agrees e (table.as_constant b (table.as_global b x)) (known.if b (λ k. known.fixing i (known.globally i k)) s) i
  agrees_global true e x s i a = record { constant = or_true _ ∙ sym (plus_here s.constant i); global = or_true _ ∙ sym (plus_here s.global i); tracked = a.tracked; exposed = a.exposed; low = a.low }
  agrees_global false e x s i a = record { constant = or_false _ ∙ a.constant; global = or_false _ ∙ a.global; tracked = a.tracked; exposed = a.exposed; low = a.low }

  global_other : (b : Bool) (e : ℕ) (y : Work) (s : known.Known) (l i : ℕ) → (i ≡ l → ⊥) → Agrees e y s i → Agrees e y (known.if b (λ k. known.fixing l (known.globally l k)) s) i
  global_other true e y s l i ne c = record { constant = c.constant ∙ sym (plus_there s.constant l i ne); global = c.global ∙ sym (plus_there s.global l i ne); tracked = c.tracked; exposed = c.exposed; low = c.low }
  global_other false e y s l i ne c = c

  if_found : (b : Bool) (f : known.Known → known.Known) (s : known.Known) → (f s).found ≡ s.found → (known.if b f s).found ≡ s.found
  if_found true f s e = e
  if_found false f s e = refl

  if_named : (b : Bool) (f : known.Known → known.Known) (s : known.Known) (i : ℕ) → (f s).named i ≡ s.named i → (known.if b f s).named i ≡ s.named i
  if_named true f s i e = e
  if_named false f s i e = refl

  -- an lvalue is tracked unless it has a name
  knows_tracks : (s : known.Known) (w : table.State) (l : IdentifierId) → Knows s w → Known m l → Knows (known.act s (table.tracks l)) (table.does w (table.tracks l))
  knows_tracks s w l k h =
      ⊎_elim
      (λ e.
      let P : known.Known → Type 0 = λ a. Knows a (table.does w (table.tracks l)) in
      let Q : table.State → Type 0 = Knows (known.tracking l.0 s) in
      subst P (sym (cond-true _ _ _ e))
      (subst Q (sym (cond-true _ _ _ (nameless_is s w k l ∙ e)))
      (knows_noting s (known.tracking l.0 s) w l (table.as_tracked (table.epoch w) (table.work w l)) k h refl (λ i. refl) refl refl refl
      (agrees_tracked (table.epoch w) (table.work w l) s l.0 k.begun (k.rows l.0 h))
      (λ i ne b c. tracked_other (table.epoch w) (work_of w.tables.notes i) s l.0 i ne c))))
      (λ e.
      let P : known.Known → Type 0 = λ a. Knows a (table.does w (table.tracks l)) in
      subst P (sym (cond-false _ _ _ e)) (subst (Knows s) (sym (cond-false _ _ _ (nameless_is s w k l ∙ e))) k))
      (cases_Bool (not (s.named l.0)))

  knows_loads : (s : known.Known) (w : table.State) (l x : IdentifierId) → Knows s w → Known m l → Known m x → Knows (known.act s (table.loads l x)) (table.does w (table.loads l x))
  knows_loads s w l x k h hx =
      let b = s.constant x.0 in
      let inner = known.if b (known.fixing l.0) s in
      let same : (table.work w x).constant ≡ b = (k.rows x.0 hx).constant in
      ⊎_elim
      (λ e.
      let P : known.Known → Type 0 = λ a. Knows a (table.does w (table.loads l x)) in
      let Q : table.State → Type 0 = Knows (known.tracking l.0 inner) in
      subst P (sym (cond-true _ _ _ e))
      (subst Q (sym (cond-true _ _ _ (nameless_is s w k l ∙ e) ∙ ap (λ c. table.noting w l (table.as_tracked (table.epoch w) (table.as_constant c (table.work w l)))) same))
      (knows_noting s (known.tracking l.0 inner) w l (table.as_tracked (table.epoch w) (table.as_constant b (table.work w l))) k h
      (if_found b (known.fixing l.0) s refl) (λ i. if_named b (known.fixing l.0) s i refl) refl refl refl
      (agrees_tracked (table.epoch w) (table.as_constant b (table.work w l)) inner l.0 k.begun (agrees_constant b (table.epoch w) (table.work w l) s l.0 (k.rows l.0 h)))
      (λ i ne q c. tracked_other (table.epoch w) (work_of w.tables.notes i) inner l.0 i ne (constant_other b (table.epoch w) (work_of w.tables.notes i) s l.0 i ne c)))))
      (λ e.
      let P : known.Known → Type 0 = λ a. Knows a (table.does w (table.loads l x)) in
      subst P (sym (cond-false _ _ _ e)) (subst (Knows s) (sym (cond-false _ _ _ (nameless_is s w k l ∙ e))) k))
      (cases_Bool (not (s.named l.0)))

  knows_takes : (s : known.Known) (w : table.State) (l x : IdentifierId) → Knows s w → Known m l → Known m x → Knows (known.act s (table.takes l x)) (table.does w (table.takes l x))
  knows_takes s w l x k h hx =
      let b = s.global x.0 in
      let f : known.Known → known.Known = λ a. known.fixing l.0 (known.globally l.0 a) in
      let inner = known.if b f s in
      let y = table.as_constant b (table.as_global b (table.work w l)) in
      let same : (table.work w x).global ≡ b = (k.rows x.0 hx).global in
      let here = agrees_global b (table.epoch w) (table.work w l) s l.0 (k.rows l.0 h) in
      let as_b : table.does w (table.takes l x) ≡ table.noting w l (cond (table.nameless w l) (table.as_tracked (table.epoch w) y) y) =
      ap (λ c. table.noting w l (cond (table.nameless w l) (table.as_tracked (table.epoch w) (table.as_constant c (table.as_global c (table.work w l)))) (table.as_constant c (table.as_global c (table.work w l))))) same in
      ⊎_elim
      (λ e.
      let P : known.Known → Type 0 = λ a. Knows a (table.does w (table.takes l x)) in
      let Q : table.State → Type 0 = Knows (known.tracking l.0 inner) in
      subst P (sym (cond-true _ _ _ e))
      (subst Q (sym (as_b ∙ ap (table.noting w l) (cond-true _ _ _ (nameless_is s w k l ∙ e))))
      (knows_noting s (known.tracking l.0 inner) w l (table.as_tracked (table.epoch w) y) k h
      (if_found b f s refl) (λ i. if_named b f s i refl) refl refl refl
      (agrees_tracked (table.epoch w) y inner l.0 k.begun here)
      (λ i ne q c. tracked_other (table.epoch w) (work_of w.tables.notes i) inner l.0 i ne (global_other b (table.epoch w) (work_of w.tables.notes i) s l.0 i ne c)))))
      (λ e.
      let P : known.Known → Type 0 = λ a. Knows a (table.does w (table.takes l x)) in
      let Q : table.State → Type 0 = Knows inner in
      subst P (sym (cond-false _ _ _ e))
      (subst Q (sym (as_b ∙ ap (table.noting w l) (cond-false _ _ _ (nameless_is s w k l ∙ e))))
      (knows_noting s inner w l y k h
      (if_found b f s refl) (λ i. if_named b f s i refl) refl refl refl
      here
      (λ i ne q c. global_other b (table.epoch w) (work_of w.tables.notes i) s l.0 i ne c))))
      (cases_Bool (not (s.named l.0)))

  -- a barrier exposes what is tracked
  knows_raised : (s : known.Known) (w : table.State) → Knows s w → Knows (known.raising s) (table.raised w)
  knows_raised s w k = record {
    seen = k.seen;
    named = k.named;
    admitted = k.admitted;
    begun = omega (arith, k.begun);
    rows = λ i b.
        let a = k.rows i b in
        let o = (work_of w.tables.notes i).tracked in
        record { constant = a.constant; global = a.global; tracked = a.tracked; exposed = before_next (table.epoch w) o a.low ∙ a.tracked; low = low_next (table.epoch w) o a.low };
  }

  knows_barrier : (s : known.Known) (w : table.State) (l : Option IdentifierId) → Knows s w → table.KnownIf m l → Knows (known.act s (table.barrier l)) (table.does w (table.barrier l))
  knows_barrier s w None k h = knows_raised s w k
  knows_barrier s w (Some l) k h =
      ⊎_elim
      (λ e.
      let P : known.Known → Type 0 = λ a. Knows a (table.does w (table.barrier (Some l))) in
      let Q : table.State → Type 0 = Knows (known.raising s) in
      subst P (sym (cond-true _ _ _ e)) (subst Q (sym (cond-false _ _ _ (nameless_is s w k l ∙ ap not e))) (knows_raised s w k)))
      (λ e.
      let P : known.Known → Type 0 = λ a. Knows a (table.does w (table.barrier (Some l))) in
      subst P (sym (cond-false _ _ _ e)) (subst (Knows s) (sym (cond-true _ _ _ (nameless_is s w k l ∙ ap not e))) k))
      (cases_Bool (s.named l.0))

  -- a use names what is found
  module _ (s : known.Known) (w : table.State) (x : IdentifierId) (k : Knows s w) (h : Known m x) where
    due : Bool
    due = not (s.constant x.0) && s.exposed x.0

    found_is : table.found w x ≡ (is_unnamed w.tables.env x && due)
    unfolding due
    found_is = (λ i. is_unnamed w.tables.env x && (not ((k.rows x.0 h).constant i) && (k.rows x.0 h).exposed i))

    used : Tables
    used = promote_if (is_unnamed w.tables.env x && due) reasons.Interposed w.tables x

    does_used : table.does w (table.uses x) ≡ whole w.visitor used
    unfolding used
    does_used = ap (λ b. whole w.visitor (promote_if b reasons.Interposed w.tables x)) found_is

    seen_used : Seen m up out (declares m) (fold (admit m) (with_found s) (covers reasons.Interposed (filter (λ i. due) (x ∷ [])))) used
    unfolding used
    seen_used =
        seen_list m up out (declares m) reasons.Interposed (λ t i. promote_if (is_unnamed t.env i && due) reasons.Interposed t i) (λ t i. due) (λ i. due) (goes_declares m (λ i. due)) (λ t i. refl) (λ xs t i v q b. refl)
        (with_found s) w.tables k.seen (x ∷ []) (h, tt)

    row_same : {A : Type 0} (g : Work → A) → ((y : Work) → g (as_promoted y) ≡ g y) → (d : ℕ) → g (work_of used.notes d) ≡ g (work_of w.tables.notes d)
    unfolding used
    row_same g keeps d = promoted_field g keeps (is_unnamed w.tables.env x && due) w.tables x d

    -- what is known goes on with the journal
    knows_used : (s' : known.Known) → Seen m up out (declares m) (js ++ covers reasons.Interposed s'.found) used → ((i : ℕ) → s'.named i ≡ taken m (js ++ covers reasons.Interposed s'.found) i) → ((i : ℕ) → Agrees (table.epoch w) (work_of w.tables.notes i) s i → Agrees (table.epoch w) (work_of w.tables.notes i) s' i) → fold (admit m) js (covers reasons.Interposed s'.found) ≡ js ++ covers reasons.Interposed s'.found → Knows s' (table.does w (table.uses x))
    knows_used s' seen named same in_all =
        subst (Knows s') (sym does_used)
        (record {
          seen = seen;
          named = named;
          admitted = in_all;
          begun = k.begun;
          rows = λ i b.
              let a = same i (k.rows i b) in
              record {
                constant = row_same (λ y. y.constant) (λ y. refl) i ∙ a.constant;
                global = row_same (λ y. y.global) (λ y. refl) i ∙ a.global;
                tracked = row_same (λ y. is_some y.tracked) (λ y. refl) i ∙ a.tracked;
                exposed = row_same (λ y. table.exposed (table.epoch w) y) (λ y. refl) i ∙ a.exposed;
                low = subst (λ o. IfSome o (λ t. t ≤ table.epoch w)) (sym (row_same (λ y. y.tracked) (λ y. refl) i)) a.low;
              };
        })

    knows_unfound : known.act s (table.uses x) ≡ s → fold (admit m) (with_found s) (covers reasons.Interposed (filter (λ i. due) (x ∷ []))) ≡ with_found s → Knows (known.act s (table.uses x)) (table.does w (table.uses x))
    knows_unfound e f =
        let P : known.Known → Type 0 = λ a. Knows a (table.does w (table.uses x)) in
        let Q : List JournalRow → Type 0 = λ rows. Seen m up out (declares m) rows used in
        subst P (sym e) (knows_used s (subst Q f seen_used) k.named (λ i a. a) k.admitted)

    pub knows_uses : Knows (known.act s (table.uses x)) (table.does w (table.uses x))
    unfolding due
    knows_uses =
        ⊎_elim
        (λ d.
        ⊎_elim
        (λ n.
        knows_unfound
        (cond-false _ _ _ (ap (λ b. not b && due) n))
        (ap (λ xs. fold (admit m) (with_found s) (covers reasons.Interposed xs)) (cond-true due (x ∷ []) [] d) ∙ cond-true _ _ _ (sym (k.named x.0) ∙ n)))
        (λ n.
        let P : known.Known → Type 0 = λ a. Knows a (table.does w (table.uses x)) in
        let Q : List JournalRow → Type 0 = λ rows. Seen m up out (declares m) rows used in
        let longer : js ++ covers reasons.Interposed (s.found ++ x ∷ []) ≡ with_found s ++ row x reasons.Interposed ∷ [] =
        ap (λ xs. js ++ xs) (covers_append reasons.Interposed s.found (x ∷ [])) ∙ sym (append_assoc js (covers reasons.Interposed s.found) (row x reasons.Interposed ∷ [])) in
        let grown : fold (admit m) (with_found s) (covers reasons.Interposed (filter (λ i. due) (x ∷ []))) ≡ with_found s ++ row x reasons.Interposed ∷ [] =
        ap (λ xs. fold (admit m) (with_found s) (covers reasons.Interposed xs)) (cond-true due (x ∷ []) [] d) ∙ cond-false _ _ _ (sym (k.named x.0) ∙ n) in
        subst P (sym (cond-true _ _ _ (λ i. not (n i) && d i)))
        (knows_used (known.finds x s) (subst Q (grown ∙ sym longer) seen_used)
        (λ i. ap (λ b. eqb i x.0 || b) (k.named i) ∙ sym (taken_push m (with_found s) (row x reasons.Interposed) i) ∙ ap (λ rows. taken m rows i) (sym longer))
        (λ i a. record { constant = a.constant; global = a.global; tracked = a.tracked; exposed = a.exposed; low = a.low })
        (ap (fold (admit m) js) (covers_append reasons.Interposed s.found (x ∷ []))
        ∙ fold-append (admit m) js (covers reasons.Interposed s.found) (row x reasons.Interposed ∷ [])
        ∙ ap (λ rows. admit m rows (row x reasons.Interposed)) k.admitted
        ∙ cond-false _ _ _ (sym (k.named x.0) ∙ n)
        ∙ sym longer)))
        (cases_Bool (s.named x.0)))
        (λ d.
        knows_unfound
        (cond-false _ _ _ (ap (λ b. not (s.named x.0) && b) d ∙ and_false (not (s.named x.0))))
        (ap (λ xs. fold (admit m) (with_found s) (covers reasons.Interposed xs)) (cond-false due (x ∷ []) [] d)))
        (cases_Bool due)

  pub knows_act : (s : known.Known) (w : table.State) (a : table.Act) → Knows s w → table.Fits m a → Knows (known.act s a) (table.does w a)
  knows_act s w (table.uses x) k h = knows_uses s w x k h
  knows_act s w (table.fixes x) k h = knows_fixes s w x k h
  knows_act s w (table.loads l x) k h = knows_loads s w l x k h.0 h.1
  knows_act s w (table.takes l x) k h = knows_takes s w l x k h.0 h.1
  knows_act s w (table.global l) k h = knows_global s w l k h
  knows_act s w (table.barrier l) k h = knows_barrier s w l k h
  knows_act s w (table.tracks l) k h = knows_tracks s w l k h

  pub knows_all : (acts : List table.Act) → Each (table.Fits m) acts → (s : known.Known) (w : table.State) → Knows s w → Knows (fold known.act s acts) (fold table.does w acts)
  knows_all [] h s w k = k
  knows_all (a ∷ acts) h s w k = knows_all acts h.1 (known.act s a) (table.does w a) (knows_act s w a k h.0)

-- The first pass notes which declarations are tags and which escaped. Assumes nothing.
use Rattle.std.proofs.Common.{◌≡◌, ℕ, zero, suc, ◌+◌, ◌<◌, ◌≤◌, Bool, true, false, not, ◌||◌, eqb, ◌≢◌, List, [], ◌∷◌, Some, None, Option, map, length, set, sym, refl, ap, ◌∙◌, subst, ⊎_elim, arith, length-set, get_or-set_other, get_or-set_same}
use Rattle.std.proofs.lemmas.Bool.{cases_Bool, cases_eq, cond-true, cond-false, eq-eqb, ne_eqb}
use Rattle.hir.specs.declared.ids.IdentifierId.{IdentifierId}
use Rattle.hir.specs.declared.ids.ScopeId.{ScopeId}
use Rattle.hir.specs.declared.scratch.Trail.{Trail}
use Rattle.hir.specs.declared.scratch.Work.{Work}
use Rattle.hir.specs.Environments.{Model, declaration_of, scope_of}
use Rattle.hir.specs.Lists.{Each}
use Rattle.std.specs.List.{fold, list_any}
use Rattle.hir.specs.Scratches.{Notes, Tables, both, no_work, no_trail, work_of}
use Rattle.hir.specs.Sound.{Known}
use Rattle.hir.specs.Spans.{identifiers_in}
use Rattle.promote.specs.Identifier.{with_work}
use Rattle.walk.specs.Events.{Whole, whole}
use Rattle.collect.specs.declared.promotable.CollectPromotable.{CollectPromotable}
use Rattle.collect.specs.Links.{trail_of, reach, along}
use Rattle.collect.specs.Promotable as table
use Rattle.collect.proofs.Keeping as keeping
use Rattle.reasons.specs.Escapes as known
use Rattle.reasons.proofs.Bools.{or_true, or_false}
use Rattle.reasons.proofs.Early.{Static}

-- the scopes along a link, through trail rows below a bound
pub data Chain (trail : List Trail) (used : ℕ) : Option ℕ → List ScopeId → Type 0 where
  ends : Chain trail used None []
  links : {ss : List ScopeId} (j : ℕ) → j < used → reach (trail_of trail j).link ≤ j → Chain trail used (trail_of trail j).link ss → Chain trail used (Some j) ((trail_of trail j).scope ∷ ss)

chain_low : {trail : List Trail} {used : ℕ} {l : Option ℕ} {ss : List ScopeId} → Chain trail used l ss → reach l ≤ used
chain_low ends = omega arith
chain_low (links j h d c) = omega arith

numbers : List ScopeId → List ℕ
numbers ss = map (λ s. s.0) ss

chain_along : {trail : List Trail} {used : ℕ} {l : Option ℕ} {ss : List ScopeId} → Chain trail used l ss → (fuel : ℕ) → reach l ≤ fuel → along fuel trail l ≡ numbers ss
unfolding numbers
chain_along ends zero h = refl
chain_along ends (suc fuel) h = refl
chain_along (links j a d c) zero h = absurd (omega arith)
chain_along {trail} (links j a d c) (suc fuel) h = ap (λ xs. (trail_of trail j).scope.0 ∷ xs) (chain_along c fuel (omega arith))

among_is : (n : ℕ) (ss : List ScopeId) → list_any (λ x. eqb x n) (numbers ss) ≡ list_any (λ (x : ScopeId). eqb x.0 n) ss
unfolding numbers
among_is n [] = refl
among_is n (s ∷ ss) = ap (λ b. eqb s.0 n || b) (among_is n ss)

-- rows at or beyond the bound may be written
chain_set : {trail : List Trail} {used : ℕ} {l : Option ℕ} {ss : List ScopeId} (r : Trail) → Chain trail used l ss → Chain (set trail used r) (used + 1) l ss
chain_set r ends = ends
chain_set {trail} {used} r (links {ss = ss} j a d c) =
    let ne : j ≢ used = omega arith in
    let e : trail_of (set trail used r) j ≡ trail_of trail j = get_or-set_other trail used j r no_trail ne in
    let P : Trail → Type 0 = λ x. reach x.link ≤ j in
    let Q : Trail → Type 0 = λ x. Chain (set trail used r) (used + 1) x.link ss in
    let R : Trail → Type 0 = λ x. Chain (set trail used r) (used + 1) (Some j) (x.scope ∷ ss) in
    subst R e (links j (omega arith) (subst P (sym e) d) (subst Q (sym e) (chain_set r c)))

-- one declaration, as known and as its work row has it
pub data Agrees (trail : List Trail) (used : ℕ) : known.Seen → Work → Type 0 where
  unseen : (w : Work) → w.recorded ≡ None → w.escaped ≡ false → Agrees trail used known.never w
  seen_at : (w : Work) (l : Option ℕ) (at : List ScopeId) (b : Bool) → w.recorded ≡ Some l → Chain trail used l at → w.escaped ≡ b → Agrees trail used (known.since at b) w

agrees_set : {trail : List Trail} {used : ℕ} {s : known.Seen} {w : Work} (r : Trail) → Agrees trail used s w → Agrees (set trail used r) (used + 1) s w
agrees_set r (unseen w a b) = unseen w a b
agrees_set r (seen_at w l at b e c f) = seen_at w l at b e (chain_set r c) f

pub agrees_escaped : {trail : List Trail} {used : ℕ} {s : known.Seen} {w : Work} → Agrees trail used s w → w.escaped ≡ known.has_escaped s
agrees_escaped (unseen w a b) = b
agrees_escaped (seen_at w l at b e c f) = f

as_tagged : {trail : List Trail} {used : ℕ} {s : known.Seen} {w : Work} → Agrees trail used s w → Agrees trail used s (table.as_tag w)
as_tagged (unseen w a b) = unseen (table.as_tag w) a b
as_tagged (seen_at w l at b e c f) = seen_at (table.as_tag w) l at b e c f

-- what the first pass leaves alone
pub record Plain (w : Work) : Type 0 where
  pub promoted : w.promoted ≡ false
  pub constant : w.constant ≡ false
  pub global : w.global ≡ false
  pub tracked : w.tracked ≡ None

module _ (m : Model) (static : Static m) where
  -- the notes agree with what is known of escapes and tags
  pub record Marks (s : known.Known) (up : ℕ → Bool) (w : Whole CollectPromotable) : Type 0 where
    pub env : w.tables.env ≡ m
    pub active : Chain w.tables.notes.trail w.visitor.used w.visitor.innermost s.active
    pub rows : (d : ℕ) → d < length m.identifiers → Agrees w.tables.notes.trail w.visitor.used (s.seen d) (work_of w.tables.notes d)
    pub tags : (d : ℕ) → d < length m.identifiers → (work_of w.tables.notes d).tag ≡ up d
    pub plain : (d : ℕ) → d < length m.identifiers → Plain (work_of w.tables.notes d)
    pub room : length m.identifiers ≤ length w.tables.notes.work

  -- the work row of one declaration is changed
  module _ (s s' : known.Known) (up up' : ℕ → Bool) (w : Whole CollectPromotable) (i : IdentifierId) (x : Work) (k : Marks s up w) (h : Known m i) (same : s'.active ≡ s.active) (here : Agrees w.tables.notes.trail w.visitor.used (s'.seen (declaration_of m i.0)) x) (tag : x.tag ≡ up' (declaration_of m i.0)) (plain_x : Plain x) (there : (d : ℕ) → (d ≡ declaration_of m i.0 → ⊥) → s'.seen d ≡ s.seen d) (tag_there : (d : ℕ) → (d ≡ declaration_of m i.0 → ⊥) → up' d ≡ up d) where
    decl : declaration_of w.tables.env i.0 ≡ declaration_of m i.0
    decl = ap (λ (y : Model). declaration_of y i.0) k.env

    on : Whole CollectPromotable
    on = whole w.visitor (both w.tables.env (with_work w.tables.notes (declaration_of w.tables.env i.0) x))

    in_range : declaration_of w.tables.env i.0 < length w.tables.notes.work
    in_range = omega (arith, k.room, static.declared i.0 h, decl)

    row_here : (d : ℕ) → d ≡ declaration_of m i.0 → work_of on.tables.notes d ≡ x
    unfolding on
    row_here d e = ap (work_of on.tables.notes) (e ∙ sym decl) ∙ get_or-set_same w.tables.notes.work (declaration_of w.tables.env i.0) x no_work in_range

    row_there : (d : ℕ) → (d ≡ declaration_of m i.0 → ⊥) → work_of on.tables.notes d ≡ work_of w.tables.notes d
    unfolding on
    row_there d ne = get_or-set_other w.tables.notes.work (declaration_of w.tables.env i.0) d x no_work (λ e. ne (e ∙ decl))

    pub marks_row : Marks s' up' (whole w.visitor (both w.tables.env (with_work w.tables.notes (declaration_of w.tables.env i.0) x)))
    unfolding on
    marks_row = record {
      env = k.env;
      active = subst (Chain w.tables.notes.trail w.visitor.used w.visitor.innermost) (sym same) k.active;
      rows = λ d b.
          ⊎_elim
          (λ e.
          let P : ℕ → Type 0 = λ n. Agrees w.tables.notes.trail w.visitor.used (s'.seen n) x in
          subst (Agrees w.tables.notes.trail w.visitor.used (s'.seen d)) (sym (row_here d e)) (subst P (sym e) here))
          (λ ne.
          let P : known.Seen → Type 0 = λ y. Agrees w.tables.notes.trail w.visitor.used y (work_of w.tables.notes d) in
          subst (Agrees w.tables.notes.trail w.visitor.used (s'.seen d)) (sym (row_there d ne)) (subst P (sym (there d ne)) (k.rows d b)))
          (cases_eq d (declaration_of m i.0));
      tags = λ d b.
          ⊎_elim
          (λ e. ap (λ (y : Work). y.tag) (row_here d e) ∙ tag ∙ ap up' (sym e))
          (λ ne. ap (λ (y : Work). y.tag) (row_there d ne) ∙ k.tags d b ∙ sym (tag_there d ne))
          (cases_eq d (declaration_of m i.0));
      plain = λ d b.
          ⊎_elim
          (λ e. subst Plain (sym (row_here d e)) plain_x)
          (λ ne. subst Plain (sym (row_there d ne)) (k.plain d b))
          (cases_eq d (declaration_of m i.0));
      room = simp length-set k.room;
    }

  at_here : (x : ℕ) (f : known.Seen → known.Seen) (g : ℕ → known.Seen) → known.at_declaration x f g x ≡ f (g x)
  at_here x f g = cond-true _ _ _ (eq-eqb x x refl)

  at_there : (x : ℕ) (f : known.Seen → known.Seen) (g : ℕ → known.Seen) (d : ℕ) → (d ≡ x → ⊥) → known.at_declaration x f g d ≡ g d
  at_there x f g d ne = cond-false _ _ _ (ne_eqb d x ne)

  work_is : (s : known.Known) (up : ℕ → Bool) (w : Whole CollectPromotable) → Marks s up w → (i : IdentifierId) → table.work_by w.tables i ≡ work_of w.tables.notes (declaration_of m i.0)
  work_is s up w k i = ap (λ (y : Model). work_of w.tables.notes (declaration_of y i.0)) k.env

  same_plain : (x y : Work) → x.promoted ≡ y.promoted → x.constant ≡ y.constant → x.global ≡ y.global → x.tracked ≡ y.tracked → Plain y → Plain x
  same_plain x y a b c d p = record { promoted = a ∙ p.promoted; constant = b ∙ p.constant; global = c ∙ p.global; tracked = d ∙ p.tracked }

  low : (i : IdentifierId) → Known m i → declaration_of m i.0 < length m.identifiers
  low i h = static.declared i.0 h

  -- a declaration is recorded
  marks_recorded : (s : known.Known) (up : ℕ → Bool) (w : Whole CollectPromotable) (i : IdentifierId) → Marks s up w → Known m i → Marks (known.recorded m s i) up (whole w.visitor (table.recorded_at w.visitor.innermost w.tables i))
  marks_recorded s up w i k h =
      let d = declaration_of m i.0 in
      let x = table.as_recorded w.visitor.innermost (table.work_by w.tables i) in
      let P : known.Seen → Type 0 = λ y. Agrees w.tables.notes.trail w.visitor.used y x in
      marks_row s (known.recorded m s i) up up w i x k h refl
      (subst P (sym (at_here d (λ y. known.since s.active false) s.seen)) (seen_at x w.visitor.innermost s.active false refl k.active refl))
      (ap (λ (y : Work). y.tag) (work_is s up w k i) ∙ k.tags d (low i h))
      (same_plain x (work_of w.tables.notes d) (ap (λ (y : Work). y.promoted) (work_is s up w k i)) (ap (λ (y : Work). y.constant) (work_is s up w k i)) (ap (λ (y : Work). y.global) (work_is s up w k i)) (ap (λ (y : Work). y.tracked) (work_is s up w k i)) (k.plain d (low i h)))
      (λ e ne. at_there d (λ y. known.since s.active false) s.seen e ne) (λ e ne. refl)

  marks_records : (is : List IdentifierId) → Each (Known m) is → (s : known.Known) (up : ℕ → Bool) (v : CollectPromotable) (t : Tables) → Marks s up (whole v t) → Marks (fold (known.recorded m) s is) up (whole v (fold (table.recorded_at v.innermost) t is))
  marks_records [] h s up v t k = k
  marks_records (i ∷ is) h s up v t k = marks_records is h.1 (known.recorded m s i) up v (table.recorded_at v.innermost t i) (marks_recorded s up (whole v t) i k h.0)

  marks_same : (s s' : known.Known) (up : ℕ → Bool) (w : Whole CollectPromotable) → Marks s up w → s'.active ≡ s.active → ((d : ℕ) → s'.seen d ≡ s.seen d) → Marks s' up w
  marks_same s s' up w k a b = record {
    env = k.env;
    active = subst (Chain w.tables.notes.trail w.visitor.used w.visitor.innermost) (sym a) k.active;
    rows = λ d l. let P : known.Seen → Type 0 = λ y. Agrees w.tables.notes.trail w.visitor.used y (work_of w.tables.notes d) in subst P (sym (b d)) (k.rows d l);
    tags = k.tags;
    plain = k.plain;
    room = k.room;
  }

  -- whether a use lets what is known escape
  leaves : List ScopeId → known.Seen → Bool
  leaves active known.never = false
  leaves active (known.since at b) = known.outside active at

  outside_is : {trail : List Trail} {used : ℕ} {l r : Option ℕ} {active at : List ScopeId} → Chain trail used l active → Chain trail used r at → table.is_outside trail (Some r) l ≡ known.outside active at
  outside_is ends c = refl
  outside_is {trail} {r = r} {at = at} (links j a d b) c =
      ap (λ xs. not (list_any (λ x. eqb x (trail_of trail j).scope.0) xs)) (chain_along c (reach r) (omega arith))
      ∙ ap not (among_is (trail_of trail j).scope.0 at)

  escapes_is : (n : Notes) (used : ℕ) (innermost : Option ℕ) (active : List ScopeId) (seen : known.Seen) (x : Work) → Chain n.trail used innermost active → Agrees n.trail used seen x → table.escapes_at innermost n x ≡ leaves active seen
  unfolding leaves
  escapes_is n used innermost active known.never x c (unseen w a b) = ap (λ o. table.is_outside n.trail o innermost) a
  escapes_is n used innermost active (known.since at b) x c (seen_at w l _ _ e d f) = ap (λ o. table.is_outside n.trail o innermost) e ∙ outside_is c d

  used_none : (active : List ScopeId) (seen : known.Seen) → leaves active seen ≡ false → known.used active seen ≡ seen
  unfolding leaves
  used_none active known.never e = refl
  used_none active (known.since at b) e = ap (λ o. known.since at (b || o)) e ∙ ap (known.since at) (or_false b)

  used_some : (trail : List Trail) (used : ℕ) (active : List ScopeId) (seen : known.Seen) (x : Work) → leaves active seen ≡ true → Agrees trail used seen x → Agrees trail used (known.used active seen) (table.as_escaped x)
  unfolding leaves
  used_some trail used active known.never x e a = absurd (let z : ◌≡◌ {A = ℕ} 0 1 = cc in omega arith)
  used_some trail used active (known.since at b) x e (seen_at w l _ _ f c g) =
      seen_at (table.as_escaped x) l at (b || known.outside active at) f c (sym (ap (λ o. b || o) e ∙ or_true b))

  -- an identifier is used
  marks_sees : (s : known.Known) (up : ℕ → Bool) (w : Whole CollectPromotable) (i : IdentifierId) → Marks s up w → Known m i → Marks (known.act m s (table.sees i)) up (table.does w (table.sees i))
  marks_sees s up w i k h =
      let d = declaration_of m i.0 in
      let x = table.work_by w.tables i in
      let agrees : Agrees w.tables.notes.trail w.visitor.used (s.seen d) x = subst (Agrees w.tables.notes.trail w.visitor.used (s.seen d)) (sym (work_is s up w k i)) (k.rows d (low i h)) in
      let test = escapes_is w.tables.notes w.visitor.used w.visitor.innermost s.active (s.seen d) x k.active agrees in
      let P : Tables → Type 0 = λ t. Marks (known.act m s (table.sees i)) up (whole w.visitor t) in
      ⊎_elim
      (λ e.
      let Q : known.Seen → Type 0 = λ y. Agrees w.tables.notes.trail w.visitor.used y (table.as_escaped x) in
      subst P (sym (cond-true _ _ _ (test ∙ e)))
      (marks_row s (known.act m s (table.sees i)) up up w i (table.as_escaped x) k h refl
      (subst Q (sym (at_here d (known.used s.active) s.seen)) (used_some w.tables.notes.trail w.visitor.used s.active (s.seen d) x e agrees))
      (ap (λ (y : Work). y.tag) (work_is s up w k i) ∙ k.tags d (low i h))
      (same_plain (table.as_escaped x) (work_of w.tables.notes d) (ap (λ (y : Work). y.promoted) (work_is s up w k i)) (ap (λ (y : Work). y.constant) (work_is s up w k i)) (ap (λ (y : Work). y.global) (work_is s up w k i)) (ap (λ (y : Work). y.tracked) (work_is s up w k i)) (k.plain d (low i h)))
      (λ n ne. at_there d (known.used s.active) s.seen n ne) (λ n ne. refl)))
      (λ e.
      subst P (sym (cond-false _ _ _ (test ∙ e)))
      (marks_same s (known.act m s (table.sees i)) up w k refl
      (λ n.
      ⊎_elim
      (λ q. ap (known.at_declaration d (known.used s.active) s.seen) q ∙ at_here d (known.used s.active) s.seen ∙ used_none s.active (s.seen d) e ∙ ap s.seen (sym q))
      (λ ne. at_there d (known.used s.active) s.seen n ne)
      (cases_eq n d))))
      (cases_Bool (leaves s.active (s.seen d)))

  -- a declaration is that of a tag
  unfoldable pub tagging : (ℕ → Bool) → IdentifierId → ℕ → Bool
  tagging up i d = up d || eqb (declaration_of m i.0) d

  marks_flags : (s : known.Known) (up : ℕ → Bool) (w : Whole CollectPromotable) (i : IdentifierId) → Marks s up w → Known m i → Marks s (tagging up i) (table.does w (table.flags i))
  unfolding tagging
  marks_flags s up w i k h =
      let d = declaration_of m i.0 in
      let x = table.work_by w.tables i in
      let agrees : Agrees w.tables.notes.trail w.visitor.used (s.seen d) x = subst (Agrees w.tables.notes.trail w.visitor.used (s.seen d)) (sym (work_is s up w k i)) (k.rows d (low i h)) in
      marks_row s s up (tagging up i) w i (table.as_tag x) k h refl
      (as_tagged agrees)
      (sym (ap (λ b. up d || b) (eq-eqb d d refl) ∙ or_true (up d)))
      (same_plain (table.as_tag x) (work_of w.tables.notes d) (ap (λ (y : Work). y.promoted) (work_is s up w k i)) (ap (λ (y : Work). y.constant) (work_is s up w k i)) (ap (λ (y : Work). y.global) (work_is s up w k i)) (ap (λ (y : Work). y.tracked) (work_is s up w k i)) (k.plain d (low i h)))
      (λ n ne. refl)
      (λ n ne. ap (λ b. up n || b) (ne_eqb d n (λ e. ne (sym e))) ∙ or_false (up n))

  -- a scope becomes active
  marks_opens : (s : known.Known) (up : ℕ → Bool) (w : Whole CollectPromotable) (x : ScopeId) → Marks s up w → w.visitor.used < length w.tables.notes.trail → Marks (known.act m s (table.opens x)) up (table.does w (table.opens x))
  marks_opens s up w x k room =
      let n = w.visitor.used in
      let trail = w.tables.notes.trail in
      let r = table.trail_row x w.visitor.innermost in
      let e : trail_of (set trail n r) n ≡ r = get_or-set_same trail n r no_trail room in
      let P : Trail → Type 0 = λ y. reach y.link ≤ n in
      let Q : Trail → Type 0 = λ y. Chain (set trail n r) (n + 1) y.link s.active in
      let R : Trail → Type 0 = λ y. Chain (set trail n r) (n + 1) (Some n) (y.scope ∷ s.active) in
      record {
        env = k.env;
        active = subst R e (links n (omega arith) (subst P (sym e) (chain_low k.active)) (subst Q (sym e) (chain_set r k.active)));
        rows = λ d b. agrees_set r (k.rows d b);
        tags = k.tags;
        plain = k.plain;
        room = k.room;
      }

  shut_chain : {used : ℕ} {l : Option ℕ} {ss : List ScopeId} (n : Notes) → Chain n.trail used l ss → Chain n.trail used (table.around n l) (known.rest ss)
  shut_chain n ends = ends
  shut_chain n (links j a d c) = c

  marks_shuts : (s : known.Known) (up : ℕ → Bool) (w : Whole CollectPromotable) → Marks s up w → Marks (known.act m s table.shuts) up (table.does w table.shuts)
  marks_shuts s up w k = record { env = k.env; active = shut_chain w.tables.notes k.active; rows = k.rows; tags = k.tags; plain = k.plain; room = k.room }

  marks_prunes : (s : known.Known) (up : ℕ → Bool) (w : Whole CollectPromotable) (x : ScopeId) → Marks s up w → x.0 < length m.scopes → Marks (known.act m s (table.prunes x)) up (table.does w (table.prunes x))
  marks_prunes s up w x k h =
      let P : List IdentifierId → Type 0 = λ is. Marks (known.act m s (table.prunes x)) up (whole w.visitor (fold (table.recorded_at w.visitor.innermost) w.tables is)) in
      subst P (sym (ap (λ (y : Model). table.declared_in y x) k.env))
      (marks_records (identifiers_in m.pool (scope_of m x.0).declarations) (static.scopes x.0 h).declarations s up w.visitor w.tables k)

  -- the tags after an act
  unfoldable pub tags_after : (ℕ → Bool) → table.Act → ℕ → Bool
  tags_after up (table.opens x) = up
  tags_after up table.shuts = up
  tags_after up (table.prunes x) = up
  tags_after up (table.sees i) = up
  tags_after up (table.flags i) = tagging up i

  marks_act : (s : known.Known) (up : ℕ → Bool) (w : Whole CollectPromotable) (a : table.Act) → Marks s up w → table.Ready w (a ∷ []) → Marks (known.act m s a) (tags_after up a) (table.does w a)
  unfolding tags_after
  marks_act s up w (table.opens x) k r = marks_opens s up w x k (omega (arith, r.room))
  marks_act s up w table.shuts k r = marks_shuts s up w k
  marks_act s up w (table.prunes x) k r = marks_prunes s up w x k (let h = r.fits.0 in omega (arith, h, ap (λ (y : Model). length y.scopes) k.env))
  marks_act s up w (table.sees i) k r = marks_sees s up w i k (let h = r.fits.0 in omega (arith, h, ap (λ (y : Model). length y.identifiers) k.env))
  marks_act s up w (table.flags i) k r = marks_flags s up w i k (let h = r.fits.0 in omega (arith, h, ap (λ (y : Model). length y.identifiers) k.env))

  pub marks_all : (acts : List table.Act) (s : known.Known) (up : ℕ → Bool) (w : Whole CollectPromotable) → Marks s up w → table.Ready w acts → Marks (fold (known.act m) s acts) (fold tags_after up acts) (fold table.does w acts)
  marks_all [] s up w k r = k
  marks_all (a ∷ acts) s up w k r =
      marks_all acts (known.act m s a) (tags_after up a) (table.does w a)
      (marks_act s up w a k ((keeping.splits).front w (a ∷ []) acts r))
      ((keeping.splits).back w a acts r)

-- What the third pass keeps. Assumes nothing.
use Rattle.std.proofs.Common.{◌≡◌, ℕ, ◌+◌, ◌≤◌, Bool, cond, eqb, leb, List, [], ◌∷◌, ◌++◌, map, length, Some, None, Option, sym, refl, ap, ◌∙◌, ⊎_elim, arith, length-set}
use Rattle.std.proofs.lemmas.Bool.{and_parts, cases_Bool, cond_both, cond-true, cond-false}
use Rattle.hir.specs.declared.ids.IdentifierId.{IdentifierId}
use Rattle.hir.specs.declared.scratch.Work.{Work}
use Rattle.hir.specs.declared.tables.Reason.TheVariants as reasons
use Rattle.hir.specs.Environments.{Model}
use Rattle.hir.specs.Lists.{Each}
use Rattle.std.specs.List.{fold}
use Rattle.hir.specs.Scratches.{Tables}
use Rattle.hir.specs.Sound.{Sound, Known}
use Rattle.reactive.specs.Codes.{listed, used_in, uses_identifier}
use Rattle.reactive.specs.Rows.{Row, head}
use Rattle.reactive.specs.Sound.{RowSound}
use Rattle.walk.specs.Events.{Event, entering, leaving, closing, staying, innermost_of, events, acts_of}
use Rattle.walk.proofs.Acting.{Splits, ready_onward, over_onward}
use Rattle.promote.specs.Growth.{Grows, none}
use Rattle.promote.proofs.Growing.{Kept, kept, grows_none, grows_trans, grows_if, sound_grows}
use Rattle.walk.proofs.Fitting.{Within, each_acts, each_append, each_cond, each_front, each_map, each_listed}
use Rattle.interposed.specs.declared.interposed.Parent.{Parent}
use Rattle.interposed.specs.declared.interposed.Parent.TheVariants.{Other, WithoutLvalue, WithLvalue}
use Rattle.interposed.specs.Interposed.{fix_acts, marks_acts, value_acts, end_acts, leaf_acts, instruction, keeps, under_acts, acts, begun, pass_acts}
use Rattle.interposed.specs.Kinds.{is_load, is_property_load, is_global_load, is_barrier, fixes_marks, may_raise}
use Rattle.interposed.specs.Acts.{State, Act, uses, fixes, loads, takes, global, barrier, tracks, epoch, noting, nameless, found, raised, does, KnownIf, Fits, barriers, Ready}

grows_noting : (w : State) (i : IdentifierId) (x : Work) → Grows w.tables (noting w i x).tables
grows_noting w i x = record { rows = []; named = none; work = length-set _ _ _; marks = refl; trail = refl }

-- a state that one act can lead to: its tables grew, and its epoch is the same or the next
record Step (w v : State) (most : ℕ) : Type 0 where
  grows : Grows w.tables v.tables
  low : epoch v ≤ epoch w + most

step_noting : (w : State) (i : IdentifierId) (x : Work) → Step w (noting w i x) 0
step_noting w i x = record { grows = grows_noting w i x; low = omega arith }

step_none : (w : State) (k : ℕ) → Step w w k
step_none w k = record { grows = grows_none w.tables; low = omega arith }

step_raised : (w : State) → Step w (raised w) 1
step_raised w = record { grows = grows_none w.tables; low = omega arith }

-- how many barriers an act raises at most
most : Act → ℕ
most a = barriers (a ∷ [])

step_does : (w : State) (a : Act) → Ready w (a ∷ []) → Step w (does w a) (most a)
unfolding most
step_does w (uses i) r = record { grows = grows_if (found w i) reasons.Interposed w.tables i (λ e. (and_parts (nameless w i) _ e).0) r.sound r.fits.0; low = omega arith }
step_does w (fixes i) r = step_noting w i _
step_does w (loads l i) r = cond_both (nameless w l) _ w (λ v. Step w v 0) (λ e. step_noting w l _) (λ e. step_none w 0)
step_does w (takes l i) r = step_noting w l _
step_does w (global l) r = step_noting w l _
step_does w (barrier None) r = step_raised w
step_does w (barrier (Some l)) r = cond_both (nameless w l) w (raised w) (λ v. Step w v 1) (λ e. step_none w 1) (λ e. step_raised w)
step_does w (tracks l) r = cond_both (nameless w l) _ w (λ v. Step w v 0) (λ e. step_noting w l _) (λ e. step_none w 0)

pub barriers_append : (xs ys : List Act) → barriers (xs ++ ys) ≡ barriers xs + barriers ys
barriers_append [] ys = omega arith
barriers_append (uses i ∷ xs) ys = barriers_append xs ys
barriers_append (fixes i ∷ xs) ys = barriers_append xs ys
barriers_append (loads l i ∷ xs) ys = barriers_append xs ys
barriers_append (takes l i ∷ xs) ys = barriers_append xs ys
barriers_append (global l ∷ xs) ys = barriers_append xs ys
barriers_append (barrier l ∷ xs) ys = let h = barriers_append xs ys in omega arith
barriers_append (tracks l ∷ xs) ys = barriers_append xs ys

if_kept : (m t : Model) → Kept m t → (l : Option IdentifierId) → KnownIf m l → KnownIf t l
if_kept m t k None h = tt
if_kept m t k (Some i) h = omega (arith, k.size)

fits_kept : (m t : Model) → Kept m t → (a : Act) → Fits m a → Fits t a
fits_kept m t k (uses i) h = omega (arith, k.size)
fits_kept m t k (fixes i) h = omega (arith, k.size)
fits_kept m t k (loads l i) h = (omega (arith, k.size, h.0), omega (arith, k.size, h.1))
fits_kept m t k (takes l i) h = (omega (arith, k.size, h.0), omega (arith, k.size, h.1))
fits_kept m t k (global l) h = omega (arith, k.size)
fits_kept m t k (barrier l) h = if_kept m t k l h
fits_kept m t k (tracks l) h = omega (arith, k.size)

each_kept : (m t : Model) → Kept m t → (todo : List Act) → Each (Fits m) todo → Each (Fits t) todo
each_kept m t k [] h = tt
each_kept m t k (a ∷ todo) h = (fits_kept m t k a h.0, each_kept m t k todo h.1)

ready_front : (w : State) (xs ys : List Act) → Ready w (xs ++ ys) → Ready w xs
ready_front w xs ys r = record { sound = r.sound; fits = each_front (Fits w.tables.env) xs ys r.fits; low = omega (arith, r.low, barriers_append xs ys) }

ready_back : (w : State) (a : Act) (more : List Act) → Ready w (a ∷ more) → Ready (does w a) more
unfolding most
ready_back w a more r =
    let s = step_does w a (ready_front w (a ∷ []) more r) in
    record {
      sound = sound_grows r.sound s.grows;
      fits = each_kept w.tables.env (does w a).tables.env (kept s.grows.named) more r.fits.1;
      low = omega (arith, r.low, s.low, barriers_append (a ∷ []) more);
    }

pub splits : Splits does Ready
splits = record { front = ready_front; back = ready_back }

pub grows_over : (w : State) (todo : List Act) → Ready w todo → Grows w.tables (fold does w todo).tables
unfolding most
grows_over w [] r = grows_none w.tables
grows_over w (a ∷ todo) r = grows_trans (step_does w a (ready_front w (a ∷ []) todo r)).grows (grows_over (does w a) todo (ready_back w a todo r))

pub map_map : {A B C : Type 0} (f : B → C) (g : A → B) (xs : List A) → map f (map g xs) ≡ map (λ x. f (g x)) xs
map_map f g [] = refl
map_map f g (x ∷ xs) = ap (λ ys. f (g x) ∷ ys) (map_map f g xs)

-- a Leaf in its four parts
module _ (l : Option IdentifierId) (k mode : ℕ) (ms os : List IdentifierId) (w : State) (ready : Ready w (leaf_acts l k mode ms os)) where
  pub ready_begin : Ready w (fix_acts k mode ms)
  ready_begin = ready_front w (fix_acts k mode ms) _ ready

  module _ (a : State) (ea : a ≡ fold does w (fix_acts k mode ms)) where
    after_begin : Ready a (value_acts k l ms ++ (map uses os ++ end_acts k mode l))
    after_begin = ready_onward does Ready splits w a (fix_acts k mode ms) _ ready ea

    pub ready_value : Ready a (value_acts k l ms)
    ready_value = ready_front a (value_acts k l ms) _ after_begin

    module _ (b : State) (eb : b ≡ fold does a (value_acts k l ms)) where
      after_value : Ready b (map uses os ++ end_acts k mode l)
      after_value = ready_onward does Ready splits a b (value_acts k l ms) _ after_begin eb

      pub ready_uses : Ready b (map uses os)
      ready_uses = ready_front b (map uses os) _ after_value

      module _ (c : State) (ec : c ≡ fold does b (map uses os)) where
        pub ready_end : Ready c (end_acts k mode l)
        ready_end = ready_onward does Ready splits b c (map uses os) _ after_value ec

        pub leaf_done : (d : State) → d ≡ fold does c (end_acts k mode l) → d ≡ fold does w (leaf_acts l k mode ms os)
        leaf_done d ed =
            over_onward does Ready splits w a d (fix_acts k mode ms) _ ea
            (over_onward does Ready splits a b d (value_acts k l ms) _ eb
            (over_onward does Ready splits b c d (map uses os) (end_acts k mode l) ec ed))

-- the acts of sound rows speak of what has a row
module _ (m : Model) where
  fits_marks : (k : ℕ) (l : IdentifierId) (ms : List IdentifierId) → Known m l → Each (Known m) ms → Each (Fits m) (marks_acts k l ms)
  fits_marks k l [] hl h = tt
  fits_marks k l (x ∷ ms) hl h =
      each_cond (Fits m) (is_load k) (loads l x ∷ []) _ ((hl, h.0), tt) (each_cond (Fits m) (is_property_load k) (takes l x ∷ []) [] ((hl, h.0), tt) tt)

  fits_value : (k : ℕ) (l : Option IdentifierId) (ms : List IdentifierId) → KnownIf m l → Each (Known m) ms → Each (Fits m) (value_acts k l ms)
  fits_value k None ms hl h = tt
  fits_value k (Some l) ms hl h = each_cond (Fits m) (is_global_load k) (global l ∷ []) _ (hl, tt) (fits_marks k l ms hl h)

  fits_tracks : (l : Option IdentifierId) → KnownIf m l → Each (Fits m) (map tracks (listed l))
  fits_tracks None h = tt
  fits_tracks (Some l) h = (h, tt)

  fits_uses : (is : List IdentifierId) → Each (Known m) is → Each (Fits m) (map uses is)
  fits_uses is h = each_map (Fits m) uses (Known m) (λ x k. k) is h

  fits_leaf : (l : Option IdentifierId) (k mode : ℕ) (ms os : List IdentifierId) → KnownIf m l → Each (Known m) ms → Each (Known m) os → Each (Fits m) (leaf_acts l k mode ms os)
  fits_leaf l k mode ms os hl hm ho =
      each_append (Fits m) (fix_acts k mode ms) _ (each_cond (Fits m) (fixes_marks k mode) (map fixes ms) [] (each_map (Fits m) fixes (Known m) (λ x h. h) ms hm) tt)
      (each_append (Fits m) (value_acts k l ms) _ (fits_value k l ms hl hm)
      (each_append (Fits m) (map uses os) _ (fits_uses os ho)
      (each_append (Fits m) (cond (may_raise k mode) (barrier l ∷ []) []) _ (each_cond (Fits m) (may_raise k mode) (barrier l ∷ []) [] (hl, tt) tt)
      (each_cond (Fits m) (is_barrier k) (map tracks (listed l)) [] (fits_tracks l hl) tt))))

  -- the lvalue of an Instruction has a row
  Lvalue : Parent → Type 0
  Lvalue Other = Unit {0}
  Lvalue WithoutLvalue = Unit {0}
  Lvalue (WithLvalue l) = Known m l

  fits_under : (p : Option Parent) (r : Row) → Within Lvalue p → RowSound m r → Each (Fits m) (under_acts p r.kind r.mode r.marks r.operands)
  unfolding Lvalue
  fits_under None r w h = fits_uses r.operands h.operands
  fits_under (Some Other) r w h = fits_uses r.operands h.operands
  fits_under (Some WithoutLvalue) r w h = fits_leaf None r.kind r.mode r.marks r.operands tt h.marks h.operands
  fits_under (Some (WithLvalue l)) r w h = fits_leaf (Some l) r.kind r.mode r.marks r.operands (w (WithLvalue l) refl) h.marks h.operands

  instruction_known : (o : Option IdentifierId) → ((i : IdentifierId) → o ≡ Some i → Known m i) → Lvalue (instruction o)
  unfolding Lvalue
  instruction_known None h = tt
  instruction_known (Some i) h = h i refl

  lvalue_known : (r : Row) → RowSound m r → Lvalue (keeps (head r))
  unfolding Lvalue
  lvalue_known r h = cond_both (eqb r.code 2) (instruction r.identifier) Other Lvalue (λ e. instruction_known r.identifier h.identifier) (λ e. tt)

  used_is : (c : ℕ) (o : Option IdentifierId) (i : IdentifierId) → used_in c o ≡ Some i → o ≡ Some i
  used_is c o i e =
      ⊎_elim
      (λ b. sym (cond-true (uses_identifier c) o None b) ∙ e)
      (λ b. absurd (let f : None ≡ Some i = sym (cond-false (uses_identifier c) o None b) ∙ e in let z : ◌≡◌ {A = ℕ} 0 1 = cc in omega arith))
      (cases_Bool (uses_identifier c))

  fits_row : (p : Option Parent) (r : Row) → Within Lvalue p → RowSound m r → Each (Fits m) (acts (entering p r))
  fits_row p r w h =
      each_cond (Fits m) (eqb r.code 5) _ _
      (fits_under p r w h)
      (fits_uses (listed (used_in r.code r.identifier)) (each_listed (Known m) (used_in r.code r.identifier) (λ i e. h.identifier i (used_is r.code r.identifier i e))))

  fits_rows : (ps : List IdentifierId) (rs : List Row) → Each (Known m) ps → Each (RowSound m) rs → Each (Fits m) (pass_acts ps rs)
  fits_rows ps rs hp h =
      each_append (Fits m) (map fixes ps) _ (each_map (Fits m) fixes (Known m) (λ x k. k) ps hp)
      (each_acts keeps (RowSound m) Lvalue lvalue_known acts (Fits m) fits_row (λ q k. tt) [] rs tt h)

-- a row raises at most one barrier
none_fixes : (is : List IdentifierId) → barriers (map fixes is) ≡ 0
none_fixes [] = refl
none_fixes (i ∷ is) = none_fixes is

none_uses : (is : List IdentifierId) → barriers (map uses is) ≡ 0
none_uses [] = refl
none_uses (i ∷ is) = none_uses is

none_tracks : (is : List IdentifierId) → barriers (map tracks is) ≡ 0
none_tracks [] = refl
none_tracks (i ∷ is) = none_tracks is

few_cond : (k : ℕ) (b : Bool) (xs ys : List Act) → barriers xs ≤ k → barriers ys ≤ k → barriers (cond b xs ys) ≤ k
few_cond k b xs ys h g = cond_both b xs ys (λ zs. barriers zs ≤ k) (λ e. h) (λ e. g)

few_marks : (k : ℕ) (l : IdentifierId) (ms : List IdentifierId) → barriers (marks_acts k l ms) ≤ 0
few_marks k l [] = omega arith
few_marks k l (x ∷ ms) = few_cond 0 (is_load k) (loads l x ∷ []) _ (omega arith) (few_cond 0 (is_property_load k) (takes l x ∷ []) [] (omega arith) (omega arith))

few_value : (k : ℕ) (l : Option IdentifierId) (ms : List IdentifierId) → barriers (value_acts k l ms) ≤ 0
few_value k None ms = omega arith
few_value k (Some l) ms = few_cond 0 (is_global_load k) (global l ∷ []) _ (omega arith) (few_marks k l ms)

few_leaf : (l : Option IdentifierId) (k mode : ℕ) (ms os : List IdentifierId) → barriers (leaf_acts l k mode ms os) ≤ 1
few_leaf l k mode ms os =
    let a = barriers_append (fix_acts k mode ms) (value_acts k l ms ++ (map uses os ++ end_acts k mode l)) in
    let b = barriers_append (value_acts k l ms) (map uses os ++ end_acts k mode l) in
    let c = barriers_append (map uses os) (end_acts k mode l) in
    let d = barriers_append (cond (may_raise k mode) (barrier l ∷ []) []) (cond (is_barrier k) (map tracks (listed l)) []) in
    let e = few_cond 0 (fixes_marks k mode) (map fixes ms) [] (omega (arith, none_fixes ms)) (omega arith) in
    let f = few_value k l ms in
    let g = none_uses os in
    let h = few_cond 1 (may_raise k mode) (barrier l ∷ []) [] (omega arith) (omega arith) in
    let i = few_cond 0 (is_barrier k) (map tracks (listed l)) [] (omega (arith, none_tracks (listed l))) (omega arith) in
    omega (arith, a, b, c, d, e, f, g, h, i)

few_under : (o : Option Parent) (k mode : ℕ) (ms os : List IdentifierId) → barriers (under_acts o k mode ms os) ≤ 1
few_under None k mode ms os = omega (arith, none_uses os)
few_under (Some Other) k mode ms os = omega (arith, none_uses os)
few_under (Some WithoutLvalue) k mode ms os = few_leaf None k mode ms os
few_under (Some (WithLvalue l)) k mode ms os = few_leaf (Some l) k mode ms os

few_row : (p : Option Parent) (r : Row) → barriers (acts (entering p r)) ≤ 1
few_row p r =
    few_cond 1 (eqb r.code 5) _ _ (few_under p r.kind r.mode r.marks r.operands)
    (omega (arith, none_uses (listed (used_in r.code r.identifier))))

acts_both : (xs ys : List (Event Parent)) → barriers (acts_of acts (xs ++ ys)) ≡ barriers (acts_of acts xs) + barriers (acts_of acts ys)
acts_both [] ys = omega arith
acts_both (x ∷ xs) ys =
    let a = barriers_append (acts x) (acts_of acts (xs ++ ys)) in
    let b = barriers_append (acts x) (acts_of acts xs) in
    omega (arith, a, b, acts_both xs ys)

none_closing : (d : ℕ) (around : List Parent) → barriers (acts_of acts (closing d around)) ≤ 0
none_closing d [] = omega arith
none_closing d (r ∷ around) =
    cond_both (leb d (length around)) (leaving r ∷ closing d around) [] (λ es. barriers (acts_of acts es) ≤ 0) (λ e. none_closing d around) (λ e. omega arith)

few_events : (around : List Parent) (rs : List Row) → barriers (acts_of acts (events keeps around rs)) ≤ length rs
few_events around [] = omega (arith, none_closing 0 around)
few_events around (r ∷ rs) =
    let p = innermost_of (staying r.depth around) in
    let on = events keeps (keeps (head r) ∷ staying r.depth around) rs in
    let a = acts_both (closing r.depth around) (entering p r ∷ on) in
    let b = barriers_append (acts (entering p r)) (acts_of acts on) in
    omega (arith, a, b, none_closing r.depth around, few_row p r, few_events (keeps (head r) ∷ staying r.depth around) rs)

-- the pass can go over sound rows
pub ready_begun : (t : Tables) (ps : List IdentifierId) (rs : List Row) → Sound t → Each (Known t.env) ps → Each (RowSound t.env) rs → length rs ≤ 262144 → Ready (begun t) (pass_acts ps rs)
ready_begun t ps rs s hp h few =
    let a = barriers_append (map fixes ps) (acts_of acts (events keeps [] rs)) in
    record { sound = s; fits = fits_rows t.env ps rs hp h; low = let b = few_events [] rs in let c = none_fixes ps in omega (arith, a, b, c) }

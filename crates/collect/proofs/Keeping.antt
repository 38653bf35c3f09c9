-- What the first pass keeps. Assumes nothing.
use Rattle.std.proofs.Common.{◌≡◌, ℕ, zero, suc, ◌+◌, ◌<◌, ◌≤◌, List, [], ◌∷◌, ◌++◌, Some, None, Option, IfSome, length, get_or, set, sym, refl, ap, ◌∙◌, subst, ⊎_elim, arith, length-set, get_or-set_other, get_or-set_same}
use Rattle.std.proofs.lemmas.Bool.{cases_eq, cond_both}
use Rattle.hir.specs.declared.ids.IdentifierId.{IdentifierId}
use Rattle.hir.specs.declared.ids.ScopeId.{ScopeId}
use Rattle.hir.specs.declared.scratch.Trail.{Trail}
use Rattle.hir.specs.declared.scratch.Work.{Work}
use Rattle.hir.specs.Environments.{Model}
use Rattle.hir.specs.Lists.{Each}
use Rattle.std.specs.List.{fold}
use Rattle.hir.specs.Scratches.{Notes, Tables, work_of, no_work, no_trail}
use Rattle.reactive.specs.Rows.{Row}
use Rattle.walk.specs.Events.{Whole, whole}
use Rattle.walk.proofs.Acting.{Splits}
use Rattle.walk.proofs.Fitting.{each_front}
use Rattle.promote.specs.Growth.{Grows, Named, none}
use Rattle.promote.proofs.Growing.{grows_none, grows_trans, sound_grows}
use Rattle.collect.specs.declared.promotable.CollectPromotable.{CollectPromotable}
use Rattle.collect.specs.Links.{trail_of, reach}
use Rattle.collect.specs.Promotable.{Act, opens, shuts, prunes, sees, flags, as_tag, as_recorded, as_escaped, work_by, noting, recorded_at, escapes_at, used_at, with_trail, trail_row, around, at, declared_in, does, pass_acts, Fits, openings, Linked, Ready, begun, collected}

-- a recorded link leads to one of these rows
abbrev pub Within : ℕ → Work → Type 0
Within used w = IfSome w.recorded (λ l. reach l ≤ used)

-- no recorded link leads past these rows
abbrev pub Below : ℕ → Notes → Type 0
Below used n = (d : ℕ) → Within used (work_of n d)

-- only work rows were changed
pub record Noted (used : ℕ) (b t : Tables) : Type 0 where
  pub env : t.env ≡ b.env
  pub work : length t.notes.work ≡ length b.notes.work
  pub marks : t.notes.marks ≡ b.notes.marks
  pub trail : t.notes.trail ≡ b.notes.trail
  pub recorded : Below used b.notes → Below used t.notes

noted_none : (used : ℕ) (t : Tables) → Noted used t t
noted_none used t = record { env = refl; work = refl; marks = refl; trail = refl; recorded = λ h. h }

noted_trans : {used : ℕ} {a b c : Tables} → Noted used a b → Noted used b c → Noted used a c
noted_trans x y =
    record { env = y.env ∙ x.env; work = y.work ∙ x.work; marks = y.marks ∙ x.marks; trail = y.trail ∙ x.trail; recorded = λ h. y.recorded (x.recorded h) }

set_within : (used : ℕ) (ws : List Work) (i k : ℕ) (w : Work) → Within used w → Within used (get_or ws k no_work) → Within used (get_or (set ws i w) k no_work)
set_within used [] i k w h g = g
set_within used (x ∷ ws) zero zero w h g = h
set_within used (x ∷ ws) zero (suc k) w h g = g
set_within used (x ∷ ws) (suc i) zero w h g = g
set_within used (x ∷ ws) (suc i) (suc k) w h g = set_within used ws i k w h g

-- one work row was changed
noted_noting : (used : ℕ) (f : Work → Work) (t : Tables) (i : IdentifierId) → (Below used t.notes → Within used (f (work_by t i))) → Noted used t (noting f t i)
noted_noting used f t i low =
    record { env = refl; work = length-set _ _ _; marks = refl; trail = refl; recorded = λ h k. set_within used t.notes.work _ k (f (work_by t i)) (low h) (h k) }

noted_recorded : (used : ℕ) (innermost : Option ℕ) → reach innermost ≤ used → (t : Tables) (i : IdentifierId) → Noted used t (recorded_at innermost t i)
noted_recorded used innermost low t i = noted_noting used (as_recorded innermost) t i (λ h. low)

noted_each : (used : ℕ) (innermost : Option ℕ) → reach innermost ≤ used → (t : Tables) (is : List IdentifierId) → Noted used t (fold (recorded_at innermost) t is)
noted_each used innermost low t [] = noted_none used t
noted_each used innermost low t (i ∷ is) = noted_trans (noted_recorded used innermost low t i) (noted_each used innermost low (recorded_at innermost t i) is)

noted_used : (used : ℕ) (innermost : Option ℕ) (t : Tables) (i : IdentifierId) → Noted used t (used_at innermost t i)
noted_used used innermost t i =
    cond_both (escapes_at innermost t.notes (work_by t i)) (noting as_escaped t i) t (Noted used t)
    (λ e. noted_noting used as_escaped t i (λ h. h _)) (λ e. noted_none used t)

grows_noted : {used : ℕ} {b t : Tables} → Noted used b t → Grows b t
grows_noted {b = b} n = record { rows = []; named = subst (Named b.env []) (sym n.env) none; work = n.work; marks = ap length n.marks; trail = ap length n.trail }

linked_noted : (v : CollectPromotable) (b t : Tables) → Linked v b.notes → Noted v.used b t → Linked v t.notes
linked_noted v b t l n =
    record {
      innermost = l.innermost;
      down = λ j h. let e = ap (λ (ts : List Trail). reach (trail_of ts j).link) n.trail in omega (arith, e, l.down j h);
      recorded = n.recorded l.recorded;
    }

-- acts that leave the visitor
ready_noted : (v : CollectPromotable) (b t : Tables) (a : Act) (more : List Act) → Ready (whole v b) (a ∷ more) → openings (a ∷ more) ≡ openings more → Noted v.used b t → Ready (whole v t) more
ready_noted v b t a more r e n =
    record {
      sound = sound_grows r.sound (grows_noted n);
      linked = linked_noted v b t r.linked n;
      fits = subst (λ (m : Model). Each (Fits m) more) (sym n.env) r.fits.1;
      room = omega (arith, r.room, e, ap length n.trail);
      low = omega (arith, r.low, e);
    }

-- a scope is opened: the new row leads to an earlier one, as those before it do
down_open : (trail : List Trail) (used j : ℕ) (r : Trail) → used < length trail → reach r.link ≤ used → ((k : ℕ) → k < used → reach (trail_of trail k).link ≤ k) → j < used + 1 → reach (trail_of (set trail used r) j).link ≤ j
down_open trail used j r room low down h =
    ⊎_elim
    (λ e.
    let P : ℕ → Type 0 = λ k. reach (trail_of (set trail used r) k).link ≤ k in
    let f = ap (λ (x : Trail). reach x.link) (get_or-set_same trail used r no_trail room) in
    let g : reach (trail_of (set trail used r) used).link ≤ used = omega (arith, f) in
    subst P (sym e) g)
    (λ ne. let f = ap (λ (x : Trail). reach x.link) (get_or-set_other trail used j r no_trail ne) in let d = down j (omega arith) in omega (arith, f, d))
    (cases_eq j used)

-- what leads to one of these rows leads to one of them and another
within_more : (used : ℕ) (o : Option (Option ℕ)) → IfSome o (λ l. reach l ≤ used) → IfSome o (λ l. reach l ≤ used + 1)
within_more used None h = tt
within_more used (Some l) h = omega arith

linked_open : (v : CollectPromotable) (n : Notes) (s : ScopeId) → v.used < length n.trail → Linked v n → Linked (at (Some v.used) (v.used + 1)) (with_trail n v.used (trail_row s v.innermost))
linked_open v n s room l =
    record {
      innermost = omega arith;
      down = λ j h. down_open n.trail v.used j (trail_row s v.innermost) room l.innermost l.down h;
      recorded = λ d. within_more v.used (work_of n d).recorded (l.recorded d);
    }

-- a scope is shut: the link around it is one of a row in use
around_low : (used : ℕ) (n : Notes) (l : Option ℕ) → ((j : ℕ) → j < used → reach (trail_of n.trail j).link ≤ j) → reach l ≤ used → reach (around n l) ≤ used
around_low used n None down h = h
around_low used n (Some j) down h = let d = down j (omega arith) in omega (arith, d)

ready_does : (w : Whole CollectPromotable) (a : Act) (more : List Act) → Ready w (a ∷ more) → Ready (does w a) more
ready_does w (opens s) more r =
    record {
      sound = sound_grows r.sound (record { rows = []; named = none; work = refl; marks = refl; trail = length-set _ _ _ });
      linked = linked_open w.visitor w.tables.notes s (omega (arith, r.room)) r.linked;
      fits = r.fits.1;
      room = simp length-set (omega (arith, r.room));
      low = omega (arith, r.low);
    }
ready_does w shuts more r =
    record {
      sound = r.sound;
      linked = record { innermost = around_low w.visitor.used w.tables.notes w.visitor.innermost r.linked.down r.linked.innermost; down = r.linked.down; recorded = r.linked.recorded };
      fits = r.fits.1;
      room = r.room;
      low = r.low;
    }
ready_does w (prunes s) more r = ready_noted w.visitor w.tables _ (prunes s) more r refl (noted_each w.visitor.used w.visitor.innermost r.linked.innermost w.tables (declared_in w.tables.env s))
ready_does w (sees i) more r = ready_noted w.visitor w.tables _ (sees i) more r refl (noted_used w.visitor.used w.visitor.innermost w.tables i)
ready_does w (flags i) more r = ready_noted w.visitor w.tables _ (flags i) more r refl (noted_noting w.visitor.used as_tag w.tables i (λ h. h _))

pub openings_append : (xs ys : List Act) → openings (xs ++ ys) ≡ openings xs + openings ys
openings_append [] ys = omega arith
openings_append (opens s ∷ xs) ys = let h = openings_append xs ys in omega arith
openings_append (shuts ∷ xs) ys = openings_append xs ys
openings_append (prunes s ∷ xs) ys = openings_append xs ys
openings_append (sees i ∷ xs) ys = openings_append xs ys
openings_append (flags i ∷ xs) ys = openings_append xs ys

pub splits : Splits does Ready
splits = record {
  front = λ w xs ys r.
      let e = openings_append xs ys in
      record { sound = r.sound; linked = r.linked; fits = each_front (Fits w.tables.env) xs ys r.fits; room = omega (arith, r.room, e); low = omega (arith, r.low, e) };
  back = ready_does;
}

-- an act names nothing, and leaves scratch as large as it was
grows_does : (w : Whole CollectPromotable) (a : Act) → Grows w.tables (does w a).tables
grows_does w (opens s) = record { rows = []; named = none; work = refl; marks = refl; trail = length-set _ _ _ }
grows_does w shuts = grows_none w.tables
grows_does w (prunes s) = grows_noted (noted_each (reach w.visitor.innermost) w.visitor.innermost (omega arith) w.tables (declared_in w.tables.env s))
grows_does w (sees i) = grows_noted (noted_used w.visitor.used w.visitor.innermost w.tables i)
grows_does w (flags i) = grows_noted (noted_noting w.visitor.used as_tag w.tables i (λ h. h _))

grows_over : (w : Whole CollectPromotable) (todo : List Act) → Grows w.tables (fold does w todo).tables
grows_over w [] = grows_none w.tables
grows_over w (a ∷ todo) = grows_trans (grows_does w a) (grows_over (does w a) todo)

-- the pass names nothing
pub grows_collected : (t : Tables) (rs : List Row) → Grows t (collected t rs)
grows_collected t rs = grows_over (begun t) (pass_acts rs)

-- an act leaves the environment
env_does : (w : Whole CollectPromotable) (a : Act) → (does w a).tables.env ≡ w.tables.env
env_does w (opens s) = refl
env_does w shuts = refl
env_does w (prunes s) = (noted_each (reach w.visitor.innermost) w.visitor.innermost (omega arith) w.tables (declared_in w.tables.env s)).env
env_does w (sees i) = (noted_used w.visitor.used w.visitor.innermost w.tables i).env
env_does w (flags i) = refl

env_over : (w : Whole CollectPromotable) (todo : List Act) → (fold does w todo).tables.env ≡ w.tables.env
env_over w [] = refl
env_over w (a ∷ todo) = env_over (does w a) todo ∙ env_does w a

-- and so does the pass
pub same_env : (t : Tables) (rs : List Row) → (collected t rs).env ≡ t.env
same_env t rs = env_over (begun t) (pass_acts rs)

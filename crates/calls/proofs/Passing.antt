-- The four passes over tables and rows that are not refused. Assumes nothing.
use Rattle.std.proofs.Common.{◌≡◌, ℕ, ◌+◌, ◌-◌, ◌<◌, ◌≤◌, false, cond, eqb, List, [], ◌∷◌, length, drop, Some, None, Ok, Err, Option, sym, refl, ap, ◌∙◌, subst, arith}
use lib.ListN.{length-replicate}
use Rattle.std.proofs.lemmas.List.{append-nil, drop_at}
use Rattle.std.proofs.lemmas.Bool.{cond_both}
use Rattle.hir.specs.declared.ids.FunctionId.{FunctionId}
use Rattle.hir.specs.declared.ids.IdentifierId.{IdentifierId}
use Rattle.hir.specs.declared.ids.ScopeId.{ScopeId}
use Rattle.hir.specs.declared.refusal.Refusal.{Refusal}
use Rattle.hir.specs.declared.scratch.Work.{Work}
use Rattle.hir.specs.declared.span.Span.{Span}
use Rattle.hir.specs.declared.tables.Reason.TheVariants as reasons
use Rattle.hir.specs.declared.tables.JournalRow.{JournalRow}
use Rattle.hir.specs.Environments.{Model, journal_of}
use Rattle.hir.specs.Lists.{Each}
use Rattle.std.specs.List.{fold}
use Rattle.hir.specs.Refusals.{answered}
use Rattle.hir.specs.Scratches.{Notes, Tables, both}
use Rattle.hir.specs.Sound.{Sound, Known, KnownIn}
use Rattle.hir.specs.Spans.{identifiers_in}
use Rattle.reactive.specs.declared.row.Number.{Number}
use Rattle.reactive.specs.declared.row.Number.TheVariants as numbers
use Rattle.reactive.specs.Numbers.{scope_in, function_in}
use Rattle.reactive.specs.Rows.{Reading, Row, rewound, scope_rows}
use Rattle.reactive.specs.Sound.{RowSound}
use Rattle.walk.specs.Events.{Shallow}
use Rattle.walk.proofs.Fitting.{each_imp}
use Rattle.checks.specs.Rows.{sizes, run_refusal}
use Rattle.checks.specs.Sound.{SoundRow}
use Rattle.checks.proofs.Sound as checked
use Rattle.promote.specs.Growth.{Grows, none}
use Rattle.promote.specs.Identifier.{promote_unnamed}
use Rattle.promote.specs.Temporaries as temporaries
use Rattle.promote.proofs.Growing.{Kept, kept, grows_trans, grows_each, grows_unnamed, sound_grows, known_in_kept}
use Rattle.promote.proofs.Visiting as visiting
use Rattle.collect.specs.Promotable as collects
use Rattle.collect.proofs.Beginning as beginning
use Rattle.collect.proofs.Keeping as keeping
use Rattle.interposed.specs.Acts as interposes
use Rattle.interposed.specs.Interposed as interposed
use Rattle.interposed.proofs.Passes as interposing
use Rattle.instances.specs.Instances as instances
use Rattle.instances.proofs.Passes as instancing
use Rattle.reasons.specs.Coverings.{journal, ran, upper}
use Rattle.reasons.specs.Passes.{reset, passed}
use Rattle.reasons.specs.Journals.{name_all}
use Rattle.reasons.specs.Laws.{can_name}
use Rattle.reasons.proofs.Idle.{idle_runs}
use Rattle.reasons.proofs.Runs.{blank_row, passed_ran}
use Rattle.calls.specs.Steps.{Names, RunStep}
use Rattle.calls.proofs.Naming.{named_names, journal_all, count_all}
use Rattle.calls.proofs.Fates.{added_rows, full_journal}

scope_named : (n : Option Number) (s : ScopeId) → scope_in n ≡ Some s → n ≡ Some (numbers.Scope s)
scope_named None s e = cc
scope_named (Some (numbers.Scope x)) s e = cc
scope_named (Some (numbers.Function x)) s e = cc

function_named : (n : Option Number) (f : FunctionId) → function_in n ≡ Some f → n ≡ Some (numbers.Function f)
function_named None f e = cc
function_named (Some (numbers.Scope x)) f e = cc
function_named (Some (numbers.Function x)) f e = cc

row_sound : (m : Model) (r : Row) → SoundRow (sizes m) r → RowSound m r
row_sound m r s = record {
  identifier = s.identifier;
  scope = λ x e. s.scope x (scope_named r.number x e);
  function = λ f e. s.function f (function_named r.number f e);
  operands = s.operands;
  marks = s.marks;
}

row_kept : (m t : Model) → Kept m t → (r : Row) → RowSound m r → RowSound t r
row_kept m t k r s =
    let P : ℕ → Type 0 = λ n. Each (λ (i : IdentifierId). i.0 < n) r.operands in
    let Q : ℕ → Type 0 = λ n. Each (λ (i : IdentifierId). i.0 < n) r.marks in
    record {
      identifier = λ i e. let h = s.identifier i e in omega (arith, k.size);
      scope = λ x e. let h = s.scope x e in let z = ap length k.scopes in omega arith;
      function = λ f e. let h = s.function f e in let z = ap length k.functions in omega arith;
      operands = subst P (sym k.size) s.operands;
      marks = subst Q (sym k.size) s.marks;
    }

-- what is known once nothing is refused
pub record Passable (t : Tables) (ps : Span) (rs : List Row) : Type 0 where
  pub sound : Sound t
  pub parameters : KnownIn t.env ps
  pub rows : Each (RowSound t.env) rs
  pub shallow : Each Shallow rs
  pub few : length rs ≤ 262144
  pub trail : scope_rows rs ≤ length t.notes.trail

pub passable : (t : Tables) (ps : Span) (rs : List Row) → run_refusal t.env t.notes ps rs ≡ None → Passable t ps rs
passable t ps rs e =
    let s = checked.sound_tables t.env t.notes ps (checked.run_tables t.env t.notes ps rs e) in
    let tree = checked.run_tree t.env t.notes ps rs e in
    let whole = checked.tree_rows (sizes t.env) (length t.notes.trail) rs tree in
    let each = checked.sound_rows (sizes t.env) rs whole in
    record {
      sound = record {
        declared = s.declared;
        work = s.work;
        marks = s.marks;
        room = s.room;
        scopes = λ k h. let x = s.scopes k h in record { dependencies = x.dependencies; declarations = x.declarations; reassignments = x.reassignments };
        functions = λ k h. let x = s.functions k h in record { parameters = x.parameters; nested = x.nested };
      };
      parameters = s.parameters;
      rows = each_imp (SoundRow (sizes t.env)) (RowSound t.env) (row_sound t.env) rs each;
      shallow = each_imp (SoundRow (sizes t.env)) Shallow (λ r h. h.shallow) rs each;
      few = checked.few_rows (sizes t.env) rs whole;
      trail = checked.trail_enough (sizes t.env) (length t.notes.trail) rs tree;
    }

pub passable_grows : (b t : Tables) (ps : Span) (rs : List Row) → Passable b ps rs → Grows b t → Passable t ps rs
passable_grows b t ps rs p g =
    let k = kept g.named in
    record {
      sound = sound_grows p.sound g;
      parameters = known_in_kept k ps p.parameters;
      rows = each_imp (RowSound b.env) (RowSound t.env) (row_kept b.env t.env k) rs p.rows;
      shallow = p.shallow;
      few = p.few;
      trail = omega (arith, p.trail, g.trail);
    }

scope_rows_few : (rs : List Row) → scope_rows rs ≤ length rs
scope_rows_few [] = omega arith
scope_rows_few (r ∷ rs) =
    let h = scope_rows_few rs in
    let k : cond (eqb r.code 3) 1 0 ≤ 1 = cond_both (eqb r.code 3) 1 0 (λ n. n ≤ 1) (λ e. omega arith) (λ e. omega arith) in
    omega (arith, h, k)

-- a step that names identifiers keeps the tables passable
pub onward : (b t : Tables) (ps : Span) (rs : List Row) (f : Tables → Tables) → Passable b ps rs → ((x : Tables) → Passable x ps rs → Grows x (f x)) → t ≡ f b → Passable t ps rs
onward b t ps rs f p g e = passable_grows b t ps rs p (subst (Grows b) (sym e) (g b p))

module _ (ps : Span) (rs : List Row) where
  grows_reset : (t : Tables) → Passable t ps rs → Grows t (reset t)
  grows_reset t p = record { rows = []; named = none; work = length-replicate _ _; marks = length-replicate _ _; trail = refl }

  pub passable_reset : (b t : Tables) → Passable b ps rs → t ≡ reset b → Passable t ps rs
  passable_reset b t p e = onward b t ps rs reset p grows_reset e

  pub ready_collect : (b t : Tables) → Passable b ps rs → t ≡ reset b → collects.Ready (collects.begun t) (collects.pass_acts rs)
  ready_collect b t p e =
      let q = passable_reset b (reset b) p refl in
      let f = beginning.few_openings rs in
      let P : Tables → Type 0 = λ x. collects.Ready (collects.begun x) (collects.pass_acts rs) in
      subst P (sym e)
      (beginning.ready_begun (reset b) rs q.sound
      (λ d. ap (λ (w : Work). w.recorded) (blank_row b.notes d))
      (omega (arith, f, q.trail))
      (omega (arith, f, scope_rows_few rs, p.few))
      p.rows)

  pub grows_collect : (t : Tables) → Passable t ps rs → Grows t (collects.collected t rs)
  grows_collect t p = keeping.grows_collected t rs

  grows_parameters : (f : Tables → IdentifierId → Tables) → ((t : Tables) (i : IdentifierId) → Sound t → Known t.env i → Grows t (f t i)) → (t : Tables) → Passable t ps rs → Grows t (fold f t (identifiers_in t.env.pool ps))
  grows_parameters f one t p = grows_each f one t _ p.sound p.parameters

  pub grows_temporaries : (t : Tables) → Passable t ps rs → Grows t (temporaries.promote_temporaries t ps rs)
  grows_temporaries t p =
      let g = grows_parameters (promote_unnamed reasons.OwnParameter) (grows_unnamed reasons.OwnParameter) t p in
      let q = passable_grows t _ ps rs p g in
      grows_trans g (visiting.grows_over _ (temporaries.pass_acts rs) (visiting.ready_rows _ rs q.sound q.rows))

  pub ready_interposed : (t : Tables) → Passable t ps rs → interposes.Ready (interposed.begun t) (interposed.pass_acts (identifiers_in t.env.pool ps) rs)
  ready_interposed t p = interposing.ready_begun t _ rs p.sound p.parameters p.rows p.few

  pub grows_interposed : (t : Tables) → Passable t ps rs → Grows t (interposed.promote_interposed t ps rs)
  grows_interposed t p = interposing.grows_over (interposed.begun t) _ (ready_interposed t p)

  pub grows_instances : (t : Tables) → Passable t ps rs → Grows t (instances.promote_all_instances t ps rs)
  grows_instances t p =
      let g = grows_parameters instances.promote_instance instancing.grows_instance t p in
      let q = passable_grows t _ ps rs p g in
      grows_trans g (instancing.grows_over _ (instances.pass_acts rs) (instancing.ready_rows _ rs q.sound q.rows))

  -- the four passes name identifiers, and nothing else
  pub grows_passed : (t : Tables) → Passable t ps rs → Grows t (passed t ps rs)
  grows_passed t p =
      let a = grows_reset t p in
      let pa = passable_grows t (reset t) ps rs p a in
      let b = grows_collect (reset t) pa in
      let pb = passable_grows _ (collects.collected (reset t) rs) ps rs pa b in
      let c = grows_temporaries (collects.collected (reset t) rs) pb in
      let pc = passable_grows _ (temporaries.promote_temporaries (collects.collected (reset t) rs) ps rs) ps rs pb c in
      let d = grows_interposed (temporaries.promote_temporaries (collects.collected (reset t) rs) ps rs) pc in
      let pd = passable_grows _ (interposed.promote_interposed (temporaries.promote_temporaries (collects.collected (reset t) rs) ps rs) ps rs) ps rs pc d in
      grows_trans a (grows_trans b (grows_trans c (grows_trans d (grows_instances _ pd))))

-- from pass to pass, over a source that is rewound between them
module _ (ps : Span) (r s : Reading) (back : s ≡ rewound r) where
  same_rows : (t : Tables) → Passable t ps r.rows → Passable t ps s.rows
  same_rows t p = subst (Passable t ps) (ap (λ (x : Reading). x.rows) (sym back)) p

  pub after_collect : (b t on : Tables) → Passable b ps r.rows → t ≡ reset b → on ≡ collects.collected t r.rows → Passable on ps s.rows
  after_collect b t on p e f = same_rows on (onward t on ps r.rows (λ x. collects.collected x r.rows) (passable_reset ps r.rows b t p e) (grows_collect ps r.rows) f)

  pub after_temporaries : (t on : Tables) → Passable t ps r.rows → on ≡ temporaries.promote_temporaries t ps r.rows → Passable on ps s.rows
  after_temporaries t on p f = same_rows on (onward t on ps r.rows (λ x. temporaries.promote_temporaries x ps r.rows) p (grows_temporaries ps r.rows) f)

  pub after_interposed : (t on : Tables) → Passable t ps r.rows → on ≡ interposed.promote_interposed t ps r.rows → Passable on ps s.rows
  after_interposed t on p f = same_rows on (onward t on ps r.rows (λ x. interposed.promote_interposed x ps r.rows) p (grows_interposed ps r.rows) f)

-- what the passes leave is what the rows cover
ran_passed : (t : Tables) (ps : Span) (rs : List Row) → Passable t ps rs → (passed t ps rs).env ≡ ran t.env ps rs
ran_passed t ps rs p =
    passed_ran t ps rs p.sound p.parameters (ready_collect ps rs t (reset t) p refl)
    (visiting.ready_rows t rs p.sound p.rows).fits
    (ready_interposed ps rs t p).fits
    (instancing.ready_rows t rs p.sound p.rows).fits

-- an accepted run
module _ (b t : Tables) (ps : Span) (rs : List Row) (e : run_refusal b.env b.notes ps rs ≡ None) (is : t ≡ passed b ps rs) where
  grew : Grows b t
  grew = subst (Grows b) (sym is) (grows_passed ps rs b (passable b ps rs e))

  did : Names b.env grew.rows t.env
  did = named_names grew.named (let p = passable b ps rs e in omega (arith, p.sound.room))

  left_is : t.env ≡ ran b.env ps rs
  left_is = ap (λ (x : Tables). x.env) is ∙ ran_passed b ps rs (passable b ps rs e)

  many : b.env.count + length (journal b.env ps rs) ≡ t.env.count
  many = sym (ap (λ (x : Model). x.count) left_is ∙ count_all (upper b.env rs) b.env (journal b.env ps rs))

  rows_are : grew.rows ≡ journal b.env ps rs
  rows_are =
      sym (added_rows b.env t.env grew.rows did)
      ∙ ap (λ xs. drop b.env.count xs) (ap journal_of left_is ∙ journal_all (upper b.env rs) b.env (journal b.env ps rs) (omega (arith, many, did.count, did.within)))
      ∙ drop_at (journal_of b.env) (journal b.env ps rs) b.env.count (full_journal b.env (omega (arith, did.within)))

  pub run_more : b.env.count ≤ t.env.count
  run_more = omega (arith, did.count)

  pub run_accepted : RunStep b.env b.notes ps rs (Ok (b.env.count, t.env.count - b.env.count)) t.env t.notes
  run_accepted =
      let k : t.env.count - b.env.count ≡ length (journal b.env ps rs) = omega (arith, many) in
      let P : List JournalRow → Type 0 = λ rows. Names b.env rows t.env in
      record {
        accepted = λ f. record { answers = ap (λ n. Ok (b.env.count, n)) k; env = left_is; names_them = subst P rows_are did };
        refused = λ r f. cc;
        sizes = record { work = grew.work; marks = grew.marks; trail = grew.trail };
      }

-- a run that can name nothing leaves the environment as it is
module _ (m : Model) (n : Notes) (ps : Span) (rs : List Row) (e : run_refusal m n ps rs ≡ None) (idle : can_name m ps rs ≡ false) where
  names_none : Names m [] m
  names_none = record {
    unnamed = tt;
    once = tt;
    promoted = tt;
    others = λ i f. refl;
    declarations = λ i. refl;
    identifiers = refl;
    journal = sym (append-nil (journal_of m));
    count = omega arith;
    within = let p = passable (both m n) ps rs e in omega (arith, p.sound.room);
    beyond = refl;
    size = refl;
    scopes = refl;
    functions = refl;
    pool = refl;
  }

  pub run_idle : RunStep m n ps rs (Ok (m.count, m.count - m.count)) m n
  run_idle =
      let none = idle_runs m ps rs idle in
      let k : m.count - m.count ≡ length (journal m ps rs) = let z = ap length none in omega (arith, z) in
      record {
        accepted = λ f. record { answers = ap (λ x. Ok (m.count, x)) k; env = sym (ap (name_all (upper m rs) m) none); names_them = subst (λ js. Names m js m) (sym none) names_none };
        refused = λ r f. cc;
        sizes = record { work = refl; marks = refl; trail = refl };
      }

pub answered_none : {X : Type 0} (o : Option Refusal) (u x : X) → Ok u ≡ answered o x → o ≡ None
answered_none None u x e = refl
answered_none (Some r) u x e = cc

pub answered_is : {X : Type 0} (o : Option Refusal) (u x : X) → Ok u ≡ answered o x → u ≡ x
answered_is None u x e = cc
answered_is (Some r) u x e = cc

pub answered_some : (o : Option Refusal) (r : Refusal) → Err r ≡ answered {X = Unit {0}} o tt → o ≡ Some r
answered_some None r e = cc
answered_some (Some x) r e = cc

-- The four passes leave what the coverings of a run say. Assumes nothing.
use Rattle.std.proofs.Common.{◌≡◌, ℕ, ◌<◌, ◌≤◌, Bool, false, Option, IfSome, is_some, None, List, [], ◌∷◌, ◌++◌, length, get_or, replicate, sym, refl, ap, ◌∙◌, subst, ⊎_elim, append_assoc, append-nil, arith}
use Rattle.std.proofs.lemmas.List.Sums.{fold-append}
use Rattle.std.specs.List.{filter, fold}
use Rattle.std.proofs.lemmas.List.Elements.{filter-append}
use lib.ListN.{length-replicate}
use Rattle.std.proofs.lemmas.List.{get_or-replicate, get_or_past}
use Rattle.std.proofs.lemmas.Bool.{cases_lt, cond_both}
use Rattle.hir.specs.declared.ids.IdentifierId.{IdentifierId}
use Rattle.hir.specs.declared.scratch.Work.{Work}
use Rattle.hir.specs.declared.span.Span.{Span}
use Rattle.hir.specs.declared.tables.JournalRow.{JournalRow}
use Rattle.hir.specs.declared.tables.Reason.TheVariants as reasons
use Rattle.hir.specs.Environments.{Model, declaration_of}
use Rattle.hir.specs.Lists.{Each}
use Rattle.hir.specs.Scratches.{Notes, Tables, no_work, blank, work_of}
use Rattle.hir.specs.Sound.{Sound, KnownIn}
use Rattle.hir.specs.Spans.{identifiers_in}
use Rattle.reactive.specs.Rows.{Row}
use Rattle.walk.specs.Events.{Whole}
use Rattle.promote.specs.Growth.{none}
use Rattle.promote.specs.Identifier.{as_promoted, promote_unnamed}
use Rattle.promote.specs.Temporaries as temporaries
use Rattle.promote.proofs.Growing.{Kept, kept, sound_grows}
use Rattle.collect.specs.declared.promotable.CollectPromotable.{CollectPromotable}
use Rattle.collect.specs.Promotable as collects
use Rattle.collect.proofs.Keeping as keeping
use Rattle.interposed.specs.Acts as interposes
use Rattle.interposed.specs.Interposed as interposed
use Rattle.instances.specs.Instances as instances
use Rattle.reasons.specs.Journals.{declares}
use Rattle.reasons.specs.Escapes as escapes
use Rattle.reasons.specs.Interposed as known
use Rattle.reasons.specs.Coverings.{covers, early, between, before, late, visits, journal, upper, ran, named_then}
use Rattle.reasons.specs.Passes.{reset, passed}
use Rattle.reasons.proofs.Admitting.{admit, taken, taken_over, firsts_all}
use Rattle.reasons.proofs.Steps.{Seen}
use Rattle.reasons.proofs.Early.{Static, covers_parameters, covers_all, kept_field}
use Rattle.reasons.proofs.Late.{seen_visited, seen_acts, covers_append}
use Rattle.reasons.proofs.Between.{Knows, knows_all, Agrees}
use Rattle.reasons.proofs.Marking.{Marks, marks_all, tags_after, unseen, ends, agrees_escaped}
use Rattle.reasons.proofs.Marking as marking
use Rattle.reasons.proofs.Tags.{tags_are}

-- nothing is noted in blank scratch
pub blank_row : (n : Notes) (d : ℕ) → work_of (blank n) d ≡ no_work
blank_row n d =
    ⊎_elim
    (λ h. get_or-replicate (length n.work) d no_work no_work h)
    (λ h. get_or_past (replicate (length n.work) no_work) d no_work (rw length-replicate h))
    (cases_lt d (length n.work))

blank_mark : (n : Notes) (f : ℕ) → get_or (blank n).marks f false ≡ false
blank_mark n f =
    ⊎_elim
    (λ h. get_or-replicate (length n.marks) f false false h)
    (λ h. get_or_past (replicate (length n.marks) false) f false (rw length-replicate h))
    (cases_lt f (length n.marks))

-- the first pass leaves the marks of functions
marks_recorded : (l : Option ℕ) (t : Tables) (is : List IdentifierId) → (fold (collects.recorded_at l) t is).notes.marks ≡ t.notes.marks
marks_recorded l t [] = refl
marks_recorded l t (i ∷ is) = marks_recorded l (collects.recorded_at l t i) is

marks_does : (w : Whole CollectPromotable) (a : collects.Act) → (collects.does w a).tables.notes.marks ≡ w.tables.notes.marks
marks_does w (collects.opens s) = refl
marks_does w collects.shuts = refl
marks_does w (collects.prunes s) = marks_recorded w.visitor.innermost w.tables (collects.declared_in w.tables.env s)
marks_does w (collects.sees i) = cond_both _ _ _ (λ (t : Tables). t.notes.marks ≡ w.tables.notes.marks) (λ e. refl) (λ e. refl)
marks_does w (collects.flags i) = refl

marks_over : (w : Whole CollectPromotable) (acts : List collects.Act) → (fold collects.does w acts).tables.notes.marks ≡ w.tables.notes.marks
marks_over w [] = refl
marks_over w (a ∷ acts) = marks_over (collects.does w a) acts ∙ marks_does w a

-- tables and rows that no check refused
module _ (t : Tables) (ps : Span) (rs : List Row) (sound : Sound t) (parameters : KnownIn t.env ps) (ready : collects.Ready (collects.begun (reset t)) (collects.pass_acts rs)) (second : Each (temporaries.Fits t.env) (temporaries.pass_acts rs)) (third : Each (interposes.Fits t.env) (interposed.pass_acts (identifiers_in t.env.pool ps) rs)) (fourth : Each (instances.Fits t.env) (instances.pass_acts rs)) where
  m : Model
  m = t.env

  abbrev up : ℕ → Bool
  up = upper t.env rs

  abbrev out : ℕ → Bool
  out = escapes.escaped t.env rs

  abbrev own : List IdentifierId
  own = identifiers_in t.env.pool ps

  static : Static t.env
  static = record { scopes = sound.scopes; functions = sound.functions; declared = sound.declared }

  blank_begun : Marks t.env static escapes.nothing (λ d. false) (collects.begun (reset t))
  blank_begun = record {
    env = refl;
    active = ends;
    rows = λ d l. subst (marking.Agrees t.notes.trail 0 escapes.never) (sym (blank_row t.notes d)) (unseen no_work refl refl);
    tags = λ d l. ap (λ (w : Work). w.tag) (blank_row t.notes d);
    plain = λ d l. subst marking.Plain (sym (blank_row t.notes d)) (record { promoted = refl; constant = refl; global = refl; tracked = refl });
    room = simp length-replicate sound.work;
  }

  abbrev one : Tables
  one = collects.collected (reset t) rs

  marked : Marks t.env static (fold (escapes.act t.env) escapes.nothing (collects.pass_acts rs)) (fold (tags_after t.env static) (λ d. false) (collects.pass_acts rs)) (fold collects.does (collects.begun (reset t)) (collects.pass_acts rs))
  marked = marks_all t.env static (collects.pass_acts rs) escapes.nothing (λ d. false) (collects.begun (reset t)) blank_begun ready

  seen_one : Seen t.env up out (declares t.env) [] one
  seen_one = record {
    view = record {
      env = marked.env;
      known = tt;
      grown = subst (Kept t.env) (sym marked.env) (kept none);
      upper = λ d l. marked.tags d l ∙ tags_are t.env static d rs;
      escaped = λ d l. agrees_escaped (marked.rows d l);
      promoted_so = λ d l. (marked.plain d l).promoted;
    };
    sound = sound_grows ready.sound (keeping.grows_collected (reset t) rs);
  }

  abbrev two : Tables
  two = temporaries.promote_temporaries one ps rs

  abbrev two_by : List IdentifierId → Tables
  two_by is = fold temporaries.does (fold (promote_unnamed reasons.OwnParameter) one is) (temporaries.pass_acts rs)

  own_one : identifiers_in one.env.pool ps ≡ own
  own_one = ap (λ (x : Model). identifiers_in x.pool ps) marked.env

  abbrev firstly : List JournalRow
  firstly = fold (admit t.env) [] (early t.env ps rs)

  seen_two : Seen t.env up out (declares t.env) firstly two
  seen_two =
      let start = covers_parameters t.env up out static one seen_one (λ f l. ap (λ ms. get_or ms f false) (marks_over (collects.begun (reset t)) (collects.pass_acts rs)) ∙ blank_mark t.notes f) ps parameters in
      let c = covers_all t.env up out static (temporaries.pass_acts rs) second _ _ start in
      let P : List IdentifierId → Type 0 = λ is. Seen t.env up out (declares t.env) firstly (two_by is) in
      subst P (sym own_one) c.seen

  field_two : {A : Type 0} (g : Work → A) → ((w : Work) → g (as_promoted w) ≡ g w) → (d : ℕ) → g (work_of two.notes d) ≡ g (work_of one.notes d)
  field_two g keeps d = kept_field g keeps d one (identifiers_in one.env.pool ps) (temporaries.pass_acts rs)

  knows_start : Knows t.env up out firstly (known.nothing (named_then t.env ps rs)) (interposed.begun two)
  knows_start =
      let P : List JournalRow → Type 0 = λ js. Seen t.env up out (declares t.env) js two in
      let Q : List JournalRow → Type 0 = λ js. (i : ℕ) → named_then t.env ps rs i ≡ taken t.env js i in
      record {
        seen = subst P (sym (append-nil firstly)) seen_two;
        named = subst Q (sym (append-nil firstly)) (λ i. sym (taken_over t.env [] (early t.env ps rs) i));
        rows = λ i l. blank_row_two i (marked.plain i l);
        admitted = sym (append-nil firstly);
        begun = omega arith;
      }
    where
      blank_row_two : (i : ℕ) → marking.Plain (work_of one.notes i) → Agrees 1 (work_of two.notes i) (known.nothing (named_then t.env ps rs)) i
      blank_row_two i p =
          let z : (work_of two.notes i).tracked ≡ None = field_two (λ w. w.tracked) (λ w. refl) i ∙ p.tracked in
          record {
            constant = field_two (λ w. w.constant) (λ w. refl) i ∙ p.constant;
            global = field_two (λ w. w.global) (λ w. refl) i ∙ p.global;
            tracked = ap is_some z;
            exposed = ap (interposes.is_before 1) z;
            low = subst (λ o. IfSome o (λ e. e ≤ 1)) (sym z) tt;
          }

  abbrev three : Tables
  three = interposed.promote_interposed two ps rs

  own_two : identifiers_in two.env.pool ps ≡ own
  own_two = ap (λ p. identifiers_in p ps) seen_two.view.grown.pool

  abbrev fifth : List JournalRow
  fifth = between t.env ps rs

  knows_end : Knows t.env up out firstly (fold known.act (known.nothing (named_then t.env ps rs)) (interposed.pass_acts own rs)) (fold interposes.does (interposed.begun two) (interposed.pass_acts own rs))
  knows_end = knows_all t.env up out firstly (interposed.pass_acts own rs) third _ _ knows_start

  before_is : firstly ++ fifth ≡ before t.env ps rs
  before_is =
      sym knows_end.admitted
      ∙ sym (fold-append (admit t.env) [] (early t.env ps rs) fifth)
      ∙ sym (firsts_all t.env (early t.env ps rs ++ fifth))

  abbrev done : ℕ → Bool
  done = declares t.env (before t.env ps rs)

  seen_three : Seen t.env up out (λ js. done) (before t.env ps rs) three
  seen_three =
      let P : List IdentifierId → Type 0 = λ is. Seen t.env up out (declares t.env) (firstly ++ fifth) (fold interposes.does (interposed.begun two) (interposed.pass_acts is rs)).tables in
      let Q : List JournalRow → Type 0 = λ js. Seen t.env up out (declares t.env) js three in
      let s = subst Q before_is (subst P (sym own_two) knows_end.seen) in
      record { view = s.view; sound = s.sound }

  own_three : identifiers_in three.env.pool ps ≡ own
  own_three = ap (λ p. identifiers_in p ps) seen_three.view.grown.pool

  keep : IdentifierId → Bool
  keep i = done (declaration_of t.env i.0)

  -- what the last pass admits is what reason 6 covers
  last_is : fold (admit t.env) (fold (admit t.env) (before t.env ps rs) (covers reasons.SameDeclaration (filter (λ i. done (declaration_of t.env i.0)) own))) (covers reasons.SameDeclaration (filter (λ i. done (declaration_of t.env i.0)) (visits t.env (instances.pass_acts rs)))) ≡ journal t.env ps rs
  last_is =
      let js = before t.env ps rs in
      let a = filter (λ i. done (declaration_of t.env i.0)) own in
      let b = filter (λ i. done (declaration_of t.env i.0)) (visits t.env (instances.pass_acts rs)) in
      sym (fold-append (admit t.env) js (covers reasons.SameDeclaration a) (covers reasons.SameDeclaration b))
      ∙ ap (fold (admit t.env) js) (sym (covers_append reasons.SameDeclaration a b) ∙ ap (covers reasons.SameDeclaration) (sym (filter-append (λ i. done (declaration_of t.env i.0)) own (visits t.env (instances.pass_acts rs)))))
      ∙ ap (λ x. fold (admit t.env) x (late t.env ps rs)) (firsts_all t.env (early t.env ps rs ++ fifth))
      ∙ sym (fold-append (admit t.env) [] (early t.env ps rs ++ fifth) (late t.env ps rs))
      ∙ ap (fold (admit t.env) []) (append_assoc (early t.env ps rs) fifth (late t.env ps rs))
      ∙ sym (firsts_all t.env (early t.env ps rs ++ (fifth ++ late t.env ps rs)))

  seen_passed : Seen t.env up out (λ js. done) (journal t.env ps rs) (passed t ps rs)
  seen_passed =
      let a = seen_visited t.env up out done static (before t.env ps rs) three seen_three own parameters in
      let b = seen_acts t.env up out done static (instances.pass_acts rs) fourth _ _ a in
      let P : List IdentifierId → Type 0 = λ is. Seen t.env up out (λ js. done) (journal t.env ps rs) (fold instances.does (fold instances.promote_instance three is) (instances.pass_acts rs)) in
      let Q : List JournalRow → Type 0 = λ js. Seen t.env up out (λ xs. done) js (fold instances.does (fold instances.promote_instance three own) (instances.pass_acts rs)) in
      subst P (sym own_three) (subst Q last_is b)

  -- a run leaves the environment that the coverings say
  pub passed_ran : (passed t ps rs).env ≡ ran t.env ps rs
  passed_ran = seen_passed.view.env

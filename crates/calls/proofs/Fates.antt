-- What one call does to an identifier and to the journal. Assumes nothing.
use Rattle.std.proofs.Common.{◌≡◌, ℕ, ◌<◌, ◌≤◌, Bool, true, false, cond, eqb, ◌⊎◌, List, [], ◌++◌, length, drop, Some, None, Ok, Err, Option, Result, sym, refl, ap, ◌∙◌, subst, inl, inr, ⊎_elim, append-nil, arith, length-take, get_or-set_other, get_or-set_same}
use Rattle.std.proofs.lemmas.List.{drop_all, drop_at}
use Rattle.std.proofs.lemmas.Bool.{cases_Bool, cases_eq, eqb-true, leb-false}
use Rattle.hir.specs.declared.ids.IdentifierId.{IdentifierId}
use Rattle.hir.specs.declared.refusal.Refusal.{Refusal}
use Rattle.hir.specs.declared.refusal.Refusal.TheVariants as refusals
use Rattle.hir.specs.declared.span.Span.{Span}
use Rattle.hir.specs.declared.tables.Identifier.{Identifier}
use Rattle.hir.specs.declared.tables.JournalRow.{JournalRow}
use Rattle.hir.specs.Environments.{Model, no_identifier, tag_of, journal_of, tagged}
use Rattle.hir.specs.Refusals.{answered, unless}
use Rattle.hir.specs.Spans.{ident}
use Rattle.checks.specs.Rows.{run_refusal}
use Rattle.checks.specs.Tables.{many_identifiers}
use Rattle.calls.specs.declared.requests.Request.{Request}
use Rattle.calls.specs.declared.requests.Request.TheVariants.{Run, Give, Look, Spell}
use Rattle.calls.specs.declared.requests.Reply.{Reply}
use Rattle.calls.specs.declared.requests.Reply.TheVariants.{Ran, Given}
use Rattle.reasons.specs.Coverings as reasons
use Rattle.reasons.specs.Laws.{Once}
use Rattle.reasons.specs.Journals.{names}
use Rattle.hir.specs.Scratches.{Notes}
use Rattle.reactive.specs.Rows.{Row}
use Rattle.calls.specs.Steps.{Text, absent, give_refusal, GiveStep, Names, RunAccepted, RunRefused, RunStep}
use Rattle.calls.specs.Histories.{World, Moment, tree_at, told_as, ran_as, given_as, RunFollows, GiveFollows, TreeFollows, there, nowhere, Follows}
use Rattle.calls.specs.Words.{Gives, added, Journals}
use Rattle.walk.proofs.Fitting.{each_imp}
use Rattle.calls.proofs.Naming.{Promoted, member}

-- an identifier stays as it was, is given a name, or is named by a run
pub data Fate (i : ℕ) (m : Moment) : Type 0 where
  stays : tag_of m.after.env i ≡ tag_of m.before.env i → (Gives i m → ⊥) → (Journals i m → ⊥) → Fate i m
  given : tag_of m.before.env i ≡ 0 → tag_of m.after.env i ≡ 1 → Gives i m → (Journals i m → ⊥) → Fate i m
  named : tag_of m.before.env i ≡ 0 → Promoted (tag_of m.after.env i) → Journals i m → (Gives i m → ⊥) → Fate i m

pub cases_option : {A : Type 0} (o : Option A) → (o ≡ None) ⊎ ((x : A) × (o ≡ Some x))
cases_option None = inl refl
cases_option (Some x) = inr (x, refl)

-- a run is accepted or refused
pub run_cases : {P : Type 0} {m : Model} {n : Notes} {ps : Span} {rows : List Row} {answer : Result (ℕ × ℕ) Refusal} {after : Model} {notes : Notes} → RunStep m n ps rows answer after notes → (run_refusal m n ps rows ≡ None → RunAccepted m ps rows answer after → P) → ((r : Refusal) → run_refusal m n ps rows ≡ Some r → RunRefused m n r answer after notes → P) → P
run_cases {m = m} {n = n} {ps = ps} {rows = rows} s accepted refused =
    ⊎_elim (λ e. accepted e (s.accepted e)) (λ e. refused e.0 e.1 (s.refused e.0 e.1)) (cases_option (run_refusal m n ps rows))

-- so is a gift
pub give_cases : {P : Type 0} {m : Model} {i : IdentifierId} {answer : Result (Unit {0}) Refusal} {after : Model} → GiveStep m i answer after → (give_refusal m i ≡ None → answer ≡ Ok tt → after ≡ tagged m i.0 1 → P) → ((r : Refusal) → answer ≡ Err r → after ≡ m → P) → P
give_cases {m = m} {i = i} s accepted refused =
    let leaves = λ (o : Option Refusal). unless o m (tagged m i.0 1) in
    ⊎_elim
    (λ e. accepted e (s.answers ∙ ap (λ o. answered o tt) e) (s.leaves ∙ ap leaves e))
    (λ e. refused e.0 (s.answers ∙ ap (λ o. answered o tt) e.1) (s.leaves ∙ ap leaves e.1))
    (cases_option (give_refusal m i))

-- a moment that leaves the environment, and is neither an accepted gift nor an accepted run
quiet : (i : ℕ) (m : Moment) → m.after.env ≡ m.before.env → (Gives i m → ⊥) → (Journals i m → ⊥) → Fate i m
quiet i m e g j = stays (ap (λ (x : Model). tag_of x i) e) g j

-- the journal after a call is what it was, and then the rows that the call added; these are of different identifiers, which an accepted run journalled
pub record Extends (m : Moment) : Type 0 where
  pub rows : journal_of m.after.env ≡ journal_of m.before.env ++ added m
  pub once : Once (added m)
  pub journals : (i : ℕ) → names i (added m) ≡ true → Journals i m

short_journal : (m : Model) → length (journal_of m) ≤ m.count
short_journal m = simp length-take (omega arith)

none_added : (m : Moment) → journal_of m.after.env ≡ journal_of m.before.env → added m ≡ []
none_added m e = drop_all m.before.env.count (journal_of m.after.env) (let l = short_journal m.before.env in omega (arith, ap length e))

same_journal : (m : Moment) → journal_of m.after.env ≡ journal_of m.before.env → Extends m
same_journal m e =
    let d = none_added m e in
    record {
      rows = e ∙ sym (append-nil (journal_of m.before.env)) ∙ ap (λ xs. journal_of m.before.env ++ xs) (sym d);
      once = subst Once (sym d) tt;
      journals = λ i n. cc (sym n ∙ ap (names i) d);
    }

pub full_journal : (m : Model) → m.count ≤ length m.journal → length (journal_of m) ≡ m.count
full_journal m h = simp length-take (omega arith)

pub added_rows : (b a : Model) (rows : List JournalRow) → Names b rows a → drop b.count (journal_of a) ≡ rows
added_rows b a rows n =
    let l = full_journal b (omega (arith, n.within)) in
    ap (drop b.count) n.journal ∙ drop_at (journal_of b) rows b.count l

refused_none : (b : Bool) (r : Refusal) (rest : Option Refusal) → cond b (Some r) rest ≡ None → (b ≡ false) × (rest ≡ None)
refused_none true r rest e = cc
refused_none false r rest e = (refl, e)

else_none : (b : Bool) (r : Refusal) → cond b None (Some r) ≡ None → b ≡ true
else_none true r e = refl
else_none false r e = cc

-- an accepted gift is to an identifier that is there and has no name
give_none : (m : Model) (i : IdentifierId) → give_refusal m i ≡ None → (i.0 < length m.identifiers) × (tag_of m i.0 ≡ 0)
give_none m i e =
    let a = refused_none (many_identifiers m) refusals.Limit _ e in
    let b = refused_none (absent m i) refusals.Absent _ a.1 in
    (leb-false _ _ b.0, eqb-true _ _ (else_none (eqb (tag_of m i.0) 0) refusals.Named b.1))

-- an accepted run is over a tree that is there
tree_ran : (m : Moment) (t : ℕ) (ps : Span) (place count : ℕ) → m.answer ≡ Ok (Ran place count) → TreeFollows m.before t ps m.answer m.after → RunFollows m.before t ps m.answer m.after
tree_ran m t ps place count said (there h f) = f
tree_ran m t ps place count said (nowhere h e same) = cc

pub ran_follows : (text : Text) (m : Moment) (t : ℕ) (ps : Span) (place count : ℕ) → m.request ≡ Run t ps → m.answer ≡ Ok (Ran place count) → Follows text m.before m.request m.answer m.after → RunFollows m.before t ps m.answer m.after
ran_follows text m t ps place count asked said f =
    let P : Request → Type 0 = λ q. Follows text m.before q m.answer m.after in
    tree_ran m t ps place count said (subst P asked f)

-- a run over a tree that is there
module _ (m : Moment) (t : ℕ) (ps : Span) (asked : m.request ≡ Run t ps) (f : RunFollows m.before t ps m.answer m.after) where
  no_gift : (i : ℕ) → Gives i m → ⊥
  no_gift i g = cc

  -- what the run journals
  abbrev rows : List JournalRow
  rows = reasons.journal m.before.env ps (tree_at m.before t).rows

  module _ (a : RunAccepted m.before.env ps (tree_at m.before t).rows f.answer m.after.env) where
    is_added : added m ≡ rows
    is_added = added_rows m.before.env m.after.env rows a.names_them

    ran : m.answer ≡ Ok (Ran m.before.env.count (length rows))
    ran = f.told ∙ ap ran_as a.answers

    accepted_journals : (i : ℕ) → names i rows ≡ true → Journals i m
    accepted_journals i e = record { tree = t; parameters = ps; place = m.before.env.count; count = length rows; asked = asked; accepted = ran; journalled = ap (names i) is_added ∙ e }

    accepted_fate : (i : ℕ) → Fate i m
    accepted_fate i =
        let n = a.names_them in
        ⊎_elim
        (λ e. named
        (member (λ k. tag_of m.before.env k ≡ 0) rows i (each_imp _ _ (λ r h. h.1) rows n.unnamed) e)
        (member (λ k. Promoted (tag_of m.after.env k)) rows i n.promoted e)
        (accepted_journals i e)
        (no_gift i))
        (λ e. stays
        (ap (λ (x : Identifier). x.tag) (n.others i e))
        (no_gift i)
        (λ j. cc (sym j.journalled ∙ ap (names i) is_added ∙ e)))
        (cases_Bool (names i rows))

    accepted_journal : Extends m
    accepted_journal = record {
      rows = a.names_them.journal ∙ ap (λ xs. journal_of m.before.env ++ xs) (sym is_added);
      once = subst Once (sym is_added) a.names_them.once;
      journals = λ i e. accepted_journals i (ap (names i) (sym is_added) ∙ e);
    }

  -- an accepted run adds exactly those rows
  pub run_covered : (place count : ℕ) → m.answer ≡ Ok (Ran place count) → added m ≡ reasons.journal m.before.env ps (tree_at m.before t).rows
  run_covered place count said = run_cases f.step (λ e a. is_added a) (λ r e no. cc (sym said ∙ f.told ∙ ap ran_as no.answers))

  pub run_answered : (place count : ℕ) → m.answer ≡ Ok (Ran place count) → (place ≡ m.before.env.count) × (count ≡ length (added m))
  run_answered place count said =
      run_cases f.step
      (λ e a.
      let told = ran a in
      let here : place ≡ m.before.env.count = cc in
      let many : count ≡ length rows = cc in
      (here, many ∙ ap length (sym (is_added a))))
      (λ r e no. cc (sym said ∙ f.told ∙ ap ran_as no.answers))

  pub run_fate : (i : ℕ) → Fate i m
  run_fate i = run_cases f.step (λ e a. accepted_fate a i) (λ r e no. quiet i m no.env (no_gift i) (λ j. cc (sym j.accepted ∙ f.told ∙ ap ran_as no.answers)))

  pub run_journal : Extends m
  run_journal = run_cases f.step (λ e a. accepted_journal a) (λ r e no. same_journal m (ap journal_of no.env))

module _ (m : Moment) (id : IdentifierId) (asked : m.request ≡ Give id) (f : GiveFollows m.before id m.answer m.after) where
  accepted_gift : give_refusal m.before.env id ≡ None → m.answer ≡ Ok Given → m.after.env ≡ tagged m.before.env id.0 1 → (i : ℕ) → Fate i m
  accepted_gift e said after i =
      let h = give_none m.before.env id e in
      ⊎_elim
      (λ same. given
      (ap (tag_of m.before.env) same ∙ h.1)
      (ap (λ (x : Model). tag_of x i) after ∙ ap (tag_of (tagged m.before.env id.0 1)) same ∙ ap (λ (x : Identifier). x.tag) (get_or-set_same m.before.env.identifiers id.0 _ no_identifier h.0))
      (asked ∙ ap (λ k. Give (ident k)) (sym same), said)
      (λ j. cc))
      (λ other. stays
      (ap (λ (x : Model). tag_of x i) after ∙ ap (λ (x : Identifier). x.tag) (get_or-set_other m.before.env.identifiers id.0 i _ no_identifier other))
      (λ g. other (let q : id ≡ ident i = cc in sym (ap (λ (x : IdentifierId). x.0) q)))
      (λ j. cc))
      (cases_eq i id.0)

  give_fate : (i : ℕ) → Fate i m
  give_fate i =
      give_cases f.step
      (λ e said after. accepted_gift e (f.told ∙ ap given_as said) after i)
      (λ r no after. quiet i m after (λ g. cc (sym g.1 ∙ f.told ∙ ap given_as no)) (λ j. cc))

  give_journal : Extends m
  give_journal = same_journal m (give_cases f.step (λ e said after. ap journal_of after) (λ r no after. ap journal_of after))

quiet_journal : (m : Moment) → m.after.env ≡ m.before.env → Extends m
quiet_journal m same = same_journal m (ap journal_of same)

-- no call but a run answers as a run does
never_ran : {X : Type 0} (reply : X → Reply) → ((x : X) (place count : ℕ) → reply x ≡ Ran place count → ⊥) → (a : Result X Refusal) (place count : ℕ) → Ok (Ran place count) ≡ told_as reply a → ⊥
never_ran reply apart (Ok x) place count e = apart x place count (let q : Ran place count ≡ reply x = cc in sym q)
never_ran reply apart (Err r) place count e = cc

-- what a call that follows does
pub record Done (m : Moment) : Type 0 where
  pub fate : (i : ℕ) → Fate i m
  pub journal : Extends m
  pub answered : (place count : ℕ) → m.answer ≡ Ok (Ran place count) → (place ≡ m.before.env.count) × (count ≡ length (added m))

done_tree : (m : Moment) (t : ℕ) (ps : Span) → m.request ≡ Run t ps → TreeFollows m.before t ps m.answer m.after → Done m
done_tree m t ps asked (there h f) = record { fate = run_fate m t ps asked f; journal = run_journal m t ps asked f; answered = run_answered m t ps asked f }
done_tree m t ps asked (nowhere h a e) =
    let same = ap (λ (w : World). w.env) e in
    record { fate = λ i. quiet i m same (λ g. cc) (λ j. cc); journal = quiet_journal m same; answered = λ place count said. cc }

done_by : (text : Text) (m : Moment) (q : Request) → m.request ≡ q → Follows text m.before q m.answer m.after → Done m
done_by text m (Run t ps) asked f = done_tree m t ps asked f
done_by text m (Give id) asked f = record { fate = give_fate m id asked f; journal = give_journal m id asked f; answered = λ place count said. absurd (never_ran _ (λ u p n e. cc) f.answer place count (sym said ∙ f.told)) }
done_by text m (Look id) asked f =
    let same = ap (λ (w : World). w.env) f.rest in
    record { fate = λ i. quiet i m same (λ g. cc) (λ j. cc); journal = quiet_journal m same; answered = λ place count said. absurd (never_ran _ (λ x p n e. cc) f.answer place count (sym said ∙ f.told)) }
done_by text m (Spell id) asked f =
    let same = ap (λ (w : World). w.env) f.rest in
    record { fate = λ i. quiet i m same (λ g. cc) (λ j. cc); journal = quiet_journal m same; answered = λ place count said. absurd (never_ran _ (λ x p n e. cc) f.answer place count (sym said ∙ f.told)) }

pub done_call : (text : Text) (m : Moment) → Follows text m.before m.request m.answer m.after → Done m
done_call text m f = done_by text m m.request refl f

-- When a call is refused, and what it leaves then. Assumes nothing.
use Rattle.std.proofs.Common.{◌≡◌, ℕ, Some, None, Err, Option, slice_set, sym, ap, ◌∙◌, subst, ⊎_elim}
use Rattle.std.proofs.lemmas.Bool.{cond-true, cond-false, lt-ltb, le-ltb}
use Rattle.hir.specs.declared.refusal.Refusal.{Refusal}
use Rattle.hir.specs.declared.span.Span.{Span}
use Rattle.hir.specs.Refusals.{answered, unless}
use Rattle.reactive.specs.Rows.{rewound}
use Rattle.checks.specs.Rows.{run_refusal}
use Rattle.calls.specs.declared.requests.Request.{Request}
use Rattle.calls.specs.declared.requests.Request.TheVariants.{Run, Give, Look, Spell}
use Rattle.calls.specs.declared.requests.Reply.{Reply}
use Rattle.calls.specs.declared.requests.RequestError.TheVariants.{Refused}
use Rattle.hir.specs.Environments.{tagged}
use Rattle.naming.specs.Texts.{overwritten}
use Rattle.calls.specs.Steps.{Text, promoted_name}
use Rattle.calls.specs.Histories.{RequestAnswer, World, world, Moment, tree_at, told_as, ran_as, given_as, looked_as, spelled_as, RunFollows, TreeFollows, there, nowhere, Follows}
use Rattle.calls.specs.Words.{refusal_in, rewound_in}
use Rattle.calls.proofs.Fates.{run_cases, cases_option}

-- what a call answers and leaves, by its refusal
pub record Outcome (o : Option Refusal) (a : RequestAnswer) (left kept : World) : Type 0 where
  pub no : (r : Refusal) → o ≡ Some r → (a ≡ Err (Refused r)) × (left ≡ kept)
  pub yes : (r : Refusal) → o ≡ None → a ≡ Err (Refused r) → ⊥

-- a call that answers by its refusal, and then leaves the world
by_answer : {X : Type 0} (reply : X → Reply) (o : Option Refusal) (x : X) (a : RequestAnswer) (left kept : World) → a ≡ told_as reply (answered o x) → ((r : Refusal) → o ≡ Some r → left ≡ kept) → Outcome o a left kept
by_answer reply o x a left kept told leaves = record {
  no = λ r e. (told ∙ ap (λ p. told_as reply (answered p x)) e, leaves r e);
  yes = λ r e said. cc (sym said ∙ told ∙ ap (λ p. told_as reply (answered p x)) e);
}

-- a run over a tree that is there
run_outcome : (w : World) (t : ℕ) (ps : Span) (a : RequestAnswer) (v : World) → RunFollows w t ps a v → Outcome (run_refusal w.env w.notes ps (tree_at w t).rows) a v (rewound_in w (Run t ps))
run_outcome w t ps a v f =
    run_cases f.step
    (λ e ran. record {
      no = λ r some. cc (sym e ∙ some);
      yes = λ r none said. cc (sym said ∙ f.told ∙ ap ran_as ran.answers);
    })
    (λ r e no. record {
      no = λ s some.
          let told : a ≡ Err (Refused r) = f.told ∙ ap ran_as no.answers in
          let same : r ≡ s = cc in
          let trees = slice_set w.trees t (rewound (tree_at w t)) in (
            told ∙ ap (λ x. Err (Refused x)) same,
            ap (λ x. world x v.notes v.trees v.text) no.env
                ∙ ap (λ x. world w.env x v.trees v.text) no.scratch
                ∙ ap (λ x. world w.env w.notes x v.text) f.trees
                ∙ ap (λ x. world w.env w.notes trees x) f.text,
          );
      yes = λ s none said. cc (sym e ∙ none);
    })

-- where no tree has the number, no call is made
tree_outcome : (w : World) (t : ℕ) (ps : Span) (a : RequestAnswer) (v : World) (text : Text) → TreeFollows w t ps a v → Outcome (refusal_in text w (Run t ps)) a v (rewound_in w (Run t ps))
tree_outcome w t ps a v text (there h f) =
    let e : refusal_in text w (Run t ps) ≡ run_refusal w.env w.notes ps (tree_at w t).rows = cond-true _ _ _ (lt-ltb _ _ h) in
    let P : Option Refusal → Type 0 = λ o. Outcome o a v (rewound_in w (Run t ps)) in
    subst P (sym e) (run_outcome w t ps a v f)
tree_outcome w t ps a v text (nowhere h said same) =
    let e : refusal_in text w (Run t ps) ≡ None = cond-false _ _ _ (le-ltb _ _ h) in
    record { no = λ r some. cc (sym e ∙ some); yes = λ r none is. cc (sym is ∙ said) }

outcome : (text : Text) (w : World) (q : Request) (a : RequestAnswer) (v : World) → Follows text w q a v → Outcome (refusal_in text w q) a v (rewound_in w q)
outcome text w (Run t ps) a v f = tree_outcome w t ps a v text f
outcome text w (Give i) a v f = by_answer _ _ _ _ _ _ (f.told ∙ ap given_as f.step.answers) (λ r e. f.rest ∙ ap (λ m. world m w.notes w.trees w.text) (f.step.leaves ∙ ap (λ o. unless o w.env (tagged w.env i.0 1)) e))
outcome text w (Look i) a v f = by_answer _ _ _ _ _ _ (f.told ∙ ap looked_as f.step.answers) (λ r e. f.rest)
outcome text w (Spell i) a v f = by_answer _ _ _ _ _ _ (f.told ∙ ap spelled_as f.step.answers) (λ r e. f.rest ∙ ap (λ b. world w.env w.notes w.trees b) (f.step.leaves ∙ ap (λ o. unless o w.text (overwritten (promoted_name text w.env i) w.text)) e))

module _ (text : Text) (m : Moment) (f : Follows text m.before m.request m.answer m.after) (r : Refusal) where
  pub refuses_by : refusal_in text m.before m.request ≡ Some r → m.answer ≡ Err (Refused r)
  refuses_by e = ((outcome text _ _ _ _ f).no r e).0

  pub refused_by : m.answer ≡ Err (Refused r) → refusal_in text m.before m.request ≡ Some r
  refused_by said =
      ⊎_elim
      (λ e. absurd ((outcome text _ _ _ _ f).yes r e said))
      (λ e. let other = ((outcome text _ _ _ _ f).no e.0 e.1).0 in let same : e.0 ≡ r = cc in e.1 ∙ ap Some same)
      (cases_option (refusal_in text m.before m.request))

  pub untouched_by : m.answer ≡ Err (Refused r) → m.after ≡ rewound_in m.before m.request
  untouched_by said = ((outcome text _ _ _ _ f).no r (refused_by said)).1

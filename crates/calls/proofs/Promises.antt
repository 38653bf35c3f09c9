-- The promise, from what each call does. Assumes nothing.
use Rattle.std.proofs.Common.{◌≡◌, ℕ, true, not, ◌⊎◌, List, [], ◌∷◌, ◌++◌, Some, None, Ok, Option, sym, refl, ap, ◌∙◌, subst, inl, inr, ⊎_elim, append_assoc, append-nil, arith}
use Rattle.std.proofs.lemmas.Bool.{eq-eqb, ne_eqb, false_from_ne_true}
use Rattle.hir.specs.declared.refusal.Refusal.{Refusal}
use Rattle.hir.specs.declared.tables.Identifier.{Identifier}
use Rattle.hir.specs.Environments.{row_of, tag_of, journal_of}
use Rattle.hir.specs.Refusals.{answered}
use Rattle.hir.specs.Spans.{ident}
use Rattle.calls.specs.declared.requests.Request.{Request}
use Rattle.calls.specs.declared.requests.Request.TheVariants.{Run, Give, Look, Spell}
use Rattle.calls.specs.declared.requests.Reply.TheVariants.{Tag}
use Rattle.calls.specs.Steps.{Text, look_refusal}
use Rattle.reasons.specs.Laws.{Once}
use Rattle.reasons.specs.Journals.{names}
use Rattle.calls.proofs.Refusing.{refused_by, refuses_by, untouched_by}
use Rattle.calls.specs.Histories.{World, Moment, tree_at, looked_as, Follows, History, start, next, Somewhere}
use Rattle.calls.specs.Words.{is_named, Gives, added, Journals, JournalsAs, TagFollows, by_gift, by_run, by_start, Within, Alike, all_added}
use Rattle.calls.specs.Promise.{Promise}
use Rattle.naming.specs.Texts.{Lawful}
use Rattle.reasons.specs.Coverings as reasons
use Rattle.calls.proofs.Naming.{Promoted, promoted_some, names_apart, once_append}
use Rattle.calls.proofs.Fates.{Fate, stays, given, named, done_call, ran_follows, run_covered}
use Rattle.calls.proofs.Spellings.{declares_on, as_many_on, tables_on, call_letter, alike_by}

-- what a list of calls does to an identifier
data Tale (i : ℕ) (w : World) (ms : List Moment) (u : World) : Type 0 where
  stood : tag_of u.env i ≡ tag_of w.env i → (Somewhere (Gives i) ms → ⊥) → (Somewhere (Journals i) ms → ⊥) → Tale i w ms u
  gifted : tag_of w.env i ≡ 0 → tag_of u.env i ≡ 1 → Somewhere (Gives i) ms → (Somewhere (Journals i) ms → ⊥) → Tale i w ms u
  ran : tag_of w.env i ≡ 0 → Promoted (tag_of u.env i) → Somewhere (JournalsAs i (tag_of u.env i)) ms → (Somewhere (Gives i) ms → ⊥) → Tale i w ms u

-- one call, and then the others
joined : (i : ℕ) (u : World) (m : Moment) (ms : List Moment) → Fate i m → Tale i m.after ms u → Tale i m.before (m ∷ ms) u
joined i u m ms (stays s g j) (stood t h k) = stood (t ∙ s) (⊎_elim g h) (⊎_elim j k)
joined i u m ms (stays s g j) (gifted z o h k) = gifted (sym s ∙ z) o (inr h) (⊎_elim j k)
joined i u m ms (stays s g j) (ran z o h k) = ran (sym s ∙ z) o (inr h) (⊎_elim g k)
joined i u m ms (given z o g j) (stood t h k) = gifted z (t ∙ o) (inl g) (⊎_elim j k)
joined i u m ms (given z o g j) (gifted y p h k) = absurd (omega (arith, o, y))
joined i u m ms (given z o g j) (ran y p h k) = absurd (omega (arith, o, y))
joined i u m ms (named z o j g) (stood t h k) = ran z (subst Promoted (sym t) o) (inl (j, sym t)) (⊎_elim g h)
joined i u m ms (named z o j g) (gifted y p h k) = absurd (promoted_some _ o y)
joined i u m ms (named z o j g) (ran y p h k) = absurd (promoted_some _ o y)

tale : (text : Text) (i : ℕ) (w u : World) (ms : List Moment) → History text w ms u → Tale i w ms u
tale text i w u [] start = stood refl (λ x. x) (λ x. x)
tale text i w u (x ∷ ms) (next m e f h) =
    let P : World → Type 0 = λ x. Tale i x (m ∷ ms) u in
    subst P e (joined i u m ms ((done_call text m f).fate i) (tale text i m.after u ms h))

is_named_by_tag : (w : World) (i : ℕ) → (tag_of w.env i ≡ 0 → ⊥) → is_named w i ≡ true
is_named_by_tag w i ne = ap not (ne_eqb (tag_of w.env i) 0 ne)

named_some : (w : World) (i : ℕ) → is_named w i ≡ true → tag_of w.env i ≡ 0 → ⊥
named_some w i e z = cc (sym (ap not (eq-eqb (tag_of w.env i) 0 z)) ∙ e)

somewhere_named : (i t : ℕ) (ms : List Moment) → Somewhere (JournalsAs i t) ms → Somewhere (Journals i) ms
somewhere_named i t [] h = h
somewhere_named i t (m ∷ ms) h = ⊎_elim (λ x. inl x.0) (λ x. inr (somewhere_named i t ms x)) h

tag_follows : (i : ℕ) (w u : World) (ms : List Moment) → Tale i w ms u → TagFollows w ms i (tag_of u.env i)
tag_follows i w u ms (stood t g j) = by_start g j t
tag_follows i w u ms (gifted z o g j) = by_gift g o
tag_follows i w u ms (ran z o j g) = by_run j o

module _ (i : ℕ) (w u : World) (ms : List Moment) where
  tale_named : Tale i w ms u → is_named u i ≡ true → (is_named w i ≡ true) ⊎ (Somewhere (Gives i) ms ⊎ Somewhere (Journals i) ms)
  tale_named (stood t g j) e = inl (is_named_by_tag w i (λ z. named_some u i e (t ∙ z)))
  tale_named (gifted z o g j) e = inr (inl g)
  tale_named (ran z o j g) e = inr (inr (somewhere_named i _ ms j))

  tale_start : Tale i w ms u → is_named w i ≡ true → tag_of u.env i ≡ tag_of w.env i
  tale_start (stood t g j) e = t
  tale_start (gifted z o g j) e = absurd (named_some w i e z)
  tale_start (ran z o j g) e = absurd (named_some w i e z)

  tale_gift : Tale i w ms u → Somewhere (Gives i) ms → is_named u i ≡ true
  tale_gift (stood t g j) h = absurd (g h)
  tale_gift (gifted z o g j) h = is_named_by_tag u i (λ k. omega (arith, o, k))
  tale_gift (ran z o j g) h = absurd (g h)

  tale_run : Tale i w ms u → Somewhere (Journals i) ms → is_named u i ≡ true
  tale_run (stood t g j) h = absurd (j h)
  tale_run (gifted z o g j) h = absurd (j h)
  tale_run (ran z o j g) h = is_named_by_tag u i (promoted_some _ o)

  tale_start_gift : Tale i w ms u → is_named w i ≡ true → Somewhere (Gives i) ms → ⊥
  tale_start_gift (stood t g j) e h = g h
  tale_start_gift (gifted z o g j) e h = named_some w i e z
  tale_start_gift (ran z o j g) e h = g h

  tale_start_run : Tale i w ms u → is_named w i ≡ true → Somewhere (Journals i) ms → ⊥
  tale_start_run (stood t g j) e h = j h
  tale_start_run (gifted z o g j) e h = j h
  tale_start_run (ran z o j g) e h = named_some w i e z

  tale_gift_run : Tale i w ms u → Somewhere (Gives i) ms → Somewhere (Journals i) ms → ⊥
  tale_gift_run (stood t g j) x y = g x
  tale_gift_run (gifted z o g j) x y = j y
  tale_gift_run (ran z o j g) x y = g x

-- the calls before a moment, and those from it on
record Cut (text : Text) (w : World) (before : List Moment) (m : Moment) (rest : List Moment) (u : World) : Type 0 where
  first : History text w before m.before
  follows : Follows text m.before m.request m.answer m.after
  later : History text m.before (m ∷ rest) u

cut_here : (text : Text) (w u : World) (m : Moment) (rest : List Moment) → History text w (m ∷ rest) u → Cut text w [] m rest u
cut_here text w u x rest (next m e f h) =
    let P : World → Type 0 = λ x. History text x [] m.before in
    record { first = subst P e start; follows = f; later = next m refl f h }

cut : (text : Text) (w u : World) (before : List Moment) (m : Moment) (rest : List Moment) → History text w (before ++ (m ∷ rest)) u → Cut text w before m rest u
cut text w u [] m rest h = cut_here text w u m rest h
cut text w u (x ∷ before) m rest (next b e f h) =
    let c = cut text b.after u before m rest h in
    record { first = next b e f c.first; follows = c.follows; later = c.later }

cut_at : (text : Text) (w u : World) (ms before : List Moment) (m : Moment) (rest : List Moment) → ms ≡ before ++ (m ∷ rest) → History text w ms u → Cut text w before m rest u
cut_at text w u ms before m rest e h = let P : List Moment → Type 0 = λ xs. History text w xs u in cut text w u before m rest (subst P e h)

-- an accepted look answers the tag of its moment
look_answer : (o : Option Refusal) (tag t : ℕ) → Ok (Tag t) ≡ looked_as (answered o tag) → t ≡ tag
look_answer None tag t e = cc
look_answer (Some r) tag t e = cc

looked : (text : Text) (m : Moment) (i t : ℕ) (q : Request) → m.request ≡ q → q ≡ Look (ident i) → m.answer ≡ Ok (Tag t) → Follows text m.before q m.answer m.after → t ≡ tag_of m.before.env i
looked text m i t (Run a b) e is said f = cc
looked text m i t (Give a) e is said f = cc
looked text m i t (Look a) e is said f =
    let same : a ≡ ident i = cc in
    look_answer (look_refusal m.before.env a) (tag_of m.before.env a.0) t (sym said ∙ f.told ∙ ap looked_as f.step.answers)
    ∙ ap (λ x. tag_of m.before.env x.0) same
looked text m i t (Spell a) e is said f = cc

after_here : (text : Text) (w u : World) (m : Moment) (rest : List Moment) → History text w (m ∷ rest) u → History text m.after rest u
after_here text w u x rest (next m e f h) = h

-- some calls lead from one world to another
record Led (text : Text) (w v : World) : Type 0 where
  calls : List Moment
  history : History text w calls v

led_none : (text : Text) (w v : World) → v ≡ w → Led text w v
led_none text w v e = let P : World → Type 0 = λ x. Led text w x in subst P (sym e) (record { calls = []; history = start })

-- calls lead to each world between them
led_within : (text : Text) (w u v : World) (ms : List Moment) → History text w ms u → Within ms u v → Led text w v
led_within text w u v [] start h = led_none text w v (⊎_elim (λ x. absurd x) (λ e. e) h)
led_within text w u v (x ∷ ms) (next m e f h) at =
    let on : Within ms u v → Led text w v = λ later.
    let l = led_within text m.after u v ms h later in
    record { calls = m ∷ l.calls; history = next m e f l.history } in
    ⊎_elim (λ some. ⊎_elim (λ here. led_none text w v (here ∙ e)) (λ later. on (inl later)) some) (λ last. on (inr last)) at

journalled_fate : (k : ℕ) (m : Moment) → Journals k m → Fate k m → tag_of m.after.env k ≡ 0 → ⊥
journalled_fate k m c (stays s g n) z = n c
journalled_fate k m c (given x o g n) z = n c
journalled_fate k m c (named x o n g) z = promoted_some _ o z

-- what a run journalled has a name after it
journalled_named : (text : Text) (m : Moment) (k : ℕ) → Follows text m.before m.request m.answer m.after → Journals k m → tag_of m.after.env k ≡ 0 → ⊥
journalled_named text m k f c = journalled_fate k m c ((done_call text m f).fate k)

-- a tag and a declaration are all of an identifier's row
row_by : (x y : Identifier) → x.tag ≡ y.tag → x.declaration.0 ≡ y.declaration.0 → x ≡ y
row_by x y t d = λ i. record { declaration = record { 0 = d i }; tag = t i }

-- a name that stands, later on
stands_later : (text : Text) (v : World) (m : Moment) (i : ℕ) → Follows text m.before m.request m.answer m.after → Led text m.after v → is_named m.before i ≡ true → row_of v.env i ≡ row_of m.before.env i
stands_later text v m i f led n =
    let whole : History text m.before (m ∷ led.calls) v = next m refl f led.history in
    row_by _ _ (tale_start i m.before v (m ∷ led.calls) (tale text i m.before v (m ∷ led.calls) whole) n) (declares_on text m.before v (m ∷ led.calls) whole i)

-- two identifiers that one run named, later on
alike_later : (text : Text) (v : World) (m : Moment) (i j : ℕ) → Follows text m.before m.request m.answer m.after → Led text m.after v → Journals i m → Journals j m → (naming : Text) → Lawful naming → Alike naming v.env i j
alike_later text v m i j f led a b naming law =
    let whole : History text m.before (m ∷ led.calls) v = next m refl f led.history in
    let stands_so : (k : ℕ) → Journals k m → tag_of v.env k ≡ tag_of m.after.env k = λ k c.
    tale_start k m.after v led.calls (tale text k m.after v led.calls led.history) (is_named_by_tag m.after k (journalled_named text m k f c)) in
    alike_by naming law m (reasons.upper m.before.env (tree_at m.before a.tree).rows) v i j
    (call_letter m a.tree a.parameters i a text a.asked f)
    (call_letter m a.tree a.parameters j b text a.asked f)
    (λ k. declares_on text m.before v (m ∷ led.calls) whole k)
    (as_many_on text m.before v (m ∷ led.calls) whole)
    (stands_so i a) (stands_so j b)

-- the rows that calls added are of identifiers that accepted runs journalled
added_by : (text : Text) (w u : World) (ms : List Moment) → History text w ms u → (i : ℕ) → names i (all_added ms) ≡ true → Somewhere (Journals i) ms
added_by text w u [] start i n = cc n
added_by text w u (x ∷ ms) (next m e f h) i n =
    ⊎_elim
    (λ here. inl ((done_call text m f).journal.journals i here))
    (λ later. inr (added_by text m.after u ms h i later))
    (names_apart i (added m) (all_added ms) n)

-- no identifier is journalled twice
once_all : (text : Text) (w u : World) (ms : List Moment) → History text w ms u → Once (all_added ms)
once_all text w u [] start = tt
once_all text w u (x ∷ ms) (next m e f h) =
    once_append (added m) (all_added ms) (done_call text m f).journal.once (once_all text m.after u ms h)
    (λ i here. false_from_ne_true _ (λ later.
    tale_start_run i m.after u ms (tale text i m.after u ms h)
    (is_named_by_tag m.after i (journalled_named text m i f ((done_call text m f).journal.journals i here)))
    (added_by text m.after u ms h i later)))

all_journal : (text : Text) (w u : World) (ms : List Moment) → History text w ms u → journal_of u.env ≡ journal_of w.env ++ all_added ms
all_journal text w u [] start = sym (append-nil (journal_of w.env))
all_journal text w u (x ∷ ms) (next m e f h) =
    all_journal text m.after u ms h
    ∙ ap (λ xs. xs ++ all_added ms) ((done_call text m f).journal.rows ∙ ap (λ (x : World). journal_of x.env ++ added m) e)
    ∙ append_assoc (journal_of w.env) (added m) (all_added ms)

pub promise : (text : Text) (w : World) (ms : List Moment) (u : World) → History text w ms u → Promise text w ms u
promise text w ms u h =
    let t : (i : ℕ) → Tale i w ms u = λ i. tale text i w u ms h in
    record {
      history = h;
      named = λ i. tale_named i w u ms (t i);
      start_named = λ i e. is_named_by_tag u i (λ z. named_some w i e (sym (tale_start i w u ms (t i) e) ∙ z));
      gift_named = λ i. tale_gift i w u ms (t i);
      run_named = λ i. tale_run i w u ms (t i);
      start_or_gift = λ i. tale_start_gift i w u ms (t i);
      start_or_run = λ i. tale_start_run i w u ms (t i);
      gift_or_run = λ i. tale_gift_run i w u ms (t i);
      once = once_all text w u ms h;
      stands = λ before rest m v i e at n.
          let c = cut_at text w u ms before m rest e h in
          stands_later text v m i c.follows (led_within text m.after u v rest (after_here text m.before u m rest c.later) at) n;
      letter = λ before rest m i e j. (call_letter m j.tree j.parameters i j text j.asked (cut_at text w u ms before m rest e h).follows).tag;
      answered = λ before rest m place count e said. (done_call text m (cut_at text w u ms before m rest e h).follows).answered place count said;
      adds = λ before rest m i e n. (done_call text m (cut_at text w u ms before m rest e h).follows).journal.journals i n;
      declarations = declares_on text w u ms h;
      tables = tables_on text w u ms h;
      journal = all_journal text w u ms h;
      covered = λ before rest m k ps place count e asked said. run_covered m k ps asked (ran_follows text m k ps place count asked said (cut_at text w u ms before m rest e h).follows) place count said;
      refused = λ before rest m r e said. refused_by text m (cut_at text w u ms before m rest e h).follows r said;
      refuses = λ before rest m r e some. refuses_by text m (cut_at text w u ms before m rest e h).follows r some;
      untouched = λ before rest m r e said. untouched_by text m (cut_at text w u ms before m rest e h).follows r said;
      alike = λ before rest m v i j e at a b naming law.
          let c = cut_at text w u ms before m rest e h in
          alike_later text v m i j c.follows (led_within text m.after u v rest (after_here text m.before u m rest c.later) at) a b naming law;
      tags = λ i. tag_follows i w u ms (t i);
      looks = λ before rest m i x e asked said.
          let c = cut_at text w u ms before m rest e h in
          let P : ℕ → Type 0 = λ k. TagFollows w before i k in
          subst P (sym (looked text m i x m.request refl asked said c.follows)) (tag_follows i w m.before before (tale text i w m.before before c.first));
    }

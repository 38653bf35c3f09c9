-- How the names of one run are spelled. Assumes nothing.
use Rattle.std.proofs.Common.{◌≡◌, ℕ, zero, suc, ◌<◌, ◌≤◌, None, Option, inl, inr, nat_lt, Bool, true, false, cond, eqb, List, [], ◌∷◌, length, get_or, set, sym, refl, ap, ◌∙◌, ⊎_elim, arith, length-set, get_or-set_other, get_or-set_same}
use Rattle.std.proofs.lemmas.Bool.{cases_Bool, cond-false, le-ltb, lt-leb, or_from, or_parts, or_cases, eqb-true, eqb-false}
use Rattle.hir.specs.declared.ids.DeclarationId.{DeclarationId}
use Rattle.hir.specs.declared.ids.IdentifierId.{IdentifierId}
use Rattle.hir.specs.declared.span.Span.{Span}
use Rattle.hir.specs.declared.tables.Identifier.{Identifier}
use Rattle.hir.specs.declared.tables.JournalRow.{JournalRow}
use Rattle.hir.specs.Environments.{Model, no_identifier, tag_of, declaration_of, tagged, with_tag}
use Rattle.hir.specs.declared.refusal.Refusal.{Refusal}
use Rattle.hir.specs.Refusals.{refused_if, answered, unless}
use Rattle.hir.specs.Sound.{Known}
use Rattle.hir.specs.Spans.{ident}
use Rattle.naming.specs.Texts.{Lawful, overwritten}
use Rattle.checks.proofs.Sound as checked
use Rattle.reasons.specs.Coverings as reasons
use Rattle.reasons.specs.Journals.{names, name_one, name_all}
use Rattle.calls.specs.declared.requests.Request.{Request}
use Rattle.calls.specs.declared.requests.Request.TheVariants.{Run, Give, Look, Spell}
use Rattle.calls.specs.Steps.{Text, letter_of, promoted_name, spell_refusal, Names}
use Rattle.calls.specs.Histories.{RequestAnswer, World, Moment, tree_at, ran_as, RunFollows, GiveFollows, TreeFollows, there, nowhere, Follows, History, start, next}
use Rattle.calls.specs.Words.{Journals, SpelledAs, Alike}
use Rattle.walk.proofs.Fitting.{each_imp}
use Rattle.calls.proofs.Naming.{Promoted, member}
use Rattle.calls.proofs.Fates.{run_cases, give_cases, added_rows, ran_follows}

-- setting a tag leaves every declaration
declaration_tagged : (is : List Identifier) (k i t : ℕ) → (get_or (set is k (with_tag (get_or is k no_identifier) t)) i no_identifier).declaration ≡ (get_or is i no_identifier).declaration
declaration_tagged [] k i t = refl
declaration_tagged (x ∷ is) zero zero t = refl
declaration_tagged (x ∷ is) zero (suc i) t = refl
declaration_tagged (x ∷ is) (suc k) zero t = refl
declaration_tagged (x ∷ is) (suc k) (suc i) t = declaration_tagged is k i t

declaration_one : (up : ℕ → Bool) (m : Model) (r : JournalRow) (i : ℕ) → declaration_of (name_one up m r) i ≡ declaration_of m i
declaration_one up m r i = ap (λ (d : DeclarationId). d.0) (declaration_tagged m.identifiers r.identifier.0 i (cond (up (declaration_of m r.identifier.0)) 3 2))

-- an identifier that no row is of keeps its tag
tag_other : (up : ℕ → Bool) (m : Model) (js : List JournalRow) (i : ℕ) → names i js ≡ false → tag_of (name_all up m js) i ≡ tag_of m i
tag_other up m [] i e = refl
tag_other up m (r ∷ js) i e =
    let p = or_parts (eqb i r.identifier.0) (names i js) e in
    tag_other up (name_one up m r) js i p.1
    ∙ ap (λ (x : Identifier). x.tag) (get_or-set_other m.identifiers r.identifier.0 i _ no_identifier (eqb-false i r.identifier.0 p.0))

-- an identifier that some row is of gets the tag of its declaration's letter
tag_all : (up : ℕ → Bool) (m : Model) (js : List JournalRow) (i : ℕ) → Known m (ident i) → names i js ≡ true → tag_of (name_all up m js) i ≡ cond (up (declaration_of m i)) 3 2
tag_all up m [] i h e = cc
tag_all up m (r ∷ js) i h e =
    ⊎_elim
    (λ later. tag_all up (name_one up m r) js i (simp length-set h) later ∙ ap (λ d. cond (up d) 3 2) (declaration_one up m r i))
    (λ none.
    let here : eqb i r.identifier.0 ≡ true = ⊎_elim (λ x. x) (λ x. cc) (or_cases (eqb i r.identifier.0) (names i js) e) in
    let q = eqb-true i r.identifier.0 here in
    tag_other up (name_one up m r) js i none
    ∙ ap (tag_of (name_one up m r)) q
    ∙ ap (λ (x : Identifier). x.tag) (get_or-set_same m.identifiers r.identifier.0 _ no_identifier (omega (arith, q)))
    ∙ ap (λ n. cond (up (declaration_of m n)) 3 2) (sym q))
    (cases_Bool (names i js))

-- what naming by rows and setting a tag leave stays as it was over any calls
module _ {X : Type 0} (f : Model → X) (by_rows : (m : Model) (rows : List JournalRow) (after : Model) → Names m rows after → f after ≡ f m) (by_tag : (m : Model) (i t : ℕ) → f (tagged m i t) ≡ f m) where
  tree_keeps : (w : World) (t : ℕ) (ps : Span) (a : RequestAnswer) (v : World) → TreeFollows w t ps a v → f v.env ≡ f w.env
  tree_keeps w t ps a v (there h s) = run_cases s.step (λ e ran. by_rows _ _ _ ran.names_them) (λ r e no. ap f no.env)
  tree_keeps w t ps a v (nowhere h e same) = ap (λ (x : World). f x.env) same

  give_keeps : (w : World) (id : IdentifierId) (a : RequestAnswer) (v : World) → GiveFollows w id a v → f v.env ≡ f w.env
  give_keeps w id a v s = give_cases s.step (λ e said after. ap f after ∙ by_tag w.env id.0 1) (λ r no after. ap f after)

  call_keeps : (text : Text) (w : World) (q : Request) (a : RequestAnswer) (v : World) → Follows text w q a v → f v.env ≡ f w.env
  call_keeps text w (Run t ps) a v s = tree_keeps w t ps a v s
  call_keeps text w (Give id) a v s = give_keeps w id a v s
  call_keeps text w (Look id) a v s = ap (λ (x : World). f x.env) s.rest
  call_keeps text w (Spell id) a v s = ap (λ (x : World). f x.env) s.rest

  keeps_on : (text : Text) (w u : World) (ms : List Moment) → History text w ms u → f u.env ≡ f w.env
  keeps_on text w u [] start = refl
  keeps_on text w u (x ∷ ms) (next m e s h) =
      keeps_on text m.after u ms h ∙ call_keeps text m.before m.request m.answer m.after s ∙ ap (λ (y : World). f y.env) e

-- no call changes a declaration, a scope, a function or the pool, or how many identifiers there are
pub declares_on : (text : Text) (w u : World) (ms : List Moment) → History text w ms u → (i : ℕ) → declaration_of u.env i ≡ declaration_of w.env i
declares_on text w u ms h i =
    keeps_on (λ m. declaration_of m i) (λ m rows after n. n.declarations i) (λ m k t. ap (λ (d : DeclarationId). d.0) (declaration_tagged m.identifiers k i t)) text w u ms h

pub tables_on : (text : Text) (w u : World) (ms : List Moment) → History text w ms u → (u.env.scopes ≡ w.env.scopes) × (u.env.functions ≡ w.env.functions) × (u.env.pool ≡ w.env.pool)
tables_on text w u ms h = (
  keeps_on (λ m. m.scopes) (λ m rows after n. n.scopes) (λ m k t. refl) text w u ms h,
  keeps_on (λ m. m.functions) (λ m rows after n. n.functions) (λ m k t. refl) text w u ms h,
  keeps_on (λ m. m.pool) (λ m rows after n. n.pool) (λ m k t. refl) text w u ms h,
)

pub as_many_on : (text : Text) (w u : World) (ms : List Moment) → History text w ms u → length u.env.identifiers ≡ length w.env.identifiers
as_many_on text w u ms h = keeps_on (λ m. length m.identifiers) (λ m rows after n. n.identifiers) (λ m k t. simp length-set refl) text w u ms h

-- an identifier that a run journalled: it is among those of the environment, whose number keeps the limit, its declaration is below that number, and its tag is that of its declaration's letter
pub record Lettered (m : Moment) (up : ℕ → Bool) (i : ℕ) : Type 0 where
  pub tag : tag_of m.after.env i ≡ cond (up (declaration_of m.before.env i)) 3 2
  pub known : i < length m.before.env.identifiers
  pub declared : declaration_of m.before.env i < length m.before.env.identifiers
  pub few : length m.before.env.identifiers ≤ 65536

module _ (m : Moment) (t : ℕ) (ps : Span) (i : ℕ) (j : Journals i m) where
  run_letter : RunFollows m.before t ps m.answer m.after → Lettered m (reasons.upper m.before.env (tree_at m.before t).rows) i
  run_letter f =
      run_cases f.step
      (λ e a.
      let rows = reasons.journal m.before.env ps (tree_at m.before t).rows in
      let is : names i rows ≡ true = ap (names i) (sym (added_rows m.before.env m.after.env rows a.names_them)) ∙ j.journalled in
      let known : i < length m.before.env.identifiers = member (λ k. k < length m.before.env.identifiers) rows i (each_imp _ _ (λ r h. h.0) rows a.names_them.unnamed) is in
      let s = checked.sound_tables m.before.env m.before.notes ps (checked.run_tables m.before.env m.before.notes ps (tree_at m.before t).rows e) in
      record {
        tag = ap (λ (x : Model). tag_of x i) a.env ∙ tag_all (reasons.upper m.before.env (tree_at m.before t).rows) m.before.env rows i known is;
        known = known;
        declared = s.declared i known;
        few = s.identifiers;
      })
      (λ r e no. cc (sym j.accepted ∙ f.told ∙ ap ran_as no.answers))

  pub call_letter : (text : Text) → m.request ≡ Run t ps → Follows text m.before m.request m.answer m.after → Lettered m (reasons.upper m.before.env (tree_at m.before t).rows) i
  call_letter text asked f = run_letter (ran_follows text m t ps j.place j.count asked j.accepted f)

-- spelling is refused only where one of its five conditions holds
unrefused : (limit gone bad plain : Bool) (a b c d : Refusal) (o : Option Refusal) → limit ≡ false → gone ≡ false → bad ≡ false → plain ≡ false → o ≡ None → refused_if limit a (refused_if gone b (refused_if bad c (refused_if plain d o))) ≡ None
unrefused limit gone bad plain a b c d o e f g h k = cc

-- an identifier with a promoted name is spelled as that
spelled_so : (naming : Text) (m : Model) (i : ℕ) → length m.identifiers ≤ 65536 → i < length m.identifiers → declaration_of m i < length m.identifiers → Promoted (tag_of m i) → SpelledAs naming m i (promoted_name naming m (ident i))
spelled_so naming m i few known declared tag buffer room =
    let name = promoted_name naming m (ident i) in
    let high : nat_lt 3 (tag_of m i) ≡ false = le-ltb _ _ (⊎_elim (λ e. omega arith) (λ e. omega arith) tag) in
    let low : nat_lt (tag_of m i) 2 ≡ false = le-ltb _ _ (⊎_elim (λ e. omega arith) (λ e. omega arith) tag) in
    let none : spell_refusal naming m (ident i) buffer ≡ None =
    unrefused _ _ _ _ _ _ _ _ _ (le-ltb _ _ few) (lt-leb _ _ known)
    (or_from _ _ (lt-leb _ _ declared) high)
    low
    (cond-false _ _ _ (le-ltb _ _ room))
    in
    record {
      answers = sym (ap (λ o. answered o (length name)) none);
      leaves = sym (ap (λ o. unless o buffer (overwritten name buffer)) none);
    }

-- names with such tags are spelled alike exactly when their declarations are equal
pub alike_by : (naming : Text) → Lawful naming → (m : Moment) (up : ℕ → Bool) (u : World) (i j : ℕ) → Lettered m up i → Lettered m up j → ((k : ℕ) → declaration_of u.env k ≡ declaration_of m.before.env k) → length u.env.identifiers ≡ length m.before.env.identifiers → tag_of u.env i ≡ tag_of m.after.env i → tag_of u.env j ≡ tag_of m.after.env j → Alike naming u.env i j
alike_by naming law m up u i j a b decl many ti tj =
    let tag_so : (k : ℕ) → Lettered m up k → tag_of u.env k ≡ tag_of m.after.env k → tag_of u.env k ≡ cond (up (declaration_of u.env k)) 3 2 = λ k l e. e ∙ l.tag ∙ ap (λ d. cond (up d) 3 2) (sym (decl k)) in
    let tag_i = tag_so i a ti in
    let tag_j = tag_so j b tj in
    let spelled_one : (k : ℕ) → Lettered m up k → tag_of u.env k ≡ tag_of m.after.env k → SpelledAs naming u.env k (promoted_name naming u.env (ident k)) = λ k l e.
    spelled_so naming u.env k (omega (arith, l.few, many)) (omega (arith, l.known, many)) (omega (arith, l.declared, decl k, many)) (letter_promoted (up (declaration_of u.env k)) _ (tag_so k l e)) in
    record {
      name = promoted_name naming u.env (ident i);
      other = promoted_name naming u.env (ident j);
      spelled = spelled_one i a ti;
      other_spelled = spelled_one j b tj;
      same = λ e.
          ap (λ t. naming (letter_of t) (declaration_of u.env i)) tag_i
          ∙ ap (λ d. naming (letter_of (cond (up d) 3 2)) d) e
          ∙ ap (λ t. naming (letter_of t) (declaration_of u.env j)) (sym tag_j);
      apart = λ e. law.numbers (letter_of (tag_of u.env i)) (letter_of (tag_of u.env j)) (declaration_of u.env i) (declaration_of u.env j) (omega (arith, a.declared, a.few, decl i)) (omega (arith, b.declared, b.few, decl j)) e;
    }
  where
    letter_promoted : (b : Bool) (t : ℕ) → t ≡ cond b 3 2 → Promoted t
    letter_promoted true t e = inr e
    letter_promoted false t e = inl e

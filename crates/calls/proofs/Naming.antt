-- What a run did follows from naming one identifier after another. Assumes nothing.
use Rattle.std.proofs.Common.{◌≡◌, ℕ, ◌+◌, ◌<◌, ◌≤◌, Bool, true, false, eqb, ◌⊎◌, List, [], ◌∷◌, ◌++◌, length, drop, sym, refl, ap, ◌∙◌, subst, inl, inr, ⊎_elim, append_assoc, append-nil, arith, length-set, get_or-set_other, get_or-set_same}
use Rattle.std.proofs.lemmas.List.{take_more_set, drop-set-lt, drop-drop, length_push}
use Rattle.std.proofs.lemmas.Bool.{cases_Bool, or_parts, or_from, or_cases, or_left, or_right, eq-eqb, ne_eqb, eqb-true, eqb-false, false_from_ne_true, true≢false}
use Rattle.hir.specs.declared.tables.Identifier.{Identifier}
use Rattle.hir.specs.declared.tables.JournalRow.{JournalRow}
use Rattle.hir.specs.Environments.{Model, no_identifier, row_of, tag_of, journal_of, tagged, journaled}
use Rattle.hir.specs.Lists.{Each}
use Rattle.hir.specs.Sound.{Known}
use Rattle.walk.proofs.Fitting.{each_append}
use Rattle.promote.specs.Growth.{Named, none, more}
use Rattle.promote.proofs.Growing.{Kept, kept}
use Rattle.reasons.specs.Journals.{names, name_one, name_all}
use Rattle.reasons.specs.Laws.{Once}
use Rattle.calls.specs.Steps.{Names}

names_push : (i : ℕ) (js : List JournalRow) (r : JournalRow) → names i (js ++ r ∷ []) ≡ false → (names i js ≡ false) × (eqb i r.identifier.0 ≡ false)
names_push i [] r e = let p = or_parts (eqb i r.identifier.0) false e in (refl, p.0)
names_push i (x ∷ js) r e =
    let p = or_parts (eqb i x.identifier.0) (names i (js ++ r ∷ [])) e in
    let q = names_push i js r p.1 in
    (or_from (eqb i x.identifier.0) (names i js) p.0 q.0, q.1)

push_names : (i : ℕ) (js : List JournalRow) (r : JournalRow) → names i js ≡ false → eqb i r.identifier.0 ≡ false → names i (js ++ r ∷ []) ≡ false
push_names i [] r e f = or_from (eqb i r.identifier.0) false f refl
push_names i (x ∷ js) r e f =
    let p = or_parts (eqb i x.identifier.0) (names i js) e in
    or_from (eqb i x.identifier.0) (names i (js ++ r ∷ [])) p.0 (push_names i js r p.1 f)

apart : (a b : ℕ) → eqb a b ≡ false → eqb b a ≡ false
apart a b e = ne_eqb b a (λ h. eqb-false a b e (sym h))

once_push : (js : List JournalRow) (r : JournalRow) → Once js → names r.identifier.0 js ≡ false → Once (js ++ r ∷ [])
once_push [] r d e = (refl, tt)
once_push (x ∷ js) r d e =
    let p = or_parts (eqb r.identifier.0 x.identifier.0) (names r.identifier.0 js) e in
    (push_names x.identifier.0 js r d.0 (apart r.identifier.0 x.identifier.0 p.0), once_push js r d.1 p.1)

-- a row of two lists is in one of them
pub names_apart : (i : ℕ) (xs ys : List JournalRow) → names i (xs ++ ys) ≡ true → (names i xs ≡ true) ⊎ (names i ys ≡ true)
names_apart i [] ys n = inr n
names_apart i (x ∷ xs) ys n =
    ⊎_elim
    (λ here. inl (or_left (eqb i x.identifier.0) (names i xs) here))
    (λ later. ⊎_elim (λ a. inl (or_right (eqb i x.identifier.0) (names i xs) a)) (λ b. inr b) (names_apart i xs ys later))
    (or_cases (eqb i x.identifier.0) (names i (xs ++ ys)) n)

names_none_of : (i : ℕ) (xs ys : List JournalRow) → names i xs ≡ false → names i ys ≡ false → names i (xs ++ ys) ≡ false
names_none_of i xs ys e f = false_from_ne_true _ (λ n. ⊎_elim (λ a. true≢false (sym a ∙ e)) (λ b. true≢false (sym b ∙ f)) (names_apart i xs ys n))

-- lists without a row of the same identifier
pub once_append : (xs ys : List JournalRow) → Once xs → Once ys → ((i : ℕ) → names i xs ≡ true → names i ys ≡ false) → Once (xs ++ ys)
once_append [] ys d e apart = e
once_append (x ∷ xs) ys d e apart = (
  names_none_of x.identifier.0 xs ys d.0 (apart x.identifier.0 (or_left _ (names x.identifier.0 xs) (eq-eqb x.identifier.0 x.identifier.0 refl))),
  once_append xs ys d.1 e (λ i n. apart i (or_right (eqb i x.identifier.0) (names i xs) n)),
)

-- what holds of the row of an identifier that some row is of
pub member : (P : ℕ → Type 0) (js : List JournalRow) (i : ℕ) → Each (λ r. P r.identifier.0) js → names i js ≡ true → P i
member P [] i h e = cc
member P (r ∷ js) i h e =
    ⊎_elim
    (λ here. subst P (sym (eqb-true i r.identifier.0 here)) h.0)
    (λ later. member P js i h.1 later)
    (or_cases (eqb i r.identifier.0) (names i js) e)

-- rows of other identifiers keep what holds of them
each_other : (P Q : ℕ → Type 0) (i : ℕ) → ((k : ℕ) → (k ≡ i → ⊥) → P k → Q k) → (js : List JournalRow) → names i js ≡ false → Each (λ r. P r.identifier.0) js → Each (λ r. Q r.identifier.0) js
each_other P Q i on [] e h = tt
each_other P Q i on (r ∷ js) e h =
    let p = or_parts (eqb i r.identifier.0) (names i js) e in
    (on r.identifier.0 (λ same. eqb-false i r.identifier.0 p.0 (sym same)) h.0, each_other P Q i on js p.1 h.1)

-- a tag of a promoted name
abbrev pub Promoted : ℕ → Type 0
Promoted t = (t ≡ 2) ⊎ (t ≡ 3)

pub promoted_some : (t : ℕ) → Promoted t → t ≡ 0 → ⊥
promoted_some t h z = ⊎_elim (λ e. omega arith) (λ e. omega arith) h

names_none : (m : Model) → m.count ≤ length m.journal → Names m [] m
names_none m h = record {
  unnamed = tt;
  once = tt;
  promoted = tt;
  others = λ i e. refl;
  declarations = λ i. refl;
  identifiers = refl;
  journal = sym (append-nil (journal_of m));
  count = omega arith;
  within = omega arith;
  beyond = refl;
  size = refl;
  scopes = refl;
  functions = refl;
  pool = refl;
}

module _ (m t : Model) (js : List JournalRow) (r : JournalRow) (tag : ℕ) (so : Names m js t) (keeps : Kept t (journaled (tagged t r.identifier.0 tag) r)) (known : Known t r.identifier) (was : tag_of t r.identifier.0 ≡ 0) (is : (tag ≡ 2) ⊎ (tag ≡ 3)) (room : t.count < length t.journal) where
  i : ℕ
  i = r.identifier.0

  on : Model
  on = journaled (tagged t r.identifier.0 tag) r

  fresh : names r.identifier.0 js ≡ false
  fresh = ⊎_elim (λ e. absurd (promoted_some _ (member (λ k. Promoted (tag_of t k)) js r.identifier.0 so.promoted e) was)) (λ e. e) (cases_Bool (names r.identifier.0 js))

  other_row : (k : ℕ) → (k ≡ r.identifier.0 → ⊥) → row_of on k ≡ row_of t k
  unfolding on
  other_row k ne = get_or-set_other t.identifiers r.identifier.0 k _ no_identifier ne

  own_tag : tag_of on r.identifier.0 ≡ tag
  unfolding on
  own_tag = ap (λ (x : Identifier). x.tag) (get_or-set_same t.identifiers r.identifier.0 _ no_identifier known)

  pub names_more : Names m (js ++ r ∷ []) (journaled (tagged t r.identifier.0 tag) r)
  unfolding on
  names_more = record {
    unnamed = each_append _ js (r ∷ []) so.unnamed ((omega (arith, so.identifiers), ap (λ (x : Identifier). x.tag) (sym (so.others r.identifier.0 fresh)) ∙ was), tt);
    once = once_push js r so.once fresh;
    promoted = each_append _ js (r ∷ [])
        (each_other (λ k. Promoted (tag_of t k)) (λ k. Promoted (tag_of on k)) r.identifier.0 (λ k ne h. let P : Identifier → Type 0 = λ x. Promoted x.tag in subst P (sym (other_row k ne)) h) js fresh so.promoted)
        (⊎_elim (λ e. inl (own_tag ∙ e)) (λ e. inr (own_tag ∙ e)) is, tt);
    others = λ k e. let p = names_push k js r e in other_row k (eqb-false k r.identifier.0 p.1) ∙ so.others k p.0;
    declarations = λ k. keeps.declarations k ∙ so.declarations k;
    identifiers = keeps.size ∙ so.identifiers;
    journal = take_more_set t.journal t.count r room ∙ ap (λ xs. xs ++ r ∷ []) so.journal ∙ append_assoc (journal_of m) js (r ∷ []);
    count = omega (arith, so.count, length_push js r);
    within = omega (arith, so.count, so.size, length_push js r);
    beyond = drop-set-lt (t.count + 1) t.journal t.count r (omega arith) ∙ sym (drop-drop 1 t.count t.journal) ∙ ap (drop 1) so.beyond ∙ drop-drop 1 t.count m.journal;
    size = keeps.journal ∙ so.size;
    scopes = so.scopes;
    functions = so.functions;
    pool = so.pool;
  }

pub named_names : {m t : Model} {js : List JournalRow} → Named m js t → m.count ≤ length m.journal → Names m js t
named_names {m} none h = names_none m h
named_names {m} (more {js = js} {t = t} r tag n known was is room) h =
    names_more m t js r tag (named_names n h) (kept (more r tag none known was is room)) known was is room

-- how many journal rows are in use once some rows were named
pub count_all : (up : ℕ → Bool) (m : Model) (js : List JournalRow) → (name_all up m js).count ≡ m.count + length js
count_all up m [] = omega arith
count_all up m (r ∷ js) = let h = count_all up (name_one up m r) js in omega (arith, h)

-- the journal once some rows were named
pub journal_all : (up : ℕ → Bool) (m : Model) (js : List JournalRow) → m.count + length js ≤ length m.journal → journal_of (name_all up m js) ≡ journal_of m ++ js
journal_all up m [] h = sym (append-nil (journal_of m))
journal_all up m (r ∷ js) h =
    journal_all up (name_one up m r) js (simp length-set (omega arith))
    ∙ ap (λ xs. xs ++ js) (take_more_set m.journal m.count r (omega arith))
    ∙ append_assoc (journal_of m) (r ∷ []) js

-- The tables of a run as the journal rows so far and what is noted of declarations. Assumes nothing.
use Rattle.std.proofs.Common.{◌≡◌, ℕ, zero, suc, ◌<◌, Bool, true, false, cond, not, ◌||◌, eqb, List, [], ◌∷◌, ◌++◌, length, get_or, set, sym, refl, ap, ◌∙◌, ⊎_elim, arith, length-set, get_or-set_other, get_or-set_same}
use Rattle.std.proofs.lemmas.List.Sums.{fold-append}
use Rattle.std.proofs.lemmas.Bool.{cases_eq, eq-eqb, ne_eqb, eqb-true}
use Rattle.hir.specs.declared.ids.IdentifierId.{IdentifierId}
use Rattle.hir.specs.declared.scratch.Work.{Work}
use Rattle.hir.specs.declared.tables.Identifier.{Identifier}
use Rattle.hir.specs.declared.tables.JournalRow.{JournalRow}
use Rattle.hir.specs.declared.tables.Reason.{Reason}
use Rattle.hir.specs.Environments.{Model, no_identifier, tag_of, declaration_of, tagged, journaled}
use Rattle.hir.specs.Lists.{Each}
use Rattle.hir.specs.Scratches.{Tables, no_work, work_of}
use Rattle.hir.specs.Sound.{Sound, Known}
use Rattle.promote.specs.Identifier.{as_promoted, promoted, is_unnamed, letter_tag, row}
use Rattle.promote.proofs.Growing.{Kept, kept, grows_promoted}
use Rattle.reasons.specs.Journals.{names, is_named, name_one, name_all}
use Rattle.reasons.proofs.Bools.{or_swap}
use Rattle.reasons.proofs.Admitting.{taken}

-- naming the identifier of a row leaves it named, and no other
named_one : (up : ℕ → Bool) (m : Model) (r : JournalRow) (i : ℕ) → Known m r.identifier → is_named (name_one up m r) i ≡ (eqb i r.identifier.0 || is_named m i)
named_one up m r i h =
    ⊎_elim
    (λ e.
    let t : tag_of (name_one up m r) i ≡ cond (up (declaration_of m r.identifier.0)) 3 2 =
    ap (tag_of (name_one up m r)) e ∙ ap (λ (x : Identifier). x.tag) (get_or-set_same m.identifiers r.identifier.0 _ no_identifier h) in
    ap (λ n. not (eqb n 0)) t ∙ letter_named (up (declaration_of m r.identifier.0)) ∙ sym (ap (λ b. b || is_named m i) (eq-eqb _ _ e)))
    (λ ne.
    ap (λ (x : Identifier). not (eqb x.tag 0)) (get_or-set_other m.identifiers r.identifier.0 i _ no_identifier ne)
    ∙ sym (ap (λ b. b || is_named m i) (ne_eqb _ _ ne)))
    (cases_eq i r.identifier.0)
  where
    letter_named : (b : Bool) → not (eqb (cond b 3 2) 0) ≡ true
    letter_named true = refl
    letter_named false = refl

-- the tables are the environment with these rows named, and the flags of declarations are these
pub record View (m : Model) (up out done : ℕ → Bool) (js : List JournalRow) (t : Tables) : Type 0 where
  pub env : t.env ≡ name_all up m js
  pub known : Each (λ r. Known m r.identifier) js
  pub grown : Kept m t.env
  pub upper : (d : ℕ) → d < length m.identifiers → (work_of t.notes d).tag ≡ up d
  pub escaped : (d : ℕ) → d < length m.identifiers → (work_of t.notes d).escaped ≡ out d
  pub promoted_so : (d : ℕ) → d < length m.identifiers → (work_of t.notes d).promoted ≡ done d

known_after : (up : ℕ → Bool) (m : Model) (r : JournalRow) (js : List JournalRow) → Each (λ x. Known m x.identifier) js → Each (λ x. Known (name_one up m r) x.identifier) js
known_after up m r [] h = tt
known_after up m r (x ∷ js) h = (simp length-set h.0, known_after up m r js h.1)

-- who has a name after some rows were named
named_all : (up : ℕ → Bool) (m : Model) (js : List JournalRow) (i : ℕ) → Each (λ r. Known m r.identifier) js → is_named (name_all up m js) i ≡ taken m js i
named_all up m [] i h = refl
named_all up m (r ∷ js) i h =
    named_all up (name_one up m r) js i (known_after up m r js h.1)
    ∙ ap (λ b. names i js || b) (named_one up m r i h.0)
    ∙ sym (or_swap (eqb i r.identifier.0) (names i js) (is_named m i))

not_not : (b : Bool) → not (not b) ≡ b
not_not true = refl
not_not false = refl

pub view_unnamed : (m : Model) (up out done : ℕ → Bool) (js : List JournalRow) (t : Tables) → View m up out done js t → (i : IdentifierId) → is_unnamed t.env i ≡ not (taken m js i.0)
view_unnamed m up out done js t v i =
    sym (not_not (eqb (tag_of t.env i.0) 0))
    ∙ ap (λ (x : Model). not (is_named x i.0)) v.env
    ∙ ap not (named_all up m js i.0 v.known)

each_last : {A : Type 0} (P : A → Type 0) (xs : List A) (y : A) → Each P xs → P y → Each P (xs ++ y ∷ [])
each_last P [] y h p = (p, tt)
each_last P (x ∷ xs) y h p = (h.0, each_last P xs y h.1 p)

-- an identifier without a name is named
module _ (m : Model) (up out done on : ℕ → Bool) (js : List JournalRow) (t : Tables) (why : Reason) (i : IdentifierId) (v : View m up out done js t) (s : Sound t) (h : Known m i) (no_name : is_unnamed t.env i ≡ true) (here : on (declaration_of m i.0) ≡ true) (there : (d : ℕ) → (d ≡ declaration_of m i.0 → ⊥) → on d ≡ done d) where
  decl : declaration_of t.env i.0 ≡ declaration_of m i.0
  decl = v.grown.declarations i.0

  now_known : Known t.env i
  now_known = omega (arith, v.grown.size)

  low : declaration_of m i.0 < length m.identifiers
  low = omega (arith, s.declared i.0 now_known, decl, v.grown.size)

  there_work : declaration_of t.env i.0 < length t.notes.work
  there_work = omega (arith, s.work, s.declared i.0 now_known)

  -- the work row of a declaration after the naming
  field : {A : Type 0} (f : Work → A) (d : ℕ) → (f (as_promoted (work_of t.notes d)) ≡ f (work_of t.notes d)) → f (work_of (promoted why t i).notes d) ≡ f (work_of t.notes d)
  field f d same =
      ⊎_elim
      (λ e.
      ap (λ k. f (work_of (promoted why t i).notes k)) e
      ∙ ap f (get_or-set_same t.notes.work (declaration_of t.env i.0) _ no_work there_work)
      ∙ ap (λ k. f (as_promoted (work_of t.notes k))) (sym e) ∙ same)
      (λ ne. ap f (get_or-set_other t.notes.work (declaration_of t.env i.0) d _ no_work ne))
      (cases_eq d (declaration_of t.env i.0))

  letter_is : letter_tag t.notes (declaration_of t.env i.0) ≡ cond (up (declaration_of t.env i.0)) 3 2
  letter_is = ap (λ b. cond b 3 2) (v.upper (declaration_of t.env i.0) (omega (arith, low, decl)))

  pub view_promoted : View m up out on (js ++ row i why ∷ []) (promoted why t i)
  view_promoted =
      let g = grows_promoted why t i s now_known (eqb-true _ _ no_name) in
      let k = kept g.named in
      record {
        env =
            ap (λ n. journaled (tagged t.env i.0 n) (row i why)) letter_is
            ∙ ap (λ (x : Model). name_one up x (row i why)) v.env
            ∙ sym (fold-append (name_one up) m js (row i why ∷ []));
        known = each_last _ js (row i why) v.known h;
        grown = record {
          scopes = k.scopes ∙ v.grown.scopes;
          functions = k.functions ∙ v.grown.functions;
          pool = k.pool ∙ v.grown.pool;
          size = k.size ∙ v.grown.size;
          declarations = λ j. k.declarations j ∙ v.grown.declarations j;
          journal = k.journal ∙ v.grown.journal;
          budget = k.budget ∙ v.grown.budget;
        };
        upper = λ d l. field (λ w. w.tag) d refl ∙ v.upper d l;
        escaped = λ d l. field (λ w. w.escaped) d refl ∙ v.escaped d l;
        promoted_so = λ d l.
            ⊎_elim
            (λ e.
            ap (λ n. (work_of (promoted why t i).notes n).promoted) (e ∙ sym decl)
            ∙ ap (λ (w : Work). w.promoted) (get_or-set_same t.notes.work (declaration_of t.env i.0) _ no_work there_work)
            ∙ sym (ap on e ∙ here))
            (λ ne.
            ap (λ (w : Work). w.promoted) (get_or-set_other t.notes.work (declaration_of t.env i.0) d _ no_work (λ e. ne (e ∙ decl)))
            ∙ v.promoted_so d l ∙ sym (there d ne))
            (cases_eq d (declaration_of m i.0));
      }

-- a field that naming leaves
pub same_field : {A : Type 0} (g : Work → A) → ((w : Work) → g (as_promoted w) ≡ g w) → (ws : List Work) (k d : ℕ) → g (get_or (set ws k (as_promoted (get_or ws k no_work))) d no_work) ≡ g (get_or ws d no_work)
same_field g keeps [] k d = refl
same_field g keeps (w ∷ ws) zero zero = keeps w
same_field g keeps (w ∷ ws) zero (suc d) = refl
same_field g keeps (w ∷ ws) (suc k) zero = refl
same_field g keeps (w ∷ ws) (suc k) (suc d) = same_field g keeps ws k d

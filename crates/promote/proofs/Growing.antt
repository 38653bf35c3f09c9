-- What naming keeps. Assumes nothing.
use Rattle.std.proofs.Common.{◌≡◌, ℕ, zero, suc, ◌+◌, ◌<◌, ◌≤◌, Bool, true, false, cond, eqb, ◌⊎◌, List, [], ◌∷◌, ◌++◌, length, get_or, set, sym, refl, ap, ◌∙◌, subst, inl, inr, ⊎_elim, arith, length-set}
use Rattle.std.proofs.lemmas.Bool.{eq-eqb, ne_eqb, eqb-true, cond-true, cond-false, cond_both}
use Rattle.hir.specs.declared.ids.IdentifierId.{IdentifierId}
use Rattle.hir.specs.declared.ids.FunctionId.{FunctionId}
use Rattle.hir.specs.declared.span.Span.{Span}
use Rattle.hir.specs.declared.tables.Identifier.{Identifier}
use Rattle.hir.specs.declared.tables.Scope.{Scope}
use Rattle.hir.specs.declared.tables.Function.{Function}
use Rattle.hir.specs.declared.tables.JournalRow.{JournalRow}
use Rattle.hir.specs.declared.tables.Reason.{Reason}
use Rattle.hir.specs.Environments.{Model, no_identifier, no_scope, no_function, with_tag, tag_of, declaration_of, scope_of, function_of, unnamed}
use Rattle.hir.specs.Lists.{Each}
use Rattle.std.specs.List.{fold}
use Rattle.hir.specs.Scratches.{Tables, work_of}
use Rattle.hir.specs.Sound.{Sound, ScopeSound, FunctionSound, Known, KnownIn, KnownFunction}
use Rattle.hir.specs.Spans.{identifiers_in, functions_in}
use Rattle.promote.specs.Identifier.{promoted, promote_if, promote_unnamed, is_unnamed, letter_tag, row}
use Rattle.promote.specs.Growth.{Named, none, more, Grows}

pub some_unnamed : (is : List Identifier) (k : ℕ) → k < length is → (get_or is k no_identifier).tag ≡ 0 → 1 ≤ unnamed is
some_unnamed [] k h e = absurd (omega arith)
some_unnamed (i ∷ is) zero h e = let c : ◌≡◌ {A = ℕ} (cond (eqb i.tag 0) 1 0) 1 = cond-true _ _ _ (eq-eqb _ _ e) in omega (arith, c)
some_unnamed (i ∷ is) (suc k) h e = let r = some_unnamed is k (omega arith) e in omega arith

retagged : List Identifier → ℕ → ℕ → List Identifier
retagged is k t = set is k (with_tag (get_or is k no_identifier) t)

unnamed_less : (is : List Identifier) (k t : ℕ) → k < length is → (get_or is k no_identifier).tag ≡ 0 → (t ≡ 0 → ⊥) → unnamed (retagged is k t) + 1 ≡ unnamed is
unfolding retagged
unnamed_less [] k t h e ne = absurd (omega arith)
unnamed_less (i ∷ is) zero t h e ne =
    let a : ◌≡◌ {A = ℕ} (cond (eqb i.tag 0) 1 0) 1 = cond-true _ _ _ (eq-eqb _ _ e) in
    let b : ◌≡◌ {A = ℕ} (cond (eqb t 0) 1 0) 0 = cond-false _ _ _ (ne_eqb _ _ ne) in
    omega (arith, a, b)
unnamed_less (i ∷ is) (suc k) t h e ne = let r = unnamed_less is k t (omega arith) e ne in omega arith

retagged_declaration : (is : List Identifier) (j t k : ℕ) → (get_or (retagged is j t) k no_identifier).declaration ≡ (get_or is k no_identifier).declaration
unfolding retagged
retagged_declaration [] j t k = refl
retagged_declaration (i ∷ is) zero t zero = refl
retagged_declaration (i ∷ is) zero t (suc k) = refl
retagged_declaration (i ∷ is) (suc j) t zero = refl
retagged_declaration (i ∷ is) (suc j) t (suc k) = retagged_declaration is j t k

-- what stays of an environment in which identifiers were named
pub record Kept (m t : Model) : Type 0 where
  pub scopes : t.scopes ≡ m.scopes
  pub functions : t.functions ≡ m.functions
  pub pool : t.pool ≡ m.pool
  pub size : length t.identifiers ≡ length m.identifiers
  pub declarations : (k : ℕ) → declaration_of t k ≡ declaration_of m k
  pub journal : length t.journal ≡ length m.journal
  pub budget : t.count + unnamed t.identifiers ≡ m.count + unnamed m.identifiers

tag_some : (tag : ℕ) → (tag ≡ 2) ⊎ (tag ≡ 3) → tag ≡ 0 → ⊥
tag_some tag h z = ⊎_elim (λ e. omega arith) (λ e. omega arith) h

pub kept : {m t : Model} {js : List JournalRow} → Named m js t → Kept m t
unfolding retagged
kept none = record { scopes = refl; functions = refl; pool = refl; size = refl; declarations = λ k. refl; journal = refl; budget = refl }
kept (more {t = t} r tag n known was is room) =
    let k = kept n in
    let u = unnamed_less t.identifiers r.identifier.0 tag known was (tag_some tag is) in
    record {
      scopes = k.scopes;
      functions = k.functions;
      pool = k.pool;
      size = length-set _ _ _ ∙ k.size;
      declarations = λ j. ap (λ d. d.0) (retagged_declaration t.identifiers r.identifier.0 tag j) ∙ k.declarations j;
      journal = length-set _ _ _ ∙ k.journal;
      budget = omega (arith, u, k.budget);
    }

pub named_trans : {a b c : Model} {js ks : List JournalRow} → Named a js b → Named b ks c → (ls : List JournalRow) × Named a ls c
named_trans {js = js} n none = (js, n)
named_trans n (more r tag k known was is room) = let h = named_trans n k in (h.0 ++ r ∷ [], more r tag h.1 known was is room)

pub grows_none : (t : Tables) → Grows t t
grows_none t = record { rows = []; named = none; work = refl; marks = refl; trail = refl }

pub grows_trans : {a b c : Tables} → Grows a b → Grows b c → Grows a c
grows_trans x y =
    let n = named_trans x.named y.named in
    record { rows = n.0; named = n.1; work = y.work ∙ x.work; marks = y.marks ∙ x.marks; trail = y.trail ∙ x.trail }

pub known_in_kept : {m t : Model} → Kept m t → (s : Span) → KnownIn m s → KnownIn t s
known_in_kept {m} {t} k s h =
    let P : ℕ → Type 0 = λ n. Each (λ (i : IdentifierId). i.0 < n) (identifiers_in m.pool s) in
    let Q : List ℕ → Type 0 = λ p. Each (λ (i : IdentifierId). i.0 < length t.identifiers) (identifiers_in p s) in
    subst Q (sym k.pool) (subst P (sym k.size) h)

scope_kept : {m t : Model} → Kept m t → (s : ℕ) → ScopeSound m s → ScopeSound t s
scope_kept {m} {t} k s h =
    let e : scope_of t s ≡ scope_of m s = ap (λ ss. get_or ss s no_scope) k.scopes in
    let f : (g : Scope → Span) → KnownIn m (g (scope_of m s)) → KnownIn t (g (scope_of t s)) =
    λ g x. let P : Scope → Type 0 = λ y. KnownIn t (g y) in subst P (sym e) (known_in_kept k (g (scope_of m s)) x) in
    record { dependencies = f (λ x. x.dependencies) h.dependencies; declarations = f (λ x. x.declarations) h.declarations; reassignments = f (λ x. x.reassignments) h.reassignments }

function_kept : {m t : Model} → Kept m t → (f : ℕ) → FunctionSound m f → FunctionSound t f
function_kept {m} {t} k f h =
    let e : function_of t f ≡ function_of m f = ap (λ fs. get_or fs f no_function) k.functions in
    let n : length t.functions ≡ length m.functions = ap length k.functions in
    let P : Function → Type 0 = λ x. KnownIn t x.parameters in
    let Q : Function → Type 0 = λ x. Each (KnownFunction t) (functions_in t.pool x.nested) in
    let R : ℕ → Type 0 = λ c. Each (λ (g : FunctionId). g.0 < c) (functions_in m.pool (function_of m f).nested) in
    let S : List ℕ → Type 0 = λ p. Each (KnownFunction t) (functions_in p (function_of m f).nested) in
    record {
      parameters = subst P (sym e) (known_in_kept k (function_of m f).parameters h.parameters);
      nested = subst Q (sym e) (subst S (sym k.pool) (subst R (sym n) h.nested));
    }

-- tables stay sound while identifiers are named
pub sound_grows : {b t : Tables} → Sound b → Grows b t → Sound t
sound_grows {b} {t} s g =
    let k = kept g.named in
    let f : length t.env.functions ≡ length b.env.functions = ap length k.functions in
    let c : length t.env.scopes ≡ length b.env.scopes = ap length k.scopes in
    record {
      declared = λ j h. let d = s.declared j (omega (arith, k.size)) in omega (arith, d, k.declarations j, k.size);
      work = omega (arith, s.work, k.size, g.work);
      marks = omega (arith, s.marks, f, g.marks);
      room = omega (arith, s.room, k.budget, k.journal);
      scopes = λ j h. scope_kept k j (s.scopes j (omega (arith, c)));
      functions = λ j h. function_kept k j (s.functions j (omega (arith, f)));
    }

letter_either : (b : Bool) → (◌≡◌ {A = ℕ} (cond b 3 2) 2) ⊎ (◌≡◌ {A = ℕ} (cond b 3 2) 3)
letter_either true = inr refl
letter_either false = inl refl

-- naming an identifier that has no name
pub grows_promoted : (why : Reason) (t : Tables) (i : IdentifierId) → Sound t → Known t.env i → tag_of t.env i.0 ≡ 0 → Grows t (promoted why t i)
grows_promoted why t i s known was =
    let u = some_unnamed t.env.identifiers i.0 known was in
    record {
      rows = row i why ∷ [];
      named = more (row i why) (letter_tag t.notes (declaration_of t.env i.0)) none known was (letter_either (work_of t.notes (declaration_of t.env i.0)).tag) (omega (arith, s.room));
      work = length-set _ _ _;
      marks = refl;
      trail = refl;
    }

pub grows_if : (b : Bool) (why : Reason) (t : Tables) (i : IdentifierId) → (b ≡ true → is_unnamed t.env i ≡ true) → Sound t → Known t.env i → Grows t (promote_if b why t i)
grows_if b why t i only s known =
    cond_both b (promoted why t i) t (Grows t) (λ e. grows_promoted why t i s known (eqb-true _ _ (only e))) (λ e. grows_none t)

pub grows_unnamed : (why : Reason) (t : Tables) (i : IdentifierId) → Sound t → Known t.env i → Grows t (promote_unnamed why t i)
grows_unnamed why t i s known = grows_if (is_unnamed t.env i) why t i (λ e. e) s known

-- one identifier after another
pub grows_each : (f : Tables → IdentifierId → Tables) → ((t : Tables) (i : IdentifierId) → Sound t → Known t.env i → Grows t (f t i)) → (t : Tables) (is : List IdentifierId) → Sound t → Each (Known t.env) is → Grows t (fold f t is)
grows_each f one t [] s h = grows_none t
grows_each f one t (i ∷ is) s h =
    let g = one t i s h.0 in
    let P : ℕ → Type 0 = λ n. Each (λ (j : IdentifierId). j.0 < n) is in
    grows_trans g (grows_each f one (f t i) is (sound_grows s g) (subst P (sym (kept g.named).size) h.1))

-- A run that can name nothing journals nothing. Assumes nothing.
use Rattle.std.proofs.Common.{◌≡◌, ℕ, Bool, true, false, cond, not, ◌&&◌, ◌||◌, eqb, List, [], ◌∷◌, ◌++◌, map, length, get_or, Some, None, Option, sym, refl, ap, ◌∙◌, subst, ⊎_elim}
use Rattle.std.proofs.lemmas.Bool.{cases_Bool, cond_both, cond-true, cond-false, or_parts, and_parts, eqb-true, not-false}
use Rattle.std.proofs.lemmas.List.{append-nil, nil_from_length}
use Rattle.hir.specs.declared.ids.IdentifierId.{IdentifierId}
use Rattle.hir.specs.declared.span.Span.{Span}
use Rattle.hir.specs.declared.tables.JournalRow.{JournalRow}
use Rattle.hir.specs.declared.tables.Reason.{Reason}
use Rattle.hir.specs.declared.tables.Reason.TheVariants as reasons
use Rattle.hir.specs.declared.tables.Scope.{Scope}
use Rattle.hir.specs.Environments.{Model, no_scope, declaration_of, scope_of}
use Rattle.hir.proofs.Lists.{each_none}
use Rattle.hir.specs.Lists.{Each}
use Rattle.std.specs.List.{fold, filter, list_any}
use Rattle.hir.specs.Spans.{identifiers_in}
use Rattle.reactive.specs.Codes.{listed, used_in}
use Rattle.reactive.specs.Rows.{Row, head}
use Rattle.reactive.specs.Lvalues.{absent_or_named, without_temporary, some_without_temporary}
use Rattle.walk.specs.Events.{entering}
use Rattle.walk.proofs.Fitting.{Within, each_acts, each_append, each_cond}
use Rattle.promote.specs.Identifier.{is_unnamed}
use Rattle.promote.specs.Temporaries as temporaries
use Rattle.interposed.specs.declared.interposed.Parent.{Parent}
use Rattle.interposed.specs.declared.interposed.Parent.TheVariants.{Other, WithoutLvalue, WithLvalue}
use Rattle.interposed.specs.Acts.{Act, uses, fixes, loads, takes, global, barrier, tracks}
use Rattle.interposed.specs.Interposed.{fix_acts, marks_acts, value_acts, leaf_acts, instruction, keeps, under_acts, acts, pass_acts}
use Rattle.interposed.specs.Kinds.{is_load, is_property_load, is_global_load, is_barrier, fixes_marks, may_raise}
use Rattle.instances.specs.Instances as instances
use Rattle.reasons.specs.Journals.{names, is_named, firsts, declares}
use Rattle.reasons.specs.Escapes.{escaped}
use Rattle.reasons.specs.Interposed.{Known, if, act, finds, fixing, globally, tracking, nothing, interposed}
use Rattle.reasons.specs.Coverings.{covers, Covered, reaching, covering, early, named_then, between, before, visits, late, journal}
use Rattle.reasons.specs.Laws.{tables_can_name, can_name, IdleRuns}
use Rattle.reasons.proofs.Bools.{and_false, true_false}

none_kept : {A : Type 0} (p : A → Bool) → ((x : A) → p x ≡ false) → (xs : List A) → filter p xs ≡ []
none_kept p none [] = refl
none_kept p none (x ∷ xs) = cond-false _ _ _ (none x) ∙ none_kept p none xs

-- the act raises no barrier, where these have a name
RaisesNone : (ℕ → Bool) → Act → Type 0
RaisesNone named (uses x) = Unit {0}
RaisesNone named (fixes x) = Unit {0}
RaisesNone named (loads l x) = Unit {0}
RaisesNone named (takes l x) = Unit {0}
RaisesNone named (global l) = Unit {0}
RaisesNone named (barrier None) = ⊥
RaisesNone named (barrier (Some l)) = named l.0 ≡ false
RaisesNone named (tracks l) = Unit {0}

-- nothing is exposed, and nothing found
record NoneExposed (named : ℕ → Bool) (s : Known) : Type 0 where
  pub same : s.named ≡ named
  pub exposed : (i : ℕ) → s.exposed i ≡ false
  pub found : s.found ≡ []

module _ (named : ℕ → Bool) where
  exposed_by_fixing : (x : ℕ) (s : Known) → NoneExposed named s → NoneExposed named (fixing x s)
  exposed_by_fixing x s c = record { same = c.same; exposed = c.exposed; found = c.found }

  exposed_by_globally : (x : ℕ) (s : Known) → NoneExposed named s → NoneExposed named (globally x s)
  exposed_by_globally x s c = record { same = c.same; exposed = c.exposed; found = c.found }

  exposed_by_tracking : (x : ℕ) (s : Known) → NoneExposed named s → NoneExposed named (tracking x s)
  exposed_by_tracking x s c = record { same = c.same; exposed = λ i. ap (λ b. not (eqb i x) && b) (c.exposed i) ∙ and_false (not (eqb i x)); found = c.found }

  exposed_by_if : (b : Bool) (f : Known → Known) (s : Known) → NoneExposed named s → NoneExposed named (f s) → NoneExposed named (if b f s)
  exposed_by_if b f s c d = cond_both b (f s) s (NoneExposed named) (λ e. d) (λ e. c)

  exposed_by_act : (s : Known) (a : Act) → NoneExposed named s → RaisesNone named a → NoneExposed named (act s a)
  unfolding RaisesNone
  exposed_by_act s (uses x) c q =
      cond_both (not (s.named x.0) && (not (s.constant x.0) && s.exposed x.0)) (finds x s) s (NoneExposed named)
      (λ e. true_false (s.exposed x.0) (and_parts (not (s.constant x.0)) (s.exposed x.0) (and_parts (not (s.named x.0)) _ e).1).1 (c.exposed x.0))
      (λ e. c)
  exposed_by_act s (fixes x) c q = exposed_by_fixing x.0 s c
  exposed_by_act s (loads l x) c q =
      exposed_by_if (not (s.named l.0)) (λ k. tracking l.0 (if (s.constant x.0) (fixing l.0) k)) s c
      (exposed_by_tracking l.0 _ (exposed_by_if (s.constant x.0) (fixing l.0) s c (exposed_by_fixing l.0 s c)))
  exposed_by_act s (takes l x) c q =
      let d = exposed_by_if (s.global x.0) (λ k. fixing l.0 (globally l.0 k)) s c (exposed_by_fixing l.0 _ (exposed_by_globally l.0 s c)) in
      exposed_by_if (not (s.named l.0)) (tracking l.0) _ d (exposed_by_tracking l.0 _ d)
  exposed_by_act s (global l) c q = exposed_by_globally l.0 s c
  exposed_by_act s (barrier None) c q = absurd q
  exposed_by_act s (barrier (Some l)) c q = subst (NoneExposed named) (sym (cond-false _ _ _ (ap (λ f. f l.0) c.same ∙ q))) c
  exposed_by_act s (tracks l) c q = exposed_by_if (not (s.named l.0)) (tracking l.0) s c (exposed_by_tracking l.0 s c)

  exposed_by_all : (todo : List Act) (s : Known) → NoneExposed named s → Each (RaisesNone named) todo → NoneExposed named (fold act s todo)
  exposed_by_all [] s c q = c
  exposed_by_all (a ∷ todo) s c q = exposed_by_all todo (act s a) (exposed_by_act s a c q.0) q.1

  found_none : (todo : List Act) → Each (RaisesNone named) todo → interposed named todo ≡ []
  found_none todo q = (exposed_by_all todo (nothing named) (record { same = refl; exposed = λ i. refl; found = refl }) q).found

-- acts of rows whose Instructions have lvalues without a name
module _ (m : Model) (named : ℕ → Bool) (fresh : (i : ℕ) → is_named m i ≡ false → named i ≡ false) where
  none_by_marks : (k : ℕ) (l : IdentifierId) (ms : List IdentifierId) → Each (RaisesNone named) (marks_acts k l ms)
  unfolding RaisesNone
  none_by_marks k l [] = tt
  none_by_marks k l (x ∷ ms) =
      each_cond (RaisesNone named) (is_load k) (loads l x ∷ []) _ (tt, tt) (each_cond (RaisesNone named) (is_property_load k) (takes l x ∷ []) [] (tt, tt) tt)

  none_by_value : (k : ℕ) (l : Option IdentifierId) (ms : List IdentifierId) → Each (RaisesNone named) (value_acts k l ms)
  unfolding RaisesNone
  none_by_value k None ms = tt
  none_by_value k (Some l) ms = each_cond (RaisesNone named) (is_global_load k) (global l ∷ []) _ (tt, tt) (none_by_marks k l ms)

  none_by_barrier : (l : Option IdentifierId) → absent_or_named m l ≡ false → RaisesNone named (barrier l)
  unfolding RaisesNone
  none_by_barrier None e = true_false true refl e
  none_by_barrier (Some i) e = fresh i.0 e

  none_by_map : (f : IdentifierId → Act) → ((x : IdentifierId) → RaisesNone named (f x)) → (is : List IdentifierId) → Each (RaisesNone named) (map f is)
  none_by_map f all [] = tt
  none_by_map f all (x ∷ is) = (all x, none_by_map f all is)

  none_by_uses : (is : List IdentifierId) → Each (RaisesNone named) (map uses is)
  unfolding RaisesNone
  none_by_uses is = none_by_map uses (λ x. tt) is

  none_by_fixes : (is : List IdentifierId) → Each (RaisesNone named) (map fixes is)
  unfolding RaisesNone
  none_by_fixes is = none_by_map fixes (λ x. tt) is

  none_by_tracks : (is : List IdentifierId) → Each (RaisesNone named) (map tracks is)
  unfolding RaisesNone
  none_by_tracks is = none_by_map tracks (λ x. tt) is

  none_by_leaf : (l : Option IdentifierId) (k mode : ℕ) (ms os : List IdentifierId) → absent_or_named m l ≡ false → Each (RaisesNone named) (leaf_acts l k mode ms os)
  none_by_leaf l k mode ms os e =
      each_append (RaisesNone named) (fix_acts k mode ms) _ (each_cond (RaisesNone named) (fixes_marks k mode) (map fixes ms) [] (none_by_fixes ms) tt)
      (each_append (RaisesNone named) (value_acts k l ms) _ (none_by_value k l ms)
      (each_append (RaisesNone named) (map uses os) _ (none_by_uses os)
      (each_append (RaisesNone named) (cond (may_raise k mode) (barrier l ∷ []) []) _ (each_cond (RaisesNone named) (may_raise k mode) (barrier l ∷ []) [] (none_by_barrier l e, tt) tt)
      (each_cond (RaisesNone named) (is_barrier k) (map tracks (listed l)) [] (none_by_tracks (listed l)) tt))))

  -- an Instruction has an lvalue without a name
  Temporary : Parent → Type 0
  Temporary Other = Unit {0}
  Temporary WithoutLvalue = ⊥
  Temporary (WithLvalue l) = is_named m l.0 ≡ false

  instruction_temporary : (o : Option IdentifierId) → absent_or_named m o ≡ false → Temporary (instruction o)
  unfolding Temporary
  instruction_temporary None e = true_false true refl e
  instruction_temporary (Some i) e = e

  kept_temporary : (r : Row) → without_temporary m (head r) ≡ false → Temporary (keeps (head r))
  unfolding Temporary
  kept_temporary r e =
      cond_both (eqb r.code 2) (instruction r.identifier) Other Temporary
      (λ b. instruction_temporary r.identifier (sym (ap (λ c. c && absent_or_named m r.identifier) b) ∙ e))
      (λ b. tt)

  none_by_under : (p : Option Parent) (r : Row) → Within Temporary p → Each (RaisesNone named) (under_acts p r.kind r.mode r.marks r.operands)
  unfolding Temporary
  none_by_under None r w = none_by_uses r.operands
  none_by_under (Some Other) r w = none_by_uses r.operands
  none_by_under (Some WithoutLvalue) r w = absurd (w WithoutLvalue refl)
  none_by_under (Some (WithLvalue l)) r w = none_by_leaf (Some l) r.kind r.mode r.marks r.operands (w (WithLvalue l) refl)

  none_by_row : (p : Option Parent) (r : Row) → Within Temporary p → without_temporary m (head r) ≡ false → Each (RaisesNone named) (acts (entering p r))
  none_by_row p r w e = each_cond (RaisesNone named) (eqb r.code 5) _ _ (none_by_under p r w) (none_by_uses (listed (used_in r.code r.identifier)))

  none_by_rows : (own : List IdentifierId) (rs : List Row) → some_without_temporary m rs ≡ false → Each (RaisesNone named) (pass_acts own rs)
  none_by_rows own rs e =
      each_append (RaisesNone named) (map fixes own) _ (none_by_fixes own)
      (each_acts keeps (λ r. without_temporary m (head r) ≡ false) Temporary kept_temporary acts (RaisesNone named) none_by_row (λ q k. tt) [] rs tt (each_none (λ r. without_temporary m (head r)) (λ r. without_temporary m (head r) ≡ false) (λ r h. h) rs e))

-- a list of named identifiers
module _ (m : Model) (why : Reason) where
  named_none : (own : List IdentifierId) → list_any (is_unnamed m) own ≡ false → firsts (is_named m) (covers why own) ≡ []
  named_none [] e = refl
  named_none (x ∷ own) e =
      let h = or_parts (is_unnamed m x) (list_any (is_unnamed m) own) e in
      cond-true _ _ _ (ap not h.0) ∙ named_none own h.1

  other_none : (own : List IdentifierId) → list_any (is_unnamed m) own ≡ false → (i : ℕ) → is_named m i ≡ false → names i (covers why own) ≡ false
  other_none [] e i new = refl
  other_none (x ∷ own) e i new =
      let h = or_parts (is_unnamed m x) (list_any (is_unnamed m) own) e in
      ⊎_elim
      (λ b. true_false (is_named m i) (ap (is_named m) (eqb-true i x.0 b) ∙ ap not h.0) new)
      (λ b. ap (λ c. c || names i (covers why own)) b ∙ other_none own h.1 i new)
      (cases_Bool (eqb i x.0))

module _ (m : Model) (ps : Span) (rs : List Row) (idle : can_name m ps rs ≡ false) where
  abbrev own : List IdentifierId
  own = identifiers_in m.pool ps

  temporaries_alone : some_without_temporary m rs ≡ false
  temporaries_alone = (or_parts (some_without_temporary m rs) _ idle).0

  no_tables : tables_can_name m ps ≡ false
  no_tables = (or_parts (some_without_temporary m rs) _ idle).1

  all_named : list_any (is_unnamed m) own ≡ false
  all_named = (or_parts (not (eqb (length m.functions) 0)) _ (or_parts (not (eqb (length m.scopes) 0)) _ no_tables).1).1

  is_zero : (n : ℕ) → not (eqb n 0) ≡ false → n ≡ 0
  is_zero n e = eqb-true n 0 (not-false (eqb n 0) e)

  no_scopes : m.scopes ≡ []
  no_scopes = nil_from_length _ (is_zero (length m.scopes) (or_parts (not (eqb (length m.scopes) 0)) _ no_tables).0)

  no_functions : length m.functions ≡ 0
  no_functions = is_zero (length m.functions) (or_parts (not (eqb (length m.functions) 0)) _ (or_parts (not (eqb (length m.scopes) 0)) _ no_tables).1).0

  no_scope_at : (x : ℕ) → scope_of m x ≡ no_scope
  no_scope_at x = ap (λ ss. get_or ss x no_scope) no_scopes

  -- no row covers anything early
  covers_none : (out : ℕ → Bool) (s : Covered) (a : temporaries.Act) → (covering m out s a).rows ≡ s.rows
  covers_none out s (temporaries.scope x) =
      let f : Scope → List JournalRow = λ c. s.rows ++ (covers reasons.Scope (identifiers_in m.pool c.dependencies) ++ covers reasons.Scope (identifiers_in m.pool c.declarations)) in
      ap f (no_scope_at x.0) ∙ append-nil s.rows
  covers_none out s (temporaries.pruned x) =
      let f : Scope → List JournalRow = λ c. s.rows ++ covers reasons.Escape (filter (λ i. out (declaration_of m i.0)) (identifiers_in m.pool c.declarations)) in
      ap f (no_scope_at x.0) ∙ append-nil s.rows
  covers_none out s (temporaries.inner f) = ap (λ k. (reaching k m s f).rows) no_functions

  cover_none : (out : ℕ → Bool) (todo : List temporaries.Act) (s : Covered) → (fold (covering m out) s todo).rows ≡ s.rows
  cover_none out [] s = refl
  cover_none out (a ∷ todo) s = cover_none out todo (covering m out s a) ∙ covers_none out s a

  early_is : early m ps rs ≡ covers reasons.OwnParameter own
  early_is = cover_none (escaped m rs) (temporaries.pass_acts rs) _

  fresh : (i : ℕ) → is_named m i ≡ false → named_then m ps rs i ≡ false
  fresh i new = ap (λ js. names i js || is_named m i) early_is ∙ ap (λ b. b || is_named m i) (other_none m reasons.OwnParameter own all_named i new) ∙ new

  between_is : between m ps rs ≡ []
  between_is = ap (covers reasons.Interposed) (found_none (named_then m ps rs) (pass_acts own rs) (none_by_rows m (named_then m ps rs) fresh own rs temporaries_alone))

  before_is : before m ps rs ≡ []
  before_is =
      (λ k. firsts (is_named m) (early_is k ++ between_is k))
      ∙ ap (firsts (is_named m)) (append-nil (covers reasons.OwnParameter own))
      ∙ named_none m reasons.OwnParameter own all_named

  late_is : late m ps rs ≡ []
  late_is =
      let xs = own ++ visits m (instances.pass_acts rs) in
      ap (λ js. covers reasons.SameDeclaration (filter (λ i. declares m js (declaration_of m i.0)) xs)) before_is
      ∙ ap (covers reasons.SameDeclaration) (none_kept (λ (i : IdentifierId). declares m [] (declaration_of m i.0)) (λ i. refl) xs)

  journal_none : journal m ps rs ≡ []
  journal_none =
      (λ k. firsts (is_named m) (early_is k ++ (between_is k ++ late_is k)))
      ∙ ap (firsts (is_named m)) (append-nil (covers reasons.OwnParameter own))
      ∙ named_none m reasons.OwnParameter own all_named

pub idle_runs : IdleRuns
idle_runs m ps rs idle = journal_none m ps rs idle

-- The second pass names what reasons 1 to 4 cover. Assumes nothing.
use Rattle.std.proofs.Common.{◌≡◌, ℕ, zero, suc, ◌<◌, Bool, true, false, ◌&&◌, ◌||◌, List, [], ◌∷◌, ◌++◌, length, get_or, set, sym, refl, ap, ◌∙◌, subst, ⊎_elim, arith, get_or-set_other, get_or-set_same}
use Rattle.std.proofs.lemmas.List.Sums.{fold-append}
use Rattle.std.specs.List.{filter, fold}
use Rattle.std.proofs.lemmas.Bool.{cases_Bool, cases_eq, cond-true, cond-false, cond_both, eq-eqb, ne_eqb}
use Rattle.hir.specs.declared.ids.FunctionId.{FunctionId}
use Rattle.hir.specs.declared.ids.IdentifierId.{IdentifierId}
use Rattle.hir.specs.declared.ids.ScopeId.{ScopeId}
use Rattle.hir.specs.declared.span.Span.{Span}
use Rattle.hir.specs.declared.tables.JournalRow.{JournalRow}
use Rattle.hir.specs.declared.tables.Reason.{Reason}
use Rattle.hir.specs.declared.tables.Reason.TheVariants as reasons
use Rattle.hir.specs.Environments.{Model, no_scope, no_function, declaration_of, scope_of, function_of}
use Rattle.hir.specs.Lists.{Each}
use Rattle.hir.specs.Scratches.{Tables, work_of}
use Rattle.hir.specs.Sound.{ScopeSound, FunctionSound, Known, KnownIn, KnownFunction}
use Rattle.hir.specs.Spans.{identifiers_in, functions_in}
use Rattle.hir.specs.declared.scratch.Work.{Work}
use Rattle.promote.specs.Identifier.{as_promoted, promoted, promote_if, promote_unnamed, is_unnamed}
use Rattle.promote.specs.Temporaries as temporaries
use Rattle.promote.proofs.Growing.{sound_grows}
use Rattle.promote.proofs.Visiting as visiting
use Rattle.reasons.specs.Journals.{declares}
use Rattle.reasons.specs.Coverings.{covers, Covered, entering, reaching, covering}
use Rattle.reasons.proofs.Admitting.{admit}
use Rattle.reasons.proofs.Views.{same_field}
use Rattle.reasons.proofs.Steps.{Seen, seen_list, filter_all, unnamed_is, goes_declares}

-- the lists of the tables that are there
pub record Static (m : Model) : Type 0 where
  pub scopes : (s : ℕ) → s < length m.scopes → ScopeSound m s
  pub functions : (f : ℕ) → f < length m.functions → FunctionSound m f
  pub declared : (k : ℕ) → k < length m.identifiers → declaration_of m k < length m.identifiers

module _ (m : Model) (up out : ℕ → Bool) (static : Static m) where
  abbrev SeenAt : List JournalRow → Tables → Type 0
  SeenAt js t = Seen m up out (declares m) js t

  -- the coverings so far were admitted, and the functions visited so far are marked
  pub record Covers (s : Covered) (t : Tables) : Type 0 where
    pub seen : Seen m up out (declares m) (fold (admit m) [] s.rows) t
    pub marks : (f : ℕ) → f < length m.functions → get_or t.notes.marks f false ≡ s.visited f

  scope_is : (t : Tables) (js : List JournalRow) → SeenAt js t → (s : ℕ) → scope_of t.env s ≡ scope_of m s
  scope_is t js s x = ap (λ ss. get_or ss x no_scope) s.view.grown.scopes

  function_is : (t : Tables) (js : List JournalRow) → SeenAt js t → (f : ℕ) → function_of t.env f ≡ function_of m f
  function_is t js s f = ap (λ fs. get_or fs f no_function) s.view.grown.functions

  -- naming leaves the marks
  same_marks : (f : Tables → IdentifierId → Tables) (why : Reason) → ((t : Tables) (i : IdentifierId) → (b : Bool) × (f t i ≡ promote_if b why t i)) → (t : Tables) (is : List IdentifierId) → (fold f t is).notes.marks ≡ t.notes.marks
  same_marks f why by t [] = refl
  same_marks f why by t (i ∷ is) =
      same_marks f why by (f t i) is
      ∙ ap (λ (x : Tables). x.notes.marks) (by t i).1
      ∙ cond_both (by t i).0 (promoted why t i) t (λ x. x.notes.marks ≡ t.notes.marks) (λ e. refl) (λ e. refl)

  unnamed_by : (why : Reason) (t : Tables) (i : IdentifierId) → (b : Bool) × (promote_unnamed why t i ≡ promote_if b why t i)
  unnamed_by why t i = (is_unnamed t.env i, refl)

  -- every identifier of a list is considered for a reason
  seen_all : (why : Reason) (js : List JournalRow) (t : Tables) → SeenAt js t → (is : List IdentifierId) → Each (Known m) is → SeenAt (fold (admit m) js (covers why is)) (fold (promote_unnamed why) t is)
  seen_all why js t s is h =
      let P : List IdentifierId → Type 0 = λ xs. SeenAt (fold (admit m) js (covers why xs)) (fold (promote_unnamed why) t is) in
      subst P (filter_all is)
      (seen_list m up out (declares m) why (promote_unnamed why) (λ x i. true) (λ i. true) (goes_declares m (λ i. true)) (unnamed_is why) (λ xs x i v k l. refl) js t s is h)

  -- those that escaped
  seen_escaped : (js : List JournalRow) (t : Tables) → SeenAt js t → (is : List IdentifierId) → Each (Known m) is → SeenAt (fold (admit m) js (covers reasons.Escape (filter (λ i. out (declaration_of m i.0)) is))) (fold temporaries.promote_escaped t is)
  seen_escaped js t s is h =
      seen_list m up out (declares m) reasons.Escape temporaries.promote_escaped (λ x i. (work_of x.notes (declaration_of x.env i.0)).escaped) (λ i. out (declaration_of m i.0)) (goes_declares m (λ i. out (declaration_of m i.0))) (λ x i. refl)
      (λ xs x i v k l.
      ap (λ d. (work_of x.notes d).escaped) (v.grown.declarations i.0) ∙ v.escaped (declaration_of m i.0) (static.declared i.0 l))
      js t s is h

  more : (js xs ys : List JournalRow) → fold (admit m) (fold (admit m) js xs) ys ≡ fold (admit m) js (xs ++ ys)
  more js xs ys = sym (fold-append (admit m) js xs ys)

  pub covers_scope : (s : Covered) (t : Tables) → Covers s t → (x : ScopeId) → x.0 < length m.scopes → Covers (covering m out s (temporaries.scope x)) (temporaries.does t (temporaries.scope x))
  covers_scope s t c x h =
      let js = fold (admit m) [] s.rows in
      let sound = static.scopes x.0 h in
      let deps = identifiers_in m.pool (scope_of m x.0).dependencies in
      let decls = identifiers_in m.pool (scope_of m x.0).declarations in
      let one = seen_all reasons.Scope js t c.seen deps sound.dependencies in
      let two = seen_all reasons.Scope _ _ one decls sound.declarations in
      let same : temporaries.does t (temporaries.scope x) ≡ fold (promote_unnamed reasons.Scope) (fold (promote_unnamed reasons.Scope) t deps) decls =
      (λ i. fold (promote_unnamed reasons.Scope) (fold (promote_unnamed reasons.Scope) t (identifiers_in (c.seen.view.grown.pool i) (scope_is t js c.seen x.0 i).dependencies)) (identifiers_in (c.seen.view.grown.pool i) (scope_is t js c.seen x.0 i).declarations)) in
      let P : Tables → Type 0 = Covers (covering m out s (temporaries.scope x)) in
      subst P (sym same)
      (record {
        seen = subst (λ rows. SeenAt rows (fold (promote_unnamed reasons.Scope) (fold (promote_unnamed reasons.Scope) t deps) decls)) (more _ (covers reasons.Scope deps) (covers reasons.Scope decls) ∙ more [] s.rows (covers reasons.Scope deps ++ covers reasons.Scope decls)) two;
        marks = λ f l.
            ap (λ ms. get_or ms f false) (same_marks (promote_unnamed reasons.Scope) reasons.Scope (unnamed_by reasons.Scope) (fold (promote_unnamed reasons.Scope) t deps) decls ∙ same_marks (promote_unnamed reasons.Scope) reasons.Scope (unnamed_by reasons.Scope) t deps)
            ∙ c.marks f l;
      })

  pub covers_pruned : (s : Covered) (t : Tables) → Covers s t → (x : ScopeId) → x.0 < length m.scopes → Covers (covering m out s (temporaries.pruned x)) (temporaries.does t (temporaries.pruned x))
  covers_pruned s t c x h =
      let js = fold (admit m) [] s.rows in
      let decls = identifiers_in m.pool (scope_of m x.0).declarations in
      let one = seen_escaped js t c.seen decls (static.scopes x.0 h).declarations in
      let same : temporaries.does t (temporaries.pruned x) ≡ fold temporaries.promote_escaped t decls =
      (λ i. fold temporaries.promote_escaped t (identifiers_in (c.seen.view.grown.pool i) (scope_is t js c.seen x.0 i).declarations)) in
      let P : Tables → Type 0 = Covers (covering m out s (temporaries.pruned x)) in
      subst P (sym same)
      (record {
        seen = subst (λ rows. SeenAt rows (fold temporaries.promote_escaped t decls)) (more [] s.rows _) one;
        marks = λ f l. ap (λ ms. get_or ms f false) (same_marks temporaries.promote_escaped reasons.Escape (λ y i. (_, refl)) t decls) ∙ c.marks f l;
      })

  -- a function that is not marked is entered
  covers_entered : (s : Covered) (t : Tables) → Covers s t → (f : FunctionId) → KnownFunction m f → Covers (entering m s f) (temporaries.entered t f)
  covers_entered s t c f h =
      let js = fold (admit m) [] s.rows in
      let params = identifiers_in m.pool (function_of m f.0).parameters in
      let on = temporaries.with_mark t f in
      let now_known : f.0 < length t.env.functions = omega (arith, ap length c.seen.view.grown.functions) in
      let v = c.seen.view in
      let marked : SeenAt js on = record {
        view = record { env = v.env; known = v.known; grown = v.grown; upper = v.upper; escaped = v.escaped; promoted_so = v.promoted_so };
        sound = sound_grows c.seen.sound (visiting.grows_mark t f c.seen.sound now_known);
      } in
      let one = seen_all reasons.InnerParameter js on marked params (static.functions f.0 h).parameters in
      let same : temporaries.entered t f ≡ fold (promote_unnamed reasons.InnerParameter) on params =
      (λ i. fold (promote_unnamed reasons.InnerParameter) on (identifiers_in (v.grown.pool i) (function_is t js c.seen f.0 i).parameters)) in
      let P : Tables → Type 0 = Covers (entering m s f) in
      subst P (sym same)
      (record {
        seen = subst (λ rows. SeenAt rows (fold (promote_unnamed reasons.InnerParameter) on params)) (more [] s.rows _) one;
        marks = λ g l.
            ap (λ ms. get_or ms g false) (same_marks (promote_unnamed reasons.InnerParameter) reasons.InnerParameter (unnamed_by reasons.InnerParameter) on params)
            ∙ ⊎_elim
            (λ e.
            ap (λ k. get_or (set t.notes.marks f.0 true) k false) e
            ∙ get_or-set_same t.notes.marks f.0 true false (omega (arith, c.seen.sound.marks, now_known))
            ∙ sym (ap (λ b. b || s.visited g) (eq-eqb g f.0 e)))
            (λ ne.
            get_or-set_other t.notes.marks f.0 g true false ne ∙ c.marks g l
            ∙ sym (ap (λ b. b || s.visited g) (ne_eqb g f.0 ne)))
            (cases_eq g f.0);
      })

  covers_each : (visit : Tables → FunctionId → Tables) (reach : Covered → FunctionId → Covered) → ((s : Covered) (t : Tables) → Covers s t → (f : FunctionId) → KnownFunction m f → Covers (reach s f) (visit t f)) → (fs : List FunctionId) → Each (KnownFunction m) fs → (s : Covered) (t : Tables) → Covers s t → Covers (fold reach s fs) (fold visit t fs)
  covers_each visit reach one [] h s t c = c
  covers_each visit reach one (f ∷ fs) h s t c = covers_each visit reach one fs h.1 (reach s f) (visit t f) (one s t c f h.0)

  covers_reaching : (k : ℕ) (s : Covered) (t : Tables) → Covers s t → (f : FunctionId) → KnownFunction m f → Covers (reaching k m s f) (temporaries.visit k t f)
  covers_reaching zero s t c f h = c
  covers_reaching (suc k) s t c f h =
      let was = c.marks f.0 h in
      let nested = functions_in m.pool (function_of m f.0).nested in
      let list : temporaries.nested_in t f ≡ nested = (λ i. functions_in (c.seen.view.grown.pool i) (function_is t (fold (admit m) [] s.rows) c.seen f.0 i).nested) in
      ⊎_elim
      (λ e.
      let x : reaching (suc k) m s f ≡ s = cond-true _ _ _ e in
      let y : temporaries.visit (suc k) t f ≡ t = cond-true _ _ _ (was ∙ e) in
      let P : Covered → Type 0 = λ a. Covers a (temporaries.visit (suc k) t f) in
      subst P (sym x) (subst (Covers s) (sym y) c))
      (λ e.
      let x : reaching (suc k) m s f ≡ fold (reaching k m) (entering m s f) nested = cond-false _ _ _ e in
      let y : temporaries.visit (suc k) t f ≡ fold (temporaries.visit k) (temporaries.entered t f) nested = cond-false _ _ _ (was ∙ e) ∙ ap (fold (temporaries.visit k) (temporaries.entered t f)) list in
      let P : Covered → Type 0 = λ a. Covers a (temporaries.visit (suc k) t f) in
      subst P (sym x)
      (subst (Covers (fold (reaching k m) (entering m s f) nested)) (sym y)
      (covers_each (temporaries.visit k) (reaching k m) (λ a b d g l. covers_reaching k a b d g l) nested (static.functions f.0 h).nested (entering m s f) (temporaries.entered t f) (covers_entered s t c f h))))
      (cases_Bool (s.visited f.0))

  pub covers_does : (s : Covered) (t : Tables) → Covers s t → (a : temporaries.Act) → temporaries.Fits m a → Covers (covering m out s a) (temporaries.does t a)
  covers_does s t c (temporaries.scope x) h = covers_scope s t c x h
  covers_does s t c (temporaries.pruned x) h = covers_pruned s t c x h
  covers_does s t c (temporaries.inner f) h =
      let n : length t.env.functions ≡ length m.functions = ap length c.seen.view.grown.functions in
      let P : ℕ → Type 0 = λ k. Covers (reaching (length m.functions) m s f) (temporaries.visit k t f) in
      subst P (sym n) (covers_reaching (length m.functions) s t c f h)

  pub covers_all : (acts : List temporaries.Act) → Each (temporaries.Fits m) acts → (s : Covered) (t : Tables) → Covers s t → Covers (fold (covering m out) s acts) (fold temporaries.does t acts)
  covers_all [] h s t c = c
  covers_all (a ∷ acts) h s t c = covers_all acts h.1 (covering m out s a) (temporaries.does t a) (covers_does s t c a h.0)

  -- own parameters are covered first
  pub covers_parameters : (t : Tables) → Seen m up out (declares m) [] t → ((f : ℕ) → f < length m.functions → get_or t.notes.marks f false ≡ false) → (ps : Span) → KnownIn m ps → Covers (record { visited = λ f. false; rows = covers reasons.OwnParameter (identifiers_in m.pool ps) }) (fold (promote_unnamed reasons.OwnParameter) t (identifiers_in m.pool ps))
  covers_parameters t s unmarked ps h = record {
    seen = seen_all reasons.OwnParameter [] t s (identifiers_in m.pool ps) h;
    marks = λ f l. ap (λ ms. get_or ms f false) (same_marks (promote_unnamed reasons.OwnParameter) reasons.OwnParameter (unnamed_by reasons.OwnParameter) t (identifiers_in m.pool ps)) ∙ unmarked f l;
  }

-- the second pass leaves what is noted of identifiers
module _ {A : Type 0} (g : Work → A) (keeps : (w : Work) → g (as_promoted w) ≡ g w) (d : ℕ) where
  by_if : (b : Bool) (why : Reason) (t : Tables) (i : IdentifierId) → g (work_of (promote_if b why t i).notes d) ≡ g (work_of t.notes d)
  by_if true why t i = same_field g keeps t.notes.work (declaration_of t.env i.0) d
  by_if false why t i = refl

  by_list : (f : Tables → IdentifierId → Tables) (why : Reason) → ((t : Tables) (i : IdentifierId) → (b : Bool) × (f t i ≡ promote_if b why t i)) → (t : Tables) (is : List IdentifierId) → g (work_of (fold f t is).notes d) ≡ g (work_of t.notes d)
  by_list f why by t [] = refl
  by_list f why by t (i ∷ is) = by_list f why by (f t i) is ∙ ap (λ (x : Tables). g (work_of x.notes d)) (by t i).1 ∙ by_if (by t i).0 why t i

  by_functions : (f : Tables → FunctionId → Tables) → ((t : Tables) (h : FunctionId) → g (work_of (f t h).notes d) ≡ g (work_of t.notes d)) → (t : Tables) (fs : List FunctionId) → g (work_of (fold f t fs).notes d) ≡ g (work_of t.notes d)
  by_functions f one t [] = refl
  by_functions f one t (h ∷ fs) = by_functions f one (f t h) fs ∙ one t h

  by_visit : (k : ℕ) (t : Tables) (f : FunctionId) → g (work_of (temporaries.visit k t f).notes d) ≡ g (work_of t.notes d)
  by_visit zero t f = refl
  by_visit (suc k) t f =
      cond_both (temporaries.is_marked t f) t (fold (temporaries.visit k) (temporaries.entered t f) (temporaries.nested_in t f)) (λ x. g (work_of x.notes d) ≡ g (work_of t.notes d))
      (λ e. refl)
      (λ e.
      by_functions (temporaries.visit k) (λ x h. by_visit k x h) (temporaries.entered t f) (temporaries.nested_in t f)
      ∙ by_list (promote_unnamed reasons.InnerParameter) reasons.InnerParameter (λ x i. (is_unnamed x.env i, refl)) (temporaries.with_mark t f) (identifiers_in t.env.pool (function_of t.env f.0).parameters))

  by_act : (t : Tables) (a : temporaries.Act) → g (work_of (temporaries.does t a).notes d) ≡ g (work_of t.notes d)
  by_act t (temporaries.scope x) =
      by_list (promote_unnamed reasons.Scope) reasons.Scope (λ y i. (is_unnamed y.env i, refl)) _ (identifiers_in t.env.pool (scope_of t.env x.0).declarations)
      ∙ by_list (promote_unnamed reasons.Scope) reasons.Scope (λ y i. (is_unnamed y.env i, refl)) t (identifiers_in t.env.pool (scope_of t.env x.0).dependencies)
  by_act t (temporaries.pruned x) = by_list temporaries.promote_escaped reasons.Escape (λ y i. (is_unnamed y.env i && (work_of y.notes (declaration_of y.env i.0)).escaped, refl)) t (identifiers_in t.env.pool (scope_of t.env x.0).declarations)
  by_act t (temporaries.inner f) = by_visit (length t.env.functions) t f

  by_acts : (acts : List temporaries.Act) (t : Tables) → g (work_of (fold temporaries.does t acts).notes d) ≡ g (work_of t.notes d)
  by_acts [] t = refl
  by_acts (a ∷ acts) t = by_acts acts (temporaries.does t a) ∙ by_act t a

  pub kept_field : (t : Tables) (ps : List IdentifierId) (acts : List temporaries.Act) → g (work_of (fold temporaries.does (fold (promote_unnamed reasons.OwnParameter) t ps) acts).notes d) ≡ g (work_of t.notes d)
  kept_field t ps acts = by_acts acts _ ∙ by_list (promote_unnamed reasons.OwnParameter) reasons.OwnParameter (λ y i. (is_unnamed y.env i, refl)) t ps

-- The last pass names what reason 6 covers. Assumes nothing.
use Rattle.std.proofs.Common.{◌≡◌, ℕ, Bool, List, [], ◌∷◌, ◌++◌, get_or, sym, refl, ap, ◌∙◌, subst}
use Rattle.std.proofs.lemmas.List.Sums.{fold-append}
use Rattle.std.specs.List.{filter, fold}
use Rattle.std.proofs.lemmas.List.Elements.{filter-append}
use Rattle.hir.specs.declared.ids.IdentifierId.{IdentifierId}
use Rattle.hir.specs.declared.tables.JournalRow.{JournalRow}
use Rattle.hir.specs.declared.tables.Reason.{Reason}
use Rattle.hir.specs.declared.tables.Reason.TheVariants as reasons
use Rattle.hir.specs.Environments.{Model, no_scope, no_function, declaration_of, scope_of}
use Rattle.hir.specs.Lists.{Each}
use Rattle.hir.specs.Scratches.{Tables, work_of}
use Rattle.hir.specs.Sound.{Known}
use Rattle.hir.specs.Spans.{identifiers_in}
use Rattle.walk.proofs.Fitting.{each_append}
use Rattle.instances.specs.Instances as instances
use Rattle.reasons.specs.Coverings.{covers, visits_of, visits}
use Rattle.reasons.proofs.Admitting.{admit}
use Rattle.reasons.proofs.Steps.{Seen, seen_list, goes_same}
use Rattle.reasons.proofs.Early.{Static}

pub covers_append : (why : Reason) (xs ys : List IdentifierId) → covers why (xs ++ ys) ≡ covers why xs ++ covers why ys
covers_append why [] ys = refl
covers_append why (x ∷ xs) ys = ap (λ zs. record { identifier = x; reason = why } ∷ zs) (covers_append why xs ys)

module _ (m : Model) (up out done : ℕ → Bool) (static : Static m) where
  abbrev SeenAt : List JournalRow → Tables → Type 0
  SeenAt js t = Seen m up out (λ xs. done) js t

  -- the identifiers of a list are visited
  pub seen_visited : (js : List JournalRow) (t : Tables) → SeenAt js t → (is : List IdentifierId) → Each (Known m) is → SeenAt (fold (admit m) js (covers reasons.SameDeclaration (filter (λ i. done (declaration_of m i.0)) is))) (fold instances.promote_instance t is)
  seen_visited js t s is h =
      seen_list m up out (λ xs. done) reasons.SameDeclaration instances.promote_instance (λ x i. (work_of x.notes (declaration_of x.env i.0)).promoted) (λ i. done (declaration_of m i.0)) (goes_same m done) (λ x i. refl)
      (λ xs x i v k l. ap (λ d. (work_of x.notes d).promoted) (v.grown.declarations i.0) ∙ v.promoted_so (declaration_of m i.0) (static.declared i.0 l))
      js t s is h

  -- an act of the pass visits its identifiers
  does_is : (js : List JournalRow) (t : Tables) → SeenAt js t → (a : instances.Act) → instances.does t a ≡ fold instances.promote_instance t (visits_of m a)
  does_is js t s (instances.again i) = refl
  does_is js t s (instances.parameters f) =
      (λ k. fold instances.promote_instance t (identifiers_in (s.view.grown.pool k) (get_or (s.view.grown.functions k) f.0 no_function).parameters))
  does_is js t s (instances.leaves x) =
      let decls = identifiers_in m.pool (scope_of m x.0).declarations in
      let deps = identifiers_in m.pool (scope_of m x.0).dependencies in
      let again = identifiers_in m.pool (scope_of m x.0).reassignments in
      (λ k.
      fold instances.promote_instance
      (fold instances.promote_instance
      (fold instances.promote_instance t (identifiers_in (s.view.grown.pool k) (get_or (s.view.grown.scopes k) x.0 no_scope).declarations))
      (identifiers_in (s.view.grown.pool k) (get_or (s.view.grown.scopes k) x.0 no_scope).dependencies))
      (identifiers_in (s.view.grown.pool k) (get_or (s.view.grown.scopes k) x.0 no_scope).reassignments))
      ∙ sym (fold-append instances.promote_instance (fold instances.promote_instance t decls) deps again)
      ∙ sym (fold-append instances.promote_instance t decls (deps ++ again))

  visits_known : (a : instances.Act) → instances.Fits m a → Each (Known m) (visits_of m a)
  visits_known (instances.again i) h = (h, tt)
  visits_known (instances.parameters f) h = (static.functions f.0 h).parameters
  visits_known (instances.leaves x) h =
      let c = static.scopes x.0 h in
      each_append (Known m) _ _ c.declarations (each_append (Known m) _ _ c.dependencies c.reassignments)

  pub seen_acts : (acts : List instances.Act) → Each (instances.Fits m) acts → (js : List JournalRow) (t : Tables) → SeenAt js t → SeenAt (fold (admit m) js (covers reasons.SameDeclaration (filter (λ i. done (declaration_of m i.0)) (visits m acts)))) (fold instances.does t acts)
  seen_acts [] h js t s = s
  seen_acts (a ∷ acts) h js t s =
      let mine = filter (λ i. done (declaration_of m i.0)) (visits_of m a) in
      let others = filter (λ i. done (declaration_of m i.0)) (visits m acts) in
      let here = seen_visited js t s (visits_of m a) (visits_known a h.0) in
      let here_done = subst (λ x. SeenAt (fold (admit m) js (covers reasons.SameDeclaration mine)) x) (sym (does_is js t s a)) here in
      let rest = seen_acts acts h.1 (fold (admit m) js (covers reasons.SameDeclaration mine)) (instances.does t a) here_done in
      subst (λ rows. SeenAt rows (fold instances.does (instances.does t a) acts))
      (sym (fold-append (admit m) js (covers reasons.SameDeclaration mine) (covers reasons.SameDeclaration others))
      ∙ ap (fold (admit m) js) (sym (covers_append reasons.SameDeclaration mine others) ∙ ap (covers reasons.SameDeclaration) (sym (filter-append (λ i. done (declaration_of m i.0)) (visits_of m a) (visits m acts)))))
      rest

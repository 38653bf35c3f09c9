-- Where no identifier is left to the last pass, it names nothing. Assumes nothing.
use Rattle.std.proofs.Common.{◌≡◌, false, List, [], ◌∷◌, refl, sym, ap, ◌∙◌}
use Rattle.std.proofs.lemmas.Bool.{cond-false, false_from_ne_true, true≢false}
use Rattle.std.proofs.lemmas.List.Folds.{list_any_at}
use Rattle.hir.specs.declared.ids.IdentifierId.{IdentifierId}
use Rattle.hir.specs.declared.span.Span.{Span}
use Rattle.hir.specs.Environments.{no_identifier, row_of, scope_of}
use Rattle.hir.specs.Lists.{Each}
use Rattle.std.specs.List.{fold, list_any}
use Rattle.hir.specs.Scratches.{Tables}
use Rattle.hir.specs.Sound.{Sound, Known, KnownIn}
use Rattle.hir.specs.Spans.{identifiers_in}
use Rattle.reactive.specs.Rows.{Row}
use Rattle.instances.specs.Instances.{Act, again, parameters, leaves, promote_instance, is_left, does, pass_acts, Fits, promote_all_instances}

module _ (t : Tables) (sound : Sound t) (none : list_any (is_left t.notes) t.env.identifiers ≡ false) where
  same_instance : (i : IdentifierId) → Known t.env i → promote_instance t i ≡ t
  same_instance i h = cond-false _ _ _ (false_from_ne_true (is_left t.notes (row_of t.env i.0)) (λ e. true≢false (sym (list_any_at (is_left t.notes) t.env.identifiers i.0 no_identifier h e) ∙ none)))

  same_list : (is : List IdentifierId) → Each (Known t.env) is → fold promote_instance t is ≡ t
  same_list [] h = refl
  same_list (i ∷ is) h = ap (λ x. fold promote_instance x is) (same_instance i h.0) ∙ same_list is h.1

  same_act : (a : Act) → Fits t.env a → does t a ≡ t
  same_act (again i) h = same_instance i h
  same_act (parameters f) h = same_list _ (sound.functions f.0 h).parameters
  same_act (leaves s) h =
      let lists = sound.scopes s.0 h in
      let scope = scope_of t.env s.0 in
      ap (λ x. fold promote_instance (fold promote_instance x (identifiers_in t.env.pool scope.dependencies)) (identifiers_in t.env.pool scope.reassignments)) (same_list _ lists.declarations)
      ∙ ap (λ x. fold promote_instance x (identifiers_in t.env.pool scope.reassignments)) (same_list _ lists.dependencies)
      ∙ same_list _ lists.reassignments

  same_acts : (todo : List Act) → Each (Fits t.env) todo → fold does t todo ≡ t
  same_acts [] h = refl
  same_acts (a ∷ todo) h = ap (λ x. fold does x todo) (same_act a h.0) ∙ same_acts todo h.1

  pub idle : (ps : Span) (rs : List Row) → KnownIn t.env ps → Each (Fits t.env) (pass_acts rs) → promote_all_instances t ps rs ≡ t
  idle ps rs known fits = ap (λ x. fold does x (pass_acts rs)) (same_list _ known) ∙ same_acts (pass_acts rs) fits

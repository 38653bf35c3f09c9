use Rattle.std.proofs.Common.{◌≡◌, get_or, rules, ◌/◌, [], ◌∷◌, length, vec_items, sym, refl, subst, append-nil}
use Rattle.image.specs.Steps.{held}
use Rattle.image_check.specs.Steps.{identifiers_of}
use Rattle.image_tables.specs.Tables.{NewRows, NewBy}
use Rattle.hir.specs.declared.tables.Scope.{Scope}
use Rattle.hir.specs.declared.tables.Function.{Function}
use Rattle.image_tables.specs.declared.tables.Panel.{Panel}
use Rattle.image_tables.proofs.Spans.{zero_span, scope_added, function_added, panel_added}
use Rattle.image_tables.proofs.load.add_section.Goals as goal

pub returns-in_ok-add_identifiers-in-Identifiers : goal.returns-in_ok-add_identifiers-in-Identifiers
returns-in_ok-add_identifiers-in-Identifiers c =
    let bs = c.in-Identifiers.content.now in
    let pool = vec_items c.args.tables.now.pool in
    let new : NewRows = record { identifiers = identifiers_of (length bs / 5) bs; scopes = []; functions = []; panels = [] } in
    record {
      rows = new;
      identifiers = c.in_ok-add_identifiers-in-Identifiers.ensures;
      scopes = sym (append-nil _);
      functions = sym (append-nil _);
      panels = sym (append-nil _);
      by = subst (λ s. NewBy (held s).rank (held s).bytes pool new pool) (sym c.in-Identifiers.is) (refl, refl);
    }

pub returns-in_ok-push-in-Scope : goal.returns-in_ok-push-in-Scope
returns-in_ok-push-in-Scope c =
    let ss = c.in_ok-dependencies-in-Scope.field-0 in
    let h = c.in_ok-dependencies-in-Scope.ensures in
    let size : length ss ≡ 3 = search rules in
    let x : Scope = record { dependencies = get_or ss 0 zero_span; declarations = get_or ss 1 zero_span; reassignments = get_or ss 2 zero_span } in
    let new : NewRows = record { identifiers = []; scopes = x ∷ []; functions = []; panels = [] } in
    record {
      rows = new;
      identifiers = sym (append-nil _);
      scopes = c.in_ok-push-in-Scope.ensures.items;
      functions = sym (append-nil _);
      panels = sym (append-nil _);
      by = subst (λ s. NewBy (held s).rank (held s).bytes (vec_items c.args.tables.now.pool) new (vec_items c.add_lists.new.pool)) (sym c.in-Scope.is) (x, refl, scope_added _ _ ss h.0 _ zero_span size h.1);
    }

pub returns-in_ok-push-in-Function : goal.returns-in_ok-push-in-Function
returns-in_ok-push-in-Function c =
    let ss = c.in_ok-parameters-in-Function.field-0 in
    let h = c.in_ok-parameters-in-Function.ensures in
    let size : length ss ≡ 2 = search rules in
    let x : Function = record { parameters = get_or ss 0 zero_span; nested = get_or ss 1 zero_span } in
    let new : NewRows = record { identifiers = []; scopes = []; functions = x ∷ []; panels = [] } in
    record {
      rows = new;
      identifiers = sym (append-nil _);
      scopes = sym (append-nil _);
      functions = c.in_ok-push-in-Function.ensures.items;
      panels = sym (append-nil _);
      by = subst (λ s. NewBy (held s).rank (held s).bytes (vec_items c.args.tables.now.pool) new (vec_items c.add_lists-in-Function.new.pool)) (sym c.in-Function.is) (x, refl, function_added _ _ ss h.0 _ zero_span size h.1);
    }

pub returns-in_ok-push-in-Tree : goal.returns-in_ok-push-in-Tree
returns-in_ok-push-in-Tree c =
    let ss = c.in_ok-parameters-in-Tree.field-0 in
    let h = c.in_ok-parameters-in-Tree.ensures in
    let size : length ss ≡ 1 = search rules in
    let x : Panel = record { parameters = get_or ss 0 zero_span; content = c.in-Tree.content } in
    let new : NewRows = record { identifiers = []; scopes = []; functions = []; panels = x ∷ [] } in
    record {
      rows = new;
      identifiers = sym (append-nil _);
      scopes = sym (append-nil _);
      functions = sym (append-nil _);
      panels = c.in_ok-push-in-Tree.ensures.items;
      by = subst (λ s. NewBy (held s).rank (held s).bytes (vec_items c.args.tables.now.pool) new (vec_items c.add_lists-in-Tree.new.pool)) (sym c.in-Tree.is) (x, refl, panel_added _ ss h.0 _ zero_span c.in-Tree.content size h.1);
    }

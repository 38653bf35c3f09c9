-- What the last pass keeps. Assumes nothing.
use Rattle.std.proofs.Common.{◌≡◌, ℕ, ◌<◌, true, eqb, List, [], ◌∷◌, ◌++◌, map, length, Some, Option, sym, ap, ◌∙◌, subst, arith}
use Rattle.std.proofs.lemmas.Bool.{and_parts, cond-true}
use Rattle.hir.specs.declared.ids.FunctionId.{FunctionId}
use Rattle.hir.specs.declared.ids.IdentifierId.{IdentifierId}
use Rattle.hir.specs.declared.ids.ScopeId.{ScopeId}
use Rattle.hir.specs.declared.tables.Reason.TheVariants as reasons
use Rattle.hir.specs.Environments.{Model}
use Rattle.hir.specs.Lists.{Each}
use Rattle.std.specs.List.{fold}
use Rattle.hir.specs.Scratches.{Tables}
use Rattle.hir.specs.Sound.{Sound, Known, KnownFunction, KnownScope}
use Rattle.reactive.specs.declared.row.RowHead.{RowHead}
use Rattle.reactive.specs.Codes.{listed}
use Rattle.reactive.specs.Numbers.{function_in}
use Rattle.reactive.specs.Rows.{Row, head}
use Rattle.reactive.specs.Sound.{RowSound}
use Rattle.walk.specs.Events.{entering, leaving}
use Rattle.walk.proofs.Acting.{Splits, ready_onward, over_onward}
use Rattle.walk.proofs.Fitting.{each_acts, each_append, each_cond, each_map, each_listed}
use Rattle.promote.specs.Growth.{Grows}
use Rattle.promote.specs.Identifier.{is_unnamed}
use Rattle.promote.proofs.Growing.{Kept, kept, grows_trans, grows_if, grows_each, sound_grows}
use Rattle.promote.proofs.Passing as passing
use Rattle.instances.specs.Instances.{Act, again, parameters, leaves, promote_instance, does, row_acts, keeps, acts, pass_acts, Fits, Ready}

pub grows_instance : (t : Tables) (i : IdentifierId) → Sound t → Known t.env i → Grows t (promote_instance t i)
grows_instance t i s h = grows_if _ reasons.SameDeclaration t i (λ e. (and_parts (is_unnamed t.env i) _ e).0) s h

pub grows_list : (t : Tables) (is : List IdentifierId) → Sound t → Each (Known t.env) is → Grows t (fold promote_instance t is)
grows_list = grows_each promote_instance grows_instance

-- lists that were known before the naming
on_list : (b t : Tables) → Sound b → Grows b t → (is : List IdentifierId) → Each (Known b.env) is → Grows b (fold promote_instance t is)
on_list b t s g is h =
    let P : ℕ → Type 0 = λ n. Each (λ (j : IdentifierId). j.0 < n) is in
    grows_trans g (grows_list t is (sound_grows s g) (subst P (sym (kept g.named).size) h))

grows_does : (t : Tables) (a : Act) → Sound t → Fits t.env a → Grows t (does t a)
grows_does t (again i) s h = grows_instance t i s h
grows_does t (parameters f) s h = grows_list t _ s (s.functions f.0 h).parameters
grows_does t (leaves x) s h =
    let c = s.scopes x.0 h in
    on_list t _ s (on_list t _ s (grows_list t _ s c.declarations) _ c.dependencies) _ c.reassignments

fits_kept : (m t : Model) → Kept m t → (a : Act) → Fits m a → Fits t a
fits_kept m t k (again i) h = omega (arith, k.size)
fits_kept m t k (parameters f) h = let e = ap length k.functions in omega arith
fits_kept m t k (leaves s) h = let e = ap length k.scopes in omega arith

pub splits : Splits does Ready
splits = passing.splits does Fits fits_kept grows_does

pub ready_grows : (b t : Tables) (todo : List Act) → Ready b todo → Grows b t → Ready t todo
ready_grows = passing.ready_grows does Fits fits_kept grows_does

pub grows_over : (t : Tables) (todo : List Act) → Ready t todo → Grows t (fold does t todo)
grows_over = passing.grows_over does Fits fits_kept grows_does

-- a Leaf: its operands, and the parameters of its function
module _ (p : Option (Option ScopeId)) (r : Row) (q : RowHead) (e : q ≡ head r) (is : true ≡ eqb q.code 5) where
  leaf_acts : acts (entering p r) ≡ map again r.operands ++ map parameters (listed (function_in q.number))
  leaf_acts =
      (λ i. row_acts (sym e i).code (sym e i).identifier (sym e i).number r.operands)
      ∙ cond-true _ _ _ (sym is)

  module _ (t : Tables) (ready : Ready t (acts (entering p r))) where
    ready_leaf : Ready t (map again r.operands ++ map parameters (listed (function_in q.number)))
    ready_leaf = subst (Ready t) leaf_acts ready

    module _ (v : Tables) (went : v ≡ fold does t (map again r.operands)) where
      ready_rest : Ready v (map parameters (listed (function_in q.number)))
      ready_rest = ready_onward does Ready splits t v _ _ ready_leaf went

      module _ (f : FunctionId) (has : Some f ≡ function_in q.number) where
        pub ready_function : Ready v (parameters f ∷ [])
        ready_function = let P : Option FunctionId → Type 0 = λ o. Ready v (map parameters (listed o)) in subst P (sym has) ready_rest

        pub leaf_done : (on : Tables) → on ≡ does v (parameters f) → on ≡ fold does t (acts (entering p r))
        leaf_done on h =
            over_onward does Ready splits t v on (map again r.operands) (parameters f ∷ []) went h
            ∙ ap (λ o. fold does t (map again r.operands ++ map parameters (listed o))) has
            ∙ ap (fold does t) (sym leaf_acts)

-- the acts of sound rows speak of what has a row
module _ (m : Model) where
  fits_again : (is : List IdentifierId) → Each (Known m) is → Each (Fits m) (map again is)
  fits_again is h = each_map (Fits m) again (Known m) (λ x k. k) is h

  fits_enter : (p : Option (Option ScopeId)) (r : Row) → RowSound m r → Each (Fits m) (acts (entering p r))
  fits_enter p r h =
      each_cond (Fits m) (eqb r.code 5) _ _
      (each_append (Fits m) (map again r.operands) _ (fits_again r.operands h.operands)
      (each_map (Fits m) parameters (KnownFunction m) (λ f k. k) (listed (function_in r.number)) (each_listed (KnownFunction m) (function_in r.number) h.function)))
      (fits_again (listed r.identifier) (each_listed (Known m) r.identifier h.identifier))

  fits_leave : (o : Option ScopeId) → ((s : ScopeId) → o ≡ Some s → KnownScope m s) → Each (Fits m) (acts (leaving o))
  fits_leave o h = each_map (Fits m) leaves (KnownScope m) (λ s k. k) (listed o) (each_listed (KnownScope m) o h)

-- the pass can go over sound rows
pub ready_rows : (t : Tables) (rs : List Row) → Sound t → Each (RowSound t.env) rs → Ready t (pass_acts rs)
ready_rows t rs s h =
    record { sound = s; fits = each_acts keeps (RowSound t.env) (λ o. (s : ScopeId) → o ≡ Some s → KnownScope t.env s) (λ r k. k.scope) acts (Fits t.env) (λ p r w. fits_enter t.env p r) (fits_leave t.env) [] rs tt h }

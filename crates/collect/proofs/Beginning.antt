-- The first pass can go over sound rows. Assumes nothing.
use Rattle.std.proofs.Common.{◌≡◌, ℕ, ◌+◌, ◌^◌, ◌<◌, ◌≤◌, Bool, true, false, cond, eqb, leb, List, [], ◌∷◌, ◌++◌, map, length, Some, None, Option, IfSome, sym, refl, ap, subst, append-nil, arith}
use Rattle.std.proofs.lemmas.Bool.{cond_both}
use Rattle.hir.specs.declared.ids.ScopeId.{ScopeId}
use Rattle.hir.specs.Environments.{Model}
use Rattle.hir.specs.Lists.{Each}
use Rattle.hir.specs.Scratches.{Tables, work_of}
use Rattle.hir.specs.Sound.{Sound, Known}
use Rattle.reactive.specs.Codes.{uses_identifier, used_in, listed}
use Rattle.reactive.specs.Numbers.{scope_in}
use Rattle.reactive.specs.Rows.{Row, head, scope_rows}
use Rattle.reactive.specs.Sound.{RowSound}
use Rattle.walk.specs.Events.{Event, entering, leaving, closing, staying, innermost_of, events, acts_of}
use Rattle.walk.proofs.Fitting.{each_acts, each_append, each_cond, each_map, each_listed}
use Rattle.collect.specs.Links.{reach}
use Rattle.collect.specs.Promotable.{Act, opens, shuts, prunes, sees, flags, leaf_acts, row_acts, keeps, acts, pass_acts, Fits, openings, Ready, begun}
use Rattle.collect.proofs.Keeping.{openings_append}

-- ---- the acts of sound rows speak of what has a row

module _ (m : Model) where
  fits_leaf : (r : Row) → RowSound m r → Each (Fits m) (leaf_acts r)
  fits_leaf r h =
      each_append (Fits m) (map sees r.operands) _ (each_map (Fits m) sees (Known m) (λ i k. k) r.operands h.operands)
      (each_cond (Fits m) (eqb r.kind 15) (map flags r.marks) [] (each_map (Fits m) flags (Known m) (λ i k. k) r.marks h.marks) tt)

  fits_used : (r : Row) → RowSound m r → Each (Fits m) (map sees (listed (used_in r.code r.identifier)))
  fits_used r h =
      cond_both (uses_identifier r.code) r.identifier None (λ o. Each (Fits m) (map sees (listed o)))
      (λ e. each_map (Fits m) sees (Known m) (λ i k. k) (listed r.identifier) (each_listed (Known m) r.identifier h.identifier)) (λ e. tt)

  fits_enter : (p : Option Bool) (r : Row) → RowSound m r → Each (Fits m) (acts (entering p r))
  fits_enter p r h =
      let In : ScopeId → Type 0 = λ s. s.0 < length m.scopes in
      let scopes = each_listed In (scope_in r.number) h.scope in
      each_cond (Fits m) (eqb r.code 3) _ _ (each_map (Fits m) opens In (λ s k. tt) (listed (scope_in r.number)) scopes)
      (each_cond (Fits m) (eqb r.code 4) _ _ (each_map (Fits m) prunes In (λ s k. k) (listed (scope_in r.number)) scopes)
      (each_cond (Fits m) (eqb r.code 5) _ _ (fits_leaf r h) (fits_used r h)))

  fits_leave : (active : Bool) → Each (Fits m) (acts (leaving active))
  fits_leave active = each_cond (Fits m) active (shuts ∷ []) [] (tt, tt) tt

-- ---- trail rows that they append

no_openings : {A : Type 0} (f : A → Act) → ((x : A) → openings (f x ∷ []) ≡ 0) → (xs : List A) → openings (map f xs) ≡ 0
no_openings f none [] = refl
no_openings f none (x ∷ xs) = let h = openings_append (f x ∷ []) (map f xs) in let k = no_openings f none xs in omega (arith, h, k, none x)

opened_once : (o : Option ScopeId) → openings (map opens (listed o)) ≤ 1
opened_once None = omega arith
opened_once (Some s) = omega arith

openings_leaf : (r : Row) → openings (leaf_acts r) ≡ 0
openings_leaf r =
    let a = openings_append (map sees r.operands) (cond (eqb r.kind 15) (map flags r.marks) []) in
    let b = no_openings sees (λ i. refl) r.operands in
    let c : openings (cond (eqb r.kind 15) (map flags r.marks) []) ≡ 0 =
    cond_both (eqb r.kind 15) (map flags r.marks) [] (λ xs. openings xs ≡ 0) (λ e. no_openings flags (λ i. refl) r.marks) (λ e. refl) in
    omega (arith, a, b, c)

once_if : (b : Bool) (xs ys : List Act) → openings xs ≤ 1 → openings ys ≡ 0 → openings (cond b xs ys) ≤ cond b 1 0
once_if true xs ys h k = h
once_if false xs ys h k = omega arith

openings_row : (r : Row) → openings (row_acts r) ≤ cond (eqb r.code 3) 1 0
openings_row r =
    once_if (eqb r.code 3) _ _ (opened_once (scope_in r.number))
    (cond_both (eqb r.code 4) _ _ (λ xs. openings xs ≡ 0) (λ e. no_openings prunes (λ s. refl) (listed (scope_in r.number)))
    (λ e. cond_both (eqb r.code 5) _ _ (λ xs. openings xs ≡ 0) (λ e. openings_leaf r) (λ e. no_openings sees (λ i. refl) (listed (used_in r.code r.identifier)))))

openings_left : (active : Bool) → openings (acts (leaving active)) ≡ 0
openings_left active = cond_both active (shuts ∷ []) [] (λ xs. openings xs ≡ 0) (λ e. refl) (λ e. refl)

openings_closing : (d : ℕ) (around : List Bool) (es : List (Event Bool)) → openings (acts_of acts (closing d around ++ es)) ≡ openings (acts_of acts es)
openings_closing d [] es = refl
openings_closing d (r ∷ around) es =
    cond_both (leb d (length around)) (leaving r ∷ closing d around) [] (λ xs. openings (acts_of acts (xs ++ es)) ≡ openings (acts_of acts es))
    (λ e.
    let a = openings_append (acts (leaving r)) (acts_of acts (closing d around ++ es)) in
    omega (arith, a, openings_left r, openings_closing d around es))
    (λ e. refl)

openings_events : (around : List Bool) (rs : List Row) → openings (acts_of acts (events keeps around rs)) ≤ scope_rows rs
openings_events around [] =
    let e = ap (λ (es : List (Event Bool)). openings (acts_of acts es)) (append-nil (closing 0 around)) in
    omega (arith, e, openings_closing 0 around [])
openings_events around (r ∷ rs) =
    let rest = events keeps (keeps (head r) ∷ staying r.depth around) rs in
    let a = openings_closing r.depth around (entering (innermost_of (staying r.depth around)) r ∷ rest) in
    let b = openings_append (row_acts r) (acts_of acts rest) in
    omega (arith, a, b, openings_row r, openings_events (keeps (head r) ∷ staying r.depth around) rs)

-- a trail row is appended for a Scope row alone
pub few_openings : (rs : List Row) → openings (pass_acts rs) ≤ scope_rows rs
few_openings rs = openings_events [] rs

pub ready_begun : (t : Tables) (rs : List Row) → Sound t → ((d : ℕ) → (work_of t.notes d).recorded ≡ None) → openings (pass_acts rs) ≤ length t.notes.trail → openings (pass_acts rs) + 1 < 2 ^ 32 → Each (RowSound t.env) rs → Ready (begun t) (pass_acts rs)
ready_begun t rs sound fresh room low rows =
    record {
      sound = sound;
      linked = record { innermost = omega arith; down = λ j h. absurd (omega arith); recorded = λ d. subst (λ o. IfSome o (λ l. reach l ≤ 0)) (sym (fresh d)) tt };
      fits = each_acts keeps (RowSound t.env) (λ q. Unit {0}) (λ r k. tt) acts (Fits t.env) (λ p r w. fits_enter t.env p r) (λ q k. fits_leave t.env q) [] rs tt rows;
      room = omega arith;
      low = omega arith;
    }

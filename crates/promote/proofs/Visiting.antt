-- What the second pass keeps, and that its visits end. Assumes nothing.
use Rattle.std.proofs.Common.{◌≡◌, ℕ, zero, suc, ◌+◌, ◌<◌, ◌≤◌, Bool, true, false, eqb, List, [], ◌∷◌, map, length, get_or, take, drop, set, Some, None, Option, sym, refl, ap, ◌∙◌, subst, arith, length-set, length-take}
use Rattle.std.proofs.lemmas.List.{drop_all, drop_more, get_or-take, length-take-le}
use Rattle.std.proofs.lemmas.Bool.{and_parts, cond_both, cond-true, cond-false}
use Rattle.hir.specs.declared.ids.FunctionId.{FunctionId}
use Rattle.hir.specs.declared.ids.IdentifierId.{IdentifierId}
use Rattle.hir.specs.declared.ids.ScopeId.{ScopeId}
use Rattle.hir.specs.declared.tables.Reason.{Reason}
use Rattle.hir.specs.declared.tables.Reason.TheVariants as reasons
use Rattle.hir.specs.Environments.{Model, scope_of, function_of}
use Rattle.hir.specs.Lists.{Each}
use Rattle.std.specs.List.{fold}
use Rattle.hir.specs.Scratches.{Tables}
use Rattle.hir.specs.Sound.{Sound, Known, KnownFunction}
use Rattle.hir.specs.Spans.{identifiers_in, functions_in, function, part}
use Rattle.reactive.specs.declared.row.Number.{Number}
use Rattle.reactive.specs.declared.row.Number.TheVariants as numbers
use Rattle.reactive.specs.Numbers.{scope_in, function_in}
use Rattle.reactive.specs.Rows.{Row}
use Rattle.reactive.specs.Sound.{RowSound}
use Rattle.walk.proofs.Acting.{Splits}
use Rattle.walk.proofs.Fitting.{each_acts, each_cond}
use Rattle.promote.specs.Growth.{Grows, none}
use Rattle.promote.specs.Identifier.{promoted, promote_unnamed, is_unnamed}
use Rattle.promote.specs.Temporaries.{Act, scope, pruned, inner, promote_escaped, is_marked, with_mark, entered, nested_in, visit, unmarked, unvisited, does, row_acts, keeps, acts, pass_acts, Fits, Ready}
use Rattle.promote.proofs.Passing as passing
use Rattle.promote.proofs.Growing.{Kept, kept, grows_none, grows_trans, grows_if, grows_unnamed, grows_each, sound_grows}

pub grows_escaped : (t : Tables) (i : IdentifierId) → Sound t → Known t.env i → Grows t (promote_escaped t i)
grows_escaped t i s h = grows_if _ reasons.Escape t i (λ e. (and_parts (is_unnamed t.env i) _ e).0) s h

mark_less : (ms : List Bool) (f : ℕ) → f < length ms → get_or ms f false ≡ false → unmarked (set ms f true) + 1 ≡ unmarked ms
mark_less [] f h e = absurd (omega arith)
mark_less (true ∷ ms) zero h e = absurd (let z : ◌≡◌ {A = ℕ} 0 1 = cc in omega arith)
mark_less (false ∷ ms) zero h e = omega arith
mark_less (m ∷ ms) (suc f) h e = let r = mark_less ms f (omega arith) e in omega arith

take_set : {A : Type 0} (n : ℕ) (xs : List A) (i : ℕ) (x : A) → take n (set xs i x) ≡ set (take n xs) i x
take_set zero xs i x = refl
take_set (suc n) [] i x = refl
take_set (suc n) (y ∷ ys) zero x = refl
take_set (suc n) (y ∷ ys) (suc i) x = ap (λ zs. y ∷ zs) (take_set n ys i x)

-- naming leaves the marks
same_marks : (why : Reason) (t : Tables) (is : List IdentifierId) → (fold (promote_unnamed why) t is).notes.marks ≡ t.notes.marks
same_marks why t [] = refl
same_marks why t (i ∷ is) =
    same_marks why (promote_unnamed why t i) is
    ∙ cond_both (is_unnamed t.env i) (promoted why t i) t (λ x. x.notes.marks ≡ t.notes.marks) (λ e. refl) (λ e. refl)

-- identifiers were named, and no mark was taken back
pub record Visited (b t : Tables) : Type 0 where
  pub grows : Grows b t
  pub fewer : unvisited t ≤ unvisited b

visited_none : (t : Tables) → Visited t t
visited_none t = record { grows = grows_none t; fewer = omega arith }

visited_trans : {a b c : Tables} → Visited a b → Visited b c → Visited a c
visited_trans x y = record { grows = grows_trans x.grows y.grows; fewer = omega (arith, x.fewer, y.fewer) }

functions_kept : {m t : Model} → Kept m t → (fs : List FunctionId) → Each (KnownFunction m) fs → Each (KnownFunction t) fs
functions_kept {m} {t} k fs h =
    let P : ℕ → Type 0 = λ n. Each (λ (g : FunctionId). g.0 < n) fs in
    subst P (sym (ap length k.functions)) h

visited_each : (f : Tables → FunctionId → Tables) → ((t : Tables) (g : FunctionId) → Sound t → KnownFunction t.env g → Visited t (f t g)) → (t : Tables) (gs : List FunctionId) → Sound t → Each (KnownFunction t.env) gs → Visited t (fold f t gs)
visited_each f one t [] s h = visited_none t
visited_each f one t (g ∷ gs) s h =
    let v = one t g s h.0 in
    visited_trans v (visited_each f one (f t g) gs (sound_grows s v.grows) (functions_kept (kept v.grows.named) gs h.1))

module _ (t : Tables) (f : FunctionId) (s : Sound t) (h : KnownFunction t.env f) where
  pub grows_mark : Grows t (with_mark t f)
  grows_mark = record { rows = []; named = none; work = refl; marks = length-set _ _ _; trail = refl }

  pub grows_entered : Grows t (entered t f)
  grows_entered =
      grows_trans grows_mark
      (grows_each (promote_unnamed reasons.InnerParameter) (grows_unnamed reasons.InnerParameter) (with_mark t f) _ (sound_grows s grows_mark) (s.functions f.0 h).parameters)

  pub entered_less : is_marked t f ≡ false → unvisited (entered t f) + 1 ≡ unvisited t
  entered_less e =
      let n = length t.env.functions in
      let l : length (take n t.notes.marks) ≡ n = length-take-le n t.notes.marks s.marks in
      let g : get_or (take n t.notes.marks) f.0 false ≡ false = get_or-take n t.notes.marks f.0 false h ∙ e in
      let m = mark_less (take n t.notes.marks) f.0 (omega (arith, l, h)) g in
      let q = (kept grows_entered.named).functions in
      let k : unvisited (entered t f) ≡ unmarked (set (take n t.notes.marks) f.0 true) =
      (λ i. unmarked (take (length (q i)) (same_marks reasons.InnerParameter (with_mark t f) (identifiers_in t.env.pool (function_of t.env f.0).parameters) i)))
      ∙ ap unmarked (take_set n t.notes.marks f.0 true) in
      omega (arith, m, k)

  pub nested_known : Each (KnownFunction (entered t f).env) (nested_in t f)
  nested_known = functions_kept (kept grows_entered.named) (nested_in t f) (s.functions f.0 h).nested

  visited_entered : is_marked t f ≡ false → Visited t (entered t f)
  visited_entered e = record { grows = grows_entered; fewer = omega (arith, entered_less e) }

pub visited : (k : ℕ) (t : Tables) (f : FunctionId) → Sound t → KnownFunction t.env f → Visited t (visit k t f)
visited zero t f s h = visited_none t
visited (suc k) t f s h =
    cond_both (is_marked t f) t (fold (visit k) (entered t f) (nested_in t f)) (Visited t) (λ e. visited_none t)
    (λ e. visited_trans (visited_entered t f s h e) (visited_each (visit k) (visited k) (entered t f) (nested_in t f) (sound_grows s (grows_entered t f s h)) (nested_known t f s h)))

pub grows_does : (t : Tables) (a : Act) → Sound t → Fits t.env a → Grows t (does t a)
grows_does t (scope x) s h =
    let one = grows_unnamed reasons.Scope in
    let c = s.scopes x.0 h in
    let g = grows_each (promote_unnamed reasons.Scope) one t _ s c.dependencies in
    let k = kept g.named in
    let P : ℕ → Type 0 = λ n. Each (λ (j : IdentifierId). j.0 < n) (identifiers_in t.env.pool (scope_of t.env x.0).declarations) in
    grows_trans g (grows_each (promote_unnamed reasons.Scope) one _ _ (sound_grows s g) (subst P (sym k.size) c.declarations))
grows_does t (pruned x) s h = grows_each promote_escaped grows_escaped t _ s (s.scopes x.0 h).declarations
grows_does t (inner f) s h = (visited (length t.env.functions) t f s h).grows

fits_kept : (m t : Model) → Kept m t → (a : Act) → Fits m a → Fits t a
fits_kept m t k (scope s) h = let e = ap length k.scopes in omega arith
fits_kept m t k (pruned s) h = let e = ap length k.scopes in omega arith
fits_kept m t k (inner f) h = let e = ap length k.functions in omega arith

pub ready_grows : (b t : Tables) (todo : List Act) → Ready b todo → Grows b t → Ready t todo
ready_grows = passing.ready_grows does Fits fits_kept grows_does

pub splits : Splits does Ready
splits = passing.splits does Fits fits_kept grows_does

pub grows_over : (t : Tables) (todo : List Act) → Ready t todo → Grows t (fold does t todo)
grows_over = passing.grows_over does Fits fits_kept grows_does

-- i of the nested functions were visited, whatever bound on the depth is taken
pub record Visiting (start at : Tables) (ns : List ℕ) (i : ℕ) : Type 0 where
  pub same : (k : ℕ) → unvisited start ≤ k → fold (visit k) start (map function ns) ≡ fold (visit k) at (map function (drop i ns))
  pub visited_so : Visited start at
  pub sound : Sound at
  pub known : Each (KnownFunction at.env) (map function (drop i ns))

pub visiting_none : (start : Tables) (ns : List ℕ) → Sound start → Each (KnownFunction start.env) (map function ns) → Visiting start start ns 0
visiting_none start ns s h = record { same = λ k l. refl; visited_so = visited_none start; sound = s; known = h }

module _ (start at : Tables) (ns : List ℕ) (i : ℕ) (inv : Visiting start at ns i) (low : i < length ns) where
  here : map function (drop i ns) ≡ function (get_or ns i 0) ∷ map function (drop (i + 1) ns)
  here = ap (map function) (drop_more ns i 0 low)

  knows : Each (KnownFunction at.env) (function (get_or ns i 0) ∷ map function (drop (i + 1) ns))
  knows = subst (Each (KnownFunction at.env)) here inv.known

  pub visiting_known : KnownFunction at.env (function (get_or ns i 0))
  visiting_known = knows.0

  pub visiting_more : (on : Tables) → ((k : ℕ) → unvisited at ≤ k → on ≡ visit k at (function (get_or ns i 0))) → Visiting start on ns (i + 1)
  visiting_more on is =
      let v : Visited at on = subst (Visited at) (sym (is (unvisited at) (omega arith))) (visited (unvisited at) at (function (get_or ns i 0)) inv.sound visiting_known) in
      record {
        same = λ k l.
            let e = is k (omega (arith, inv.visited_so.fewer)) in
            inv.same k l ∙ ap (fold (visit k) at) here ∙ ap (λ t. fold (visit k) t (map function (drop (i + 1) ns))) (sym e);
        visited_so = visited_trans inv.visited_so v;
        sound = sound_grows inv.sound v.grows;
        known = functions_kept (kept v.grows.named) _ knows.1;
      }

-- a function that was marked already
pub visit_marked : (k : ℕ) (t : Tables) (f : FunctionId) → is_marked t f ≡ true → t ≡ visit k t f
visit_marked zero t f e = refl
visit_marked (suc k) t f e = sym (cond-true _ _ _ e)

-- all of them were visited
pub visiting_all : (b start at : Tables) (f : FunctionId) (ns : List ℕ) (i : ℕ) → Sound b → KnownFunction b.env f → is_marked b f ≡ false → start ≡ entered b f → map function ns ≡ nested_in b f → Visiting start at ns i → length ns ≤ i → (k : ℕ) → unvisited b ≤ k → at ≡ visit k b f
visiting_all b start at f ns i s h e is list inv past zero l = absurd (omega (arith, entered_less b f s h e))
visiting_all b start at f ns i s h e is list inv past (suc k) l =
    let low : unvisited start ≤ k = omega (arith, entered_less b f s h e, ap unvisited is) in
    sym (cond-false (is_marked b f) b _ e
    ∙ ap (fold (visit k) (entered b f)) (sym list)
    ∙ ap (λ t. fold (visit k) t (map function ns)) (sym is)
    ∙ inv.same k low
    ∙ ap (λ xs. fold (visit k) at (map function xs)) (drop_all i ns past))

-- the nested functions of a function, read after it was entered
module _ (b start : Tables) (f : FunctionId) (ns : List ℕ) (s : Sound b) (h : KnownFunction b.env f) (is : start ≡ entered b f) (list : ns ≡ part start.env.pool (function_of b.env f.0).nested) where
  grown : Grows b start
  grown = subst (Grows b) (sym is) (grows_entered b f s h)

  pub start_sound : Sound start
  start_sound = sound_grows s grown

  pub start_nested : map function ns ≡ nested_in b f
  start_nested = ap (map function) list ∙ ap (λ p. functions_in p (function_of b.env f.0).nested) (kept grown.named).pool

  pub start_known : Each (KnownFunction start.env) (map function ns)
  start_known = subst (Each (KnownFunction start.env)) (sym start_nested) (functions_kept (kept grown.named) (nested_in b f) (s.functions f.0 h).nested)

  pub start_less : is_marked b f ≡ false → unvisited start + 1 ≡ unvisited b
  start_less e = ap (λ (t : Tables). unvisited t + 1) is ∙ entered_less b f s h e

-- the acts of sound rows speak of what has a row
fits_number : (m : Model) (c : ℕ) (n : Option Number) → ((s : ScopeId) → scope_in n ≡ Some s → s.0 < length m.scopes) → ((f : FunctionId) → function_in n ≡ Some f → KnownFunction m f) → Each (Fits m) (row_acts c n)
fits_number m c None hs hf = tt
fits_number m c (Some (numbers.Scope s)) hs hf =
    each_cond (Fits m) (eqb c 3) (scope s ∷ []) _ (hs s refl, tt) (each_cond (Fits m) (eqb c 4) (pruned s ∷ []) [] (hs s refl, tt) tt)
fits_number m c (Some (numbers.Function f)) hs hf = (hf f refl, tt)

-- the pass can go over sound rows
pub ready_rows : (t : Tables) (rs : List Row) → Sound t → Each (RowSound t.env) rs → Ready t (pass_acts rs)
ready_rows t rs s h =
    record {
      sound = s;
      fits = each_acts keeps (RowSound t.env) (λ q. Unit {0}) (λ r k. tt) acts (Fits t.env) (λ p r w k. fits_number t.env r.code r.number k.scope k.function) (λ q k. tt) [] rs tt h;
    }

-- the pass can go on after own parameters are named
pub ready_listed : (b on : Tables) (is : List IdentifierId) (todo : List Act) → Ready b todo → Each (Known b.env) is → on ≡ fold (promote_unnamed reasons.OwnParameter) b is → Ready on todo
ready_listed b on is todo ready known e =
    ready_grows b on todo ready (subst (Grows b) (sym e) (grows_each (promote_unnamed reasons.OwnParameter) (grows_unnamed reasons.OwnParameter) b is ready.sound known))

-- where there is neither a scope nor a function, no act fits
pub no_acts : (m : Model) (todo : List Act) → length m.scopes ≡ 0 → length m.functions ≡ 0 → Each (Fits m) todo → todo ≡ []
no_acts m [] s f h = refl
no_acts m (scope x ∷ todo) s f h = absurd (let k = h.0 in omega arith)
no_acts m (pruned x ∷ todo) s f h = absurd (let k = h.0 in omega arith)
no_acts m (inner x ∷ todo) s f h = absurd (let k = h.0 in omega arith)

unmarked_few : (ms : List Bool) → unmarked ms ≤ length ms
unmarked_few [] = omega arith
unmarked_few (true ∷ ms) = let h = unmarked_few ms in omega arith
unmarked_few (false ∷ ms) = let h = unmarked_few ms in omega arith

pub unvisited_few : (t : Tables) → unvisited t ≤ length t.env.functions
unvisited_few t =
    let a = unmarked_few (take (length t.env.functions) t.notes.marks) in
    let b : length (take (length t.env.functions) t.notes.marks) ≤ length t.env.functions = simp length-take (omega arith) in
    omega (arith, a, b)

-- Where there is an image, every row of the tables fits. Assumes nothing.
use Rattle.std.proofs.Common.{◌≡◌, ℕ, suc, true, List, [], ◌∷◌, ◌++◌, map, length, sym, refl, ap, ◌∙◌, subst, append-nil}
use Rattle.hir.specs.declared.tables.Identifier.{Identifier}
use Rattle.hir.specs.declared.tables.Scope.{Scope}
use Rattle.hir.specs.declared.tables.Function.{Function}
use Rattle.hir.specs.Lists.{Each}
use Rattle.hir.specs.Spans.{part}
use Rattle.reactive.specs.Rows.{Row}
use Rattle.image.specs.Format.{Content, of_identifiers, of_scope, of_function, of_tree, rank_of, due, after, section, InOrder}
use Rattle.image.specs.Format as format
use Rattle.image_tables.specs.Tables.{Within, identifier_row, scope_lists, function_lists}
use Rattle.image_encode.specs.Fits.{ScopeWithin, FunctionWithin, ScopeFits, FunctionFits, PanelFits}
use Rattle.image_encode.specs.Panels.{Lent, lent_says, panel_says}
use Rattle.image_encode.specs.Values.{Values, values_of, lent_values, Encoded}
use Rattle.image_encode.proofs.Nesting.{cons_head, cons_tail}
use Rattle.image_encode.proofs.Values.{arranged_says}
use Rattle.image_encode.proofs.One.{sections_of}

-- every row of the tables fits
pub record AllFit (is : List Identifier) (ss : List Scope) (fs : List Function) (pool : List ℕ) (ls : List Lent) : Type 0 where
  pub identifiers : (section 0).Fine (of_identifiers (map identifier_row is))
  pub scopes : Each (ScopeFits pool) ss
  pub functions : Each (FunctionFits pool) fs
  pub panels : Each (PanelFits pool) ls

-- sections of one letter at the front of sections in order
record FrontFine (r : ℕ) (cs rest : List Content) : Type 0 where
  fine : Each (section r).Fine cs
  stage : ℕ
  order : InOrder rest (suc stage)

front_fine : {A : Type 0} (f : A → Content) (r : ℕ) → ((x : A) → after (f x) ≡ suc r) → ((x : A) → due (suc r) (rank_of (f x)) ≡ true) → (xs : List A) (rest : List Content) (stage : ℕ) → InOrder (map f xs ++ rest) (suc stage) → FrontFine (suc r) (map f xs) rest
front_fine f r on may [] rest stage o = record { fine = tt; stage = stage; order = o }
front_fine f r on may (x ∷ xs) rest stage o =
    let t = front_fine f r on may xs rest r (subst (InOrder (map f xs ++ rest)) (on x) o.1) in
    record { fine = (((o.0.0.0, may x), o.0.1), t.fine); stage = t.stage; order = t.order }

-- that lists lie in the pool, and that sections can tell them, is that they fit
each_fits : {A B X : Type 0} (P : A → Type 0) (F : X → Type 0) (g : B → X) (f : A → B) (R : A → Type 0) → ((x : A) → P x → F (g (f x)) → R x) → (xs : List A) → Each P xs → Each F (map g (map f xs)) → Each R xs
each_fits P F g f R on [] p h = tt
each_fits P F g f R on (x ∷ xs) p h = (on x p.0 h.0, each_fits P F g f R on xs p.1 h.1)

panels_fit : (pool : List ℕ) (ls : List Lent) (ts : List format.Panel) → map panel_says ts ≡ map (lent_says pool) ls → Each (λ (l : Lent). Within (length pool) l.0) ls → Each (section 3).Fine (map of_tree ts) → Each (PanelFits pool) ls
panels_fit pool [] ts e w h = tt
panels_fit pool (l ∷ ls) [] e w h = absurd (cc)
panels_fit pool (l ∷ ls) (t ∷ ts) e w h =
    let says = cons_head (panel_says t) (lent_says pool l) (map panel_says ts) (map (lent_says pool) ls) e in
    let own : t.0 ≡ part pool l.0 = ap (λ (v : List ℕ × List Row). v.0) says in
    let fits : PanelFits pool l = record { within = w.0; tree = t.1; rows = sym (ap (λ (v : List ℕ × List Row). v.1) says); fine = subst (λ k. (section 3).Fine (of_tree (k, t.1))) own h.0 } in
    (fits, panels_fit pool ls ts (cons_tail (panel_says t) (lent_says pool l) (map panel_says ts) (map (lent_says pool) ls) e) w.1 h.1)

pub all_fit : (is : List Identifier) (ss : List Scope) (fs : List Function) (pool : List ℕ) (ls : List Lent) (bs : List ℕ) → Encoded is ss fs pool ls bs → AllFit is ss fs pool ls
all_fit is ss fs pool ls bs e =
    let c = sections_of e.image.contents e.image.ordered in
    let order = subst (λ k. InOrder k 0) c.are e.image.ordered in
    let says : ◌≡◌ {A = Values} (record { identifiers = c.is; scopes = c.ss; functions = c.fs; panels = map panel_says c.ts }) (lent_values is ss fs pool ls) =
    sym (arranged_says c.is c.ss c.fs c.ts) ∙ sym (ap values_of c.are) ∙ e.image.values
    in
    let s = front_fine of_scope 0 (λ x. refl) (λ x. refl) c.ss (map of_function c.fs ++ map of_tree c.ts) 0 order.1 in
    let f = front_fine of_function 1 (λ x. refl) (λ x. refl) c.fs (map of_tree c.ts) s.stage s.order in
    let t = front_fine of_tree 2 (λ x. refl) (λ x. refl) c.ts [] f.stage (subst (λ k. InOrder k (suc f.stage)) (sym (append-nil (map of_tree c.ts))) f.order) in
    record {
      identifiers = subst (λ k. (section 0).Fine (of_identifiers k)) (ap (λ (v : Values). v.identifiers) says) order.0;
      scopes = each_fits (ScopeWithin (length pool)) (section 1).Fine of_scope (scope_lists pool) (ScopeFits pool) (λ x w h. record { within = w; fine = h }) ss e.within.scopes (subst (λ k. Each (section 1).Fine (map of_scope k)) (ap (λ (v : Values). v.scopes) says) s.fine);
      functions = each_fits (FunctionWithin (length pool)) (section 2).Fine of_function (function_lists pool) (FunctionFits pool) (λ x w h. record { within = w; fine = h }) fs e.within.functions (subst (λ k. Each (section 2).Fine (map of_function k)) (ap (λ (v : Values). v.functions) says) f.fine);
      panels = panels_fit pool ls c.ts (ap (λ (v : Values). v.panels) says) e.within.panels t.fine;
    }

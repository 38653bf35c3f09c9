-- What tables hold after a section's rows were put behind theirs. Assumes nothing.
use Rattle.std.proofs.Common.{◌≡◌, ℕ, ◌+◌, ◌*◌, ◌≤◌, List, [], ◌∷◌, ◌++◌, map, length, take, drop, Ok, Result, refl, ap, ◌∙◌, append_assoc, arith, length-append, length-drop}
use Rattle.std.proofs.lemmas.List.{take_all, take-append-le, drop-append-le}
use Rattle.hir.specs.declared.span.Span.{Span}
use Rattle.hir.specs.declared.tables.Scope.{Scope}
use Rattle.hir.specs.declared.tables.Function.{Function}
use Rattle.hir.specs.Lists.{Each}
use Rattle.hir.specs.Spans.{part}
use Rattle.image.specs.declared.fault.ByteFault.{ByteFault}
use Rattle.image.specs.Bytes.{Place}
use Rattle.image.specs.Format.{Content, of_identifiers, of_scope, of_function, of_tree, rank_of, content_bytes, FineContent}
use Rattle.image.specs.Format as format
use Rattle.image.specs.Steps.{and_then, both, numbers_at}
use Rattle.image_check.specs.Steps.{scope_at, function_at}
use Rattle.image_tables.specs.declared.tables.Panel.{Panel}
use Rattle.image_tables.specs.Tables.{scope_lists, function_lists, panel_part, Within, AddedList, AddedScope, AddedFunction}
use Rattle.image_tables.proofs.Chunks.{taken}

-- a pool with numbers put behind those of another
pub record Grown (before after : List ℕ) : Type 0 where
  pub more : List ℕ
  pub is : after ≡ before ++ more

pub grown_on : (a b c : List ℕ) → Grown a b → Grown b c → Grown a c
grown_on a b c g h = record { more = g.more ++ h.more; is = h.is ∙ ap (λ t. t ++ h.more) g.is ∙ append_assoc a g.more h.more }

pub grown_length : (a b : List ℕ) → Grown a b → length a ≤ length b
grown_length a b g = omega (arith, ap length g.is, length-append a g.more)

-- a span that stands for a list, within its pool
pub record Stands (pool : List ℕ) (s : Span) (list : List ℕ) : Type 0 where
  pub is : part pool s ≡ list
  pub within : Within (length pool) s

pub part_grown : (a b : List ℕ) (s : Span) → Grown a b → Within (length a) s → part b s ≡ part a s
part_grown a b s g h =
    ap (λ t. part t s) g.is
    ∙ ap (take s.count) (drop-append-le s.start a g.more (omega arith))
    ∙ take-append-le s.count (drop s.start a) g.more (omega (arith, length-drop s.start a))

pub stands_grown : (a b : List ℕ) (s : Span) (l : List ℕ) → Grown a b → Stands a s l → Stands b s l
stands_grown a b s l g h = record { is = part_grown a b s g h.within ∙ h.is; within = omega (arith, grown_length a b g, h.within) }

pub drop_seam : (xs ys : List ℕ) → drop (length xs) (xs ++ ys) ≡ ys
drop_seam [] ys = refl
drop_seam (x ∷ xs) ys = drop_seam xs ys

module _ (before : List ℕ) (p : Place) (s : Span) (q : Place) (after : List ℕ) (a : AddedList before p s q after) where
  pub added_grown : Grown before after
  added_grown = record { more = a.list; is = a.items }

  pub added_stands : Stands after s a.list
  added_stands = record {
    is =
        (λ i. take (a.count i) (drop (a.start i) (a.items i)))
        ∙ ap (take (length a.list)) (drop_seam before a.list)
        ∙ take_all (length a.list) a.list (omega arith);
    within = omega (arith, a.start, a.count, ap length a.items, length-append before a.list);
  }

-- the lists of a scope that was put behind the pool's numbers
pub record ScopeStands (before bs : List ℕ) (s : Scope) (after : List ℕ) : Type 0 where
  pub x : format.Scope
  pub q : Place
  pub reads : scope_at (0, bs) ≡ Ok (x, q)
  pub grown : Grown before after
  pub dependencies : Stands after s.dependencies x.0
  pub declarations : Stands after s.declarations x.1.0
  pub reassignments : Stands after s.reassignments x.1.1
  pub room : 4 * length after ≤ 4 * length before + length bs

-- one list behind another
pub pairs : {Y : Type 0} (b : Place → Result (Y × Place) ByteFault) (p : Place) (l : List ℕ) (m : Place) (y : Y) (q : Place) → numbers_at p ≡ Ok (l, m) → b m ≡ Ok (y, q) → both numbers_at b p ≡ Ok ((l, y), q)
pairs {Y} b p l m y q e f =
    ap (λ (r : Result (List ℕ × Place) ByteFault). and_then {Y = (List ℕ × Y) × Place} r (λ v. and_then (b v.1) (λ w. Ok ((v.0, w.0), w.1)))) e
    ∙ ap (λ (r : Result (Y × Place) ByteFault). and_then {Y = (List ℕ × Y) × Place} r (λ w. Ok ((l, w.0), w.1))) f

pub scope_stands : (before bs : List ℕ) (s : Scope) (after : List ℕ) → AddedScope before bs s after → ScopeStands before bs s after
scope_stands before bs s after a =
    let f = a.first in
    let g = a.second in
    let h = a.third in
    let g1 = added_grown before (0, bs) s.dependencies a.q1 a.one f in
    let g2 = added_grown a.one a.q1 s.declarations a.q2 a.two g in
    let g3 = added_grown a.two a.q2 s.reassignments a.q3 after h in
    let t1 = taken (0, bs) f.list a.q1 f.reads in
    let t2 = taken a.q1 g.list a.q2 g.reads in
    let t3 = taken a.q2 h.list a.q3 h.reads in
    record {
      x = (f.list, (g.list, h.list));
      q = a.q3;
      reads = pairs (both numbers_at numbers_at) (0, bs) f.list a.q1 (g.list, h.list) a.q3 f.reads (pairs numbers_at a.q1 g.list a.q2 h.list a.q3 g.reads h.reads);
      grown = grown_on before a.one after g1 (grown_on a.one a.two after g2 g3);
      dependencies = stands_grown a.one after s.dependencies f.list (grown_on a.one a.two after g2 g3) (added_stands before (0, bs) s.dependencies a.q1 a.one f);
      declarations = stands_grown a.two after s.declarations g.list g3 (added_stands a.one a.q1 s.declarations a.q2 a.two g);
      reassignments = added_stands a.two a.q2 s.reassignments a.q3 after h;
      room = omega (arith, t1.size, t2.size, t3.size, ap length f.items ∙ length-append before f.list, ap length g.items ∙ length-append a.one g.list, ap length h.items ∙ length-append a.two h.list);
    }

pub record FunctionStands (before bs : List ℕ) (f : Function) (after : List ℕ) : Type 0 where
  pub x : format.Function
  pub q : Place
  pub reads : function_at (0, bs) ≡ Ok (x, q)
  pub grown : Grown before after
  pub parameters : Stands after f.parameters x.0
  pub nested : Stands after f.nested x.1
  pub room : 4 * length after ≤ 4 * length before + length bs

pub function_stands : (before bs : List ℕ) (f : Function) (after : List ℕ) → AddedFunction before bs f after → FunctionStands before bs f after
function_stands before bs s after a =
    let f = a.first in
    let g = a.second in
    let g1 = added_grown before (0, bs) s.parameters a.q1 a.one f in
    let g2 = added_grown a.one a.q1 s.nested a.q2 after g in
    let t1 = taken (0, bs) f.list a.q1 f.reads in
    let t2 = taken a.q1 g.list a.q2 g.reads in
    record {
      x = (f.list, g.list);
      q = a.q2;
      reads = pairs numbers_at (0, bs) f.list a.q1 g.list a.q2 f.reads g.reads;
      grown = grown_on before a.one after g1 g2;
      parameters = stands_grown a.one after s.parameters f.list g2 (added_stands before (0, bs) s.parameters a.q1 a.one f);
      nested = added_stands a.one a.q1 s.nested a.q2 after g;
      room = omega (arith, t1.size, t2.size, ap length f.items ∙ length-append before f.list, ap length g.items ∙ length-append a.one g.list);
    }

-- rows that stand keep what they stand for while the pool grows

pub each_on : {A : Type 0} (P Q : A → Type 0) (xs : List A) → ((x : A) → P x → Q x) → Each P xs → Each Q xs
each_on P Q [] f h = tt
each_on P Q (x ∷ xs) f h = (f x h.0, each_on P Q xs f h.1)

pub each_append : {A : Type 0} (P : A → Type 0) (xs ys : List A) → Each P xs → Each P ys → Each P (xs ++ ys)
each_append P [] ys h k = k
each_append P (x ∷ xs) ys h k = (h.0, each_append P xs ys h.1 k)

pub map_on : {A B : Type 0} (P : A → Type 0) (f g : A → B) (xs : List A) → ((x : A) → P x → f x ≡ g x) → Each P xs → map f xs ≡ map g xs
map_on P f g [] same h = refl
map_on P f g (x ∷ xs) same h = λ i. same x h.0 i ∷ map_on P f g xs same h.1 i

abbrev pub ScopeIn : ℕ → Scope → Type 0
ScopeIn n s = Within n s.dependencies × Within n s.declarations × Within n s.reassignments

abbrev pub FunctionIn : ℕ → Function → Type 0
FunctionIn n f = Within n f.parameters × Within n f.nested

abbrev pub PanelIn : ℕ → Panel → Type 0
PanelIn n p = Within n p.parameters

module _ (a b : List ℕ) (g : Grown a b) where
  pub scope_same : (s : Scope) → ScopeIn (length a) s → scope_lists b s ≡ scope_lists a s
  scope_same s h = λ i. (part_grown a b s.dependencies g h.0 i, (part_grown a b s.declarations g h.1 i, part_grown a b s.reassignments g h.2 i))

  pub function_same : (f : Function) → FunctionIn (length a) f → function_lists b f ≡ function_lists a f
  function_same f h = λ i. (part_grown a b f.parameters g h.0 i, part_grown a b f.nested g h.1 i)

  pub panel_same : (p : Panel) → PanelIn (length a) p → panel_part b p ≡ panel_part a p
  panel_same p h = λ i. (part_grown a b p.parameters g h i, p.content.now)

  pub within_grown : (s : Span) → Within (length a) s → Within (length b) s
  within_grown s h = omega (arith, grown_length a b g)

  pub scopes_stay_in : (ss : List Scope) → Each (ScopeIn (length a)) ss → Each (ScopeIn (length b)) ss
  scopes_stay_in ss h = each_on (ScopeIn (length a)) (ScopeIn (length b)) ss (λ s k. (within_grown s.dependencies k.0, within_grown s.declarations k.1, within_grown s.reassignments k.2)) h

  pub functions_stay_in : (fs : List Function) → Each (FunctionIn (length a)) fs → Each (FunctionIn (length b)) fs
  functions_stay_in fs h = each_on (FunctionIn (length a)) (FunctionIn (length b)) fs (λ f k. (within_grown f.parameters k.0, within_grown f.nested k.1)) h

  pub panels_stay_in : (ps : List Panel) → Each (PanelIn (length a)) ps → Each (PanelIn (length b)) ps
  panels_stay_in ps h = each_on (PanelIn (length a)) (PanelIn (length b)) ps (λ p k. within_grown p.parameters k) h

-- Tables and rows that are not refused are sound. Assumes nothing.
use Rattle.std.proofs.Common.{◌≡◌, ℕ, zero, suc, ◌+◌, ◌-◌, ◌<◌, ◌≤◌, Bool, true, false, cond, not, ◌||◌, eqb, ltb, leb, List, [], ◌∷◌, map, length, get_or, Some, None, Option, sym, refl, ap, ◌∙◌, subst, ⊎_elim, arith}
use Rattle.std.proofs.lemmas.List.{nil_from_length}
use Rattle.std.proofs.lemmas.Bool.{cases_Bool, cond-true, cond-false, or_parts, and_parts, not-false, leb-false, ltb-false, eqb-true, both_ways}
use Rattle.hir.specs.declared.ids.IdentifierId.{IdentifierId}
use Rattle.hir.specs.declared.ids.ScopeId.{ScopeId}
use Rattle.hir.specs.declared.ids.FunctionId.{FunctionId}
use Rattle.hir.specs.declared.refusal.Refusal.{Refusal}
use Rattle.hir.specs.declared.refusal.Refusal.TheVariants as refusals
use Rattle.hir.specs.declared.span.Span.{Span}
use Rattle.hir.specs.declared.tables.Identifier.{Identifier}
use Rattle.hir.specs.declared.tables.Scope.{Scope}
use Rattle.hir.specs.declared.tables.Function.{Function}
use Rattle.hir.specs.Environments.{Model, no_identifier, no_scope, no_function, row_of, scope_of, function_of, unnamed}
use Rattle.hir.proofs.Lists.{each_none}
use Rattle.hir.specs.Lists.{Each}
use Rattle.std.specs.List.{list_any}
use Rattle.hir.specs.Refusals.{refused_if, or_else}
use Rattle.hir.specs.Scratches.{Notes}
use Rattle.hir.specs.Spans.{part, ident, function, identifiers_in, functions_in}
use Rattle.reactive.specs.declared.row.Number.{Number}
use Rattle.reactive.specs.declared.row.Number.TheVariants as numbers
use Rattle.reactive.specs.Codes.{has_scope}
use Rattle.reactive.specs.Rows.{Row, head, scope_rows}
use Rattle.checks.specs.Tables as tables
use Rattle.checks.specs.Rows as rows
use Rattle.checks.specs.Rows.{Sizes, Open}
use Rattle.checks.specs.Sound.{Present, Defined, SoundScope, SoundFunction, SoundTables, SoundRow}

-- ---- tests that found nothing

passes : (b : Bool) (r : Refusal) (rest : Option Refusal) → refused_if b r rest ≡ None → (b ≡ false) × (rest ≡ None)
passes true r rest e = absurd (let z : ◌≡◌ {A = ℕ} 0 1 = cc in omega arith)
passes false r rest e = (refl, e)

neither : (o p : Option Refusal) → or_else o p ≡ None → (o ≡ None) × (p ≡ None)
neither None p e = (refl, e)
neither (Some r) p e = absurd (let z : ◌≡◌ {A = ℕ} 0 1 = cc in omega arith)

none_at : {A : Type 0} (p : A → Bool) (xs : List A) → list_any p xs ≡ false → (k : ℕ) → k < length xs → (d : A) → p (get_or xs k d) ≡ false
none_at p [] e k h d = absurd (omega arith)
none_at p (x ∷ xs) e zero h d = (or_parts (p x) (list_any p xs) e).0
none_at p (x ∷ xs) e (suc k) h d = none_at p xs (or_parts (p x) (list_any p xs) e).1 k (omega arith) d

each_of : {A B : Type 0} (p : A → Bool) (f : A → B) (Q : B → Type 0) → ((x : A) → p x ≡ false → Q (f x)) → (xs : List A) → list_any p xs ≡ false → Each Q (map f xs)
each_of p f Q each [] e = tt
each_of p f Q each (x ∷ xs) e = let h = or_parts (p x) (list_any p xs) e in (each x h.0, each_of p f Q each xs h.1)

-- ---- tables

module _ (n : ℕ) (pool : List ℕ) (s : Span) (e : tables.bad_list n pool s ≡ false) where
  inner : list_any (leb n) (part pool s) ≡ false
  inner = (or_parts (ltb (length pool) (s.start + s.count)) (list_any (leb n) (part pool s)) e).1

  present_list : Present n (identifiers_in pool s)
  present_list = each_of (leb n) ident (λ i. i.0 < n) (λ k h. leb-false n k h) (part pool s) inner

  defined_list : Defined n (functions_in pool s)
  defined_list = each_of (leb n) function (λ f. f.0 < n) (λ k h. leb-false n k h) (part pool s) inner

sound_scope : (n : ℕ) (pool : List ℕ) (s : Scope) → tables.bad_scope n pool s ≡ false → SoundScope n pool s
sound_scope n pool s e =
    let a = or_parts (tables.bad_list n pool s.dependencies) (tables.bad_list n pool s.declarations || tables.bad_list n pool s.reassignments) e in
    let b = or_parts (tables.bad_list n pool s.declarations) (tables.bad_list n pool s.reassignments) a.1 in
    record { dependencies = present_list n pool s.dependencies a.0; declarations = present_list n pool s.declarations b.0; reassignments = present_list n pool s.reassignments b.1 }

sound_function : (n fs : ℕ) (pool : List ℕ) (f : Function) → tables.bad_function n fs pool f ≡ false → SoundFunction n fs pool f
sound_function n fs pool f e =
    let a = or_parts (tables.bad_list n pool f.parameters) (tables.bad_list fs pool f.nested) e in
    record { parameters = present_list n pool f.parameters a.0; nested = defined_list fs pool f.nested a.1 }

sound_identifier : (n : ℕ) (i : Identifier) → tables.bad_row n i ≡ false → (i.declaration.0 < n) × (i.tag ≤ 3)
sound_identifier n i e =
    let a = or_parts (leb n i.declaration.0) (ltb 3 i.tag) e in
    (leb-false n i.declaration.0 a.0, ltb-false 3 i.tag a.1)

pub sound_tables : (m : Model) (n : Notes) (ps : Span) → tables.tables_refusal m n ps ≡ None → SoundTables m n ps
sound_tables m n ps e =
    let is = m.identifiers in
    let limit = passes (tables.passes_limit m ps) refusals.Limit _ e in
    let row = passes (list_any (tables.bad_row (length is)) is) refusals.Row _ limit.1 in
    let list = passes (tables.bad_lists m ps) refusals.List _ row.1 in
    let journal = passes (tables.no_room m) refusals.Journal _ list.1 in
    let scratch = passes (tables.little_scratch m n) refusals.Scratch None journal.1 in
    let few = or_parts (tables.many_identifiers m) _ limit.0 in
    let scopes = or_parts (list_any (tables.bad_scope (length is) m.pool) m.scopes) _ list.0 in
    let functions = or_parts (list_any (tables.bad_function (length is) (length m.functions) m.pool) m.functions) (tables.bad_list (length is) m.pool ps) scopes.1 in
    let count = or_parts (ltb (length m.journal) m.count) (ltb (length m.journal - m.count) (unnamed is)) journal.0 in
    let room = or_parts (ltb (length n.work) (length is)) (ltb (length n.marks) (length m.functions)) scratch.0 in
    record {
      identifiers = ltb-false 65536 (length is) few.0;
      declared = λ k h. (sound_identifier (length is) (row_of m k) (none_at (tables.bad_row (length is)) is row.0 k h no_identifier)).0;
      tags = λ k h. (sound_identifier (length is) (row_of m k) (none_at (tables.bad_row (length is)) is row.0 k h no_identifier)).1;
      work = ltb-false (length n.work) (length is) room.0;
      marks = ltb-false (length n.marks) (length m.functions) room.1;
      room = omega (arith, ltb-false (length m.journal) m.count count.0, ltb-false (length m.journal - m.count) (unnamed is) count.1);
      scopes = λ s h. sound_scope (length is) m.pool (scope_of m s) (none_at (tables.bad_scope (length is) m.pool) m.scopes scopes.0 s h no_scope);
      functions = λ f h. sound_function (length is) (length m.functions) m.pool (function_of m f) (none_at (tables.bad_function (length is) (length m.functions) m.pool) m.functions functions.0 f h no_function);
      parameters = present_list (length is) m.pool ps functions.1;
    }

-- ---- rows

identifier_fits : (n c : ℕ) (o : Option IdentifierId) → rows.wrong_identifier n c o ≡ false → (i : IdentifierId) → o ≡ Some i → i.0 < n
identifier_fits n c None e i is = absurd (let z : ◌≡◌ {A = ℕ} 0 1 = cc in omega arith)
identifier_fits n c (Some j) e i is =
    let same : j ≡ i = cc in
    let h = or_parts (not (rows.needs_identifier c || rows.may_have_identifier c)) (leb n j.0) e in
    subst (λ (k : IdentifierId). k.0 < n) same (leb-false n j.0 h.1)

module _ (z : Sizes) (c kind : ℕ) where
  scope_fits : (o : Option Number) → rows.wrong_number z c kind o ≡ false → (s : ScopeId) → o ≡ Some (numbers.Scope s) → s.0 < z.scopes
  scope_fits None e s is = absurd (let z : ◌≡◌ {A = ℕ} 0 1 = cc in omega arith)
  scope_fits (Some (numbers.Scope t)) e s is =
      let same : t ≡ s = cc in
      let h = or_parts (not (has_scope c)) (leb z.scopes t.0) e in
      subst (λ (k : ScopeId). k.0 < z.scopes) same (leb-false z.scopes t.0 h.1)
  scope_fits (Some (numbers.Function f)) e s is = absurd (let z : ◌≡◌ {A = ℕ} 0 1 = cc in omega arith)

  function_fits : (o : Option Number) → rows.wrong_number z c kind o ≡ false → (f : FunctionId) → o ≡ Some (numbers.Function f) → f.0 < z.functions
  function_fits None e f is = absurd (let z : ◌≡◌ {A = ℕ} 0 1 = cc in omega arith)
  function_fits (Some (numbers.Scope s)) e f is = absurd (let z : ◌≡◌ {A = ℕ} 0 1 = cc in omega arith)
  function_fits (Some (numbers.Function g)) e f is =
      let same : g ≡ f = cc in
      let h = or_parts (not (rows.needs_function c kind)) (leb z.functions g.0) e in
      subst (λ (k : FunctionId). k.0 < z.functions) same (leb-false z.functions g.0 h.1)

  scope_there : (o : Option Number) → rows.wrong_number z c kind o ≡ false → has_scope c ≡ true → (s : ScopeId) × (o ≡ Some (numbers.Scope s))
  scope_there None e needs = absurd (both_ways (has_scope c) (or_parts (has_scope c) (rows.needs_function c kind) e).0 needs)
  scope_there (Some (numbers.Scope s)) e needs = (s, refl)
  scope_there (Some (numbers.Function f)) e needs =
      let h = or_parts (not (rows.needs_function c kind)) (leb z.functions f.0) e in
      let leaf = eqb-true c 5 (and_parts (eqb c 5) (eqb kind 17 || eqb kind 30) (not-false (rows.needs_function c kind) h.0)).0 in
      absurd (both_ways (has_scope c) (ap has_scope leaf) needs)

present_none : (n : ℕ) (is : List IdentifierId) → rows.absent_in n is ≡ false → Present n is
present_none n is e = each_none (λ i. leb n i.0) (λ i. i.0 < n) (λ i h. leb-false n i.0 h) is e

present_empty : (n : ℕ) (is : List IdentifierId) → eqb (length is) 0 ≡ true → Present n is
present_empty n is e = subst (Present n) (sym (nil_from_length is (eqb-true (length is) 0 e))) tt

-- the lists of a row, which are empty unless it is a Leaf
sound_lists : (n : ℕ) (r : Row) → cond (eqb r.code 5) (rows.wrong_leaf n r) (not (rows.leafless (head r))) ≡ false → Present n r.operands × Present n r.marks
sound_lists n r e =
    ⊎_elim
    (λ leaf.
    let a = or_parts (ltb 41 r.kind) _ (sym (cond-true _ _ _ leaf) ∙ e) in
    let b = or_parts (rows.wrong_mode r.kind r.mode) _ a.1 in
    let c = or_parts (rows.wrong_marks r.kind (length r.marks)) _ b.1 in
    let d = or_parts (rows.absent_in n r.operands) (rows.absent_in n r.marks) c.1 in
    (present_none n r.operands d.0, present_none n r.marks d.1))
    (λ other.
    let a = and_parts (eqb r.kind 0) _ (not-false (rows.leafless (head r)) (sym (cond-false _ _ _ other) ∙ e)) in
    let b = and_parts (eqb r.mode 0) _ a.1 in
    let c = and_parts (eqb (length r.operands) 0) (eqb (length r.marks) 0) b.1 in
    (present_empty n r.operands c.0, present_empty n r.marks c.1))
    (cases_Bool (eqb r.code 5))

sound_row : (z : Sizes) (r : Row) → r.depth ≤ 127 → rows.wrong_fields z r ≡ false → SoundRow z r
sound_row z r shallow e =
    let a = or_parts (rows.wrong_identifier z.identifiers r.code r.identifier) _ e in
    let b = or_parts (rows.wrong_number z r.code r.kind r.number) _ a.1 in
    let lists = sound_lists z.identifiers r b.1 in
    record {
      shallow = omega arith;
      identifier = identifier_fits z.identifiers r.code r.identifier a.0;
      scope = scope_fits z r.code r.kind r.number b.0;
      function = function_fits z r.code r.kind r.number b.0;
      scoped = scope_there z r.code r.kind r.number b.0;
      operands = lists.0;
      marks = lists.1;
    }

-- a row that passes its tests, and the rows that are open after it
record Passed (z : Sizes) (seen : ℕ) (r : Row) (rs : List Row) : Type 0 where
  early : seen < 262144
  sound : SoundRow z r
  after : Open
  rest : rows.rows_refusal z (seen + 1) after rs ≡ None

fields_pass : (z : Sizes) (seen : ℕ) (r : Row) (rs : List Row) → seen < 262144 → r.depth ≤ 127 → (o : Option Open) → rows.shaped o (λ os. refused_if (rows.wrong_fields z r) refusals.Field (rows.rows_refusal z (seen + 1) os rs)) ≡ None → Passed z seen r rs
fields_pass z seen r rs early shallow None e = absurd (let z : ◌≡◌ {A = ℕ} 0 1 = cc in omega arith)
fields_pass z seen r rs early shallow (Some os) e =
    let h = passes (rows.wrong_fields z r) refusals.Field (rows.rows_refusal z (seen + 1) os rs) e in
    record { early = early; sound = sound_row z r shallow h.0; after = os; rest = h.1 }

row_passes : (z : Sizes) (seen : ℕ) (os : Open) (r : Row) (rs : List Row) → rows.rows_refusal z seen os (r ∷ rs) ≡ None → Passed z seen r rs
row_passes z seen os r rs e =
    let limit = passes (rows.row_passes_limit seen (head r)) refusals.Limit _ e in
    let depth = passes (ltb 127 r.depth) refusals.Depth _ limit.1 in
    let early = leb-false 262144 seen (or_parts (leb 262144 seen) _ limit.0).0 in
    fields_pass z seen r rs early (ltb-false 127 r.depth depth.0) (rows.opened os r.depth r.code) depth.1

sound_from : (z : Sizes) (seen : ℕ) (os : Open) (rs : List Row) → rows.rows_refusal z seen os rs ≡ None → Each (SoundRow z) rs
sound_from z seen os [] e = tt
sound_from z seen os (r ∷ rs) e = let p = row_passes z seen os r rs e in (p.sound, sound_from z (seen + 1) p.after rs p.rest)

few_from : (z : Sizes) (seen : ℕ) (os : Open) (rs : List Row) → seen ≤ 262144 → rows.rows_refusal z seen os rs ≡ None → seen + length rs ≤ 262144
few_from z seen os [] low e = omega arith
few_from z seen os (r ∷ rs) low e =
    let p = row_passes z seen os r rs e in
    let h = few_from z (seen + 1) p.after rs (omega (arith, p.early)) p.rest in
    omega arith

pub sound_rows : (z : Sizes) (rs : List Row) → rows.rows_refusal z 0 [] rs ≡ None → Each (SoundRow z) rs
sound_rows z rs e = sound_from z 0 [] rs e

pub few_rows : (z : Sizes) (rs : List Row) → rows.rows_refusal z 0 [] rs ≡ None → length rs ≤ 262144
few_rows z rs e = let h = few_from z 0 [] rs (omega arith) e in omega arith

-- ---- trees and runs

pub tree_rows : (z : Sizes) (trail : ℕ) (rs : List Row) → rows.tree_refusal z trail rs ≡ None → rows.rows_refusal z 0 [] rs ≡ None
tree_rows z trail rs e = (neither (rows.rows_refusal z 0 [] rs) _ e).0

pub trail_enough : (z : Sizes) (trail : ℕ) (rs : List Row) → rows.tree_refusal z trail rs ≡ None → scope_rows rs ≤ trail
trail_enough z trail rs e =
    let h = neither (rows.rows_refusal z 0 [] rs) (refused_if (ltb trail (scope_rows rs)) refusals.Scratch None) e in
    ltb-false trail (scope_rows rs) (passes (ltb trail (scope_rows rs)) refusals.Scratch None h.1).0

pub run_tables : (m : Model) (n : Notes) (ps : Span) (rs : List Row) → rows.run_refusal m n ps rs ≡ None → tables.tables_refusal m n ps ≡ None
run_tables m n ps rs e = (neither (tables.tables_refusal m n ps) _ e).0

pub run_tree : (m : Model) (n : Notes) (ps : Span) (rs : List Row) → rows.run_refusal m n ps rs ≡ None → rows.tree_refusal (rows.sizes m) (length n.trail) rs ≡ None
run_tree m n ps rs e = (neither (tables.tables_refusal m n ps) (rows.tree_refusal (rows.sizes m) (length n.trail) rs) e).1

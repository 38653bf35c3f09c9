-- Tables that hold some sections hold one more after its rows were put behind theirs. Assumes nothing.
use Rattle.std.proofs.Common.{◌≡◌, ℕ, ◌+◌, ◌*◌, ◌/◌, ◌≤◌, Bool, true, false, cond, eqb, List, [], ◌∷◌, ◌++◌, map, length, drop, is_ok, Ok, Err, vec_items, Result, sym, refl, ap, ◌∙◌, subst, append_assoc, append-nil, arith, length-append}
use Rattle.std.proofs.lemmas.List.{map-append}
use Rattle.hir.specs.Lists.{Each}
use Rattle.image.specs.declared.fault.ByteFault.{ByteFault}
use Rattle.image.specs.declared.fault.RowFault.{RowFault}
use Rattle.image.specs.Bytes.{Place}
use Rattle.image.specs.Layouts.{Layout, Begins, numbers, left}
use Rattle.image.specs.Format.{Content, of_identifiers, of_scope, of_function, of_tree, rank_of, content_bytes, FineContent}
use Rattle.image.specs.Format as format
use Rattle.image.specs.Steps.{Held, in_section, in_row, numbers_at}
use Rattle.image_check.specs.Steps.{identifiers_of, scope_at, function_at}
use Rattle.image_check.proofs.Exact.{Exact, lifted, first_part, middle}
use Rattle.image_check.proofs.Leaves.{exact_numbers}
use Rattle.image_check.proofs.Rows.{exact_lists}
use Rattle.image_check.proofs.Contents.{exact_scope, content_finds}
use Rattle.image_tables.specs.declared.tables.Tables.{Tables}
use Rattle.image_tables.specs.Tables.{scope_lists, function_lists, panel_part, Holds, NewRows, NewBy, AddedSection, ReadsBy, identifiers_in, scopes_in, functions_in, panels_in}
use Rattle.image_tables.proofs.Chunks.{taken}
use Rattle.image_tables.proofs.Holding.{Grown, ScopeIn, FunctionIn, PanelIn, scope_same, function_same, panel_same, scopes_stay_in, functions_stay_in, panels_stay_in, map_on, each_append, scope_stands, function_stands, added_grown, added_stands}

-- a section behind others

identifiers_put : (cs : List Content) (c : Content) → identifiers_in (cs ++ (c ∷ [])) ≡ identifiers_in cs ++ identifiers_in (c ∷ [])
identifiers_put [] c = refl
identifiers_put (of_identifiers is ∷ cs) c = ap (λ t. is ++ t) (identifiers_put cs c) ∙ sym (append_assoc is (identifiers_in cs) (identifiers_in (c ∷ [])))
identifiers_put (of_scope s ∷ cs) c = identifiers_put cs c
identifiers_put (of_function f ∷ cs) c = identifiers_put cs c
identifiers_put (of_tree t ∷ cs) c = identifiers_put cs c

scopes_put : (cs : List Content) (c : Content) → scopes_in (cs ++ (c ∷ [])) ≡ scopes_in cs ++ scopes_in (c ∷ [])
scopes_put [] c = refl
scopes_put (of_identifiers is ∷ cs) c = scopes_put cs c
scopes_put (of_scope s ∷ cs) c = ap (λ t. s ∷ t) (scopes_put cs c)
scopes_put (of_function f ∷ cs) c = scopes_put cs c
scopes_put (of_tree t ∷ cs) c = scopes_put cs c

functions_put : (cs : List Content) (c : Content) → functions_in (cs ++ (c ∷ [])) ≡ functions_in cs ++ functions_in (c ∷ [])
functions_put [] c = refl
functions_put (of_identifiers is ∷ cs) c = functions_put cs c
functions_put (of_scope s ∷ cs) c = functions_put cs c
functions_put (of_function f ∷ cs) c = ap (λ t. f ∷ t) (functions_put cs c)
functions_put (of_tree t ∷ cs) c = functions_put cs c

panels_put : (cs : List Content) (c : Content) → panels_in (cs ++ (c ∷ [])) ≡ panels_in cs ++ panels_in (c ∷ [])
panels_put [] c = refl
panels_put (of_identifiers is ∷ cs) c = panels_put cs c
panels_put (of_scope s ∷ cs) c = panels_put cs c
panels_put (of_function f ∷ cs) c = panels_put cs c
panels_put (of_tree t ∷ cs) c = ap (λ r. (t.0, (format.tree).write t) ∷ r) (panels_put cs c)

-- what new rows hold, in the pool as it has become
record NewHolds (before after : List ℕ) (n : NewRows) (bs : List ℕ) (c : Content) : Type 0 where
  grown : Grown before after
  room : 4 * length after ≤ 4 * length before + length bs
  identifiers : n.identifiers ≡ identifiers_in (c ∷ [])
  scopes : map (scope_lists after) n.scopes ≡ scopes_in (c ∷ [])
  functions : map (function_lists after) n.functions ≡ functions_in (c ∷ [])
  panels : map (panel_part after) n.panels ≡ panels_in (c ∷ [])
  scopes_within : Each (ScopeIn (length after)) n.scopes
  functions_within : Each (FunctionIn (length after)) n.functions
  panels_within : Each (PanelIn (length after)) n.panels

module _ (h : Held) (t u : Tables) (a : AddedSection h t u) (cs : List Content) (c : Content) (k : Holds cs t) (n : NewHolds (vec_items t.pool) (vec_items u.pool) a.rows h.bytes c) where
  abbrev old : List ℕ
  old = vec_items t.pool

  abbrev new : List ℕ
  new = vec_items u.pool

  holds_put : Holds (cs ++ (c ∷ [])) u
  holds_put = record {
    identifiers = a.identifiers ∙ (λ i. k.identifiers i ++ n.identifiers i) ∙ sym (identifiers_put cs c);
    scopes =
        ap (map (scope_lists new)) a.scopes
        ∙ map-append (scope_lists new) (vec_items t.scopes) a.rows.scopes
        ∙ (λ i. (map_on (ScopeIn (length old)) (scope_lists new) (scope_lists old) (vec_items t.scopes) (scope_same old new n.grown) k.within.scopes ∙ k.scopes) i ++ n.scopes i)
        ∙ sym (scopes_put cs c);
    functions =
        ap (map (function_lists new)) a.functions
        ∙ map-append (function_lists new) (vec_items t.functions) a.rows.functions
        ∙ (λ i. (map_on (FunctionIn (length old)) (function_lists new) (function_lists old) (vec_items t.functions) (function_same old new n.grown) k.within.functions ∙ k.functions) i ++ n.functions i)
        ∙ sym (functions_put cs c);
    panels =
        ap (map (panel_part new)) a.panels
        ∙ map-append (panel_part new) (vec_items t.panels) a.rows.panels
        ∙ (λ i. (map_on (PanelIn (length old)) (panel_part new) (panel_part old) (vec_items t.panels) (panel_same old new n.grown) k.within.panels ∙ k.panels) i ++ n.panels i)
        ∙ sym (panels_put cs c);
    within = record {
      scopes = subst (Each (ScopeIn (length new))) (sym a.scopes) (each_append (ScopeIn (length new)) (vec_items t.scopes) a.rows.scopes (scopes_stay_in old new n.grown (vec_items t.scopes) k.within.scopes) n.scopes_within);
      functions = subst (Each (FunctionIn (length new))) (sym a.functions) (each_append (FunctionIn (length new)) (vec_items t.functions) a.rows.functions (functions_stay_in old new n.grown (vec_items t.functions) k.within.functions) n.functions_within);
      panels = subst (Each (PanelIn (length new))) (sym a.panels) (each_append (PanelIn (length new)) (vec_items t.panels) a.rows.panels (panels_stay_in old new n.grown (vec_items t.panels) k.within.panels) n.panels_within);
    };
  }

-- what content reads as

lifted_ok : {X : Type 0} (r : Result X ByteFault) (v : X) → in_row (in_section r) ≡ Ok v → r ≡ Ok v
lifted_ok (Ok x) v e = cc
lifted_ok (Err f) v e = absurd (cc)

-- a value that fills its bytes is read from them
whole_read : {X : Type 0} (L : Layout X) (a : Place → Result (X × Place) ByteFault) → Exact L (lifted a) → (x : X) (bs : List ℕ) → L.Fine x → bs ≡ L.write x → a (0, bs) ≡ Ok (x, (0 + length (L.write x), []))
whole_read L a e x bs fine is = lifted_ok (a (0, bs)) _ (e.finds x (0, bs) (0 + length (L.write x), []) (record { fine = fine; bytes = is ∙ sym (append-nil (L.write x)); end = refl }))

same_value : {X : Type 0} (r : Result (X × Place) ByteFault) (x y : X) (p q : Place) → r ≡ Ok (x, p) → r ≡ Ok (y, q) → x ≡ y
same_value {X} r x y p q e f = let v : ◌≡◌ {A = X × Place} (x, p) (y, q) = cc in ap (λ (w : X × Place). w.0) v

cond_ok : (b : Bool) (is js : List (ℕ × ℕ)) (f : RowFault) → cond {A = Result Content RowFault} b (Ok (of_identifiers is)) (Err f) ≡ Ok (of_identifiers js) → is ≡ js
cond_ok true is js f e = cc
cond_ok false is js f e = absurd (cc)

rows_read : (is : List (ℕ × ℕ)) (bs : List ℕ) → FineContent (of_identifiers is) → bs ≡ content_bytes (of_identifiers is) → identifiers_of (length bs / 5) bs ≡ is
rows_read is bs fine e = cond_ok (eqb (length (drop (length bs / 5 * 5) bs)) 0) _ is (left (0 + length bs / 5 * 5)) (content_finds (of_identifiers is) (0, bs) fine e)

parameters_read : (t : format.Panel) (bs : List ℕ) → FineContent (of_tree t) → bs ≡ content_bytes (of_tree t) → numbers_at (0, bs) ≡ Ok (t.0, middle numbers (format.row 128) t.0 t.1 (0, bs) (0 + length ((format.tree).write t), []))
parameters_read t bs fine e =
    let q : Place = (0 + length ((format.tree).write t), []) in
    let b : Begins format.tree t (0, bs) q = record { fine = fine; bytes = e ∙ sym (append-nil ((format.tree).write t)); end = refl } in
    lifted_ok (numbers_at (0, bs)) _ (exact_numbers.finds t.0 (0, bs) (middle numbers (format.row 128) t.0 t.1 (0, bs) q) (first_part numbers (format.row 128) t.0 t.1 (0, bs) q b))

-- what was checked reads
pub content_reads : (c : Content) (bs : List ℕ) → FineContent c → bs ≡ content_bytes c → ReadsBy (rank_of c) bs
content_reads (of_identifiers is) bs fine e = tt
content_reads (of_scope x) bs fine e = ap is_ok (whole_read format.scope scope_at exact_scope x bs fine e)
content_reads (of_function x) bs fine e = ap is_ok (whole_read format.function function_at exact_lists x bs fine e)
content_reads (of_tree x) bs fine e = ap is_ok (parameters_read x bs fine e)

-- the new rows of a section hold its content
new_holds : (c : Content) (bs before : List ℕ) (n : NewRows) (after : List ℕ) → FineContent c → bs ≡ content_bytes c → NewBy (rank_of c) bs before n after → NewHolds before after n bs c
new_holds (of_identifiers is) bs before n after fine e by =
    let rows = rows_read is bs fine e in
    record {
      grown = record { more = []; is = by.1 ∙ sym (append-nil before) };
      room = omega (arith, ap length by.1);
      identifiers = ap (λ r. r.identifiers) by.0 ∙ rows ∙ sym (append-nil is);
      scopes = ap (λ r. map (scope_lists after) r.scopes) by.0;
      functions = ap (λ r. map (function_lists after) r.functions) by.0;
      panels = ap (λ r. map (panel_part after) r.panels) by.0;
      scopes_within = subst (λ r. Each (ScopeIn (length after)) r.scopes) (sym by.0) tt;
      functions_within = subst (λ r. Each (FunctionIn (length after)) r.functions) (sym by.0) tt;
      panels_within = subst (λ r. Each (PanelIn (length after)) r.panels) (sym by.0) tt;
    }
new_holds (of_scope x) bs before n after fine e by =
    let s = by.0 in
    let k = scope_stands before bs s after by.2 in
    let same : k.x ≡ x = same_value (scope_at (0, bs)) k.x x k.q _ k.reads (whole_read format.scope scope_at exact_scope x bs fine e) in
    record {
      grown = k.grown;
      room = k.room;
      identifiers = ap (λ r. r.identifiers) by.1;
      scopes = ap (λ r. map (scope_lists after) r.scopes) by.1 ∙ (λ i. (k.dependencies.is i, (k.declarations.is i, k.reassignments.is i)) ∷ []) ∙ ap (λ y. y ∷ []) same;
      functions = ap (λ r. map (function_lists after) r.functions) by.1;
      panels = ap (λ r. map (panel_part after) r.panels) by.1;
      scopes_within = subst (λ r. Each (ScopeIn (length after)) r.scopes) (sym by.1) ((k.dependencies.within, k.declarations.within, k.reassignments.within), tt);
      functions_within = subst (λ r. Each (FunctionIn (length after)) r.functions) (sym by.1) tt;
      panels_within = subst (λ r. Each (PanelIn (length after)) r.panels) (sym by.1) tt;
    }
new_holds (of_function x) bs before n after fine e by =
    let f = by.0 in
    let k = function_stands before bs f after by.2 in
    let same : k.x ≡ x = same_value (function_at (0, bs)) k.x x k.q _ k.reads (whole_read format.function function_at exact_lists x bs fine e) in
    record {
      grown = k.grown;
      room = k.room;
      identifiers = ap (λ r. r.identifiers) by.1;
      scopes = ap (λ r. map (scope_lists after) r.scopes) by.1;
      functions = ap (λ r. map (function_lists after) r.functions) by.1 ∙ (λ i. (k.parameters.is i, k.nested.is i) ∷ []) ∙ ap (λ y. y ∷ []) same;
      panels = ap (λ r. map (panel_part after) r.panels) by.1;
      scopes_within = subst (λ r. Each (ScopeIn (length after)) r.scopes) (sym by.1) tt;
      functions_within = subst (λ r. Each (FunctionIn (length after)) r.functions) (sym by.1) ((k.parameters.within, k.nested.within), tt);
      panels_within = subst (λ r. Each (PanelIn (length after)) r.panels) (sym by.1) tt;
    }
new_holds (of_tree x) bs before n after fine e by =
    let p = by.0 in
    let a = by.2.first in
    let s = added_stands before (0, bs) p.parameters by.2.q after a in
    let t = taken (0, bs) a.list by.2.q a.reads in
    let same : a.list ≡ x.0 = same_value (numbers_at (0, bs)) a.list x.0 by.2.q _ a.reads (parameters_read x bs fine e) in
    record {
      grown = added_grown before (0, bs) p.parameters by.2.q after a;
      room = omega (arith, t.size, ap length a.items ∙ length-append before a.list);
      identifiers = ap (λ r. r.identifiers) by.1;
      scopes = ap (λ r. map (scope_lists after) r.scopes) by.1;
      functions = ap (λ r. map (function_lists after) r.functions) by.1;
      panels = ap (λ r. map (panel_part after) r.panels) by.1 ∙ (λ i. ((s.is ∙ same) i, (by.2.content ∙ e) i) ∷ []);
      scopes_within = subst (λ r. Each (ScopeIn (length after)) r.scopes) (sym by.1) tt;
      functions_within = subst (λ r. Each (FunctionIn (length after)) r.functions) (sym by.1) tt;
      panels_within = subst (λ r. Each (PanelIn (length after)) r.panels) (sym by.1) (s.within, tt);
    }

-- one section more
pub record OneMore (cs : List Content) (c : Content) (h : Held) (t u : Tables) : Type 0 where
  pub holds : Holds (cs ++ (c ∷ [])) u
  pub room : 4 * length (vec_items u.pool) ≤ 4 * length (vec_items t.pool) + length h.bytes

pub one_more : (cs : List Content) (c : Content) (h : Held) (t u : Tables) → Holds cs t → FineContent c → h.rank ≡ rank_of c → h.bytes ≡ content_bytes c → AddedSection h t u → OneMore cs c h t u
one_more cs c h t u k fine rank bytes a =
    let by : NewBy (rank_of c) h.bytes (vec_items t.pool) a.rows (vec_items u.pool) = subst (λ r. NewBy r h.bytes (vec_items t.pool) a.rows (vec_items u.pool)) rank a.by in
    let n = new_holds c h.bytes (vec_items t.pool) a.rows (vec_items u.pool) fine bytes by in
    record { holds = holds_put h t u a cs c k n; room = n.room }

-- Images and values stand one to one. Assumes nothing.
use Rattle.std.proofs.Common.{◌≡◌, ℕ, false, true, List, [], ◌∷◌, ◌++◌, map, length, Ok, vec_items, sym, refl, ap, ◌∙◌}
use Rattle.hir.specs.Lists.{Each}
use Rattle.reactive.specs.Rows.{Row}
use Rattle.image.specs.declared.fault.RowFault.{RowFault}
use Rattle.image.specs.Format.{Content, of_identifiers, of_scope, of_function, of_tree, InOrder, image_bytes}
use Rattle.image.specs.Format as format
use Rattle.image_check.specs.Steps.{image_at}
use Rattle.image_check.proofs.Whole.{image_finds}
use Rattle.image_source.specs.Sections.{section_rows}
use Rattle.image_source.proofs.Given.{gives_its_tree}
use Rattle.image_tables.specs.declared.tables.Panel.{Panel}
use Rattle.image_tables.specs.Tables.{Within, panel_part, panels_in}
use Rattle.image_encode.specs.Panels.{Lent, lent_says, panel_says}
use Rattle.image_encode.specs.Values.{Values, trees_in, values_of, loaded, OneValue, OneImage, LoadedEncoded}
use Rattle.image_encode.proofs.Nesting.{one_panel}
use Rattle.image_encode.proofs.Values.{arranged, arranged_says}

-- bytes have the contents of one image
one_content : (cs ds : List Content) → InOrder cs 0 → InOrder ds 0 → image_bytes cs ≡ image_bytes ds → cs ≡ ds
one_content cs ds oc od e = let same : ◌≡◌ {A = Rattle.std.proofs.Common.Result (List Content) RowFault} (Ok cs) (Ok ds) = sym (image_finds cs oc) ∙ ap image_at e ∙ image_finds ds od in cc

pub one_value : OneValue
one_value v w bs i j = sym i.values ∙ ap values_of (one_content i.contents j.contents i.ordered j.ordered (sym i.bytes ∙ j.bytes)) ∙ j.values

-- sections of T alone, of F and T, and of S, F and T

record Trees (cs : List Content) : Type 0 where
  ts : List format.Panel
  are : cs ≡ map of_tree ts

record Functions (cs : List Content) : Type 0 where
  fs : List format.Function
  ts : List format.Panel
  are : cs ≡ map of_function fs ++ map of_tree ts

record Scopes (cs : List Content) : Type 0 where
  ss : List format.Scope
  fs : List format.Function
  ts : List format.Panel
  are : cs ≡ map of_scope ss ++ (map of_function fs ++ map of_tree ts)

pub record Sections (cs : List Content) : Type 0 where
  pub is : List (ℕ × ℕ)
  pub ss : List format.Scope
  pub fs : List format.Function
  pub ts : List format.Panel
  pub are : cs ≡ arranged is ss fs ts

not_due : {A : Type 0} → false ≡ true → A
not_due e = absurd (cc)

only_trees : (cs : List Content) → InOrder cs 3 → Trees cs
only_trees [] o = record { ts = []; are = refl }
only_trees (of_identifiers x ∷ cs) o = not_due o.0.0.1
only_trees (of_scope x ∷ cs) o = not_due o.0.0.1
only_trees (of_function x ∷ cs) o = not_due o.0.0.1
only_trees (of_tree t ∷ cs) o = let r = only_trees cs o.1 in record { ts = t ∷ r.ts; are = ap (λ k. of_tree t ∷ k) r.are }

functions_first : (cs : List Content) → InOrder cs 2 → Functions cs
functions_first [] o = record { fs = []; ts = []; are = refl }
functions_first (of_identifiers x ∷ cs) o = not_due o.0.0.1
functions_first (of_scope x ∷ cs) o = not_due o.0.0.1
functions_first (of_function f ∷ cs) o = let r = functions_first cs o.1 in record { fs = f ∷ r.fs; ts = r.ts; are = ap (λ k. of_function f ∷ k) r.are }
functions_first (of_tree t ∷ cs) o = let r = only_trees cs o.1 in record { fs = []; ts = t ∷ r.ts; are = ap (λ k. of_tree t ∷ k) r.are }

scopes_first : (cs : List Content) → InOrder cs 1 → Scopes cs
scopes_first [] o = record { ss = []; fs = []; ts = []; are = refl }
scopes_first (of_identifiers x ∷ cs) o = not_due o.0.0.1
scopes_first (of_scope s ∷ cs) o = let r = scopes_first cs o.1 in record { ss = s ∷ r.ss; fs = r.fs; ts = r.ts; are = ap (λ k. of_scope s ∷ k) r.are }
scopes_first (of_function f ∷ cs) o = let r = functions_first cs o.1 in record { ss = []; fs = f ∷ r.fs; ts = r.ts; are = ap (λ k. of_function f ∷ k) r.are }
scopes_first (of_tree t ∷ cs) o = let r = only_trees cs o.1 in record { ss = []; fs = []; ts = t ∷ r.ts; are = ap (λ k. of_tree t ∷ k) r.are }

pub sections_of : (cs : List Content) → InOrder cs 0 → Sections cs
sections_of [] o = absurd o
sections_of (of_identifiers is ∷ cs) o = let r = scopes_first cs o.1 in record { is = is; ss = r.ss; fs = r.fs; ts = r.ts; are = ap (λ k. of_identifiers is ∷ k) r.are }
sections_of (of_scope x ∷ cs) o = not_due o.0.0.1
sections_of (of_function x ∷ cs) o = not_due o.0.0.1
sections_of (of_tree x ∷ cs) o = not_due o.0.0.1

-- contents in order are told by what they say
same_sections : (cs ds : List Content) → Sections cs → Sections ds → values_of cs ≡ values_of ds → cs ≡ ds
same_sections cs ds c d e =
    let says : ◌≡◌ {A = Values} (record { identifiers = c.is; scopes = c.ss; functions = c.fs; panels = map panel_says c.ts }) (record { identifiers = d.is; scopes = d.ss; functions = d.fs; panels = map panel_says d.ts }) =
    sym (arranged_says c.is c.ss c.fs c.ts) ∙ sym (ap values_of c.are) ∙ e ∙ ap values_of d.are ∙ arranged_says d.is d.ss d.fs d.ts
    in
    let is = ap (λ (v : Values). v.identifiers) says in
    let ss = ap (λ (v : Values). v.scopes) says in
    let fs = ap (λ (v : Values). v.functions) says in
    let ts = one_panel c.ts d.ts (ap (λ (v : Values). v.panels) says) in
    c.are ∙ (λ i. arranged (is i) (ss i) (fs i) (ts i)) ∙ sym d.are

pub one_image : OneImage
one_image v bs cs i j =
    i.bytes
    ∙ ap image_bytes (same_sections i.contents j.contents (sections_of i.contents i.ordered) (sections_of j.contents j.ordered) (i.values ∙ sym j.values))
    ∙ sym j.bytes

-- own parameters, and the rows that the content of a T section gives
abbrev read_panel : List ℕ × List ℕ → List ℕ × List Row
read_panel q = (q.0, section_rows q.1)

-- the T sections of an image give the rows of their trees
read_trees : (cs : List Content) (stage : ℕ) → InOrder cs stage → map read_panel (panels_in cs) ≡ map panel_says (trees_in cs)
read_trees [] stage o = refl
read_trees (of_identifiers x ∷ cs) stage o = read_trees cs 1 o.1
read_trees (of_scope x ∷ cs) stage o = read_trees cs 1 o.1
read_trees (of_function x ∷ cs) stage o = read_trees cs 2 o.1
read_trees (of_tree t ∷ cs) stage o = λ i. (t.0, gives_its_tree t o.0.0.0 i) ∷ read_trees cs 3 o.1 i

loaded_says : (pool : List ℕ) (ps : List Panel) → map (lent_says pool) (map loaded ps) ≡ map read_panel (map (panel_part pool) ps)
loaded_says pool [] = refl
loaded_says pool (p ∷ ps) = ap (λ k. lent_says pool (loaded p) ∷ k) (loaded_says pool ps)

loaded_within : (n : ℕ) (ps : List Panel) → Each (λ (p : Panel). Within n p.parameters) ps → Each (λ (l : Lent). Within n l.0) (map loaded ps)
loaded_within n [] h = tt
loaded_within n (p ∷ ps) h = (h.0, loaded_within n ps h.1)

pub loaded_encoded : LoadedEncoded
loaded_encoded bs t h =
    let pool = vec_items t.pool in
    let panels : map panel_says (trees_in h.contents) ≡ map (lent_says pool) (map loaded (vec_items t.panels)) =
    sym (read_trees h.contents 0 h.ordered) ∙ ap (map read_panel) (sym h.holds.panels) ∙ sym (loaded_says pool (vec_items t.panels))
    in
    record {
      within = record { scopes = h.holds.within.scopes; functions = h.holds.within.functions; panels = loaded_within (length pool) (vec_items t.panels) h.holds.within.panels };
      image = record {
        contents = h.contents;
        ordered = h.ordered;
        bytes = h.bytes;
        values = λ i. record { identifiers = sym h.holds.identifiers i; scopes = sym h.holds.scopes i; functions = sym h.holds.functions i; panels = panels i };
      };
    }

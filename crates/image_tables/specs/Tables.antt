-- What tables hold, as the values of an image. Assumes nothing.
use Rattle.std.specs.Prelude.{◌≡◌, ℕ, zero, suc, ◌+◌, ◌/◌, ◌^◌, ◌<◌, ◌≤◌, true, List, [], ◌∷◌, ◌++◌, map, length, is_ok, Ok, Err, vec_items, Result}
use Rattle.hir.specs.declared.span.Span.{Span}
use Rattle.hir.specs.declared.tables.Identifier.{Identifier}
use Rattle.hir.specs.declared.tables.Scope.{Scope}
use Rattle.hir.specs.declared.tables.Function.{Function}
use Rattle.hir.specs.Lists.{Each}
use Rattle.hir.specs.Spans.{part}
use Rattle.image.specs.Bytes.{Place}
use Rattle.image.specs.Steps.{Held, numbers_at}
use Rattle.image_check.specs.Steps.{identifiers_of, scope_at, function_at}
use Rattle.image.specs.Format.{Content, of_identifiers, of_scope, of_function, of_tree, InOrder, image_bytes, Image, FirstFault}
use Rattle.image.specs.Format as format
use Rattle.image_tables.specs.declared.fault.LoadFault.{LoadFault}
use Rattle.image_tables.specs.declared.fault.LoadFault.TheVariants.{Limit, Memory}
use Rattle.image_tables.specs.declared.fault.LoadFault.TheVariants as faults
use Rattle.image_tables.specs.declared.tables.Panel.{Panel}
use Rattle.image_tables.specs.declared.tables.Tables.{Tables}

-- an identifier row: its declaration and its tag
abbrev pub identifier_row : Identifier → ℕ × ℕ
identifier_row i = (i.declaration.0, i.tag)

-- the lists of a scope, read from the pool
abbrev pub scope_lists : List ℕ → Scope → format.Scope
scope_lists pool s = (part pool s.dependencies, (part pool s.declarations, part pool s.reassignments))

-- the lists of a function, read from the pool
abbrev pub function_lists : List ℕ → Function → format.Function
function_lists pool f = (part pool f.parameters, part pool f.nested)

-- a tree: its own parameters, read from the pool, and the bytes behind its letter
abbrev pub panel_part : List ℕ → Panel → List ℕ × List ℕ
panel_part pool t = (part pool t.parameters, t.content.now)

-- the list at p was put behind the pool's numbers, this is its span, and q follows it
pub record AddedList (before : List ℕ) (p : Place) (s : Span) (q : Place) (after : List ℕ) : Type 0 where
  pub list : List ℕ
  pub reads : numbers_at p ≡ Ok (list, q)
  pub items : after ≡ before ++ list
  pub start : s.start ≡ length before
  pub count : s.count ≡ length list

-- the lists at p, one behind the other, were put behind the pool's numbers, these are their spans, and q follows them
abbrev pub AddedLists : List ℕ → Place → List Span → Place → List ℕ → Type 0
AddedLists before p [] q after = (p ≡ q) × (before ≡ after)
AddedLists before p (s ∷ ss) q after = (r : Place) × (middle : List ℕ) × AddedList before p s r middle × AddedLists middle r ss q after

-- three lists, one behind the other, are a scope's
pub record AddedScope (before bs : List ℕ) (s : Scope) (after : List ℕ) : Type 0 where
  pub q1 : Place
  pub q2 : Place
  pub q3 : Place
  pub one : List ℕ
  pub two : List ℕ
  pub first : AddedList before (0, bs) s.dependencies q1 one
  pub second : AddedList one q1 s.declarations q2 two
  pub third : AddedList two q2 s.reassignments q3 after

-- two lists, one behind the other, are a function's
pub record AddedFunction (before bs : List ℕ) (f : Function) (after : List ℕ) : Type 0 where
  pub q1 : Place
  pub q2 : Place
  pub one : List ℕ
  pub first : AddedList before (0, bs) f.parameters q1 one
  pub second : AddedList one q1 f.nested q2 after

-- a list and the bytes around it are a panel's
pub record AddedPanel (before bs : List ℕ) (p : Panel) (after : List ℕ) : Type 0 where
  pub q : Place
  pub first : AddedList before (0, bs) p.parameters q after
  pub content : p.content.now ≡ bs

-- what the sections of an image hold, section by section in their order

-- the identifier rows that the I sections hold
abbrev pub identifiers_in : List Content → List (ℕ × ℕ)
identifiers_in [] = []
identifiers_in (of_identifiers is ∷ cs) = is ++ identifiers_in cs
identifiers_in (of_scope s ∷ cs) = identifiers_in cs
identifiers_in (of_function f ∷ cs) = identifiers_in cs
identifiers_in (of_tree t ∷ cs) = identifiers_in cs

-- the scopes that the S sections hold, by their lists
abbrev pub scopes_in : List Content → List format.Scope
scopes_in [] = []
scopes_in (of_identifiers is ∷ cs) = scopes_in cs
scopes_in (of_scope s ∷ cs) = s ∷ scopes_in cs
scopes_in (of_function f ∷ cs) = scopes_in cs
scopes_in (of_tree t ∷ cs) = scopes_in cs

-- the functions that the F sections hold, by their lists
abbrev pub functions_in : List Content → List format.Function
functions_in [] = []
functions_in (of_identifiers is ∷ cs) = functions_in cs
functions_in (of_scope s ∷ cs) = functions_in cs
functions_in (of_function f ∷ cs) = f ∷ functions_in cs
functions_in (of_tree t ∷ cs) = functions_in cs

-- of each T section the own parameters, and the bytes behind its letter
abbrev pub panels_in : List Content → List (List ℕ × List ℕ)
panels_in [] = []
panels_in (of_identifiers is ∷ cs) = panels_in cs
panels_in (of_scope s ∷ cs) = panels_in cs
panels_in (of_function f ∷ cs) = panels_in cs
panels_in (of_tree t ∷ cs) = (t.0, (format.tree).write t) ∷ panels_in cs

-- a list that lies in a pool of this length
abbrev pub Within : ℕ → Span → Type 0
Within n s = s.start + s.count ≤ n

-- every list of the tables lies in their pool
pub record ListsWithin (t : Tables) : Type 0 where
  pub scopes : Each (λ s. Within (length (vec_items t.pool)) s.dependencies × Within (length (vec_items t.pool)) s.declarations × Within (length (vec_items t.pool)) s.reassignments) (vec_items t.scopes)
  pub functions : Each (λ f. Within (length (vec_items t.pool)) f.parameters × Within (length (vec_items t.pool)) f.nested) (vec_items t.functions)
  pub panels : Each (λ p. Within (length (vec_items t.pool)) p.parameters) (vec_items t.panels)

-- the tables hold what these sections hold, and nothing else
pub record Holds (cs : List Content) (t : Tables) : Type 0 where
  pub identifiers : map identifier_row (vec_items t.identifiers) ≡ identifiers_in cs
  pub scopes : map (scope_lists (vec_items t.pool)) (vec_items t.scopes) ≡ scopes_in cs
  pub functions : map (function_lists (vec_items t.pool)) (vec_items t.functions) ≡ functions_in cs
  pub panels : map (panel_part (vec_items t.pool)) (vec_items t.panels) ≡ panels_in cs
  pub within : ListsWithin t

-- by the rank of a section's letter, the lists that tables take from its content can be read; nothing is asked of identifiers, or of what is behind the lists
abbrev pub ReadsBy : ℕ → List ℕ → Type 0
ReadsBy zero bs = Unit {0}
ReadsBy (suc zero) bs = is_ok (scope_at (0, bs)) ≡ true
ReadsBy (suc (suc zero)) bs = is_ok (function_at (0, bs)) ≡ true
ReadsBy (suc (suc (suc r))) bs = is_ok (numbers_at (0, bs)) ≡ true

-- the lists that tables take from a section can be read: those of a scope or a function, the own parameters of a tree, none of identifiers
abbrev pub SectionReads : Held → Type 0
SectionReads h = ReadsBy h.rank h.bytes

-- the rows that one section puts behind those of the tables
pub record NewRows : Type 0 where
  pub identifiers : List (ℕ × ℕ)
  pub scopes : List Scope
  pub functions : List Function
  pub panels : List Panel

-- which rows these are, by the rank of the section's letter, and what they do to the pool
abbrev pub NewBy : ℕ → List ℕ → List ℕ → NewRows → List ℕ → Type 0
NewBy zero bs before n after = (n ≡ record { identifiers = identifiers_of (length bs / 5) bs; scopes = []; functions = []; panels = [] }) × (after ≡ before)
NewBy (suc zero) bs before n after = (s : Scope) × (n ≡ record { identifiers = []; scopes = s ∷ []; functions = []; panels = [] }) × AddedScope before bs s after
NewBy (suc (suc zero)) bs before n after = (f : Function) × (n ≡ record { identifiers = []; scopes = []; functions = f ∷ []; panels = [] }) × AddedFunction before bs f after
NewBy (suc (suc (suc r))) bs before n after = (p : Panel) × (n ≡ record { identifiers = []; scopes = []; functions = []; panels = p ∷ [] }) × AddedPanel before bs p after

-- a section's rows were put behind those of the tables
pub record AddedSection (h : Held) (t u : Tables) : Type 0 where
  pub rows : NewRows
  pub identifiers : map identifier_row (vec_items u.identifiers) ≡ map identifier_row (vec_items t.identifiers) ++ rows.identifiers
  pub scopes : vec_items u.scopes ≡ vec_items t.scopes ++ rows.scopes
  pub functions : vec_items u.functions ≡ vec_items t.functions ++ rows.functions
  pub panels : vec_items u.panels ≡ vec_items t.panels ++ rows.panels
  pub by : NewBy h.rank h.bytes (vec_items t.pool) rows (vec_items u.pool)

-- the tables hold what an image of these bytes holds
pub record HoldsImage (bs : List ℕ) (t : Tables) : Type 0 where
  pub contents : List Content
  pub ordered : InOrder contents 0
  pub bytes : bs ≡ image_bytes contents
  pub holds : Holds contents t

-- what comes of loading an image: its tables, or why not; want of memory can come of any image
abbrev pub Loaded : List ℕ → Result Tables LoadFault → Type 0
Loaded bs (Ok t) = (length bs < 2 ^ 32) × HoldsImage bs t
Loaded bs (Err Limit) = 2 ^ 32 ≤ length bs
Loaded bs (Err (faults.Image f)) = (length bs < 2 ^ 32) × FirstFault bs f
Loaded bs (Err Memory) = (length bs < 2 ^ 32) × Image bs

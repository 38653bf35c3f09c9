-- What an image says, apart from its bytes. Assumes nothing.
use Rattle.std.specs.Prelude.{◌≡◌, ℕ, List, [], ◌∷◌, map, length, vec_items}
use Rattle.hir.specs.declared.tables.Identifier.{Identifier}
use Rattle.hir.specs.declared.tables.Scope.{Scope}
use Rattle.hir.specs.declared.tables.Function.{Function}
use Rattle.hir.specs.Lists.{Each}
use Rattle.reactive.specs.Rows.{Row, at_place}
use Rattle.image.specs.Format.{Content, of_identifiers, of_scope, of_function, of_tree, InOrder, image_bytes}
use Rattle.image.specs.Format as format
use Rattle.image_source.specs.Sections.{section_rows}
use Rattle.image_tables.specs.declared.tables.Panel.{Panel}
use Rattle.image_tables.specs.declared.tables.Tables.{Tables}
use Rattle.image_tables.specs.Tables.{Within, identifier_row, scope_lists, function_lists, identifiers_in, scopes_in, functions_in, HoldsImage}
use Rattle.image_encode.specs.Fits.{ScopeWithin, FunctionWithin}
use Rattle.image_encode.specs.Panels.{Lent, lent_says, panel_says}

-- identifier rows, scopes and functions by their lists, and for each panel its own parameters and its rows
pub record Values : Type 0 where
  pub identifiers : List (ℕ × ℕ)
  pub scopes : List format.Scope
  pub functions : List format.Function
  pub panels : List (List ℕ × List Row)

-- the own parameters and the trees of the T sections, in their order
abbrev pub trees_in : List Content → List format.Panel
trees_in [] = []
trees_in (of_identifiers is ∷ cs) = trees_in cs
trees_in (of_scope s ∷ cs) = trees_in cs
trees_in (of_function f ∷ cs) = trees_in cs
trees_in (of_tree t ∷ cs) = t ∷ trees_in cs

-- what the sections of an image say
abbrev pub values_of : List Content → Values
values_of cs = record {
  identifiers = identifiers_in cs;
  scopes = scopes_in cs;
  functions = functions_in cs;
  panels = map panel_says (trees_in cs);
}

-- the bytes are an image, and these are its values
pub record ImageOf (v : Values) (bs : List ℕ) : Type 0 where
  pub contents : List Content
  pub ordered : InOrder contents 0
  pub bytes : bs ≡ image_bytes contents
  pub values : values_of contents ≡ v

-- the values of tables whose lists lie in a pool, with the panels that were lent
abbrev pub lent_values : List Identifier → List Scope → List Function → List ℕ → List Lent → Values
lent_values is ss fs pool ls = record {
  identifiers = map identifier_row is;
  scopes = map (scope_lists pool) ss;
  functions = map (function_lists pool) fs;
  panels = map (lent_says pool) ls;
}

-- every list lies in a pool of this length
pub record SpansWithin (n : ℕ) (ss : List Scope) (fs : List Function) (ls : List Lent) : Type 0 where
  pub scopes : Each (ScopeWithin n) ss
  pub functions : Each (FunctionWithin n) fs
  pub panels : Each (λ l. Within n l.0) ls

-- the bytes are an image of tables and panels, whose lists lie in the pool
pub record Encoded (is : List Identifier) (ss : List Scope) (fs : List Function) (pool : List ℕ) (ls : List Lent) (bs : List ℕ) : Type 0 where
  pub within : SpansWithin (length pool) ss fs ls
  pub image : ImageOf (lent_values is ss fs pool ls) bs

-- an image has one meaning: what is encoded and loaded again is the same
abbrev pub OneValue : Type 0
OneValue = (v w : Values) (bs : List ℕ) → ImageOf v bs → ImageOf w bs → v ≡ w

-- values have one image: what is loaded and encoded again is the same bytes
abbrev pub OneImage : Type 0
OneImage = (v : Values) (bs cs : List ℕ) → ImageOf v bs → ImageOf v cs → bs ≡ cs

-- own parameters that were loaded, and the source over their section at its start
abbrev pub loaded : Panel → Lent
loaded p = (p.parameters, at_place (section_rows p.content.now) 0)

-- the image that tables hold is an image of them, with the sources over their sections
abbrev pub LoadedEncoded : Type 0
LoadedEncoded = (bs : List ℕ) (t : Tables) → HoldsImage bs t → Encoded (vec_items t.identifiers) (vec_items t.scopes) (vec_items t.functions) (vec_items t.pool) (map loaded (vec_items t.panels)) bs

-- what tables hold that were loaded
abbrev pub loaded_values : Tables → Values
loaded_values t = lent_values (vec_items t.identifiers) (vec_items t.scopes) (vec_items t.functions) (vec_items t.pool) (map loaded (vec_items t.panels))

-- what is loaded from an image that was encoded holds what was encoded
abbrev pub EncodedLoaded : Type 0
EncodedLoaded = (is : List Identifier) (ss : List Scope) (fs : List Function) (pool : List ℕ) (ls : List Lent) (bs : List ℕ) (t : Tables) → Encoded is ss fs pool ls bs → HoldsImage bs t → loaded_values t ≡ lent_values is ss fs pool ls

-- what is encoded of loaded tables, with the sources over their sections, is the bytes that they were loaded from
abbrev pub LoadedAgain : Type 0
LoadedAgain = (bs cs : List ℕ) (t : Tables) → HoldsImage bs t → Encoded (vec_items t.identifiers) (vec_items t.scopes) (vec_items t.functions) (vec_items t.pool) (map loaded (vec_items t.panels)) cs → cs ≡ bs

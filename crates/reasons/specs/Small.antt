-- Twelve small functions and their journals. Assumes nothing.
use Rattle.std.specs.Prelude.{◌≡◌, ℕ, List, [], ◌∷◌, ◌++◌, Some, None, Option}
use Rattle.hir.specs.declared.ids.IdentifierId.{IdentifierId}
use Rattle.hir.specs.declared.span.Span.{Span}
use Rattle.hir.specs.declared.tables.Identifier.{Identifier}
use Rattle.hir.specs.declared.tables.JournalRow.{JournalRow}
use Rattle.hir.specs.declared.tables.Reason.{Reason}
use Rattle.hir.specs.declared.tables.Reason.TheVariants as reasons
use Rattle.hir.specs.Environments.{Model, no_span}
use Rattle.hir.specs.Spans.{ident}
use Rattle.reactive.specs.declared.row.Number.{Number}
use Rattle.reactive.specs.declared.row.Number.TheVariants as numbers
use Rattle.reactive.specs.Rows.{Row}
use Rattle.reasons.specs.Coverings.{journal}

-- an identifier of a declaration, without a name
abbrev pub declared : ℕ → Identifier
declared d = record { declaration = record { 0 = d }; tag = 0 }

-- identifier i has declaration i
abbrev pub five : List Identifier
five = declared 0 ∷ declared 1 ∷ declared 2 ∷ declared 3 ∷ declared 4 ∷ []

-- a list of n numbers from place s of the pool on
abbrev pub span : ℕ → ℕ → Span
span s n = record { start = s; count = n }

-- an environment in which scope 0 declares 2, scope 1 nothing, function 0 has parameter 3 and contains function 1, which has parameter 4
abbrev pub environment : List Identifier → Model
environment is = record {
  identifiers = is;
  scopes = record { dependencies = no_span; declarations = span 0 1; reassignments = no_span } ∷ record { dependencies = no_span; declarations = no_span; reassignments = no_span } ∷ [];
  functions = record { parameters = span 1 1; nested = span 3 1 } ∷ record { parameters = span 2 1; nested = no_span } ∷ [];
  pool = 2 ∷ 3 ∷ 4 ∷ 1 ∷ 0 ∷ [];
  journal = [];
  count = 0;
}

-- the own parameter 0
abbrev pub parameter : Span
parameter = span 4 1

-- a row of depth d and code c that is no Leaf, with its identifier and its number
abbrev pub row : ℕ → ℕ → Option IdentifierId → Option Number → Row
row d c i n = record { depth = d; code = c; identifier = i; number = n; kind = 0; mode = 0; operands = []; marks = [] }

-- a Leaf of kind k and mode 0 at depth d, with its number, its operands and its marks
abbrev pub leaf : ℕ → ℕ → Option Number → List IdentifierId → List IdentifierId → Row
leaf d k n os ms = record { depth = d; code = 5; identifier = None; number = n; kind = k; mode = 0; operands = os; marks = ms }

-- a tree: a Block as row 0, and these rows within it
abbrev pub block : List Row → List Row
block rs = row 0 1 None None ∷ rs

-- a := b, a LoadLocal
abbrev pub load : ℕ → ℕ → List Row
load a b = row 1 2 (Some (ident a)) None ∷ leaf 2 0 None (ident b ∷ []) (ident b ∷ []) ∷ []

-- a call without lvalue or operands
abbrev pub call : List Row
call = row 1 2 None None ∷ leaf 2 11 None [] [] ∷ []

-- a Return at depth d that uses identifier i
abbrev pub return : ℕ → ℕ → List Row
return d i = row d 12 (Some (ident i)) None ∷ []

-- at depth 1 a Scope or Pruned row, by its code, of scope s, and in its Block these rows
abbrev pub within : ℕ → ℕ → List Row → List Row
within code s rs = row 1 code None (Some (numbers.Scope (record { 0 = s }))) ∷ row 2 1 None None ∷ rs

-- an instruction that names function 0
abbrev pub function : List Row
function = row 1 2 None None ∷ leaf 2 30 (Some (numbers.Function (record { 0 = 0 }))) [] [] ∷ []

-- journal rows, each as the number of its identifier and its reason
abbrev pub entries : List JournalRow → List (ℕ × Reason)
entries [] = []
entries (r ∷ rows) = (r.identifier.0, r.reason) ∷ entries rows

-- the journal of a function over this environment
abbrev pub Journals : List Identifier → Span → List Row → List (ℕ × Reason) → Type 0
Journals is ps rs js = entries (journal (environment is) ps (block rs)) ≡ js

-- five identifiers, of which 1 and 2 have declaration 1
abbrev pub shared : List Identifier
shared = declared 0 ∷ declared 1 ∷ declared 1 ∷ declared 3 ∷ declared 4 ∷ []

-- the journals of twelve small functions are these
pub record SmallFunctions : Type 0 where
  pub empty : Journals five no_span [] []
  pub own_parameter : Journals five parameter [] ((0, reasons.OwnParameter) ∷ [])
  pub interposed : Journals five no_span (load 1 0 ++ (call ++ return 1 1)) ((1, reasons.Interposed) ∷ [])
  pub constant : Journals five parameter (load 1 0 ++ (call ++ return 1 1)) ((0, reasons.OwnParameter) ∷ [])
  pub used_before : Journals five no_span (load 1 0 ++ (return 1 1 ++ call)) []
  pub tracked_again : Journals five no_span (load 1 0 ++ (call ++ (load 1 0 ++ return 1 1))) []
  pub scope : Journals five no_span (within 3 0 []) ((2, reasons.Scope) ∷ [])
  pub escape : Journals five no_span (within 4 0 [] ++ within 3 1 (return 3 2)) ((2, reasons.Escape) ∷ [])
  pub outside : Journals five no_span (within 4 0 [] ++ return 1 2) []
  pub recorded_again : Journals five no_span (within 4 0 [] ++ (within 3 1 (return 3 2) ++ within 4 0 [])) []
  pub inner_parameters : Journals five no_span function ((3, reasons.InnerParameter) ∷ (4, reasons.InnerParameter) ∷ [])
  pub same_declaration : Journals shared no_span (load 1 0 ++ (call ++ (return 1 1 ++ return 1 2))) ((1, reasons.Interposed) ∷ (2, reasons.SameDeclaration) ∷ [])

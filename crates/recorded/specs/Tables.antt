-- What a recorded function is, and what the definitions answer to it. Assumes nothing.
use Rattle.std.specs.Prelude.{ℕ, List, [], ◌∷◌, ◌++◌, map, length, Some, None}
use Rattle.std.specs.List.{fold}
use Rattle.hir.specs.declared.span.Span.{Span}
use Rattle.hir.specs.declared.tables.Identifier.{Identifier}
use Rattle.hir.specs.declared.tables.Reason.{Reason}
use Rattle.hir.specs.Environments.{Model, fresh}
use Rattle.hir.specs.Spans.{ident}
use Rattle.reactive.specs.declared.code.Code.{Code}
use Rattle.reactive.specs.declared.kind.Kind.{Kind}
use Rattle.reactive.specs.declared.mode.Mode.{Mode}
use Rattle.reactive.specs.declared.row.Number.TheVariants as numbers
use Rattle.reactive.specs.Codes.{code_number}
use Rattle.reactive.specs.Kinds.{kind_number, mode_number}
use Rattle.reactive.specs.Rows.{Row}
use Rattle.reasons.specs.Coverings.{journal, ran}
use Rattle.reasons.specs.Small as small

-- what a run journals, and the tags of all identifiers after it
abbrev pub Answer : Type 0
Answer = List (ℕ × Reason) × List ℕ

-- one run: the own parameters and the rows of its tree, and the answer of the Rust
pub record Run : Type 0 where
  pub parameters : List ℕ
  pub rows : List Row
  pub answer : Answer

-- a recorded function: declaration and tag of each identifier; dependencies, declarations and reassignments of each scope; parameters and nested functions of each function; the runs, one after the other
pub record Recorded : Type 0 where
  pub identifiers : List (ℕ × ℕ)
  pub scopes : List (List ℕ × List ℕ × List ℕ)
  pub functions : List (List ℕ × List ℕ)
  pub runs : List Run

-- an identifier of a declaration, with a tag
abbrev pub identifier : ℕ × ℕ → Identifier
identifier i = record { declaration = record { 0 = i.0 }; tag = i.1 }

-- the place of a list that stands behind others in the pool
abbrev pub behind : List ℕ → List ℕ → Span
behind before ns = small.span (length before) (length ns)

-- one scope more, with its lists at the end of the pool
abbrev pub with_scope : Model → List ℕ × List ℕ × List ℕ → Model
with_scope m s = record m {
  scopes = m.scopes ++ record { dependencies = behind m.pool s.0; declarations = behind (m.pool ++ s.0) s.1; reassignments = behind (m.pool ++ (s.0 ++ s.1)) s.2 } ∷ [];
  pool = m.pool ++ (s.0 ++ (s.1 ++ s.2));
}

-- one function more, with its lists at the end of the pool
abbrev pub with_function : Model → List ℕ × List ℕ → Model
with_function m f = record m {
  functions = m.functions ++ record { parameters = behind m.pool f.0; nested = behind (m.pool ++ f.0) f.1 } ∷ [];
  pool = m.pool ++ (f.0 ++ f.1);
}

-- the environment before the first run, without journal rows, for which the definitions do not ask
abbrev pub environment : Recorded → Model
environment r = fold with_function (fold with_scope (fresh (map identifier r.identifiers) [] [] [] []) r.scopes) r.functions

-- the environment of a run, with the own parameters at the end of the pool
abbrev pub with_parameters : Model → Run → Model
with_parameters m r = record m { pool = m.pool ++ r.parameters }

-- what a run leaves
abbrev pub after : Model → Run → Model
after m r = ran (with_parameters m r) (behind m.pool r.parameters) r.rows

-- what the definitions of the reasons answer to a run
abbrev pub answer : Model → Run → Answer
answer m r = (small.entries (journal (with_parameters m r) (behind m.pool r.parameters) r.rows), map (λ i. i.tag) (after m r).identifiers)

-- the answers to some runs, each on the environment that those before it left
abbrev pub answers : Model → List Run → List Answer
answers m [] = []
answers m (r ∷ rs) = answer m r ∷ answers (after m r) rs

-- the answers of the definitions
abbrev pub by_definitions : Recorded → List Answer
by_definitions r = answers (environment r) r.runs

-- the answers of the Rust
abbrev pub by_rust : Recorded → List Answer
by_rust r = map (λ x. x.answer) r.runs

-- a recorded function of identifiers, scopes, functions and runs
abbrev pub recorded : List (ℕ × ℕ) → List (List ℕ × List ℕ × List ℕ) → List (List ℕ × List ℕ) → List Run → Recorded
recorded is ss fs rs = record { identifiers = is; scopes = ss; functions = fs; runs = rs }

-- a run of own parameters, the rows within the first Block, the journal, and the tags after it
abbrev pub run : List ℕ → List Row → List (ℕ × Reason) → List ℕ → Run
run ps rs js ts = record { parameters = ps; rows = small.block rs; answer = (js, ts) }

-- a row with neither identifier nor number
abbrev pub row : ℕ → Code → Row
row d c = small.row d (code_number c) None None

-- a row with an identifier
abbrev pub identified : ℕ → Code → ℕ → Row
identified d c i = small.row d (code_number c) (Some (ident i)) None

-- a row with the number of a scope
abbrev pub numbered : ℕ → Code → ℕ → Row
numbered d c s = small.row d (code_number c) None (Some (numbers.Scope (record { 0 = s })))

-- a Leaf with operands and marks
abbrev pub leaf : ℕ → Kind → List ℕ → List ℕ → Row
leaf d k os ms = small.leaf d (kind_number k) None (map ident os) (map ident ms)

-- a Leaf with a mode, operands and marks
abbrev pub mode_leaf : ℕ → Kind → Mode → List ℕ → List ℕ → Row
mode_leaf d k m os ms = record (leaf d k os ms) { mode = mode_number m }

-- a Leaf with the number of a function, and operands
abbrev pub function_leaf : ℕ → Kind → ℕ → List ℕ → Row
function_leaf d k f os = small.leaf d (kind_number k) (Some (numbers.Function (record { 0 = f }))) (map ident os) []

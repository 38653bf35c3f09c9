-- Which rows of tables a section can tell. Assumes nothing.
use Rattle.std.specs.Prelude.{◌≡◌, ℕ, List, length}
use Rattle.hir.specs.declared.tables.Scope.{Scope}
use Rattle.hir.specs.declared.tables.Function.{Function}
use Rattle.hir.specs.Spans.{part}
use Rattle.image.specs.Format.{Tree, of_scope, of_function, of_tree, section}
use Rattle.image_source.specs.Trees.{tree_rows}
use Rattle.image_tables.specs.Tables.{Within, scope_lists, function_lists}
use Rattle.image_encode.specs.Panels.{Lent}

-- the lists of a scope lie in a pool of this length
abbrev pub ScopeWithin : ℕ → Scope → Type 0
ScopeWithin n s = Within n s.dependencies × Within n s.declarations × Within n s.reassignments

-- the lists of a function do
abbrev pub FunctionWithin : ℕ → Function → Type 0
FunctionWithin n f = Within n f.parameters × Within n f.nested

-- the lists of a scope lie in the pool, and a section can tell them
pub record ScopeFits (pool : List ℕ) (s : Scope) : Type 0 where
  pub within : ScopeWithin (length pool) s
  pub fine : (section 1).Fine (of_scope (scope_lists pool s))

-- the same of a function
pub record FunctionFits (pool : List ℕ) (f : Function) : Type 0 where
  pub within : FunctionWithin (length pool) f
  pub fine : (section 2).Fine (of_function (function_lists pool f))

-- own parameters lie in the pool, and a section can tell them and a tree of the rows
pub record PanelFits (pool : List ℕ) (l : Lent) : Type 0 where
  pub within : Within (length pool) l.0
  pub tree : Tree 128
  pub rows : l.1.rows ≡ tree_rows 128 0 tree
  pub fine : (section 3).Fine (of_tree (part pool l.0, tree))

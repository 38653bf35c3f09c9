-- Own parameters with a tree source. Assumes nothing.
use Rattle.std.specs.Prelude.{◌≡◌, ℕ, List, map}
use Rattle.hir.specs.declared.span.Span.{Span}
use Rattle.reactive.specs.Rows.{Row, Reading, rewound}
use Rattle.hir.specs.Spans.{part}
use Rattle.image.specs.Format.{Tree, of_tree, section}
use Rattle.image.specs.Format as format
use Rattle.image_source.specs.Trees.{tree_rows}
use Rattle.image_encode.specs.declared.panel.Panel.{Panel}
use Rattle.image_encode.specs.Puts.{Put, PutAll}

-- the span of own parameters, and what the source stands for
abbrev pub Lent : Type 0
Lent = Span × Reading

-- the span of a panel's own parameters, and what its source stands for
abbrev pub lent : {S : Type 0} → (S → Reading) → Panel S → Lent
lent reading p = (p.parameters, reading p.tree)

-- the same parameters, and the source rewound
abbrev pub lent_rewound : Lent → Lent
lent_rewound l = (l.0, rewound l.1)

-- the span, and the rows of the source
abbrev pub lent_rows : Lent → Span × List Row
lent_rows l = (l.0, l.1.rows)

-- own parameters from the pool, and the rows
abbrev pub lent_says : List ℕ → Lent → List ℕ × List Row
lent_says pool l = (part pool l.0, l.1.rows)

-- own parameters, and the rows of a tree
abbrev pub panel_says : format.Panel → List ℕ × List Row
panel_says t = (t.0, tree_rows 128 0 t.1)

-- a T section was written behind the bytes that were there: these parameters, and a tree of these rows
pub record PutTree (own : List ℕ) (rs : List Row) (before after : List ℕ) : Type 0 where
  pub tree : Tree 128
  pub rows : rs ≡ tree_rows 128 0 tree
  pub put : Put (section 3) (of_tree (own, tree)) before after

-- a T section was written for each panel, with the parameters of its span and the rows of its source
pub record PutTrees (pool : List ℕ) (ls : List Lent) (before after : List ℕ) : Type 0 where
  pub trees : List format.Panel
  pub says : map panel_says trees ≡ map (lent_says pool) ls
  pub put : PutAll (section 3) (map of_tree trees) before after

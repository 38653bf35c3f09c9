-- The four passes on the tables, one after another. Assumes nothing.
use Rattle.std.specs.Prelude.{List}
use Rattle.hir.specs.declared.span.Span.{Span}
use Rattle.hir.specs.Scratches.{Tables, both, blank}
use Rattle.reactive.specs.Rows.{Row}
use Rattle.collect.specs.Promotable.{collected}
use Rattle.instances.specs.Instances.{promote_all_instances}
use Rattle.interposed.specs.Interposed.{promote_interposed}
use Rattle.promote.specs.Temporaries.{promote_temporaries}

-- nothing that an earlier run noted is left
abbrev pub reset : Tables → Tables
reset t = both t.env (blank t.notes)

-- collect, then name what scopes and inner functions take, then what is interposed, then all of the same declarations
abbrev pub passed : Tables → Span → List Row → Tables
passed t ps rs = promote_all_instances (promote_interposed (promote_temporaries (collected (reset t) rs) ps rs) ps rs) ps rs

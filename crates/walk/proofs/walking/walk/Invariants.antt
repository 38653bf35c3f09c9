use Rattle.std.proofs.Common.{reverse, length}
use Rattle.hir.specs.Scratches.{tables}
use Rattle.reactive.specs.Rows.{left}
use Rattle.walk.specs.Events.{whole}
use Rattle.walk.proofs.Rows.{Walking}
use Rattle.walk.proofs.walking.walk.Given as goal

abbrev pub invariant-loop-row : goal.invariant-loop-row
invariant-loop-row g l =
    Walking g.V.Visitor.keeps g.V.Visitor.can g.V.Visitor.after
    (whole l.initial.visitor (tables l.initial.env l.initial.scratch))
    (whole l.visitor (tables l.env l.scratch))
    (g.S.TreeSource.reading l.initial.source)
    (g.S.TreeSource.reading l.source)
    (reverse l.opened)

abbrev pub decreases-loop-row : goal.decreases-loop-row
decreases-loop-row g l = length (left (g.S.TreeSource.reading l.source))

use Rattle.std.proofs.Common.{◌≡◌, length, take, reverse}
use Rattle.hir.specs.Scratches.{tables}
use Rattle.walk.specs.Events.{whole, closing}
use Rattle.walk.proofs.Rows.{Onward}
use Rattle.walk.proofs.walking.close.Given as goal

abbrev pub invariant-loop-opened : goal.invariant-loop-opened
invariant-loop-opened g l =
    (take l.depth l.opened ≡ take l.depth l.initial.opened) ×
    Onward g.V.Visitor.keeps g.V.Visitor.can g.V.Visitor.after
    (whole l.initial.visitor (tables l.initial.env l.initial.scratch))
    (whole l.visitor (tables l.env l.scratch))
    (closing l.depth (reverse l.initial.opened))
    (closing l.depth (reverse l.opened))

abbrev pub decreases-loop-opened : goal.decreases-loop-opened
decreases-loop-opened g l = length l.opened

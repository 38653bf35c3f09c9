use Rattle.std.proofs.Common.{drop}
use Rattle.hir.specs.Scratches.{tables}
use Rattle.hir.specs.Spans.{ident}
use Rattle.walk.specs.Events.{whole}
use Rattle.walk.proofs.Acting.{Doing}
use Rattle.interposed.specs.Acts.{fixes, does, Ready}
use Rattle.interposed.proofs.Passes.{splits}
use Rattle.interposed.proofs.interposed.fix_parameters.Given as goal

abbrev pub invariant-loop-n : goal.invariant-loop-n
invariant-loop-n l = Doing does Ready splits (λ n. fixes (ident n)) (whole l.visitor (tables l.env l.initial.scratch)) (whole l.visitor (tables l.env l.scratch)) l.n-items (drop l.n-index l.n-items)

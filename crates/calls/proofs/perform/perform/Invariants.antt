use Rattle.std.proofs.Common.{map}
use Rattle.hir.specs.Environments.{model}
use Rattle.hir.specs.Scratches.{noted}
use Rattle.calls.specs.Histories.{world}
use Rattle.calls.proofs.Calling.{Performing}
use Rattle.calls.proofs.perform.perform.Given as goal

abbrev pub invariant-loop-i : goal.invariant-loop-i
invariant-loop-i g l =
    Performing (g.N.Naming.text l.naming)
    (world (model l.initial.env) (noted l.initial.scratch) (map g.S.TreeSource.reading l.initial.trees) l.initial.text)
    l.requests l.initial.answers l.answers l.i
    (world (model l.env) (noted l.scratch) (map g.S.TreeSource.reading l.trees) l.text)

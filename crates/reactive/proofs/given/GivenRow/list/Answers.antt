use Rattle.std.proofs.Common.{◌<◌, ◌^◌, arith}
use Rattle.reactive.proofs.Lists.{lists_given}
use Rattle.reactive.proofs.given.GivenRow.list.Goals as goal

pub invariant_of-result : goal.invariant_of-result
invariant_of-result g c =
    let few : c.self.inside.head.operands < 2 ^ 64 = omega arith in
    let scarce : c.self.inside.head.marks < 2 ^ 64 = omega arith in
    lists_given (g.S.TreeSource.reading c.self.inside.source.now) c.self.inside.head c.self.invariant few scarce c.args.list

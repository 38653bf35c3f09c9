use Rattle.std.proofs.Common.{arith}
use Rattle.image_source.proofs.Keeps.{operand_is}
use Rattle.image_source.proofs.source.ImageSourceTreeSource.operand.Goals as goal

pub returns : goal.returns
returns c = grind (arith, operand_is c.args.self.now c.args.i)

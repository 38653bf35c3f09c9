use Rattle.std.proofs.Common.{arith}
use Rattle.image_source.proofs.Keeps.{mark_is}
use Rattle.image_source.proofs.source.ImageSourceTreeSource.mark.Goals as goal

pub returns : goal.returns
returns c = grind (arith, mark_is c.args.self.now c.args.i)

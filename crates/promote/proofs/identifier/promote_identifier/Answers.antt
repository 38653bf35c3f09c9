use Rattle.std.proofs.Common.{arith}
use Rattle.promote.proofs.Growing.{some_unnamed}
use Rattle.promote.proofs.identifier.promote_identifier.Goals as goal

pub bounds-env-env : goal.bounds-env-env
bounds-env-env c =
    let u = some_unnamed c.args.env.now.identifiers.now c.args.id.0 c.requires.known c.requires.unnamed in
    omega (arith, u, c.requires.sound.room)

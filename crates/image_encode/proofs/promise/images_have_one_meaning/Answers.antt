use Rattle.image_encode.proofs.One.{one_value}
use Rattle.image_encode.proofs.promise.images_have_one_meaning.Goals as goal

pub returns : goal.returns
returns c = one_value

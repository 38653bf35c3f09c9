use Rattle.image_encode.proofs.One.{one_image}
use Rattle.image_encode.proofs.promise.values_have_one_image.Goals as goal

pub returns : goal.returns
returns c = one_image

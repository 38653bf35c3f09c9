use Rattle.image_encode.proofs.One.{loaded_encoded}
use Rattle.image_encode.proofs.promise.loaded_tables_have_their_image.Goals as goal

pub returns : goal.returns
returns c = loaded_encoded

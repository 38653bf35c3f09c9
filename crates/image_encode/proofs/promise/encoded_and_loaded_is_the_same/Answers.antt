use Rattle.image_encode.proofs.One.{one_value, loaded_encoded}
use Rattle.image_encode.proofs.promise.encoded_and_loaded_is_the_same.Goals as goal

pub returns : goal.returns
returns c = λ is ss fs pool ls bs t e h. one_value _ _ bs (loaded_encoded bs t h).image e.image

use Rattle.image_encode.proofs.One.{one_image, loaded_encoded}
use Rattle.image_encode.proofs.promise.loaded_and_encoded_is_the_same.Goals as goal

pub returns : goal.returns
returns c = λ bs cs t h e. one_image _ cs bs e.image (loaded_encoded bs t h).image

use Rattle.image_source.proofs.Given.{gives_its_tree}
use Rattle.image_source.proofs.promise.every_section_gives_its_tree.Goals as goal

pub returns : goal.returns
returns c = gives_its_tree

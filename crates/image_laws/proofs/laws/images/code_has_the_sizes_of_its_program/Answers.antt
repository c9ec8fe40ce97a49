use Rattle.image_laws.proofs.Images.Following.{sizes_same}
use Rattle.image_laws.proofs.laws.images.code_has_the_sizes_of_its_program.Goals as goal

pub returns : goal.returns
returns c = sizes_same

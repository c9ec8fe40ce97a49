use Rattle.rv_codegen_example.proofs.Premises.{image_met}
use Rattle.rv_codegen_example.proofs.laws.its_image_follows.Goals as goal

pub returns : goal.returns
returns c = image_met c.programs_have_images.ensures c.images_follow.ensures

use Rattle.rv_codegen.proofs.MachineImages.Loaded.{image_follows}
use Rattle.rv_codegen.proofs.images.laws.images_follow.Goals as goal

pub returns : goal.returns
returns c = image_follows c.generated_code_follows.ensures

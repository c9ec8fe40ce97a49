use Rattle.rv_codegen.proofs.MachineImages.Loaded.{has_image}
use Rattle.rv_codegen.proofs.images.laws.programs_have_images.Goals as goal

pub returns : goal.returns
returns c = has_image

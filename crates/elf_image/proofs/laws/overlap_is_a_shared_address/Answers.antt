use Rattle.elf_image.proofs.Overlap.{overlap-shared}
use Rattle.elf_image.proofs.laws.overlap_is_a_shared_address.Goals as goal

pub returns : goal.returns
returns c = overlap-shared

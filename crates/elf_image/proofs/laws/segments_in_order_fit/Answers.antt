use Rattle.elf_image.proofs.Ordered.{in_order_fits}
use Rattle.elf_image.proofs.laws.segments_in_order_fit.Goals as goal

pub returns : goal.returns
returns c = in_order_fits

use Rattle.c_tree.proofs.Layouts.{structure_laid_out, structure_whole, structure_alignment}
use Rattle.c_tree.proofs.laws.structures_are_laid_out.Goals as goal

pub returns : goal.returns
returns c = record { members = structure_laid_out; whole = structure_whole; alignment = structure_alignment }

use Rattle.program_expansion.proofs.Small.{temporaries_few}
use Rattle.program_expansion.proofs.function.areas_of.Goals as goal

pub structure_areas-requires : goal.structure_areas-requires
structure_areas-requires g c = temporaries_few c.args.function.now c.requires.small.registers

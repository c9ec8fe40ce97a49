use Rattle.machine_laws.proofs.Blocks.Pieces.{constant_gives}
use Rattle.machine_laws.proofs.Blocks.Lengths.{constant_length, short_constant_length}
use Rattle.machine_laws.proofs.laws.blocks.constants_come_to_registers.Goals as goal

pub returns-clause-gives : goal.returns-clause-gives
returns-clause-gives c = constant_gives

pub returns-clause-few : goal.returns-clause-few
returns-clause-few c = constant_length

pub returns-clause-fewer : goal.returns-clause-fewer
returns-clause-fewer c = short_constant_length

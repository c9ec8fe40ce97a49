use Rattle.lib_wrappers.proofs.AreaRoutines.ReadParts.{parts_read}
use Rattle.lib_wrappers.proofs.AreaRoutines.Shapes.{read_part_shape, read_part_computes}
use Rattle.lib_wrappers.proofs.areas.laws.parts_are_read_exactly.Goals as goal

pub returns-clause-does : goal.returns-clause-does
returns-clause-does c = λ h into t below results distinct. parts_read h into t below results distinct

pub returns-clause-shape : goal.returns-clause-shape
returns-clause-shape c = λ h into t below results. read_part_shape h into t below results

pub returns-clause-computes : goal.returns-clause-computes
returns-clause-computes c = λ h into t. read_part_computes h into t

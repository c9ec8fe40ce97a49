use Rattle.std.proofs.Common.{refl}
use Rattle.flat_code.proofs.Routines.InputOutput.{computes}
use Rattle.shadow_space.specs.TwoLevel.Code.{two_level_read_behind, two_level_write_behind}
use Rattle.shadow_space.proofs.TwoLevel.Reading.{two_level_reads}
use Rattle.shadow_space.proofs.TwoLevel.Writing.{two_level_writes}
use Rattle.shadow_space.proofs.Shapes.{two_level_read_shape, two_level_write_shape}
use Rattle.shadow_space.proofs.two_levels.two_level.TwoLevelShadowForm.entries_are_read_and_written.Goals as goal

pub returns-clause-reads : goal.returns-clause-reads
returns-clause-reads c = λ map at into t mapped distinct below. two_level_reads map at into t mapped distinct below

pub returns-clause-writes : goal.returns-clause-writes
returns-clause-writes c = λ map at from t mapped below. two_level_writes map at from t mapped below

pub returns-clause-read_shape : goal.returns-clause-read_shape
returns-clause-read_shape c = λ map at e t mapped below.
    (two_level_read_shape at e t below, computes (two_level_read_behind map at e t) refl)

pub returns-clause-write_shape : goal.returns-clause-write_shape
returns-clause-write_shape c = λ map at e t mapped below.
    (two_level_write_shape map mapped at e t below, computes (two_level_write_behind map at e t) refl)

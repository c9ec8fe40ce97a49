use Rattle.std.proofs.Common.{refl}
use Rattle.flat_code.proofs.Routines.Regions.{laid_out}
use Rattle.flat_code.proofs.Routines.InputOutput.{computes}
use Rattle.shadow_space.specs.Direct.{direct_read, direct_write}
use Rattle.shadow_space.proofs.Entries.{direct_reads, direct_writes}
use Rattle.shadow_space.proofs.Shapes.{direct_read_shape, direct_write_shape}
use Rattle.shadow_space.proofs.direct.DirectShadowForm.entries_are_read_and_written.Goals as goal

pub returns-clause-reads : goal.returns-clause-reads
returns-clause-reads c = λ map at into t mapped distinct below.
    direct_reads map at into t (laid_out map mapped) distinct below

pub returns-clause-writes : goal.returns-clause-writes
returns-clause-writes c = λ map at from t mapped below. direct_writes map at from t (laid_out map mapped) below

pub returns-clause-read_shape : goal.returns-clause-read_shape
returns-clause-read_shape c = λ map at e t mapped below.
    (direct_read_shape at e t below, computes (direct_read at e t) refl)

pub returns-clause-write_shape : goal.returns-clause-write_shape
returns-clause-write_shape c = λ map at e t mapped below.
    (direct_write_shape at e t below, computes (direct_write at e t) refl)

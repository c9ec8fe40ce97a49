use Rattle.rv_codegen.proofs.MachineImages.Loaded.{held, data_bytes}
use Rattle.rv_codegen.proofs.images.laws.data_is_held.Goals as goal

pub returns-clause-held : goal.returns-clause-held
returns-clause-held c = held

pub returns-clause-bytes : goal.returns-clause-bytes
returns-clause-bytes c = data_bytes

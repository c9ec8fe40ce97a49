use Rattle.rv_codegen_example.proofs.Course.{ends}
use Rattle.rv_codegen_example.proofs.laws.three_bytes_are_sent.Goals as goal

pub returns : goal.returns
returns c = ends

use Rattle.rv_codegen_example.proofs.Course.{takes_longer}
use Rattle.rv_codegen_example.proofs.laws.longer_forms_are_taken.Goals as goal

pub returns : goal.returns
returns c = takes_longer

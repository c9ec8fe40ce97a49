use Rattle.rv_codegen_example.proofs.Premises.{met}
use Rattle.rv_codegen_example.proofs.laws.premises_are_met.Goals as goal

pub returns : goal.returns
returns c = met c.generated_code_follows.ensures

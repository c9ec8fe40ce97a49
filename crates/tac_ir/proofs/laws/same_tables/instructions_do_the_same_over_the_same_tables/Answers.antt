use Rattle.tac_ir.proofs.SameTables.{act_same, called_same, begins_same}
use Rattle.tac_ir.proofs.laws.same_tables.instructions_do_the_same_over_the_same_tables.Goals as goal

pub returns : goal.returns
returns c = record {
  act = λ before after same. act_same same;
  called = λ before after same. called_same same;
  begins = λ before after same. begins_same same;
}

use Rattle.tac_ir.proofs.SameTables.{setting_same, first_same}
use Rattle.tac_ir.proofs.laws.same_tables.runs_begin_the_same_over_the_same_tables.Goals as goal

pub returns : goal.returns
returns c = record {
  setting = λ before after same. setting_same same;
  first = λ before after same. first_same same;
}

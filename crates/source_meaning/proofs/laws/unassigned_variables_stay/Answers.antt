use Rattle.source_meaning.proofs.Stays.{expression_stays, lvalue_stays, calls_stay}
use Rattle.source_meaning.proofs.StaysFlow.{body_stays, declarations_stay}
use Rattle.source_meaning.proofs.laws.unassigned_variables_stay.Goals as goal

pub returns : goal.returns
returns c = record {
  expression = expression_stays;
  lvalue = lvalue_stays;
  statement = body_stays;
  initializers = declarations_stay;
  call = calls_stay;
}

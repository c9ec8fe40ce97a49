use Rattle.check_elim.specs.Available.{IsDroppable}
use Rattle.check_elim.proofs.Rest.{same_but_checks, closed_bodies, kept_variables}
use Rattle.check_elim.proofs.laws.code_without_available_checks_is_laid_out_the_same.Goals as goal

pub returns : goal.returns
returns c = record {
  same = λ t checked r. same_but_checks IsDroppable t checked r;
  closed = λ t r. closed_bodies IsDroppable t r;
  variables = λ t r. kept_variables IsDroppable t r;
}

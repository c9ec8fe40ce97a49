use Rattle.check_elim.proofs.Complement.{open_is_not_available, closed_is_available}
use Rattle.check_elim.proofs.laws.available_is_not_open.Goals as goal

pub returns : goal.returns
returns c = record {
  leads = λ function f n. open_is_not_available function f n;
  closed = λ function f n. closed_is_available function f n;
}

use Rattle.machine_laws.proofs.Calls.Words.{gives_all, takes_all}
use Rattle.machine_laws.proofs.Calls.Lengths.{give_length, take_length}
use Rattle.machine_laws.proofs.laws.calls.arguments_go_through_their_words.Goals as goal

pub returns-clause-given : goal.returns-clause-given
returns-clause-given c = gives_all

pub returns-clause-taken : goal.returns-clause-taken
returns-clause-taken c = takes_all

pub returns-clause-few : goal.returns-clause-few
returns-clause-few c = give_length

pub returns-clause-fewer : goal.returns-clause-fewer
returns-clause-fewer c = take_length

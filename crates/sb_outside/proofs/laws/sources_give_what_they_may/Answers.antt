use Rattle.sb_outside.proofs.Takings.{took, took_first, taken_nothing, taken_more, taken_told, gives_some}
use Rattle.sb_outside.proofs.laws.sources_give_what_they_may.Goals as goal

pub returns : goal.returns
returns c = record {
  call = took;
  first = took_first;
  nothing = taken_nothing;
  together = taken_more;
  told = taken_told;
  some = gives_some;
}

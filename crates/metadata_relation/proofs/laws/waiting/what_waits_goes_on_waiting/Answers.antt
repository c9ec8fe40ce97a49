use Rattle.metadata_relation.proofs.Waiting.{waits_on, waits_left}
use Rattle.metadata_relation.proofs.laws.waiting.what_waits_goes_on_waiting.Goals as goal

pub returns-clause-action : goal.returns-clause-action
returns-clause-action c = λ g k k' s s' m m' l first st st' on lives ends v ws xs h.
    record { by = waits_on g k k' s s' m m' l first st st' on lives ends v ws xs h.by }

pub returns-clause-left : goal.returns-clause-left
returns-clause-left c = λ g k s b l first bound mark own m m' st st' on v ws xs le h.
    record { by = waits_left g k s b l first bound mark own m m' st st' on v ws xs le h.by }

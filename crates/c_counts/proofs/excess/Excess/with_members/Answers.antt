use mathlib.Core.Path.{ap}
use Rattle.c_counts.specs.Excess.{with_counts}
use Rattle.c_counts.proofs.excess.Excess.with_members.Goals as goal

pub returns : goal.returns
unfolding with_counts
returns c = λ cs. ap (λ n. with_counts cs (record c.args.self { members = n })) c.or_above.ensures

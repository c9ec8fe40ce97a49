use Rattle.std.proofs.Common.{ap}
use Rattle.c_const.specs.Contents.{Contents}
use Rattle.source_meaning.proofs.Constants.Statics.{initial_contents_are}
use Rattle.source_meaning.proofs.laws.constants.static_initializers_leave_their_contents.Goals as goal

pub returns : goal.returns
returns c = λ p budgets ps cs mapped at constant n contents e.
    let same = initial_contents_are p budgets ps cs mapped at constant n contents e in
    (ap (λ (x : Contents). x.bytes) same, ap (λ (x : Contents). x.tags) same)

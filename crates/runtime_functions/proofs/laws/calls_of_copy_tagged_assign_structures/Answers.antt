use Rattle.runtime_functions.proofs.CopyCalls.{copy_served}
use Rattle.runtime_functions.proofs.laws.calls_of_copy_tagged_assign_structures.Goals as goal

pub returns : goal.returns
returns g c = λ m mapped p s fn of calls functions types k x vs line ready premise.
    copy_served m mapped g.S.ShadowForm.entry (g.S.ShadowForm.IsGood m) p s fn of calls functions types k x vs line
    ready premise

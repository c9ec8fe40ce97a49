use Rattle.runtime_functions.proofs.PrintCalls.{number_served}
use Rattle.runtime_functions.proofs.laws.calls_of_put_number_put_arguments.Goals as goal

pub returns : goal.returns
returns g c = λ m p s d fn of calls functions types k x v line bytes ready.
    number_served m g.S.ShadowForm.entry (g.S.ShadowForm.IsGood m) p s fn of.routine (record { calls = calls; is = of.is })
    d of.code functions types k x v line bytes ready

use Rattle.runtime_functions.proofs.PrintCalls.{scan_served}
use Rattle.runtime_functions.proofs.laws.calls_of_scan_find_the_end_of_strings.Goals as goal

pub returns : goal.returns
returns g c = λ m p s fn of calls functions types k x v line ready.
    scan_served m g.S.ShadowForm.entry (g.S.ShadowForm.IsGood m) p s fn of.routine (record { calls = calls; is = of.is })
    of.code functions types k x v line ready

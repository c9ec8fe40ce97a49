use Rattle.runtime_functions.proofs.PrintCalls.{put_served}
use Rattle.runtime_functions.proofs.laws.calls_of_put_bytes_put_what_was_scanned.Goals as goal

pub returns : goal.returns
returns g c = λ m p s fn of calls functions types k x a bytes ready.
    put_served m g.S.ShadowForm.entry (g.S.ShadowForm.IsGood m) p s fn of.routine (record { calls = calls; is = of.is })
    of.code functions types k x a bytes ready

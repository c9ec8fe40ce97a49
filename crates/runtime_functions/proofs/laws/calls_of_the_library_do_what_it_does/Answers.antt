use Rattle.runtime_functions.specs.Library.{routine_of}
use Rattle.runtime_functions.proofs.LibraryCalls.{library_served}
use Rattle.runtime_functions.proofs.laws.calls_of_the_library_do_what_it_does.Goals as goal

pub returns : goal.returns
returns g c = λ m set sizes p s f fn of calls functions types k x vs line.
    library_served m g.S.ShadowForm.entry (g.S.ShadowForm.IsGood m) set sizes p s f fn of calls functions types k x vs
    line (c.runs_do_the_same_at_each_line.ensures.routine 1 line set (routine_of f) vs)

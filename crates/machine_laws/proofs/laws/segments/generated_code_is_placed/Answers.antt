use Rattle.machine_laws.proofs.Segments.Placed.{place, placed}
use Rattle.machine_laws.proofs.laws.segments.generated_code_is_placed.Goals as goal

pub returns : goal.returns
returns c = λ m p plans fits.
    (place c.targets_are_met.ensures m p plans fits, placed c.targets_are_met.ensures m p plans fits)

use Rattle.words.proofs.Shifts.{sign_extended_by_shifts, zero_extended_by_shifts}
use Rattle.words.proofs.laws.extension_is_two_shifts.Goals as goal

pub returns : goal.returns
returns c = record { signs = sign_extended_by_shifts; zeros = zero_extended_by_shifts }

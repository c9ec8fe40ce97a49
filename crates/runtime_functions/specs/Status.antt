-- The numbers by which functions of the runtime tell how their routines were left.
use Rattle.std.specs.Prelude.{ℕ, Option, Some, None}
use Rattle.sb_base.specs.declared.ending.Ending.{Ending}
use Rattle.sb_base.specs.declared.ending.Ending.TheVariants as ending
use Rattle.runtime_functions.specs.declared.status.ReturnStatus.{ReturnStatus}
use Rattle.runtime_functions.specs.declared.status.ReturnStatus.TheVariants.{Completed, Spatial, Temporal, BadCall}
use Rattle.runtime_functions.specs.declared.status.ReturnStatus.TheVariants.{BadFree, Divide, Stack, Keys, Abort}

abbrev pub status_number : ReturnStatus → ℕ
status_number Completed = 0
status_number Spatial = 1
status_number Temporal = 2
status_number BadCall = 3
status_number BadFree = 4
status_number Divide = 5
status_number Stack = 6
status_number Keys = 7
status_number Abort = 8

-- the ending that a status tells of a call at a line
abbrev pub ending_at : ReturnStatus → (line : ℕ) → Option Ending
ending_at Completed line = None
ending_at Spatial line = Some (ending.Spatial line)
ending_at Temporal line = Some (ending.Temporal line)
ending_at BadCall line = Some (ending.BadCall line)
ending_at BadFree line = Some (ending.BadFree line)
ending_at Divide line = Some (ending.Divide line)
ending_at Stack line = Some (ending.Stack line)
ending_at Keys line = Some (ending.Keys line)
ending_at Abort line = Some (ending.Abort line)

-- the status that tells an ending, whatever its line
abbrev pub return_status : Ending → Option ReturnStatus
return_status (ending.Exit status) = None
return_status (ending.Spatial line) = Some Spatial
return_status (ending.Temporal line) = Some Temporal
return_status (ending.BadCall line) = Some BadCall
return_status (ending.BadFree line) = Some BadFree
return_status (ending.Divide line) = Some Divide
return_status (ending.Stack line) = Some Stack
return_status (ending.Keys line) = Some Keys
return_status (ending.Abort line) = Some Abort

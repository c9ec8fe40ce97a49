-- Runs of instructions within one call of a function, step by step as the whole run makes them.
use Rattle.std.specs.Prelude.{ℕ, zero, suc, ◌+◌, List, Option, Some, None, slice_get}
use Rattle.flat_code.specs.declared.instruction.FlatInstruction.{FlatInstruction}
use Rattle.flat_code.specs.State.{State}
use Rattle.flat_code.specs.Meaning.{Context, Local, Goes, Ends, Leaves, Fails, local, local_cost}

-- the state with the work of an instruction counted, where it is no call and no return
abbrev pub counted : Context → FlatInstruction → State → State
counted c i s = record s { work = s.work + local_cost c.weight i }

-- the instruction at a place, if there is one
abbrev pub act : Context → Option FlatInstruction → (place : ℕ) → State → Local
act c None pc s = Fails
act c (Some i) pc s = local c i pc (counted c i s)

-- one step; what has left the function, has ended or has failed stays so
abbrev pub local_step : Context → List FlatInstruction → Local → Local
local_step c code (Goes pc s) = act c (slice_get code pc) pc s
local_step c code (Ends status report s) = Ends status report s
local_step c code Leaves = Leaves
local_step c code Fails = Fails

-- so many steps
unfoldable pub local_run : Context → List FlatInstruction → (steps : ℕ) → Local → Local
local_run c code zero l = l
local_run c code (suc n) l = local_run c code n (local_step c code l)

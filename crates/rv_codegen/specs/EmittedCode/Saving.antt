-- What is put for the values that are kept in registers and live behind a call.
use Rattle.std.specs.Prelude.{ℕ, if◌then◌else◌, List, []}
use Rattle.reg_plan.specs.Effects.{is_among, many}
use Rattle.rv_isa.specs.declared.instruction.Instr.{Instr}
use Rattle.machine_laws.specs.Calls.Calls.{Keeping, save_one, restore_one}

-- a value goes to its home, and comes back, unless it is one of so many results from one on
abbrev pub save_unless : Keeping → (into results y : ℕ) → List Instr
save_unless k x n y = if is_among (many x n) y then [] else save_one (k.place y) k.base (k.home y)

abbrev pub restore_unless : Keeping → (into results y : ℕ) → List Instr
restore_unless k x n y = if is_among (many x n) y then [] else restore_one (k.place y) k.base (k.home y)

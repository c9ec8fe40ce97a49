-- Why a file has no typed program (C99 6.9).
use Rattle.std.specs.Prelude.{◌≡◌, ℕ, List, Option, None, Some}
use Rattle.c_syntax.specs.Statements.{External}
use Rattle.c_tree.specs.Programs.{Program}
use Rattle.c_faults.specs.declared.fault.Refusal.{Refusal}
use Rattle.c_faults.specs.declared.fault.Refusal.TheVariants as rules
use Rattle.c_unit_typing.specs.Typed.{TypedUnit, a_fault, a_program, not_constant, too_large, within_limits}
use Rattle.c_programs.specs.Outlines.{Outline, program_in}
use Rattle.c_programs.specs.Rooms.{first_without_room}
use Rattle.c_typer.specs.declared.unit.UnitRefusal.{UnitRefusal}
use Rattle.c_typer.specs.declared.unit.UnitRefusal.TheVariants as refusal

-- for want of memory nothing is claimed
abbrev pub UnlessMemory : UnitRefusal → Type 0 → Type 0
UnlessMemory refusal.Memory Claim = Unit {0}
UnlessMemory (refusal.Fault f) Claim = Claim
UnlessMemory (refusal.NotConstant line) Claim = Claim
UnlessMemory (refusal.TooLarge which n) Claim = Claim
UnlessMemory (refusal.RoomTooLarge k) Claim = Claim

-- a program whose function with a number is the first that takes too much
pub record IsWithoutRoom (number : ℕ) (typed : TypedUnit) : Type 0 where
  pub program : Program
  pub is_program : typed ≡ a_program program
  pub is_first : first_without_room 0 program.functions ≡ Some number

-- what a refusal says of the typing that is defined
abbrev pub IsCauseOf : UnitRefusal → TypedUnit → Type 0
IsCauseOf (refusal.Fault f) typed = typed ≡ a_fault f
IsCauseOf (refusal.NotConstant line) typed = typed ≡ not_constant line
IsCauseOf (refusal.TooLarge which n) typed = typed ≡ too_large which n
IsCauseOf (refusal.RoomTooLarge k) typed = IsWithoutRoom k typed
IsCauseOf refusal.Memory typed = Unit {0}

-- why the program of a file with these external declarations is refused, whatever its functions take; if it is
abbrev pub IsRefused : List External → Outline → Option UnitRefusal → Type 0
IsRefused es o None = within_limits es (program_in o) ≡ a_program (program_in o)
IsRefused es o (Some r) = UnlessMemory r (IsCauseOf r (within_limits es (program_in o)))

abbrev pub refusal_of : Refusal → UnitRefusal
refusal_of (rules.Fault f) = refusal.Fault f
refusal_of rules.Memory = refusal.Memory

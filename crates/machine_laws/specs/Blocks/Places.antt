-- Where the values of a function are kept on the machine.
use Rattle.std.specs.Prelude.{ℕ, ◌+◌, ◌*◌, ◌%◌, ◌^◌, nat_lt, if◌then◌else◌, Option, Some, None, slice_get}
use Rattle.flat_code.specs.declared.function.FlatFunction.{FlatFunction}
use Rattle.reg_plan.specs.declared.plan.Place.{Place}
use Rattle.reg_plan.specs.declared.plan.Place.TheVariants as place
use Rattle.reg_plan.specs.declared.plan.FunctionPlan.{FunctionPlan}
use Rattle.machine_laws.specs.declared.location.Location.{Location}
use Rattle.machine_laws.specs.declared.location.Location.TheVariants.{Register, Frame}

-- The registers that the back end keeps for itself. The first address of the activation record of a function of the
-- program, of the words of arguments, and of the activation record of a function of the runtime.
abbrev pub program_frame : ℕ
program_frame = 2

abbrev pub argument_words : ℕ
argument_words = 3

abbrev pub runtime_frame : ℕ
runtime_frame = 4

-- for operands, for far addresses, and for the address of a function that is called
abbrev pub left_scratch : ℕ
left_scratch = 5

abbrev pub right_scratch : ℕ
right_scratch = 6

abbrev pub address_scratch : ℕ
address_scratch = 7

abbrev pub callee_scratch : ℕ
callee_scratch = 28

-- the saved registers s0 and s1, x8 and x9, and s2 to s10, x18 to x26 (RISC-V ELF psABI, "Integer Register Convention")
abbrev pub saved_register : ℕ → ℕ
saved_register r = (if nat_lt r 2 then 8 + r else 16 + r) % 2 ^ 5

-- the first word of an activation record has the return address; the words behind it are the homes
abbrev pub home_offset : ℕ → ℕ
home_offset w = 8 + 8 * w

abbrev pub home_of : Option ℕ → ℕ
home_of None = home_offset 0
home_of (Some w) = home_offset w

abbrev pub location_at : Option Place → (home : ℕ) → Location
location_at None h = Frame h
location_at (Some place.Home) h = Frame h
location_at (Some (place.Register r)) h = Register (saved_register r)

-- where the home of a virtual register is, and where its value is kept
unfoldable pub home : FlatFunction → ℕ → ℕ
home f y = home_of (slice_get f.homes y)

unfoldable pub location : FlatFunction → FunctionPlan → ℕ → Location
location f plan y = location_at (slice_get plan.places.items y) (home_of (slice_get f.homes y))

-- the register of the first address of its activation record
abbrev pub frame_register : FlatFunction → ℕ
frame_register f = if f.is_runtime then runtime_frame else program_frame

-- Runs of the machine in its environment.
use Rattle.std.specs.Prelude.{ℕ, zero, suc, ◌+◌, ◌-◌, ◌%◌, ◌^◌, ◌==◌, ◌||◌, if◌then◌else◌, List, ◌++◌, drop, Option}
use Rattle.std.specs.Prelude.{Some, None, slice_get, unwrap_or}
use Rattle.behaviours.specs.Shown.{Access}
use Rattle.rv_isa.specs.Registers.{a0, a1, a2, a7}
use Rattle.rv_sim.specs.declared.trap.TrapKind.{TrapKind}
use Rattle.rv_sim.specs.declared.trap.TrapKind.TheVariants as kinds
use Rattle.rv_sim.specs.declared.trap.Action.TheVariants.{Done, Ask, Refuse}
use Rattle.rv_sim.specs.declared.stop.Stop.{Stop}
use Rattle.rv_sim.specs.declared.stop.Stop.TheVariants.{Exited, Trap}
use Rattle.rv_sim.specs.Memory.{store, bytes_at, may_write}
use Rattle.rv_sim.specs.State.{MachineState, register}
use Rattle.rv_sim.specs.Step.{Stepped, step, gives}
use Rattle.rv_sim.specs.Accesses.{object_access}

-- A moment of a run: the machine's state, what is left of the input, and what was shown so far.
pub record Configuration : Type 0 where
  pub state : MachineState
  pub input : List ℕ  -- what is left
  pub output : List ℕ  -- bytes written to descriptor 1
  pub errors : List ℕ  -- bytes written to descriptor 2
  pub taken : ℕ  -- how many bytes of the input were taken
  pub accesses : List Access  -- accesses of objects by compiled code

-- a moment, and how the run ended there, if it did
abbrev pub Turn : Type 0
Turn = Configuration × Option Stop

abbrev pub trapped : Configuration → TrapKind → Turn
trapped c kind = (c, Some (Trap kind c.state.pc))

-- The environment call: its number is in a7, its arguments are in a0, a1 and a2, and its result goes to a0 (System V
-- ABI
-- for RISC-V, "Integer Calling Convention"; the numbers are those of Linux).

-- -9, for a descriptor that the call does not know
abbrev pub bad_descriptor : ℕ
bad_descriptor = 2 ^ 64 - 9

abbrev pub answered : Configuration → ℕ → Turn
answered c v = (record c { state = (gives c.state a0 v).0 }, None)

-- read(descriptor, buffer, length) takes one byte of the input, at its end none
abbrev pub with_byte : MachineState → ℕ → ℕ → MachineState
with_byte s a byte = record s { memory = unwrap_or (store s.memory a 1 byte) s.memory }

abbrev pub received : Configuration → Option ℕ → Turn
received c None = answered c 0
received c (Some byte) =
    answered (record c {
      state = with_byte c.state (register c.state a1) byte;
      input = drop 1 c.input;
      taken = c.taken
          + 1;
    }) 1

unfoldable pub read_call : Configuration → Turn
read_call c =
    if register c.state a0 == 0 then (
    if register c.state a2 == 0 then answered c 0 else (
    if may_write c.state.memory (register c.state a1) (register c.state a2)
    then received c (slice_get c.input 0)
    else trapped c kinds.Access))
    else answered c bad_descriptor

-- write(descriptor, buffer, length) writes all of the buffer
abbrev pub sent : Configuration → Option (List ℕ) → Turn
sent c None = trapped c kinds.Access
sent c (Some bytes) =
    if register c.state a0 == 1
    then answered (record c { output = c.output ++ bytes }) (register c.state a2)
    else answered (record c { errors = c.errors ++ bytes }) (register c.state a2)

unfoldable pub write_call : Configuration → Turn
write_call c =
    if register c.state a0 == 1 || register c.state a0 == 2 then (
    if register c.state a2 == 0 then answered c 0 else
    sent c (bytes_at c.state.memory (register c.state a1) (register c.state a2)))
    else answered c bad_descriptor

-- exit(status)
abbrev pub exited : Configuration → Turn
exited c = (c, Some (Exited (register c.state a0 % 256)))

unfoldable pub calls : Configuration → Turn
calls c =
    if register c.state a7 == 63 then read_call c else (
    if register c.state a7 == 64 then write_call c else (
    if register c.state a7 == 93 then exited c else trapped c kinds.Call))

-- one instruction, with what it asks of the environment
abbrev pub turned : Configuration → Stepped → Turn
turned c (s, Done) = (record c { state = s; accesses = c.accesses ++ object_access c.state }, None)
turned c (s, Ask) = calls c
turned c (s, Refuse kind) = trapped c kind

unfoldable pub turn : Configuration → Turn
turn c = turned c (step c.state)

-- one more, unless the run has ended
abbrev pub onwards : Turn → Turn
onwards (c, None) = turn c
onwards (c, Some stop) = (c, Some stop)

-- at most n instructions
unfoldable pub runs : ℕ → Configuration → Turn
runs zero c = (c, None)
runs (suc n) c = onwards (runs n c)

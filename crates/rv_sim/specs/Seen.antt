-- What a run of the machine leaves in its state and in the outside, told by the run's definition.
use Rattle.std.specs.Prelude.{◌≡◌, ℕ, ◌<◌, ◌⊎◌, true, List, ◌++◌, Option, Some, None}
use Rattle.sb_outside.specs.Content.{gained}
use Rattle.sb_outside.specs.Faults.{Rose}
use Rattle.rv_sim.specs.declared.trap.Action.TheVariants.{Ask}
use Rattle.rv_sim.specs.declared.stop.Stop.{Stop}
use Rattle.rv_sim.specs.declared.stop.Stop.TheVariants.{Exited, Trap, Limit, InputFault, OutputFault}
use Rattle.rv_sim.specs.Memory.{bytes_at, may_write}
use Rattle.rv_sim.specs.State.{MachineState, register}
use Rattle.rv_sim.specs.Step.{step}
use Rattle.rv_isa.specs.Registers.{a0, a1, a2, a7}
use Rattle.rv_sim.specs.Run.{Configuration, runs, calls}

-- The state, the rest of the input and what the two sinks have taken are those of a moment, where o and e are what the
-- sinks had taken when nothing was shown. A sink that does not tell its content is None throughout.
pub record IsSeen (o e : Option (List ℕ)) (state : MachineState) (rest : List ℕ) (output errors : Option (List ℕ))
    (machine : Configuration) : Type 0 where
  pub state_is : state ≡ machine.state
  pub rest_is : rest ≡ machine.input
  pub output_is : output ≡ gained o machine.output
  pub errors_is : errors ≡ gained e machine.errors

-- Of the bytes that were wanted behind those shown a sink has the first: kept, and not lost.
pub record KeepsPart (told : Option (List ℕ)) (shown wanted : List ℕ) (now : Option (List ℕ)) : Type 0 where
  pub kept : List ℕ
  pub lost : List ℕ
  pub parts : wanted ≡ shown ++ (kept ++ lost)
  pub keeps : now ≡ gained told (shown ++ kept)

-- A sink failed in an environment call at the moment c: the machine and the input stand as at c, and each sink has the
-- first of the bytes that the call sends.
pub record IsCut (o e : Option (List ℕ)) (state : MachineState) (rest : List ℕ) (output errors : Option (List ℕ))
    (machine : Configuration) : Type 0 where
  pub state_is : state ≡ machine.state
  pub rest_is : rest ≡ machine.input
  pub output_part : KeepsPart o machine.output (calls machine).0.output output
  pub errors_part : KeepsPart e machine.errors (calls machine).0.errors errors

-- the next instruction is an environment call
abbrev pub Asks : MachineState → Type 0
Asks s = step s ≡ (s, Ask)

-- The outside failed after k instructions, fewer than the limit, at an environment call.
pub record IsFaultAt (limit : ℕ) (machine : Configuration) (state : MachineState) (k : ℕ) (Left : Type 0) : Type 0 where
  pub within : k < limit
  pub goes : (runs k machine).1 ≡ None
  pub asks : Asks state
  pub left : Left

-- what a run of at most so many instructions from the moment c answers, and what it leaves
abbrev pub IsRun : (o e : Option (List ℕ)) → Stop → ℕ → Configuration → MachineState → (rest : List ℕ)
    → (output errors : Option (List ℕ)) → Type 0
IsRun o e InputFault limit c state rest output errors =
    (k : ℕ) × IsFaultAt limit c state k (IsSeen o e state rest output errors (runs k c).0)
IsRun o e OutputFault limit c state rest output errors =
    (k : ℕ) × IsFaultAt limit c state k (IsCut o e state rest output errors (runs k c).0)
IsRun o e Limit limit c state rest output errors =
    ((runs limit c).1 ≡ None) × IsSeen o e state rest output errors (runs limit c).0
IsRun o e (Exited status) limit c state rest output errors =
    ((runs limit c).1 ≡ Some (Exited status)) × IsSeen o e state rest output errors (runs limit c).0
IsRun o e (Trap kind pc) limit c state rest output errors =
    ((runs limit c).1 ≡ Some (Trap kind pc)) × IsSeen o e state rest output errors (runs limit c).0

-- I where the input failed, O where a sink did, and else P
abbrev pub ByFault : Option Stop → Type 0 → Type 0 → Type 0 → Type 0
ByFault (Some InputFault) I O P = I
ByFault (Some OutputFault) I O P = O
ByFault None I O P = P
ByFault (Some Limit) I O P = P
ByFault (Some (Exited status)) I O P = P
ByFault (Some (Trap kind pc)) I O P = P

-- the call asks for a byte of the input: a read of descriptor 0, of at least one byte, all of which may be written
pub record AsksInput (state : MachineState) : Type 0 where
  pub number : register state a7 ≡ 63
  pub descriptor : register state a0 ≡ 0
  pub some : 0 < register state a2
  pub buffer : may_write state.memory (register state a1) (register state a2) ≡ true

-- the call sends bytes to a sink: a write to this descriptor, of at least one byte, all of which may be read
pub record SendsTo (descriptor : ℕ) (state : MachineState) : Type 0 where
  pub number : register state a7 ≡ 64
  pub descriptor_is : register state a0 ≡ descriptor
  pub some : 0 < register state a2
  pub bytes : List ℕ
  pub buffer : bytes_at state.memory (register state a1) (register state a2) ≡ Some bytes

-- InputFault comes of a call that asks for a byte of the input, and the input's count of faults rose with it; it stands
-- else
abbrev pub CountsInput : Option Stop → MachineState → ℕ → ℕ → Type 0
CountsInput result s before now = ByFault result (AsksInput s × Rose before now) (now ≡ before) (now ≡ before)

-- OutputFault comes of a call that sends bytes to a sink, and that sink's count of faults rose with it; that of the
-- other
-- stands, and both stand else
abbrev pub CountsOutput : Option Stop → MachineState → (output output_now errors errors_now : ℕ) → Type 0
CountsOutput result s output output_now errors errors_now =
    ByFault result
    ((output_now ≡ output) × (errors_now ≡ errors))
    ((SendsTo 1 s × Rose output output_now × (errors_now ≡ errors))
    ⊎ (SendsTo 2 s × (output_now ≡ output) × Rose errors errors_now))
    ((output_now ≡ output) × (errors_now ≡ errors))

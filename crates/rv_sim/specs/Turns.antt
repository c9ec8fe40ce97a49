-- What one instruction, and what an environment call, leave in the state and in the outside.
use Rattle.std.specs.Prelude.{◌≡◌, ℕ, List, Option}
use Rattle.sb_outside.specs.Content.{gained}
use Rattle.rv_sim.specs.declared.stop.Stop.{Stop}
use Rattle.rv_sim.specs.State.{MachineState}
use Rattle.rv_sim.specs.Run.{Configuration, Turn, turn, calls, read_call, write_call}
use Rattle.rv_sim.specs.Seen.{IsSeen, IsCut, KeepsPart, Asks, ByFault}

-- a call to read, or to write, came to t, and leaves the rest of the moment c
pub record IsRead (result : Option Stop) (turn : Turn) (state : MachineState) (rest : List ℕ)
    (machine : Configuration) : Type
    0 where
  pub stop_is : result ≡ turn.1
  pub state_is : state ≡ turn.0.state
  pub rest_is : rest ≡ turn.0.input
  pub output_stays : turn.0.output ≡ machine.output
  pub errors_stay : turn.0.errors ≡ machine.errors

pub record IsWritten (o e : Option (List ℕ)) (result : Option Stop) (turn : Turn) (state : MachineState)
    (output errors : Option (List ℕ)) (machine : Configuration) : Type 0 where
  pub stop_is : result ≡ turn.1
  pub state_is : state ≡ turn.0.state
  pub output_is : output ≡ gained o turn.0.output
  pub errors_is : errors ≡ gained e turn.0.errors
  pub input_stays : turn.0.input ≡ machine.input

-- the same where the outside may have failed
abbrev pub ReadOrFault : Option Stop → Configuration → MachineState → List ℕ → Type 0
ReadOrFault result c state rest =
    ByFault result ((state ≡ c.state) × (rest ≡ c.input)) ⊥ (IsRead result (read_call c) state rest c)

abbrev pub WrittenOrFault : (o e : Option (List ℕ)) → Option Stop → Configuration → MachineState
    → (output errors : Option (List ℕ)) → Type 0
WrittenOrFault o e result c state output errors =
    ByFault result ⊥
    ((state ≡ c.state) × KeepsPart o c.output (write_call c).0.output output
    × KeepsPart e c.errors (write_call c).0.errors errors)
    (IsWritten o e result (write_call c) state output errors c)

-- an environment call at the moment c
abbrev pub CalledOrFault : (o e : Option (List ℕ)) → Option Stop → Configuration → MachineState → (rest : List ℕ)
    → (output errors : Option (List ℕ)) → Type 0
CalledOrFault o e result c state rest output errors =
    ByFault result
    (IsSeen o e state rest output errors c)
    (IsCut o e state rest output errors c)
    ((result ≡ (calls c).1) × IsSeen o e state rest output errors (calls c).0)

-- an instruction at the moment c, in the state before
abbrev pub TurnedOrFault : (o e : Option (List ℕ)) → Option Stop → Configuration → (before state : MachineState)
    → (rest : List ℕ) → (output errors : Option (List ℕ)) → Type 0
TurnedOrFault o e result c before state rest output errors =
    ByFault result
    (Asks before × IsSeen o e state rest output errors c)
    (Asks before × IsCut o e state rest output errors c)
    ((result ≡ (turn c).1) × IsSeen o e state rest output errors (turn c).0)

-- a fault of the outside leaves the state
abbrev pub FaultKeeps : Option Stop → (old new : MachineState) → Type 0
FaultKeeps result old new = ByFault result (new ≡ old) (new ≡ old) (Unit {0})

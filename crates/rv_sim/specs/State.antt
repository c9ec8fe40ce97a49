-- The state of the machine: the address of the next instruction, the registers x0 to x31, and memory.
use Rattle.std.specs.Prelude.{ℕ, ◌==◌, if◌then◌else◌, List, slice_index, slice_set}
use Rattle.rv_sim.specs.Memory.{SegmentState}

pub record MachineState : Type 0 where
  pub pc : ℕ
  pub registers : List ℕ
  pub memory : List SegmentState

-- x0 reads as zero, and what is written to it is dropped
abbrev pub register : MachineState → ℕ → ℕ
register s r = if r == 0 then 0 else slice_index s.registers r

abbrev pub with_register : List ℕ → ℕ → ℕ → List ℕ
with_register registers r v = if r == 0 then registers else slice_set registers r v

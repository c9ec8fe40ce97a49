-- A small run, computed: what the definitions say of accesses and of bytes taken, which no run of the code can show.
use Rattle.std.proofs.Common.{◌≡◌, ℕ, true, false, List, [], ◌∷◌, ◌++◌, None, refl}
use Rattle.std.specs.Prelude.{replicate}
use Rattle.behaviours.specs.Shown.{Read, Write}
use Rattle.rv_isa.specs.Decoding.{decoded, by_opcode, load_of, store_of, load_at, store_at, system_of}
use Rattle.rv_sim.specs.Memory.{SegmentState, place_of, load, fetch, store, may_write}
use Rattle.rv_sim.specs.State.{MachineState}
use Rattle.rv_sim.specs.Step.{step, executes, gives, loads, stores}
use Rattle.rv_isa.specs.Results.{extended}
use Rattle.rv_sim.specs.Accesses.{next_access, object_access}
use Rattle.rv_sim.specs.Run.{turn, runs, calls, read_call}
use Rattle.rv_sim.specs.Behaviour.{begun}

executable_segment : ℕ → List ℕ → SegmentState
executable_segment address bytes = record
    { address = address; bytes = bytes; readable = false; writable = false; executable = true }

objects_segment : ℕ → SegmentState
objects_segment address = record
    { address = address; bytes = replicate 16 0; readable = true; writable = true; executable = false }

-- lui x7, 0x10000; sd x0, 8(x7); lbu x5, 9(x7)
code : List ℕ
code = 0xb7 ∷ 0x03 ∷ 0x00 ∷ 0x10 ∷ 0x23 ∷ 0xb4 ∷ 0x03 ∷ 0x00 ∷ 0x83 ∷ 0xc2 ∷ 0x93 ∷ 0x00 ∷ []

-- the code where compiled code stands
compiled : MachineState
compiled = record {
  pc = 0x100000;
  registers = replicate 32 0;
  memory = executable_segment 0x10000 (replicate 4 0) ∷ executable_segment 0x100000 code ∷ objects_segment 0x10000000
      ∷ [];
}

-- the code below
not_compiled : MachineState
not_compiled = record {
  pc = 0x10000;
  registers = replicate 32 0;
  memory = executable_segment 0x10000 code ∷ executable_segment 0x200000 (replicate 4 0) ∷ objects_segment 0x10000000
      ∷ [];
}

accesses-compiled : (runs 3 (begun compiled [])).0.accesses ≡ record { address = 0x10000008; size = 8; kind = Write }
    ∷ record { address = 0x10000009; size = 1; kind = Read } ∷ []
unfolding executable_segment objects_segment code compiled runs turn step executes gives loads stores extended place_of
    load fetch store next_access object_access decoded by_opcode load_of store_of load_at store_at
accesses-compiled = refl

accesses-not_compiled : (runs 3 (begun not_compiled [])).0.accesses ≡ []
unfolding executable_segment objects_segment code not_compiled runs turn step executes gives loads stores extended
    place_of load fetch store next_access object_access decoded by_opcode load_of store_of load_at store_at
accesses-not_compiled = refl

goes-compiled : (runs 3 (begun compiled [])).1 ≡ None
unfolding executable_segment objects_segment code compiled runs turn step executes gives loads stores extended place_of
    load fetch store next_access object_access decoded by_opcode load_of store_of load_at store_at
goes-compiled = refl

-- a call to read one byte, and then the end of the input
reading : MachineState
reading = record {
  pc = 0x100000;
  registers = replicate 10 0 ++ (0 ∷ 0x10000000 ∷ 1 ∷ replicate 4 0) ++ (63 ∷ replicate 14 0);
  memory = executable_segment 0x100000 (0x73 ∷ 0 ∷ 0 ∷ 0 ∷ 0x73 ∷ 0 ∷ 0 ∷ 0 ∷ []) ∷ objects_segment 0x10000000 ∷ [];
}

taken-reading : (runs 1 (begun reading (7 ∷ 8 ∷ []))).0.taken ≡ 1
unfolding executable_segment objects_segment reading runs turn step executes gives place_of fetch store may_write calls
    read_call decoded by_opcode system_of
taken-reading = refl

input-reading : (runs 1 (begun reading (7 ∷ 8 ∷ []))).0.input ≡ 8 ∷ []
unfolding executable_segment objects_segment reading runs turn step executes gives place_of fetch store may_write calls
    read_call decoded by_opcode system_of
input-reading = refl

taken-end : (runs 1 (begun reading [])).0.taken ≡ 0
unfolding executable_segment objects_segment reading runs turn step executes gives place_of fetch store may_write calls
    read_call decoded by_opcode system_of
taken-end = refl

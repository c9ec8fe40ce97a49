-- When a machine is where a run of flat code is.
use Rattle.std.specs.Prelude.{◌≡◌, ℕ, ◌+◌, ◌-◌, ◌*◌, ◌<◌, ◌≤◌, ◌⊎◌, Bool, true, false, List, [], ◌∷◌, length}
use Rattle.std.specs.Prelude.{Some}
use Rattle.addr_map.specs.Places.{MapSizes, region_start, region_end, region_size, objects_begin, spaces_begin}
use Rattle.addr_map.specs.declared.region.Region.TheVariants.{Heap, Cells, Arguments, Calls, RuntimeCalls}
use Rattle.rv_sim.specs.declared.stop.Stop.TheVariants.{Exited}
use Rattle.rv_sim.specs.Run.{Configuration, Turn}
use Rattle.machine_laws.specs.View.Views.{View, Layout, Shows}
use Rattle.flat_code.specs.declared.instruction.FlatInstruction.{FlatInstruction}
use Rattle.flat_code.specs.declared.function.FlatProgram.{FlatProgram}
use Rattle.flat_code.specs.Memory.{Bytes, load}
use Rattle.flat_code.specs.State.{State, Frame}
use Rattle.flat_code.specs.Calls.{function_in, room_if, rooms}
use Rattle.flat_code.specs.Meaning.{instruction_at, is_runtime_function, results_of}
use Rattle.reg_plan.specs.declared.plan.FunctionPlan.{FunctionPlan}
use Rattle.reg_plan.specs.Effects.{is_among, many}
use Rattle.machine_laws.specs.Blocks.Effects.{kept}
use Rattle.machine_laws.specs.Following.Code.{keeping, CallShape, shape_of, call_part}

-- the bytes of the two data segments: object space, and the runtime's spaces with the words of arguments and the
-- activation records
abbrev pub object_bytes : MapSizes → ℕ
object_bytes m = region_end m Heap - objects_begin

abbrev pub space_bytes : MapSizes → ℕ
space_bytes m = region_end m RuntimeCalls - spaces_begin

-- a byte that flat code may use
abbrev pub IsOfFlat : MapSizes → (address : ℕ) → Type 0
IsOfFlat m a = ((objects_begin ≤ a) × (a < region_end m Heap)) ⊎ ((spaces_begin ≤ a) × (a < region_end m Cells))

-- Where the activation record of a function begins: behind those that wait, of functions of the program and of the
-- runtime apart. Those of the program have twice the bytes that are charged.
abbrev pub top_of : MapSizes → FlatProgram → (runtime : Bool) → List Frame → ℕ
top_of m p false frames = region_start m Calls + 2 * rooms false p frames
top_of m p true frames = region_start m RuntimeCalls + rooms true p frames

abbrev pub record_of : MapSizes → FlatProgram → (function : ℕ) → List Frame → ℕ
record_of m p f frames = top_of m p (is_runtime_function (function_in p f)) frames

-- The record x waits under a function f: its next instruction is behind a call that gives as many results as f
-- does, the
-- first word of the record of f has the address where f comes back to, and what is live there and no result stands in
-- its home.
pub record Waits (map : MapSizes) (program : FlatProgram) (plans : List FunctionPlan) (address : (function pc : ℕ) → ℕ)
    (f : ℕ) (frame : Frame) (xs : List Frame) (memory : Bytes) : Type 0 where
  pub place : ℕ
  pub next_is : frame.next ≡ place + 1
  pub call : FlatInstruction
  pub at : instruction_at program frame.function place ≡ Some call
  pub shape : CallShape
  pub shape_is : shape_of program (keeping program plans frame.function) call ≡ Some shape
  pub into_is : shape.into ≡ frame.into
  pub results_are : shape.results ≡ results_of (function_in program f)
  pub returns : load 8 memory (record_of map program f (frame ∷ xs))
      ≡ address frame.function place + 4 * length (call_part (keeping program plans frame.function) place shape)
  pub held : (y : ℕ) → (keeping program plans frame.function).live frame.next y ≡ true
      → is_among (many shape.into shape.results) y ≡ false
      → load 8 memory (record_of map program frame.function xs +
      (keeping program plans frame.function).home y) ≡ frame.values y

abbrev pub Wait : MapSizes → FlatProgram → List FunctionPlan → (address : (function pc : ℕ) → ℕ) → (f : ℕ)
    → List Frame → (memory : Bytes) → Type 0
Wait m p plans address f [] memory = Unit {0}
Wait m p plans address f (x ∷ xs) memory =
    Waits m p plans address f x xs memory × Wait m p plans address x.function xs memory

-- Registers and memory are those of a run at an instruction of a function: the back end's registers have their
-- addresses, the records fit their regions, what is live is kept in its place, and memory that flat code may use is its
-- memory.
pub record IsAt (map : MapSizes) (program : FlatProgram) (plans : List FunctionPlan) (address : (function pc : ℕ) → ℕ)
    (f pc : ℕ) (state : State) (frames : List Frame) (view : View) : Type 0 where
  pub zero_is : view.registers 0 ≡ 0
  pub program_top : view.registers 2 ≡ top_of map program false frames
  pub arguments : view.registers 3 ≡ region_start map Arguments
  pub runtime_top : view.registers 4 ≡ top_of map program true frames
  pub program_fits : room_if false (function_in program f) + rooms false program frames ≤ map.budgets.calls
  pub runtime_fits : room_if true (function_in program f) + rooms true program frames ≤ region_size map RuntimeCalls
  pub held : (y : ℕ) → (keeping program plans f).live pc y ≡ true
      → kept (record_of map program f frames) view ((keeping program plans f).place y) ≡ state.values y
  pub same : (a : ℕ) → IsOfFlat map a → view.memory a ≡ state.memory a
  pub wait : Wait map program plans address f frames view.memory

-- what was shown and what is left of the input are the same
pub record ShowsSame (machine : Configuration) (state : State) : Type 0 where
  pub input : machine.input ≡ state.input
  pub output : machine.output ≡ state.output
  pub errors : machine.errors ≡ []
  pub taken : machine.taken ≡ state.taken

-- a configuration of the machine is where the run stands
pub record Meets (map : MapSizes) (program : FlatProgram) (plans : List FunctionPlan) (layout : Layout)
    (address : (function pc : ℕ) → ℕ) (f pc : ℕ) (state : State) (frames : List Frame)
    (machine : Configuration) : Type 0 where
  pub view : View
  pub shows : Shows layout machine view
  pub pc_is : view.pc ≡ address f pc
  pub is_at : IsAt map program plans address f pc state frames view
  pub accesses : view.accesses ≡ state.accesses
  pub outside : ShowsSame machine state

-- it has ended as the run has
pub record HasEnded (status : ℕ) (report : List ℕ) (state : State) (turn : Turn) : Type 0 where
  pub ending : turn.1 ≡ Some (Exited status)
  pub output : turn.0.output ≡ state.output
  pub errors : turn.0.errors ≡ report
  pub taken : turn.0.taken ≡ state.taken
  pub accesses : turn.0.accesses ≡ state.accesses

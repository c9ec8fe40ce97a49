-- What flat code does, step by step.
use Rattle.std.specs.Prelude.{ℕ, ◌+◌, ◌-◌, ◌*◌, ◌%◌, ◌^◌, Bool, true, false, not, ◌&&◌, ◌==◌, nat_le, if◌then◌else◌}
use Rattle.std.specs.Prelude.{List, [], ◌∷◌, ◌++◌, drop, length, Option, Some, None, slice_get}
use Rattle.words.specs.TwosComplement.{low_bits}
use Rattle.rv_isa.specs.declared.instruction.LoadOp.{LoadOp}
use Rattle.rv_isa.specs.declared.instruction.StoreOp.{StoreOp}
use Rattle.rv_isa.specs.Results.{wrap, low_word, branch_taken, reg_result, reg32_result, load_bytes, extended}
use Rattle.rv_isa.specs.Results.{store_bytes}
use Rattle.sb_base.specs.Endings.{code_of, report_of}
use Rattle.behaviours.specs.Shown.{AccessKind, Read, Write}
use Rattle.behaviours.specs.Behaviour.{Behaviour}
use Rattle.behaviours.specs.Steps.{seen_after}
use Rattle.addr_map.specs.declared.region.Region.TheVariants.{RuntimeCalls}
use Rattle.addr_map.specs.Places.{MapSizes, region_size}
use Rattle.flat_code.specs.declared.instruction.RightOperand.{RightOperand}
use Rattle.flat_code.specs.declared.instruction.RightOperand.TheVariants.{Register, Number}
use Rattle.flat_code.specs.declared.instruction.FlatInstruction.{FlatInstruction}
use Rattle.flat_code.specs.declared.instruction.FlatInstruction.TheVariants.{Constant, Move, Operate, Operate32}
use Rattle.flat_code.specs.declared.instruction.FlatInstruction.TheVariants.{Load, Store, Branch, JumpForward}
use Rattle.flat_code.specs.declared.instruction.FlatInstruction.TheVariants.{JumpBack, Turn, Call, CallAddress}
use Rattle.flat_code.specs.declared.instruction.FlatInstruction.TheVariants.{Return, Get, Put, Exit, End, Charged}
use Rattle.flat_code.specs.declared.function.FlatFunction.{FlatFunction}
use Rattle.flat_code.specs.declared.function.FlatProgram.{FlatProgram}
use Rattle.flat_code.specs.Memory.{Bytes, put, load, store}
use Rattle.flat_code.specs.Spaces.{is_of_objects, is_allowed}
use Rattle.flat_code.specs.State.{Values, State, Frame, Stage, Stands, Over, Stuck, seen}
use Rattle.flat_code.specs.Calls.{function_in, record_bytes, room_if, rooms, charged, arguments, with_results}
use Rattle.flat_code.specs.Calls.{function_at}

-- ---- instructions that stay in their function

-- what they depend on: the map of the memory, whether the function is one of the runtime, the bytes that are charged,
-- and what an instruction weighs
pub record Context : Type 0 where
  pub sizes : MapSizes
  pub is_runtime : Bool
  pub charge : ℕ
  pub weight : ℕ

-- Where they lead: to a place of the function, to the end of the run with a status and a report, out of the function by
-- a
-- call or a return, or to where nothing comes.
pub data Local : Type 0 where
  Goes : (place : ℕ) → (s : State) → Local
  Ends : (status : ℕ) → (report : List ℕ) → (s : State) → Local
  Leaves : Local
  Fails : Local

abbrev pub right_value : RightOperand → Values → ℕ
right_value (Register x) values = values x
right_value (Number n) values = low_bits 64 n

abbrev pub with_register : (into value : ℕ) → State → State
with_register x v s = record s { values = put s.values x v }

-- an access of object space by a function of the program is shown
abbrev pub with_access : Context → (address size : ℕ) → AccessKind → State → State
with_access c a n kind s =
    if not c.is_runtime && is_of_objects c.sizes a n
    then record s { accesses = s.accesses ++ record { address = a; size = n; kind = kind } ∷ [] }
    else s

abbrev pub address_in : State → (at offset : ℕ) → ℕ
address_in s x offset = wrap (s.values x + offset)

-- a load and a store: of bytes that may be used
abbrev pub loads : Context → LoadOp → (into address place : ℕ) → State → Local
loads c op x a pc s =
    if is_allowed c.sizes a (load_bytes op)
    then Goes (pc + 1) (with_register x (extended op (load (load_bytes op) s.memory a))
    (with_access c a (load_bytes op) Read s))
    else Fails

abbrev pub stores : Context → StoreOp → (address value place : ℕ) → State → Local
stores c op a v pc s =
    if is_allowed c.sizes a (store_bytes op)
    then Goes (pc + 1)
    (with_access c a (store_bytes op) Write (record s { memory = store (store_bytes op) s.memory a v }))
    else Fails

-- a byte of the input, or -1 at its end
abbrev pub received : (into : ℕ) → Option ℕ → State → State
received x None s = with_register x (2 ^ 64 - 1) s
received x (Some byte) s = record (with_register x (byte % 256) s) { input = drop 1 s.input; taken = s.taken + 1 }

abbrev pub local : Context → FlatInstruction → (place : ℕ) → State → Local
local c (Constant x n) pc s = Goes (pc + 1) (with_register x (low_bits 64 n) s)
local c (Move x y) pc s = Goes (pc + 1) (with_register x (s.values y) s)
local c (Operate op x y z) pc s = Goes (pc + 1)
    (with_register x (reg_result op (s.values y) (right_value z s.values)) s)
local c (Operate32 op x y z) pc s =
    Goes (pc + 1) (with_register x (reg32_result op (low_word (s.values y)) (low_word (right_value z s.values))) s)
local c (Load op x y offset) pc s = loads c op x (address_in s y offset) pc s
local c (Store op y offset x) pc s = stores c op (address_in s y offset) (s.values x) pc s
local c (Branch op y z past) pc s =
    Goes (if branch_taken op (s.values y) (right_value z s.values) then pc + 1 + past else pc + 1) s
local c (JumpForward past) pc s = Goes (pc + 1 + past) s
local c (JumpBack back) pc s = Goes (pc - back) s
local c Turn pc s = Goes (pc + 1) (record s { turns = s.turns + 1 })
local c (Call f first x) pc s = Leaves
local c (CallAddress y first n x m) pc s = Leaves
local c (Return y) pc s = Leaves
local c (Get x) pc s = Goes (pc + 1) (received x (slice_get s.input 0) s)
local c (Put x) pc s = Goes (pc + 1) (record s { output = s.output ++ s.values x % 256 ∷ [] })
local c (Exit x) pc s = Ends (s.values x % 256) [] s
local c (End e) pc s = Ends (code_of e) (report_of e) s
local c (Charged x) pc s = Goes (pc + 1) (with_register x (wrap c.charge) s)

-- ---- calls and returns

-- whether the records fit with one more: those of the program the budget, those of the runtime their region
abbrev pub has_room : MapSizes → FlatProgram → List Frame → FlatFunction → Bool
has_room m p frames callee =
    nat_le (room_if false (Some callee) + rooms false p frames) m.budgets.calls
    && nat_le (room_if true (Some callee) + rooms true p frames) (region_size m RuntimeCalls)

-- a call is stuck where there is no such function, it takes or gives another number of values, or there is no room
abbrev pub enters : MapSizes → FlatProgram → (function first count results : ℕ) → Option FlatFunction
    → (frames : List Frame) → State → Stage
enters m p f first n r None frames s = Stuck
enters m p f first n r (Some callee) frames s =
    if (callee.parameters == n) && ((callee.results == r) && has_room m p frames callee)
    then Stands f 0 (record s { values = arguments first n s.values }) frames
    else Stuck

abbrev pub parameters_of : Option FlatFunction → ℕ
parameters_of None = 0
parameters_of (Some f) = f.parameters

abbrev pub results_of : Option FlatFunction → ℕ
results_of None = 0
results_of (Some f) = f.results

abbrev pub enters_at : MapSizes → FlatProgram → (callee : Option ℕ) → (first count results : ℕ) → (frames : List Frame)
    → State → Stage
enters_at m p None first n r frames s = Stuck
enters_at m p (Some f) first n r frames s = enters m p f first n r (function_in p f) frames s

abbrev pub returns : (results from : ℕ) → List Frame → State → Stage
returns n y [] s = Stuck
returns n y (x ∷ xs) s =
    Stands x.function x.next (record s { values = with_results x.into n s.values y x.values }) xs

abbrev pub waiting : (function place into : ℕ) → State → Frame
waiting f pc x s = record { function = f; next = pc + 1; into = x; values = s.values }

abbrev pub leaves : MapSizes → FlatProgram → FlatInstruction → (function place : ℕ) → State → List Frame → Stage
leaves m p (Call g first x) f pc s frames =
    enters m p g first (parameters_of (function_in p g)) (results_of (function_in p g)) (function_in p g)
    (waiting f pc x s ∷ frames) s
leaves m p (CallAddress y first n x r) f pc s frames =
    enters_at m p (function_at p (s.values y)) first n r (waiting f pc x s ∷ frames) s
leaves m p (Return y) f pc s frames = returns (results_of (function_in p f)) y frames s
leaves m p _ f pc s frames = Stuck

-- ---- steps

-- An instruction weighs twice as much where the activation record of its function passes what the offsets of loads and
-- stores reach (RISC-V unprivileged ISA manual, 2.6: 12 bits with a sign).
abbrev pub weight_of : Option FlatFunction → ℕ
weight_of None = 1
weight_of (Some f) = if nat_le (record_bytes f) (2 ^ 11) then 1 else 2

-- what an instruction that is no call and no return counts as work: its weight, twice for a byte of the input or the
-- output, and once more for each byte of a report
abbrev pub local_cost : (weight : ℕ) → FlatInstruction → ℕ
local_cost w (Get x) = 2 * w
local_cost w (Put x) = 2 * w
local_cost w (End e) = w * (1 + length (report_of e))
local_cost w _ = w

-- what an instruction counts as work: a call and a return for the registers that wait, and twice for each value that
-- is handed over
abbrev pub cost : FlatProgram → (function : ℕ) → FlatInstruction → ℕ
cost p f (Call g first x) = 8 + 2 * parameters_of (function_in p g)
cost p f (CallAddress y first n x r) = 8 + 2 * n
cost p f (Return y) = 8 + 2 * results_of (function_in p f)
cost p f i = local_cost (weight_of (function_in p f)) i

abbrev pub goes_to : MapSizes → FlatProgram → FlatInstruction → (function place : ℕ) → State → List Frame → Local
    → Stage
goes_to m p i f pc s frames (Goes q s') = Stands f q s' frames
goes_to m p i f pc s frames (Ends status report s') = Over status report s'
goes_to m p i f pc s frames Leaves = leaves m p i f pc s frames
goes_to m p i f pc s frames Fails = Stuck

abbrev pub body_of : Option FlatFunction → List FlatInstruction
body_of None = []
body_of (Some f) = f.body

abbrev pub is_runtime_function : Option FlatFunction → Bool
is_runtime_function None = false
is_runtime_function (Some f) = f.is_runtime

abbrev pub context : MapSizes → FlatProgram → (function : ℕ) → List Frame → Context
context m p f frames = record {
  sizes = m;
  is_runtime = is_runtime_function (function_in p f);
  charge = charged p f frames;
  weight = weight_of (function_in p f);
}

abbrev pub at_instruction : MapSizes → FlatProgram → Option FlatInstruction → (function place : ℕ) → State → List Frame
    → Stage
at_instruction m p None f pc s frames = Stuck
at_instruction m p (Some i) f pc s frames =
    let t = record s { work = s.work + cost p f i } in
    goes_to m p i f pc t frames (local (context m p f frames) i pc t)

-- the instruction at a place of a function
abbrev pub instruction_at : FlatProgram → (function place : ℕ) → Option FlatInstruction
instruction_at p f pc = slice_get (body_of (function_in p f)) pc

abbrev pub step : MapSizes → FlatProgram → Stage → Stage
step m p (Stands f pc s frames) = at_instruction m p (instruction_at p f pc) f pc s frames
step m p (Over status report s) = Over status report s
step m p Stuck = Stuck

-- ---- the meaning

-- a run begins with the first instruction of the entry, with all registers 0
abbrev pub started : FlatProgram → (memory : Bytes) → (input : List ℕ) → Stage
started p memory input =
    Stands p.entry 0 (record {
      values = λ x. 0;
      memory = memory;
      input = input;
      output = [];
      taken = 0;
      accesses = [];
      turns = 0;
      work = 0;
    }) []

-- what is seen after so many steps
abbrev pub flat_meaning : MapSizes → FlatProgram → (memory : Bytes) → (input : List ℕ) → Behaviour
flat_meaning m p memory input = seen_after (step m p) seen (started p memory input)

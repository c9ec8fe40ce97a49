-- The machine's instructions for each instruction of a program under its plans, and where they stand.
use Rattle.std.specs.Prelude.{◌≡◌, ℕ, suc, ◌+◌, ◌-◌, ◌*◌, ◌^◌, ◌%◌, ◌<◌, ◌≤◌, Bool, true, false, not, ◌&&◌, nat_lt}
use Rattle.std.specs.Prelude.{List}
use Rattle.std.specs.Prelude.{if◌then◌else◌}
use Rattle.std.specs.Prelude.{[], ◌∷◌, ◌++◌, length, Option, Some, None, slice_get}
use Rattle.sb_base.specs.declared.ending.Ending.{Ending}
use Rattle.sb_base.specs.Endings.{code_of}
use Rattle.addr_map.specs.Places.{MapSizes, region_start, code_begin, code_size}
use Rattle.addr_map.specs.declared.region.Region.TheVariants.{Calls}
use Rattle.rv_isa.specs.declared.instruction.LoadOp.{LoadOp}
use Rattle.rv_isa.specs.declared.instruction.StoreOp.{StoreOp}
use Rattle.rv_isa.specs.declared.instruction.RegOp.{RegOp}
use Rattle.rv_isa.specs.declared.instruction.RegOp32.{RegOp32}
use Rattle.rv_isa.specs.declared.instruction.BranchOp.{BranchOp}
use Rattle.rv_isa.specs.declared.instruction.Instr.{Instr}
use Rattle.rv_isa.specs.declared.instruction.Instr.TheVariants.{Jalr}
use Rattle.rv_asm.specs.declared.form.Form.{Form}
use Rattle.rv_asm.specs.Forms.{Reaches, branch_size}
use Rattle.rv_asm.specs.Words.{jump_instrs, branch_instrs}
use Rattle.machine_laws.specs.View.Views.{Layout, AllStand}
use Rattle.flat_code.specs.declared.instruction.RightOperand.{RightOperand}
use Rattle.flat_code.specs.declared.instruction.FlatInstruction.{FlatInstruction}
use Rattle.flat_code.specs.declared.instruction.FlatInstruction.TheVariants as flat
use Rattle.flat_code.specs.declared.function.FlatFunction.{FlatFunction}
use Rattle.flat_code.specs.declared.function.FlatProgram.{FlatProgram}
use Rattle.flat_code.specs.Calls.{function_in, record_bytes, room_if}
use Rattle.flat_code.specs.Meaning.{parameters_of, results_of, instruction_at, is_runtime_function}
use Rattle.reg_plan.specs.declared.plan.FunctionPlan.{FunctionPlan}
use Rattle.reg_plan.specs.Effects.{is_among, many, makes_only}
use Rattle.reg_plan.specs.Accepted.{is_live}
use Rattle.machine_laws.specs.declared.location.Location.TheVariants.{Frame}
use Rattle.machine_laws.specs.Blocks.Places.{home, location, frame_register, callee_scratch, left_scratch}
use Rattle.machine_laws.specs.Blocks.Blocks.{IsShort, RightIsShort, constant, used, used_right, fetch, local_block}
use Rattle.machine_laws.specs.Blocks.Tails.{line_of, tails, end_block}
use Rattle.machine_laws.specs.Calls.Calls.{Keeping, call_block, back_block, entry_block, return_block, row}
use Rattle.machine_laws.specs.Calls.Table.{tails_address, row_address}

-- how a function keeps its values under a plan: only before an instruction of its own is a value live
abbrev pub keeping_of : Option FlatFunction → Option FunctionPlan → Keeping
keeping_of None plan = record {
  place = λ y. Frame 8;
  home = λ y. 8;
  live = λ pc y. false;
  count = 0;
  base = 2;
  room = 0;
}
keeping_of (Some f) None = record {
  place = λ y. Frame 8;
  home = λ y. 8;
  live = λ pc y. false;
  count = 0;
  base = frame_register f;
  room = record_bytes f;
}
keeping_of (Some f) (Some plan) = record {
  place = location f plan;
  home = home f;
  live = λ pc y. nat_lt pc (length f.body) && is_live plan pc y;
  count = length plan.live.items;
  base = frame_register f;
  room = record_bytes f;
}

unfoldable pub keeping : FlatProgram → List FunctionPlan → (function : ℕ) → Keeping
keeping p plans f = keeping_of (function_in p f) (slice_get plans f)

-- what a call hands over and gets back, and how its callee's address comes to stand in which register
pub record CallShape : Type 0 where
  pub first : ℕ
  pub count : ℕ
  pub into : ℕ
  pub results : ℕ
  pub aim : List Instr
  pub target : ℕ

abbrev pub shape_of : FlatProgram → Keeping → FlatInstruction → Option CallShape
shape_of p k (flat.Call g first x) = Some (record {
  first = first;
  count = parameters_of (function_in p g);
  into = x;
  results = results_of (function_in p g);
  aim = constant callee_scratch (row_address p g);
  target = callee_scratch;
})
shape_of p k (flat.CallAddress y first n x r) = Some (record {
  first = first;
  count = n;
  into = x;
  results = r;
  aim = fetch (k.place y) k.base callee_scratch;
  target = used (k.place y) callee_scratch;
})
shape_of p k i = None

-- what is live behind a call and none of its results
abbrev pub wanted : Keeping → (pc into results : ℕ) → ℕ → Bool
wanted k pc x n = λ y. k.live (pc + 1) y && not (is_among (many x n) y)

-- up to the jump, and with it; and where the callee comes back to
abbrev pub call_part : Keeping → (pc : ℕ) → CallShape → List Instr
call_part k pc c =
    call_block k (wanted k pc c.into c.results) c.first c.count c.aim ++ (Jalr 1 c.target 0 ∷ [])

abbrev pub back_part : Keeping → (pc : ℕ) → CallShape → List Instr
back_part k pc c = back_block k (wanted k pc c.into c.results) (pc + 1) c.into c.results

abbrev pub shaped_block : Keeping → (pc : ℕ) → Option CallShape → List Instr
shaped_block k pc None = []
shaped_block k pc (Some c) = call_part k pc c ++ back_part k pc c

-- where the first activation record of the program begins, less twice what a function is charged
abbrev pub charged_from : MapSizes → FlatProgram → (function : ℕ) → ℕ
charged_from m p f = region_start m Calls - 2 * room_if false (function_in p f)

-- whether all that an instruction changes is a value that is not needed behind it
abbrev pub is_unneeded : Keeping → (pc : ℕ) → Option ℕ → Bool
is_unneeded k pc None = false
is_unneeded k pc (Some x) = not (k.live (pc + 1) x)

-- all instructions but a jump or a branch; for a value that is not needed there are none
abbrev pub block_in : MapSizes → FlatProgram → (function : ℕ) → Keeping → (pc : ℕ) → FlatInstruction → List Instr
block_in m p f k pc (flat.Call g first x) = shaped_block k pc (shape_of p k (flat.Call g first x))
block_in m p f k pc (flat.CallAddress y first n x r) =
    shaped_block k pc (shape_of p k (flat.CallAddress y first n x r))
block_in m p f k pc (flat.Return y) = return_block k y (results_of (function_in p f)) ++ (Jalr 0 1 0 ∷ [])
block_in m p f k pc (flat.End e) = end_block (tails_address p) e
block_in m p f k pc i =
    if is_unneeded k pc (makes_only i) then [] else local_block k.place k.base (charged_from m p f) i

unfoldable pub block : MapSizes → FlatProgram → List FunctionPlan → (function pc : ℕ) → FlatInstruction → List Instr
block m p plans f pc i = block_in m p f (keeping p plans f) pc i

-- an instruction behind whose block the next one's stands
abbrev pub GoesOn : FlatInstruction → Type 0
GoesOn (flat.Branch op y z past) = ⊥
GoesOn (flat.JumpForward (suc past)) = ⊥
GoesOn (flat.JumpBack back) = ⊥
GoesOn i = Unit {0}

-- a jump stands at an address, whatever form it has, and leads to another
pub record JumpStands (layout : Layout) (from to : ℕ) : Type 0 where
  pub form : Form
  pub begin : ℕ
  pub p : ℕ
  pub t : ℕ
  pub from_is : from ≡ begin + 4 * p
  pub to_is : to ≡ begin + 4 * t
  pub begin_low : begin ≤ 2 ^ 24
  pub begin_whole : begin % 4 ≡ 0
  pub p_low : p < 2 ^ 28
  pub t_low : t < 2 ^ 28
  pub reach : Reaches form p t
  pub stands : AllStand layout from (jump_instrs form 0 p t)

-- a branch of two registers stands at an address, leads to another, and else on to what stands behind it
pub record BranchStands (layout : Layout) (op : BranchOp) (a b from next to : ℕ) : Type 0 where
  pub form : Form
  pub begin : ℕ
  pub p : ℕ
  pub t : ℕ
  pub from_is : from ≡ begin + 4 * p
  pub to_is : to ≡ begin + 4 * t
  pub next_is : next ≡ from + 4 * branch_size form
  pub begin_low : begin ≤ 2 ^ 24
  pub begin_whole : begin % 4 ≡ 0
  pub p_low : p + 3 < 2 ^ 28
  pub t_low : t < 2 ^ 28
  pub reach : Reaches form p t
  pub stands : AllStand layout from (branch_instrs form op a b p t)

-- Where the code of a program stands: the block of each instruction at an address, the next one's behind it; jumps and
-- branches to the addresses of their targets, where these are of the function, but for jumps to the next one; before the first instruction the entry
-- block, to which the function's entry of the jump table leads; and the tails of endings. What the functions of the
-- program have lies in compiled code, what those of the runtime have lies before it.
pub record IsLaid (map : MapSizes) (program : FlatProgram) (plans : List FunctionPlan) (layout : Layout)
    (address : (function pc : ℕ) → ℕ) (entry : (function : ℕ) → ℕ) : Type 0 where
  pub blocks : (f pc : ℕ) (i : FlatInstruction) → instruction_at program f pc ≡ Some i
      → AllStand layout (address f pc) (block map program plans f pc i)
  pub next : (f pc : ℕ) (i : FlatInstruction) → instruction_at program f pc ≡ Some i → GoesOn i
      → address f (pc + 1) ≡ address f pc + 4 * length (block map program plans f pc i)
  pub forward : (f pc past : ℕ) → instruction_at program f pc ≡ Some (flat.JumpForward (suc past))
      → JumpStands layout (address f pc) (address f (pc + 1 + suc past))
  pub back : (f pc n : ℕ) → instruction_at program f pc ≡ Some (flat.JumpBack n)
      → JumpStands layout (address f pc) (address f (pc - n))
  pub branch : (f pc : ℕ) (op : BranchOp) (y : ℕ) (z : RightOperand) (past : ℕ)
      → instruction_at program f pc ≡ Some (flat.Branch op y z past) → BranchStands layout op
      (used ((keeping program plans f).place y) left_scratch) (used_right (keeping program plans f).place z)
      (address f pc + 4 * length (block map program plans f pc (flat.Branch op y z past))) (address f (pc + 1))
      (address f (pc + 1 + past))
  pub entries : (f : ℕ) (g : FlatFunction) → function_in program f ≡ Some g
      → AllStand layout (entry f) (entry_block (keeping program plans f) g.parameters)
  pub first : (f : ℕ) (g : FlatFunction) → function_in program f ≡ Some g
      → address f 0 ≡ entry f + 4 * length (entry_block (keeping program plans f) g.parameters)
  pub rows : (f : ℕ) (g : FlatFunction) → function_in program f ≡ Some g
      → AllStand layout (row_address program f) (row (entry f))
  pub tails_stand : AllStand layout (tails_address program) tails
  pub tails_end : tails_address program + 4 * length tails ≤ code_begin
  pub whole : (f : ℕ) (g : FlatFunction) → function_in program f ≡ Some g → entry f % 4 ≡ 0
  pub aligned : (f pc : ℕ) (i : FlatInstruction) → instruction_at program f pc ≡ Some i → address f pc % 4 ≡ 0
  pub low : (f : ℕ) (g : FlatFunction) → function_in program f ≡ Some g → entry f < 2 ^ 31 - 2 ^ 11
  pub numbered : (f : ℕ) (g : FlatFunction) → function_in program f ≡ Some g → row_address program f < code_begin
  pub of_code : (f pc : ℕ) (i : FlatInstruction) → instruction_at program f pc ≡ Some i
      → is_runtime_function (function_in program f) ≡ false
      → (code_begin ≤ address f pc)
      × (address f pc + 4 * length (block map program plans f pc i) ≤ code_begin + code_size)
  pub of_runtime : (f pc : ℕ) (i : FlatInstruction) → instruction_at program f pc ≡ Some i
      → is_runtime_function (function_in program f) ≡ true
      → address f pc + 4 * length (block map program plans f pc i) ≤ code_begin

-- what the meaning of flat code does not ask, and the machine's instructions need: offsets of loads and stores fit
-- their fields, numbers have 32 bits with their sign, lines have 32 bits, statuses are bytes, each record has room for
-- its return address, and the words of arguments are enough
pub record IsEncodable (program : FlatProgram) : Type 0 where
  pub load_offset : (f pc : ℕ) (op : LoadOp) (x y offset : ℕ)
      → instruction_at program f pc ≡ Some (flat.Load op x y offset) → offset < 2 ^ 11
  pub store_offset : (f pc : ℕ) (op : StoreOp) (y offset x : ℕ)
      → instruction_at program f pc ≡ Some (flat.Store op y offset x) → offset < 2 ^ 11
  pub constant : (f pc x n : ℕ) → instruction_at program f pc ≡ Some (flat.Constant x n) → IsShort n
  pub operate : (f pc : ℕ) (op : RegOp) (x y : ℕ) (z : RightOperand)
      → instruction_at program f pc ≡ Some (flat.Operate op x y z) → RightIsShort z
  pub operate32 : (f pc : ℕ) (op : RegOp32) (x y : ℕ) (z : RightOperand)
      → instruction_at program f pc ≡ Some (flat.Operate32 op x y z) → RightIsShort z
  pub branch : (f pc : ℕ) (op : BranchOp) (y : ℕ) (z : RightOperand) (past : ℕ)
      → instruction_at program f pc ≡ Some (flat.Branch op y z past) → RightIsShort z
  pub line : (f pc : ℕ) (e : Ending) → instruction_at program f pc ≡ Some (flat.End e) → line_of e < 2 ^ 32
  pub status : (f pc : ℕ) (e : Ending) → instruction_at program f pc ≡ Some (flat.End e) → code_of e < 256
  pub rooms : (f : ℕ) (g : FlatFunction) → function_in program f ≡ Some g → 8 ≤ g.room
  pub parameters : (f : ℕ) (g : FlatFunction) → function_in program f ≡ Some g → g.parameters ≤ 1024
  pub results : (f : ℕ) (g : FlatFunction) → function_in program f ≡ Some g → g.results ≤ 1024

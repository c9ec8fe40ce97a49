-- The labelled list of a function: its entry block, and each instruction's block behind a label with its number. A
-- label
-- at the end stands for all places behind the last instruction.
use Rattle.std.specs.Prelude.{◌≡◌, ℕ, zero, suc, ◌+◌, ◌-◌, ◌*◌, ◌^◌, ◌%◌, ◌<◌, ◌≤◌, true, false, nat_lt, if◌then◌else◌}
use Rattle.std.specs.Prelude.{List, [], ◌∷◌, ◌++◌, map, length, Some, slice_get}
use Rattle.addr_map.specs.Places.{MapSizes, code_begin, code_size}
use Rattle.byteorder.specs.Endian.{little_bytes}
use Rattle.rv_isa.specs.declared.instruction.Instr.{Instr}
use Rattle.rv_isa.specs.declared.instruction.Instr.TheVariants.{Ebreak}
use Rattle.rv_asm.specs.declared.item.Item.{Item}
use Rattle.rv_asm.specs.declared.item.Item.TheVariants as item
use Rattle.rv_asm.specs.Words.{Assembled}
use Rattle.rv_sim.specs.Memory.{fetch}
use Rattle.machine_laws.specs.View.Segments.{segments, AreApart}
use Rattle.machine_laws.specs.View.Views.{Layout, AllStand}
use Rattle.flat_code.specs.declared.instruction.FlatInstruction.{FlatInstruction}
use Rattle.flat_code.specs.declared.instruction.FlatInstruction.TheVariants as flat
use Rattle.flat_code.specs.declared.function.FlatFunction.{FlatFunction}
use Rattle.flat_code.specs.declared.function.FlatProgram.{FlatProgram}
use Rattle.flat_code.specs.Calls.{function_in}
use Rattle.flat_code.specs.Meaning.{body_of, parameters_of}
use Rattle.reg_plan.specs.declared.plan.FunctionPlan.{FunctionPlan}
use Rattle.machine_laws.specs.Blocks.Places.{left_scratch}
use Rattle.machine_laws.specs.Blocks.Blocks.{used, used_right}
use Rattle.machine_laws.specs.Calls.Calls.{Keeping, entry_block, row}
use Rattle.machine_laws.specs.Blocks.Tails.{tails}
use Rattle.machine_laws.specs.Calls.Table.{tails_address, row_address}
use Rattle.machine_laws.specs.Following.Code.{keeping, block}

abbrev pub plain : List Instr → List Item
plain is = map (λ i. item.Instr i) is

-- the number of the label for a place
abbrev pub label_for : (count place : ℕ) → ℕ
label_for n q = if nat_lt q n then q else n

-- the jump or the branch behind the block of an instruction; a jump to the next one is none
abbrev pub tail_of : Keeping → (count pc : ℕ) → FlatInstruction → List Item
tail_of k n pc (flat.Branch op y z past) =
    item.Branch op (used (k.place y) left_scratch) (used_right k.place z) (label_for n (pc + 1 + past)) ∷ []
tail_of k n pc (flat.JumpForward zero) = []
tail_of k n pc (flat.JumpForward (suc past)) = item.Jump (label_for n (pc + 1 + suc past)) ∷ []
tail_of k n pc (flat.JumpBack back) = item.Jump (label_for n (pc - back)) ∷ []
tail_of k n pc i = []

-- the items of an instruction
abbrev pub items_at : MapSizes → FlatProgram → List FunctionPlan → (function count pc : ℕ) → FlatInstruction → List Item
items_at m p plans f n pc i =
    item.Label pc ∷ (plain (block m p plans f pc i) ++ tail_of (keeping p plans f) n pc i)

-- those of instructions from a place on, and of the end
abbrev pub items_from : MapSizes → FlatProgram → List FunctionPlan → (function count pc : ℕ) → List FlatInstruction
    → List Item
items_from m p plans f n pc [] = item.Label n ∷ item.Instr Ebreak ∷ []
items_from m p plans f n pc (i ∷ is) = items_at m p plans f n pc i ++ items_from m p plans f n (suc pc) is

-- how many items stand before the label of the instruction so many further on
abbrev pub index_from : MapSizes → FlatProgram → List FunctionPlan → (function count pc : ℕ) → List FlatInstruction
    → (further : ℕ) → ℕ
index_from m p plans f n pc [] j = 0
index_from m p plans f n pc (i ∷ is) zero = 0
index_from m p plans f n pc (i ∷ is) (suc j) =
    length (items_at m p plans f n pc i) + index_from m p plans f n (suc pc) is j

-- of a function
abbrev pub items_of : MapSizes → FlatProgram → List FunctionPlan → (function : ℕ) → List Item
items_of m p plans f =
    let body = body_of (function_in p f) in
    plain (entry_block (keeping p plans f) (parameters_of (function_in p f)))
    ++ items_from m p plans f (length body) 0 body

abbrev pub index_of : MapSizes → FlatProgram → List FunctionPlan → (function pc : ℕ) → ℕ
index_of m p plans f pc =
    let body = body_of (function_in p f) in
    length (entry_block (keeping p plans f) (parameters_of (function_in p f)))
    + index_from m p plans f (length body) 0 body pc

-- the words of a list stand in memory from an address on, whatever the data is
pub record HasWordsAt (layout : Layout) (address : ℕ) (words : List ℕ) : Type 0 where
  pub fetched : (k w : ℕ) → slice_get words k ≡ Some w → (objects spaces : List ℕ)
      → AreApart layout.table layout.code objects spaces
      → fetch (segments layout.table layout.code objects spaces) (address + 4 * k) ≡ Some w
  pub whole : address % 4 ≡ 0
  pub end : address + 4 * length words ≤ code_begin + code_size

-- Each function's assembled words stand in memory: those of the program's in compiled code, the runtime's before it;
-- the entries of the jump table lead to them, and the tails
-- of endings stand.
pub record ArePlaced (map : MapSizes) (program : FlatProgram) (plans : List FunctionPlan) (layout : Layout) (begin : ℕ
    → ℕ)
    (words : ℕ → List ℕ) (place : (function item : ℕ) → ℕ) : Type 0 where
  pub assembled : (f : ℕ) (g : FlatFunction) → function_in program f ≡ Some g
      → Assembled (items_of map program plans f) (words f)
  pub places : (f : ℕ) (g : FlatFunction) (there : function_in program f ≡ Some g) (k : ℕ)
      → (assembled f g there).place k ≡ place f k
  pub placed : (f : ℕ) (g : FlatFunction) → function_in program f ≡ Some g → HasWordsAt layout (begin f) (words f)
  pub rows : (f : ℕ) (g : FlatFunction) → function_in program f ≡ Some g
      → AllStand layout (row_address program f) (row (begin f))
  pub tails_stand : AllStand layout (tails_address program) tails
  pub tails_end : tails_address program + 4 * length tails ≤ code_begin
  pub numbered : (f : ℕ) (g : FlatFunction) → function_in program f ≡ Some g → row_address program f < code_begin
  pub of_code : (f : ℕ) (g : FlatFunction) → function_in program f ≡ Some g → g.is_runtime ≡ false
      → code_begin ≤ begin f
  pub of_runtime : (f : ℕ) (g : FlatFunction) → function_in program f ≡ Some g → g.is_runtime ≡ true
      → begin f + 4 * length (words f) ≤ code_begin

-- the address of each instruction
abbrev pub address_in : MapSizes → FlatProgram → List FunctionPlan → (begin : ℕ → ℕ)
    → (place : (function item : ℕ) → ℕ) → (function pc : ℕ) → ℕ
address_in m p plans begin place f pc = begin f + 4 * place f (index_of m p plans f pc)

-- the bytes of words, the lowest first
abbrev pub bytes_of : List ℕ → List ℕ
bytes_of [] = []
bytes_of (w ∷ ws) = little_bytes 4 w ++ bytes_of ws

-- words of 32 bits
abbrev pub AreWords32 : List ℕ → Type 0
AreWords32 ws = (k w : ℕ) → slice_get ws k ≡ Some w → w < 2 ^ 32

-- so many bytes into a segment the bytes of words stand
pub record HasBytes (segment : List ℕ) (at : ℕ) (words : List ℕ) : Type 0 where
  pub before : List ℕ
  pub behind : List ℕ
  pub is : segment ≡ before ++ (bytes_of words ++ behind)
  pub at_is : length before ≡ at

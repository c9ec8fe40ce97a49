-- Which instructions the machine has, by their numbers, and what is asked of the code so that its expansion is of such.
use Rattle.std.specs.Prelude.{◌≡◌, ℕ, ◌+◌, ◌-◌, ◌*◌, ◌^◌, ◌<◌, ◌≤◌, true, List, [], ◌∷◌, length, Option, Some, None}
use Rattle.std.specs.Prelude.{slice_get}
use Rattle.sb_base.specs.Endings.{code_of}
use Rattle.addr_map.specs.declared.region.Region.TheVariants.{Stack, Locks, FreeLocks, Cells, StructureValues}
use Rattle.addr_map.specs.Places.{MapSizes, region_start, region_end, function_address}
use Rattle.c_tree.specs.declared.expression.Kind.{Kind}
use Rattle.c_tree.specs.declared.expression.Kind.TheVariants.{Structure}
use Rattle.c_tree.specs.declared.expression.Update.{Update}
use Rattle.c_tree.specs.declared.expression.Update.TheVariants.{Arithmetic, Forward, Back}
use Rattle.c_tree.specs.Format.{pieces}
use Rattle.c_tree.specs.Kinds.{size_of_kind}
use Rattle.c_tree.specs.Valid.{at_number}
use Rattle.source_meaning.specs.Printing.{pieces_or_none}
use Rattle.tac_ir.specs.declared.instruction.Instruction.{Instruction}
use Rattle.tac_ir.specs.declared.instruction.Instruction.TheVariants as tac
use Rattle.tac_ir.specs.declared.function.CodeFunction.{CodeFunction}
use Rattle.tac_ir.specs.declared.function.Tac.{Tac}
use Rattle.tac_ir.specs.Meaning.{function_in, objects_in, text_in}
use Rattle.tac_ir.specs.Structures.{structures_below}
use Rattle.flat_code.specs.declared.instruction.FlatInstruction.{FlatInstruction}
use Rattle.flat_code.specs.declared.instruction.FlatInstruction.TheVariants as flat
use Rattle.flat_code.specs.declared.function.FlatFunction.{FlatFunction}
use Rattle.flat_code.specs.declared.registers.Entry.{Entry}
use Rattle.shadow_space.specs.Form.{EntryCode}
use Rattle.lib_wrappers.specs.AllocatingRoutines.Entering.{block_bytes}
use Rattle.machine_laws.specs.Blocks.Blocks.{IsShort, RightIsShort}
use Rattle.machine_laws.specs.Blocks.Tails.{line_of}
use Rattle.metadata_plan.specs.Registers.{all_variables}
use Rattle.metadata_relation.specs.FunctionTypes.{first_of_type}
use Rattle.metadata_relation.specs.Blocks.{Expansion, static_object, objects_of_body, result_of}
use Rattle.metadata_relation.specs.Steps.{have_bytes}

-- ---- instructions

-- offsets of loads and stores have 12 bits with a sign, other numbers 32, and lines 32
abbrev pub IsFit : FlatInstruction → Type 0
IsFit (flat.Load op x y offset) = offset < 2 ^ 11
IsFit (flat.Store op y offset x) = offset < 2 ^ 11
IsFit (flat.Constant x n) = IsShort n
IsFit (flat.Operate op x y z) = RightIsShort z
IsFit (flat.Operate32 op x y z) = RightIsShort z
IsFit (flat.Branch op y z past) = RightIsShort z
IsFit (flat.End e) = (line_of e < 2 ^ 32) × (code_of e < 256)
IsFit _ = Unit {0}

abbrev pub AreFit : List FlatInstruction → Type 0
AreFit [] = Unit {0}
AreFit (i ∷ is) = IsFit i × AreFit is

-- ---- what is asked of the lists of a form and of a map

-- the lists that read and write entries are of such, under a map
pub record FitEntries (read write : EntryCode) (map : MapSizes) : Type 0 where
  pub reads : (at : ℕ) (into : Entry) (t : ℕ) → AreFit (read map at into t)
  pub writes : (at : ℕ) (from : Entry) (t : ℕ) → AreFit (write map at from t)

-- Places of the runtime's spaces, and how much is charged, are numbers of an instruction; how many keys there are is a word,
-- and where structures by value lie has 63 bits.
pub record HasShortPlaces (map : MapSizes) : Type 0 where
  pub locks : region_start map Locks < 2 ^ 31 - 2 ^ 11
  pub free_locks : region_start map FreeLocks < 2 ^ 31 - 2 ^ 11
  pub cells : region_start map Cells < 2 ^ 31 - 2 ^ 11
  pub stack : region_start map Stack < 2 ^ 31 - 2 ^ 11
  pub stack_end : region_end map Stack + 1 < 2 ^ 31 - 2 ^ 11
  pub calls : map.budgets.calls + 1 < 2 ^ 31 - 2 ^ 11
  pub keys : map.budgets.keys < 2 ^ 64
  pub values : region_start map StructureValues < 2 ^ 63

-- ---- what is asked of the code

-- the size of the elements by which an update moves
abbrev pub moved_by : Update → ℕ
moved_by (Arithmetic op t) = 0
moved_by (Forward size) = size
moved_by (Back size) = size

abbrev pub AreBytes : List ℕ → Type 0
AreBytes [] = Unit {0}
AreBytes (b ∷ bs) = (b < 256) × AreBytes bs

-- the bytes of a structure that comes to a temporary, and those charged for the areas before its own, have 63 bits
abbrev pub HasAreaWords : Tac → CodeFunction → Kind → (temporary : ℕ) → Type 0
HasAreaWords t c (Structure size) d = (size < 2 ^ 63) × (5 * structures_below t c.code d < 2 ^ 63)
HasAreaWords t c kind d = Unit {0}

-- so where it is the result of a function
abbrev pub HasResultWords : Tac → CodeFunction → (callee : Option CodeFunction) → (temporary : ℕ) → Type 0
HasResultWords t c None d = Unit {0}
HasResultWords t c (Some callee) d = HasAreaWords t c (result_of t callee) d

-- Numbers are words, lines have 32 bits, and what stands in texts and formats is bytes. The objects of a block take a number
-- of bytes that is a word.
abbrev pub HasWords : Expansion → CodeFunction → Instruction → Type 0
HasWords e c (tac.Constant d w m) = w < 2 ^ 64
HasWords e c (tac.FunctionPointer d f m) = (function_address f < 2 ^ 64) × (2 ^ 63 + e.types f < 2 ^ 64)
HasWords e c (tac.UpdatePlain w k f line d x right m) = (moved_by w < 2 ^ 64) × (line < 2 ^ 32)
HasWords e c (tac.ZeroOf kind d m) = HasAreaWords e.code c kind d
HasWords e c (tac.Binary op ty line d a b m) = line < 2 ^ 32
HasWords e c (tac.Offset form size d a b m) = size < 2 ^ 64
HasWords e c (tac.Difference size d a b m) = size < 2 ^ 64
HasWords e c (tac.Narrow offset size d a m) = (offset < 2 ^ 64) × (size < 2 ^ 64)
HasWords e c (tac.Member offset size d a m) = (offset < 2 ^ 64) × (size < 2 ^ 64)
HasWords e c (tac.Take kind line d a m) = HasAreaWords e.code c kind d
HasWords e c (tac.Write (Structure size) mode line key d a b m) = size < 2 ^ 64
HasWords e c (tac.Update w k f mode line at key d a right m) = (moved_by w < 2 ^ 64) × (at < 2 ^ 32)
HasWords e c (tac.Judge test size line key a m) = (size < 2 ^ 64) × (line < 2 ^ 32)
HasWords e c (tac.StorePart (Structure size) line x offset a m) = (offset < 2 ^ 64) × (size < 2 ^ 64)
HasWords e c (tac.StorePart kind line x offset a m) = offset < 2 ^ 64
HasWords e c (tac.StoreText n x offset m) = (offset < 2 ^ 64) × AreBytes (text_in e.code n)
HasWords e c (tac.Case a w x y) = w < 2 ^ 64
HasWords e c (tac.Library r line d n m) = line < 2 ^ 32
HasWords e c (tac.Print x line d n m) =
    (line < 2 ^ 32) × (have_bytes (pieces_or_none (pieces (text_in e.code x))) ≡ true)
HasWords e c (tac.Call f line d n m) = (line < 2 ^ 32) × HasResultWords e.code c (function_in e.code f) d
HasWords e c (tac.CallThrough type_number line d n m) =
    (line < 2 ^ 32)
    × HasResultWords e.code c (slice_get e.code.functions (first_of_type e.code.functions type_number)) d
HasWords e c (tac.EnterBlock b line m) = (line < 2 ^ 32) × (block_bytes (objects_in (Some c) b) < 2 ^ 64)
HasWords e c _ = Unit {0}

-- of a function, which takes at most 127 values (C99 5.2.4.1)
pub record FitsFunction (e : Expansion) (c : CodeFunction) : Type 0 where
  pub words : (n : ℕ) (i : Instruction) → slice_get c.code n ≡ Some i → HasWords e c i
  pub sizes : (x : ℕ) → size_of_kind (at_number (all_variables c) x).kind < 2 ^ 63
  pub body : block_bytes (objects_of_body c) < 2 ^ 64
  pub line : c.line < 2 ^ 32
  pub room : 8 ≤ c.room
  pub parameters : length c.parameters ≤ 127

-- and of all; static objects lie below 2^63
pub record FitsCode (e : Expansion) : Type 0 where
  pub few : length e.code.functions ≤ 2 ^ 12
  pub statics : (n : ℕ) → (static_object e.map e.code n).address + (static_object e.map e.code n).size < 2 ^ 63
  pub functions : (u : ℕ) (c : CodeFunction) → function_in e.code u ≡ Some c → FitsFunction e c

-- a function of the runtime has room for its return address
pub record HasRooms (runtime : List FlatFunction) : Type 0 where
  pub each : (k : ℕ) (f : FlatFunction) → slice_get runtime k ≡ Some f → 8 ≤ f.room

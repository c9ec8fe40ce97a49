-- The flat code of each instruction of three-address code.
use Rattle.std.specs.Prelude.{ℕ, zero, suc, ◌+◌, ◌-◌, ◌*◌, ◌^◌, min, max, Bool, true, false, ◌==◌, nat_le, nat_lt}
use Rattle.std.specs.Prelude.{if◌then◌else◌, List, [], ◌∷◌, ◌++◌, map, length, get_or, slice_get, Option, Some, None}
use Rattle.sb_base.specs.declared.ending.Ending.{Ending}
use Rattle.sb_base.specs.declared.ending.Ending.TheVariants.{Stack, BadCall as BadCallAt, Abort as AbortAt}
use Rattle.sb_base.specs.declared.ending.Ending.TheVariants.{Spatial as SpatialAt}
use Rattle.addr_map.specs.declared.region.Region.TheVariants.{Globals, Stack as StackRegion, Locks, Cells}
use Rattle.addr_map.specs.Places.{MapSizes, region_start, region_end, function_address}
use Rattle.obj_memory.specs.declared.int_type.IntType.{IntType}
use Rattle.obj_memory.specs.declared.int_type.IntType.TheVariants.{UnsignedChar, UnsignedLong}
use Rattle.obj_memory.specs.declared.value.Scalar.{Scalar}
use Rattle.obj_memory.specs.declared.value.Scalar.TheVariants.{Integer, Pointer}
use Rattle.obj_memory.specs.Heap.{rounded_up}
use Rattle.obj_memory.specs.Objects.{ObjectState, object_at}
use Rattle.c_tree.specs.declared.expression.Kind.{Kind}
use Rattle.c_tree.specs.declared.expression.Kind.TheVariants.{Void, Scalar as OfScalar, Structure}
use Rattle.c_tree.specs.declared.expression.Update.{Update}
use Rattle.c_tree.specs.declared.expression.Update.TheVariants.{Arithmetic, Forward, Back}
use Rattle.c_tree.specs.declared.expression.Fixity.{Fixity}
use Rattle.c_tree.specs.declared.expression.Fixity.TheVariants.{Prefix, Postfix}
use Rattle.c_tree.specs.declared.expression.OffsetForm.{OffsetForm}
use Rattle.c_tree.specs.declared.expression.OffsetForm.TheVariants.{PointerPlusIndex, IndexPlusPointer}
use Rattle.c_tree.specs.declared.expression.OffsetForm.TheVariants.{PointerMinusIndex}
use Rattle.c_tree.specs.declared.expression.Routine.{Routine}
use Rattle.c_tree.specs.declared.expression.Routine.TheVariants as routine
use Rattle.c_tree.specs.declared.program.Variable.{Variable}
use Rattle.c_tree.specs.Format.{pieces}
use Rattle.c_tree.specs.Kinds.{size_of_kind}
use Rattle.c_tree.specs.Valid.{at_number}
use Rattle.source_meaning.specs.Blocks.{has_objects}
use Rattle.source_meaning.specs.Calls.{body_objects}
use Rattle.source_meaning.specs.Good.{plain_type}
use Rattle.source_meaning.specs.Printing.{pieces_or_none}
use Rattle.tac_ir.specs.declared.instruction.RightOperand.{RightOperand}
use Rattle.tac_ir.specs.declared.instruction.RightOperand.TheVariants.{Temporary, One}
use Rattle.tac_ir.specs.declared.instruction.Test.{Test}
use Rattle.tac_ir.specs.declared.instruction.Test.TheVariants.{Spatial, Temporal}
use Rattle.tac_ir.specs.declared.instruction.Instruction.{Instruction}
use Rattle.tac_ir.specs.declared.instruction.Instruction.TheVariants as tac
use Rattle.tac_ir.specs.declared.key.Base.{Base}
use Rattle.tac_ir.specs.declared.key.Base.TheVariants.{Plain, Automatic, Static}
use Rattle.tac_ir.specs.declared.key.Member.{Member}
use Rattle.tac_ir.specs.declared.key.Key.{Key}
use Rattle.tac_ir.specs.declared.function.CodeFunction.{CodeFunction}
use Rattle.tac_ir.specs.declared.function.Tac.{Tac}
use Rattle.tac_ir.specs.Meaning.{function_in, text_in, header_of_code, objects_in, placed_data}
use Rattle.rv_isa.specs.declared.instruction.RegOp.TheVariants.{Add, And, Sll, Srl, Sub}
use Rattle.rv_isa.specs.declared.instruction.LoadOp.TheVariants.{Ld}
use Rattle.rv_isa.specs.declared.instruction.StoreOp.TheVariants.{Sb, Sd}
use Rattle.rv_isa.specs.declared.instruction.BranchOp.TheVariants.{Beq, Bne, Bltu}
use Rattle.flat_code.specs.declared.instruction.RightOperand.{RightOperand as FlatOperand}
use Rattle.flat_code.specs.declared.instruction.RightOperand.TheVariants.{Register, Number}
use Rattle.flat_code.specs.declared.instruction.FlatInstruction.{FlatInstruction}
use Rattle.flat_code.specs.declared.instruction.FlatInstruction.TheVariants.{Constant, Move, Operate, Load, Store}
use Rattle.flat_code.specs.declared.instruction.FlatInstruction.TheVariants.{Branch, Turn, Call, Return, Get, Put, Exit}
use Rattle.flat_code.specs.declared.instruction.FlatInstruction.TheVariants.{CallAddress, Charged, End}
use Rattle.flat_code.specs.declared.registers.Entry.{Entry}
use Rattle.lib_wrappers.specs.declared.accesses.held.HeldScalar.{HeldScalar}
use Rattle.lib_wrappers.specs.declared.accesses.held.HeldScalar.TheVariants.{Integer as HeldInteger}
use Rattle.lib_wrappers.specs.declared.accesses.held.HeldScalar.TheVariants.{Pointer as HeldPointer}
use Rattle.lib_wrappers.specs.AccessRoutines.Accessing.{no_entry}
use Rattle.lib_wrappers.specs.AllocatingRoutines.Allocating.{keys_code, key_test}
use Rattle.lib_wrappers.specs.AllocatingRoutines.Entering.{round_code, block_bytes}
use Rattle.runtime_functions.specs.declared.library.LibraryFunction.{LibraryFunction}
use Rattle.runtime_functions.specs.declared.library.LibraryFunction.TheVariants as library
use Rattle.runtime_functions.specs.declared.status.ReturnStatus.{ReturnStatus}
use Rattle.runtime_functions.specs.declared.status.ReturnStatus.TheVariants.{Spatial as SpatialStatus}
use Rattle.runtime_functions.specs.declared.status.ReturnStatus.TheVariants.{Temporal as TemporalStatus}
use Rattle.runtime_functions.specs.declared.status.ReturnStatus.TheVariants.{BadFree, Stack as StackSpent}
use Rattle.runtime_functions.specs.declared.status.ReturnStatus.TheVariants.{Keys as KeysSpent}
use Rattle.runtime_functions.specs.Library.{Passed, NoValue, OneWord, WithEntry, register_count, held_from, signature}
use Rattle.runtime_functions.specs.Status.{status_number, ending_at}
use Rattle.metadata_plan.specs.Blocks.{call_tests}
use Rattle.metadata_plan.specs.Entries.{Entries, pointer_of, key_in, can_compare, has_area, may_read_part}
use Rattle.metadata_plan.specs.Registers.{all_variables}
use Rattle.metadata_plan.specs.Operators.{OperatorCode}
use Rattle.metadata_relation.specs.Contents.{Contents}
use Rattle.metadata_relation.specs.FunctionTypes.{first_of_type}
use Rattle.metadata_relation.specs.InlineCode.{InlineCode}
use Rattle.metadata_relation.specs.Printing.{print_code, scan_statuses}
use Rattle.metadata_relation.specs.Structures.{await_code, place_or_part, put_code, receive_code, scalar_part_code}
use Rattle.metadata_relation.specs.Structures.{store_structure_code, take_structure_code, zero_structure_code}
use Rattle.metadata_relation.specs.Registers.{passed_as, parameters_end, result_words, variable_words}
use Rattle.metadata_relation.specs.Registers.{total}
use Rattle.metadata_relation.specs.Registers.{variable_register, home_register, home_entry, lock_register, top_register}
use Rattle.metadata_relation.specs.Registers.{temporary_register, moved_register, first_free}

-- What the code of a program depends on: the lists that stand inline, the map of the memory, the program, the number
-- that the key of each function's entry has, and which temporaries have entries and may have contents.
pub record Expansion : Type 0 where
  pub inline : InlineCode
  pub map : MapSizes
  pub code : Tac
  pub types : ℕ → ℕ
  pub entries : (function : ℕ) → Entries
  pub contents : (function : ℕ) → Contents

-- ---- values and their entries

-- an entry goes to another place
abbrev pub move_entry : (into from : Entry) → List FlatInstruction
move_entry d e = Move d.base e.base ∷ Move d.bound e.bound ∷ Move d.key e.key ∷ Move d.lock e.lock ∷ []

-- behind what makes an integer, where its temporary has an entry: that of no pointer
abbrev pub untagged : (with_entry : Bool) → (register : ℕ) → List FlatInstruction
untagged false r = []
untagged true r = no_entry (held_from r).tag

-- a value goes to another register, with its entry where that is kept
abbrev pub move_value : (with_entry : Bool) → (into from : ℕ) → List FlatInstruction
move_value false d a = Move d a ∷ []
move_value true d a = Move d a ∷ move_entry (held_from d).tag (held_from a).tag

-- the entry goes along where it is kept
abbrev pub move_entry_if : (with_entry : Bool) → (into from : Entry) → List FlatInstruction
move_entry_if false d e = []
move_entry_if true d e = move_entry d e

-- the numbers of an entry
abbrev pub entry_constants : OperatorCode → Entry → (base bound key lock scratch : ℕ) → List FlatInstruction
entry_constants o e base bound key lock s =
    o.constant e.base base s ++ (o.constant e.bound bound s ++ (o.constant e.key key s ++ o.constant e.lock lock s))

abbrev pub entry_constants_if : OperatorCode → (with_entry : Bool) → Entry → (base bound key lock scratch : ℕ)
    → List FlatInstruction
entry_constants_if o false e base bound key lock s = []
entry_constants_if o true e base bound key lock s = entry_constants o e base bound key lock s

-- a number as the right operand of an instruction: in a register where the instruction has no room for it
abbrev pub is_short : (number : ℕ) → Bool
is_short n = nat_lt n (2 ^ 31 - 2 ^ 11)

abbrev pub number_code : OperatorCode → (number register scratch : ℕ) → List FlatInstruction
number_code o n r s = if is_short n then [] else o.constant r n s

abbrev pub number_operand : (number register : ℕ) → FlatOperand
number_operand n r = if is_short n then Number n else Register r

-- a scalar in the registers of a value
abbrev pub held_scalar : Scalar → (register : ℕ) → HeldScalar
held_scalar (Integer t) r = HeldInteger t r
held_scalar Pointer r = HeldPointer (held_from r)

-- ---- conversions and variables

abbrev pub conversion : InlineCode → Kind → (with_entry : Bool) → (into from scratch : ℕ) → List FlatInstruction
conversion i Void b d a s = Constant d 0 ∷ untagged b d
conversion i (OfScalar (Integer t)) b d a s = i.operators.convert t d a s ++ untagged b d
conversion i k b d a s = move_value b d a

-- a plain variable of a type is read and set
abbrev pub get_code : Option Scalar → (with_entry : Bool) → (into variable : ℕ) → List FlatInstruction
get_code (Some Pointer) b d x = move_value b d x
get_code k b d x = Move d x ∷ untagged b d

abbrev pub set_code : Option Scalar → (variable from : ℕ) → List FlatInstruction
set_code (Some Pointer) x a = move_value true x a
set_code k x a = Move x a ∷ []

-- the right operand of an update: 1 is put into a register
abbrev pub right_code : RightOperand → (register : ℕ) → List FlatInstruction
right_code (Temporary b) r = []
right_code One r = Constant r 1 ∷ []

abbrev pub right_register : CodeFunction → RightOperand → (register : ℕ) → ℕ
right_register c (Temporary b) r = temporary_register c b
right_register c One r = r

-- the new value of an integer from an old one, as its type has it; the registers from scratch on are free
abbrev pub new_integer : OperatorCode → CodeFunction → Update → IntType → (line new old : ℕ) → RightOperand
    → (scratch : ℕ) → List FlatInstruction
new_integer o c (Arithmetic op t) k line new old right s =
    o.convert t new old (s + 1)
    ++ (right_code right s
    ++ (o.binary op t new new (right_register c right s) (s + 1) line ++ o.convert k new new (s + 1)))
new_integer o c w k line new old right s = []

-- the new address of a pointer
abbrev pub new_address : InlineCode → CodeFunction → Update → (new old : ℕ) → RightOperand → (scratch : ℕ)
    → List FlatInstruction
new_address i c (Forward size) new old right s =
    right_code right s ++ i.forward size new old (right_register c right s) (s + 1)
new_address i c (Back size) new old right s =
    right_code right s ++ i.back size new old (right_register c right s) (s + 1)
new_address i c w new old right s = []

-- which of the old value and the new one is given
abbrev pub given_register : Fixity → (old new : ℕ) → ℕ
given_register Prefix old new = new
given_register Postfix old new = old

-- a plain variable is updated: the result is given before it changes, since that may be the old value
abbrev pub update_plain_code : InlineCode → CodeFunction → Update → Scalar → Fixity → (line : ℕ) → (with_entry : Bool)
    → (into variable : ℕ) → RightOperand → (scratch : ℕ) → List FlatInstruction
update_plain_code i c w (Integer k) f line b d x right s =
    new_integer i.operators c w k line s x right (s + 1)
    ++ (Move d (given_register f x s) ∷ Move x s ∷ untagged b d)
update_plain_code i c w Pointer f line b d x right s =
    new_address i c w s x right (s + 1)
    ++ (Move d (given_register f x s) ∷ Move x s ∷ move_entry_if b (held_from d).tag (held_from x).tag)

-- ---- objects that are named

-- the static object of a number, before the run
abbrev pub static_object : MapSizes → Tac → (number : ℕ) → ObjectState
static_object m t n = object_at (placed_data (region_start m Globals) t.statics 0) n

abbrev pub static_code : OperatorCode → ObjectState → (lock : ℕ) → (with_entry : Bool) → (into scratch : ℕ)
    → List FlatInstruction
static_code o object lock b d s =
    o.constant d object.address s
    ++ entry_constants_if o b (held_from d).tag object.address (object.address + object.size) 1 lock s

abbrev pub home_code : CodeFunction → (with_entry : Bool) → (into variable : ℕ) → List FlatInstruction
home_code c b d x = Move d (home_register c x) ∷ move_entry_if b (held_from d).tag (home_entry c x)

-- a pointer to a function: base and bound are its address
abbrev pub function_code : OperatorCode → (types function : ℕ) → (with_entry : Bool) → (into scratch : ℕ)
    → List FlatInstruction
function_code o ty f b d s =
    o.constant d (function_address f) s
    ++ entry_constants_if o b (held_from d).tag (function_address f) (function_address f) (2 ^ 63 + ty) 0 s

-- an address so many bytes from the home of a variable, in a register
abbrev pub part_address : OperatorCode → CodeFunction → (variable offset register : ℕ) → List FlatInstruction
part_address o c x offset r =
    number_code o offset r (r + 1)
    ++ (Operate Add r (home_register c x) (number_operand offset r) ∷ [])

-- bytes are stored one by one from an address in a register on
abbrev pub store_bytes : List ℕ → (address byte : ℕ) → List FlatInstruction
store_bytes [] a r = []
store_bytes (b ∷ bs) a r =
    Constant r b ∷ Store Sb a 0 r ∷ Operate Add a a (Number 1) ∷ store_bytes bs a r

-- ---- pointers

abbrev pub offset_code : InlineCode → OffsetForm → (size into left right scratch : ℕ) → List FlatInstruction
offset_code i PointerPlusIndex size d a b s = i.forward size d a b s
offset_code i IndexPlusPointer size d a b s = i.forward size d b a s
offset_code i PointerMinusIndex size d a b s = i.back size d a b s

-- a pointer narrowed to a member, with its entry where that is kept: both numbers in registers where they are long
abbrev pub narrow_code : InlineCode → (with_entry : Bool) → (offset size into from scratch : ℕ) → List FlatInstruction
narrow_code i false offset size d a s =
    number_code i.operators offset s (s + 1) ++ (Operate Add d a (number_operand offset s) ∷ [])
narrow_code i true offset size d a s =
    move_value true d a
    ++ (number_code i.operators offset s (s + 2)
    ++ (number_code i.operators size (s + 1) (s + 2)
    ++ i.narrow (held_from d) (number_operand offset s) (number_operand size (s + 1)) (s + 2)))

-- ---- accesses

-- A scalar is loaded through a temporary. The address is moved away before the entry of a pointer is written; of a
-- pointer whose entry nothing reads its word is loaded alone.
abbrev pub load_code : InlineCode → Scalar → (with_entry : Bool) → (into from scratch : ℕ) → List FlatInstruction
load_code i (Integer t) b d a s = i.load a (HeldInteger t d) s ++ untagged b d
load_code i Pointer false d a s = i.load a (HeldInteger UnsignedLong d) s
load_code i Pointer true d a s = Move s a ∷ i.load s (HeldPointer (held_from d)) (s + 1)

abbrev pub read_code : InlineCode → (may_be_part : Bool) → Kind → (with_entry : Bool) → (into from scratch : ℕ)
    → List FlatInstruction
read_code i q (OfScalar k) b d a s = place_or_part q a (scalar_part_code k b d a s) (load_code i k b d a s)
read_code i q kind b d a s = move_value b d a

-- what an assignment gives is the value that is stored
abbrev pub write_code : InlineCode → Scalar → (with_entry : Bool) → (into pointer value scratch : ℕ)
    → List FlatInstruction
write_code i (Integer t) b d p a s = i.store p (HeldInteger t a) s ++ (Move d a ∷ untagged b d)
write_code i Pointer b d p a s = i.store p (HeldPointer (held_from a)) s ++ move_value b d a

-- a scalar is loaded, updated and stored through one pointer; the old value stands in the first five scratch registers,
-- and the new word behind them
abbrev pub update_code : InlineCode → CodeFunction → Update → Scalar → Fixity → (line : ℕ) → (with_entry : Bool)
    → (into pointer : ℕ) → RightOperand → (scratch : ℕ) → List FlatInstruction
update_code i c w (Integer k) f line b d p right s =
    i.load p (HeldInteger k s) (s + 1)
    ++ (new_integer i.operators c w k line (s + 1) s right (s + 2)
    ++ (i.store p (HeldInteger k (s + 1)) (s + 2) ++ (Move d (given_register f s (s + 1)) ∷ untagged b d)))
update_code i c w Pointer f line b d p right s =
    i.load p (HeldPointer (held_from s)) (s + 5)
    ++ (new_address i c w (s + 5) s right (s + 6)
    ++ (i.store p (HeldPointer (record { value = s + 5; tag = (held_from s).tag })) (s + 6)
    ++ (Move d (given_register f s (s + 5)) ∷ move_entry_if b (held_from d).tag (held_from s).tag)))

-- a check of a pointer by its entry
abbrev pub check_code : InlineCode → Test → (size line pointer scratch : ℕ) → List FlatInstruction
check_code i Spatial size line r s =
    number_code i.operators size s (s + 1)
    ++ i.spatial_check (held_from r) (number_operand size s) line (s + 1)
check_code i Temporal size line r s = i.temporal_check (held_from r) line s

-- the bytes of a named object, and of the members of a path in it that are fixed, from its address on
pub record Range : Type 0 where
  pub start : ℕ
  pub end : ℕ

abbrev pub meet : Range → Range → Range
meet r q = record { start = max r.start q.start; end = min r.end q.end }

abbrev pub path_range : (size : ℕ) → List Member → Range
path_range size [] = record { start = 0; end = size }
path_range size (m ∷ ms) =
    meet (path_range size ms) (record { start = m.constant; end = m.constant + m.size })

abbrev pub named_size : MapSizes → Tac → CodeFunction → Base → ℕ
named_size m t c (Plain x) = 0
named_size m t c (Automatic x) = size_of_kind (at_number (all_variables c) x).kind
named_size m t c (Static n) = (static_object m t n).size

-- an address so many bytes behind that of a named object, in a register
abbrev pub named_address : OperatorCode → MapSizes → Tac → CodeFunction → Base → (offset register : ℕ)
    → List FlatInstruction
named_address o m t c (Plain x) offset r = []
named_address o m t c (Automatic x) offset r = part_address o c x offset r
named_address o m t c (Static n) offset r = o.constant r ((static_object m t n).address + offset) (r + 1)

-- The spatial check of an access of so many bytes in such a range: how far the pointer is behind the first of them, as a
-- word, is at most what leaves room for the access. Where the range is too small no pointer passes.
abbrev pub range_code : OperatorCode → (address : List FlatInstruction) → Range → (size line pointer scratch : ℕ)
    → List FlatInstruction
range_code o address r size line p s =
    if nat_le (r.start + size) r.end
    then address ++ (Operate Sub s p (Register s)
    ∷ (number_code o (r.end - (r.start + size) + 1) (s + 1) (s + 2)
    ++ (Branch Bltu s (number_operand (r.end - (r.start + size) + 1) (s + 1)) 1 ∷ End (SpatialAt line) ∷ [])))
    else End (SpatialAt line) ∷ []

-- the check of a pointer with a key that begins with an object's name: of its life nothing is tested
abbrev pub compare_code : OperatorCode → MapSizes → Tac → CodeFunction → Test → Key → (size line pointer scratch : ℕ)
    → List FlatInstruction
compare_code o m t c Temporal key size line p s = []
compare_code o m t c Spatial key size line p s =
    let r = path_range (named_size m t c key.base) key.path in
    range_code o (named_address o m t c key.base r.start s) r size line p s

abbrev pub judge_code : Expansion → CodeFunction → Test → Option Key → (size line pointer scratch : ℕ)
    → List FlatInstruction
judge_code e c test None size line p s = check_code e.inline test size line p s
judge_code e c test (Some key) size line p s =
    if can_compare test key
    then compare_code e.inline.operators e.map e.code c test key size line p s
    else check_code e.inline test size line p s

-- ---- the object stack

-- the cell that has the end of the object stack
abbrev pub top_cell : MapSizes → ℕ
top_cell m = region_start m Cells

abbrev pub read_top : MapSizes → (into : ℕ) → List FlatInstruction
read_top m r = Constant r (top_cell m) ∷ Load Ld r r 0 ∷ []

abbrev pub write_top : MapSizes → (from scratch : ℕ) → List FlatInstruction
write_top m r s = Constant s (top_cell m) ∷ Store Sd s 0 r ∷ []

-- The tests of a call whose body declares objects: they fit on the object stack, and there is a key for them.
abbrev pub space_test : MapSizes → (bytes line scratch : ℕ) → List FlatInstruction
space_test m bytes line s =
    read_top m s
    ++ (round_code s s
    ++ (Constant (s + 1) (region_end m StackRegion + 1 - bytes)
    ∷ Branch Bltu s (Register (s + 1)) 1
    ∷ End (Stack line)
    ∷ []))

abbrev pub object_tests : MapSizes → List Variable → (line scratch : ℕ) → List FlatInstruction
object_tests m vs line s =
    if has_objects vs
    then space_test m (block_bytes vs) line s ++ (keys_code m s (s + 1) ++ key_test s line)
    else []

-- ---- functions of the runtime

-- the place of each in their list, and so its number behind the functions of the text
abbrev pub library_place : LibraryFunction → ℕ
library_place library.Malloc = 0
library_place library.Calloc = 1
library_place library.Free = 2
library_place library.Realloc = 3
library_place library.Memcpy = 4
library_place library.Memmove = 5
library_place library.Memset = 6
library_place library.Memcmp = 7
library_place library.Strlen = 8
library_place library.Strcmp = 9
library_place library.Strcpy = 10
library_place library.Strncpy = 11
library_place library.Strcat = 12
library_place library.Strchr = 13
library_place library.Puts = 14

abbrev pub zero_place : ℕ
zero_place = 23

abbrev pub enter_place : ℕ
enter_place = 25

abbrev pub runtime_number : Tac → (place : ℕ) → ℕ
runtime_number t k = length t.functions + k

-- the run ends as the status in a register tells
abbrev pub end_code : Option Ending → List FlatInstruction
end_code None = []
end_code (Some e) = End e ∷ []

abbrev pub status_tests : (register line : ℕ) → List ReturnStatus → List FlatInstruction
status_tests r line [] = []
status_tests r line (k ∷ ks) =
    Branch Bne r (Number (status_number k)) 1 ∷ (end_code (ending_at k line) ++ status_tests r line ks)

-- a status of 0 tells that the function has done its work; else it is one of some
abbrev pub status_code : (register line : ℕ) → List ReturnStatus → List FlatInstruction
status_code r line ks = Branch Beq r (Number 0) (length (status_tests r line ks)) ∷ status_tests r line ks

-- those with which a routine of the library may be left that has not done its work
abbrev pub statuses_of : LibraryFunction → List ReturnStatus
statuses_of library.Malloc = KeysSpent ∷ []
statuses_of library.Calloc = KeysSpent ∷ []
statuses_of library.Free = TemporalStatus ∷ BadFree ∷ []
statuses_of library.Realloc = TemporalStatus ∷ BadFree ∷ KeysSpent ∷ []
statuses_of f = SpatialStatus ∷ TemporalStatus ∷ []

-- those with which the objects of a block are not made
abbrev pub enter_statuses : List ReturnStatus
enter_statuses = StackSpent ∷ KeysSpent ∷ []

-- values from a temporary on go to consecutive registers, one behind the other
abbrev pub pack_value : Passed → (into from : ℕ) → List FlatInstruction
pack_value NoValue r a = []
pack_value OneWord r a = Move r a ∷ []
pack_value WithEntry r a = move_value true r a

abbrev pub pack : CodeFunction → List Passed → (into temporary : ℕ) → List FlatInstruction
pack c [] r d = []
pack c (p ∷ ps) r d = pack_value p r (temporary_register c d) ++ pack c ps (r + register_count p) (d + 1)

-- a result comes to its temporary
abbrev pub unpack : Passed → (with_entry : Bool) → (into from : ℕ) → List FlatInstruction
unpack NoValue b d r = Constant d 0 ∷ untagged b d
unpack OneWord b d r = Move d r ∷ untagged b d
unpack WithEntry b d r = move_value b d r

abbrev pub runtime_call : Tac → CodeFunction → LibraryFunction → (line first : ℕ) → (with_entry : Bool)
    → List FlatInstruction
runtime_call t c f line d b =
    let r = moved_register c (5 * d) in
    let s = first_free c in
    pack c (signature f).takes r d
    ++ (Call (runtime_number t (library_place f)) r s
    ∷ (status_code s line (statuses_of f) ++ unpack (signature f).gives b (temporary_register c d) (s + 1)))

-- a routine of the library: the argument of the first three stands in the register that gets the result
abbrev pub library_code : InlineCode → Tac → CodeFunction → Routine → (line first : ℕ) → (with_entry : Bool)
    → List FlatInstruction
library_code i t c routine.Putchar line d b =
    let r = temporary_register c d in
    Put r ∷ (i.operators.convert UnsignedChar r r (first_free c) ++ untagged b r)
library_code i t c routine.Getchar line d b =
    let r = temporary_register c d in Get r ∷ untagged b r
library_code i t c routine.Exit line d b = Exit (temporary_register c d) ∷ []
library_code i t c routine.Abort line d b = End (AbortAt line) ∷ []
library_code i t c routine.Malloc line d b = runtime_call t c library.Malloc line d b
library_code i t c routine.Calloc line d b = runtime_call t c library.Calloc line d b
library_code i t c routine.Free line d b = runtime_call t c library.Free line d b
library_code i t c routine.Realloc line d b = runtime_call t c library.Realloc line d b
library_code i t c routine.Memcpy line d b = runtime_call t c library.Memcpy line d b
library_code i t c routine.Memmove line d b = runtime_call t c library.Memmove line d b
library_code i t c routine.Memset line d b = runtime_call t c library.Memset line d b
library_code i t c routine.Memcmp line d b = runtime_call t c library.Memcmp line d b
library_code i t c routine.Strlen line d b = runtime_call t c library.Strlen line d b
library_code i t c routine.Strcmp line d b = runtime_call t c library.Strcmp line d b
library_code i t c routine.Strcpy line d b = runtime_call t c library.Strcpy line d b
library_code i t c routine.Strncpy line d b = runtime_call t c library.Strncpy line d b
library_code i t c routine.Strcat line d b = runtime_call t c library.Strcat line d b
library_code i t c routine.Strchr line d b = runtime_call t c library.Strchr line d b
library_code i t c routine.Puts line d b = runtime_call t c library.Puts line d b

-- all bytes of a home become zero
abbrev pub zero_code : OperatorCode → Tac → CodeFunction → (variable size scratch : ℕ) → List FlatInstruction
zero_code o t c x size s =
    Move s (home_register c x)
    ∷ (o.constant (s + 1) size (s + 2) ++ (Call (runtime_number t zero_place) s (s + 2) ∷ []))

-- what the assignment of a structure gives is its place
abbrev pub write_structure_code : OperatorCode → Tac → (has_area with_entry : Bool)
    → (size into pointer value scratch : ℕ) → List FlatInstruction
write_structure_code o t area b size d p a s =
    Move s p ∷ (put_code o (runtime_number t) area a size s ++ move_value b d p)

-- ---- blocks

-- the home of an object: it begins so many bytes behind the first of its block, and shares key and lock word with it
abbrev pub place_home : OperatorCode → Entry → (offset size first key lock scratch : ℕ) → List FlatInstruction
place_home o e offset size first key lock s =
    number_code o offset s (s + 1)
    ++ (Operate Add e.base first (number_operand offset s)
    ∷ (number_code o size s (s + 1)
    ++ (Operate Add e.bound e.base (number_operand size s) ∷ Move e.key key ∷ Move e.lock lock ∷ [])))

-- the homes of the objects among all variables of a function from one on, each at a multiple of 16 behind those before
abbrev pub place_homes : OperatorCode → CodeFunction → (variable : ℕ) → List Variable
    → (offset first key lock scratch : ℕ) → List FlatInstruction
place_homes o c x [] offset first key lock s = []
place_homes o c x (v ∷ vs) offset first key lock s =
    if v.is_object
    then place_home o (home_entry c x) (rounded_up 16 offset) (size_of_kind v.kind) first key lock s
    ++ place_homes o c (suc x) vs (rounded_up 16 offset + size_of_kind v.kind) first key lock s
    else place_homes o c (suc x) vs offset first key lock s

-- The objects of a block are made: the end of the object stack from before is kept, a function of the runtime gets it with
-- the bytes of the objects and gives where the first begins, where the last ends, their key and their lock word.
abbrev pub enter_code : OperatorCode → MapSizes → Tac → CodeFunction → List Variable → (line : ℕ)
    → List FlatInstruction
enter_code o m t c vs line =
    let s = first_free c in
    read_top m (top_register c vs)
    ++ (Move s (top_register c vs)
    ∷ (o.constant (s + 1) (block_bytes vs) (s + 2)
    ++ (Call (runtime_number t enter_place) s (s + 2)
    ∷ (status_code (s + 2) line enter_statuses
    ++ (place_homes o c 0 vs 0 (s + 3) (s + 5) (s + 6) (s + 7) ++ write_top m (s + 4) (s + 7))))))

-- they die, and the object stack ends where it did
abbrev pub leave_code : InlineCode → MapSizes → CodeFunction → List Variable → List FlatInstruction
leave_code i m c vs =
    i.leave (lock_register c vs) (first_free c) ++ write_top m (top_register c vs) (first_free c)

-- ---- calls

-- the objects of the block of a function's body, those among its parameters too
abbrev pub objects_of_body : CodeFunction → List Variable
objects_of_body c = body_objects (header_of_code c)

abbrev pub result_of : Tac → CodeFunction → Kind
result_of t c = get_or t.results c.type_number Void

-- before a call whose result is a structure registers get what is needed to move it
abbrev pub await_result : OperatorCode → MapSizes → Tac → CodeFunction → Kind → (temporary : ℕ) → List FlatInstruction
await_result o m t c (Structure size) d = await_code o m t c size d (first_free c)
await_result o m t c k d = []

-- behind it: an entry that is not handed over is that of no pointer, and a structure is moved to the area of its temporary
abbrev pub result_code : Tac → CodeFunction → Kind → (with_entry : Bool) → (temporary : ℕ) → List FlatInstruction
result_code t c (OfScalar Pointer) b d = []
result_code t c (Structure size) b d = receive_code (runtime_number t) b (temporary_register c d) (first_free c)
result_code t c k b d = untagged b (temporary_register c d)

-- The tests of a call stand before it, at its line: of the charge, of the object stack and of the keys, in this order. So
-- the function of the callee is always entered, and knows no line.
abbrev pub call_code : OperatorCode → MapSizes → Tac → CodeFunction → (callee : CodeFunction)
    → (function line first : ℕ) → (with_entry : Bool) → List FlatInstruction
call_code o m t c callee f line d b =
    let s = first_free c in
    call_tests m callee.room line s
    ++ (object_tests m (objects_of_body callee) line s
    ++ (await_result o m t c (result_of t callee) d
    ++ (pack c (map (λ v. passed_as v.kind) callee.parameters) (moved_register c (5 * d)) d
    ++ (Call f (moved_register c (5 * d)) (temporary_register c d) ∷ result_code t c (result_of t callee) b d))))

-- of a function that is not there the call ends the run, and one with other arguments is never reached
abbrev pub call_of : OperatorCode → MapSizes → Tac → CodeFunction → Option CodeFunction
    → (function line first count : ℕ) → (with_entry : Bool) → List FlatInstruction
call_of o m t c None f line d n b = End (BadCallAt line) ∷ []
call_of o m t c (Some callee) f line d n b =
    if length callee.parameters == n then call_code o m t c callee f line d b else End (AbortAt line) ∷ []

-- ---- calls through pointers

-- The function is one of the type (C99 6.5.2.2): the key of the pointer has the highest bit, as that of a function has
-- alone, and the number of the type, and the pointer is still where the function is.
abbrev pub callee_tests : (kind line pointer scratch : ℕ) → List FlatInstruction
callee_tests kind line r s =
    Operate Srl s (held_from r).tag.key (Number 63)
    ∷ Branch Bne s (Number 0) 1
    ∷ End (BadCallAt line)
    ∷ Operate And s (held_from r).tag.key (Number (2 ^ 12 - 1))
    ∷ Branch Beq s (Number kind) 1
    ∷ End (BadCallAt line)
    ∷ Branch Beq r (Register (held_from r).tag.base) 1
    ∷ End (BadCallAt line)
    ∷ []

-- the charge, with the room of the callee from its key
abbrev pub room_tests : MapSizes → (key line scratch : ℕ) → List FlatInstruction
room_tests m key line s =
    Turn
    ∷ Charged s
    ∷ Operate Srl (s + 1) key (Number 31)
    ∷ Operate And (s + 1) (s + 1) (Number (2 ^ 25 - 1))
    ∷ Operate Add s s (Register (s + 1))
    ∷ Branch Bltu s (Number (m.budgets.calls + 1)) 1
    ∷ End (Stack line)
    ∷ []

-- objects of so many units of 16 bytes, a number in the register behind the first: there is room on the object stack, and
-- a key
abbrev pub units_tests : MapSizes → (line scratch : ℕ) → List FlatInstruction
units_tests m line s =
    Operate Sll (s + 1) (s + 1) (Number 4)
    ∷ (read_top m s
    ++ (round_code s s
    ++ (Operate Add s s (Register (s + 1))
    ∷ Constant (s + 1) (region_end m StackRegion + 1)
    ∷ Branch Bltu s (Register (s + 1)) 1
    ∷ End (Stack line)
    ∷ (keys_code m s (s + 1) ++ key_test s line))))

-- the objects of the callee, with their units from its key; where it has none nothing is tested
abbrev pub unknown_object_tests : MapSizes → (key line scratch : ℕ) → List FlatInstruction
unknown_object_tests m key line s =
    Operate Srl (s + 1) key (Number 12)
    ∷ Operate And (s + 1) (s + 1) (Number (2 ^ 19 - 1))
    ∷ Branch Beq (s + 1) (Number 0) (length (units_tests m line s))
    ∷ units_tests m line s

-- What stands before a call by name stands before one through a pointer, once it is known that the callee is of the type.
-- All functions of a type take and give values of the same kinds, those of one of them; arguments stand behind the
-- pointer.
abbrev pub through_code : OperatorCode → MapSizes → Tac → CodeFunction → (one : CodeFunction)
    → (kind line first : ℕ) → (with_entry : Bool) → List FlatInstruction
through_code o m t c one kind line d b =
    let s = first_free c in
    let r = temporary_register c d in
    let q = moved_register c (5 * (d + 1)) in
    callee_tests kind line r s
    ++ (room_tests m (held_from r).tag.key line s
    ++ (unknown_object_tests m (held_from r).tag.key line s
    ++ (await_result o m t c (result_of t one) d
    ++ (pack c (map (λ v. passed_as v.kind) one.parameters) q (d + 1)
    ++ (CallAddress r q (parameters_end one) r (result_words (result_of t one))
    ∷ result_code t c (result_of t one) b d)))))

-- where no function has the type no call is one, and one with other arguments is never reached
abbrev pub through_of : OperatorCode → MapSizes → Tac → CodeFunction → Option CodeFunction
    → (kind line first count : ℕ) → (with_entry : Bool) → List FlatInstruction
through_of o m t c None kind line d n b = End (BadCallAt line) ∷ []
through_of o m t c (Some one) kind line d n b =
    if length one.parameters == n then through_code o m t c one kind line d b else End (AbortAt line) ∷ []

-- ---- the block of an instruction

-- An instruction that is not covered ends the run, so that code never falls through its block.
abbrev pub block : Expansion → (function : ℕ) → CodeFunction → Instruction → List FlatInstruction
block e u c (tac.Skip m) = []
block e u c (tac.Constant d w m) =
    e.inline.operators.constant (temporary_register c d) w (first_free c)
    ++ untagged (e.entries u m d) (temporary_register c d)
block e u c (tac.FunctionPointer d f m) =
    function_code e.inline.operators (e.types f) f (e.entries u m d) (temporary_register c d) (first_free c)
block e u c (tac.GetPlain d x m) =
    get_code (plain_type (all_variables c) x) (e.entries u m d) (temporary_register c d) (variable_register c x)
block e u c (tac.SetPlain x a m) =
    set_code (plain_type (all_variables c) x) (variable_register c x) (temporary_register c a)
block e u c (tac.UpdatePlain w k f line d x right m) =
    update_plain_code e.inline c w k f line (e.entries u m d) (temporary_register c d) (variable_register c x) right
    (first_free c)
block e u c (tac.HomePointer d x m) = home_code c (e.entries u m d) (temporary_register c d) x
block e u c (tac.StaticPointer d n m) =
    static_code e.inline.operators (static_object e.map e.code n) (region_start e.map Locks) (e.entries u m d)
    (temporary_register c d) (first_free c)
block e u c (tac.ZeroOf (Structure size) d m) =
    zero_structure_code e.inline.operators e.map e.code c (runtime_number e.code) (e.entries u m d) size d
    (temporary_register c d) (first_free c)
block e u c (tac.ZeroOf kind d m) =
    Constant (temporary_register c d) 0 ∷ untagged (e.entries u m d) (temporary_register c d)
block e u c (tac.Convert kind d a m) =
    conversion e.inline kind (e.entries u m d) (temporary_register c d) (temporary_register c a) (first_free c)
block e u c (tac.Unary op ty d a m) =
    e.inline.operators.unary op ty (temporary_register c d) (temporary_register c a) (first_free c)
    ++ untagged (e.entries u m d) (temporary_register c d)
block e u c (tac.Binary op ty line d a b m) =
    e.inline.operators.binary op ty (temporary_register c d) (temporary_register c a) (temporary_register c b)
    (first_free c) line
    ++ untagged (e.entries u m d) (temporary_register c d)
block e u c (tac.Offset form size d a b m) =
    offset_code e.inline form size (temporary_register c d) (temporary_register c a) (temporary_register c b)
    (first_free c)
    ++ move_entry_if (e.entries u m d) (held_from (temporary_register c d)).tag
    (held_from (temporary_register c (pointer_of form a b))).tag
block e u c (tac.Difference size d a b m) =
    e.inline.difference size (temporary_register c d) (temporary_register c a) (temporary_register c b) (first_free c)
    ++ untagged (e.entries u m d) (temporary_register c d)
block e u c (tac.Narrow offset size d a m) =
    narrow_code e.inline (e.entries u m d) offset size (temporary_register c d) (temporary_register c a) (first_free c)
block e u c (tac.Member offset size d a m) =
    narrow_code e.inline (e.entries u m d) offset size (temporary_register c d) (temporary_register c a) (first_free c)
block e u c (tac.Take (Structure size) line d a m) =
    take_structure_code e.inline.operators e.map e.code c (runtime_number e.code) (e.entries u m d) size d
    (temporary_register c d) (temporary_register c a) (first_free c)
block e u c (tac.Read kind mode line key d a m) =
    read_code e.inline (may_read_part e.code c mode a) kind (e.entries u m d) (temporary_register c d)
    (temporary_register c a) (first_free c)
block e u c (tac.Write (OfScalar k) mode line key d a b m) =
    write_code e.inline k (e.entries u m d) (temporary_register c d) (temporary_register c a) (temporary_register c b)
    (first_free c)
block e u c (tac.Write (Structure size) mode line key d a b m) =
    write_structure_code e.inline.operators e.code (has_area e.code c b) (e.entries u m d) size (temporary_register c d)
    (temporary_register c a) (temporary_register c b) (first_free c)
block e u c (tac.Update w k f mode line at key d a right m) =
    update_code e.inline c w k f at (e.entries u m d) (temporary_register c d) (temporary_register c a) right
    (first_free c)
block e u c (tac.Judge test size line key a m) =
    judge_code e c test (key_in c key) size line (temporary_register c a) (first_free c)
block e u c (tac.Zero x m) =
    zero_code e.inline.operators e.code c x (size_of_kind (at_number (all_variables c) x).kind) (first_free c)
block e u c (tac.StorePart (OfScalar k) line x offset a m) =
    part_address e.inline.operators c x offset (first_free c)
    ++ e.inline.store (first_free c) (held_scalar k (temporary_register c a)) (first_free c + 1)
block e u c (tac.StorePart (Structure size) line x offset a m) =
    part_address e.inline.operators c x offset (first_free c)
    ++ put_code e.inline.operators (runtime_number e.code) (has_area e.code c a) (temporary_register c a) size
    (first_free c)
block e u c (tac.StoreText n x offset m) =
    part_address e.inline.operators c x offset (first_free c)
    ++ store_bytes (text_in e.code n) (first_free c) (first_free c + 1)
block e u c (tac.Branch a x y) = Branch Bne (temporary_register c a) (Number 0) 1 ∷ []
block e u c (tac.Case a w x y) =
    e.inline.operators.constant (first_free c) w (first_free c + 1)
    ++ (Branch Beq (temporary_register c a) (Register (first_free c)) 1 ∷ [])
block e u c (tac.Turn counted m) = Turn ∷ []
block e u c (tac.Library r line d n m) = library_code e.inline e.code c r line d (e.entries u m d)
block e u c (tac.Print x line d n m) =
    print_code (runtime_number e.code) (λ r. status_code r line scan_statuses) c
    (pieces_or_none (pieces (text_in e.code x))) d
    ++ untagged (e.entries u m d) (temporary_register c d)
block e u c (tac.Call f line d n m) =
    call_of e.inline.operators e.map e.code c (function_in e.code f) f line d n (e.entries u m d)
block e u c (tac.CallThrough type_number line d n m) =
    let kind = first_of_type e.code.functions type_number in
    through_of e.inline.operators e.map e.code c (slice_get e.code.functions kind) kind line d n (e.entries u m d)
block e u c (tac.EnterBlock b line m) =
    enter_code e.inline.operators e.map e.code c (objects_in (Some c) b) line
block e u c (tac.LeaveBlock b m) = leave_code e.inline e.map c (objects_in (Some c) b)
block e u c (tac.Return a) =
    (if has_objects (objects_of_body c) then leave_code e.inline e.map c (objects_of_body c) else [])
    ++ (Return (temporary_register c a) ∷ [])
block e u c i = End (AbortAt 1) ∷ []

-- ---- where a function begins

-- so many registers become 0
abbrev pub zeros : (register count : ℕ) → List FlatInstruction
zeros r zero = []
zeros r (suc n) = Constant r 0 ∷ zeros (r + 1) n

-- the registers of the plain variables behind the parameters become 0
abbrev pub zero_variables : CodeFunction → List FlatInstruction
zero_variables c = zeros (parameters_end c + 1) (total variable_words c.variables)

-- A parameter that is an object gets its argument: a scalar by an access, and the contents of a structure by a function of
-- the runtime.
abbrev pub store_parameter : InlineCode → Tac → CodeFunction → Kind → (variable : ℕ) → List FlatInstruction
store_parameter i t c (OfScalar k) x =
    i.store (home_register c x) (held_scalar k (variable_register c x)) (first_free c)
store_parameter i t c (Structure size) x =
    store_structure_code i.operators (runtime_number t) size (home_register c x) (variable_register c x) (first_free c)
store_parameter i t c kind x = End (AbortAt 1) ∷ []

abbrev pub store_parameters : InlineCode → Tac → CodeFunction → (variable : ℕ) → List Variable → List FlatInstruction
store_parameters i t c x [] = []
store_parameters i t c x (v ∷ vs) =
    (if v.is_object then store_parameter i t c v.kind x else []) ++ store_parameters i t c (suc x) vs

abbrev pub enter_body : Expansion → CodeFunction → List FlatInstruction
enter_body e c =
    enter_code e.inline.operators e.map e.code c (objects_of_body c) c.line
    ++ store_parameters e.inline e.code c 0 c.parameters

-- Every plain variable but a parameter is 0, so that no value but an argument is needed where a function is entered; then
-- the objects of its body are made, for which its caller has tested that there is room.
abbrev pub prologue : Expansion → CodeFunction → List FlatInstruction
prologue e c = zero_variables c ++ (if has_objects (objects_of_body c) then enter_body e c else [])

-- ---- where a run begins

-- the global lock word and the end of the object stack, which no file holds
abbrev pub start_code : MapSizes → List FlatInstruction
start_code m =
    Constant 0 (region_start m Locks)
    ∷ Constant 1 1
    ∷ Store Sd 0 0 1
    ∷ Constant 0 (top_cell m)
    ∷ Constant 1 (region_start m StackRegion)
    ∷ Store Sd 0 0 1
    ∷ []

abbrev pub main_tests : MapSizes → Option CodeFunction → List FlatInstruction
main_tests m None = []
main_tests m (Some c) = call_tests m c.room c.line 0 ++ object_tests m (objects_of_body c) c.line 0

-- `main` is called at the line of its name, and its result is the status. Three turns stand before that of the call, for
-- what the machine does before its first instruction here.
abbrev pub before_main : MapSizes → Tac → List FlatInstruction
before_main m t = Turn ∷ Turn ∷ Turn ∷ (start_code m ++ main_tests m (function_in t t.main))

abbrev pub entry_code : MapSizes → Tac → List FlatInstruction
entry_code m t = before_main m t ++ (Call t.main 0 0 ∷ Exit 0 ∷ [])

-- Structures and unions by value (C99 6.5.2.2 paragraph 4, 6.5.16.1, 6.8.6.4 paragraph 3): one that is assigned from its
-- place is moved by a function of the runtime, and so are contents that lie in the area of a temporary.
use Rattle.std.specs.Prelude.{◌≡◌, ℕ, ◌+◌, ◌-◌, ◌*◌, ◌%◌, ◌≤◌, Bool, true, false, List, [], ◌∷◌, ◌++◌, Some, slice_get}
use Rattle.std.specs.Prelude.{length}
use Rattle.addr_map.specs.declared.region.Region.TheVariants.{StructureValues}
use Rattle.addr_map.specs.Places.{MapSizes, region_start}
use Rattle.obj_memory.specs.declared.int_type.IntType.TheVariants.{UnsignedLong}
use Rattle.obj_memory.specs.declared.value.Scalar.{Scalar}
use Rattle.obj_memory.specs.declared.value.Scalar.TheVariants.{Integer, Pointer}
use Rattle.rv_isa.specs.declared.instruction.BranchOp.TheVariants.{Bne}
use Rattle.rv_isa.specs.declared.instruction.RegOp.TheVariants.{Add}
use Rattle.tac_ir.specs.declared.function.CodeFunction.{CodeFunction}
use Rattle.tac_ir.specs.declared.function.Tac.{Tac}
use Rattle.tac_ir.specs.Structures.{structures_below}
use Rattle.flat_code.specs.declared.instruction.RightOperand.TheVariants.{Number, Register}
use Rattle.flat_code.specs.declared.instruction.FlatInstruction.{FlatInstruction}
use Rattle.flat_code.specs.declared.instruction.FlatInstruction.TheVariants.{Branch, Call, Charged, Constant}
use Rattle.flat_code.specs.declared.instruction.FlatInstruction.TheVariants.{JumpForward, Move, Operate}
use Rattle.lib_wrappers.specs.declared.accesses.held.HeldScalar.TheVariants.{Integer as HeldInteger}
use Rattle.lib_wrappers.specs.declared.accesses.held.HeldScalar.TheVariants.{Pointer as HeldPointer}
use Rattle.lib_wrappers.specs.AccessRoutines.Accessing.{no_entry}
use Rattle.lib_wrappers.specs.AreaRoutines.Areas.{whole_words}
use Rattle.lib_wrappers.specs.AreaRoutines.Reading.{read_part_code}
use Rattle.runtime_functions.specs.Library.{held_from}
use Rattle.metadata_plan.specs.Operators.{OperatorCode}

-- ---- functions of the runtime

-- the place of each in their list, by which another function tells its number
abbrev pub copy_place : ℕ
copy_place = 24

abbrev pub zero_area_place : ℕ
zero_area_place = 26

abbrev pub take_area_place : ℕ
take_area_place = 27

abbrev pub put_area_place : ℕ
put_area_place = 28

abbrev pub move_area_place : ℕ
move_area_place = 29

-- ---- from place to place

-- A structure of some bytes is moved to the address in the first of some registers, from that in another one.
abbrev pub copy_code : OperatorCode → (number : (place : ℕ) → ℕ) → (from size scratch : ℕ) → List FlatInstruction
copy_code o number a size s =
    Move (s + 1) a ∷ (o.constant (s + 2) size (s + 3) ++ (Call (number copy_place) s (s + 3) ∷ []))

-- ---- areas

-- A function is charged five bytes for each of its structures, in areas that begin at multiples of 8.
pub record HasAreas (t : Tac) (c : CodeFunction) : Type 0 where
  pub fit : (n : ℕ) → 5 * structures_below t c.code n ≤ c.room
  pub whole : c.room % 8 ≡ 0

-- so is each function of a program
pub record HaveAreas (t : Tac) : Type 0 where
  pub each : (u : ℕ) (c : CodeFunction) → slice_get t.functions u ≡ Some c → HasAreas t c

-- where the area of a temporary begins is put into a register: areas lie as the calls are charged, those of a function
-- from where those of the functions that wait end
abbrev pub area_code : OperatorCode → MapSizes → Tac → CodeFunction → (temporary into : ℕ) → List FlatInstruction
area_code o m t c i r =
    Charged r
    ∷ (o.constant (r + 1) (region_start m StructureValues - c.room + 5 * structures_below t c.code i) (r + 2)
    ++ (Operate Add r r (Register (r + 1)) ∷ []))

-- where the entries of contents of some bytes begin, behind the area whose address a register has
abbrev pub bound_code : OperatorCode → (size area into : ℕ) → List FlatInstruction
bound_code o size a r = o.constant r (whole_words size) (r + 1) ++ (Operate Add r r (Register a) ∷ [])

-- The registers of a temporary get the part that is all of the contents in an area: its address is in one register, and
-- where its entries begin in another one. It has no key, and no lock word.
abbrev pub hold_area : (with_entry : Bool) → (into area bound : ℕ) → List FlatInstruction
hold_area false d a e = Move d a ∷ []
hold_area true d a e =
    Move d a
    ∷ Move (held_from d).tag.base a
    ∷ Move (held_from d).tag.bound e
    ∷ Constant (held_from d).tag.key 0
    ∷ Constant (held_from d).tag.lock 0
    ∷ []

-- What a call that leaves contents in the area of a temporary begins with: three registers have where the area begins, where
-- its entries do, and as the first argument where it begins.
abbrev pub begin_area_code : OperatorCode → MapSizes → Tac → CodeFunction → (size temporary scratch : ℕ)
    → List FlatInstruction
begin_area_code o m t c size i s =
    area_code o m t c i s ++ (bound_code o size s (s + 1) ++ (Move (s + 2) s ∷ []))

-- a structure of zeros in the area of a temporary
abbrev pub zero_structure_code : OperatorCode → MapSizes → Tac → CodeFunction → (number : (place : ℕ) → ℕ)
    → (with_entry : Bool) → (size temporary into scratch : ℕ) → List FlatInstruction
zero_structure_code o m t c number b size i d s =
    begin_area_code o m t c size i s
    ++ (o.constant (s + 3) size (s + 4) ++ (Call (number zero_area_place) (s + 2) (s + 4) ∷ hold_area b d s (s + 1)))

-- the registers of a part go to others
abbrev pub move_part : (into from : ℕ) → List FlatInstruction
move_part d a =
    Move d a
    ∷ Move (held_from d).tag.base (held_from a).tag.base
    ∷ Move (held_from d).tag.bound (held_from a).tag.bound
    ∷ Constant (held_from d).tag.key 0
    ∷ Constant (held_from d).tag.lock 0
    ∷ []

-- a function gets a part of contents, which some registers hold, and how many bytes of it, behind the first argument
abbrev pub part_call_code : OperatorCode → (function size from first : ℕ) → List FlatInstruction
part_call_code o function size a f =
    o.constant (f + 1) size (f + 2) ++ (move_part (f + 2) a ++ (Call function f (f + 7) ∷ []))

-- the part is moved to the area whose address is in the first argument
abbrev pub take_part_code : OperatorCode → (number : (place : ℕ) → ℕ) → (size from first : ℕ) → List FlatInstruction
take_part_code o number size a f = part_call_code o (number move_area_place) size a f

-- a structure is taken there from its place
abbrev pub take_place_code : OperatorCode → (number : (place : ℕ) → ℕ) → (size from first : ℕ) → List FlatInstruction
take_place_code o number size a f =
    Move (f + 1) a ∷ (o.constant (f + 2) size (f + 3) ++ (Call (number take_area_place) f (f + 7) ∷ []))

-- The contents of a structure are taken to the area of a temporary: a value with a lock word is a place, and any other a
-- part of contents.
abbrev pub take_structure_code : OperatorCode → MapSizes → Tac → CodeFunction → (number : (place : ℕ) → ℕ)
    → (with_entry : Bool) → (size temporary into from scratch : ℕ) → List FlatInstruction
take_structure_code o m t c number b size i d a s =
    begin_area_code o m t c size i s
    ++ (Branch Bne (held_from a).tag.lock (Number 0) (length (take_part_code o number size a (s + 2)) + 1)
    ∷ (take_part_code o number size a (s + 2)
    ++ (JumpForward (length (take_place_code o number size a (s + 2)))
    ∷ (take_place_code o number size a (s + 2) ++ hold_area b d s (s + 1)))))

-- ---- results (C99 6.8.6.4 paragraph 3)

-- Where the areas of a function begin that is called next: behind what the calls are charged where the call stands. A
-- result stands in the first of them, and registers get the part that is all of it.
abbrev pub callee_part_code : OperatorCode → MapSizes → (size into : ℕ) → List FlatInstruction
callee_part_code o m size r =
    Charged r
    ∷ (o.constant (r + 1) (region_start m StructureValues) (r + 2)
    ++ (Operate Add r r (Register (r + 1))
    ∷ Move (r + 1) r
    ∷ (bound_code o size r (r + 2) ++ (Constant (r + 3) 0 ∷ Constant (r + 4) 0 ∷ []))))

-- Before a call whose result is a structure registers get where the area of its temporary begins, where its entries do, and
-- the arguments of the function that moves the result there: where to, how many bytes, and which part.
abbrev pub await_code : OperatorCode → MapSizes → Tac → CodeFunction → (size temporary scratch : ℕ)
    → List FlatInstruction
await_code o m t c size i s =
    begin_area_code o m t c size i s ++ (o.constant (s + 3) size (s + 4) ++ callee_part_code o m size (s + 4))

-- behind the call it is moved
abbrev pub receive_code : (number : (place : ℕ) → ℕ) → (with_entry : Bool) → (into scratch : ℕ)
    → List FlatInstruction
receive_code number b d s = Call (number move_area_place) (s + 2) (s + 9) ∷ hold_area b d s (s + 1)

-- ---- to a place

-- A structure is assigned to the place whose address is in the first argument: from its place, or from contents.
abbrev pub assign_code : OperatorCode → (number : (place : ℕ) → ℕ) → (size from first : ℕ) → List FlatInstruction
assign_code o number size a f =
    Branch Bne (held_from a).tag.lock (Number 0) (length (part_call_code o (number put_area_place) size a f) + 1)
    ∷ (part_call_code o (number put_area_place) size a f
    ++ (JumpForward (length (copy_code o number a size f)) ∷ copy_code o number a size f))

-- It is from its place alone where the temporary has no area.
abbrev pub put_code : OperatorCode → (number : (place : ℕ) → ℕ) → (has_area : Bool) → (from size scratch : ℕ)
    → List FlatInstruction
put_code o number false a size s = copy_code o number a size s
put_code o number true a size s = assign_code o number size a s

-- ---- members of contents (C99 6.5.2.3 paragraph 3)

-- A scalar is read out of contents, a part of which some registers hold. Of a pointer whose entry nothing reads the word is
-- read alone, and an integer gets the entry of no pointer where its temporary has one.
abbrev pub scalar_part_code : Scalar → (with_entry : Bool) → (into from scratch : ℕ) → List FlatInstruction
scalar_part_code (Integer t) false d a s = read_part_code (held_from a) (HeldInteger t d) s
scalar_part_code (Integer t) true d a s =
    read_part_code (held_from a) (HeldInteger t d) s ++ no_entry (held_from d).tag
scalar_part_code Pointer false d a s = read_part_code (held_from a) (HeldInteger UnsignedLong d) s
scalar_part_code Pointer true d a s = read_part_code (held_from a) (HeldPointer (held_from d)) s

-- What is done with a value that may be a part of contents: one with a lock word is a place, and any other is a part.
abbrev pub place_or_part : (may_be_part : Bool) → (value : ℕ) → (part place : List FlatInstruction)
    → List FlatInstruction
place_or_part false a part place = place
place_or_part true a part place =
    Branch Bne (held_from a).tag.lock (Number 0) (length part + 1)
    ∷ (part ++ (JumpForward (length place) ∷ place))

-- ---- parameters

-- a parameter that is a structure is put from its argument to its home
abbrev pub store_structure_code : OperatorCode → (number : (place : ℕ) → ℕ) → (size home from scratch : ℕ)
    → List FlatInstruction
store_structure_code o number size home a s =
    Move s home ∷ part_call_code o (number put_area_place) size a s

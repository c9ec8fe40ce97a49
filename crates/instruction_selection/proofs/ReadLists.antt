-- What reads scalars, out of contents or from their places: how many instructions these are, and which is run.
use Rattle.std.proofs.Common.{◌≡◌, ℕ, ◌+◌, ◌^◌, ◌<◌, ◌≤◌, Bool, true, false, List, ◌∷◌, ◌++◌, length}
use Rattle.std.proofs.Common.{refl, ap, ◌∙◌, arith, append_assoc}
use Rattle.addr_map.specs.Places.{MapSizes}
use Rattle.obj_memory.specs.declared.int_type.IntType.{IntType}
use Rattle.obj_memory.specs.declared.value.Scalar.{Scalar}
use Rattle.obj_memory.specs.declared.value.Scalar.TheVariants.{Integer, Pointer}
use Rattle.flat_code.specs.declared.instruction.FlatInstruction.{FlatInstruction}
use Rattle.flat_code.specs.Routines.Registers.{AreBelow}
use Rattle.flat_code.specs.Routines.Shape.{HasShape}
use Rattle.shadow_space.specs.Form.{EntryCode}
use Rattle.flat_actions.specs.Actions.{registers_of}
use Rattle.lib_wrappers.specs.declared.accesses.held.HeldScalar.{HeldScalar}
use Rattle.lib_wrappers.specs.declared.accesses.held.HeldScalar.TheVariants.{Integer as HeldInteger}
use Rattle.lib_wrappers.specs.declared.accesses.held.HeldScalar.TheVariants.{Pointer as HeldPointer}
use Rattle.lib_wrappers.specs.AccessRoutines.Accessing.{load_code as load_list, load_length}
use Rattle.lib_wrappers.specs.AccessRoutines.Holding.{holder_in}
use Rattle.lib_wrappers.specs.AreaRoutines.Reading.{read_part_code}
use Rattle.runtime_functions.specs.Library.{held_from}
use Rattle.metadata_relation.specs.Blocks.{load_code, untagged}
use Rattle.metadata_relation.specs.InlineLists.{inline_lists}
use Rattle.metadata_relation.specs.Structures.{place_or_part, scalar_part_code}
use Rattle.instruction_selection.specs.Structures.{either_code}
use Rattle.instruction_selection.proofs.Operands.{are_below}
use Rattle.instruction_selection.proofs.StructureLists.{either_put}

-- ---- out of contents

integer_list : (t : IntType) (b : Bool) (d a s : ℕ)
    → read_part_code (held_from a) (HeldInteger t d) s ++ untagged b d ≡ scalar_part_code (Integer t) b d a s
integer_list t true d a s = refl
integer_list t false d a s = refl

pub integer_read : (t : IntType) (b : Bool) (d a s : ℕ) (before : List FlatInstruction) {n l : List FlatInstruction}
    → n ≡ before ++ read_part_code (held_from a) (HeldInteger t d) s → l ≡ n ++ untagged b d
    → l ≡ before ++ scalar_part_code (Integer t) b d a s
integer_read t b d a s before read put =
    put
    ∙ (ap (λ is. is ++ untagged b d) read
    ∙ (append_assoc before (read_part_code (held_from a) (HeldInteger t d) s) (untagged b d)
    ∙ ap (λ is. before ++ is) (integer_list t b d a s)))

part_length : (k : Scalar) (b : Bool) (d a s : ℕ) → length (scalar_part_code k b d a s) ≤ 20
part_length (Integer t) true d a s = omega arith
part_length (Integer t) false d a s = omega arith
part_length Pointer true d a s = omega arith
part_length Pointer false d a s = omega arith

pub part_short : (k : Scalar) (b : Bool) (d a s : ℕ) (list : List FlatInstruction)
    → list ≡ scalar_part_code k b d a s → length list < 2 ^ 31
part_short k b d a s list e =
    let few = part_length k b d a s in
    let same = ap (λ is. length is) e in
    omega (arith, few, same)

-- ---- from their places

-- the lists that load scalars are short, over any registers
abbrev pub AreShort : EntryCode → MapSizes → Type 0
AreShort read m =
    (address : ℕ) (into : HeldScalar) (t : ℕ) → AreBelow t (address ∷ registers_of (holder_in into))
    → HasShape (load_list read m address into t) (load_length into) (t + 3)

load_short : (read write : EntryCode) (m : MapSizes) (k : Scalar) (b : Bool) (d a s : ℕ) → AreShort read m → d + 5 ≤ s
    → length (load_code (inline_lists read write m) k b d a s) ≤ 25
load_short read write m (Integer t) true d a s short below = omega arith
load_short read write m (Integer t) false d a s short below = omega arith
load_short read write m Pointer true d a s short below =
    let few = (short s (HeldPointer (held_from d)) (s + 1) (omega arith, are_below d (s + 1) (omega (arith, below)))).few in
    omega (arith, few)
load_short read write m Pointer false d a s short below = omega arith

pub place_short : (read write : EntryCode) (m : MapSizes) (k : Scalar) (b : Bool) (d a s : ℕ)
    (list : List FlatInstruction) → AreShort read m → d + 5 ≤ s
    → list ≡ load_code (inline_lists read write m) k b d a s → length list < 2 ^ 31
place_short read write m k b d a s list short below e =
    let few = load_short read write m k b d a s short below in
    let same = ap (λ is. length is) e in
    omega (arith, few, same)

-- ---- either

pub place_or_part_put : (a r : ℕ) (before xs ys : List FlatInstruction) {first second after : List FlatInstruction}
    → r ≡ a + 4 → first ≡ xs → second ≡ ys → after ≡ before ++ either_code r first second
    → after ≡ before ++ place_or_part true a xs ys
place_or_part_put a r before xs ys same e f put = either_put (held_from a).tag.lock r before xs ys same e f put

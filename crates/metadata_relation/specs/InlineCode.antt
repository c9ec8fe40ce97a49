-- The lists of instructions that stand inline in the code of a program, by their registers, and what is asked of them,
-- whatever form the shadow space has.
use Rattle.std.specs.Prelude.{ℕ, ◌^◌, ◌<◌, ◌≤◌, List, [], ◌∷◌, Some}
use Rattle.rv_isa.specs.declared.instruction.StoreOp.TheVariants.{Sb}
use Rattle.addr_map.specs.Places.{MapSizes}
use Rattle.flat_code.specs.declared.instruction.RightOperand.{RightOperand}
use Rattle.flat_code.specs.declared.instruction.FlatInstruction.{FlatInstruction}
use Rattle.flat_code.specs.declared.instruction.FlatInstruction.TheVariants.{Store}
use Rattle.flat_code.specs.Meaning.{Context}
use Rattle.flat_code.specs.Memory.{Bytes}
use Rattle.flat_code.specs.declared.registers.Held.{Held}
use Rattle.flat_code.specs.Routines.InputOutput.{IsWithoutInputOutput}
use Rattle.flat_code.specs.Routines.Registers.{AreBelow}
use Rattle.flat_code.specs.Routines.Routine.{Does}
use Rattle.flat_code.specs.Routines.Metadata.{View, held_registers}
use Rattle.flat_operators.specs.Results.{IsResult, AreOperands, Anywhere}
use Rattle.flat_operators.specs.Pointers.{address_forward, address_back, elements_between}
use Rattle.flat_actions.specs.Actions.{registers_of, program_basis}
use Rattle.flat_actions.specs.Judgement.Testing.{IsBelow, IsSpatialRoutine, IsTemporalRoutine}
use Rattle.flat_actions.specs.Narrowing.{CanNarrow, IsNarrowRoutine, IsMoveOnRoutine}
use Rattle.obj_memory.specs.declared.int_type.IntType.TheVariants.{Char}
use Rattle.lib_wrappers.specs.declared.accesses.held.HeldScalar.{HeldScalar}
use Rattle.lib_wrappers.specs.declared.accesses.held.HeldScalar.TheVariants.{Integer}
use Rattle.lib_wrappers.specs.AccessRoutines.Holding.{holder_in, IsApartFrom}
use Rattle.lib_wrappers.specs.AccessRoutines.Accessing.{IsLoadRoutine, IsStoreRoutine}
use Rattle.lib_wrappers.specs.AllocatingRoutines.Entering.{IsLeaveRoutine}
use Rattle.metadata_plan.specs.Operators.{OperatorCode, AreOperators}

-- The operators on integers; addresses that move by elements of a size, and their difference; scalars loaded and stored
-- through the register of an address; the two checks of a pointer; a pointer narrowed in place; and a block left by the
-- register of its lock word. The registers from scratch on are their own.
pub record InlineCode : Type 0 where
  pub operators : OperatorCode
  pub forward : (size into address index scratch : ℕ) → List FlatInstruction
  pub back : (size into address index scratch : ℕ) → List FlatInstruction
  pub difference : (size into left right scratch : ℕ) → List FlatInstruction
  pub load : (address : ℕ) → (into : HeldScalar) → (scratch : ℕ) → List FlatInstruction
  pub store : (address : ℕ) → (from : HeldScalar) → (scratch : ℕ) → List FlatInstruction
  pub spatial_check : Held → (size : RightOperand) → (line scratch : ℕ) → List FlatInstruction
  pub temporal_check : Held → (line scratch : ℕ) → List FlatInstruction
  pub narrow : Held → (offset size : RightOperand) → (scratch : ℕ) → List FlatInstruction
  pub leave : (lock scratch : ℕ) → List FlatInstruction

-- from wherever they stand lists on addresses leave a value, within seven steps
abbrev pub Leaves : (code : (size into left right scratch : ℕ) → List FlatInstruction)
    → (value : (size left right : ℕ) → ℕ) → (least : ℕ) → Type 0
Leaves code value least =
    (c : Context) (line size into left right scratch : ℕ) → least ≤ size → size < 2 ^ 64
    → AreOperands into left right scratch
    → Does c (code size into left right scratch) Anywhere (λ s. 7)
    (λ s. IsResult (Some (value size (s.values left) (s.values right))) line into scratch s)

-- none takes an input or puts an output, so that each step counts what an instruction weighs
pub record ComputeAlone (code : InlineCode) : Type 0 where
  pub forward : (size into left right scratch : ℕ) → IsWithoutInputOutput (code.forward size into left right scratch)
  pub back : (size into left right scratch : ℕ) → IsWithoutInputOutput (code.back size into left right scratch)
  pub difference : (size into left right scratch : ℕ)
      → IsWithoutInputOutput (code.difference size into left right scratch)
  pub load : (address : ℕ) (into : HeldScalar) (scratch : ℕ) → AreBelow scratch (address ∷ registers_of (holder_in into))
      → IsApartFrom address into → IsWithoutInputOutput (code.load address into scratch)
  pub store : (address : ℕ) (from : HeldScalar) (scratch : ℕ)
      → AreBelow scratch (address ∷ registers_of (holder_in from))
      → IsWithoutInputOutput (code.store address from scratch)
  pub spatial_check : (h : Held) (size : RightOperand) (line scratch : ℕ)
      → IsWithoutInputOutput (code.spatial_check h size line scratch)
  pub temporal_check : (h : Held) (line scratch : ℕ) → IsWithoutInputOutput (code.temporal_check h line scratch)
  pub narrow : (h : Held) (offset size : RightOperand) (scratch : ℕ)
      → IsWithoutInputOutput (code.narrow h offset size scratch)
  pub leave : (lock scratch : ℕ) → lock < scratch → IsWithoutInputOutput (code.leave lock scratch)

-- a difference in elements of a size of 33 bits within five
abbrev pub LeavesSoon : (code : (size into left right scratch : ℕ) → List FlatInstruction) → Type 0
LeavesSoon code =
    (c : Context) (line size into left right scratch : ℕ) → 1 ≤ size → size < 2 ^ 33
    → AreOperands into left right scratch
    → Does c (code size into left right scratch) Anywhere (λ s. 5)
    (λ s. IsResult (Some (elements_between size (s.values left) (s.values right))) line into scratch s)

-- What is asked of them, in functions of the program, and of the instruction that stores a byte. An element has a byte at
-- least where its size divides.
pub record IsInlineCode (map : MapSizes) (entry : View) (IsGood : Bytes → Type 0) (code : InlineCode) : Type 0 where
  pub operators : AreOperators code.operators
  pub forward : Leaves code.forward address_forward 0
  pub back : Leaves code.back address_back 0
  pub difference : Leaves code.difference elements_between 1
  pub few_difference : LeavesSoon code.difference
  pub load : (address : ℕ) (into : HeldScalar) (scratch : ℕ) → AreBelow scratch (address ∷ registers_of (holder_in into))
      → IsApartFrom address into
      → IsLoadRoutine (program_basis map entry IsGood) address into scratch (code.load address into scratch)
  pub store : (address : ℕ) (from : HeldScalar) (scratch : ℕ)
      → AreBelow scratch (address ∷ registers_of (holder_in from))
      → IsStoreRoutine (program_basis map entry IsGood) address from scratch (code.store address from scratch)
  pub byte : (address from scratch : ℕ) → AreBelow scratch (address ∷ from ∷ [])
      → IsStoreRoutine (program_basis map entry IsGood) address (Integer Char from) scratch (Store Sb address 0 from ∷ [])
  pub spatial_check : (h : Held) (size : RightOperand) (line scratch : ℕ) → AreBelow scratch (held_registers h)
      → IsBelow scratch size → IsSpatialRoutine h size line scratch (code.spatial_check h size line scratch)
  pub temporal_check : (h : Held) (line scratch : ℕ) → AreBelow scratch (held_registers h)
      → IsTemporalRoutine h line scratch (code.temporal_check h line scratch)
  pub narrow : (h : Held) (offset size : RightOperand) (scratch : ℕ) → CanNarrow h offset size scratch
      → IsNarrowRoutine h offset size scratch (code.narrow h offset size scratch)
  pub moves_on : (h : Held) (offset size : RightOperand) (scratch : ℕ) → CanNarrow h offset size scratch
      → IsMoveOnRoutine h offset scratch (code.narrow h offset size scratch)
  pub leave : (lock scratch : ℕ) → lock < scratch
      → IsLeaveRoutine map entry IsGood lock scratch (code.leave lock scratch)
  pub computes : ComputeAlone code

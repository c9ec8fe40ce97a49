-- A pointer narrowed in flat code to a member of what it points to.
use Rattle.std.specs.Prelude.{◌≡◌, ℕ, ◌+◌, ◌%◌, ◌^◌, ◌<◌, Bool, List, [], ◌∷◌}
use Rattle.addr_map.specs.Places.{MapSizes, AreMapped}
use Rattle.rv_isa.specs.declared.instruction.BranchOp.TheVariants.{Beq, Bgeu, Bltu}
use Rattle.rv_isa.specs.declared.instruction.RegOp.TheVariants.{Add, Sub}
use Rattle.obj_memory.specs.declared.value.Value.{Value}
use Rattle.obj_memory.specs.Objects.{Objects}
use Rattle.obj_memory.specs.Judgement.{narrowed}
use Rattle.flat_code.specs.declared.instruction.RightOperand.{RightOperand}
use Rattle.flat_code.specs.declared.instruction.RightOperand.TheVariants.{Register, Number}
use Rattle.flat_code.specs.declared.instruction.FlatInstruction.{FlatInstruction}
use Rattle.flat_code.specs.declared.instruction.FlatInstruction.TheVariants.{Operate, Move, Branch}
use Rattle.flat_code.specs.State.{State}
use Rattle.flat_code.specs.Meaning.{right_value}
use Rattle.flat_code.specs.declared.registers.Held.{Held}
use Rattle.flat_code.specs.Routines.Registers.{AreBelow, AreDistinct, IsNoneOf, OthersStay}
use Rattle.flat_code.specs.Routines.Routine.{Does, Either, Never}
use Rattle.flat_code.specs.Routines.Metadata.{held_registers, metadata_in, ShowsNothing}
use Rattle.flat_code.specs.Routines.Objects.StandsFor.{Views, Keys, Spells}
use Rattle.flat_actions.specs.Judgement.Testing.{IsToTest}

-- the registers of a pointer that narrowing writes
abbrev pub narrowed_registers : Held → List ℕ
narrowed_registers h = h.value ∷ h.tag.base ∷ h.tag.bound ∷ []

-- an operand is a number, or a register below scratch that narrowing does not write
abbrev pub IsOther : Held → (scratch : ℕ) → RightOperand → Type 0
IsOther h t (Register x) = (x < t) × IsNoneOf x (narrowed_registers h)
IsOther h t (Number n) = Unit {0}

-- The pointer's registers differ and are below the first that a routine may use for itself, and the operands are others.
pub record CanNarrow (held : Held) (offset size : RightOperand) (scratch : ℕ) : Type 0 where
  pub below : AreBelow scratch (held_registers held)
  pub apart : AreDistinct (held_registers held)
  pub offset_is_other : IsOther held scratch offset
  pub size_is_other : IsOther held scratch size

-- The address goes on. With a lock word it is a pointer to an object: the base is at least the address, and the bound
-- at most the member's end, to which the bytes up to the bound are compared, without a sum that could wrap.
abbrev pub narrow_code : Held → (offset size : RightOperand) → (scratch : ℕ) → List FlatInstruction
narrow_code h offset size t =
    Operate Add h.value h.value offset
    ∷ Branch Beq h.tag.lock (Number 0) 6
    ∷ Branch Bgeu h.tag.base (Register h.value) 1
    ∷ Move h.tag.base h.value
    ∷ Branch Bltu h.tag.bound (Register h.value) 3
    ∷ Operate Sub t h.tag.bound (Register h.value)
    ∷ Branch Bltu t size 1
    ∷ Operate Add h.tag.bound h.value size
    ∷ []

-- the registers hold the narrowed pointer, and nothing else changed but registers from scratch on
pub record HasNarrowed (views : Views) (keys : Keys) (value : Value) (held : Held) (scratch : ℕ)
    (before after : State) : Type 0 where
  pub spells : Spells views keys value held after.values
  pub memory : after.memory ≡ before.memory
  pub shows : ShowsNothing before after
  pub others : OthersStay (narrowed_registers held) scratch before after

-- Of whatever objects, in functions of the program and of the runtime: within 8 steps the pointer is narrowed.
abbrev pub IsNarrowRoutine : Held → (offset size : RightOperand) → (scratch : ℕ) → List FlatInstruction → Type 0
IsNarrowRoutine h by many t r =
    (g : Views) (k : Keys) (objects : Objects) (v : Value) (offset size : ℕ) (runtime : Bool) (charge weight : ℕ)
    → AreMapped g.sizes
    → Does (record { sizes = g.sizes; is_runtime = runtime; charge = charge; weight = weight }) r
    (λ s. IsToTest g k objects v h s × (right_value by s.values ≡ offset) × (right_value many s.values ≡ size))
    (λ s. 8) (λ s. Either (HasNarrowed g k (narrowed offset size v) h t s) Never)

-- ---- what is no pointer to an object

-- The address goes on by so many bytes, and keeps its metadata.
pub record HasGoneOn (held : Held) (offset scratch : ℕ) (before after : State) : Type 0 where
  pub address : after.values held.value ≡ (before.values held.value + offset) % 2 ^ 64
  pub metadata : metadata_in after.values held.tag ≡ metadata_in before.values held.tag
  pub memory : after.memory ≡ before.memory
  pub shows : ShowsNothing before after
  pub others : OthersStay (held.value ∷ []) scratch before after

-- Whatever the registers stand for, where there is no lock word: within 8 steps the address alone goes on.
abbrev pub IsMoveOnRoutine : Held → (offset : RightOperand) → (scratch : ℕ) → List FlatInstruction → Type 0
IsMoveOnRoutine h by t r =
    (map : MapSizes) (offset : ℕ) (runtime : Bool) (charge weight : ℕ)
    → Does (record { sizes = map; is_runtime = runtime; charge = charge; weight = weight }) r
    (λ s. (s.values h.tag.lock ≡ 0) × (right_value by s.values ≡ offset)) (λ s. 8)
    (λ s. Either (HasGoneOn h offset t s) Never)

-- An area made zero: bytes of zero, and entries of words without a pointer.
use Rattle.std.specs.Prelude.{◌≡◌, ℕ, ◌+◌, ◌*◌, ◌<◌, List, [], ◌∷◌, ◌++◌}
use Rattle.addr_map.specs.Places.{MapSizes}
use Rattle.rv_isa.specs.declared.instruction.RegOp.TheVariants.{Add, Sll, Srl}
use Rattle.flat_code.specs.declared.instruction.RightOperand.TheVariants.{Register, Number}
use Rattle.flat_code.specs.declared.instruction.FlatInstruction.{FlatInstruction}
use Rattle.flat_code.specs.declared.instruction.FlatInstruction.TheVariants.{Constant, Move, Operate}
use Rattle.flat_code.specs.Memory.{KeepsBut}
use Rattle.flat_code.specs.State.{State}
use Rattle.flat_code.specs.Routines.Registers.{OthersStay}
use Rattle.flat_code.specs.Routines.Metadata.{ShowsNothing}
use Rattle.flat_actions.specs.Ranges.{DoesInRuntime}
use Rattle.lib_wrappers.specs.AreaRoutines.Areas.{IsAreaPlace, area_bytes}
use Rattle.lib_wrappers.specs.AreaRoutines.Loops.{word_loop, zero_body}

-- registers hold where an area begins, and the bytes of its contents
pub record IsToZeroArea (map : MapSizes) (at bytes n : ℕ) (state : State) : Type 0 where
  pub size_is : state.values bytes ≡ n
  pub place : IsAreaPlace map n (state.values at)

pub record HasZeroedArea (at n scratch : ℕ) (before after : State) : Type 0 where
  pub zeros : (i : ℕ) → i < area_bytes n → after.memory (before.values at + i) ≡ 0
  pub beside : KeepsBut (before.values at) (area_bytes n) before.memory after.memory
  pub shows : ShowsNothing before after
  pub others : OthersStay [] scratch before after

-- within 16 steps and 5 for each byte
abbrev pub IsZeroAreaRoutine : MapSizes → (at bytes scratch : ℕ) → List FlatInstruction → Type 0
IsZeroAreaRoutine map at bytes t r =
    (n : ℕ) → DoesInRuntime map r (IsToZeroArea map at bytes n) (16 + 5 * n) (HasZeroedArea at n t)

-- ---- its instructions

-- how many words an area has, and where it begins
abbrev pub area_words : (at bytes count word entry work : ℕ) → List FlatInstruction
area_words at bytes t p e w =
    Operate Add t bytes (Number 7)
    ∷ Operate Srl t t (Number 3)
    ∷ Operate Srl w bytes (Number 3)
    ∷ Operate Sll w w (Number 2)
    ∷ Operate Add t t (Register w)
    ∷ Move p at
    ∷ Constant e 0
    ∷ []

abbrev pub zero_area_code : (at bytes t : ℕ) → List FlatInstruction
zero_area_code at bytes t = area_words at bytes t (t + 1) (t + 2) (t + 3) ++ word_loop t (zero_body t)

-- A scalar read out of contents, which is no access (C99 6.5.2.3, of a structure that is no lvalue).
use Rattle.std.specs.Prelude.{◌≡◌, ℕ, ◌+◌, ◌≤◌, Bool, List, [], ◌∷◌, ◌++◌}
use Rattle.addr_map.specs.Places.{AreMapped}
use Rattle.rv_isa.specs.declared.instruction.LoadOp.TheVariants.{Ld}
use Rattle.rv_isa.specs.declared.instruction.RegOp.TheVariants.{Add, Sub, Sll, Sltu, Srl, Mul}
use Rattle.obj_memory.specs.declared.value.Value.{Value}
use Rattle.obj_memory.specs.Objects.{ObjectState}
use Rattle.obj_memory.specs.Access.{scalar_size, read_value}
use Rattle.flat_code.specs.declared.instruction.RightOperand.TheVariants.{Register, Number}
use Rattle.flat_code.specs.declared.instruction.FlatInstruction.{FlatInstruction}
use Rattle.flat_code.specs.declared.instruction.FlatInstruction.TheVariants.{Operate, Load}
use Rattle.flat_code.specs.State.{State}
use Rattle.flat_code.specs.declared.registers.Held.{Held}
use Rattle.flat_code.specs.Routines.Registers.{OthersStay}
use Rattle.flat_code.specs.Routines.Routine.{Does, Either, Never}
use Rattle.flat_code.specs.Routines.Metadata.{ShowsNothing}
use Rattle.flat_code.specs.Routines.Objects.StandsFor.{Views, Keys}
use Rattle.flat_actions.specs.Actions.{IsGivenIn, registers_of}
use Rattle.flat_actions.specs.Lists.{give_code}
use Rattle.lib_wrappers.specs.declared.accesses.held.HeldScalar.{HeldScalar}
use Rattle.lib_wrappers.specs.declared.accesses.held.HeldScalar.TheVariants.{Integer, Pointer}
use Rattle.lib_wrappers.specs.AccessRoutines.Holding.{scalar_in, holder_in}
use Rattle.lib_wrappers.specs.AccessRoutines.Accessing.{load_integer_code}
use Rattle.lib_wrappers.specs.AreaRoutines.Areas.{IsAreaPlace, IsArea, HoldsPart}

-- the scalar at an offset of contents
abbrev pub scalar_of_part : HeldScalar → (offset : ℕ) → ObjectState → Value
scalar_of_part s q c = read_value (scalar_in s) (record { object = 0; offset = q }) (c ∷ [])

-- registers hold the part, all of whose bytes are there
pub record IsToReadPart (views : Views) (keys : Keys) (contents : ObjectState) (offset a : ℕ) (into : HeldScalar)
    (held : Held) (state : State) : Type 0 where
  pub part : HoldsPart held contents.size offset a state.values
  pub room : offset + scalar_size (scalar_in into) ≤ contents.size
  pub place : IsAreaPlace views.sizes contents.size a
  pub area : IsArea views keys contents a state.memory

-- the value is held, and nothing else changed but registers from scratch on
pub record HasReadPart (views : Views) (keys : Keys) (value : Value) (into : HeldScalar) (scratch : ℕ)
    (before after : State) : Type 0 where
  pub given : IsGivenIn views keys (holder_in into) value after.values
  pub memory : after.memory ≡ before.memory
  pub shows : ShowsNothing before after
  pub others : OthersStay (registers_of (holder_in into)) scratch before after

abbrev pub read_steps : HeldScalar → ℕ
read_steps (Integer t r) = 1
read_steps (Pointer h) = 20

-- of whatever contents, in functions of the program and of the runtime
abbrev pub IsReadPartRoutine : Held → HeldScalar → (scratch : ℕ) → List FlatInstruction → Type 0
IsReadPartRoutine h into t r =
    (g : Views) (k : Keys) (c : ObjectState) (offset a : ℕ) (runtime : Bool) (charge weight : ℕ) → AreMapped g.sizes
    → Does (record { sizes = g.sizes; is_runtime = runtime; charge = charge; weight = weight }) r
    (IsToReadPart g k c offset a into h) (λ s. read_steps into)
    (λ s. Either (HasReadPart g k (scalar_of_part into offset c) into t s) Never)

-- ---- its instructions

-- a word and its entry, which becomes none where no word begins there
abbrev pub read_word : Held → (t : ℕ) → List FlatInstruction
read_word h t =
    Load Ld t h.value 0
    ∷ Operate Sub (t + 1) h.value (Register h.tag.base)
    ∷ Operate Sll (t + 2) (t + 1) (Number 61)
    ∷ Operate Sltu (t + 2) (t + 2) (Number 1)
    ∷ Operate Srl (t + 1) (t + 1) (Number 3)
    ∷ Operate Sll (t + 1) (t + 1) (Number 5)
    ∷ Operate Add (t + 1) (t + 1) (Register h.tag.bound)
    ∷ Load Ld (t + 3) (t + 1) 0
    ∷ Load Ld (t + 4) (t + 1) 8
    ∷ Load Ld (t + 5) (t + 1) 16
    ∷ Load Ld (t + 6) (t + 1) 24
    ∷ Operate Mul (t + 3) (t + 3) (Register (t + 2))
    ∷ Operate Mul (t + 4) (t + 4) (Register (t + 2))
    ∷ Operate Mul (t + 5) (t + 5) (Register (t + 2))
    ∷ Operate Mul (t + 6) (t + 6) (Register (t + 2))
    ∷ []

abbrev pub word_held : (t : ℕ) → Held
word_held t = record { value = t; tag = record { base = t + 3; bound = t + 4; key = t + 5; lock = t + 6 } }

abbrev pub read_pointer_code : Held → (into : Held) → (t : ℕ) → List FlatInstruction
read_pointer_code h into t = read_word h t ++ give_code (word_held t) into

-- a scalar of either kind
abbrev pub read_part_code : Held → HeldScalar → (t : ℕ) → List FlatInstruction
read_part_code h (Integer ty r) t = load_integer_code h.value ty r
read_part_code h (Pointer into) t = read_pointer_code h into t

-- how many instructions these are
abbrev pub read_length : HeldScalar → ℕ
read_length (Integer t r) = 1
read_length (Pointer h) = 20

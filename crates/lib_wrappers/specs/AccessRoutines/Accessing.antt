-- A scalar loaded and stored in flat code.
use Rattle.std.specs.Prelude.{ℕ, ◌+◌, true, false, List, [], ◌∷◌, ◌++◌, length}
use Rattle.rv_isa.specs.declared.instruction.BranchOp.TheVariants.{Beq, Bne}
use Rattle.rv_isa.specs.declared.instruction.RegOp.TheVariants.{Sll}
use Rattle.rv_isa.specs.declared.instruction.LoadOp.{LoadOp}
use Rattle.rv_isa.specs.declared.instruction.LoadOp.TheVariants.{Lb, Lh, Lw, Ld, Lbu, Lhu, Lwu}
use Rattle.rv_isa.specs.declared.instruction.StoreOp.{StoreOp}
use Rattle.rv_isa.specs.declared.instruction.StoreOp.TheVariants.{Sb, Sh, Sw, Sd}
use Rattle.addr_map.specs.Places.{MapSizes}
use Rattle.obj_memory.specs.declared.int_type.IntType.{IntType}
use Rattle.obj_memory.specs.declared.int_type.IntType.TheVariants.{Char, SignedChar, UnsignedChar, Short}
use Rattle.obj_memory.specs.declared.int_type.IntType.TheVariants.{UnsignedShort, Int, UnsignedInt, Long}
use Rattle.obj_memory.specs.declared.int_type.IntType.TheVariants.{UnsignedLong, LongLong, UnsignedLongLong}
use Rattle.obj_memory.specs.declared.value.Value.{Value}
use Rattle.obj_memory.specs.Access.{scalar_size}
use Rattle.source_meaning.specs.State.{State as Source, ◌>>◌, done}
use Rattle.source_meaning.specs.Actions.{integer, load, store}
use Rattle.source_meaning.specs.Keeping.{IsDirect}
use Rattle.source_meaning.specs.Library.{argument}
use Rattle.flat_code.specs.declared.instruction.RightOperand.TheVariants.{Number}
use Rattle.flat_code.specs.declared.instruction.FlatInstruction.{FlatInstruction}
use Rattle.flat_code.specs.declared.instruction.FlatInstruction.TheVariants.{Constant, Operate, Load, Store, Branch}
use Rattle.flat_code.specs.declared.instruction.FlatInstruction.TheVariants.{JumpForward}
use Rattle.flat_code.specs.declared.registers.Held.{Held}
use Rattle.flat_code.specs.declared.registers.Entry.{Entry}
use Rattle.flat_code.specs.Routines.Routine.{unless_code}
use Rattle.shadow_space.specs.Form.{EntryCode}
use Rattle.flat_actions.specs.Actions.{Basis, Nowhere, Word, Pointer as InPointer, IsAction}
use Rattle.flat_actions.specs.Actions.{IsActionIn}
use Rattle.lib_wrappers.specs.declared.accesses.held.HeldScalar.{HeldScalar}
use Rattle.lib_wrappers.specs.declared.accesses.held.HeldScalar.TheVariants.{Integer, Pointer}
use Rattle.lib_wrappers.specs.AccessRoutines.Holding.{scalar_in, holder_in}

-- the address is a pointer to bytes of a live object, of a scalar
abbrev pub IsToAccess : HeldScalar → Source → List Value → Type 0
IsToAccess s x vs = IsDirect x.objects (argument 0 vs) (scalar_size (scalar_in s))

-- ---- loading

-- by the width and the sign of the type
unfoldable pub load_op : IntType → LoadOp
load_op Char = Lbu
load_op SignedChar = Lb
load_op UnsignedChar = Lbu
load_op Short = Lh
load_op UnsignedShort = Lhu
load_op Int = Lw
load_op UnsignedInt = Lwu
load_op Long = Ld
load_op UnsignedLong = Ld
load_op LongLong = Ld
load_op UnsignedLongLong = Ld

-- the entry of a word that holds no pointer, in registers
abbrev pub no_entry : Entry → List FlatInstruction
no_entry e = Constant e.base 0 ∷ Constant e.bound 0 ∷ Constant e.key 0 ∷ Constant e.lock 0 ∷ []

-- An address is a multiple of 8 where its low three bits, alone in a word, are 0. There an entry of so many
-- instructions is read behind this, and elsewhere there is none.
abbrev pub word_code : (address : ℕ) → Held → (scratch entry_length : ℕ) → List FlatInstruction
word_code a into t n =
    Load Ld into.value a 0
    ∷ Operate Sll t a (Number 61)
    ∷ Branch Beq t (Number 0) 5
    ∷ (no_entry into.tag ++ JumpForward n ∷ [])

abbrev pub load_pointer_code : (address : ℕ) → Held → (scratch : ℕ) → (read : List FlatInstruction)
    → List FlatInstruction
load_pointer_code a into t read = word_code a into t (length read) ++ read

abbrev pub load_integer_code : (address : ℕ) → IntType → (into : ℕ) → List FlatInstruction
load_integer_code a t r = Load (load_op t) r a 0 ∷ []

-- a scalar of either kind, where entries are read so
abbrev pub load_code : EntryCode → MapSizes → (address : ℕ) → (into : HeldScalar) → (scratch : ℕ) → List FlatInstruction
load_code read map a (Integer t r) scratch = load_integer_code a t r
load_code read map a (Pointer h) scratch = load_pointer_code a h scratch (read map a h.tag scratch)

-- how many instructions these are at most
abbrev pub load_length : HeldScalar → ℕ
load_length (Integer t r) = 1
load_length (Pointer h) = 24

-- an integer takes one step, and a pointer what its entry takes and a few
abbrev pub load_steps : HeldScalar → ℕ
load_steps (Integer t r) = 1
load_steps (Pointer h) = 21

-- The register of the address alone is needed of the pointer, whatever line the source would end with.
abbrev pub IsLoadRoutine : Basis → (address : ℕ) → (into : HeldScalar) → (scratch : ℕ) → List FlatInstruction → Type 0
IsLoadRoutine basis a into t r =
    (line : ℕ)
    → IsActionIn basis (IsToAccess into) (λ vs. load (scalar_in into) false (argument 0 vs) line) (Word a ∷ [])
    (holder_in into) t (load_steps into) 0 r

-- ---- storing

-- by the width of the type
unfoldable pub store_op : IntType → StoreOp
store_op Char = Sb
store_op SignedChar = Sb
store_op UnsignedChar = Sb
store_op Short = Sh
store_op UnsignedShort = Sh
store_op Int = Sw
store_op UnsignedInt = Sw
store_op Long = Sd
store_op UnsignedLong = Sd
store_op LongLong = Sd
store_op UnsignedLongLong = Sd

abbrev pub store_integer_code : (address : ℕ) → IntType → (from : ℕ) → List FlatInstruction
store_integer_code a t r = Store (store_op t) a 0 r ∷ []

-- the word, and where the address is a multiple of 8 its entry
abbrev pub store_pointer_code : (address : ℕ) → Held → (scratch : ℕ) → (write : List FlatInstruction)
    → List FlatInstruction
store_pointer_code a from t write =
    Store Sd a 0 from.value ∷ Operate Sll t a (Number 61) ∷ unless_code Bne t (Number 0) write

-- a scalar of either kind, where entries are written so
abbrev pub store_code : EntryCode → MapSizes → (address : ℕ) → (from : HeldScalar) → (scratch : ℕ)
    → List FlatInstruction
store_code write map a (Integer t r) scratch = store_integer_code a t r
store_code write map a (Pointer h) scratch = store_pointer_code a h scratch (write map a h.tag scratch)

abbrev pub store_length : HeldScalar → ℕ
store_length (Integer t r) = 1
store_length (Pointer h) = 25

abbrev pub store_steps : HeldScalar → ℕ
store_steps (Integer t r) = 1
store_steps (Pointer h) = 27

abbrev pub IsStoreRoutine : Basis → (address : ℕ) → (from : HeldScalar) → (scratch : ℕ) → List FlatInstruction → Type 0
IsStoreRoutine basis a from t r =
    (line : ℕ)
    → IsActionIn basis (IsToAccess from)
    (λ vs. store (scalar_in from) false (argument 0 vs) line (argument 1 vs) >> done (integer 0))
    (Word a ∷ holder_in from ∷ []) Nowhere t (store_steps from) 0 r

-- ---- with both tests before it

-- the access is judged
abbrev pub IsCheckedLoad : Basis → Held → (into : HeldScalar) → (line scratch : ℕ) → List FlatInstruction → Type 0
IsCheckedLoad basis h into line t r =
    IsAction basis (λ vs. load (scalar_in into) true (argument 0 vs) line) (InPointer h ∷ []) (holder_in into) t
    (8 + load_steps into) 0 r

abbrev pub IsCheckedStore : Basis → Held → (from : HeldScalar) → (line scratch : ℕ) → List FlatInstruction → Type 0
IsCheckedStore basis h from line t r =
    IsAction basis (λ vs. store (scalar_in from) true (argument 0 vs) line (argument 1 vs) >> done (integer 0))
    (InPointer h ∷ holder_in from ∷ []) Nowhere t (8 + store_steps from) 0 r

-- A loop over the words of a range and over entries in memory, one after another.
use Rattle.std.specs.Prelude.{◌≡◌, ℕ, suc, ◌+◌, ◌*◌, ◌<◌, List, [], ◌∷◌, ◌++◌}
use Rattle.rv_isa.specs.declared.instruction.BranchOp.TheVariants.{Beq}
use Rattle.rv_isa.specs.declared.instruction.LoadOp.TheVariants.{Ld}
use Rattle.rv_isa.specs.declared.instruction.RegOp.TheVariants.{Add, Sub}
use Rattle.rv_isa.specs.declared.instruction.StoreOp.TheVariants.{Sd}
use Rattle.flat_code.specs.declared.instruction.RightOperand.TheVariants.{Number}
use Rattle.flat_code.specs.declared.instruction.FlatInstruction.{FlatInstruction}
use Rattle.flat_code.specs.declared.instruction.FlatInstruction.TheVariants.{Constant, Operate, Load, Store}
use Rattle.flat_code.specs.Memory.{Bytes}
use Rattle.flat_code.specs.State.{State}
use Rattle.flat_code.specs.Meaning.{Context}
use Rattle.flat_code.specs.declared.registers.Entry.{Entry}
use Rattle.flat_code.specs.Routines.Registers.{OthersStay}
use Rattle.flat_code.specs.Routines.Routine.{Does, Either, Never, until_code}
use Rattle.flat_code.specs.Routines.Metadata.{ShowsNothing}

-- ---- the loop

-- its registers from one on: how many words are left, the address of a word, and the address of its entry; those behind
-- are the body's
abbrev pub stride : ℕ → List FlatInstruction
stride t =
    Operate Add (t + 1) (t + 1) (Number 8)
    ∷ Operate Add (t + 2) (t + 2) (Number 32)
    ∷ Operate Sub t t (Number 1)
    ∷ []

abbrev pub word_loop : ℕ → (body : List FlatInstruction) → List FlatInstruction
word_loop t body = until_code Beq t (Number 0) (body ++ stride t)

-- words from p on, their entries from e on: so many are done, of which S holds, since the loop began in a state
pub record IsAtWord (t p e j : ℕ) (start : State) (S : ℕ → Bytes → Type 0) (state : State) : Type 0 where
  pub word : state.values (t + 1) ≡ p + 8 * j
  pub entry : state.values (t + 2) ≡ e + 32 * j
  pub so_far : S j state.memory
  pub same : OthersStay [] t start state

pub record HasDoneWord (t j : ℕ) (S : ℕ → Bytes → Type 0) (before after : State) : Type 0 where
  pub so_far : S (suc j) after.memory
  pub shows : ShowsNothing before after
  pub others : OthersStay [] (t + 3) before after

-- a body does one word within so many steps
abbrev pub DoesWord : Context → (t steps p e n : ℕ) → (start : State) → (S : ℕ → Bytes → Type 0)
    → List FlatInstruction → Type 0
DoesWord c t b p e n v S body =
    (j : ℕ) → j < n → Does c body (IsAtWord t p e j v S) (λ s. b) (λ s. Either (HasDoneWord t j S s) Never)

-- ---- bodies

-- a word made zero
abbrev pub zero_body : ℕ → List FlatInstruction
zero_body t = Constant (t + 3) 0 ∷ Store Sd (t + 1) 0 (t + 3) ∷ []

-- an entry on its way, in the registers behind those of the loop
abbrev pub entry_behind : ℕ → Entry
entry_behind t = record { base = t + 3; bound = t + 4; key = t + 5; lock = t + 6 }

-- the four words of an entry, to memory and from there
abbrev pub store_entry : (at : ℕ) → Entry → List FlatInstruction
store_entry a e =
    Store Sd a 0 e.base ∷ Store Sd a 8 e.bound ∷ Store Sd a 16 e.key ∷ Store Sd a 24 e.lock ∷ []

abbrev pub load_entry : (at : ℕ) → Entry → List FlatInstruction
load_entry a e = Load Ld e.base a 0 ∷ Load Ld e.bound a 8 ∷ Load Ld e.key a 16 ∷ Load Ld e.lock a 24 ∷ []

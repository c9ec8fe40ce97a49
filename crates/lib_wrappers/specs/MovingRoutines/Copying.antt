-- A loop that copies cells of memory one after another: bytes, or the entries of words.
use Rattle.std.specs.Prelude.{◌≡◌, ◌≢◌, ℕ, ◌+◌, ◌*◌, ◌-◌, ◌^◌, ◌<◌, List, [], ◌∷◌, ◌++◌}
use Rattle.rv_isa.specs.declared.instruction.BranchOp.TheVariants.{Beq, Bgeu}
use Rattle.rv_isa.specs.declared.instruction.RegOp.TheVariants.{Add, Sub, Sll}
use Rattle.flat_code.specs.declared.instruction.RightOperand.TheVariants.{Register, Number}
use Rattle.flat_code.specs.declared.instruction.FlatInstruction.{FlatInstruction}
use Rattle.flat_code.specs.declared.instruction.FlatInstruction.TheVariants.{Constant, Operate}
use Rattle.flat_code.specs.Memory.{Bytes}
use Rattle.flat_code.specs.State.{State}
use Rattle.flat_code.specs.Meaning.{Context}
use Rattle.flat_code.specs.Routines.Registers.{OthersStay}
use Rattle.flat_code.specs.Routines.Routine.{Does, Either, Never, unless_code, until_code}
use Rattle.flat_code.specs.Routines.Metadata.{ShowsNothing}

-- ---- cells

-- a cell is a byte, or a word of 8 bytes: so many bytes, and the power of two that this is
pub data CellSize : Type 0 where
  OneByte : CellSize
  OneWord : CellSize

abbrev pub unit_of : CellSize → ℕ
unit_of OneByte = 1
unit_of OneWord = 8

abbrev pub shift_of : CellSize → ℕ
shift_of OneByte = 0
shift_of OneWord = 3

-- What is copied: how large a cell is, what stands in the one at an address, which may be copied, at which it is known
-- what stands there, how memory may change, and what holds of it whenever a cell is copied.
pub record Cells : Type 1 where
  pub size : CellSize
  pub Content : Type 0
  pub content : Bytes → ℕ → Content
  pub IsCell : ℕ → Type 0
  pub IsKnown : ℕ → Type 0
  pub Changes : Bytes → Bytes → Type 0
  pub IsGood : Bytes → Type 0

pub record AreCells (cells : Cells) : Type 0 where
  pub known : (a : ℕ) → cells.IsCell a → cells.IsKnown a
  pub same : (m : Bytes) → cells.Changes m m
  pub both : (m m1 m2 : Bytes) → cells.Changes m m1 → cells.Changes m1 m2 → cells.Changes m m2

-- ---- one cell

-- The registers of the loop, from its first one on: how many cells are left, where to, where from, the step from one
-- cell to the next; those behind are the body's.
pub record HasCopied (cells : Cells) (t : ℕ) (before after : State) : Type 0 where
  pub copied : cells.content after.memory (before.values (t + 1)) ≡ cells.content before.memory (before.values (t + 2))
  pub stays : (a : ℕ) → cells.IsKnown a → a ≢ before.values (t + 1)
      → cells.content after.memory a ≡ cells.content before.memory a
  pub changes : cells.Changes before.memory after.memory
  pub good : cells.IsGood after.memory
  pub shows : ShowsNothing before after
  pub others : OthersStay [] (t + 4) before after

pub record IsToCopy (cells : Cells) (t : ℕ) (state : State) : Type 0 where
  pub to_cell : cells.IsCell (state.values (t + 1))
  pub from_cell : cells.IsCell (state.values (t + 2))
  pub good : cells.IsGood state.memory

-- a body copies one cell within so many steps
abbrev pub CopiesOne : Context → Cells → (t steps : ℕ) → List FlatInstruction → Type 0
CopiesOne c q t b body = Does c body (IsToCopy q t) (λ s. b) (λ s. Either (HasCopied q t s) Never)

-- ---- the loop

-- both places go one step on, and one cell less is left
abbrev pub bump : ℕ → List FlatInstruction
bump t =
    Operate Add (t + 1) (t + 1) (Register (t + 3))
    ∷ Operate Add (t + 2) (t + 2) (Register (t + 3))
    ∷ Operate Sub t t (Number 1)
    ∷ []

abbrev pub copy_loop : ℕ → (body : List FlatInstruction) → List FlatInstruction
copy_loop t body = until_code Beq t (Number 0) (body ++ bump t)

-- the copying begins with the last cell and goes down
abbrev pub turn_round : (unit shift : ℕ) → ℕ → List FlatInstruction
turn_round u h t =
    Operate Sll (t + 4) t (Number h)
    ∷ Operate Sub (t + 4) (t + 4) (Number u)
    ∷ Operate Add (t + 1) (t + 1) (Register (t + 4))
    ∷ Operate Add (t + 2) (t + 2) (Register (t + 4))
    ∷ Constant (t + 3) (2 ^ 64 - u)
    ∷ []

-- as by memmove: from the first cell up, but from the last one down where the place to move from lies below
abbrev pub choose_order : (unit shift : ℕ) → ℕ → List FlatInstruction
choose_order u h t =
    Constant (t + 3) u ∷ unless_code Bgeu (t + 2) (Register (t + 1)) (turn_round u h t)

abbrev pub move_cells : CellSize → ℕ → (body : List FlatInstruction) → List FlatInstruction
move_cells z t body = choose_order (unit_of z) (shift_of z) t ++ copy_loop t body

-- ---- what it does

-- so many cells from two addresses on
pub record AreRanges (size : CellSize) (IsCell : ℕ → Type 0) (n d s : ℕ) : Type 0 where
  pub to_cells : (j : ℕ) → j < n → IsCell (d + unit_of size * j)
  pub from_cells : (j : ℕ) → j < n → IsCell (s + unit_of size * j)
  pub to_small : 0 < n → d + unit_of size * n < 2 ^ 63
  pub from_small : 0 < n → s + unit_of size * n < 2 ^ 63

pub record IsToMoveCells (cells : Cells) (n d s t : ℕ) (state : State) : Type 0 where
  pub left : state.values t ≡ n
  pub to_is : state.values (t + 1) ≡ d
  pub from_is : state.values (t + 2) ≡ s
  pub ranges : AreRanges cells.size cells.IsCell n d s
  pub good : cells.IsGood state.memory

-- the cells were moved as by memmove, and no other changed
pub record AreMovedCells (cells : Cells) (n d s : ℕ) (before after : Bytes) : Type 0 where
  pub moved : (j : ℕ) → j < n → cells.content after (d + unit_of cells.size * j) ≡ cells.content before
      (s + unit_of cells.size * j)
  pub stays : (a : ℕ) → cells.IsKnown a → ((j : ℕ) → j < n → a ≢ d + unit_of cells.size * j)
      → cells.content after a ≡ cells.content before a

pub record HasMovedCells (q : Cells) (n d s t : ℕ) (before after : State) : Type 0 where
  pub cells : AreMovedCells q n d s before.memory after.memory
  pub changes : q.Changes before.memory after.memory
  pub good : q.IsGood after.memory
  pub shows : ShowsNothing before after
  pub others : OthersStay [] t before after

-- `realloc` in flat code.
use Rattle.std.specs.Prelude.{◌≡◌, ℕ, List, [], ◌∷◌, ◌++◌}
use Rattle.rv_isa.specs.declared.instruction.BranchOp.TheVariants.{Beq, Bgeu}
use Rattle.addr_map.specs.Places.{MapSizes}
use Rattle.source_meaning.specs.State.{Setting}
use Rattle.source_meaning.specs.Heap.{realloc}
use Rattle.source_meaning.specs.Library.{argument}
use Rattle.flat_code.specs.declared.instruction.RightOperand.TheVariants.{Register, Number}
use Rattle.flat_code.specs.declared.instruction.FlatInstruction.{FlatInstruction}
use Rattle.flat_code.specs.declared.instruction.FlatInstruction.TheVariants.{Move, Branch}
use Rattle.flat_code.specs.Memory.{Bytes}
use Rattle.flat_code.specs.declared.registers.Held.{Held}
use Rattle.flat_code.specs.Routines.Routine.{unless_code}
use Rattle.flat_code.specs.Routines.Metadata.{View}
use Rattle.flat_actions.specs.Actions.{Word, Pointer, IsActionIn, runtime_basis}
use Rattle.lib_wrappers.specs.AllocatingRoutines.Premises.{AreStanding}
use Rattle.lib_wrappers.specs.AllocatingRoutines.Freeing.{life_test, found_test}

-- under every setting with these sizes, within 100 steps and 30 for each unit of work
abbrev pub IsReallocRoutine : MapSizes → View → (Bytes → Type 0) → (old : Held) → (size : ℕ) → (into : Held)
    → (line scratch : ℕ) → List FlatInstruction → Type 0
IsReallocRoutine map entry IsGood old size into line t r =
    (g : Setting) → g.sizes ≡ map
    → IsActionIn (runtime_basis map entry IsGood) (λ x vs. AreStanding map x)
    (λ vs. realloc g (argument 0 vs) (argument 1 vs) line) (Pointer old ∷ Word size ∷ []) (Pointer into) t 100 30 r

-- ---- its instructions

-- the tests of a pointer that frees a block
abbrev pub tests_code : (find : List FlatInstruction) → Held → (line word found : ℕ) → List FlatInstruction
tests_code find h line x found = life_test h line x ++ (find ++ found_test found line)

-- the lesser of two numbers takes the place of the second
abbrev pub lesser_code : (number other : ℕ) → List FlatInstruction
lesser_code a b = Branch Bgeu a (Register b) 1 ∷ Move b a ∷ []

-- what both have room for is moved, and the old block dies
abbrev pub replace_code : (move unlist unlock : List FlatInstruction) → (size lesser : ℕ) → List FlatInstruction
replace_code move unlist unlock size l = lesser_code size l ++ (move ++ (unlist ++ unlock))

-- over a routine that finds a block, one that allocates one, and what replaces a block
abbrev pub reallocating_code : (find allocate replace : List FlatInstruction) → (old into : Held) →
    (line word found : ℕ)
    → List FlatInstruction
reallocating_code find allocate replace old into line x found =
    unless_code Beq old.value (Number 0) (tests_code find old line x found)
    ++ (allocate ++ unless_code Beq old.value (Number 0) (unless_code Beq into.value (Number 0) replace))

-- and over those that move a range, take a block from the table and release a lock word
abbrev pub realloc_code : (find allocate move unlist unlock : List FlatInstruction) → (old : Held) → (size : ℕ)
    → (into : Held) → (line word lesser found : ℕ) → List FlatInstruction
realloc_code find allocate move unlist unlock old size into line x l found =
    reallocating_code find allocate (replace_code move unlist unlock size l) old into line x found

-- Which values are needed where.
use Rattle.std.specs.Prelude.{◌≡◌, ℕ, ◌<◌, List, length, Some, None, true, slice_get}
use Rattle.flat_code.specs.declared.instruction.FlatInstruction.{FlatInstruction}
use Rattle.flat_code.specs.declared.function.FlatProgram.{FlatProgram}
use Rattle.reg_plan.specs.Effects.{read_by, is_read, made_by, makes_only, is_among, Leads}

-- the instruction at a place of a function reads a virtual register, makes it, and leads to an instruction
abbrev pub ReadsAt : FlatProgram → (function : ℕ) → List FlatInstruction → (place y : ℕ) → Type 0
ReadsAt p f body pc y = (i : FlatInstruction) × (slice_get body pc ≡ Some i) × (is_read (read_by p f i) y ≡ true)

abbrev pub MakesAt : FlatProgram → List FlatInstruction → (place y : ℕ) → Type 0
MakesAt p body pc y = (i : FlatInstruction) × (slice_get body pc ≡ Some i) × (is_among (made_by p i) y ≡ true)

-- it makes it, and has more to do or may end the run, so that it makes it whether or not that is needed
abbrev pub AlwaysMakesAt : FlatProgram → List FlatInstruction → (place y : ℕ) → Type 0
AlwaysMakesAt p body pc y =
    (i : FlatInstruction) × (slice_get body pc ≡ Some i) × (is_among (made_by p i) y ≡ true) × (makes_only i ≡ None)

-- or that is all it does
abbrev pub MakesOnlyAt : List FlatInstruction → (place y : ℕ) → Type 0
MakesOnlyAt body pc y = (i : FlatInstruction) × (slice_get body pc ≡ Some i) × (makes_only i ≡ Some y)

abbrev pub LeadsAt : List FlatInstruction → (place to : ℕ) → Type 0
LeadsAt body pc q = (i : FlatInstruction) × (slice_get body pc ≡ Some i) × Leads i pc q × (q < length body)

-- A value is needed before an instruction that reads it, behind one that makes it whether or not it is needed, and
-- before one that leads to where it is needed and does not make it. These are the least sets that are closed so.
pub data IsNeeded (program : FlatProgram) (function : ℕ) (body : List FlatInstruction) : ℕ → ℕ → Type 0 where
  Read : (pc y : ℕ) → ReadsAt program function body pc y → IsNeeded program function body pc y
  Made : (pc q y : ℕ) → LeadsAt body pc q → AlwaysMakesAt program body pc y → IsNeeded program function body q y
  Before : (pc q y : ℕ) → LeadsAt body pc q → IsNeeded program function body q y → (MakesAt program body pc y → ⊥)
      → IsNeeded program function body pc y

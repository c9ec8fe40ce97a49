-- What is known of the values of virtual registers: copies, constants and comparisons.
use Rattle.std.specs.Prelude.{◌≡◌, ℕ, Bool, false, ◌||◌, ◌==◌, if◌then◌else◌}
use Rattle.words.specs.TwosComplement.{low_bits}
use Rattle.rv_isa.specs.declared.instruction.BranchOp.{BranchOp}
use Rattle.rv_isa.specs.declared.instruction.BranchOp.TheVariants.{Beq, Bne, Blt, Bge, Bltu, Bgeu}
use Rattle.rv_isa.specs.Results.{bit_of, branch_taken}
use Rattle.words.specs.Operations.{difference}
use Rattle.flat_code.specs.declared.instruction.RightOperand.{RightOperand}
use Rattle.flat_code.specs.declared.instruction.RightOperand.TheVariants.{Register, Number}
use Rattle.flat_code.specs.State.{Values}
use Rattle.flat_code.specs.Meaning.{right_value}
use Rattle.flat_propagation.specs.declared.fact.Fact.{Fact}
use Rattle.flat_propagation.specs.declared.fact.Fact.TheVariants.{Unknown, Same, Word, Difference, Condition}

-- the fact of each register
abbrev pub Facts : Type 0
Facts = ℕ → Fact

abbrev pub nothing : Facts
nothing = λ y. Unknown

-- ---- what a fact says

abbrev pub Says : Fact → Values → (value : ℕ) → Type 0
Says Unknown values v = Unit {0}
Says (Same x) values v = v ≡ values x
Says (Word n) values v = v ≡ low_bits 64 n
Says (Difference a b) values v = v ≡ difference 64 (values a) (right_value b values)
Says (Condition op a b) values v = v ≡ bit_of (branch_taken op (values a) (right_value b values))

-- the facts of all registers hold
abbrev pub Hold : Facts → Values → Type 0
Hold known values = (y : ℕ) → Says (known y) values (values y)

-- the condition that holds where another does not
abbrev pub opposite : BranchOp → BranchOp
opposite Beq = Bne
opposite Bne = Beq
opposite Blt = Bge
opposite Bge = Blt
opposite Bltu = Bgeu
opposite Bgeu = Bltu

-- ---- a register is made anew

abbrev pub right_names : RightOperand → (register : ℕ) → Bool
right_names (Register y) x = y == x
right_names (Number n) x = false

-- whether a fact speaks of the value of a register
abbrev pub names : Fact → (register : ℕ) → Bool
names Unknown x = false
names (Same y) x = y == x
names (Word n) x = false
names (Difference a b) x = (a == x) || right_names b x
names (Condition op a b) x = (a == x) || right_names b x

abbrev pub unless_named : Fact → (register : ℕ) → Fact
unless_named fact x = if names fact x then Unknown else fact

-- its fact is another one then, and no fact speaks of the value that it had
unfoldable pub with_fact : Facts → (register : ℕ) → Fact → Facts
with_fact known x fact = λ y. unless_named (if y == x then fact else known y) x

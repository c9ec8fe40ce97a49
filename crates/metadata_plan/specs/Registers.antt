-- The virtual registers of a function: first those of its variables, parameters before all others, then those of its
-- temporaries; the first behind them is free for what a block needs for itself, and for the arguments of a call.
use Rattle.std.specs.Prelude.{ℕ, zero, suc, ◌+◌, ◌*◌, max, List, [], ◌∷◌, ◌++◌}
use Rattle.obj_memory.specs.declared.value.Scalar.TheVariants.{Integer, Pointer}
use Rattle.c_tree.specs.declared.expression.Kind.{Kind}
use Rattle.c_tree.specs.declared.expression.Kind.TheVariants.{Void, Scalar as OfScalar, Structure, Array}
use Rattle.c_tree.specs.declared.program.Variable.{Variable}
use Rattle.tac_ir.specs.declared.instruction.Instruction.{Instruction}
use Rattle.tac_ir.specs.declared.function.CodeFunction.{CodeFunction}
use Rattle.tac_ir.specs.Temporaries.{temporaries}

-- how many words of a value of a kind stand in registers: the word of an integer; of a pointer its value and the base,
-- bound, key and lock that SoftBound and CETS keep with it
abbrev pub words_of : Kind → ℕ
words_of Void = 0
words_of (OfScalar (Integer t)) = 1
words_of (OfScalar Pointer) = 5
words_of (Structure n) = 0
words_of (Array n) = 0

abbrev pub words_in : List Variable → ℕ
words_in [] = 0
words_in (v ∷ vs) = words_of v.kind + words_in vs

-- the register of the first word of a variable, by its number
abbrev pub register_of : List Variable → (variable : ℕ) → ℕ
register_of [] x = 0
register_of (v ∷ vs) zero = 0
register_of (v ∷ vs) (suc x) = words_of v.kind + register_of vs x

-- the variables of a function by number
abbrev pub all_variables : CodeFunction → List Variable
all_variables c = c.parameters ++ c.variables

-- one more than the greatest number of a temporary
abbrev pub most_temporaries : List Instruction → ℕ
most_temporaries [] = 0
most_temporaries (i ∷ is) = max (temporaries i) (most_temporaries is)

abbrev pub variable_register : CodeFunction → (variable : ℕ) → ℕ
variable_register c x = register_of (all_variables c) x

-- a temporary has five registers, whatever it holds; an integer stands in the first
abbrev pub temporary_register : CodeFunction → (temporary : ℕ) → ℕ
temporary_register c i = words_in (all_variables c) + 5 * i

abbrev pub first_free : CodeFunction → ℕ
first_free c = words_in (all_variables c) + 5 * most_temporaries c.code

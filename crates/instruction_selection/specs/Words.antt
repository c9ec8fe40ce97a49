-- How many words stand in the registers of variables, by what they are.
use Rattle.std.specs.Prelude.{ℕ, ◌+◌, List, [], ◌∷◌}
use Rattle.c_tree.specs.declared.program.Variable.{Variable}
use Rattle.metadata_relation.specs.Registers.{parameter_words, variable_words, home_words}
use Rattle.instruction_selection.specs.declared.registers.Words.{Words}
use Rattle.instruction_selection.specs.declared.registers.Words.TheVariants.{OfParameter, OfVariable, OfHome}

abbrev pub words_by : Words → Variable → ℕ
words_by OfParameter v = parameter_words v
words_by OfVariable v = variable_words v
words_by OfHome v = home_words v

-- the first register of each variable, where those from a number on are theirs
abbrev pub registers_from : (words : Variable → ℕ) → (register : ℕ) → List Variable → List ℕ
registers_from words r [] = []
registers_from words r (v ∷ vs) = r ∷ registers_from words (r + words v) vs

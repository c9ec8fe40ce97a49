-- Instructions that take input or put output: each counts twice its weight.
use Rattle.std.specs.Prelude.{◌≡◌, Bool, true, false, ◌||◌, List, [], ◌∷◌}
use Rattle.flat_code.specs.declared.instruction.FlatInstruction.{FlatInstruction}
use Rattle.flat_code.specs.declared.instruction.FlatInstruction.TheVariants.{Get, Put}

abbrev pub does_input_output : FlatInstruction → Bool
does_input_output (Get x) = true
does_input_output (Put x) = true
does_input_output i = false

-- whether one of them does
abbrev pub has_input_output : List FlatInstruction → Bool
has_input_output [] = false
has_input_output (i ∷ is) = does_input_output i || has_input_output is

pub record IsWithoutInputOutput (instructions : List FlatInstruction) : Type 0 where
  pub none : has_input_output instructions ≡ false

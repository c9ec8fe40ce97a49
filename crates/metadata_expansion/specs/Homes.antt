-- The home of each virtual register of a function: a word of its activation record.
use Rattle.std.specs.Prelude.{ℕ, zero, suc, ◌+◌, max, List, [], ◌∷◌, ◌++◌}
use Rattle.tac_ir.specs.declared.instruction.Instruction.{Instruction}
use Rattle.tac_ir.specs.declared.instruction.Instruction.TheVariants as tac
use Rattle.tac_ir.specs.declared.function.CodeFunction.{CodeFunction}
use Rattle.metadata_plan.specs.Registers.{words_in, all_variables, most_temporaries}

-- how many arguments a call of a function of the program has
abbrev pub argument_count : Instruction → ℕ
argument_count (tac.Call f line d n next) = n
argument_count _ = 0

abbrev pub most_arguments : List Instruction → ℕ
most_arguments [] = 0
most_arguments (i ∷ is) = max (argument_count i) (most_arguments is)

-- how many registers behind those of the temporaries are used: by the arguments of a call, and up to four by others
abbrev pub free_count : CodeFunction → ℕ
free_count c = max 4 (most_arguments c.code)

-- consecutive words, for so many registers
abbrev pub words_from : (word count : ℕ) → List ℕ
words_from w zero = []
words_from w (suc n) = words_from w n ++ ((w + n) ∷ [])

-- An integer stands in the first of the five registers of a temporary; the other four are not used.
abbrev pub temporary_homes : (word count : ℕ) → List ℕ
temporary_homes w zero = []
temporary_homes w (suc n) = temporary_homes w n ++ ((w + n) ∷ 0 ∷ 0 ∷ 0 ∷ 0 ∷ [])

-- A word for each register behind those of the temporaries, for each word of a variable, and for each temporary. The
-- first stand next to the return address, so that one instruction reaches them however large the record is.
abbrev pub homes : CodeFunction → List ℕ
homes c =
    let free = free_count c in
    let variables = words_in (all_variables c) in
    let count = most_temporaries c.code in
    words_from free variables ++ (temporary_homes (free + variables) count ++ words_from 0 free)

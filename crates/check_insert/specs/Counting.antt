-- How many checks there are, and how many there will be.
use Rattle.std.specs.Prelude.{ℕ, ◌+◌, List, [], ◌∷◌}
use Rattle.c_tree.specs.declared.expression.Kind.{Kind}
use Rattle.c_tree.specs.declared.expression.Kind.TheVariants.{Void, Scalar as OfScalar, Structure, Array}
use Rattle.tac_ir.specs.declared.instruction.Mode.{Mode}
use Rattle.tac_ir.specs.declared.instruction.Mode.TheVariants.{Named, Unchecked, Judged}
use Rattle.tac_ir.specs.declared.instruction.Instruction.{Instruction}
use Rattle.tac_ir.specs.declared.instruction.Instruction.TheVariants.{Read, Write, Update, Judge}
use Rattle.tac_ir.specs.declared.function.CodeFunction.{CodeFunction}
use Rattle.tac_ir.specs.declared.function.Tac.{Tac}

-- the checks of an access: a spatial and a temporal one, where a pointer leads to a scalar or a structure

abbrev pub checks_for : Mode → ℕ
checks_for Named = 0
checks_for Unchecked = 2
checks_for Judged = 0

abbrev pub checks_for_kind : Kind → Mode → ℕ
checks_for_kind Void mode = 0
checks_for_kind (OfScalar k) mode = checks_for mode
checks_for_kind (Structure n) mode = checks_for mode
checks_for_kind (Array n) mode = 0

abbrev pub checks_needed : Instruction → ℕ
checks_needed (Read kind mode line key d a m) = checks_for_kind kind mode
checks_needed (Write kind mode line key d a b m) = checks_for_kind kind mode
checks_needed (Update u k f mode line at key d a b m) = checks_for mode
checks_needed i = 0

abbrev pub is_check : Instruction → ℕ
is_check (Judge test size line key a m) = 1
is_check i = 0

abbrev pub sum_over : (Instruction → ℕ) → List Instruction → ℕ
sum_over f [] = 0
sum_over f (i ∷ is) = f i + sum_over f is

abbrev pub sum_of_functions : (Instruction → ℕ) → List CodeFunction → ℕ
sum_of_functions f [] = 0
sum_of_functions f (c ∷ cs) = sum_over f c.code + sum_of_functions f cs

-- the checks of a program, reached or not
abbrev pub checks : Tac → ℕ
checks t = sum_of_functions is_check t.functions

-- and those that its accesses need
abbrev pub checks_to_insert : Tac → ℕ
checks_to_insert t = sum_of_functions checks_needed t.functions

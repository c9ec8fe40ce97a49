-- A structure result counts its bytes once, where it is taken, and as well where it is made of zeros, since its function
-- reached its end.
-- The text is rows/structure_of_zeros_counts.c, its tree by rows/trees.py.
--     struct s{char c[24];}z;struct s f(int n){if(n)return z;}int main(void){f(0);f(1);return 0;}
use Rattle.c_tree.specs.Programs.{Function, Program}
use Rattle.c_tree.specs.Statements.{expression_statement, if_then, return}
use Rattle.c_tree.specs.Tree.{static}
use Rattle.c_tree.specs.ValidProgram.{is_valid_program}
use Rattle.c_tree.specs.declared.c_type.TypeWord.TheVariants.{Takes, Gives, Integer as IntegerWord}
use Rattle.c_tree.specs.declared.c_type.TypeWord.TheVariants.{Structure as StructureWord}
use Rattle.c_tree.specs.declared.expression.Kind.TheVariants.{Structure}
use Rattle.obj_memory.specs.declared.int_type.IntType.TheVariants.{Int}
use Rattle.sb_base.specs.Budgets.{default_sizes}
use Rattle.source_meaning.specs.Meaning.{meaning}
use Rattle.source_meaning_rows.proofs.Samples.{int, number, plain, call, read, lvalue, plain_variable, static_object}
use Rattle.source_meaning_rows.proofs.Samples.{function_type, defined, program_with, computing, seen, exited, counts}
use Rattle.std.proofs.Common.{◌∷◌, [], Some, ◌≡◌, refl, true}

function_f : Function
function_f = defined 1 0 (plain_variable int ∷ []) [] 400
    (if_then (plain 1 int 0) (return (Some (read (lvalue 1 (Structure 24) (static 0)))))
    ∷ [])

function_main : Function
function_main = defined 1 1 [] [] 488
    (expression_statement (call 1 (Structure 24) 0 (number 1 0 ∷ []))
    ∷ expression_statement (call 1 (Structure 24) 0 (number 1 1 ∷ []))
    ∷ return (Some (number 1 0))
    ∷ [])

program : Program
program = program_with
    (Some (record { size = 24; alignment = 1 })
    ∷ [])
    (static_object (Structure 24) []
    ∷ [])
    (function_type (Takes ∷ IntegerWord Int ∷ Gives ∷ StructureWord 0 ∷ []) (int ∷ []) (Structure 24)
    ∷ function_type (Gives ∷ IntegerWord Int ∷ []) ([]) int
    ∷ [])
    (function_f ∷ function_main ∷ [])
    1

run : seen (meaning program default_sizes [] 20) ≡ exited [] 0
unfolding program function_f function_main computing
run = refl

-- the call of `main` and its body 2; f(0) has 8 and 24 zeros: the statement, the call's node, the argument, the call, its
-- parameter, the body, the `if` and its condition; f(1) has the `return`, the name and the 24 bytes that are taken more
-- than these 8; `return 0` 2
counted : counts (meaning program default_sizes [] 20) ≡ record { turns = 3; work = 70; accesses = [] }
unfolding program function_f function_main computing
counted = refl

valid : is_valid_program program ≡ true
unfolding program function_f function_main computing
valid = refl

-- An array member of a structure that is no lvalue does not decay (C99 6.3.2.1 paragraph 3 asks for an lvalue): such a
-- tree is not
-- valid.
-- The text is rows/array_of_a_result.c, its tree by rows/trees.py.
--     struct s{char c[2];};struct s f(void){struct s r;return r;}int main(void){return f().c[0];}
use Rattle.c_tree.specs.Programs.{Function, Program}
use Rattle.c_tree.specs.Statements.{declaration, return}
use Rattle.c_tree.specs.Tree.{automatic}
use Rattle.c_tree.specs.ValidProgram.{is_valid_program}
use Rattle.c_tree.specs.declared.c_type.TypeWord.TheVariants.{Gives, Integer as IntegerWord, Structure as StructureWord}
use Rattle.c_tree.specs.declared.expression.Kind.TheVariants.{Structure, Array}
use Rattle.obj_memory.specs.declared.int_type.IntType.TheVariants.{Char, Int}
use Rattle.sb_base.specs.Budgets.{default_sizes}
use Rattle.source_meaning.specs.Meaning.{meaning}
use Rattle.source_meaning_rows.proofs.Samples.{int, integer_kind, number, decay, convert, call, read, lvalue, index}
use Rattle.source_meaning_rows.proofs.Samples.{member_of_value, without_value, object_variable, function_type, defined}
use Rattle.source_meaning_rows.proofs.Samples.{program_with, computing}
use Rattle.std.proofs.Common.{◌∷◌, [], Some, ◌≡◌, refl, false}

function_f : Function
function_f = defined 1 0 [] (object_variable (Structure 2) ∷ []) 288
    (declaration (without_value 0 ∷ [])
    ∷ return (Some (read (lvalue 1 (Structure 2) (automatic 0))))
    ∷ [])

function_main : Function
function_main = defined 1 1 [] [] 288
    (return (Some (convert int (read (index 1 (integer_kind Char) (decay (member_of_value 1 (Array 2) 0 (call 1
    (Structure 2) 0 []))) (number 1 0)))))
    ∷ [])

program : Program
program = program_with
    (Some (record { size = 2; alignment = 1 })
    ∷ [])
    []
    (function_type (Gives ∷ StructureWord 0 ∷ []) ([]) (Structure 2)
    ∷ function_type (Gives ∷ IntegerWord Int ∷ []) ([]) int
    ∷ [])
    (function_f ∷ function_main ∷ [])
    1

valid : is_valid_program program ≡ false
unfolding program function_f function_main computing
valid = refl

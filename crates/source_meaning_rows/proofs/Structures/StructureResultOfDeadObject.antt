-- The pointer in a result keeps its tag: its object died with the call.
-- The text is rows/structure_result_of_dead_object.c, its tree by rows/trees.py.
--     struct s{int*a;};struct s f(void){int x=1;struct s r;r.a=&x;return r;}
--     int main(void){return *f().a;}
use Rattle.c_tree.specs.Programs.{Function, Program}
use Rattle.c_tree.specs.Statements.{expression_statement, declaration, return}
use Rattle.c_tree.specs.Tree.{automatic}
use Rattle.c_tree.specs.ValidProgram.{is_valid_program}
use Rattle.c_tree.specs.declared.c_type.TypeWord.TheVariants.{Gives, Integer as IntegerWord, Structure as StructureWord}
use Rattle.c_tree.specs.declared.expression.Kind.TheVariants.{Structure}
use Rattle.obj_memory.specs.declared.int_type.IntType.TheVariants.{Int}
use Rattle.sb_base.specs.Budgets.{default_sizes}
use Rattle.source_meaning.specs.Meaning.{meaning}
use Rattle.source_meaning_rows.proofs.Samples.{int, pointer, number, address, assign, call, read, lvalue, deref, member}
use Rattle.source_meaning_rows.proofs.Samples.{member_of_value, content, part, with_parts, without_value}
use Rattle.source_meaning_rows.proofs.Samples.{object_variable, function_type, defined, program_with, computing, seen}
use Rattle.source_meaning_rows.proofs.Samples.{stopped}
use Rattle.std.proofs.Common.{◌∷◌, [], Some, ◌≡◌, refl, true}
use Rattle.std.specs.Prelude.{codes}

function_f : Function
function_f = defined 1 0 [] (object_variable int ∷ object_variable (Structure 8) ∷ []) 368
    (declaration (with_parts 0 (part 0 (content (number 1 1)) ∷ []) ∷ [])
    ∷ declaration (without_value 1 ∷ [])
    ∷ expression_statement (assign 1 (member 1 pointer 0 (lvalue 1 (Structure 8) (automatic 1))) (address 1 (lvalue 1
    int (automatic 0))))
    ∷ return (Some (read (lvalue 1 (Structure 8) (automatic 1))))
    ∷ [])

function_main : Function
function_main = defined 2 1 [] [] 248
    (return (Some (read (deref 2 int (read (member_of_value 2 pointer 0 (call 2 (Structure 8) 0 []))))))
    ∷ [])

program : Program
program = program_with
    (Some (record { size = 8; alignment = 8 })
    ∷ [])
    []
    (function_type (Gives ∷ StructureWord 0 ∷ []) ([]) (Structure 8)
    ∷ function_type (Gives ∷ IntegerWord Int ∷ []) ([]) int
    ∷ [])
    (function_f ∷ function_main ∷ [])
    1

run : seen (meaning program default_sizes [] 20) ≡ stopped [] (codes "sbcets: temporal violation at line 2\n") 121
unfolding program function_f function_main computing
run = refl

valid : is_valid_program program ≡ true
unfolding program function_f function_main computing
valid = refl

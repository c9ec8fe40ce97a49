-- A function that reaches its end gives a structure of zero bytes and no tags.
-- The text is rows/structure_result_missing.c, its tree by rows/trees.py.
--     struct s{int n;int*p;};struct s f(void){}int main(void){struct s v=f();putchar(48+(v.p==0));return v.n+f().n;}
use Rattle.c_tree.specs.Programs.{Function, Program}
use Rattle.c_tree.specs.Statements.{expression_statement, declaration, return}
use Rattle.c_tree.specs.Tree.{automatic}
use Rattle.c_tree.specs.ValidProgram.{is_valid_program}
use Rattle.c_tree.specs.declared.c_type.TypeWord.TheVariants.{Gives, Integer as IntegerWord, Structure as StructureWord}
use Rattle.c_tree.specs.declared.expression.Kind.TheVariants.{Structure}
use Rattle.c_tree.specs.declared.expression.Routine.TheVariants.{Putchar}
use Rattle.obj_memory.specs.declared.int_type.IntType.TheVariants.{Int}
use Rattle.obj_memory.specs.declared.operator.BinaryOperator.TheVariants.{Add, Equal}
use Rattle.sb_base.specs.Budgets.{default_sizes}
use Rattle.source_meaning.specs.Meaning.{meaning}
use Rattle.source_meaning_rows.proofs.Samples.{int, pointer, number, parenthesized, convert, binary, compare, call}
use Rattle.source_meaning_rows.proofs.Samples.{library, read, lvalue, member, member_of_value, content, part}
use Rattle.source_meaning_rows.proofs.Samples.{with_parts, object_variable, function_type, defined, program_with}
use Rattle.source_meaning_rows.proofs.Samples.{computing, seen, exited}
use Rattle.std.proofs.Common.{◌∷◌, [], Some, ◌≡◌, refl, true}
use Rattle.std.specs.Prelude.{codes}

function_f : Function
function_f = defined 1 0 [] [] 208
    []

function_main : Function
function_main = defined 1 1 [] (object_variable (Structure 16) ∷ []) 448
    (declaration (with_parts 0 (part 0 (content (call 1 (Structure 16) 0 [])) ∷ []) ∷ [])
    ∷ expression_statement (library 1 int Putchar (binary 1 Add (number 1 48) (parenthesized (compare 1 Equal (read
    (member 1 pointer 8 (lvalue 1 (Structure 16) (automatic 0)))) (convert pointer (number 1 0)))) ∷ []))
    ∷ return (Some (binary 1 Add (read (member 1 int 0 (lvalue 1 (Structure 16) (automatic 0)))) (read
    (member_of_value 1 int 0 (call 1 (Structure 16) 0 [])))))
    ∷ [])

program : Program
program = program_with
    (Some (record { size = 16; alignment = 8 })
    ∷ [])
    []
    (function_type (Gives ∷ StructureWord 0 ∷ []) ([]) (Structure 16)
    ∷ function_type (Gives ∷ IntegerWord Int ∷ []) ([]) int
    ∷ [])
    (function_f ∷ function_main ∷ [])
    1

run : seen (meaning program default_sizes [] 20) ≡ exited (codes "1") 0
unfolding program function_f function_main computing
run = refl

valid : is_valid_program program ≡ true
unfolding program function_f function_main computing
valid = refl

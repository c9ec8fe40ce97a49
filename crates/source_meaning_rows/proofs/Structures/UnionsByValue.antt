-- A union is passed and given back with the tag of its word, which an integer member leaves.
-- The text is rows/unions_by_value.c, its tree by rows/trees.py.
--     union u{int*p;long i;};int z=4;union u f(union u x){x.i=x.i+0;return x;}int main(void){union u v;v.p=&z;return
-- *f(v).p;}
use Rattle.c_tree.specs.Programs.{Function, Program}
use Rattle.c_tree.specs.Statements.{expression_statement, declaration, return}
use Rattle.c_tree.specs.Tree.{automatic, static}
use Rattle.c_tree.specs.ValidProgram.{is_valid_program}
use Rattle.c_tree.specs.declared.c_type.TypeWord.TheVariants.{Takes, Gives, Integer as IntegerWord}
use Rattle.c_tree.specs.declared.c_type.TypeWord.TheVariants.{Structure as StructureWord}
use Rattle.c_tree.specs.declared.expression.Kind.TheVariants.{Structure}
use Rattle.obj_memory.specs.declared.int_type.IntType.TheVariants.{Int, Long}
use Rattle.obj_memory.specs.declared.operator.BinaryOperator.TheVariants.{Add}
use Rattle.sb_base.specs.Budgets.{default_sizes}
use Rattle.source_meaning.specs.Meaning.{meaning}
use Rattle.source_meaning_rows.proofs.Samples.{int, pointer, integer_kind, number, address, convert, binary, assign}
use Rattle.source_meaning_rows.proofs.Samples.{call, read, lvalue, deref, member, member_of_value, content, part}
use Rattle.source_meaning_rows.proofs.Samples.{without_value, object_variable, static_object, function_type, defined}
use Rattle.source_meaning_rows.proofs.Samples.{program_with, computing, seen, exited}
use Rattle.std.proofs.Common.{◌∷◌, [], Some, ◌≡◌, refl, true}

function_f : Function
function_f = defined 1 0 (object_variable (Structure 8) ∷ []) [] 400
    (expression_statement (assign 1 (member 1 (integer_kind Long) 0 (lvalue 1 (Structure 8) (automatic 0))) (binary 1
    Add (read (member 1 (integer_kind Long) 0 (lvalue 1 (Structure 8) (automatic 0)))) (convert (integer_kind
    Long) (number 1 0))))
    ∷ return (Some (read (lvalue 1 (Structure 8) (automatic 0))))
    ∷ [])

function_main : Function
function_main = defined 1 1 [] (object_variable (Structure 8) ∷ []) 408
    (declaration (without_value 0 ∷ [])
    ∷ expression_statement (assign 1 (member 1 pointer 0 (lvalue 1 (Structure 8) (automatic 0))) (address 1 (lvalue 1
    int (static 0))))
    ∷ return (Some (read (deref 1 int (read (member_of_value 1 pointer 0 (call 1 (Structure 8) 0 (read (lvalue 1
    (Structure 8) (automatic 0)) ∷ [])))))))
    ∷ [])

program : Program
program = program_with
    (Some (record { size = 8; alignment = 8 })
    ∷ [])
    (static_object int (part 0 (content (number 1 4)) ∷ [])
    ∷ [])
    (function_type (Takes ∷ StructureWord 0 ∷ Gives ∷ StructureWord 0 ∷ []) ((Structure 8) ∷ []) (Structure 8)
    ∷ function_type (Gives ∷ IntegerWord Int ∷ []) ([]) int
    ∷ [])
    (function_f ∷ function_main ∷ [])
    1

run : seen (meaning program default_sizes [] 20) ≡ exited [] 4
unfolding program function_f function_main computing
run = refl

valid : is_valid_program program ≡ true
unfolding program function_f function_main computing
valid = refl

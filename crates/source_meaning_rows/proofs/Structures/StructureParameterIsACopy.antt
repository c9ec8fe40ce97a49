-- What a function does to a structure parameter stays in it; what its pointers reach is shared.
-- The text is rows/structure_parameter_is_a_copy.c, its tree by rows/trees.py.
--     struct s{int n;int*p;};int z=1;int f(struct s x){x.n=9;*x.p=x.n;x.p=&x.n;return *x.p;}int main(void){struct s
-- v;v.n=2;v.p=&z;int t=f(v);return t*10+v.n+*v.p;}
use Rattle.c_tree.specs.Programs.{Function, Program}
use Rattle.c_tree.specs.Statements.{expression_statement, declaration, return}
use Rattle.c_tree.specs.Tree.{automatic, static}
use Rattle.c_tree.specs.ValidProgram.{is_valid_program}
use Rattle.c_tree.specs.declared.c_type.TypeWord.TheVariants.{Takes, Gives, Integer as IntegerWord}
use Rattle.c_tree.specs.declared.c_type.TypeWord.TheVariants.{Structure as StructureWord}
use Rattle.c_tree.specs.declared.expression.Kind.TheVariants.{Structure}
use Rattle.obj_memory.specs.declared.int_type.IntType.TheVariants.{Int}
use Rattle.obj_memory.specs.declared.operator.BinaryOperator.TheVariants.{Add, Multiply}
use Rattle.sb_base.specs.Budgets.{default_sizes}
use Rattle.source_meaning.specs.Meaning.{meaning}
use Rattle.source_meaning_rows.proofs.Samples.{int, pointer, number, plain, address, binary, assign, call, read, lvalue}
use Rattle.source_meaning_rows.proofs.Samples.{deref, member, content, part, with_value, without_value, plain_variable}
use Rattle.source_meaning_rows.proofs.Samples.{object_variable, static_object, function_type, defined, program_with}
use Rattle.source_meaning_rows.proofs.Samples.{computing, seen, exited}
use Rattle.std.proofs.Common.{◌∷◌, [], Some, ◌≡◌, refl, true}

function_f : Function
function_f = defined 1 0 (object_variable (Structure 16) ∷ []) [] 280
    (expression_statement (assign 1 (member 1 int 0 (lvalue 1 (Structure 16) (automatic 0))) (number 1 9))
    ∷ expression_statement (assign 1 (deref 1 int (read (member 1 pointer 8 (lvalue 1 (Structure 16) (automatic 0)))))
    (read (member 1 int 0 (lvalue 1 (Structure 16) (automatic 0)))))
    ∷ expression_statement (assign 1 (member 1 pointer 8 (lvalue 1 (Structure 16) (automatic 0))) (address 1 (member 1
    int 0 (lvalue 1 (Structure 16) (automatic 0)))))
    ∷ return (Some (read (deref 1 int (read (member 1 pointer 8 (lvalue 1 (Structure 16) (automatic 0)))))))
    ∷ [])

function_main : Function
function_main = defined 1 1 [] (object_variable (Structure 16) ∷ plain_variable int ∷ []) 368
    (declaration (without_value 0 ∷ [])
    ∷ expression_statement (assign 1 (member 1 int 0 (lvalue 1 (Structure 16) (automatic 0))) (number 1 2))
    ∷ expression_statement (assign 1 (member 1 pointer 8 (lvalue 1 (Structure 16) (automatic 0))) (address 1 (lvalue 1
    int (static 0))))
    ∷ declaration (with_value 1 (call 1 int 0 (read (lvalue 1 (Structure 16) (automatic 0)) ∷ [])) ∷ [])
    ∷ return (Some (binary 1 Add (binary 1 Add (binary 1 Multiply (plain 1 int 1) (number 1 10)) (read (member 1 int 0
    (lvalue 1 (Structure 16) (automatic 0))))) (read (deref 1 int (read (member 1 pointer 8 (lvalue 1 (Structure
    16) (automatic 0))))))))
    ∷ [])

program : Program
program = program_with
    (Some (record { size = 16; alignment = 8 })
    ∷ [])
    (static_object int (part 0 (content (number 1 1)) ∷ [])
    ∷ [])
    (function_type (Takes ∷ StructureWord 0 ∷ Gives ∷ IntegerWord Int ∷ []) ((Structure 16) ∷ []) int
    ∷ function_type (Gives ∷ IntegerWord Int ∷ []) ([]) int
    ∷ [])
    (function_f ∷ function_main ∷ [])
    1

run : seen (meaning program default_sizes [] 20) ≡ exited [] 101
unfolding program function_f function_main computing
run = refl

valid : is_valid_program program ≡ true
unfolding program function_f function_main computing
valid = refl

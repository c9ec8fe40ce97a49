-- Structures as argument and result of calls through a pointer, one inside the other.
-- The text is rows/structures_through_pointers.c, its tree by rows/trees.py.
--     struct s{int n;int*p;};int z=8;struct s f(struct s x,int k){x.n=x.n+k;return x;}int main(void){struct
-- s(*g)(struct s,int)=f;struct s v;v.n=1;v.p=&z;v=g(g(v,2),3);return v.n*10+*v.p;}
use Rattle.c_tree.specs.Programs.{Function, Program}
use Rattle.c_tree.specs.Statements.{expression_statement, declaration, return}
use Rattle.c_tree.specs.Tree.{automatic, static}
use Rattle.c_tree.specs.ValidProgram.{is_valid_program}
use Rattle.c_tree.specs.declared.c_type.TypeWord.TheVariants.{Takes, Gives, Integer as IntegerWord}
use Rattle.c_tree.specs.declared.c_type.TypeWord.TheVariants.{Structure as StructureWord}
use Rattle.c_tree.specs.declared.expression.Kind.TheVariants.{Structure}
use Rattle.obj_memory.specs.declared.int_type.IntType.TheVariants.{Int}
use Rattle.obj_memory.specs.declared.operator.BinaryOperator.TheVariants.{Add, Multiply}
use Rattle.sb_base.specs.Budgets.{default_sizes}
use Rattle.source_meaning.specs.Meaning.{meaning}
use Rattle.source_meaning_rows.proofs.Samples.{int, pointer, number, plain, function, address, binary, assign}
use Rattle.source_meaning_rows.proofs.Samples.{call_through, read, lvalue, deref, member, content, part, with_value}
use Rattle.source_meaning_rows.proofs.Samples.{without_value, plain_variable, object_variable, static_object}
use Rattle.source_meaning_rows.proofs.Samples.{function_type, defined, program_with, computing, seen, exited}
use Rattle.std.proofs.Common.{◌∷◌, [], Some, ◌≡◌, refl, true}

function_f : Function
function_f = defined 1 0 (object_variable (Structure 16) ∷ plain_variable int ∷ []) [] 472
    (expression_statement (assign 1 (member 1 int 0 (lvalue 1 (Structure 16) (automatic 0))) (binary 1 Add (read
    (member 1 int 0 (lvalue 1 (Structure 16) (automatic 0)))) (plain 1 int 1)))
    ∷ return (Some (read (lvalue 1 (Structure 16) (automatic 0))))
    ∷ [])

function_main : Function
function_main = defined 1 1 [] (plain_variable pointer ∷ object_variable (Structure 16) ∷ []) 728
    (declaration (with_value 0 (function 1 0) ∷ [])
    ∷ declaration (without_value 1 ∷ [])
    ∷ expression_statement (assign 1 (member 1 int 0 (lvalue 1 (Structure 16) (automatic 1))) (number 1 1))
    ∷ expression_statement (assign 1 (member 1 pointer 8 (lvalue 1 (Structure 16) (automatic 1))) (address 1 (lvalue 1
    int (static 0))))
    ∷ expression_statement (assign 1 (lvalue 1 (Structure 16) (automatic 1)) (call_through 1 (Structure 16) 0 (plain 1
    pointer 0) (call_through 1 (Structure 16) 0 (plain 1 pointer 0) (read (lvalue 1 (Structure 16) (automatic 1))
    ∷ number 1 2 ∷ []) ∷ number 1 3 ∷ [])))
    ∷ return (Some (binary 1 Add (binary 1 Multiply (read (member 1 int 0 (lvalue 1 (Structure 16) (automatic 1))))
    (number 1 10)) (read (deref 1 int (read (member 1 pointer 8 (lvalue 1 (Structure 16) (automatic 1))))))))
    ∷ [])

program : Program
program = program_with
    (Some (record { size = 16; alignment = 8 })
    ∷ [])
    (static_object int (part 0 (content (number 1 8)) ∷ [])
    ∷ [])
    (function_type (Takes ∷ StructureWord 0 ∷ Takes ∷ IntegerWord Int ∷ Gives ∷ StructureWord 0 ∷ []) ((Structure 16)
    ∷ int ∷ []) (Structure 16)
    ∷ function_type (Gives ∷ IntegerWord Int ∷ []) ([]) int
    ∷ [])
    (function_f ∷ function_main ∷ [])
    1

run : seen (meaning program default_sizes [] 20) ≡ exited [] 68
unfolding program function_f function_main computing
run = refl

valid : is_valid_program program ≡ true
unfolding program function_f function_main computing
valid = refl

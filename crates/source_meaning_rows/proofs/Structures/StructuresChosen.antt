-- Structures that a conditional chooses, as a result, as the source of a member and as arguments: the tags go with
-- them.
-- The text is rows/structures_chosen.c, its tree by rows/trees.py.
--     struct s{int*p;int n;};int a=5;int b=6;struct s pick(int c,struct s x,struct s y){return c?x:y;}
--     int main(void){struct s u;struct s v;u.p=&a;u.n=1;v.p=&b;v.n=2;struct s w=pick(0,u,v);int t=(1?u:v).n;
--     return *w.p*10+*pick(1,u,v).p+w.n+t;}
use Rattle.c_tree.specs.Programs.{Function, Program}
use Rattle.c_tree.specs.Statements.{expression_statement, declaration, return}
use Rattle.c_tree.specs.Tree.{automatic, static}
use Rattle.c_tree.specs.ValidProgram.{is_valid_program}
use Rattle.c_tree.specs.declared.c_type.TypeWord.TheVariants.{Takes, Gives, Integer as IntegerWord}
use Rattle.c_tree.specs.declared.c_type.TypeWord.TheVariants.{Structure as StructureWord}
use Rattle.c_tree.specs.declared.expression.Kind.TheVariants.{Structure}
use Rattle.obj_memory.specs.declared.int_type.IntType.TheVariants.{Int}
use Rattle.obj_memory.specs.declared.operator.BinaryOperator.TheVariants.{Add, Multiply}
use Rattle.sb_base.specs.Budgets.{default_sizes}
use Rattle.source_meaning.specs.Meaning.{meaning}
use Rattle.source_meaning_rows.proofs.Samples.{int, pointer, number, plain, address, parenthesized, binary, conditional}
use Rattle.source_meaning_rows.proofs.Samples.{assign, call, read, lvalue, deref, member, member_of_value, content}
use Rattle.source_meaning_rows.proofs.Samples.{part, with_value, with_parts, without_value, plain_variable}
use Rattle.source_meaning_rows.proofs.Samples.{object_variable, static_object, function_type, defined, program_with}
use Rattle.source_meaning_rows.proofs.Samples.{computing, seen, exited}
use Rattle.std.proofs.Common.{◌∷◌, [], Some, ◌≡◌, refl, true}

function_pick : Function
function_pick = defined 1 0 (plain_variable int ∷ object_variable (Structure 16) ∷ object_variable (Structure 16) ∷
    []) [] 464
    (return (Some (conditional 1 (plain 1 int 0) (read (lvalue 1 (Structure 16) (automatic 1))) (read (lvalue 1
    (Structure 16) (automatic 2)))))
    ∷ [])

function_main : Function
function_main = defined 2 1 [] (object_variable (Structure 16) ∷ object_variable (Structure 16) ∷ object_variable
    (Structure 16) ∷ plain_variable int ∷ []) 928
    (declaration (without_value 0 ∷ [])
    ∷ declaration (without_value 1 ∷ [])
    ∷ expression_statement (assign 2 (member 2 pointer 0 (lvalue 2 (Structure 16) (automatic 0))) (address 2 (lvalue 2
    int (static 0))))
    ∷ expression_statement (assign 2 (member 2 int 8 (lvalue 2 (Structure 16) (automatic 0))) (number 2 1))
    ∷ expression_statement (assign 2 (member 2 pointer 0 (lvalue 2 (Structure 16) (automatic 1))) (address 2 (lvalue 2
    int (static 1))))
    ∷ expression_statement (assign 2 (member 2 int 8 (lvalue 2 (Structure 16) (automatic 1))) (number 2 2))
    ∷ declaration (with_parts 2 (part 0 (content (call 2 (Structure 16) 0 (number 2 0 ∷ read (lvalue 2 (Structure 16)
    (automatic 0)) ∷ read (lvalue 2 (Structure 16) (automatic 1)) ∷ []))) ∷ []) ∷ [])
    ∷ declaration (with_value 3 (read (member_of_value 2 int 8 (parenthesized (conditional 2 (number 2 1) (read
    (lvalue 2 (Structure 16) (automatic 0))) (read (lvalue 2 (Structure 16) (automatic 1))))))) ∷ [])
    ∷ return (Some (binary 3 Add (binary 3 Add (binary 3 Add (binary 3 Multiply (read (deref 3 int (read (member 3
    pointer 0 (lvalue 3 (Structure 16) (automatic 2)))))) (number 3 10)) (read (deref 3 int (read (member_of_value
    3 pointer 0 (call 3 (Structure 16) 0 (number 3 1 ∷ read (lvalue 3 (Structure 16) (automatic 0)) ∷ read (lvalue
    3 (Structure 16) (automatic 1)) ∷ []))))))) (read (member 3 int 8 (lvalue 3 (Structure 16) (automatic 2)))))
    (plain 3 int 3)))
    ∷ [])

program : Program
program = program_with
    (Some (record { size = 16; alignment = 8 })
    ∷ [])
    (static_object int (part 0 (content (number 1 5)) ∷ [])
    ∷ static_object int (part 0 (content (number 1 6)) ∷ [])
    ∷ [])
    (function_type (Takes ∷ IntegerWord Int ∷ Takes ∷ StructureWord 0 ∷ Takes ∷ StructureWord 0 ∷ Gives ∷
    StructureWord 0 ∷ []) (int ∷ (Structure 16) ∷ (Structure 16) ∷ []) (Structure 16)
    ∷ function_type (Gives ∷ IntegerWord Int ∷ []) ([]) int
    ∷ [])
    (function_pick ∷ function_main ∷ [])
    1

run : seen (meaning program default_sizes [] 20) ≡ exited [] 68
unfolding program function_pick function_main computing
run = refl

valid : is_valid_program program ≡ true
unfolding program function_pick function_main computing
valid = refl

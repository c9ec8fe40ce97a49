-- A result that is assigned, a structure member of a result that initializes, and scalar members of results, which are
-- parts of the value
-- and no accesses.
-- The text is rows/members_of_results.c, its tree by rows/trees.py.
--     struct q{int*p;int n;};struct s{int m;struct q q;};int z=7;struct s f(int n){struct s
-- r;r.m=n;r.q.p=&z;r.q.n=n+1;return r;}
--     int main(void){struct s v;v=f(3);struct q w=f(4).q;putchar(48+v.m);putchar(48+*v.q.p);putchar(48+w.n);return
-- *w.p+f(5).m+f(6).q.n;}
use Rattle.c_tree.specs.Programs.{Function, Program}
use Rattle.c_tree.specs.Statements.{expression_statement, declaration, return}
use Rattle.c_tree.specs.Tree.{automatic, static}
use Rattle.c_tree.specs.ValidProgram.{is_valid_program}
use Rattle.c_tree.specs.declared.c_type.TypeWord.TheVariants.{Takes, Gives, Integer as IntegerWord}
use Rattle.c_tree.specs.declared.c_type.TypeWord.TheVariants.{Structure as StructureWord}
use Rattle.c_tree.specs.declared.expression.Kind.TheVariants.{Structure}
use Rattle.c_tree.specs.declared.expression.Routine.TheVariants.{Putchar}
use Rattle.obj_memory.specs.declared.int_type.IntType.TheVariants.{Int}
use Rattle.obj_memory.specs.declared.operator.BinaryOperator.TheVariants.{Add}
use Rattle.sb_base.specs.Budgets.{default_sizes}
use Rattle.source_meaning.specs.Meaning.{meaning}
use Rattle.source_meaning_rows.proofs.Samples.{int, pointer, number, plain, address, binary, assign, call, library}
use Rattle.source_meaning_rows.proofs.Samples.{read, lvalue, deref, member, member_of_value, content, part, with_parts}
use Rattle.source_meaning_rows.proofs.Samples.{without_value, plain_variable, object_variable, static_object}
use Rattle.source_meaning_rows.proofs.Samples.{function_type, defined, program_with, computing, seen, exited}
use Rattle.std.proofs.Common.{◌∷◌, [], Some, ◌≡◌, refl, true}
use Rattle.std.specs.Prelude.{codes}

function_f : Function
function_f = defined 1 0 (plain_variable int ∷ []) (object_variable (Structure 24) ∷ []) 520
    (declaration (without_value 1 ∷ [])
    ∷ expression_statement (assign 1 (member 1 int 0 (lvalue 1 (Structure 24) (automatic 1))) (plain 1 int 0))
    ∷ expression_statement (assign 1 (member 1 pointer 0 (member 1 (Structure 16) 8 (lvalue 1 (Structure 24)
    (automatic 1)))) (address 1 (lvalue 1 int (static 0))))
    ∷ expression_statement (assign 1 (member 1 int 8 (member 1 (Structure 16) 8 (lvalue 1 (Structure 24) (automatic
    1)))) (binary 1 Add (plain 1 int 0) (number 1 1)))
    ∷ return (Some (read (lvalue 1 (Structure 24) (automatic 1))))
    ∷ [])

function_main : Function
function_main = defined 2 1 [] (object_variable (Structure 24) ∷ object_variable (Structure 16) ∷ []) 928
    (declaration (without_value 0 ∷ [])
    ∷ expression_statement (assign 2 (lvalue 2 (Structure 24) (automatic 0)) (call 2 (Structure 24) 0 (number 2 3 ∷
    [])))
    ∷ declaration (with_parts 1 (part 0 (content (read (member_of_value 2 (Structure 16) 8 (call 2 (Structure 24) 0
    (number 2 4 ∷ []))))) ∷ []) ∷ [])
    ∷ expression_statement (library 2 int Putchar (binary 2 Add (number 2 48) (read (member 2 int 0 (lvalue 2
    (Structure 24) (automatic 0)))) ∷ []))
    ∷ expression_statement (library 2 int Putchar (binary 2 Add (number 2 48) (read (deref 2 int (read (member 2
    pointer 0 (member 2 (Structure 16) 8 (lvalue 2 (Structure 24) (automatic 0))))))) ∷ []))
    ∷ expression_statement (library 2 int Putchar (binary 2 Add (number 2 48) (read (member 2 int 8 (lvalue 2
    (Structure 16) (automatic 1)))) ∷ []))
    ∷ return (Some (binary 2 Add (binary 2 Add (read (deref 2 int (read (member 2 pointer 0 (lvalue 2 (Structure 16)
    (automatic 1)))))) (read (member_of_value 2 int 0 (call 2 (Structure 24) 0 (number 2 5 ∷ []))))) (read (member
    2 int 8 (member_of_value 2 (Structure 16) 8 (call 2 (Structure 24) 0 (number 2 6 ∷ [])))))))
    ∷ [])

program : Program
program = program_with
    (Some (record { size = 16; alignment = 8 })
    ∷ Some (record { size = 24; alignment = 8 })
    ∷ [])
    (static_object int (part 0 (content (number 1 7)) ∷ [])
    ∷ [])
    (function_type (Takes ∷ IntegerWord Int ∷ Gives ∷ StructureWord 1 ∷ []) (int ∷ []) (Structure 24)
    ∷ function_type (Gives ∷ IntegerWord Int ∷ []) ([]) int
    ∷ [])
    (function_f ∷ function_main ∷ [])
    1

run : seen (meaning program default_sizes [] 20) ≡ exited (codes "375") 19
unfolding program function_f function_main computing
run = refl

valid : is_valid_program program ≡ true
unfolding program function_f function_main computing
valid = refl

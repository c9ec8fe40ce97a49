-- Reading a structure through a pointer as an argument judges its whole size as one access, with the line of the `*`.
-- The text is rows/structure_argument_judged.c, its tree by rows/trees.py.
--     struct s{int a[4];};int f(struct s x){return x.a[3];}int main(void){struct
-- s*p=malloc(16);p->a[3]=65;putchar(f(*p));p=malloc(8);
--     putchar(f(
--     *p));return 0;}
use Rattle.c_tree.specs.Programs.{Function, Program}
use Rattle.c_tree.specs.Statements.{expression_statement, declaration, return}
use Rattle.c_tree.specs.Tree.{automatic}
use Rattle.c_tree.specs.ValidProgram.{is_valid_program}
use Rattle.c_tree.specs.declared.c_type.TypeWord.TheVariants.{Takes, Gives, Integer as IntegerWord}
use Rattle.c_tree.specs.declared.c_type.TypeWord.TheVariants.{Structure as StructureWord}
use Rattle.c_tree.specs.declared.expression.Kind.TheVariants.{Structure, Array}
use Rattle.c_tree.specs.declared.expression.Routine.TheVariants.{Malloc, Putchar}
use Rattle.obj_memory.specs.declared.int_type.IntType.TheVariants.{Int, UnsignedLong}
use Rattle.sb_base.specs.Budgets.{default_sizes}
use Rattle.source_meaning.specs.Meaning.{meaning}
use Rattle.source_meaning_rows.proofs.Samples.{int, pointer, integer_kind, number, plain, decay, convert, assign}
use Rattle.source_meaning_rows.proofs.Samples.{set_plain, call, library, read, lvalue, deref, index, member, arrow}
use Rattle.source_meaning_rows.proofs.Samples.{with_value, plain_variable, object_variable, function_type, defined}
use Rattle.source_meaning_rows.proofs.Samples.{program_with, computing, seen, stopped}
use Rattle.std.proofs.Common.{◌∷◌, [], Some, ◌≡◌, refl, true}
use Rattle.std.specs.Prelude.{codes}

function_f : Function
function_f = defined 1 0 (object_variable (Structure 16) ∷ []) [] 280
    (return (Some (read (index 1 int (decay (member 1 (Array 16) 0 (lvalue 1 (Structure 16) (automatic 0)))) (number 1
    3))))
    ∷ [])

function_main : Function
function_main = defined 1 1 [] (plain_variable pointer ∷ []) 408
    (declaration (with_value 0 (library 1 pointer Malloc (convert (integer_kind UnsignedLong) (number 1 16) ∷ [])) ∷
    [])
    ∷ expression_statement (assign 1 (index 1 int (decay (arrow 1 (Array 16) 0 (plain 1 pointer 0))) (number 1 3))
    (number 1 65))
    ∷ expression_statement (library 1 int Putchar (call 1 int 0 (read (deref 1 (Structure 16) (plain 1 pointer 0)) ∷
    []) ∷ []))
    ∷ expression_statement (set_plain 1 0 (library 1 pointer Malloc (convert (integer_kind UnsignedLong) (number 1 8)
    ∷ [])))
    ∷ expression_statement (library 2 int Putchar (call 2 int 0 (read (deref 3 (Structure 16) (plain 3 pointer 0)) ∷
    []) ∷ []))
    ∷ return (Some (number 3 0))
    ∷ [])

program : Program
program = program_with
    (Some (record { size = 16; alignment = 4 })
    ∷ [])
    []
    (function_type (Takes ∷ StructureWord 0 ∷ Gives ∷ IntegerWord Int ∷ []) ((Structure 16) ∷ []) int
    ∷ function_type (Gives ∷ IntegerWord Int ∷ []) ([]) int
    ∷ [])
    (function_f ∷ function_main ∷ [])
    1

run : seen (meaning program default_sizes [] 20) ≡ stopped (codes "A") (codes "sbcets: spatial violation at line 3\n")
    120
unfolding program function_f function_main computing
run = refl

valid : is_valid_program program ≡ true
unfolding program function_f function_main computing
valid = refl

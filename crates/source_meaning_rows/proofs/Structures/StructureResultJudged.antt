-- A result that is read through a pointer is judged where the function returns it, with that line.
-- The text is rows/structure_result_judged.c, its tree by rows/trees.py.
--     struct s{int a;int b[3];};struct s f(struct s*p){return
--     *p;}int main(void){struct s*p=malloc(16);p->a=66;putchar(f(p).a);free(p);
--     return f(p).a;}
use Rattle.c_tree.specs.Programs.{Function, Program}
use Rattle.c_tree.specs.Statements.{expression_statement, declaration, return}
use Rattle.c_tree.specs.ValidProgram.{is_valid_program}
use Rattle.c_tree.specs.declared.c_type.TypeWord.TheVariants.{Takes, Gives, Integer as IntegerWord}
use Rattle.c_tree.specs.declared.c_type.TypeWord.TheVariants.{Pointer as PointerWord, Structure as StructureWord}
use Rattle.c_tree.specs.declared.expression.Kind.TheVariants.{Void, Structure}
use Rattle.c_tree.specs.declared.expression.Routine.TheVariants.{Malloc, Free, Putchar}
use Rattle.obj_memory.specs.declared.int_type.IntType.TheVariants.{Int, UnsignedLong}
use Rattle.sb_base.specs.Budgets.{default_sizes}
use Rattle.source_meaning.specs.Meaning.{meaning}
use Rattle.source_meaning_rows.proofs.Samples.{int, pointer, integer_kind, number, plain, convert, assign, call}
use Rattle.source_meaning_rows.proofs.Samples.{library, read, deref, arrow, member_of_value, with_value, plain_variable}
use Rattle.source_meaning_rows.proofs.Samples.{function_type, defined, program_with, computing, seen, stopped}
use Rattle.std.proofs.Common.{◌∷◌, [], Some, ◌≡◌, refl, true}
use Rattle.std.specs.Prelude.{codes}

function_f : Function
function_f = defined 1 0 (plain_variable pointer ∷ []) [] 320
    (return (Some (read (deref 2 (Structure 16) (plain 2 pointer 0))))
    ∷ [])

function_main : Function
function_main = defined 2 1 [] (plain_variable pointer ∷ []) 408
    (declaration (with_value 0 (library 2 pointer Malloc (convert (integer_kind UnsignedLong) (number 2 16) ∷ [])) ∷
    [])
    ∷ expression_statement (assign 2 (arrow 2 int 0 (plain 2 pointer 0)) (number 2 66))
    ∷ expression_statement (library 2 int Putchar (read (member_of_value 2 int 0 (call 2 (Structure 16) 0 (plain 2
    pointer 0 ∷ []))) ∷ []))
    ∷ expression_statement (library 2 Void Free (plain 2 pointer 0 ∷ []))
    ∷ return (Some (read (member_of_value 3 int 0 (call 3 (Structure 16) 0 (plain 3 pointer 0 ∷ [])))))
    ∷ [])

program : Program
program = program_with
    (Some (record { size = 16; alignment = 4 })
    ∷ [])
    []
    (function_type (Takes ∷ PointerWord ∷ StructureWord 0 ∷ Gives ∷ StructureWord 0 ∷ []) (pointer ∷ []) (Structure
    16)
    ∷ function_type (Gives ∷ IntegerWord Int ∷ []) ([]) int
    ∷ [])
    (function_f ∷ function_main ∷ [])
    1

run : seen (meaning program default_sizes [] 20) ≡ stopped (codes "B") (codes
    "sbcets: temporal violation at line 2\n") 121
unfolding program function_f function_main computing
run = refl

valid : is_valid_program program ≡ true
unfolding program function_f function_main computing
valid = refl

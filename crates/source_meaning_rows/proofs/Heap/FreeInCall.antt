-- `int g(int*p){int a=*p;free(p);return a+*p;}int main(void){return g(malloc(4));}`
-- The text is rows/free_in_call.c.
use Rattle.c_tree.specs.Programs.{Program, Function}
use Rattle.c_tree.specs.Statements.{Statement, expression_statement, declaration, return}
use Rattle.c_tree.specs.ValidProgram.{is_valid_program}
use Rattle.c_tree.specs.declared.c_type.TypeWord.TheVariants.{Gives, Integer as IntegerWord, Pointer as PointerWord}
use Rattle.c_tree.specs.declared.c_type.TypeWord.TheVariants.{Takes}
use Rattle.c_tree.specs.declared.expression.Kind.TheVariants.{Void}
use Rattle.c_tree.specs.declared.expression.Routine.TheVariants.{Free, Malloc}
use Rattle.obj_memory.specs.declared.int_type.IntType.TheVariants.{Int, UnsignedLong}
use Rattle.obj_memory.specs.declared.operator.BinaryOperator.TheVariants.{Add}
use Rattle.sb_base.specs.Budgets.{default_sizes}
use Rattle.source_meaning.specs.Meaning.{meaning}
use Rattle.source_meaning_rows.proofs.Samples.{binary, call, computing, convert, defined, deref, function_type, int}
use Rattle.source_meaning_rows.proofs.Samples.{integer_kind, library, main_type, none, number, one, plain}
use Rattle.source_meaning_rows.proofs.Samples.{plain_variable, pointer, program_of, read, reads, seen, stopped, three}
use Rattle.source_meaning_rows.proofs.Samples.{two, with_value}
use Rattle.std.proofs.Common.{Some, [], refl, true, ◌∷◌, ◌≡◌}
use Rattle.std.specs.Prelude.{codes}

function_g : Function
function_g = defined 1 1
    (one (plain_variable pointer))
    (one (plain_variable int))
    320
    (three
    (declaration (one (with_value 1 (read (deref 1 int (plain 1 pointer 0))))))
    (expression_statement (library 1 Void Free (one (plain 1 pointer 0))))
    (return (Some (binary 1 Add (plain 1 int 1) (read (deref 1 int (plain 1 pointer 0)))))))

statement_1 : Statement
statement_1 = return (Some
    (call 1 int 0 (one (library 1 pointer Malloc (one (convert (integer_kind UnsignedLong) (number 1 4)))))))

function_main : Function
function_main = defined 1 0 none none 168 (one statement_1)

program : Program
program = program_of none
    (two main_type (function_type (Takes ∷ PointerWord ∷ (IntegerWord Int) ∷ Gives ∷ (IntegerWord Int) ∷ [])
    (one pointer) int))
    (two function_g function_main)
    1

run : seen (meaning program default_sizes [] 20) ≡ stopped [] (codes "sbcets: temporal violation at line 1\n") 121
unfolding program function_g function_main statement_1 computing
run = refl

accesses : (meaning program default_sizes [] 20).shown.accesses ≡ reads 0x10100000 4 ∷ []
unfolding program function_g function_main statement_1 computing
accesses = refl

valid : is_valid_program program ≡ true
unfolding program function_g function_main statement_1 computing
valid = refl

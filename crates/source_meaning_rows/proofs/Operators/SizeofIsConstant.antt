-- The operand of sizeof is not evaluated and no node. Work: the call, the object 4 and the body 6; the return 1, and 7
-- nodes. The text is rows/sizeof_is_constant.c; gcc 12.2.0 gives the same output and status.
--     int f(void){putchar(65);return 1;}int main(void){char s[3];return sizeof(f())+sizeof s+sizeof
-- "abcd"+sizeof(long[4]);}
use Rattle.c_tree.specs.Programs.{Program, Function}
use Rattle.c_tree.specs.Statements.{Statement, expression_statement, return, declaration}
use Rattle.c_tree.specs.ValidProgram.{is_valid_program}
use Rattle.c_tree.specs.declared.expression.Kind.TheVariants.{Array}
use Rattle.c_tree.specs.declared.expression.Routine.TheVariants.{Putchar}
use Rattle.obj_memory.specs.declared.int_type.IntType.TheVariants.{UnsignedLong}
use Rattle.obj_memory.specs.declared.operator.BinaryOperator.TheVariants.{Add}
use Rattle.sb_base.specs.Budgets.{default_sizes}
use Rattle.source_meaning.specs.Meaning.{meaning}
use Rattle.source_meaning_rows.proofs.Samples.{binary, computing, constant, convert, counts, defined, exited, int}
use Rattle.source_meaning_rows.proofs.Samples.{library, main_type, none, number, object_variable, one, program_of, seen}
use Rattle.source_meaning_rows.proofs.Samples.{two, without_value}
use Rattle.std.proofs.Common.{Some, [], refl, true, ◌≡◌, ◌∷◌}

function_f : Function
function_f = defined 1 0 none none 168
    (two (expression_statement (library 1 int Putchar (one (number 1 65)))) (return (Some (number 1 1))))

statement_1 : Statement
statement_1 = return (Some (convert int (binary 1 Add
    (binary 1 Add (binary 1 Add (constant UnsignedLong 1 4) (constant UnsignedLong 1 3)) (constant UnsignedLong 1 5))
    (constant UnsignedLong 1 32))))

function_main : Function
function_main = defined 1 0 none (one (object_variable (Array 3))) 248 ((declaration (without_value 0 ∷ []))
    ∷ statement_1
    ∷ [])

program : Program
program = program_of none (one main_type) (two function_f function_main) 1

run : seen (meaning program default_sizes [] 20) ≡ exited [] 44
unfolding program function_f function_main statement_1 computing
run = refl

counted : counts (meaning program default_sizes [] 20) ≡ record { turns = 1; work = 14; accesses = [] }
unfolding program function_f function_main statement_1 computing
counted = refl

valid : is_valid_program program ≡ true
unfolding program function_f function_main statement_1 computing
valid = refl

-- A function tag is good at the address of its own function alone. The text is rows/call_through_moved.c.
--     int f(void){return 1;}int g(void){return 2;}int
-- main(void){int(*h)(void)=(int(*)(void))((char*)f+16);putchar(48+((long)h==(long)g));return h();}
use Rattle.c_tree.specs.Programs.{Program, Function}
use Rattle.c_tree.specs.Statements.{Statement, expression_statement, declaration, return}
use Rattle.c_tree.specs.ValidProgram.{is_valid_program}
use Rattle.c_tree.specs.declared.expression.OffsetForm.TheVariants.{PointerPlusIndex}
use Rattle.c_tree.specs.declared.expression.Routine.TheVariants.{Putchar}
use Rattle.obj_memory.specs.declared.int_type.IntType.TheVariants.{Long}
use Rattle.obj_memory.specs.declared.operator.BinaryOperator.TheVariants.{Add, Equal}
use Rattle.sb_base.specs.Budgets.{default_sizes}
use Rattle.source_meaning.specs.Meaning.{meaning}
use Rattle.source_meaning_rows.proofs.Samples.{binary, call_through, cast, compare, computing, defined, function, int}
use Rattle.source_meaning_rows.proofs.Samples.{integer_kind, library, main_type, none, number, offset, one}
use Rattle.source_meaning_rows.proofs.Samples.{parenthesized, plain, plain_variable, pointer, program_of, seen, stopped}
use Rattle.source_meaning_rows.proofs.Samples.{three, with_value}
use Rattle.std.proofs.Common.{Some, [], refl, true, ◌≡◌}
use Rattle.std.specs.Prelude.{codes}

function_f : Function
function_f = defined 1 0 none none 168 (one (return (Some (number 1 1))))

function_g : Function
function_g = defined 1 0 none none 168 (one (return (Some (number 1 2))))

statement_1 : Statement
statement_1 = declaration
    (one (with_value 0 (cast 1 pointer
    (parenthesized (offset 1 PointerPlusIndex 1 (cast 1 pointer (function 1 0)) (number 1 16))))))

statement_2 : Statement
statement_2 = expression_statement
    (library 1 int Putchar
    (one (binary 1 Add (number 1 48)
    (parenthesized (compare 1 Equal (cast 1 (integer_kind Long) (plain 1 pointer 0))
    (cast 1 (integer_kind Long) (function 1 1)))))))

function_main : Function
function_main = defined 1 0 none
    (one (plain_variable pointer))
    288
    (three statement_1 statement_2 (return (Some (call_through 1 int 0 (plain 1 pointer 0) none))))

program : Program
program = program_of none (one main_type) (three function_f function_g function_main) 2

run : seen (meaning program default_sizes [] 20) ≡ stopped (codes "1") (codes "sbcets: bad call at line 1\n") 122
unfolding program function_f function_g function_main statement_1 statement_2 computing
run = refl

valid : is_valid_program program ≡ true
unfolding program function_f function_g function_main statement_1 statement_2 computing
valid = refl

-- `int a[2];int f(void){a[0]=a[0]+20;return 3;}int main(void){int i=1;a[0]=1;a[0]+=f();i+=(i=5);return a[0]+i*10;}`
-- The old value is read after the right side is evaluated: 1 + 20 + 3, and 5 + 5. The text is rows/order_compound.c.
use Rattle.c_tree.specs.Programs.{Program, Function}
use Rattle.c_tree.specs.Statements.{Statement, expression_statement, declaration, return}
use Rattle.c_tree.specs.Tree as tree
use Rattle.c_tree.specs.ValidProgram.{is_valid_program}
use Rattle.c_tree.specs.declared.expression.Kind.TheVariants.{Array}
use Rattle.c_tree.specs.declared.expression.Update.TheVariants.{Arithmetic}
use Rattle.obj_memory.specs.declared.int_type.IntType.TheVariants.{Int}
use Rattle.obj_memory.specs.declared.operator.BinaryOperator.TheVariants.{Add, Multiply}
use Rattle.sb_base.specs.Budgets.{default_sizes}
use Rattle.source_meaning.specs.Meaning.{meaning}
use Rattle.source_meaning_rows.proofs.Samples.{assign, binary, call, change_plain, compound, computing, decay, defined}
use Rattle.source_meaning_rows.proofs.Samples.{exited, five, index, int, lvalue, main_type, none, number, one}
use Rattle.source_meaning_rows.proofs.Samples.{parenthesized, plain, plain_variable, program_of, read, seen, set_plain}
use Rattle.source_meaning_rows.proofs.Samples.{static_object, two, with_value}
use Rattle.std.proofs.Common.{Some, [], refl, true, ◌≡◌}

statement_1 : Statement
statement_1 = expression_statement (assign 1
    (index 1 int (decay (lvalue 1 (Array 8) (tree.static 0))) (number 1 0))
    (binary 1 Add (read (index 1 int (decay (lvalue 1 (Array 8) (tree.static 0))) (number 1 0))) (number 1 20)))

function_f : Function
function_f = defined 1 0 none none 248 (two statement_1 (return (Some (number 1 3))))

statement_2 : Statement
statement_2 = expression_statement
    (compound 1 (Arithmetic Add Int) (index 1 int (decay (lvalue 1 (Array 8) (tree.static 0))) (number 1 0))
    (call 1 int 0 none))

statement_3 : Statement
statement_3 = return (Some (binary 1 Add
    (read (index 1 int (decay (lvalue 1 (Array 8) (tree.static 0))) (number 1 0)))
    (binary 1 Multiply (plain 1 int 0) (number 1 10))))

function_main : Function
function_main = defined 1 0 none
    (one (plain_variable int))
    288
    (five
    (declaration (one (with_value 0 (number 1 1))))
    (expression_statement
    (assign 1 (index 1 int (decay (lvalue 1 (Array 8) (tree.static 0))) (number 1 0)) (number 1 1)))
    statement_2
    (expression_statement (change_plain 1 int (Arithmetic Add Int) 0 (parenthesized (set_plain 1 0 (number 1 5)))))
    statement_3)

program : Program
program = program_of (one (static_object (Array 8) none)) (one main_type) (two function_f function_main) 1

run : seen (meaning program default_sizes [] 20) ≡ exited [] 124
unfolding program function_f function_main statement_1 statement_2 statement_3 computing
run = refl

valid : is_valid_program program ≡ true
unfolding program function_f function_main statement_1 statement_2 statement_3 computing
valid = refl

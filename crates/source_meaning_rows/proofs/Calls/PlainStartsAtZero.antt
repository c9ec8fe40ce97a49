-- `int f(int n){int x;x=x+n;return x;}int main(void){int a[2];f(7);a[1]=f(1);return a[0]*10+a[1];}`
-- A plain value that is no parameter is 0 at each entry, and the bytes of an object are. The text is
-- rows/plain_starts_at_zero.c.
use Rattle.c_tree.specs.Programs.{Program, Function}
use Rattle.c_tree.specs.Statements.{Statement, expression_statement, return, declaration}
use Rattle.c_tree.specs.Tree as tree
use Rattle.c_tree.specs.ValidProgram.{is_valid_program}
use Rattle.c_tree.specs.declared.c_type.TypeWord.TheVariants.{Gives, Integer as IntegerWord, Takes}
use Rattle.c_tree.specs.declared.expression.Kind.TheVariants.{Array}
use Rattle.obj_memory.specs.declared.int_type.IntType.TheVariants.{Int}
use Rattle.obj_memory.specs.declared.operator.BinaryOperator.TheVariants.{Add, Multiply}
use Rattle.sb_base.specs.Budgets.{default_sizes}
use Rattle.source_meaning.specs.Meaning.{meaning}
use Rattle.source_meaning_rows.proofs.Samples.{assign, binary, call, computing, decay, defined, exited, function_type}
use Rattle.source_meaning_rows.proofs.Samples.{index, int, lvalue, main_type, none, number, object_variable, one, plain}
use Rattle.source_meaning_rows.proofs.Samples.{plain_variable, program_of, read, seen, set_plain, three, two}
use Rattle.source_meaning_rows.proofs.Samples.{without_value}
use Rattle.std.proofs.Common.{Some, [], refl, true, ◌∷◌, ◌≡◌}

function_f : Function
function_f = defined 1 1
    (one (plain_variable int))
    (one (plain_variable int))
    360
    ((declaration (without_value 1 ∷ []))
    ∷ (expression_statement (set_plain 1 1 (binary 1 Add (plain 1 int 1) (plain 1 int 0))))
    ∷ (return (Some (plain 1 int 1)))
    ∷ [])

statement_1 : Statement
statement_1 = expression_statement
    (assign 1 (index 1 int (decay (lvalue 1 (Array 8) (tree.automatic 0))) (number 1 1))
    (call 1 int 0 (one (number 1 1))))

statement_2 : Statement
statement_2 = return (Some (binary 1 Add
    (binary 1 Multiply (read (index 1 int (decay (lvalue 1 (Array 8) (tree.automatic 0))) (number 1 0))) (number 1 10))
    (read (index 1 int (decay (lvalue 1 (Array 8) (tree.automatic 0))) (number 1 1)))))

function_main : Function
function_main = defined 1 0 none
    (one (object_variable (Array 8)))
    288
    ((declaration (without_value 0 ∷ []))
    ∷ (expression_statement (call 1 int 0 (one (number 1 7))))
    ∷ statement_1
    ∷ statement_2
    ∷ [])

program : Program
program = program_of none
    (two main_type (function_type (Takes ∷ (IntegerWord Int) ∷ Gives ∷ (IntegerWord Int) ∷ []) (one int) int))
    (two function_f function_main)
    1

run : seen (meaning program default_sizes [] 20) ≡ exited [] 1
unfolding program function_f function_main statement_1 statement_2 computing
run = refl

valid : is_valid_program program ≡ true
unfolding program function_f function_main statement_1 statement_2 computing
valid = refl

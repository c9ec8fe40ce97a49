-- `int f(int n){int x[1];x[0]=n;putchar(46);return x[0];}int main(void){int i;for(i=0;i<3;i++)f(i);return 0;}`
-- A call of a function with objects takes a key, which comes back at no return. The text is rows/calls_take_keys.c.
use Rattle.c_tree.specs.Programs.{Program, Function}
use Rattle.c_tree.specs.Statements.{Statement, expression_statement, for, return, first_expression, declaration}
use Rattle.c_tree.specs.Tree as tree
use Rattle.c_tree.specs.ValidProgram.{is_valid_program}
use Rattle.c_tree.specs.declared.c_type.TypeWord.TheVariants.{Gives, Integer as IntegerWord, Takes}
use Rattle.c_tree.specs.declared.expression.Fixity.TheVariants.{Postfix}
use Rattle.c_tree.specs.declared.expression.Kind.TheVariants.{Array}
use Rattle.c_tree.specs.declared.expression.Routine.TheVariants.{Putchar}
use Rattle.c_tree.specs.declared.expression.Update.TheVariants.{Arithmetic}
use Rattle.obj_memory.specs.declared.int_type.IntType.TheVariants.{Int}
use Rattle.obj_memory.specs.declared.operator.BinaryOperator.TheVariants.{Add, Less}
use Rattle.sb_base.specs.Budgets.{default_sizes}
use Rattle.source_meaning.specs.Meaning.{meaning}
use Rattle.source_meaning_rows.proofs.Samples.{assign, call, compare, computing, decay, defined, function_type, index}
use Rattle.source_meaning_rows.proofs.Samples.{int, library, lvalue, main_type, none, number, object_variable, one}
use Rattle.source_meaning_rows.proofs.Samples.{plain, plain_variable, program_of, read, seen, set_plain, step_plain}
use Rattle.source_meaning_rows.proofs.Samples.{stopped, three, two, without_value}
use Rattle.std.proofs.Common.{Some, [], refl, true, ◌∷◌, ◌≡◌}
use Rattle.std.specs.Prelude.{codes}

function_f : Function
function_f = defined 1 1
    (one (plain_variable int))
    (one (object_variable (Array 4)))
    320
    ((declaration (without_value 1 ∷ []))
    ∷ (expression_statement
    (assign 1 (index 1 int (decay (lvalue 1 (Array 4) (tree.automatic 1))) (number 1 0)) (plain 1 int 0)))
    ∷ (expression_statement (library 1 int Putchar (one (number 1 46))))
    ∷ (return (Some (read (index 1 int (decay (lvalue 1 (Array 4) (tree.automatic 1))) (number 1 0)))))
    ∷ [])

statement_1 : Statement
statement_1 = for 1
    (first_expression (set_plain 1 0 (number 1 0)))
    (Some (compare 1 Less (plain 1 int 0) (number 1 3)))
    (Some (step_plain 1 int (Arithmetic Add Int) Postfix 0))
    ((expression_statement (call 1 int 0 (one (plain 1 int 0)))))

function_main : Function
function_main = defined 1 0 none (one (plain_variable int)) 248 ((declaration (without_value 0 ∷ []))
    ∷ statement_1
    ∷ (return (Some (number 1 0)))
    ∷ [])

program : Program
program = program_of none
    (two main_type (function_type (Takes ∷ (IntegerWord Int) ∷ Gives ∷ (IntegerWord Int) ∷ []) (one int) int))
    (two function_f function_main)
    1

run : seen (meaning program (record default_sizes { keys = 2 }) [] 20) ≡
    stopped (codes "..") (codes "sbcets: keys exhausted at line 1\n") 126
unfolding program function_f function_main statement_1 computing
run = refl

valid : is_valid_program program ≡ true
unfolding program function_f function_main statement_1 computing
valid = refl

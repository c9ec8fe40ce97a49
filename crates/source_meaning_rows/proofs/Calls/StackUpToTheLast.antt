-- `int f(int n){char b[2048];b[0]=n;if(n)return f(n-1)+1;return b[0];}int main(void){return f(1)+f(1);}`
-- The text is rows/stack_up_to_the_last.c; gcc 12.2.0 gives the same output and status.
use Rattle.c_tree.specs.Programs.{Program, Function}
use Rattle.c_tree.specs.Statements.{Statement, expression_statement, if_then, return, declaration}
use Rattle.c_tree.specs.Tree as tree
use Rattle.c_tree.specs.ValidProgram.{is_valid_program}
use Rattle.c_tree.specs.declared.c_type.TypeWord.TheVariants.{Gives, Integer as IntegerWord, Takes}
use Rattle.c_tree.specs.declared.expression.Kind.TheVariants.{Array}
use Rattle.obj_memory.specs.declared.int_type.IntType.TheVariants.{Char, Int}
use Rattle.obj_memory.specs.declared.operator.BinaryOperator.TheVariants.{Add, Subtract}
use Rattle.sb_base.specs.Budgets.{default_sizes}
use Rattle.source_meaning.specs.Meaning.{meaning}
use Rattle.source_meaning_rows.proofs.Samples.{assign, binary, call, computing, convert, decay, defined, exited}
use Rattle.source_meaning_rows.proofs.Samples.{function_type, index, int, integer_kind, lvalue, main_type, none, number}
use Rattle.source_meaning_rows.proofs.Samples.{object_variable, one, plain, plain_variable, program_of, read, seen}
use Rattle.source_meaning_rows.proofs.Samples.{three, two, without_value}
use Rattle.std.proofs.Common.{None, Some, [], refl, true, ◌∷◌, ◌≡◌}

statement_1 : Statement
statement_1 = expression_statement (assign 1
    (index 1 (integer_kind Char) (decay (lvalue 1 (Array 2048) (tree.automatic 1))) (number 1 0))
    (convert (integer_kind Char) (plain 1 int 0)))

statement_2 : Statement
statement_2 = if_then (plain 1 int 0)
    ((return (Some (binary 1 Add (call 1 int 0 (one (binary 1 Subtract (plain 1 int 0) (number 1 1)))) (number 1 1)))))

statement_3 : Statement
statement_3 = return (Some
    (convert int (read (index 1 (integer_kind Char) (decay (lvalue 1 (Array 2048) (tree.automatic 1))) (number 1 0)))))

function_f : Function
function_f = defined 1 1 (one (plain_variable int)) (one (object_variable (Array 2048))) 320
    ((declaration (without_value 1 ∷ []))
    ∷ statement_1
    ∷ statement_2
    ∷ statement_3
    ∷ [])

function_main : Function
function_main = defined 1 0 none none 208
    (one (return (Some (binary 1 Add (call 1 int 0 (one (number 1 1))) (call 1 int 0 (one (number 1 1)))))))

program : Program
program = program_of none
    (two main_type (function_type (Takes ∷ (IntegerWord Int) ∷ Gives ∷ (IntegerWord Int) ∷ []) (one int) int))
    (two function_f function_main)
    1

run : seen (meaning program (record default_sizes { stack = 4096 }) [] 20) ≡ exited [] 2
unfolding program function_f function_main statement_1 statement_2 statement_3 computing
run = refl

valid : is_valid_program program ≡ true
unfolding program function_f function_main statement_1 statement_2 statement_3 computing
valid = refl

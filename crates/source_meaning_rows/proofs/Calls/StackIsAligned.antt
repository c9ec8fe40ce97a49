-- 16 + 2048 + 2041 bytes are more than 4096. The text is rows/stack_is_aligned.c.
--     int f(int n){char b[2041];b[0]=n;if(n)return f(n-1)+1;return b[0];}int main(void){char c;char*p=&c;*p=1;return
-- f(1)+*p;}
use Rattle.c_tree.specs.Programs.{Program, Function}
use Rattle.c_tree.specs.Statements.{Statement, expression_statement, declaration, if_then, return}
use Rattle.c_tree.specs.Tree as tree
use Rattle.c_tree.specs.ValidProgram.{is_valid_program}
use Rattle.c_tree.specs.declared.c_type.TypeWord.TheVariants.{Gives, Integer as IntegerWord, Takes}
use Rattle.c_tree.specs.declared.expression.Kind.TheVariants.{Array}
use Rattle.obj_memory.specs.declared.int_type.IntType.TheVariants.{Char, Int}
use Rattle.obj_memory.specs.declared.operator.BinaryOperator.TheVariants.{Add, Subtract}
use Rattle.sb_base.specs.Budgets.{default_sizes}
use Rattle.source_meaning.specs.Meaning.{meaning}
use Rattle.source_meaning_rows.proofs.Samples.{address, assign, binary, call, computing, convert, decay, defined, deref}
use Rattle.source_meaning_rows.proofs.Samples.{function_type, index, int, integer_kind, lvalue, main_type, none, number}
use Rattle.source_meaning_rows.proofs.Samples.{object_variable, one, plain, plain_variable, pointer, program_of, read}
use Rattle.source_meaning_rows.proofs.Samples.{seen, stopped, three, two, with_value, without_value}
use Rattle.std.proofs.Common.{None, Some, [], refl, true, ◌∷◌, ◌≡◌}
use Rattle.std.specs.Prelude.{codes}

statement_1 : Statement
statement_1 = expression_statement (assign 1
    (index 1 (integer_kind Char) (decay (lvalue 1 (Array 2041) (tree.automatic 1))) (number 1 0))
    (convert (integer_kind Char) (plain 1 int 0)))

statement_2 : Statement
statement_2 = if_then (plain 1 int 0)
    ((return (Some (binary 1 Add (call 1 int 0 (one (binary 1 Subtract (plain 1 int 0) (number 1 1)))) (number 1 1)))))

statement_3 : Statement
statement_3 = return (Some
    (convert int (read (index 1 (integer_kind Char) (decay (lvalue 1 (Array 2041) (tree.automatic 1))) (number 1 0)))))

function_f : Function
function_f = defined 1 1 (one (plain_variable int)) (one (object_variable (Array 2041))) 320
    ((declaration (without_value 1 ∷ []))
    ∷ statement_1
    ∷ statement_2
    ∷ statement_3
    ∷ [])

statement_4 : Statement
statement_4 = expression_statement
    (assign 1 (deref 1 (integer_kind Char) (plain 1 pointer 1)) (convert (integer_kind Char) (number 1 1)))

statement_5 : Statement
statement_5 = return (Some
    (binary 1 Add (call 1 int 0 (one (number 1 1)))
    (convert int (read (deref 1 (integer_kind Char) (plain 1 pointer 1))))))

function_main : Function
function_main = defined 1 0 none
    (two (object_variable (integer_kind Char)) (plain_variable pointer))
    288
    ((declaration (without_value 0 ∷ []))
    ∷ (declaration (one (with_value 1 (address 1 (lvalue 1 (integer_kind Char) (tree.automatic 0))))))
    ∷ statement_4
    ∷ statement_5
    ∷ [])

program : Program
program = program_of none
    (two main_type (function_type (Takes ∷ (IntegerWord Int) ∷ Gives ∷ (IntegerWord Int) ∷ []) (one int) int))
    (two function_f function_main)
    1

run : seen (meaning program (record default_sizes { stack = 4096 }) [] 20) ≡
    stopped [] (codes "sbcets: stack exhausted at line 1\n") 125
unfolding program function_f function_main statement_1 statement_2 statement_3 statement_4 statement_5 computing
run = refl

valid : is_valid_program program ≡ true
unfolding program function_f function_main statement_1 statement_2 statement_3 statement_4 statement_5 computing
valid = refl

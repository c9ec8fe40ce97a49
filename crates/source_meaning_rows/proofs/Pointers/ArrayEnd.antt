-- An element behind the last one of an array. The text is rows/array_end.c.
--     int a[4];
--     int main(void){int i;for(i=0;i<=4;i=i+1){a[i]=65+i;putchar(a[i]);}
--     return 0;}
use Rattle.c_tree.specs.Programs.{Program, Function}
use Rattle.c_tree.specs.Statements.{Statement, expression_statement, for, return, first_expression, declaration}
use Rattle.c_tree.specs.Tree as tree
use Rattle.c_tree.specs.ValidProgram.{is_valid_program}
use Rattle.c_tree.specs.declared.expression.Kind.TheVariants.{Array}
use Rattle.c_tree.specs.declared.expression.Routine.TheVariants.{Putchar}
use Rattle.obj_memory.specs.declared.operator.BinaryOperator.TheVariants.{Add, LessOrEqual}
use Rattle.sb_base.specs.Budgets.{default_sizes}
use Rattle.source_meaning.specs.Meaning.{meaning}
use Rattle.source_meaning_rows.proofs.Samples.{assign, binary, block_of, compare, computing, decay, defined, index, int}
use Rattle.source_meaning_rows.proofs.Samples.{library, lvalue, main_type, none, number, one, plain, plain_variable}
use Rattle.source_meaning_rows.proofs.Samples.{program_of, read, seen, set_plain, static_object, stopped, two}
use Rattle.source_meaning_rows.proofs.Samples.{without_value}
use Rattle.std.proofs.Common.{Some, [], refl, true, ◌≡◌, ◌∷◌}
use Rattle.std.specs.Prelude.{codes}

statement_1 : Statement
statement_1 = expression_statement
    (assign 2 (index 2 int (decay (lvalue 2 (Array 16) (tree.static 0))) (plain 2 int 0))
    (binary 2 Add (number 2 65) (plain 2 int 0)))

statement_2 : Statement
statement_2 = expression_statement
    (library 2 int Putchar (one (read (index 2 int (decay (lvalue 2 (Array 16) (tree.static 0))) (plain 2 int 0)))))

statement_3 : Statement
statement_3 = for 2
    (first_expression (set_plain 2 0 (number 2 0)))
    (Some (compare 2 LessOrEqual (plain 2 int 0) (number 2 4)))
    (Some (set_plain 2 0 (binary 2 Add (plain 2 int 0) (number 2 1))))
    ((block_of 1 (two statement_1 statement_2)))

function_main : Function
function_main = defined 2 0 none (one (plain_variable int)) 288 ((declaration (without_value 0 ∷ []))
    ∷ statement_3
    ∷ (return (Some (number 3 0)))
    ∷ [])

program : Program
program = program_of (one (static_object (Array 16) none)) (one main_type) (one function_main) 0

run : seen (meaning program default_sizes [] 20)
    ≡ stopped (codes "ABCD") (codes "sbcets: spatial violation at line 2\n") 120
unfolding program function_main statement_1 statement_2 statement_3 computing
run = refl

valid : is_valid_program program ≡ true
unfolding program function_main statement_1 statement_2 statement_3 computing
valid = refl

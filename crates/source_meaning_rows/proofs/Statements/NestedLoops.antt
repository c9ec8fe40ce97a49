-- break and continue leave and continue the innermost loop; in a switch, continue belongs to the loop around it. The
-- text is rows/nested_loops.c; gcc 12.2.0 gives the same output and status.
--     int main(void){int i;int
-- j;for(i=0;i<4;i++){if(i==1)continue;for(j=0;;j++){if(j==3)break;if(j==1)continue;putchar(48+i*3+j);}if(i==2)break;}
--     while(1){do{if(i<5){i++;continue;}break;}while(1);putchar(65+i);switch(i){case 5:i=9;continue;}break;}
--     do putchar(46);while(i--<0);return i;}
use Rattle.c_tree.specs.Programs.{Program}
use Rattle.c_tree.specs.Statements.{Statement, expression_statement, if_then, while_do, do_while, for, break, continue}
use Rattle.c_tree.specs.Statements.{return, first_expression, declaration}
use Rattle.c_tree.specs.ValidProgram.{is_valid_program}
use Rattle.c_tree.specs.declared.expression.Fixity.TheVariants.{Postfix}
use Rattle.c_tree.specs.declared.expression.Routine.TheVariants.{Putchar}
use Rattle.c_tree.specs.declared.expression.Update.TheVariants.{Arithmetic}
use Rattle.c_tree.specs.declared.statement.CaseLabel.TheVariants.{Case}
use Rattle.obj_memory.specs.declared.int_type.IntType.TheVariants.{Int}
use Rattle.obj_memory.specs.declared.operator.BinaryOperator.TheVariants.{Add, Equal, Less, Multiply, Subtract}
use Rattle.sb_base.specs.Budgets.{default_sizes}
use Rattle.source_meaning.specs.Meaning.{meaning}
use Rattle.source_meaning_rows.proofs.Samples.{binary, block_of, compare, computing, exited, four, int, item, library}
use Rattle.source_meaning_rows.proofs.Samples.{main_alone, none, number, one, plain, plain_variable, seen, set_plain}
use Rattle.source_meaning_rows.proofs.Samples.{step_plain, switch_of, three, two, without_value}
use Rattle.std.proofs.Common.{None, Some, [], refl, true, ◌≡◌, ◌∷◌}
use Rattle.std.specs.Prelude.{codes}

statement_1 : Statement
statement_1 = expression_statement
    (library 1 int Putchar
    (one (binary 1 Add (binary 1 Add (number 1 48) (binary 1 Multiply (plain 1 int 0) (number 1 3))) (plain 1 int 1))))

statement_2 : Statement
statement_2 = block_of 1 (three
    (if_then (compare 1 Equal (plain 1 int 1) (number 1 3)) (break))
    (if_then (compare 1 Equal (plain 1 int 1) (number 1 1)) (continue))
    statement_1)

statement_3 : Statement
statement_3 = for 1 (first_expression (set_plain 1 1 (number 1 0))) None
    (Some (step_plain 1 int (Arithmetic Add Int) Postfix 1)) (statement_2)

statement_4 : Statement
statement_4 = block_of 1 (three
    (if_then (compare 1 Equal (plain 1 int 0) (number 1 1)) (continue))
    statement_3
    (if_then (compare 1 Equal (plain 1 int 0) (number 1 2)) (break)))

statement_5 : Statement
statement_5 = for 1
    (first_expression (set_plain 1 0 (number 1 0)))
    (Some (compare 1 Less (plain 1 int 0) (number 1 4)))
    (Some (step_plain 1 int (Arithmetic Add Int) Postfix 0))
    (statement_4)

statement_6 : Statement
statement_6 = if_then
    (compare 2 Less (plain 2 int 0) (number 2 5))
    ((block_of 2 (two (expression_statement (step_plain 2 int (Arithmetic Add Int) Postfix 0)) continue)))

statement_7 : Statement
statement_7 = switch_of (plain 2 int 0) 2
    (two (item (one (Case 5)) (expression_statement (set_plain 2 0 (number 2 9)))) (item none continue))

statement_8 : Statement
statement_8 = block_of 2 (four
    (do_while ((block_of 1 (two statement_6 break))) (number 2 1))
    (expression_statement (library 2 int Putchar (one (binary 2 Add (number 2 65) (plain 2 int 0)))))
    statement_7
    break)

statement_9 : Statement
statement_9 = do_while
    ((expression_statement (library 3 int Putchar (one (number 3 46)))))
    (compare 3 Less (step_plain 3 int (Arithmetic Subtract Int) Postfix 0) (number 3 0))

program : Program
program = main_alone none
    (two (plain_variable int) (plain_variable int))
    328
    ((declaration (without_value 0 ∷ without_value 1 ∷ []))
    ∷ statement_5
    ∷ (while_do (number 2 1) (statement_8))
    ∷ statement_9
    ∷ (return (Some (plain 3 int 0)))
    ∷ [])

run : seen (meaning program default_sizes [] 60) ≡ exited (codes "0268FJ.") 8
unfolding program statement_1 statement_2 statement_3 statement_4 statement_5 statement_6 statement_7 statement_8
    statement_9 computing
run = refl

valid : is_valid_program program ≡ true
unfolding program statement_1 statement_2 statement_3 statement_4 statement_5 statement_6 statement_7 statement_8
    statement_9 computing
valid = refl

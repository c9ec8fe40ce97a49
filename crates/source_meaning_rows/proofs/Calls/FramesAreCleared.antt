-- The words of a new object have no tags, though another object was there before. The text is
-- rows/frames_are_cleared.c.
--     int f(int s){int*p[1];int x=1;if(s){p[0]=&x;return *p[0];}return *p[0];}int main(void){putchar(48+f(1));return
-- f(0);}
use Rattle.c_tree.specs.Programs.{Program, Function}
use Rattle.c_tree.specs.Statements.{Statement, expression_statement, declaration, if_then, return}
use Rattle.c_tree.specs.Tree as tree
use Rattle.c_tree.specs.ValidProgram.{is_valid_program}
use Rattle.c_tree.specs.declared.c_type.TypeWord.TheVariants.{Gives, Integer as IntegerWord, Takes}
use Rattle.c_tree.specs.declared.expression.Kind.TheVariants.{Array}
use Rattle.c_tree.specs.declared.expression.Routine.TheVariants.{Putchar}
use Rattle.obj_memory.specs.declared.int_type.IntType.TheVariants.{Int}
use Rattle.obj_memory.specs.declared.operator.BinaryOperator.TheVariants.{Add}
use Rattle.sb_base.specs.Budgets.{default_sizes}
use Rattle.source_meaning.specs.Meaning.{meaning}
use Rattle.source_meaning_rows.proofs.Samples.{address, assign, binary, block_of, call, computing, content, decay}
use Rattle.source_meaning_rows.proofs.Samples.{defined, deref, function_type, index, int, library, lvalue, main_type}
use Rattle.source_meaning_rows.proofs.Samples.{none, number, object_variable, one, part, plain, plain_variable, pointer}
use Rattle.source_meaning_rows.proofs.Samples.{program_of, read, seen, stopped, three, two, with_parts, without_value}
use Rattle.std.proofs.Common.{None, Some, [], refl, true, ◌∷◌, ◌≡◌}
use Rattle.std.specs.Prelude.{codes}

statement_1 : Statement
statement_1 = expression_statement
    (assign 1 (index 1 pointer (decay (lvalue 1 (Array 8) (tree.automatic 1))) (number 1 0))
    (address 1 (lvalue 1 int (tree.automatic 2))))

statement_2 : Statement
statement_2 = return (Some
    (read (deref 1 int (read (index 1 pointer (decay (lvalue 1 (Array 8) (tree.automatic 1))) (number 1 0))))))

statement_3 : Statement
statement_3 = return (Some
    (read (deref 1 int (read (index 1 pointer (decay (lvalue 1 (Array 8) (tree.automatic 1))) (number 1 0))))))

function_f : Function
function_f = defined 1 1
    (one (plain_variable int))
    (two (object_variable (Array 8)) (object_variable int))
    360
    ((declaration (without_value 1 ∷ []))
    ∷ (declaration (one (with_parts 2 (one (part 0 (content (number 1 1)))))))
    ∷ (if_then (plain 1 int 0) ((block_of 1 (two statement_1 statement_2))))
    ∷ statement_3
    ∷ [])

function_main : Function
function_main = defined 1 0 none none 208 (two
    (expression_statement (library 1 int Putchar (one (binary 1 Add (number 1 48) (call 1 int 0 (one (number 1 1)))))))
    (return (Some (call 1 int 0 (one (number 1 0))))))

program : Program
program = program_of none
    (two main_type (function_type (Takes ∷ (IntegerWord Int) ∷ Gives ∷ (IntegerWord Int) ∷ []) (one int) int))
    (two function_f function_main)
    1

run : seen (meaning program default_sizes [] 20)
    ≡ stopped (codes "1") (codes "sbcets: spatial violation at line 1\n") 120
unfolding program function_f function_main statement_1 statement_2 statement_3 computing
run = refl

valid : is_valid_program program ≡ true
unfolding program function_f function_main statement_1 statement_2 statement_3 computing
valid = refl

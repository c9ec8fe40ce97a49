-- The place is used again by another call, whose object is another one. The text is rows/dead_frame_reused.c.
--     int*g;int f(int n){int x=n;g=&x;return x;}int h(int n){int y=n;int*p=&y;putchar(48+(p==g));return *p;}int
-- main(void){f(3);putchar(48+h(4));return *g;}
use Rattle.c_tree.specs.Programs.{Program, Function}
use Rattle.c_tree.specs.Statements.{Statement, expression_statement, declaration, return}
use Rattle.c_tree.specs.Tree as tree
use Rattle.c_tree.specs.ValidProgram.{is_valid_program}
use Rattle.c_tree.specs.declared.c_type.TypeWord.TheVariants.{Gives, Integer as IntegerWord, Takes}
use Rattle.c_tree.specs.declared.expression.Routine.TheVariants.{Putchar}
use Rattle.obj_memory.specs.declared.int_type.IntType.TheVariants.{Int}
use Rattle.obj_memory.specs.declared.operator.BinaryOperator.TheVariants.{Add, Equal}
use Rattle.sb_base.specs.Budgets.{default_sizes}
use Rattle.source_meaning.specs.Meaning.{meaning}
use Rattle.source_meaning_rows.proofs.Samples.{address, assign, binary, call, compare, computing, content, defined}
use Rattle.source_meaning_rows.proofs.Samples.{deref, four, function_type, int, library, lvalue, main_type, none}
use Rattle.source_meaning_rows.proofs.Samples.{number, object_variable, one, parenthesized, part, plain, plain_variable}
use Rattle.source_meaning_rows.proofs.Samples.{pointer, program_of, read, seen, static_object, stopped, three, two}
use Rattle.source_meaning_rows.proofs.Samples.{with_parts, with_value}
use Rattle.std.proofs.Common.{Some, [], refl, true, ◌∷◌, ◌≡◌}
use Rattle.std.specs.Prelude.{codes}

function_f : Function
function_f = defined 1 1
    (one (plain_variable int))
    (one (object_variable int))
    320
    (three
    (declaration (one (with_parts 1 (one (part 0 (content (plain 1 int 0)))))))
    (expression_statement (assign 1 (lvalue 1 pointer (tree.static 0)) (address 1 (lvalue 1 int (tree.automatic 1)))))
    (return (Some (read (lvalue 1 int (tree.automatic 1))))))

statement_1 : Statement
statement_1 = expression_statement
    (library 1 int Putchar
    (one (binary 1 Add (number 1 48)
    (parenthesized (compare 1 Equal (plain 1 pointer 2) (read (lvalue 1 pointer (tree.static 0))))))))

function_h : Function
function_h = defined 1 1
    (one (plain_variable int))
    (two (object_variable int) (plain_variable pointer))
    400
    (four
    (declaration (one (with_parts 1 (one (part 0 (content (plain 1 int 0)))))))
    (declaration (one (with_value 2 (address 1 (lvalue 1 int (tree.automatic 1))))))
    statement_1
    (return (Some (read (deref 1 int (plain 1 pointer 2))))))

function_main : Function
function_main = defined 1 0 none none 208 (three
    (expression_statement (call 1 int 0 (one (number 1 3))))
    (expression_statement (library 1 int Putchar (one (binary 1 Add (number 1 48) (call 1 int 1 (one (number 1 4)))))))
    (return (Some (read (deref 1 int (read (lvalue 1 pointer (tree.static 0))))))))

program : Program
program = program_of
    (one (static_object pointer none))
    (two main_type (function_type (Takes ∷ (IntegerWord Int) ∷ Gives ∷ (IntegerWord Int) ∷ []) (one int) int))
    (three function_f function_h function_main)
    2

run : seen (meaning program default_sizes [] 20)
    ≡ stopped (codes "14") (codes "sbcets: temporal violation at line 1\n") 121
unfolding program function_f function_h function_main statement_1 computing
run = refl

valid : is_valid_program program ≡ true
unfolding program function_f function_h function_main statement_1 computing
valid = refl

-- A structure value that is no lvalue stands for the place that it was read from. The text is rows/structure_values.c;
-- gcc 12.2.0 gives the same output and status.
--     struct s{int a;int b[2];}x={1,{2,3}};struct s y={4,{5,6}};
--     int main(void){struct s z;int
-- c=0;z.a=(c?x:y).a;putchar(48+z.a);putchar(48+(z=x).a);putchar(48+z.b[1]);putchar(48+(c,y).a);
--     putchar(48+(z=*(c?&x:&y)).a);return (z.a++,z).a;}
use Rattle.c_tree.specs.Programs.{Program, Function}
use Rattle.c_tree.specs.Statements.{Statement, expression_statement, declaration, return}
use Rattle.c_tree.specs.Tree as tree
use Rattle.c_tree.specs.ValidProgram.{is_valid_program}
use Rattle.c_tree.specs.declared.expression.Fixity.TheVariants.{Postfix}
use Rattle.c_tree.specs.declared.expression.Kind.TheVariants.{Array, Structure}
use Rattle.c_tree.specs.declared.expression.Routine.TheVariants.{Putchar}
use Rattle.c_tree.specs.declared.expression.Update.TheVariants.{Arithmetic}
use Rattle.obj_memory.specs.declared.int_type.IntType.TheVariants.{Int}
use Rattle.obj_memory.specs.declared.operator.BinaryOperator.TheVariants.{Add}
use Rattle.sb_base.specs.Budgets.{default_sizes}
use Rattle.source_meaning.specs.Meaning.{meaning}
use Rattle.source_meaning_rows.proofs.Samples.{address, assign, binary, comma, computing, conditional, content, decay}
use Rattle.source_meaning_rows.proofs.Samples.{defined, deref, exited, index, int, library, lvalue, main_type, member}
use Rattle.source_meaning_rows.proofs.Samples.{member_of_value, none, number, object_variable, one, parenthesized, part}
use Rattle.source_meaning_rows.proofs.Samples.{plain, plain_variable, program_of, read, seen, static_object, step}
use Rattle.source_meaning_rows.proofs.Samples.{three, two, with_value, without_value}
use Rattle.std.proofs.Common.{Some, [], refl, true, ◌∷◌, ◌≡◌}
use Rattle.std.specs.Prelude.{codes}

statement_1 : Statement
statement_1 = expression_statement (assign 2
    (member 2 int 0 (lvalue 2 (Structure 12) (tree.automatic 0)))
    (read (member_of_value 2 int 0
    (parenthesized (conditional 2 (plain 2 int 1) (read (lvalue 2 (Structure 12) (tree.static 0)))
    (read (lvalue 2 (Structure 12) (tree.static 1))))))))

statement_2 : Statement
statement_2 = expression_statement
    (library 2 int Putchar
    (one (binary 2 Add (number 2 48) (read (member 2 int 0 (lvalue 2 (Structure 12) (tree.automatic 0)))))))

statement_3 : Statement
statement_3 = expression_statement
    (library 2 int Putchar
    (one (binary 2 Add (number 2 48)
    (read (member_of_value 2 int 0
    (parenthesized (assign 2 (lvalue 2 (Structure 12) (tree.automatic 0))
    (read (lvalue 2 (Structure 12) (tree.static 0))))))))))

statement_4 : Statement
statement_4 = expression_statement
    (library 2 int Putchar
    (one (binary 2 Add (number 2 48)
    (read (index 2 int (decay (member 2 (Array 8) 4 (lvalue 2 (Structure 12) (tree.automatic 0)))) (number 2 1))))))

statement_5 : Statement
statement_5 = expression_statement
    (library 2 int Putchar
    (one (binary 2 Add (number 2 48)
    (read (member_of_value 2 int 0
    (parenthesized (comma 2 (plain 2 int 1) (read (lvalue 2 (Structure 12) (tree.static 1))))))))))

statement_6 : Statement
statement_6 = expression_statement
    (library 3 int Putchar (one (binary 3 Add (number 3 48) (read (member_of_value 3 int 0 (parenthesized (assign 3
    (lvalue 3 (Structure 12) (tree.automatic 0))
    (read (deref 3 (Structure 12) (parenthesized (conditional 3 (plain 3 int 1)
    (address 3 (lvalue 3 (Structure 12) (tree.static 0)))
    (address 3 (lvalue 3 (Structure 12) (tree.static 1))))))))))))))

statement_7 : Statement
statement_7 = return (Some (read (member_of_value 3 int 0 (parenthesized (comma 3
    (step 3 (Arithmetic Add Int) Postfix (member 3 int 0 (lvalue 3 (Structure 12) (tree.automatic 0))))
    (read (lvalue 3 (Structure 12) (tree.automatic 0))))))))

function_main : Function
function_main = defined 2 0 none
    (two (object_variable (Structure 12)) (plain_variable int))
    328
    ((declaration (without_value 0 ∷ []))
    ∷ (declaration (one (with_value 1 (number 2 0))))
    ∷ statement_1
    ∷ statement_2
    ∷ statement_3
    ∷ statement_4
    ∷ statement_5
    ∷ statement_6
    ∷ statement_7
    ∷ [])

program : Program
program = program_of
    (two
    (static_object (Structure 12)
    (three (part 0 (content (number 1 1))) (part 4 (content (number 1 2))) (part 8 (content (number 1 3)))))
    (static_object (Structure 12)
    (three (part 0 (content (number 1 4))) (part 4 (content (number 1 5))) (part 8 (content (number 1 6))))))
    (one main_type)
    (one function_main)
    0

run : seen (meaning program default_sizes [] 20) ≡ exited (codes "41344") 5
unfolding program function_main statement_1 statement_2 statement_3 statement_4 statement_5 statement_6
    statement_7 computing
run = refl

valid : is_valid_program program ≡ true
unfolding program function_main statement_1 statement_2 statement_3 statement_4 statement_5 statement_6
    statement_7 computing
valid = refl

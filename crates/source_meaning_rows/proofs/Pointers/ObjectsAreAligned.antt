-- Objects lie in order, parameters first, each at the next multiple of 16. The text is rows/objects_are_aligned.c.
--     int f(char c){char a;char b[17];char
-- d;char*p=&c;char*q=&a;char*r=&d;putchar(48+(q-p)/16);putchar(48+(b-q)/16);putchar(48+(r-b)/16);return
-- (long)p%16;}char x;int y;int main(void){putchar(48+((char*)&y-&x)/16);return f(7);}
use Rattle.c_tree.specs.Programs.{Program, Function}
use Rattle.c_tree.specs.Statements.{Statement, expression_statement, declaration, return}
use Rattle.c_tree.specs.Tree as tree
use Rattle.c_tree.specs.ValidProgram.{is_valid_program}
use Rattle.c_tree.specs.declared.c_type.TypeWord.TheVariants.{Gives, Integer as IntegerWord, Takes}
use Rattle.c_tree.specs.declared.expression.Kind.TheVariants.{Array}
use Rattle.c_tree.specs.declared.expression.Routine.TheVariants.{Putchar}
use Rattle.obj_memory.specs.declared.int_type.IntType.TheVariants.{Char, Int, Long}
use Rattle.obj_memory.specs.declared.operator.BinaryOperator.TheVariants.{Add, Divide, Remainder}
use Rattle.sb_base.specs.Budgets.{default_sizes}
use Rattle.source_meaning.specs.Meaning.{meaning}
use Rattle.source_meaning_rows.proofs.Samples.{address, binary, call, cast, computing, convert, decay, defined}
use Rattle.source_meaning_rows.proofs.Samples.{difference, exited, function_type, int, integer_kind, library, lvalue}
use Rattle.source_meaning_rows.proofs.Samples.{main_type, none, number, object_variable, one, parenthesized, plain}
use Rattle.source_meaning_rows.proofs.Samples.{plain_variable, pointer, program_of, seen, six, static_object, two}
use Rattle.source_meaning_rows.proofs.Samples.{with_value, without_value}
use Rattle.std.proofs.Common.{Some, [], refl, true, ◌∷◌, ◌≡◌}
use Rattle.std.specs.Prelude.{codes}

statement_1 : Statement
statement_1 = expression_statement (library 1 int Putchar (one (convert int (binary 1 Add
    (convert (integer_kind Long) (number 1 48))
    (binary 1 Divide
    (parenthesized (difference 1 1 (plain 1 pointer 5) (plain 1 pointer 4)))
    (convert (integer_kind Long) (number 1 16)))))))

statement_2 : Statement
statement_2 = expression_statement (library 1 int Putchar (one (convert int (binary 1 Add
    (convert (integer_kind Long) (number 1 48))
    (binary 1 Divide
    (parenthesized (difference 1 1 (decay (lvalue 1 (Array 17) (tree.automatic 2))) (plain 1 pointer 5)))
    (convert (integer_kind Long) (number 1 16)))))))

statement_3 : Statement
statement_3 = expression_statement (library 1 int Putchar (one (convert int (binary 1 Add
    (convert (integer_kind Long) (number 1 48))
    (binary 1 Divide
    (parenthesized (difference 1 1 (plain 1 pointer 6) (decay (lvalue 1 (Array 17) (tree.automatic 2)))))
    (convert (integer_kind Long) (number 1 16)))))))

statement_4 : Statement
statement_4 = return (Some
    (convert int (binary 1 Remainder (cast 1 (integer_kind Long) (plain 1 pointer 4))
    (convert (integer_kind Long) (number 1 16)))))

function_f : Function
function_f = defined 1 1
    (one (object_variable (integer_kind Char)))
    (six
    (object_variable (integer_kind Char))
    (object_variable (Array 17))
    (object_variable (integer_kind Char))
    (plain_variable pointer)
    (plain_variable pointer)
    (plain_variable pointer))
    560
    ((declaration (without_value 1 ∷ without_value 2 ∷ without_value 3 ∷ []))
    ∷ (declaration (one (with_value 4 (address 1 (lvalue 1 (integer_kind Char) (tree.automatic 0))))))
    ∷ (declaration (one (with_value 5 (address 1 (lvalue 1 (integer_kind Char) (tree.automatic 1))))))
    ∷ (declaration (one (with_value 6 (address 1 (lvalue 1 (integer_kind Char) (tree.automatic 3))))))
    ∷ statement_1
    ∷ statement_2
    ∷ statement_3
    ∷ statement_4
    ∷ [])

statement_5 : Statement
statement_5 = expression_statement (library 1 int Putchar (one (convert int (binary 1 Add
    (convert (integer_kind Long) (number 1 48))
    (binary 1 Divide
    (parenthesized (difference 1 1
    (cast 1 pointer (address 1 (lvalue 1 int (tree.static 1))))
    (address 1 (lvalue 1 (integer_kind Char) (tree.static 0)))))
    (convert (integer_kind Long) (number 1 16)))))))

function_main : Function
function_main = defined 1 0 none none 248
    (two statement_5 (return (Some (call 1 int 0 (one (convert (integer_kind Char) (number 1 7)))))))

program : Program
program = program_of
    (two (static_object (integer_kind Char) none) (static_object int none))
    (two main_type (function_type (Takes ∷ (IntegerWord Char) ∷ Gives ∷ (IntegerWord Int) ∷ [])
    (one (integer_kind Char)) int))
    (two function_f function_main)
    1

run : seen (meaning program default_sizes [] 20) ≡ exited (codes "1112") 0
unfolding program function_f function_main statement_1 statement_2 statement_3 statement_4 statement_5 computing
run = refl

valid : is_valid_program program ≡ true
unfolding program function_f function_main statement_1 statement_2 statement_3 statement_4 statement_5 computing
valid = refl

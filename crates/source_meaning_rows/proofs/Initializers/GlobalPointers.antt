-- Pointers in initial contents have their tags. The text is rows/global_pointers.c.
--     int a[3]={1,2,3};int*p=a+1;int*q=&a[2];char*s="hi";struct s{int*r;int(*f)(int);};int g(int n){return n*2;}struct
-- s t={&a[0],g};int main(void){putchar(48+*p);putchar(48+*q);putchar(s[1]);putchar(48+t.f(t.r[1]));return p[2];}
use Rattle.c_tree.specs.Programs.{Program, Function}
use Rattle.c_tree.specs.Statements.{Statement, expression_statement, return, literal_content}
use Rattle.c_tree.specs.Tree as tree
use Rattle.c_tree.specs.ValidProgram.{is_valid_program}
use Rattle.c_tree.specs.declared.c_type.TypeWord.TheVariants.{Gives, Integer as IntegerWord, Takes}
use Rattle.c_tree.specs.declared.expression.Kind.TheVariants.{Array, Structure}
use Rattle.c_tree.specs.declared.expression.OffsetForm.TheVariants.{PointerPlusIndex}
use Rattle.c_tree.specs.declared.expression.Routine.TheVariants.{Putchar}
use Rattle.obj_memory.specs.declared.int_type.IntType.TheVariants.{Char, Int}
use Rattle.obj_memory.specs.declared.operator.BinaryOperator.TheVariants.{Add, Multiply}
use Rattle.sb_base.specs.Budgets.{default_sizes}
use Rattle.source_meaning.specs.Meaning.{meaning}
use Rattle.source_meaning_rows.proofs.Samples.{address, binary, call_through, computing, content, convert, decay}
use Rattle.source_meaning_rows.proofs.Samples.{defined, deref, five, function, function_type, index, int, integer_kind}
use Rattle.source_meaning_rows.proofs.Samples.{library, lvalue, main_type, member, none, number, offset, one, part}
use Rattle.source_meaning_rows.proofs.Samples.{plain, plain_variable, pointer, program_of, read, seen, six}
use Rattle.source_meaning_rows.proofs.Samples.{static_object, stopped, string_literal, three, two}
use Rattle.std.proofs.Common.{Some, [], refl, true, ◌++◌, ◌∷◌, ◌≡◌}
use Rattle.std.specs.Prelude.{codes}

function_g : Function
function_g = defined 1 1 (one (plain_variable int)) none 280
    (one (return (Some (binary 1 Multiply (plain 1 int 0) (number 1 2)))))

statement_1 : Statement
statement_1 = expression_statement
    (library 1 int Putchar
    (one (binary 1 Add (number 1 48) (read (deref 1 int (read (lvalue 1 pointer (tree.static 1))))))))

statement_2 : Statement
statement_2 = expression_statement
    (library 1 int Putchar
    (one (binary 1 Add (number 1 48) (read (deref 1 int (read (lvalue 1 pointer (tree.static 2))))))))

statement_3 : Statement
statement_3 = expression_statement
    (library 1 int Putchar
    (one (convert int (read (index 1 (integer_kind Char) (read (lvalue 1 pointer (tree.static 3))) (number 1 1))))))

statement_4 : Statement
statement_4 = expression_statement (library 1 int Putchar (one (binary 1 Add (number 1 48) (call_through 1 int 1
    (read (member 1 pointer 8 (lvalue 1 (Structure 16) (tree.static 5))))
    (one (read (index 1 int (read (member 1 pointer 0 (lvalue 1 (Structure 16) (tree.static 5)))) (number 1 1))))))))

function_main : Function
function_main = defined 1 0 none none 288
    (five statement_1 statement_2 statement_3 statement_4
    (return (Some (read (index 1 int (read (lvalue 1 pointer (tree.static 1))) (number 1 2))))))

program : Program
program = program_of
    (six
    (static_object (Array 12)
    (three (part 0 (content (number 1 1))) (part 4 (content (number 1 2))) (part 8 (content (number 1 3)))))
    (static_object pointer
    (one (part 0 (content
    (offset 1 PointerPlusIndex 4 (decay (lvalue 1 (Array 12) (tree.static 0))) (number 1 1))))))
    (static_object pointer
    (one (part 0 (content (address 1 (index 1 int (decay (lvalue 1 (Array 12) (tree.static 0))) (number 1 2)))))))
    (static_object pointer (one (part 0 (content (decay (lvalue 1 (Array 3) (tree.static 4)))))))
    (string_literal (Array 3) (one (part 0 (literal_content (codes "hi" ++ 0 ∷ [])))))
    (static_object (Structure 16) (two
    (part 0 (content (address 1 (index 1 int (decay (lvalue 1 (Array 12) (tree.static 0))) (number 1 0)))))
    (part 8 (content (function 1 0))))))
    (two main_type (function_type (Takes ∷ (IntegerWord Int) ∷ Gives ∷ (IntegerWord Int) ∷ []) (one int) int))
    (two function_g function_main)
    1

run : seen (meaning program default_sizes [] 20)
    ≡ stopped (codes "23i4") (codes "sbcets: spatial violation at line 1\n") 120
unfolding program function_g function_main statement_1 statement_2 statement_3 statement_4 computing
run = refl

valid : is_valid_program program ≡ true
unfolding program function_g function_main statement_1 statement_2 statement_3 statement_4 computing
valid = refl

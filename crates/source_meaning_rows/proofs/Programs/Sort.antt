-- The text is rows/sort.c; gcc 12.2.0 gives the same output and status.
--     int a[7]={5,2,7,1,6,3,4};void sort(int*p,int n,int(*before)(int,int)){int i;int j;
--     for(i=1;i<n;i++)for(j=i;j>0&&before(p[j],p[j-1]);j--){int t=p[j];p[j]=p[j-1];p[j-1]=t;}}
--     int less(int x,int y){return x<y;}int greater(int x,int y){return x>y;}
--     int main(void){int
-- i;sort(a,7,less);for(i=0;i<7;i++)putchar(48+a[i]);sort(a+1,5,greater);for(i=0;i<7;i++)putchar(48+a[i]);return 0;}
use Rattle.c_tree.specs.Programs.{Program, Function}
use Rattle.c_tree.specs.Statements.{Statement, expression_statement, declaration, for, return, first_expression}
use Rattle.c_tree.specs.Tree as tree
use Rattle.c_tree.specs.ValidProgram.{is_valid_program}
use Rattle.c_tree.specs.declared.c_type.TypeWord.TheVariants.{Gives, Integer as IntegerWord, Pointer as PointerWord}
use Rattle.c_tree.specs.declared.c_type.TypeWord.TheVariants.{Takes, Void as VoidWord}
use Rattle.c_tree.specs.declared.expression.Fixity.TheVariants.{Postfix}
use Rattle.c_tree.specs.declared.expression.Kind.TheVariants.{Array, Void}
use Rattle.c_tree.specs.declared.expression.OffsetForm.TheVariants.{PointerPlusIndex}
use Rattle.c_tree.specs.declared.expression.Routine.TheVariants.{Putchar}
use Rattle.c_tree.specs.declared.expression.Update.TheVariants.{Arithmetic}
use Rattle.obj_memory.specs.declared.int_type.IntType.TheVariants.{Int}
use Rattle.obj_memory.specs.declared.operator.BinaryOperator.TheVariants.{Add, Greater, Less, Subtract}
use Rattle.sb_base.specs.Budgets.{default_sizes}
use Rattle.source_meaning.specs.Meaning.{meaning}
use Rattle.source_meaning_rows.proofs.Samples.{assign, binary, block_of, call, call_through, compare, computing}
use Rattle.source_meaning_rows.proofs.Samples.{content, decay, defined, exited, five, four, function, function_type}
use Rattle.source_meaning_rows.proofs.Samples.{index, int, library, logical_and, lvalue, main_type, none, number}
use Rattle.source_meaning_rows.proofs.Samples.{offset, one, part, plain, plain_variable, pointer, program_of, read}
use Rattle.source_meaning_rows.proofs.Samples.{seen, set_plain, static_object, step_plain, three, two, with_value}
use Rattle.source_meaning_rows.proofs.Samples.{without_value}
use Rattle.std.proofs.Common.{Some, [], refl, true, ◌∷◌, ◌≡◌}
use Rattle.std.specs.Prelude.{codes}

statement_1 : Statement
statement_1 = expression_statement (assign 2
    (index 2 int (plain 2 pointer 0) (plain 2 int 4))
    (read (index 2 int (plain 2 pointer 0) (binary 2 Subtract (plain 2 int 4) (number 2 1)))))

statement_2 : Statement
statement_2 = expression_statement
    (assign 2 (index 2 int (plain 2 pointer 0) (binary 2 Subtract (plain 2 int 4) (number 2 1))) (plain 2 int 5))

statement_3 : Statement
statement_3 = block_of 5
    (three (declaration (one (with_value 5 (read (index 2 int (plain 2 pointer 0) (plain 2 int 4))))))
    statement_1 statement_2)

statement_4 : Statement
statement_4 = for 2
    (first_expression (set_plain 2 4 (plain 2 int 3)))
    (Some (logical_and 2
    (compare 2 Greater (plain 2 int 4) (number 2 0))
    (call_through 2 int 2 (plain 2 pointer 2) (two
    (read (index 2 int (plain 2 pointer 0) (plain 2 int 4)))
    (read (index 2 int (plain 2 pointer 0) (binary 2 Subtract (plain 2 int 4) (number 2 1))))))))
    (Some (step_plain 2 int (Arithmetic Subtract Int) Postfix 4))
    (statement_3)

statement_5 : Statement
statement_5 = for 2
    (first_expression (set_plain 2 3 (number 2 1)))
    (Some (compare 2 Less (plain 2 int 3) (plain 2 int 1)))
    (Some (step_plain 2 int (Arithmetic Add Int) Postfix 3))
    (statement_4)

function_sort : Function
function_sort = defined 1 1
    (three (plain_variable pointer) (plain_variable int) (plain_variable pointer))
    (three (plain_variable int) (plain_variable int) (plain_variable int))
    664
    ((declaration (without_value 3 ∷ without_value 4 ∷ []))
    ∷ statement_5
    ∷ [])

function_less : Function
function_less = defined 3 2
    (two (plain_variable int) (plain_variable int))
    none
    352
    (one (return (Some (compare 3 Less (plain 3 int 0) (plain 3 int 1)))))

function_greater : Function
function_greater = defined 3 2
    (two (plain_variable int) (plain_variable int))
    none
    352
    (one (return (Some (compare 3 Greater (plain 3 int 0) (plain 3 int 1)))))

statement_6 : Statement
statement_6 = expression_statement
    (library 4 int Putchar
    (one (binary 4 Add (number 4 48)
    (read (index 4 int (decay (lvalue 4 (Array 28) (tree.static 0))) (plain 4 int 0))))))

statement_7 : Statement
statement_7 = for 4
    (first_expression (set_plain 4 0 (number 4 0)))
    (Some (compare 4 Less (plain 4 int 0) (number 4 7)))
    (Some (step_plain 4 int (Arithmetic Add Int) Postfix 0))
    (statement_6)

statement_8 : Statement
statement_8 = expression_statement
    (call 4 Void 0 (three (offset 4 PointerPlusIndex 4 (decay (lvalue 4 (Array 28) (tree.static 0))) (number 4 1))
    (number 4 5) (function 4 2)))

statement_9 : Statement
statement_9 = expression_statement
    (library 4 int Putchar
    (one (binary 4 Add (number 4 48)
    (read (index 4 int (decay (lvalue 4 (Array 28) (tree.static 0))) (plain 4 int 0))))))

statement_10 : Statement
statement_10 = for 4
    (first_expression (set_plain 4 0 (number 4 0)))
    (Some (compare 4 Less (plain 4 int 0) (number 4 7)))
    (Some (step_plain 4 int (Arithmetic Add Int) Postfix 0))
    (statement_9)

function_main : Function
function_main = defined 4 0 none
    (one (plain_variable int))
    288
    ((declaration (without_value 0 ∷ []))
    ∷ (expression_statement
    (call 4 Void 0 (three (decay (lvalue 4 (Array 28) (tree.static 0))) (number 4 7) (function 4 1))))
    ∷ statement_7
    ∷ statement_8
    ∷ statement_10
    ∷ (return (Some (number 4 0)))
    ∷ [])

program : Program
program = program_of
    (one (static_object (Array 28) (part 0 (content (number 1 5)) ∷
    part 4 (content (number 1 2)) ∷
    part 8 (content (number 1 7)) ∷
    part 12 (content (number 1 1)) ∷
    part 16 (content (number 1 6)) ∷
    part 20 (content (number 1 3)) ∷
    part 24 (content (number 1 4)) ∷ [])))
    (three main_type
    (function_type
    (Takes ∷
    PointerWord ∷
    (IntegerWord Int) ∷
    Takes ∷
    (IntegerWord Int) ∷
    Takes ∷
    PointerWord ∷
    Takes ∷
    (IntegerWord Int) ∷
    Takes ∷
    (IntegerWord Int) ∷
    Gives ∷
    (IntegerWord Int) ∷
    Gives ∷
    VoidWord ∷ [])
    (three pointer int pointer)
    Void)
    (function_type
    (Takes ∷ (IntegerWord Int) ∷ Takes ∷ (IntegerWord Int) ∷ Gives ∷ (IntegerWord Int) ∷ [])
    (two int int)
    int))
    (four function_sort function_less function_greater function_main)
    3

run : seen (meaning program default_sizes [] 200) ≡ exited (codes "12345671654327") 0
unfolding program function_sort function_less function_greater function_main statement_1 statement_2 statement_3
    statement_4 statement_5 statement_6 statement_7 statement_8 statement_9 statement_10 computing
run = refl

valid : is_valid_program program ≡ true
unfolding program function_sort function_less function_greater function_main statement_1 statement_2 statement_3
    statement_4 statement_5 statement_6 statement_7 statement_8 statement_9 statement_10 computing
valid = refl

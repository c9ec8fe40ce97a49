-- `int a(void){return 1;}int b(void){return 2;}int(*p)(void)=*a,(*q)(void)=&**b,(*t[2])(void)={(*b),**a};int main(void)
-- {return p()*27+q()*9+t[0]()*3+t[1]();}`
-- What designates a function is a pointer to it, so `*` changes nothing, and each initializer is an address constant (C99
-- 6.3.2.1 paragraph 4, 6.6 paragraph 9).
-- Work: 3 for the call, the body and the return; 9 nodes for the sums, the products and their numbers; for each call
-- through a variable 2 nodes and through the table 4 nodes, and 4 in each. The text is rows/function_designators.c; gcc
-- 12.2.0 gives the same output and status.
use Rattle.c_tree.specs.Programs.{Program, Function}
use Rattle.c_tree.specs.Statements.{Statement, return}
use Rattle.c_tree.specs.Tree as tree
use Rattle.c_tree.specs.ValidProgram.{is_valid_program}
use Rattle.c_tree.specs.declared.expression.Kind.TheVariants.{Array}
use Rattle.obj_memory.specs.declared.operator.BinaryOperator.TheVariants.{Add, Multiply}
use Rattle.sb_base.specs.Budgets.{default_sizes}
use Rattle.source_meaning.specs.Meaning.{meaning}
use Rattle.source_meaning_rows.proofs.Samples.{binary, call_through, computing, content, counts, decay, defined}
use Rattle.source_meaning_rows.proofs.Samples.{designator, exited, function, function_address_of, index, int, lvalue}
use Rattle.source_meaning_rows.proofs.Samples.{main_type, none, number, one, parenthesized, part, pointer, program_of}
use Rattle.source_meaning_rows.proofs.Samples.{read, reads, seen, static_object, three, two}
use Rattle.std.proofs.Common.{Some, [], refl, true, ◌∷◌, ◌≡◌}

function_a : Function
function_a = defined 1 0 none none 168 (one (return (Some (number 1 1))))

function_b : Function
function_b = defined 1 0 none none 168 (one (return (Some (number 1 2))))

statement_1 : Statement
statement_1 = return (Some (binary 1 Add
    (binary 1 Add
    (binary 1 Add
    (binary 1 Multiply (call_through 1 int 0 (read (lvalue 1 pointer (tree.static 0))) none) (number 1 27))
    (binary 1 Multiply (call_through 1 int 0 (read (lvalue 1 pointer (tree.static 1))) none) (number 1 9)))
    (binary 1 Multiply
    (call_through 1 int 0 (read (index 1 pointer (decay (lvalue 1 (Array 16) (tree.static 2))) (number 1 0))) none)
    (number 1 3)))
    (call_through 1 int 0 (read (index 1 pointer (decay (lvalue 1 (Array 16) (tree.static 2))) (number 1 1))) none)))

function_main : Function
function_main = defined 1 0 none none 248 (one statement_1)

program : Program
program = program_of
    (three
    (static_object pointer (one (part 0 (content (designator 1 (function 1 0))))))
    (static_object pointer (one (part 0 (content (function_address_of 1 (designator 1 (designator 1 (function 1 1))))))))
    (static_object (Array 16) (two
    (part 0 (content (parenthesized (designator 1 (function 1 1)))))
    (part 8 (content (designator 1 (designator 1 (function 1 0))))))))
    (one main_type)
    (three function_a function_b function_main)
    2

run : seen (meaning program default_sizes [] 20) ≡ exited [] 52
unfolding program function_a function_b function_main statement_1 computing
run = refl

counted : counts (meaning program default_sizes [] 20) ≡
    record {
      turns = 5;
      work = 40;
      accesses = reads 0x10000000 8 ∷ reads 0x10000010 8 ∷ reads 0x10000020 8 ∷ reads 0x10000028 8 ∷ [];
    }
unfolding program function_a function_b function_main statement_1 computing
counted = refl

valid : is_valid_program program ≡ true
unfolding program function_a function_b function_main statement_1 computing
valid = refl

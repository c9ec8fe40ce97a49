-- `int a(void){return 1;}int b(void){return 2;}int(*t[2])(void)={a,b};int main(void){return t[0]()*10+t[1]();}`
-- Work: 3 for the call, the body and the return; 3 nodes for the sum, the product and 10; for each call through the
-- table 4 nodes, and 4 in it. The text is rows/function_table.c; gcc 12.2.0 gives the same output and status.
use Rattle.c_tree.specs.Programs.{Program, Function}
use Rattle.c_tree.specs.Statements.{Statement, return}
use Rattle.c_tree.specs.Tree as tree
use Rattle.c_tree.specs.ValidProgram.{is_valid_program}
use Rattle.c_tree.specs.declared.expression.Kind.TheVariants.{Array}
use Rattle.obj_memory.specs.declared.operator.BinaryOperator.TheVariants.{Add, Multiply}
use Rattle.sb_base.specs.Budgets.{default_sizes}
use Rattle.source_meaning.specs.Meaning.{meaning}
use Rattle.source_meaning_rows.proofs.Samples.{binary, call_through, computing, content, counts, decay, defined, exited}
use Rattle.source_meaning_rows.proofs.Samples.{function, index, int, lvalue, main_type, none, number, one, part}
use Rattle.source_meaning_rows.proofs.Samples.{pointer, program_of, read, reads, seen, static_object, three, two}
use Rattle.std.proofs.Common.{Some, [], refl, true, ◌∷◌, ◌≡◌}

function_a : Function
function_a = defined 1 0 none none 168 (one (return (Some (number 1 1))))

function_b : Function
function_b = defined 1 0 none none 168 (one (return (Some (number 1 2))))

statement_1 : Statement
statement_1 = return (Some (binary 1 Add
    (binary 1 Multiply
    (call_through 1 int 0 (read (index 1 pointer (decay (lvalue 1 (Array 16) (tree.static 0))) (number 1 0))) none)
    (number 1 10))
    (call_through 1 int 0 (read (index 1 pointer (decay (lvalue 1 (Array 16) (tree.static 0))) (number 1 1))) none)))

function_main : Function
function_main = defined 1 0 none none 248 (one statement_1)

program : Program
program = program_of
    (one (static_object (Array 16) (two (part 0 (content (function 1 0))) (part 8 (content (function 1 1))))))
    (one main_type)
    (three function_a function_b function_main)
    2

run : seen (meaning program default_sizes [] 20) ≡ exited [] 12
unfolding program function_a function_b function_main statement_1 computing
run = refl

counted : counts (meaning program default_sizes [] 20) ≡
    record { turns = 3; work = 22; accesses = reads 0x10000000 8 ∷ reads 0x10000008 8 ∷ [] }
unfolding program function_a function_b function_main statement_1 computing
counted = refl

valid : is_valid_program program ≡ true
unfolding program function_a function_b function_main statement_1 computing
valid = refl

-- `int x=5;int main(void){int*p=&x;long a=(long)p;int*q=(int*)(char*)(void*)p;putchar(48+*q);q=(int*)a;return *q;}`
-- A cast of a pointer keeps its tag; a pointer made from an integer has none. The text is rows/casts_of_pointers.c.
use Rattle.c_tree.specs.Programs.{Program}
use Rattle.c_tree.specs.Statements.{expression_statement, declaration, return}
use Rattle.c_tree.specs.Tree as tree
use Rattle.c_tree.specs.ValidProgram.{is_valid_program}
use Rattle.c_tree.specs.declared.expression.Routine.TheVariants.{Putchar}
use Rattle.obj_memory.specs.declared.int_type.IntType.TheVariants.{Long}
use Rattle.obj_memory.specs.declared.operator.BinaryOperator.TheVariants.{Add}
use Rattle.sb_base.specs.Budgets.{default_sizes}
use Rattle.source_meaning.specs.Meaning.{meaning}
use Rattle.source_meaning_rows.proofs.Samples.{address, binary, cast, computing, content, deref, int, integer_kind}
use Rattle.source_meaning_rows.proofs.Samples.{library, lvalue, main_alone, number, one, part, plain, plain_variable}
use Rattle.source_meaning_rows.proofs.Samples.{pointer, read, seen, set_plain, six, static_object, stopped, three}
use Rattle.source_meaning_rows.proofs.Samples.{with_value}
use Rattle.std.proofs.Common.{Some, [], refl, true, ◌≡◌}
use Rattle.std.specs.Prelude.{codes}

program : Program
program = main_alone
    (one (static_object int (one (part 0 (content (number 1 5))))))
    (three (plain_variable pointer) (plain_variable (integer_kind Long)) (plain_variable pointer))
    328
    (six
    (declaration (one (with_value 0 (address 1 (lvalue 1 int (tree.static 0))))))
    (declaration (one (with_value 1 (cast 1 (integer_kind Long) (plain 1 pointer 0)))))
    (declaration (one (with_value 2 (cast 1 pointer (cast 1 pointer (cast 1 pointer (plain 1 pointer 0)))))))
    (expression_statement
    (library 1 int Putchar (one (binary 1 Add (number 1 48) (read (deref 1 int (plain 1 pointer 2)))))))
    (expression_statement (set_plain 1 2 (cast 1 pointer (plain 1 (integer_kind Long) 1))))
    (return (Some (read (deref 1 int (plain 1 pointer 2))))))

run : seen (meaning program default_sizes [] 20)
    ≡ stopped (codes "5") (codes "sbcets: spatial violation at line 1\n") 120
unfolding program computing
run = refl

valid : is_valid_program program ≡ true
unfolding program computing
valid = refl

-- The address of the first member is that of the block. The text is rows/free_of_member.c.
--     struct s{int a;int b;};int main(void){struct s*p=malloc(sizeof(struct s));free(&p->a);p=malloc(8);
--     free(&p->b);return 0;}
use Rattle.c_tree.specs.Programs.{Program}
use Rattle.c_tree.specs.Statements.{expression_statement, declaration, return}
use Rattle.c_tree.specs.ValidProgram.{is_valid_program}
use Rattle.c_tree.specs.declared.expression.Kind.TheVariants.{Void}
use Rattle.c_tree.specs.declared.expression.Routine.TheVariants.{Free, Malloc}
use Rattle.obj_memory.specs.declared.int_type.IntType.TheVariants.{UnsignedLong}
use Rattle.sb_base.specs.Budgets.{default_sizes}
use Rattle.source_meaning.specs.Meaning.{meaning}
use Rattle.source_meaning_rows.proofs.Samples.{address, arrow, computing, constant, convert, five, int, integer_kind}
use Rattle.source_meaning_rows.proofs.Samples.{library, main_alone, none, number, one, plain, plain_variable, pointer}
use Rattle.source_meaning_rows.proofs.Samples.{seen, set_plain, stopped, with_value}
use Rattle.std.proofs.Common.{Some, [], refl, true, ◌≡◌}
use Rattle.std.specs.Prelude.{codes}

program : Program
program = main_alone none
    (one (plain_variable pointer))
    248
    (five
    (declaration (one (with_value 0 (library 1 pointer Malloc (one (constant UnsignedLong 1 8))))))
    (expression_statement (library 1 Void Free (one (address 1 (arrow 1 int 0 (plain 1 pointer 0))))))
    (expression_statement
    (set_plain 1 0 (library 1 pointer Malloc (one (convert (integer_kind UnsignedLong) (number 1 8))))))
    (expression_statement (library 2 Void Free (one (address 2 (arrow 2 int 4 (plain 2 pointer 0))))))
    (return (Some (number 2 0))))

run : seen (meaning program default_sizes [] 20) ≡ stopped [] (codes "sbcets: bad free at line 2\n") 123
unfolding program computing
run = refl

valid : is_valid_program program ≡ true
unfolding program computing
valid = refl

-- The line of an access is that of its outermost operator. The text is rows/member_of_dead_block.c.
--     struct s{int a;int b;};int main(void){struct s*p=malloc(sizeof(struct
-- s));int*q;p->b=7;q=&p->b;putchar(48+*q);free(p);
--     return p->
--     b;}
use Rattle.c_tree.specs.Programs.{Program}
use Rattle.c_tree.specs.Statements.{expression_statement, declaration, return}
use Rattle.c_tree.specs.ValidProgram.{is_valid_program}
use Rattle.c_tree.specs.declared.expression.Kind.TheVariants.{Void}
use Rattle.c_tree.specs.declared.expression.Routine.TheVariants.{Free, Malloc, Putchar}
use Rattle.obj_memory.specs.declared.int_type.IntType.TheVariants.{UnsignedLong}
use Rattle.obj_memory.specs.declared.operator.BinaryOperator.TheVariants.{Add}
use Rattle.sb_base.specs.Budgets.{default_sizes}
use Rattle.source_meaning.specs.Meaning.{meaning}
use Rattle.source_meaning_rows.proofs.Samples.{address, arrow, assign, binary, computing, constant, deref, int, library}
use Rattle.source_meaning_rows.proofs.Samples.{main_alone, none, number, one, plain, plain_variable, pointer, read}
use Rattle.source_meaning_rows.proofs.Samples.{seen, set_plain, six, stopped, two, with_value, without_value}
use Rattle.std.proofs.Common.{Some, [], refl, true, ◌≡◌, ◌∷◌}
use Rattle.std.specs.Prelude.{codes}

program : Program
program = main_alone none
    (two (plain_variable pointer) (plain_variable pointer))
    288
    ((declaration (one (with_value 0 (library 1 pointer Malloc (one (constant UnsignedLong 1 8))))))
    ∷ (declaration (without_value 1 ∷ []))
    ∷ (expression_statement (assign 1 (arrow 1 int 4 (plain 1 pointer 0)) (number 1 7)))
    ∷ (expression_statement (set_plain 1 1 (address 1 (arrow 1 int 4 (plain 1 pointer 0)))))
    ∷ (expression_statement
    (library 1 int Putchar (one (binary 1 Add (number 1 48) (read (deref 1 int (plain 1 pointer 1)))))))
    ∷ (expression_statement (library 1 Void Free (one (plain 1 pointer 0))))
    ∷ (return (Some (read (arrow 2 int 4 (plain 2 pointer 0)))))
    ∷ [])

run : seen (meaning program default_sizes [] 20)
    ≡ stopped (codes "7") (codes "sbcets: temporal violation at line 2\n") 121
unfolding program computing
run = refl

valid : is_valid_program program ≡ true
unfolding program computing
valid = refl

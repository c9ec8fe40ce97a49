-- `struct s{char n[4];int k;}v;int main(void){struct s*p=&v;p->k=1;p->n[3]=2;p->n[4]=3;return 0;}`
-- A member that is an array has its own range, though the byte lies in the structure. Work: 3 for the call, the
-- variable
-- and the body; 2 for the initializer; 5 for p->k=1; 7 for p->n[3]=2 and for p->n[4]=3 each, whose decays are no nodes;
-- the report 36. The right side of the last is evaluated before the place on the left is judged. The text is
-- rows/member_range.c.
use Rattle.c_tree.specs.Programs.{Program}
use Rattle.c_tree.specs.Statements.{Statement, expression_statement, declaration, return}
use Rattle.c_tree.specs.Tree as tree
use Rattle.c_tree.specs.ValidProgram.{is_valid_program}
use Rattle.c_tree.specs.declared.expression.Kind.TheVariants.{Array, Structure}
use Rattle.obj_memory.specs.declared.int_type.IntType.TheVariants.{Char}
use Rattle.sb_base.specs.Budgets.{default_sizes}
use Rattle.source_meaning.specs.Meaning.{meaning}
use Rattle.source_meaning_rows.proofs.Samples.{address, arrow, assign, computing, convert, counts, decay, five, index}
use Rattle.source_meaning_rows.proofs.Samples.{int, integer_kind, lvalue, main_alone, none, number, one, plain}
use Rattle.source_meaning_rows.proofs.Samples.{plain_variable, pointer, seen, static_object, stopped, with_value}
use Rattle.source_meaning_rows.proofs.Samples.{writes}
use Rattle.std.proofs.Common.{Some, [], refl, true, ◌∷◌, ◌≡◌}
use Rattle.std.specs.Prelude.{codes}

statement_1 : Statement
statement_1 = expression_statement (assign 1
    (index 1 (integer_kind Char) (decay (arrow 1 (Array 4) 0 (plain 1 pointer 0))) (number 1 3))
    (convert (integer_kind Char) (number 1 2)))

statement_2 : Statement
statement_2 = expression_statement (assign 1
    (index 1 (integer_kind Char) (decay (arrow 1 (Array 4) 0 (plain 1 pointer 0))) (number 1 4))
    (convert (integer_kind Char) (number 1 3)))

program : Program
program = main_alone
    (one (static_object (Structure 8) none))
    (one (plain_variable pointer))
    248
    (five
    (declaration (one (with_value 0 (address 1 (lvalue 1 (Structure 8) (tree.static 0))))))
    (expression_statement (assign 1 (arrow 1 int 4 (plain 1 pointer 0)) (number 1 1)))
    statement_1
    statement_2
    (return (Some (number 1 0))))

run : seen (meaning program default_sizes [] 20) ≡ stopped [] (codes "sbcets: spatial violation at line 1\n") 120
unfolding program statement_1 statement_2 computing
run = refl

counted : counts (meaning program default_sizes [] 20) ≡
    record { turns = 1; work = 60; accesses = writes 0x10000004 4 ∷ writes 0x10000003 1 ∷ [] }
unfolding program statement_1 statement_2 computing
counted = refl

valid : is_valid_program program ≡ true
unfolding program statement_1 statement_2 computing
valid = refl

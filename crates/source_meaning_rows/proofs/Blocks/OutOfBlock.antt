-- `int main(void){int*p;{int x=5;p=&x;}return *p;}`
-- An automatic object lives as long as its block. The text is rows/out_of_block.c.
use Rattle.c_tree.specs.Programs.{Program}
use Rattle.c_tree.specs.Statements.{Statement, expression_statement, declaration, return}
use Rattle.c_tree.specs.Tree as tree
use Rattle.c_tree.specs.ValidProgram.{is_valid_program}
use Rattle.sb_base.specs.Budgets.{default_sizes}
use Rattle.source_meaning.specs.Meaning.{meaning}
use Rattle.source_meaning_rows.proofs.Samples.{address, block_of, computing, content, deref, stopped, int, lvalue}
use Rattle.source_meaning_rows.proofs.Samples.{main_alone, none, number, object_variable, one, part, plain}
use Rattle.source_meaning_rows.proofs.Samples.{plain_variable, pointer, read, seen, set_plain, two, with_parts}
use Rattle.source_meaning_rows.proofs.Samples.{without_value}
use Rattle.std.specs.Prelude.{codes}
use Rattle.std.proofs.Common.{Some, [], refl, true, ◌≡◌, ◌∷◌}

statement_1 : Statement
statement_1 = block_of 1 (two
    (declaration (one (with_parts 1 (one (part 0 (content (number 1 5)))))))
    (expression_statement (set_plain 1 0 (address 1 (lvalue 1 int (tree.automatic 1))))))

program : Program
program = main_alone none
    (two (plain_variable pointer) (object_variable int))
    288
    ((declaration (without_value 0 ∷ []))
    ∷ statement_1
    ∷ (return (Some (read (deref 1 int (plain 1 pointer 0)))))
    ∷ [])

run : seen (meaning program default_sizes [] 20) ≡ stopped [] (codes "sbcets: temporal violation at line 1\n") 121
unfolding program statement_1 computing
run = refl

valid : is_valid_program program ≡ true
unfolding program statement_1 computing
valid = refl

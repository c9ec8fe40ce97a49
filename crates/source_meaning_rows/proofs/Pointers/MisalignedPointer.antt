-- `int x=9;int main(void){char b[16];int**q=(int**)(b+1);*q=&x;return **q;}`
-- A pointer stored at an address that is no multiple of 8 leaves no tag. The text is rows/misaligned_pointer.c.
use Rattle.c_tree.specs.Programs.{Program}
use Rattle.c_tree.specs.Statements.{Statement, expression_statement, declaration, return}
use Rattle.c_tree.specs.Tree as tree
use Rattle.c_tree.specs.ValidProgram.{is_valid_program}
use Rattle.c_tree.specs.declared.expression.Kind.TheVariants.{Array}
use Rattle.c_tree.specs.declared.expression.OffsetForm.TheVariants.{PointerPlusIndex}
use Rattle.sb_base.specs.Budgets.{default_sizes}
use Rattle.source_meaning.specs.Meaning.{meaning}
use Rattle.source_meaning_rows.proofs.Samples.{address, assign, cast, computing, content, decay, deref, int, lvalue}
use Rattle.source_meaning_rows.proofs.Samples.{main_alone, number, object_variable, offset, one, parenthesized, part}
use Rattle.source_meaning_rows.proofs.Samples.{plain, plain_variable, pointer, read, reads, seen, static_object}
use Rattle.source_meaning_rows.proofs.Samples.{stopped, three, two, with_value, writes, without_value}
use Rattle.std.proofs.Common.{Some, [], refl, true, ◌∷◌, ◌≡◌}
use Rattle.std.specs.Prelude.{codes}

statement_1 : Statement
statement_1 = declaration
    (one (with_value 1 (cast 1 pointer
    (parenthesized (offset 1 PointerPlusIndex 1 (decay (lvalue 1 (Array 16) (tree.automatic 0))) (number 1 1))))))

program : Program
program = main_alone
    (one (static_object int (one (part 0 (content (number 1 9))))))
    (two (object_variable (Array 16)) (plain_variable pointer))
    288
    ((declaration (without_value 0 ∷ []))
    ∷ statement_1
    ∷ (expression_statement (assign 1 (deref 1 pointer (plain 1 pointer 1)) (address 1 (lvalue 1 int (tree.static 0)))))
    ∷ (return (Some (read (deref 1 int (read (deref 1 pointer (plain 1 pointer 1)))))))
    ∷ [])

run : seen (meaning program default_sizes [] 20) ≡ stopped [] (codes "sbcets: spatial violation at line 1\n") 120
unfolding program statement_1 computing
run = refl

accesses : (meaning program default_sizes [] 20).shown.accesses ≡ writes 0x10001001 8 ∷ reads 0x10001001 8 ∷ []
unfolding program statement_1 computing
accesses = refl

valid : is_valid_program program ≡ true
unfolding program statement_1 computing
valid = refl

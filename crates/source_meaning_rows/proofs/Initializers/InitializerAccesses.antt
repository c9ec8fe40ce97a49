-- `int main(void){char s[4]="hi";int a[2]={[1]=7};return s[1]+a[0];}`
-- A string is stored byte by byte, the final 0 too where it fits. Work: the call and the body 2; the objects placed 5
-- and 9; the first initializer 8, 4 bytes that become zero, a node and 3 bytes
-- written, the second 9; the return 8. The text is
-- rows/initializer_accesses.c; gcc 12.2.0 gives the same output and status.
use Rattle.c_tree.specs.Programs.{Program}
use Rattle.c_tree.specs.Statements.{Statement, declaration, return, literal_content}
use Rattle.c_tree.specs.Tree as tree
use Rattle.c_tree.specs.ValidProgram.{is_valid_program}
use Rattle.c_tree.specs.declared.expression.Kind.TheVariants.{Array}
use Rattle.obj_memory.specs.declared.int_type.IntType.TheVariants.{Char}
use Rattle.obj_memory.specs.declared.operator.BinaryOperator.TheVariants.{Add}
use Rattle.sb_base.specs.Budgets.{default_sizes}
use Rattle.source_meaning.specs.Meaning.{meaning}
use Rattle.source_meaning_rows.proofs.Samples.{binary, computing, content, convert, counts, decay, exited, index, int}
use Rattle.source_meaning_rows.proofs.Samples.{integer_kind, lvalue, main_alone, none, number, object_variable, one}
use Rattle.source_meaning_rows.proofs.Samples.{part, read, reads, seen, three, two, with_parts, writes}
use Rattle.std.proofs.Common.{Some, [], refl, true, ◌++◌, ◌∷◌, ◌≡◌}
use Rattle.std.specs.Prelude.{codes}

statement_1 : Statement
statement_1 = return (Some (binary 1 Add
    (convert int (read (index 1 (integer_kind Char) (decay (lvalue 1 (Array 4) (tree.automatic 0))) (number 1 1))))
    (read (index 1 int (decay (lvalue 1 (Array 8) (tree.automatic 1))) (number 1 0)))))

program : Program
program = main_alone none
    (two (object_variable (Array 4)) (object_variable (Array 8)))
    328
    (three
    (declaration (one (with_parts 0 (one (part 0 (literal_content (codes "hi" ++ 0 ∷ [])))))))
    (declaration (one (with_parts 1 (one (part 4 (content (number 1 7)))))))
    statement_1)

run : seen (meaning program default_sizes [] 20) ≡ exited [] 105
unfolding program statement_1 computing
run = refl

counted : counts (meaning program default_sizes [] 20) ≡
    record {
      turns = 1;
      work = 41;
      accesses = writes 0x10000000 1 ∷ writes 0x10000001 1 ∷ writes 0x10000002 1
          ∷ writes 0x10000014 4 ∷ reads 0x10000001 1 ∷ reads 0x10000010 4 ∷ [];
    }
unfolding program statement_1 computing
counted = refl

valid : is_valid_program program ≡ true
unfolding program statement_1 computing
valid = refl

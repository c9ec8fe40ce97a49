-- `char a[16];int main(void){int*q=(int*)((char*)a+(0-(long)a)-2);return *q;}`
-- The address is 2^64 - 2, and the end of the access is not taken modulo 2^64. The text is rows/address_wraps.c.
use Rattle.c_tree.specs.Programs.{Program}
use Rattle.c_tree.specs.Statements.{Statement, declaration, return}
use Rattle.c_tree.specs.Tree as tree
use Rattle.c_tree.specs.ValidProgram.{is_valid_program}
use Rattle.c_tree.specs.declared.expression.Kind.TheVariants.{Array}
use Rattle.c_tree.specs.declared.expression.OffsetForm.TheVariants.{PointerMinusIndex, PointerPlusIndex}
use Rattle.obj_memory.specs.declared.int_type.IntType.TheVariants.{Long}
use Rattle.obj_memory.specs.declared.operator.BinaryOperator.TheVariants.{Subtract}
use Rattle.sb_base.specs.Budgets.{default_sizes}
use Rattle.source_meaning.specs.Meaning.{meaning}
use Rattle.source_meaning_rows.proofs.Samples.{binary, cast, computing, convert, decay, deref, int, integer_kind}
use Rattle.source_meaning_rows.proofs.Samples.{lvalue, main_alone, none, number, offset, one, parenthesized, plain}
use Rattle.source_meaning_rows.proofs.Samples.{plain_variable, pointer, read, seen, static_object, stopped, two}
use Rattle.source_meaning_rows.proofs.Samples.{with_value}
use Rattle.std.proofs.Common.{Some, [], refl, true, ◌≡◌}
use Rattle.std.specs.Prelude.{codes}

statement_1 : Statement
statement_1 = declaration (one (with_value 0 (cast 1 pointer (parenthesized (offset 1 PointerMinusIndex 1
    (offset 1 PointerPlusIndex 1
    (cast 1 pointer (decay (lvalue 1 (Array 16) (tree.static 0))))
    (parenthesized (binary 1 Subtract
    (convert (integer_kind Long) (number 1 0))
    (cast 1 (integer_kind Long) (decay (lvalue 1 (Array 16) (tree.static 0)))))))
    (number 1 2))))))

program : Program
program = main_alone
    (one (static_object (Array 16) none))
    (one (plain_variable pointer))
    288
    (two statement_1 (return (Some (read (deref 1 int (plain 1 pointer 0))))))

run : seen (meaning program default_sizes [] 20) ≡ stopped [] (codes "sbcets: spatial violation at line 1\n") 120
unfolding program statement_1 computing
run = refl

valid : is_valid_program program ≡ true
unfolding program statement_1 computing
valid = refl

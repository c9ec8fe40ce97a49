-- `char e[1];int main(void){printf("%d %d %d\n",-2147483647-1,0,2147483647);printf("%u %x %x %x\n",-1,-1,255,0);
-- printf("%c%c%%\n",65,321);printf("%ld %ld
-- %lu\n",-9223372036854775807L-1,9223372036854775807L,18446744073709551615UL);
-- return printf("%s|%d%u|\n",e,7,0);}`: each directive at its edges. Output and status are those of gcc (Debian 12.2.0)
-- with
-- `-std=c99 -fwrapv -funsigned-char`.
use Rattle.behaviours.specs.Shown.{Status}
use Rattle.c_tree.specs.Programs.{Program}
use Rattle.c_tree.specs.Statements.{return}
use Rattle.c_tree.specs.Tree as tree
use Rattle.c_tree.specs.Tree.{Expression}
use Rattle.c_tree.specs.ValidProgram.{is_valid_program}
use Rattle.c_tree.specs.declared.expression.Kind.TheVariants.{Scalar as OfScalar}
use Rattle.c_tree.specs.declared.expression.Kind.{Kind}
use Rattle.obj_memory.specs.declared.int_type.IntType.TheVariants.{UnsignedLong, Long}
use Rattle.obj_memory.specs.declared.operator.BinaryOperator.TheVariants.{Subtract}
use Rattle.obj_memory.specs.declared.operator.UnaryOperator.TheVariants.{Negate}
use Rattle.obj_memory.specs.declared.value.Scalar.TheVariants.{Integer}
use Rattle.sb_base.specs.Budgets.{default_sizes}
use Rattle.source_meaning.specs.Meaning.{meaning}
use Rattle.source_meaning_rows.proofs.LibrarySamples.{array, perform, printf, program_of, zero_chars}
use Rattle.source_meaning_rows.proofs.Samples.{at, computing, convert, five, four, int, none, number, one, three, two}
use Rattle.std.proofs.Common.{◌≡◌, ℕ, [], ◌++◌, refl, true, Some}
use Rattle.std.specs.Prelude.{codes}

long : Kind
long = OfScalar (Integer Long)

-- `-N`, and `-N-1`
negative : Kind → ℕ → Expression
negative kind n = at 1 kind (tree.unary Negate ((at 1 kind (tree.constant n))))

least : Kind → (greatest : ℕ) → Expression
least kind n = at 1 kind (tree.binary Subtract (negative kind n) ((convert kind (number 1 1))))

program : Program
program = program_of
    (one (zero_chars 1)) none
    (five
    (perform (printf (codes "%d %d %d\n") (three (least int 2147483647) (number 1 0) (number 1 2147483647))))
    (perform (printf (codes "%u %x %x %x\n") (four (negative int 1) (negative int 1) (number 1 255) (number 1 0))))
    (perform (printf (codes "%c%c%%\n") (two (number 1 65) (number 1 321))))
    (perform (printf (codes "%ld %ld %lu\n")
    (three (least long 9223372036854775807) (at 1 long (tree.constant 9223372036854775807))
    (at 1 (OfScalar (Integer UnsignedLong)) (tree.constant 18446744073709551615)))))
    (return (Some (printf (codes "%s|%d%u|\n") (three (array 0 1) (number 1 7) (number 1 0))))))

output : (meaning program default_sizes [] 1).shown.output ≡
    codes "-2147483648 0 2147483647\n4294967295 ffffffff ff 0\nAA%\n-9223372036854775808 "
    ++ codes "9223372036854775807 18446744073709551615\n|70|\n"
unfolding program least negative long computing
output = refl

ending : (meaning program default_sizes [] 1).shown.ending ≡ Some (Status 5)
unfolding program least negative long computing
ending = refl

valid : is_valid_program program ≡ true
unfolding program least negative long computing
valid = refl

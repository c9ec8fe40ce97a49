-- `char a[9]="abcdefgh";char b[9]="ABCDEFGH";char c[6];int main(void){memmove(a+2,a,5);memmove(b,b+2,5);memcpy(c,b,4);
-- memset(c,354,1);printf("%s %s %s %d %d %d\n",a,b,c,memcmp(a,b,9)>0,memcmp(a,a,9),memcmp(b,a,1)<0);return 0;}`: ranges
-- that
-- overlap both ways. The output is that of gcc (Debian 12.2.0) with `-std=c99 -fwrapv -funsigned-char`.
use Rattle.behaviours.specs.Shown.{Status}
use Rattle.c_tree.specs.Programs.{Program}
use Rattle.c_tree.specs.Statements.{return}
use Rattle.c_tree.specs.Tree.{Expression}
use Rattle.c_tree.specs.ValidProgram.{is_valid_program}
use Rattle.obj_memory.specs.declared.operator.BinaryOperator.TheVariants.{Less, Greater}
use Rattle.sb_base.specs.Budgets.{default_sizes}
use Rattle.source_meaning.specs.Meaning.{meaning}
use Rattle.source_meaning_rows.proofs.LibrarySamples.{ahead, array, chars, compare, memcmp, memcpy, memmove, memset}
use Rattle.source_meaning_rows.proofs.LibrarySamples.{perform, printf, program_of, zero_chars}
use Rattle.source_meaning_rows.proofs.Samples.{computing, none, number, six, three}
use Rattle.std.proofs.Common.{◌≡◌, [], refl, true, Some}
use Rattle.std.specs.Prelude.{codes}

a : Expression
a = array 0 9

b : Expression
b = array 1 9

c : Expression
c = array 2 6

program : Program
program = program_of
    (three (chars 9 (codes "abcdefgh")) (chars 9 (codes "ABCDEFGH")) (zero_chars 6)) none
    (six
    (perform (memmove (ahead 2 a) a 5))
    (perform (memmove b (ahead 2 b) 5))
    (perform (memcpy c b 4))
    (perform (memset c 354 1))
    (perform (printf (codes "%s %s %s %d %d %d\n")
    (six a b c (compare Greater (memcmp a b 9) (number 1 0)) (memcmp a a 9)
    (compare Less (memcmp b a 1) (number 1 0)))))
    (return (Some (number 1 0))))

output : (meaning program default_sizes [] 1).shown.output ≡ codes "ababcdeh CDEFGFGH bDEF 1 0 1\n"
unfolding program a b c computing
output = refl

ending : (meaning program default_sizes [] 1).shown.ending ≡ Some (Status 0)
unfolding program a b c computing
ending = refl

valid : is_valid_program program ≡ true
unfolding program a b c computing
valid = refl

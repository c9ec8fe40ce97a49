-- `char a[12]="abc";char b[8]="defg";char c[8];int main(void){strcat(a,b);strcpy(c,b);
-- printf("%s %s %lu %d %d %d\n",a,c,strlen(a),strcmp(c,b),strcmp(a,b)<0,strcmp(b,a)>0);strncpy(c,a,2);puts(c);
-- strncpy(c,a+5,4);printf("%s %lu %s %d\n",c,strlen(c+3),strchr(a,356),strchr(a,122)==0);return strchr(b,0)-b;}`: 356
-- is the
-- character 100, `d`, and the 0 byte is sought too. Output and status are those of gcc (Debian 12.2.0) with
-- `-std=c99 -fwrapv -funsigned-char`.
use Rattle.behaviours.specs.Shown.{Status}
use Rattle.c_tree.specs.Programs.{Program}
use Rattle.c_tree.specs.Statements.{return}
use Rattle.c_tree.specs.Tree as tree
use Rattle.c_tree.specs.Tree.{Expression}
use Rattle.c_tree.specs.ValidProgram.{is_valid_program}
use Rattle.c_tree.specs.declared.expression.Kind.TheVariants.{Scalar as OfScalar}
use Rattle.obj_memory.specs.declared.int_type.IntType.TheVariants.{Long}
use Rattle.obj_memory.specs.declared.operator.BinaryOperator.TheVariants.{Less, Greater, Equal}
use Rattle.obj_memory.specs.declared.value.Scalar.TheVariants.{Integer}
use Rattle.sb_base.specs.Budgets.{default_sizes}
use Rattle.source_meaning.specs.Meaning.{meaning}
use Rattle.source_meaning_rows.proofs.LibrarySamples.{ahead, array, chars, compare, null, perform, printf, program_of}
use Rattle.source_meaning_rows.proofs.LibrarySamples.{puts, strcat, strchr, strcmp, strcpy, strlen, strncpy, zero_chars}
use Rattle.source_meaning_rows.proofs.Samples.{at, computing, convert, four, int, none, number, six, three}
use Rattle.std.proofs.Common.{◌≡◌, [], ◌∷◌, refl, true, Some}
use Rattle.std.specs.Prelude.{codes}

a : Expression
a = array 0 12

b : Expression
b = array 1 8

c : Expression
c = array 2 8

program : Program
program = program_of
    (three (chars 12 (codes "abc")) (chars 8 (codes "defg")) (zero_chars 8)) none
    (perform (strcat a b)
    ∷ perform (strcpy c b)
    ∷ perform (printf (codes "%s %s %lu %d %d %d\n")
    (six a c (strlen a) (strcmp c b) (compare Less (strcmp a b) (number 1 0))
    (compare Greater (strcmp b a) (number 1 0))))
    ∷ perform (strncpy c a 2)
    ∷ perform (puts c)
    ∷ perform (strncpy c (ahead 5 a) 4)
    ∷ perform (printf (codes "%s %lu %s %d\n")
    (four c (strlen (ahead 3 c)) (strchr a 356) (compare Equal (strchr a 122) null)))
    ∷ return (Some (convert int (at 1 (OfScalar (Integer Long)) (tree.difference 1 (strchr b 0) (b)))))
    ∷ [])

output : (meaning program default_sizes [] 1).shown.output ≡ codes "abcdefg defg 7 0 1 1\nabfg\nfg 0 defg 1\n"
unfolding program a b c computing
output = refl

ending : (meaning program default_sizes [] 1).shown.ending ≡ Some (Status 4)
unfolding program a b c computing
ending = refl

valid : is_valid_program program ≡ true
unfolding program a b c computing
valid = refl

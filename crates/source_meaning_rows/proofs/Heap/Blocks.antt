-- `char a[4]="abc";char z[6];int main(void){char*p;char*q;p=malloc(4);strcpy(p,a);q=realloc(p,8);strcat(q,a);printf("%s
-- ",q);
-- q=realloc(q,2);memset(q+1,0,1);printf("%s ",q);free(q);p=calloc(3,2);
-- printf("%d %d %d\n",memcmp(p,z,6),realloc(0,1)==0,calloc(9223372036854775808UL,2)==0);return 0;}`: a block that grows
-- keeps its
-- bytes, and one that shrinks those that it has room for; an array has zero bytes, and one of 2^64 bytes is null. The
-- output is
-- that of gcc (Debian 12.2.0) with `-std=c99 -fwrapv -funsigned-char`.
use Rattle.behaviours.specs.Shown.{Status}
use Rattle.c_tree.specs.Programs.{Program}
use Rattle.c_tree.specs.Statements.{return}
use Rattle.c_tree.specs.Tree as tree
use Rattle.c_tree.specs.Tree.{Expression}
use Rattle.c_tree.specs.ValidProgram.{is_valid_program}
use Rattle.c_tree.specs.declared.expression.Kind.TheVariants.{Scalar as OfScalar}
use Rattle.obj_memory.specs.declared.int_type.IntType.TheVariants.{UnsignedLong}
use Rattle.obj_memory.specs.declared.operator.BinaryOperator.TheVariants.{Equal}
use Rattle.obj_memory.specs.declared.value.Scalar.TheVariants.{Integer}
use Rattle.sb_base.specs.Budgets.{default_sizes}
use Rattle.source_meaning.specs.Meaning.{meaning}
use Rattle.source_meaning_rows.proofs.LibrarySamples.{ahead, array, calloc, chars, compare, free, malloc, memcmp}
use Rattle.source_meaning_rows.proofs.LibrarySamples.{memset, null, perform, plain, printf, program_of, realloc, set}
use Rattle.source_meaning_rows.proofs.LibrarySamples.{size, strcat, strcpy, zero_chars}
use Rattle.source_meaning_rows.proofs.Samples.{at, computing, number, one, plain_variable, pointer, three, two}
use Rattle.std.proofs.Common.{◌≡◌, [], ◌∷◌, refl, true, Some}
use Rattle.std.specs.Prelude.{codes}

a : Expression
a = array 0 4

p : Expression
p = plain 0

q : Expression
q = plain 1

program : Program
program = program_of
    (two (chars 4 (codes "abc")) (zero_chars 6)) (two (plain_variable pointer) (plain_variable pointer))
    (set 0 (malloc 4)
    ∷ perform (strcpy p a)
    ∷ set 1 (realloc p 8)
    ∷ perform (strcat q a)
    ∷ perform (printf (codes "%s ") (one q))
    ∷ set 1 (realloc q 2)
    ∷ perform (memset (ahead 1 q) 0 1)
    ∷ perform (printf (codes "%s ") (one q))
    ∷ perform (free q)
    ∷ set 0 (calloc (size 3) (size 2))
    ∷ perform (printf (codes "%d %d %d\n") (three (memcmp p (array 1 6) 6) (compare Equal (realloc null 1) null)
    (compare Equal (calloc (at 1 (OfScalar (Integer UnsignedLong)) (tree.constant 9223372036854775808))
    (size 2)) null)))
    ∷ return (Some (number 1 0))
    ∷ [])

output : (meaning program default_sizes [] 1).shown.output ≡ codes "abcabc a 0 0 1\n"
unfolding program a p q computing
output = refl

ending : (meaning program default_sizes [] 1).shown.ending ≡ Some (Status 0)
unfolding program a p q computing
ending = refl

valid : is_valid_program program ≡ true
unfolding program a p q computing
valid = refl

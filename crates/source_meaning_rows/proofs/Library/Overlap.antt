-- `char a[8]="abc";int main(void){E;puts(a);return 0;}` for each E that is named, whose ranges overlap, which C99
-- leaves open.
use Rattle.c_tree.specs.Programs.{Program}
use Rattle.c_tree.specs.Statements.{return}
use Rattle.c_tree.specs.Tree.{Expression}
use Rattle.sb_base.specs.Budgets.{default_sizes}
use Rattle.source_meaning.specs.Meaning.{meaning}
use Rattle.source_meaning_rows.proofs.LibrarySamples.{ahead, array, chars, memcpy, perform, program_of, puts, strcat}
use Rattle.source_meaning_rows.proofs.LibrarySamples.{strcpy, strncpy}
use Rattle.source_meaning_rows.proofs.Samples.{computing, none, number, one, three}
use Rattle.std.proofs.Common.{◌≡◌, ℕ, List, [], refl, Some}
use Rattle.std.specs.Prelude.{codes}

a : Expression
a = array 0 8

program : Expression → Program
program e = program_of (one (chars 8 (codes "abc"))) none
    (three (perform e) (perform (puts a)) (return (Some (number 1 0))))

output : Expression → List ℕ
output e = (meaning (program e) default_sizes [] 1).shown.output

-- `strcpy(a+1,a)`: the bytes written are those that were scanned
strcpy_up : output (strcpy (ahead 1 a) a) ≡ codes "aabc\n"
unfolding output program a computing
strcpy_up = refl

-- `strcpy(a,a+1)`
strcpy_down : output (strcpy a (ahead 1 a)) ≡ codes "bc\n"
unfolding output program a computing
strcpy_down = refl

-- `strcat(a,a)`
strcat_itself : output (strcat a a) ≡ codes "abcabc\n"
unfolding output program a computing
strcat_itself = refl

-- `strncpy(a+1,a,2)`
strncpy_up : output (strncpy (ahead 1 a) a 2) ≡ codes "aab\n"
unfolding output program a computing
strncpy_up = refl

-- `memcpy(a+1,a,3)`
memcpy_up : output (memcpy (ahead 1 a) a 3) ≡ codes "aabc\n"
unfolding output program a computing
memcpy_up = refl

-- `char a[3]={97,200};char b[3]={97,100};int main(void){return E;}` for each E that is named. C99 fixes the sign alone;
-- here the
-- result is -1, of which the exit status is 255, 0 or 1.
use Rattle.behaviours.specs.Shown.{End, Status}
use Rattle.c_tree.specs.Programs.{Program}
use Rattle.c_tree.specs.Statements.{return}
use Rattle.c_tree.specs.Tree.{Expression}
use Rattle.sb_base.specs.Budgets.{default_sizes}
use Rattle.source_meaning.specs.Meaning.{meaning}
use Rattle.source_meaning_rows.proofs.LibrarySamples.{ahead, array, chars, memcmp, program_of, strcmp}
use Rattle.source_meaning_rows.proofs.Samples.{computing, none, one, two}
use Rattle.std.proofs.Common.{◌≡◌, [], ◌∷◌, refl, Option, Some}

a : Expression
a = array 0 3

b : Expression
b = array 1 3

program : Expression → Program
program e = program_of (two (chars 3 (97 ∷ 200 ∷ [])) (chars 3 (97 ∷ 100 ∷ []))) none (one (return (Some e)))

ending : Expression → Option End
ending e = (meaning (program e) default_sizes [] 1).shown.ending

-- `memcmp(a,b,2)`: 200 is above 100, as unsigned bytes
memcmp_above : ending (memcmp a b 2) ≡ Some (Status 1)
unfolding ending program a b computing
memcmp_above = refl

-- `memcmp(b,a,2)`: -1
memcmp_below : ending (memcmp b a 2) ≡ Some (Status 255)
unfolding ending program a b computing
memcmp_below = refl

-- `memcmp(a,b,1)`
memcmp_equal : ending (memcmp a b 1) ≡ Some (Status 0)
unfolding ending program a b computing
memcmp_equal = refl

-- `strcmp(a,b)`
strcmp_above : ending (strcmp a b) ≡ Some (Status 1)
unfolding ending program a b computing
strcmp_above = refl

-- `strcmp(b,a)`
strcmp_below : ending (strcmp b a) ≡ Some (Status 255)
unfolding ending program a b computing
strcmp_below = refl

-- `strcmp(a,a)`
strcmp_equal : ending (strcmp a a) ≡ Some (Status 0)
unfolding ending program a b computing
strcmp_equal = refl

-- `strcmp(a,a+2)`: a string is above the empty one
strcmp_longer : ending (strcmp a (ahead 2 a)) ≡ Some (Status 1)
unfolding ending program a b computing
strcmp_longer = refl

-- `char b[8]="bcd";int main(void){char*p;p=malloc(4);free(p);E;return 0;}` for each E that is named: every routine at
-- an object
-- that is dead. The heap has 4096 bytes.
use Rattle.behaviours.specs.Shown.{End, Status}
use Rattle.c_tree.specs.Programs.{Program}
use Rattle.c_tree.specs.Statements.{return}
use Rattle.c_tree.specs.Tree.{Expression}
use Rattle.source_meaning.specs.Meaning.{meaning}
use Rattle.source_meaning_rows.proofs.LibrarySamples.{ahead, array, chars, free, malloc, memcmp, memcpy, memmove}
use Rattle.source_meaning_rows.proofs.LibrarySamples.{memset, perform, plain, printf, program_of, puts, realloc, set}
use Rattle.source_meaning_rows.proofs.LibrarySamples.{small_heap, strcat, strchr, strcmp, strcpy, strlen, strncpy}
use Rattle.source_meaning_rows.proofs.Samples.{computing, four, number, one, plain_variable, pointer}
use Rattle.std.proofs.Common.{◌≡◌, [], refl, Option, Some}
use Rattle.std.specs.Prelude.{codes}

p : Expression
p = plain 0

b : Expression
b = array 0 8

program : Expression → Program
program e = program_of (one (chars 8 (codes "bcd"))) (one (plain_variable pointer))
    (four (set 0 (malloc 4)) (perform (free p)) (perform e) (return (Some (number 1 0))))

ending : Expression → Option End
ending e = (meaning (program e) small_heap [] 1).shown.ending

-- `memcpy(p,b,1)`
memcpy_destination : ending (memcpy p b 1) ≡ Some (Status 121)
unfolding ending program p b computing
memcpy_destination = refl

-- `memcpy(b,p,1)`
memcpy_source : ending (memcpy b p 1) ≡ Some (Status 121)
unfolding ending program p b computing
memcpy_source = refl

-- `memcpy(p,b,5)`: the bounds are tested first
memcpy_outside : ending (memcpy p b 5) ≡ Some (Status 120)
unfolding ending program p b computing
memcpy_outside = refl

-- `memmove(p,p,0)`
memmove_nothing : ending (memmove p p 0) ≡ Some (Status 0)
unfolding ending program p b computing
memmove_nothing = refl

-- `memset(p,0,1)`
memset_dead : ending (memset p 0 1) ≡ Some (Status 121)
unfolding ending program p b computing
memset_dead = refl

-- `memset(p,0,0)`
memset_nothing : ending (memset p 0 0) ≡ Some (Status 0)
unfolding ending program p b computing
memset_nothing = refl

-- `memcmp(p,b,1)`
memcmp_first : ending (memcmp p b 1) ≡ Some (Status 121)
unfolding ending program p b computing
memcmp_first = refl

-- `memcmp(b,p,1)`
memcmp_second : ending (memcmp b p 1) ≡ Some (Status 121)
unfolding ending program p b computing
memcmp_second = refl

-- `memcmp(p,p,0)`
memcmp_nothing : ending (memcmp p p 0) ≡ Some (Status 0)
unfolding ending program p b computing
memcmp_nothing = refl

-- `strlen(p)`
strlen_dead : ending (strlen p) ≡ Some (Status 121)
unfolding ending program p b computing
strlen_dead = refl

-- `strlen(p+4)`: the bounds are tested first
strlen_outside : ending (strlen (ahead 4 p)) ≡ Some (Status 120)
unfolding ending program p b computing
strlen_outside = refl

-- `strcmp(p,b)`
strcmp_first : ending (strcmp p b) ≡ Some (Status 121)
unfolding ending program p b computing
strcmp_first = refl

-- `strcmp(b,p)`
strcmp_second : ending (strcmp b p) ≡ Some (Status 121)
unfolding ending program p b computing
strcmp_second = refl

-- `strcpy(p,b)`
strcpy_destination : ending (strcpy p b) ≡ Some (Status 121)
unfolding ending program p b computing
strcpy_destination = refl

-- `strcpy(b,p)`
strcpy_source : ending (strcpy b p) ≡ Some (Status 121)
unfolding ending program p b computing
strcpy_source = refl

-- `strncpy(p,b,4)`
strncpy_destination : ending (strncpy p b 4) ≡ Some (Status 121)
unfolding ending program p b computing
strncpy_destination = refl

-- `strncpy(b,p,4)`
strncpy_source : ending (strncpy b p 4) ≡ Some (Status 121)
unfolding ending program p b computing
strncpy_source = refl

-- `strncpy(p,p,0)`
strncpy_nothing : ending (strncpy p p 0) ≡ Some (Status 0)
unfolding ending program p b computing
strncpy_nothing = refl

-- `strcat(p,b)`
strcat_first : ending (strcat p b) ≡ Some (Status 121)
unfolding ending program p b computing
strcat_first = refl

-- `strcat(b,p)`
strcat_second : ending (strcat b p) ≡ Some (Status 121)
unfolding ending program p b computing
strcat_second = refl

-- `strchr(p,0)`
strchr_dead : ending (strchr p 0) ≡ Some (Status 121)
unfolding ending program p b computing
strchr_dead = refl

-- `puts(p)`
puts_dead : ending (puts p) ≡ Some (Status 121)
unfolding ending program p b computing
puts_dead = refl

-- `printf("%s",p)`
printf_dead : ending (printf (codes "%s") (one p)) ≡ Some (Status 121)
unfolding ending program p b computing
printf_dead = refl

-- `free(p)`
free_dead : ending (free p) ≡ Some (Status 121)
unfolding ending program p b computing
free_dead = refl

-- `free(p+1)`: an object that is dead is tested for first
free_dead_inside : ending (free (ahead 1 p)) ≡ Some (Status 121)
unfolding ending program p b computing
free_dead_inside = refl

-- `realloc(p,8)`
realloc_dead : ending (realloc p 8) ≡ Some (Status 121)
unfolding ending program p b computing
realloc_dead = refl

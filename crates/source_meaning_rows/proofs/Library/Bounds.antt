-- `char a[4];char b[8]="bcd";char c[2]="xy";int main(void){E;return 0;}` for each E that is named: every routine inside
-- its
-- ranges, one byte outside, and at no bytes. A violation ends with 120.
use Rattle.behaviours.specs.Shown.{End, Status}
use Rattle.c_tree.specs.Programs.{Program}
use Rattle.c_tree.specs.Statements.{return}
use Rattle.c_tree.specs.Tree.{Expression}
use Rattle.c_tree.specs.ValidProgram.{is_valid_program}
use Rattle.sb_base.specs.Budgets.{default_sizes}
use Rattle.source_meaning.specs.Meaning.{meaning}
use Rattle.source_meaning_rows.proofs.LibrarySamples.{ahead, array, chars, memcmp, memcpy, memmove, memset, null}
use Rattle.source_meaning_rows.proofs.LibrarySamples.{perform, printf, program_of, puts, strcat, strchr, strcmp, strcpy}
use Rattle.source_meaning_rows.proofs.LibrarySamples.{strlen, strncpy, zero_chars}
use Rattle.source_meaning_rows.proofs.Samples.{computing, none, number, one, three, two}
use Rattle.std.proofs.Common.{◌≡◌, [], ◌∷◌, refl, true, Option, Some}
use Rattle.std.specs.List.{list_all}
use Rattle.std.specs.Prelude.{codes}

a : Expression
a = array 0 4

b : Expression
b = array 1 8

c : Expression
c = array 2 2

program : Expression → Program
program e = program_of (three (zero_chars 4) (chars 8 (codes "bcd")) (chars 2 (codes "xy"))) none
    (two (perform e) (return (Some (number 1 0))))

ending : Expression → Option End
ending e = (meaning (program e) default_sizes [] 1).shown.ending

-- memory

-- `memcpy(a,b,4)`
memcpy_inside : ending (memcpy a b 4) ≡ Some (Status 0)
unfolding ending program a b c computing
memcpy_inside = refl

-- `memcpy(a,b,5)`, of which the destination is too short
memcpy_destination : ending (memcpy a b 5) ≡ Some (Status 120)
unfolding ending program a b c computing
memcpy_destination = refl

-- `memcpy(b,a,5)`, of which the source is too short
memcpy_source : ending (memcpy b a 5) ≡ Some (Status 120)
unfolding ending program a b c computing
memcpy_source = refl

-- `memcpy(0,0,0)`
memcpy_nothing : ending (memcpy null null 0) ≡ Some (Status 0)
unfolding ending program a b c computing
memcpy_nothing = refl

-- `memcpy(0,b,1)`
memcpy_null : ending (memcpy null b 1) ≡ Some (Status 120)
unfolding ending program a b c computing
memcpy_null = refl

-- `memmove(b+1,b,7)`
memmove_inside : ending (memmove (ahead 1 b) b 7) ≡ Some (Status 0)
unfolding ending program a b c computing
memmove_inside = refl

-- `memmove(b+1,b,8)`
memmove_outside : ending (memmove (ahead 1 b) b 8) ≡ Some (Status 120)
unfolding ending program a b c computing
memmove_outside = refl

-- `memmove(a+4,b+8,0)`
memmove_nothing : ending (memmove (ahead 4 a) (ahead 8 b) 0) ≡ Some (Status 0)
unfolding ending program a b c computing
memmove_nothing = refl

-- `memset(a+1,7,3)`
memset_inside : ending (memset (ahead 1 a) 7 3) ≡ Some (Status 0)
unfolding ending program a b c computing
memset_inside = refl

-- `memset(a+1,7,4)`
memset_outside : ending (memset (ahead 1 a) 7 4) ≡ Some (Status 120)
unfolding ending program a b c computing
memset_outside = refl

-- `memset(0,7,0)`
memset_nothing : ending (memset null 7 0) ≡ Some (Status 0)
unfolding ending program a b c computing
memset_nothing = refl

-- `memcmp(a,b,4)`
memcmp_inside : ending (memcmp a b 4) ≡ Some (Status 0)
unfolding ending program a b c computing
memcmp_inside = refl

-- `memcmp(a,b,5)`: the first bytes differ, and the whole range is judged
memcmp_outside : ending (memcmp a b 5) ≡ Some (Status 120)
unfolding ending program a b c computing
memcmp_outside = refl

-- `memcmp(b,a,5)`
memcmp_second : ending (memcmp b a 5) ≡ Some (Status 120)
unfolding ending program a b c computing
memcmp_second = refl

-- `memcmp(0,0,0)`
memcmp_nothing : ending (memcmp null null 0) ≡ Some (Status 0)
unfolding ending program a b c computing
memcmp_nothing = refl

-- strings

-- `strlen(b)`
strlen_inside : ending (strlen b) ≡ Some (Status 0)
unfolding ending program a b c computing
strlen_inside = refl

-- `strlen(c)`: no 0 byte
strlen_outside : ending (strlen c) ≡ Some (Status 120)
unfolding ending program a b c computing
strlen_outside = refl

-- `strcmp(b,b)`
strcmp_inside : ending (strcmp b b) ≡ Some (Status 0)
unfolding ending program a b c computing
strcmp_inside = refl

-- `strcmp(c,b)`: the first bytes differ, and no more are judged
strcmp_difference : ending (strcmp c b) ≡ Some (Status 0)
unfolding ending program a b c computing
strcmp_difference = refl

-- `strcmp(c,c)`
strcmp_outside : ending (strcmp c c) ≡ Some (Status 120)
unfolding ending program a b c computing
strcmp_outside = refl

-- `strcpy(a,b)`: four bytes with the 0 byte
strcpy_inside : ending (strcpy a b) ≡ Some (Status 0)
unfolding ending program a b c computing
strcpy_inside = refl

-- `strcpy(a+1,b)`
strcpy_destination : ending (strcpy (ahead 1 a) b) ≡ Some (Status 120)
unfolding ending program a b c computing
strcpy_destination = refl

-- `strcpy(b,c)`
strcpy_source : ending (strcpy b c) ≡ Some (Status 120)
unfolding ending program a b c computing
strcpy_source = refl

-- `strncpy(a,b,4)`
strncpy_inside : ending (strncpy a b 4) ≡ Some (Status 0)
unfolding ending program a b c computing
strncpy_inside = refl

-- `strncpy(a,b,5)`
strncpy_destination : ending (strncpy a b 5) ≡ Some (Status 120)
unfolding ending program a b c computing
strncpy_destination = refl

-- `strncpy(a,c,2)`: the byte behind is not looked at
strncpy_full : ending (strncpy a c 2) ≡ Some (Status 0)
unfolding ending program a b c computing
strncpy_full = refl

-- `strncpy(a,c,3)`
strncpy_source : ending (strncpy a c 3) ≡ Some (Status 120)
unfolding ending program a b c computing
strncpy_source = refl

-- `strncpy(0,0,0)`
strncpy_nothing : ending (strncpy null null 0) ≡ Some (Status 0)
unfolding ending program a b c computing
strncpy_nothing = refl

-- `strcat(b,b)`: seven bytes
strcat_itself : ending (strcat b b) ≡ Some (Status 0)
unfolding ending program a b c computing
strcat_itself = refl

-- `strcat(b+4,b)`: four bytes at the empty string there
strcat_inside : ending (strcat (ahead 4 b) b) ≡ Some (Status 0)
unfolding ending program a b c computing
strcat_inside = refl

-- `strcat(b+5,b)`
strcat_destination : ending (strcat (ahead 5 b) b) ≡ Some (Status 120)
unfolding ending program a b c computing
strcat_destination = refl

-- `strcat(c,b)`
strcat_first : ending (strcat c b) ≡ Some (Status 120)
unfolding ending program a b c computing
strcat_first = refl

-- `strcat(b,c)`
strcat_second : ending (strcat b c) ≡ Some (Status 120)
unfolding ending program a b c computing
strcat_second = refl

-- `strchr(c,121)`
strchr_found : ending (strchr c 121) ≡ Some (Status 0)
unfolding ending program a b c computing
strchr_found = refl

-- `strchr(c,122)`
strchr_outside : ending (strchr c 122) ≡ Some (Status 120)
unfolding ending program a b c computing
strchr_outside = refl

-- `strchr(b,122)`
strchr_null : ending (strchr b 122) ≡ Some (Status 0)
unfolding ending program a b c computing
strchr_null = refl

-- output

-- `puts(b)`
puts_inside : ending (puts b) ≡ Some (Status 0)
unfolding ending program a b c computing
puts_inside = refl

-- `puts(c)`
puts_outside : ending (puts c) ≡ Some (Status 120)
unfolding ending program a b c computing
puts_outside = refl

-- `printf("%s",b)`
printf_inside : ending (printf (codes "%s") (one b)) ≡ Some (Status 0)
unfolding ending program a b c computing
printf_inside = refl

-- `printf("%s%s",b,c)`
printf_outside : ending (printf (codes "%s%s") (two b c)) ≡ Some (Status 120)
unfolding ending program a b c computing
printf_outside = refl

-- before a violation nothing is put
nothing_put : (meaning (program (printf (codes "%s%s") (two b c))) default_sizes [] 1).shown.output ≡ []
unfolding program a b c computing
nothing_put = refl

-- routines make no accesses
no_access : (meaning (program (strcpy a b)) default_sizes [] 1).shown.accesses ≡ []
unfolding program a b c computing
no_access = refl

valid : list_all (λ e. is_valid_program (program e))
    (memcpy a b 4 ∷ memmove a b 4 ∷ memset a 7 4 ∷ memcmp a b 4 ∷ strlen b ∷ strcmp b c ∷ strcpy a b ∷ strncpy a b 4
    ∷ strcat a b ∷ strchr b 0 ∷ puts b
    ∷ memcpy null (ahead 1 a) 0 ∷ printf (codes "%s%s") (two b c) ∷ []) ≡ true
unfolding program a b c computing
valid = refl

-- `char a[4];char b[8]="bcd";char c[2]="xy";int main(void){E;return 0;}` for each E that is named: the work. Without
-- E's nodes it
-- is 5: the call of `main`, its body, two statements and a node; 3 where E ends the run. E's nodes and its call come
-- next, then
-- what the routine does. The heap has 4096 bytes.
use Rattle.c_tree.specs.Programs.{Program}
use Rattle.c_tree.specs.Statements.{return}
use Rattle.c_tree.specs.Tree.{Expression}
use Rattle.c_tree.specs.ValidProgram.{is_valid_program}
use Rattle.source_meaning.specs.Meaning.{meaning}
use Rattle.source_meaning_rows.proofs.LibrarySamples.{ahead, array, calloc, chars, free, malloc, memcmp, memcpy}
use Rattle.source_meaning_rows.proofs.LibrarySamples.{memmove, memset, perform, printf, program_of, puts, realloc, size}
use Rattle.source_meaning_rows.proofs.LibrarySamples.{small_heap, strcat, strchr, strcmp, strcpy, strlen, strncpy}
use Rattle.source_meaning_rows.proofs.LibrarySamples.{zero_chars}
use Rattle.source_meaning_rows.proofs.Samples.{computing, none, number, one, three, two}
use Rattle.std.proofs.Common.{◌≡◌, ℕ, ◌+◌, ◌*◌, [], ◌∷◌, refl, true, length, Some}
use Rattle.std.specs.List.{list_all}
use Rattle.std.specs.Prelude.{codes}

a : Expression
a = array 0 4

b : Expression
b = array 1 8

c : Expression
c = array 2 2

program : Expression → Program
program e = program_of (three (zero_chars 4) (chars 8 (codes "bcd")) (chars 2 (codes "xy"))) none
    (two (perform e) (return (Some (number 1 0))))

work : Expression → ℕ
work e = (meaning (program e) small_heap [] 1).work

-- `memcpy(a,b,4)`: four bytes moved
memcpy_bytes : work (memcpy a b 4) ≡ 5 + 5 + 4
unfolding work program a b c computing
memcpy_bytes = refl

-- `memmove(a,b,0)`
memmove_nothing : work (memmove a b 0) ≡ 5 + 5
unfolding work program a b c computing
memmove_nothing = refl

-- `memset(a,1,4)`: four bytes set
memset_bytes : work (memset a 1 4) ≡ 5 + 5 + 4
unfolding work program a b c computing
memset_bytes = refl

-- `memcmp(a,b,4)`: one pair, which differs
memcmp_pair : work (memcmp a b 4) ≡ 5 + 5 + 2 * 1
unfolding work program a b c computing
memcmp_pair = refl

-- `memcmp(b,b,4)`: four pairs
memcmp_pairs : work (memcmp b b 4) ≡ 5 + 5 + 2 * 4
unfolding work program a b c computing
memcmp_pairs = refl

-- `strlen(b)`: three bytes and the 0 byte scanned
strlen_bytes : work (strlen b) ≡ 5 + 3 + 4
unfolding work program a b c computing
strlen_bytes = refl

-- `strcmp(b,b)`: four pairs
strcmp_pairs : work (strcmp b b) ≡ 5 + 4 + 2 * 4
unfolding work program a b c computing
strcmp_pairs = refl

-- `strcmp(c,b)`: one pair, which differs
strcmp_pair : work (strcmp c b) ≡ 5 + 4 + 2 * 1
unfolding work program a b c computing
strcmp_pair = refl

-- `strcpy(a,b)`: four bytes scanned and four written
strcpy_bytes : work (strcpy a b) ≡ 5 + 4 + 4 + 4
unfolding work program a b c computing
strcpy_bytes = refl

-- `strncpy(b,b,8)`: four bytes scanned and eight written
strncpy_bytes : work (strncpy b b 8) ≡ 5 + 5 + 4 + 8
unfolding work program a b c computing
strncpy_bytes = refl

-- `strncpy(a,c,2)`: two bytes scanned and two written
strncpy_full : work (strncpy a c 2) ≡ 5 + 5 + 2 + 2
unfolding work program a b c computing
strncpy_full = refl

-- `strcat(b,b)`: four and four bytes scanned and four written
strcat_bytes : work (strcat b b) ≡ 5 + 4 + 4 + 4 + 4
unfolding work program a b c computing
strcat_bytes = refl

-- `strchr(b,100)`: three bytes
strchr_bytes : work (strchr b 100) ≡ 5 + 4 + 3
unfolding work program a b c computing
strchr_bytes = refl

-- `puts(b)`: four bytes scanned and four put
puts_bytes : work (puts b) ≡ 5 + 3 + 4 + 4
unfolding work program a b c computing
puts_bytes = refl

-- `printf("%s!",b)`, of which the format is a node: four bytes scanned and four put
printf_bytes : work (printf (codes "%s!") (one b)) ≡ 5 + 4 + 4 + 4
unfolding work program a b c computing
printf_bytes = refl

-- `malloc(4)`: a place sought at no live block, an object and its four bytes
malloc_bytes : work (malloc 4) ≡ 5 + 3 + 1 + 1 + 4
unfolding work program a b c computing
malloc_bytes = refl

-- `free(malloc(4))`: the same in a call, and a block freed where one lives
free_block : work (free (malloc 4)) ≡ 5 + 2 + 3 + 1 + 1 + 4 + 2
unfolding work program a b c computing
free_block = refl

-- `realloc(malloc(4),6)`: a place sought at one live block, an object of six bytes, four bytes moved, a block freed
-- where two live
realloc_block : work (realloc (malloc 4) 6) ≡ 5 + 3 + 3 + 1 + 1 + 4 + 2 + 1 + 6 + 4 + 3
unfolding work program a b c computing
realloc_block = refl

-- `calloc(2,2)`: as `malloc(4)`
calloc_bytes : work (calloc (size 2) (size 2)) ≡ 5 + 4 + 1 + 1 + 4
unfolding work program a b c computing
calloc_bytes = refl

-- `strlen(c)`: two bytes, a third is refused, and the report
strlen_refused : work (strlen c) ≡ 3 + 3 + 2 + length (codes "sbcets: spatial violation at line 1\n")
unfolding work program a b c computing
strlen_refused = refl

-- `strcmp(b,c+1)` goes on to no more than a pair
strcmp_one : work (strcmp b (ahead 1 c)) ≡ 5 + 6 + 2 * 1
unfolding work program a b c computing
strcmp_one = refl

-- `memcpy(a,b,5)`: none, and the report
memcpy_refused : work (memcpy a b 5) ≡ 3 + 5 + length (codes "sbcets: spatial violation at line 1\n")
unfolding work program a b c computing
memcpy_refused = refl

-- `strcpy(a+1,b)`: four bytes scanned, none written, and the report
strcpy_refused : work (strcpy (ahead 1 a) b) ≡ 3 + 6 + 4 + length (codes "sbcets: spatial violation at line 1\n")
unfolding work program a b c computing
strcpy_refused = refl

valid : list_all (λ e. is_valid_program (program e))
    (free (malloc 4) ∷ realloc (malloc 4) 6 ∷ calloc (size 2) (size 2) ∷ []) ≡ true
unfolding program a b c computing
valid = refl

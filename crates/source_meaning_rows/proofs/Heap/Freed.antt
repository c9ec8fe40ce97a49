-- `char b[8];int main(void){char*p;p=malloc(4);E;return 0;}` for each E that is named: what can be freed and replaced,
-- and what
-- ends with 123. The heap has 4096 bytes.
use Rattle.behaviours.specs.Shown.{End, Status}
use Rattle.c_tree.specs.Programs.{Program, Function}
use Rattle.c_tree.specs.Statements.{return}
use Rattle.c_tree.specs.Tree as tree
use Rattle.c_tree.specs.Tree.{Expression}
use Rattle.c_tree.specs.ValidProgram.{is_valid_program}
use Rattle.source_meaning.specs.Meaning.{meaning}
use Rattle.source_meaning_rows.proofs.LibrarySamples.{ahead, array, free, malloc, null, perform, plain, program_of}
use Rattle.source_meaning_rows.proofs.LibrarySamples.{realloc, set, small_heap, zero_chars}
use Rattle.source_meaning_rows.proofs.Samples.{at, computing, number, one, plain_variable, pointer, three}
use Rattle.std.proofs.Common.{◌≡◌, [], ◌∷◌, refl, true, Option, Some}
use Rattle.std.specs.List.{list_all}

p : Expression
p = plain 0

b : Expression
b = array 0 8

program : Expression → Program
program e = program_of (one (zero_chars 8)) (one (plain_variable pointer))
    (three (set 0 (malloc 4)) (perform e) (return (Some (number 1 0))))

ending : Expression → Option End
ending e = (meaning (program e) small_heap [] 1).shown.ending

-- `free(p)`
free_block : ending (free p) ≡ Some (Status 0)
unfolding ending program p b computing
free_block = refl

-- `free(0)`
free_null : ending (free null) ≡ Some (Status 0)
unfolding ending program p b computing
free_null = refl

-- `free(p+1)`: not the start of the block
free_inside : ending (free (ahead 1 p)) ≡ Some (Status 123)
unfolding ending program p b computing
free_inside = refl

-- `free(p+4)`: not its start either
free_behind : ending (free (ahead 4 p)) ≡ Some (Status 123)
unfolding ending program p b computing
free_behind = refl

-- `free(b)`: not allocated
free_static : ending (free b) ≡ Some (Status 123)
unfolding ending program p b computing
free_static = refl

-- `free((void*)1)`: no tag
free_untagged : ending (free (at 1 pointer (tree.cast (number 1 1)))) ≡ Some (Status 123)
unfolding ending program p b computing
free_untagged = refl

-- `free((void*)main)`: a function
free_function : ending (free (at 1 pointer (tree.cast ((at 1 pointer (tree.function 0)))))) ≡ Some (Status 123)
unfolding ending program p b computing
free_function = refl

-- `realloc(p,8)`
realloc_block : ending (realloc p 8) ≡ Some (Status 0)
unfolding ending program p b computing
realloc_block = refl

-- `realloc(p,0)`: a block of no bytes
realloc_nothing : ending (realloc p 0) ≡ Some (Status 0)
unfolding ending program p b computing
realloc_nothing = refl

-- `realloc(0,8)`
realloc_null : ending (realloc null 8) ≡ Some (Status 0)
unfolding ending program p b computing
realloc_null = refl

-- `realloc(p+1,8)`
realloc_inside : ending (realloc (ahead 1 p) 8) ≡ Some (Status 123)
unfolding ending program p b computing
realloc_inside = refl

-- `realloc(b,8)`
realloc_static : ending (realloc b 8) ≡ Some (Status 123)
unfolding ending program p b computing
realloc_static = refl

-- `realloc((void*)1,8)`
realloc_untagged : ending (realloc (at 1 pointer (tree.cast (number 1 1))) 8) ≡ Some (Status 123)
unfolding ending program p b computing
realloc_untagged = refl

valid : list_all (λ e. is_valid_program (program e))
    (free p ∷ free null ∷ free (at 1 pointer (tree.cast (number 1 1)))
    ∷ free (at 1 pointer (tree.cast ((at 1 pointer (tree.function 0))))) ∷ realloc p 8 ∷ []) ≡ true
unfolding program p b computing
valid = refl

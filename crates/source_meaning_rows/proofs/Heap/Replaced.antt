-- `int main(void){char*p;char*q;p=malloc(N);q=realloc(p,M);return E;}` for N, M and E as named, in a heap of 4096
-- bytes: where a
-- block is placed that replaces another, and what is left where it has no place.
use Rattle.c_tree.specs.Tree as tree
use Rattle.behaviours.specs.Shown.{End, Status}
use Rattle.c_tree.specs.Programs.{Program}
use Rattle.c_tree.specs.Statements.{return}
use Rattle.c_tree.specs.Tree.{Expression}
use Rattle.c_tree.specs.declared.expression.Kind.TheVariants.{Scalar as OfScalar}
use Rattle.obj_memory.specs.declared.int_type.IntType.TheVariants.{Int, Long}
use Rattle.obj_memory.specs.declared.operator.BinaryOperator.TheVariants.{Equal}
use Rattle.obj_memory.specs.declared.value.Scalar.TheVariants.{Integer}
use Rattle.sb_base.specs.Budgets.{BudgetSizes}
use Rattle.source_meaning.specs.Meaning.{meaning}
use Rattle.source_meaning_rows.proofs.LibrarySamples.{compare, malloc, null, plain, program_of, realloc, set}
use Rattle.source_meaning_rows.proofs.LibrarySamples.{small_heap, strlen}
use Rattle.source_meaning_rows.proofs.Samples.{at, computing, convert, int, none, plain_variable, pointer, three, two}
use Rattle.std.proofs.Common.{◌≡◌, ℕ, [], refl, Option, Some}

p : Expression
p = plain 0

q : Expression
q = plain 1

program : (n m : ℕ) → Expression → Program
program n m e = program_of none (two (plain_variable pointer) (plain_variable pointer))
    (three (set 0 (malloc n)) (set 1 (realloc p m)) (return (Some e)))

ending : (n m : ℕ) → BudgetSizes → Expression → Option End
ending n m budgets e = (meaning (program n m e) budgets [] 1).shown.ending

-- `q=realloc(p,16)` of `p=malloc(16)`: the new block stands behind the old one, which lives until then. `return q-p;`
moves : ending 16 16 (small_heap)
    (at 1 (OfScalar (Integer Int)) (tree.convert ((at 1 (OfScalar (Integer Long)) (tree.difference 1 (q) (p))))))
    ≡ Some (Status 16)
unfolding ending program p q computing
moves = refl

-- the old one is dead then: `return strlen(p);`
old_is_dead : ending 16 16 (small_heap) (convert int (strlen p)) ≡ Some (Status 121)
unfolding ending program p q computing
old_is_dead = refl

-- `q=realloc(p,2096)` of `p=malloc(2000)` in a heap of 4096 bytes: the room behind the old one is just enough. `return
-- q==0;`
fits : ending 2000 2096 (small_heap) (compare Equal q null) ≡ Some (Status 0)
unfolding ending program p q computing
fits = refl

-- one byte more, and there is no place while the old one lives: `return q==0;`
fails : ending 2000 2097 (small_heap) (compare Equal q null) ≡ Some (Status 1)
unfolding ending program p q computing
fails = refl

-- and it lives on: `return strlen(p);`
old_lives_on : ending 2000 2097 (small_heap) (convert int (strlen p)) ≡ Some (Status 0)
unfolding ending program p q computing
old_lives_on = refl

-- at one live block in all there is none for a second: `return q==0;`
blocks : ending 16 16 (record small_heap { blocks = 1 }) (compare Equal q null) ≡ Some (Status 1)
unfolding ending program p q computing
blocks = refl

-- at one key in all the second block has none: Keys
keys : ending 16 16 (record small_heap { keys = 1 }) (compare Equal q null) ≡ Some (Status 126)
unfolding ending program p q computing
keys = refl

-- `int
-- main(void){char*p=malloc(4);p[3]=88;p=realloc(p,40);putchar(p[3]);putchar(p[39]+48);char*q=p;p=realloc(p,8);q[0]=1;
-- return 0;}`: a block that grows keeps its bytes, and new bytes are 0. The old block is dead.
use Rattle.behaviours.specs.Shown.{Status}
use Rattle.c_tree.specs.Programs.{Program}
use Rattle.c_tree.specs.Statements.{Statement, declaration, return}
use Rattle.c_tree.specs.Tree as tree
use Rattle.c_tree.specs.Tree.{Expression, Lvalue}
use Rattle.c_tree.specs.ValidProgram.{is_valid_program}
use Rattle.c_tree.specs.declared.expression.Kind.TheVariants.{Scalar as OfScalar}
use Rattle.c_tree.specs.declared.expression.OffsetForm.TheVariants.{PointerPlusIndex}
use Rattle.c_tree.specs.declared.expression.Routine.TheVariants.{Putchar}
use Rattle.obj_memory.specs.declared.int_type.IntType.TheVariants.{Char}
use Rattle.obj_memory.specs.declared.operator.BinaryOperator.TheVariants.{Add}
use Rattle.obj_memory.specs.declared.value.Scalar.TheVariants.{Integer}
use Rattle.sb_base.specs.Budgets.{default_sizes}
use Rattle.source_meaning.specs.Meaning.{meaning}
use Rattle.source_meaning_rows.proofs.LibrarySamples.{call, malloc, perform, plain, program_declaring, realloc, set}
use Rattle.source_meaning_rows.proofs.Samples.{at, computing, convert, int, lvalue, none, number, one, plain_variable}
use Rattle.source_meaning_rows.proofs.Samples.{pointer, read, two, with_value}
use Rattle.std.proofs.Common.{◌≡◌, ℕ, [], ◌∷◌, refl, true, Some}
use Rattle.std.specs.Prelude.{codes}

p : Expression
p = plain 0

-- `E[N]` of characters
element : Expression → ℕ → Lvalue
element e n = lvalue 1 (OfScalar (Integer Char)) (tree.index PointerPlusIndex 1 (e) (number 1 n))

-- `E[N]=M;`
assign : Expression → (n m : ℕ) → Statement
assign e n m = perform
    (at 1 (OfScalar (Integer Char)) (tree.assign (element e n) ((convert (OfScalar (Integer Char)) (number 1 m)))))

put : Expression → Statement
put e = perform (call Putchar int (one e))

program : Program
program = program_declaring none (two (plain_variable pointer) (plain_variable pointer))
    (declaration (one (with_value 0 (malloc 4)))
    ∷ assign p 3 88
    ∷ set 0 (realloc p 40)
    ∷ put (convert int (read (element p 3)))
    ∷ put (at 1 int (tree.binary Add ((convert int (read (element p 39)))) (number 1 48)))
    ∷ declaration (one (with_value 1 p))
    ∷ set 0 (realloc p 8)
    ∷ assign (plain 1) 0 1
    ∷ return (Some (number 1 0))
    ∷ [])

output : (meaning program default_sizes [] 1).shown.output ≡ codes "X0"
unfolding program p element assign put computing
output = refl

ending : (meaning program default_sizes [] 1).shown.ending ≡ Some (Status 121)
unfolding program p element assign put computing
ending = refl

valid : is_valid_program program ≡ true
unfolding program p element assign put computing
valid = refl

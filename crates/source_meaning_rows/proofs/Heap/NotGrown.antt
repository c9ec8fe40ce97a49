-- `int main(void){char*p=malloc(1);*p=5;if(realloc(p,2)==0)return *p;return 0;}` at one live block in all: there is
-- none for
-- the new one, and the old one lives on.
use Rattle.behaviours.specs.Shown.{Status}
use Rattle.c_tree.specs.Programs.{Program}
use Rattle.c_tree.specs.Statements.{declaration, if_then, return}
use Rattle.c_tree.specs.Tree as tree
use Rattle.c_tree.specs.Tree.{Expression, Lvalue}
use Rattle.c_tree.specs.ValidProgram.{is_valid_program}
use Rattle.c_tree.specs.declared.expression.Kind.TheVariants.{Scalar as OfScalar}
use Rattle.obj_memory.specs.declared.int_type.IntType.TheVariants.{Char}
use Rattle.obj_memory.specs.declared.operator.BinaryOperator.TheVariants.{Equal}
use Rattle.obj_memory.specs.declared.value.Scalar.TheVariants.{Integer}
use Rattle.sb_base.specs.Budgets.{default_sizes}
use Rattle.source_meaning.specs.Meaning.{meaning}
use Rattle.source_meaning_rows.proofs.LibrarySamples.{compare, malloc, null, perform, plain, program_declaring, realloc}
use Rattle.source_meaning_rows.proofs.Samples.{at, computing, convert, four, int, lvalue, none, number, one}
use Rattle.source_meaning_rows.proofs.Samples.{plain_variable, pointer, read, with_value}
use Rattle.std.proofs.Common.{◌≡◌, [], refl, true, Some, None}

p : Expression
p = plain 0

target : Lvalue
target = lvalue 1 (OfScalar (Integer Char)) (tree.deref (p))

program : Program
program = program_declaring none (one (plain_variable pointer))
    (four
    (declaration (one (with_value 0 (malloc 1))))
    (perform (at 1 (OfScalar (Integer Char)) (tree.assign (target) ((convert (OfScalar (Integer Char)) (number 1 5))))))
    (if_then (compare Equal (realloc p 2) null) ((return (Some (convert int (read target))))))
    (return (Some (number 1 0))))

ending : (meaning program (record default_sizes { blocks = 1 }) [] 1).shown.ending ≡ Some (Status 5)
unfolding program p target computing
ending = refl

valid : is_valid_program program ≡ true
unfolding program p target computing
valid = refl

-- `int main(void){char d[4];puts("go");strcpy(d,"1234");puts("no");return 0;}`: the 0 byte has no room.
use Rattle.c_tree.specs.Programs.{Program, StaticObject}
use Rattle.c_tree.specs.Statements.{return, literal_content}
use Rattle.c_tree.specs.Tree as tree
use Rattle.c_tree.specs.ValidProgram.{is_valid_program}
use Rattle.c_tree.specs.declared.expression.Kind.TheVariants.{Array}
use Rattle.sb_base.specs.Budgets.{default_sizes}
use Rattle.source_meaning.specs.Meaning.{meaning}
use Rattle.source_meaning_rows.proofs.LibrarySamples.{array, perform, program_of, puts, size, strcpy}
use Rattle.source_meaning_rows.proofs.Samples.{at, computing, four, lvalue, number, object_variable, one, pointer}
use Rattle.source_meaning_rows.proofs.Samples.{three}
use Rattle.std.proofs.Common.{◌≡◌, ℕ, [], refl, true, Some, None, List}
use Rattle.std.specs.Prelude.{codes}

-- a literal
literal : ℕ → List ℕ → StaticObject
literal size bytes = record {
  kind = Array size;
  is_literal = true;
  function = None;
  parts = one
      (record { offset = 0; content = literal_content bytes });
}

program : Program
program = program_of
    (three (literal 3 (codes "go")) (literal 5 (codes "1234")) (literal 3 (codes "no")))
    (one (object_variable (Array 4)))
    (four
    (perform (puts (array 0 3)))
    (perform (strcpy (at 1 pointer (tree.decay ((lvalue 1 (Array 4) (tree.automatic 0))))) (array 1 5)))
    (perform (puts (array 2 3)))
    (return (Some (number 1 0))))

output : (meaning program default_sizes [] 1).shown.output ≡ codes "go\n"
unfolding program literal computing
output = refl

report : (meaning program default_sizes [] 1).shown.errors ≡ codes "sbcets: spatial violation at line 1\n"
unfolding program literal computing
report = refl

valid : is_valid_program program ≡ true
unfolding program literal computing
valid = refl

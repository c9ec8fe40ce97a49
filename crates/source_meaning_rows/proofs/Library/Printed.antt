-- `int main(void){printf("%d %x %s%%\n",-5,255,"ok");return 0;}`: the literal that is an argument is an object, the
-- format is
-- none. The output is that of gcc (Debian 12.2.0) with `-std=c99 -fwrapv -funsigned-char`.
use Rattle.behaviours.specs.Shown.{Status}
use Rattle.c_tree.specs.Programs.{Program}
use Rattle.c_tree.specs.Statements.{return, literal_content}
use Rattle.c_tree.specs.Tree as tree
use Rattle.c_tree.specs.ValidProgram.{is_valid_program}
use Rattle.c_tree.specs.declared.expression.Kind.TheVariants.{Array}
use Rattle.obj_memory.specs.declared.operator.UnaryOperator.TheVariants.{Negate}
use Rattle.sb_base.specs.Budgets.{default_sizes}
use Rattle.source_meaning.specs.Meaning.{meaning}
use Rattle.source_meaning_rows.proofs.LibrarySamples.{array, perform, printf, program_of}
use Rattle.source_meaning_rows.proofs.Samples.{at, computing, int, none, number, one, three, two}
use Rattle.std.proofs.Common.{◌≡◌, [], refl, true, Some, None}
use Rattle.std.specs.Prelude.{codes}

program : Program
program = program_of
    (one (record {
      kind = Array 3;
      is_literal = true;
      function = None;
      parts = one
          (record { offset = 0; content = literal_content (codes "ok") });
    })) none
    (two
    (perform (printf (codes "%d %x %s%%\n")
    (three (at 1 int (tree.unary Negate (number 1 5))) (number 1 255) (array 0 3))))
    (return (Some (number 1 0))))

output : (meaning program default_sizes [] 1).shown.output ≡ codes "-5 ff ok%\n"
unfolding program computing
output = refl

ending : (meaning program default_sizes [] 1).shown.ending ≡ Some (Status 0)
unfolding program computing
ending = refl

valid : is_valid_program program ≡ true
unfolding program computing
valid = refl

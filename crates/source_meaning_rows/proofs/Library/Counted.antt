-- `int main(void){int i;for(i=0;i<3;i++)printf("%d",i);puts("");return 1;}`. The output is that of gcc (Debian 12.2.0)
-- with
-- `-std=c99 -fwrapv -funsigned-char`.
use Rattle.behaviours.specs.Shown.{Status}
use Rattle.c_tree.specs.Programs.{Program}
use Rattle.c_tree.specs.Statements.{for, return, first_expression}
use Rattle.c_tree.specs.Tree as tree
use Rattle.c_tree.specs.ValidProgram.{is_valid_program}
use Rattle.c_tree.specs.declared.expression.Fixity.TheVariants.{Postfix}
use Rattle.c_tree.specs.declared.expression.Kind.TheVariants.{Array}
use Rattle.c_tree.specs.declared.expression.PlainName.{PlainName}
use Rattle.c_tree.specs.declared.expression.Update.TheVariants.{Arithmetic}
use Rattle.obj_memory.specs.declared.int_type.IntType.TheVariants.{Int}
use Rattle.obj_memory.specs.declared.operator.BinaryOperator.TheVariants.{Less, Add}
use Rattle.sb_base.specs.Budgets.{default_sizes}
use Rattle.source_meaning.specs.Meaning.{meaning}
use Rattle.source_meaning_rows.proofs.LibrarySamples.{array, compare, perform, printf, program_of, puts}
use Rattle.source_meaning_rows.proofs.Samples.{at, computing, int, none, number, one, plain_variable, three}
use Rattle.std.proofs.Common.{◌≡◌, [], refl, true, Some, None}
use Rattle.std.specs.Prelude.{codes}

i : PlainName
i = record { variable = 0; parentheses = 0 }

program : Program
program = program_of
    (one (record { kind = Array 1; is_literal = true; function = None; parts = none }))
    (one (plain_variable int))
    (three
    (for 1 (first_expression (at 1 int (tree.assign_plain i (number 1 0))))
    (Some (compare Less (at 1 int (tree.plain 0)) (number 1 3)))
    (Some (at 1 int (tree.step_plain (Arithmetic Add Int) Postfix i)))
    ((perform (printf (codes "%d") (one (at 1 int (tree.plain 0)))))))
    (perform (puts (array 0 1)))
    (return (Some (number 1 1))))

output : (meaning program default_sizes [] 4).shown.output ≡ codes "012\n"
unfolding program i computing
output = refl

ending : (meaning program default_sizes [] 4).shown.ending ≡ Some (Status 1)
unfolding program i computing
ending = refl

valid : is_valid_program program ≡ true
unfolding program i computing
valid = refl

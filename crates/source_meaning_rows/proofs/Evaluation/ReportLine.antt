-- `int z;int main(void){return 1/z;}`
-- Work: the call and the body 2; the return 4; the report 35. The text is rows/report_line.c.
use Rattle.c_tree.specs.Programs.{Program}
use Rattle.c_tree.specs.Statements.{return}
use Rattle.c_tree.specs.Tree as tree
use Rattle.c_tree.specs.ValidProgram.{is_valid_program}
use Rattle.obj_memory.specs.declared.operator.BinaryOperator.TheVariants.{Divide}
use Rattle.sb_base.specs.Budgets.{default_sizes}
use Rattle.source_meaning.specs.Meaning.{meaning}
use Rattle.source_meaning_rows.proofs.Samples.{binary, computing, counts, int, lvalue, main_alone, none, number, one}
use Rattle.source_meaning_rows.proofs.Samples.{read, reads, seen, static_object, stopped}
use Rattle.std.proofs.Common.{Some, [], refl, true, ◌∷◌, ◌≡◌}
use Rattle.std.specs.Prelude.{codes}

program : Program
program = main_alone (one (static_object int none)) none 208
    (one (return (Some (binary 1 Divide (number 1 1) (read (lvalue 1 int (tree.static 0)))))))

run : seen (meaning program default_sizes [] 20) ≡ stopped [] (codes "sbcets: division by zero at line 1\n") 124
unfolding program computing
run = refl

counted : counts (meaning program default_sizes [] 20)
    ≡ record { turns = 1; work = 41; accesses = reads 0x10000000 4 ∷ [] }
unfolding program computing
counted = refl

valid : is_valid_program program ≡ true
unfolding program computing
valid = refl

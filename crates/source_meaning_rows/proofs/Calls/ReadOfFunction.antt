-- `int main(void){char*p=(char*)main;return *p;}`
-- The text is rows/read_of_function.c.
use Rattle.c_tree.specs.Programs.{Program}
use Rattle.c_tree.specs.Statements.{declaration, return}
use Rattle.c_tree.specs.ValidProgram.{is_valid_program}
use Rattle.obj_memory.specs.declared.int_type.IntType.TheVariants.{Char}
use Rattle.sb_base.specs.Budgets.{default_sizes}
use Rattle.source_meaning.specs.Meaning.{meaning}
use Rattle.source_meaning_rows.proofs.Samples.{cast, computing, convert, deref, function, int, integer_kind, main_alone}
use Rattle.source_meaning_rows.proofs.Samples.{none, one, plain, plain_variable, pointer, read, seen, stopped, two}
use Rattle.source_meaning_rows.proofs.Samples.{with_value}
use Rattle.std.proofs.Common.{Some, [], refl, true, ◌≡◌}
use Rattle.std.specs.Prelude.{codes}

program : Program
program = main_alone none
    (one (plain_variable pointer))
    208
    (two
    (declaration (one (with_value 0 (cast 1 pointer (function 1 0)))))
    (return (Some (convert int (read (deref 1 (integer_kind Char) (plain 1 pointer 0)))))))

run : seen (meaning program default_sizes [] 20) ≡ stopped [] (codes "sbcets: spatial violation at line 1\n") 120
unfolding program computing
run = refl

valid : is_valid_program program ≡ true
unfolding program computing
valid = refl

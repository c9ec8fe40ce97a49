-- `int main(void){for(;;);}`
-- Work: 3 for the call, the body and the loop, and 1 for each of 999 turns. The text is rows/no_end.c.
use Rattle.c_tree.specs.Programs.{Program}
use Rattle.c_tree.specs.Statements.{empty, for, nothing}
use Rattle.c_tree.specs.ValidProgram.{is_valid_program}
use Rattle.sb_base.specs.Budgets.{default_sizes}
use Rattle.source_meaning.specs.Meaning.{meaning}
use Rattle.source_meaning_rows.proofs.Samples.{computing, main_alone, none, one, running, seen}
use Rattle.std.proofs.Common.{None, [], refl, true, ◌≡◌}

program : Program
program = main_alone none none 128 (one (for 1 nothing None None (empty)))

run : seen (meaning program default_sizes [] 1000) ≡ running []
unfolding program computing
run = refl

turned : (meaning program default_sizes [] 1000).turns ≡ 1000
unfolding program computing
turned = refl

work : (meaning program default_sizes [] 1000).work ≡ 1002
unfolding program computing
work = refl

valid : is_valid_program program ≡ true
unfolding program computing
valid = refl

-- How many temporaries the code of an expression needs: where operands come in turn, and each is kept, as many as are
-- kept and what the next one needs; else as many as the operand that needs most.
use Rattle.std.specs.Prelude.{ℕ, max, List}
use Rattle.c_tree.specs.Tree.{Expression, Lvalue, binary, offset_by, difference, assign, compound, call, call_through}
use Rattle.c_tree.specs.Tree.{library, printf, index}
use Rattle.c_tree.specs.Walk.{Visited, visited, visited_lvalue, walk, walk_lvalue, greatest}
use Rattle.c_tree.specs.Room.{in_turn}

abbrev pub used_made : Visited → List ℕ → ℕ
used_made (visited kind (binary op a b)) us = in_turn 0 us
used_made (visited kind (offset_by form size a b)) us = in_turn 0 us
used_made (visited kind (difference size a b)) us = in_turn 0 us
used_made (visited kind (assign p e)) us = in_turn 0 us
used_made (visited kind (compound u p e)) us = in_turn 0 us
used_made (visited kind (call f es)) us = in_turn 0 us
used_made (visited kind (call_through type e es)) us = in_turn 0 us
used_made (visited kind (library routine es)) us = in_turn 0 us
used_made (visited kind (printf format es)) us = in_turn 0 us
used_made (visited_lvalue kind (index form size a b)) us = in_turn 0 us
used_made v us = max 1 (greatest us)

abbrev pub used : Expression → ℕ
used = walk used_made

abbrev pub used_by_lvalue : Lvalue → ℕ
used_by_lvalue = walk_lvalue used_made

use Rattle.std.proofs.Common.{◌≡◌, ℕ, ◌<◌, true}
use Rattle.c_tree.specs.Valid.{at_number}
use Rattle.program_expansion.proofs.sizes.have_objects_of.Given as goal

abbrev pub invariant-loop-i : goal.invariant-loop-i
invariant-loop-i l =
    (x : ℕ) → x < l.i → (at_number l.declared x).is_object ≡ true → (at_number l.all x).is_object ≡ true

use Rattle.std.proofs.Common.{◌≡◌, ◌==◌, drop}
use Rattle.std.specs.List.{list_all}
use Rattle.instruction_selection.proofs.covered.contents.have_none.Given as goal

abbrev pub invariant-loop-bytes : goal.invariant-loop-bytes
invariant-loop-bytes l =
    list_all (λ n. n == 0) (drop l.bytes-index l.areas) ≡ list_all (λ n. n == 0) l.fn.areas

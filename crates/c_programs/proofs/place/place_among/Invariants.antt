use Rattle.std.proofs.Common.{◌≡◌, ◌+◌, drop}
use Rattle.c_operand_typing.specs.Calls.{place_among}
use Rattle.c_programs.proofs.place.place_among.Given as goal

abbrev pub invariant-loop-c_type : goal.invariant-loop-c_type
invariant-loop-c_type l =
    (l.place ≡ l.c_type-index)
    × (l.place + place_among l.words (drop l.c_type-index l.types) ≡ place_among l.fn.words l.fn.types)

use Rattle.std.proofs.Common.{◌≡◌, ◌++◌, drop, map}
use Rattle.c_declarator_typing.specs.Members.{entry_of, no_offset}
use Rattle.c_declarator_typing.proofs.members.no_offsets.Given as goal

abbrev pub invariant-loop : goal.invariant-loop
invariant-loop l =
    l.offsets.items ++ map no_offset (map entry_of (drop l.index l.entries)) ≡ map no_offset (map entry_of l.fn.entries)

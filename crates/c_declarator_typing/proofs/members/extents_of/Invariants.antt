use Rattle.std.proofs.Common.{◌≡◌, ◌++◌, drop, map}
use Rattle.c_declarator_typing.specs.Members.{entry_of, extent_in}
use Rattle.c_declarator_typing.proofs.members.extents_of.Given as goal

abbrev pub invariant-loop-entry : goal.invariant-loop-entry
invariant-loop-entry l =
    l.extents.items ++ map extent_in (map entry_of (drop l.entry-index l.entries))
    ≡ map extent_in (map entry_of l.fn.entries)

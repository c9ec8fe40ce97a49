use Rattle.std.proofs.Common.{◌≡◌, [], drop, map}
use Rattle.c_scope.specs.Names.{names_of}
use Rattle.c_declarator_typing.specs.Members.{entry_of, members_at}
use Rattle.c_declarator_typing.proofs.members.members_at.Given as goal

abbrev pub invariant-loop-entry : goal.invariant-loop-entry
invariant-loop-entry l =
    members_at (map entry_of (drop l.entry-index l.entries)) l.offsets (names_of l.members)
    ≡ members_at (map entry_of l.fn.entries) l.fn.offsets []

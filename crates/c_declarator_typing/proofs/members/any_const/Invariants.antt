use Rattle.std.proofs.Common.{◌≡◌, drop, map}
use Rattle.c_declarator_typing.specs.Members.{any_const, entry_of}
use Rattle.c_declarator_typing.proofs.members.any_const.Given as goal

abbrev pub invariant-loop-entry : goal.invariant-loop-entry
invariant-loop-entry l =
    any_const l.with_const (map entry_of (drop l.entry-index l.entries))
    ≡ any_const l.fn.with_const (map entry_of l.fn.entries)

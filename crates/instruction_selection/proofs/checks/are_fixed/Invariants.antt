use Rattle.std.proofs.Common.{◌≡◌, drop}
use Rattle.std.specs.List.{list_all}
use Rattle.metadata_plan.specs.Entries.{is_fixed}
use Rattle.instruction_selection.proofs.checks.are_fixed.Given as goal

abbrev pub invariant-loop-member : goal.invariant-loop-member
invariant-loop-member l = list_all is_fixed (drop l.member-index l.members) ≡ list_all is_fixed l.fn.members

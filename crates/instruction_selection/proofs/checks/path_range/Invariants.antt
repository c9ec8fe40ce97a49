use Rattle.std.proofs.Common.{◌≡◌, ◌-◌, ◌<◌, ◌≤◌, ◌^◌, drop}
use Rattle.metadata_relation.specs.Blocks.{path_range}
use Rattle.instruction_selection.proofs.checks.path_range.Given as goal

abbrev pub invariant-loop-behind : goal.invariant-loop-behind
invariant-loop-behind l = record {
  start_is : l.start ≡ (path_range l.size (drop (l.count - l.behind) l.path)).start;
  end_is : l.end ≡ (path_range l.size (drop (l.count - l.behind) l.path)).end;
  inside : l.end ≤ l.size;
  low : l.start < 2 ^ 64;
}

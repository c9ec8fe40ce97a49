use Rattle.std.proofs.Common.{◌≤◌, length, drop, map}
use Rattle.c_pre.specs.Directives.{names_among}
use Rattle.c_pre.specs.Expansion.{put_in}
use Rattle.c_pre.specs.Pending.{all_hiding}
use Rattle.c_pre.specs.PutIn.{Puts}
use Rattle.c_pre.specs.SharedSets.{names_of}
use Rattle.c_pre.proofs.unread.Unread.put_in.Given as goal

abbrev pub invariant-loop-n : goal.invariant-loop-n
invariant-loop-n l = record {
  puts : Puts (put_in l.line (names_of l.fn.self.sets l.here) (names_among l.parameters)
      (map (λ v. all_hiding l.fn.self.sets v.items) l.arguments) (drop l.n l.list))
      l.fn.self l.self;
  within : l.n ≤ length l.list;
}

abbrev pub decreases-loop-n : goal.decreases-loop-n
decreases-loop-n l = l.n

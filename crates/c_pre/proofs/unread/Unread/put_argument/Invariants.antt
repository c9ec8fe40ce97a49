use Rattle.std.proofs.Common.{◌≤◌, length, drop}
use Rattle.c_pre.specs.Expansion.{put_argument}
use Rattle.c_pre.specs.Pending.{all_hiding}
use Rattle.c_pre.specs.PutIn.{Puts}
use Rattle.c_pre.specs.SharedSets.{names_of}
use Rattle.c_pre.proofs.unread.Unread.put_argument.Given as goal

abbrev pub invariant-loop-n : goal.invariant-loop-n
invariant-loop-n l = record {
  puts : Puts (put_argument l.line (names_of l.fn.self.sets l.here) (all_hiding l.fn.self.sets (drop l.n l.argument)))
      l.fn.self l.self;
  within : l.n ≤ length l.argument;
}

abbrev pub decreases-loop-n : goal.decreases-loop-n
decreases-loop-n l = l.n

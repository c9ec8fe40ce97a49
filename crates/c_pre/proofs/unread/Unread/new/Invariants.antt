use Rattle.std.proofs.Common.{◌≡◌, ◌≤◌, length, drop}
use Rattle.c_pre.specs.Expansion.{of_text}
use Rattle.c_pre.specs.Pending.{above, AreKnown}
use Rattle.c_pre.proofs.unread.Unread.new.Given as goal

abbrev pub invariant-loop-n : goal.invariant-loop-n
invariant-loop-n l = record {
  same : above 0 l.unread.sets l.unread.tokens.items ≡ of_text (drop l.n l.text);
  known : AreKnown l.unread.sets l.unread.tokens.items;
  room : l.unread.room ≡ l.fn.room;
  within : l.n ≤ length l.text;
}

abbrev pub decreases-loop-n : goal.decreases-loop-n
decreases-loop-n l = l.n

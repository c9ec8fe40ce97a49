use Rattle.std.proofs.Common.{◌≡◌, length}
use Rattle.c_grammar.specs.Reader.{consts_from}
use Rattle.c_grammar.proofs.Extending.{extending}
use Rattle.c_grammar.proofs.cursor.Cursor.consts.Given as goal

abbrev pub invariant-loop-position : goal.invariant-loop-position
invariant-loop-position l = record {
  read : consts_from l.fn.self.rest.now
      ≡ extending l.consts.items (consts_from l.self.rest.now);
}

abbrev pub decreases-loop-position : goal.decreases-loop-position
decreases-loop-position l = length l.self.rest.now

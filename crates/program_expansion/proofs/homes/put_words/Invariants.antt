use Rattle.std.proofs.Common.{◌≡◌, ◌++◌}
use Rattle.metadata_relation.specs.Homes.{words_from}
use Rattle.program_expansion.proofs.homes.put_words.Given as goal

abbrev pub invariant-loop-i : goal.invariant-loop-i
invariant-loop-i l = l.list.items ≡ l.initial.list.items ++ words_from l.word l.i

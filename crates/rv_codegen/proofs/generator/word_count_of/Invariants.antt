use Rattle.std.proofs.Common.{◌≡◌, ◌*◌, ◌≤◌, ◌^◌, length}
use Rattle.machine_laws.specs.Segments.Segments.{words_below}
use Rattle.rv_codegen.proofs.generator.word_count_of.Given as goal

abbrev pub invariant-loop-number : goal.invariant-loop-number
invariant-loop-number l = record {
  value : l.count ≡ length (words_below l.map l.program l.plans l.runtime l.number);
  few : l.count ≤ 2 ^ 66 * l.number;
}

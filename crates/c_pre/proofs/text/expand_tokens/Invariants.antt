use Rattle.std.proofs.Common.{◌≡◌, ◌≤◌, ◌-◌, length, drop}
use Rattle.c_pre.specs.Limits.{max_expanded_tokens}
use Rattle.c_pre.specs.Lines.{lines}
use Rattle.c_pre.specs.Trace.{after}
use Rattle.c_pre.specs.Reading.{read_lines, runs, start}
use Rattle.c_pre.specs.Outcomes.{state_of}
use Rattle.c_pre.proofs.text.expand_tokens.Given as goal

abbrev pub invariant-loop-at : goal.invariant-loop-at
invariant-loop-at l = record {
  same : read_lines start (runs (lines l.tokens))
      ≡ after l.out.items (read_lines (state_of l.preprocessor) (runs (lines (drop l.at l.tokens))));
  few : length l.out.items ≤ max_expanded_tokens;
  within : l.at ≤ length l.tokens;
}

abbrev pub decreases-loop-at : goal.decreases-loop-at
decreases-loop-at l = length l.tokens - l.at

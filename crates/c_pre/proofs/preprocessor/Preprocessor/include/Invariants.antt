use Rattle.std.proofs.Common.{◌≡◌, ◌≤◌, ◌-◌, length, drop}
use Rattle.c_pre.specs.Lines.{lines}
use Rattle.c_pre.specs.Reading.{define_lines}
use Rattle.c_pre.specs.Outcomes.{state_of}
use Rattle.c_pre.proofs.preprocessor.Preprocessor.include.Given as goal

abbrev pub invariant-loop-from : goal.invariant-loop-from
invariant-loop-from l = record {
  same : define_lines l.at (lines l.tokens) (state_of l.initial.self)
      ≡ define_lines l.at (lines (drop l.from l.tokens)) (state_of l.self);
  within : l.from ≤ length l.tokens;
}

abbrev pub decreases-loop-from : goal.decreases-loop-from
decreases-loop-from l = length l.tokens - l.from

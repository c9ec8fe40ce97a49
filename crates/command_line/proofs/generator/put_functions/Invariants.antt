use Rattle.std.proofs.Common.{◌≡◌, ◌++◌}
use Rattle.command_line.specs.Generator.{functions_text, state_after}
use Rattle.command_line.proofs.generator.put_functions.Given as goal

abbrev pub invariant-loop-number : goal.invariant-loop-number
invariant-loop-number l = record {
  text : l.text.items ≡ l.initial.text.items ++ functions_text l.fn.seed l.number;
  state : l.state ≡ state_after l.fn.seed l.number;
}

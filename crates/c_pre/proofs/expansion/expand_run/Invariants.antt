use Rattle.std.proofs.Common.{◌≡◌, ◌≤◌, length, None}
use Rattle.c_pre.specs.Expansion.{expansion, of_text, trace_of}
use Rattle.c_pre.specs.Limits.{max_expanded_tokens}
use Rattle.c_pre.specs.Outcomes.{macros_of}
use Rattle.c_pre.specs.Pending.{comes_to, left, IsSound}
use Rattle.c_pre.specs.Trace.{after}
use Rattle.c_pre.proofs.expansion.expand_run.Given as goal

abbrev pub invariant-loop : goal.invariant-loop
invariant-loop l = record {
  same : after l.fn.out.items (trace_of (expansion (macros_of l.macros) None l.fn.room (of_text l.text)))
      ≡ after l.out.items (trace_of (comes_to (macros_of l.macros) (left l.expander)));
  sound : IsSound l.expander;
  few : length l.out.items ≤ max_expanded_tokens;
}

-- The counts of faults beside an outcome.
use Rattle.std.specs.Prelude.{◌≡◌, ◌⊎◌, ℕ}
use Rattle.sb_outside.specs.Faults.{Rose, next_count}
use Rattle.rv_sim.specs.declared.stop.Stop.{Stop}
use Rattle.rv_sim.specs.declared.stop.Stop.TheVariants as stops
use Rattle.sbcets_core.specs.declared.outcome.ReadFault.TheVariants as reads
use Rattle.sbcets_core.specs.declared.outcome.Outcome.{Outcome}
use Rattle.sbcets_core.specs.declared.outcome.Outcome.TheVariants.{WriteFault, InputFault}
use Rattle.sbcets_core.specs.declared.outcome.Outcome.TheVariants as outcomes

-- how many calls of each kind have failed
pub record Counts : Type 0 where
  pub reads : ℕ
  pub writes : ℕ
  pub input : ℕ
  pub output : ℕ
  pub errors : ℕ

abbrev pub counts_of : (reads writes input output errors : ℕ) → Counts
counts_of reads writes input output errors = record
    { reads = reads; writes = writes; input = input; output = output; errors = errors }

-- Beside the outcome of a command, its tool line apart: just one call failed where the outcome is a fault of the
-- outside, and
-- else none.
abbrev pub CommandCounts : Outcome → Counts → Counts → Type 0
CommandCounts (outcomes.ReadFault reads.Failed) before after = after ≡ record before { reads = next_count before.reads }
CommandCounts InputFault before after = after ≡ record before { input = next_count before.input }
CommandCounts WriteFault before after =
    (after ≡ record before { writes = next_count before.writes })
    ⊎ ((after ≡ record before { output = next_count before.output })
    ⊎ (after ≡ record before { errors = next_count before.errors }))
CommandCounts outcome before after = after ≡ before

-- beside the answer of a run
abbrev pub StopCounts : Stop → (input input_now output output_now errors errors_now : ℕ) → Type 0
StopCounts stops.InputFault input input_now output output_now errors errors_now =
    Rose input input_now × (output_now ≡ output) × (errors_now ≡ errors)
StopCounts stops.OutputFault input input_now output output_now errors errors_now =
    (input_now ≡ input)
    × ((Rose output output_now × (errors_now ≡ errors)) ⊎ ((output_now ≡ output) × Rose errors errors_now))
StopCounts stop input input_now output output_now errors errors_now =
    (input_now ≡ input) × (output_now ≡ output) × (errors_now ≡ errors)

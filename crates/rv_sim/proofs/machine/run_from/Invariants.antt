use Rattle.std.proofs.Common.{◌≡◌, ℕ, List, Option}
use Rattle.sb_outside.specs.Rest.{ForEveryInput}
use Rattle.rv_sim.specs.Run.{Configuration}
use Rattle.rv_sim.specs.Seen.{IsSeen}
use Rattle.rv_sim.proofs.Runs.{Goes}
use Rattle.rv_sim.proofs.machine.run_from.Given as goal

abbrev pub invariant-loop-count : goal.invariant-loop-count
invariant-loop-count g l = record {
  told : ForEveryInput (g.I.Source.rest l.initial.input) (g.I.Source.rest l.input)
      (λ was rest. (o e : Option (List ℕ)) (c : Configuration)
      → IsSeen o e l.initial.state was (g.O.Sink.taken l.initial.output) (g.E.Sink.taken l.initial.errors) c
      → Goes o e l._count c l.state rest (g.O.Sink.taken l.output) (g.E.Sink.taken l.errors));
  input : g.I.Source.faults l.input ≡ g.I.Source.faults l.initial.input;
  output : g.O.Sink.faults l.output ≡ g.O.Sink.faults l.initial.output;
  errors : g.E.Sink.faults l.errors ≡ g.E.Sink.faults l.initial.errors;
}

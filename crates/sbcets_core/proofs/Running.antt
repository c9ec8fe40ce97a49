-- The run of an image by the machine that loads it.
use Rattle.std.proofs.Common.{◌≡◌, ℕ, List, ◌++◌, Option, Some, None, refl, sym, ap, ◌∙◌, subst}
use Rattle.behaviours.specs.Shown.{Fault, Shown}
use Rattle.elf_image.specs.Content.{Content}
use Rattle.elf_image.specs.Layout.{content_of}
use Rattle.elf_image.specs.Tests.{image_fault}
use Rattle.rv_sim.specs.declared.trap.TrapKind.{TrapKind}
use Rattle.rv_sim.specs.declared.stop.Stop.{Stop}
use Rattle.rv_sim.specs.declared.stop.Stop.TheVariants as stops
use Rattle.rv_sim.specs.State.{MachineState}
use Rattle.rv_sim.specs.Run.{Configuration, runs}
use Rattle.rv_sim.specs.Seen.{IsSeen, IsRun}
use Rattle.rv_sim.specs.Simulation.{Simulation}
use Rattle.rv_sim.specs.Start.{start_of}
use Rattle.rv_sim.specs.Behaviour.{begun, behaviour, end_of}
use Rattle.sb_outside.specs.Rest.{ForEveryInput}
use Rattle.sb_outside.proofs.Gains.{gained_nil}
use Rattle.sb_outside.proofs.Takings.{gives_some, map_inputs}
use Rattle.sb_base.specs.Budgets.{BudgetSizes}
use Rattle.c_tree.specs.Programs.{Program}
use Rattle.source_meaning.specs.State.{Rvalue, Outcome, Gives, Ended, Paused}
use Rattle.source_meaning.specs.Meaning.{outcome, moment_of}
use Rattle.image_laws.specs.Images.Images.{DoesWhatIsMeant}
use Rattle.image_compiler.specs.declared.compiler.Built.{Built}
use Rattle.sbcets_core.specs.Accepted.{IsBuiltFrom}
use Rattle.sbcets_core.specs.Commands.{Streams, RunsImage}

-- what a machine that stands so answers of a run
abbrev pub Told : Simulation → ℕ → Stop → MachineState → Streams → Streams → Type 0
Told machine limit stop state before after =
    machine.stopped ≡ None → ForEveryInput before.input after.input
    (λ was rest. (o e : Option (List ℕ)) (c : Configuration)
    → IsSeen o e machine.state was before.output before.errors c
    → IsRun o e stop limit c state rest after.output after.errors)

-- a run from the start on this input, of which that is left
abbrev pub IsRunFrom : MachineState → ℕ → Stop → MachineState → Streams → Streams → (input rest : List ℕ) → Type 0
IsRunFrom start limit stop state before after input rest = IsRun before.output before.errors stop limit
    (begun start input) state rest after.output after.errors

from_start : (start state : MachineState) (limit : ℕ) (stop : Stop) (before after : Streams)
    → Told (record { state = start; stopped = None }) limit stop state before after
    → ForEveryInput before.input after.input (IsRunFrom start limit stop state before after)
from_start start state limit stop before after told =
    map_inputs before.input after.input _ (IsRunFrom start limit stop state before after)
    (λ input rest run. run before.output before.errors (begun start input)
    (record {
      state_is = refl;
      rest_is = refl;
      output_is = sym (gained_nil before.output);
      errors_is = sym
          (gained_nil before.errors);
    }))
    (told refl)

pub runs_image : (image : List ℕ) (content : Content) (machine : Simulation) (state : MachineState) (limit : ℕ)
    (stop : Stop) (before after : Streams) → image_fault image ≡ None → content ≡ content_of image
    → machine ≡ record { state = start_of content; stopped = None } → Told machine limit stop state before after
    → RunsImage image limit stop before after
runs_image image content machine state limit stop before after readable same loaded told =
    let at_start : machine ≡ record { state = start_of (content_of image); stopped = None } =
    loaded ∙ ap (λ k. record { state = start_of k; stopped = None }) same in
    let told_of : Told (record { state = start_of (content_of image); stopped = None }) limit stop state before after =
    subst (λ m. Told m limit stop state before after) at_start told in
    record {
      readable = readable;
      state = state;
      run = from_start (start_of (content_of image)) state limit stop before after told_of;
    }

-- no program ends by a trap
ends_no_fault : (o : Outcome Rvalue) → (moment_of o).shown.ending ≡ Some Fault → ⊥
ends_no_fault (Gives v s) e = cc
ends_no_fault (Ended ending s) e = cc
ends_no_fault (Paused s) e = cc

no_trap : (p : Program) (budgets : BudgetSizes) (image input : List ℕ) (n : ℕ) (kind : TrapKind) (pc : ℕ)
    → DoesWhatIsMeant p budgets image
    → (runs n (begun (start_of (content_of image)) input)).1 ≡ Some (stops.Trap kind pc) → ⊥
unfolding behaviour
no_trap p budgets image input n kind pc f e =
    let s = start_of (content_of image) in
    let ended : (behaviour s input n).shown.ending ≡ Some Fault = ap end_of e in
    ends_no_fault (outcome p budgets input n)
    (ap (λ (x : Shown). x.ending) ((f.faithful input).ends_as_source n Fault ended) ∙ ended)

-- an image that was built never traps
pub never_traps : (source : List ℕ) (budgets : BudgetSizes) (built : Built) (limit : ℕ) (kind : TrapKind) (pc : ℕ)
    (before after : Streams) → IsBuiltFrom source budgets built
    → RunsImage built.image.items limit (stops.Trap kind pc) before after → ⊥
never_traps source budgets built limit kind pc before after b r =
    let given = gives_some after.input in
    no_trap b.program budgets built.image.items (r.run.taken ++ given.bytes) limit kind pc b.means
    (r.run.holds given.bytes given.given).0

-- What a run left in the streams is what the source means.
use Rattle.std.proofs.Common.{◌≡◌, ℕ, List, Some, sym, ap, ◌∙◌}
use Rattle.sb_base.specs.Budgets.{BudgetSizes}
use Rattle.source_meaning.specs.Meaning.{meaning}
use Rattle.sb_outside.specs.Rest.{ForEveryInput}
use Rattle.sb_outside.proofs.Takings.{map_inputs}
use Rattle.behaviours.specs.Shown.{Shown, Status}
use Rattle.sb_outside.specs.Content.{gained}
use Rattle.elf_image.specs.Layout.{content_of}
use Rattle.rv_sim.specs.declared.stop.Stop.TheVariants as stops
use Rattle.rv_sim.specs.Start.{start_of}
use Rattle.rv_sim.specs.Behaviour.{behaviour, end_of}
use Rattle.sbcets_core.specs.Commands.{Outside, Went}
use Rattle.sbcets_core.specs.Meant.{EndsAsMeant, GoesAsMeant}

pub exit_meant : (name : List ℕ) (budgets : BudgetSizes) (limit code : ℕ) (image : List ℕ) (before after : Outside)
    (went : Went name budgets limit image (stops.Exited code) before after)
    → ForEveryInput before.streams.input after.streams.input
    (λ input rest. EndsAsMeant (meaning went.is_built.program budgets) input limit code before.streams after.streams)
unfolding behaviour
exit_meant name budgets limit code image before after went =
    let s = start_of (content_of went.built.image.items) in
    map_inputs _ _ _ _
    (λ input rest ran.
    let ended : (behaviour s input limit).shown.ending ≡ Some (Status code) = ap end_of ran.0 in
    let same = (went.is_built.means.faithful input).ends_as_source limit (Status code) ended in
    record {
      ending = ap (λ (x : Shown). x.ending) same ∙ ended;
      output = ran.1.output_is ∙ sym (ap (λ (x : Shown). gained before.streams.output x.output) same);
      errors = ran.1.errors_is ∙ sym (ap (λ (x : Shown). gained before.streams.errors x.errors) same);
    })
    went.run.run

pub limit_meant : (name : List ℕ) (budgets : BudgetSizes) (limit : ℕ) (image : List ℕ) (before after : Outside)
    (went : Went name budgets limit image stops.Limit before after)
    → ForEveryInput before.streams.input after.streams.input
    (λ input rest. GoesAsMeant (meaning went.is_built.program budgets) input limit before.streams after.streams)
unfolding behaviour
limit_meant name budgets limit image before after went =
    let s = start_of (content_of went.built.image.items) in
    map_inputs _ _ _ _
    (λ input rest ran.
    let first = (went.is_built.means.faithful input).never_ahead limit in
    record {
      output = (behaviour s input limit).shown.output;
      output_is = ran.1.output_is;
      output_first = first.output;
      errors = (behaviour s input limit).shown.errors;
      errors_is = ran.1.errors_is;
      errors_first = first.errors;
    })
    went.run.run

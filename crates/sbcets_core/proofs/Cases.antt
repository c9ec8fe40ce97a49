-- The outcomes of the commands, case by case.
use Rattle.std.proofs.Common.{Result, Ok, Err, ◌≡◌, ℕ, List, [], Option, Some, refl, ap, ◌∙◌, inl, inr, ⊎_elim}
use Rattle.sb_outside.specs.declared.source.Failed.{Failed}
use Rattle.sb_outside.specs.Content.{gained, GainsPart, Writes}
use Rattle.rv_sim.specs.declared.stop.Stop.{Stop}
use Rattle.rv_sim.specs.declared.stop.Stop.TheVariants as stops
use Rattle.sbcets_core.specs.declared.outcome.ReadFault.TheVariants.{TooLong}
use Rattle.sbcets_core.specs.declared.outcome.ReadFault.TheVariants as reads
use Rattle.sbcets_core.specs.declared.outcome.Outcome.{Outcome}
use Rattle.sbcets_core.specs.declared.outcome.Outcome.TheVariants.{Exited, Built, Usage, WriteFault, InputFault, Memory}
use Rattle.sbcets_core.specs.declared.outcome.Outcome.TheVariants.{Limit, Refused, ImageRefused, Trap}
use Rattle.sbcets_core.specs.declared.outcome.Outcome.TheVariants.{Done, Running, ListRefused}
use Rattle.sbcets_core.specs.declared.outcome.Outcome.TheVariants as outcomes
use Rattle.sb_base.specs.Budgets.{BudgetSizes}
use Rattle.image_compiler.specs.declared.compiler.Built.{Built as BuiltImage}
use Rattle.sbcets_core.specs.Outcomes.{max_source, max_image_file}
use Rattle.sbcets_core.specs.Counting.{Counts, CommandCounts, StopCounts}
use Rattle.sb_outside.specs.Faults.{next_count}
use Rattle.rv_sim.specs.State.{MachineState}
use Rattle.rv_sim.specs.Seen.{CountsInput, CountsOutput}
use Rattle.sbcets_core.specs.Commands.{Outside, OnlyReads, Went, RanFile, Goes, Runs, Builds, IsUnread, IsUnbuilt}
use Rattle.sbcets_core.specs.Commands.{BuiltInto, IsBuiltOf, ReadCounts, RunsImage, outcome_of, built_line}
use Rattle.sbcets_core.proofs.Running.{never_traps}

-- a command that got nothing does nothing
pub unbuilt_goes : (name : List ℕ) (budgets : BudgetSizes) (limit : ℕ) (outcome : Outcome) (image : List ℕ)
    (before after : Outside)
    → OnlyReads image before after → IsUnbuilt name budgets outcome before.files
    → Goes name budgets limit outcome image before after
unbuilt_goes name budgets limit (outcomes.ReadFault reads.Failed) image before after d u = d
unbuilt_goes name budgets limit (outcomes.ReadFault (TooLong n most)) image before after d u = (u, d)
unbuilt_goes name budgets limit Memory image before after d u = inr d
unbuilt_goes name budgets limit (Refused refusal) image before after d u = (u, d)
unbuilt_goes name budgets limit (Exited code) image before after d u = absurd u
unbuilt_goes name budgets limit Built image before after d u = absurd u
unbuilt_goes name budgets limit Usage image before after d u = absurd u
unbuilt_goes name budgets limit WriteFault image before after d u = absurd u
unbuilt_goes name budgets limit InputFault image before after d u = absurd u
unbuilt_goes name budgets limit (Limit n) image before after d u = absurd u
unbuilt_goes name budgets limit (ImageRefused fault) image before after d u = absurd u
unbuilt_goes name budgets limit (Trap kind pc) image before after d u = absurd u
unbuilt_goes name budgets limit Done image before after d u = absurd u
unbuilt_goes name budgets limit (Running n) image before after d u = absurd u
unbuilt_goes name budgets limit (ListRefused kind line) image before after d u = absurd u

pub unbuilt_builds : (name target : List ℕ) (budgets : BudgetSizes) (outcome : Outcome) (image : List ℕ)
    (before after : Outside)
    → OnlyReads image before after → IsUnbuilt name budgets outcome before.files
    → Builds name target budgets outcome image before after
unbuilt_builds name target budgets (outcomes.ReadFault reads.Failed) image before after d u = d
unbuilt_builds name target budgets (outcomes.ReadFault (TooLong n most)) image before after d u = (u, d)
unbuilt_builds name target budgets Memory image before after d u = inr d
unbuilt_builds name target budgets (Refused refusal) image before after d u = (u, d)
unbuilt_builds name target budgets (Exited code) image before after d u = absurd u
unbuilt_builds name target budgets Built image before after d u = absurd u
unbuilt_builds name target budgets Usage image before after d u = absurd u
unbuilt_builds name target budgets WriteFault image before after d u = absurd u
unbuilt_builds name target budgets InputFault image before after d u = absurd u
unbuilt_builds name target budgets (Limit n) image before after d u = absurd u
unbuilt_builds name target budgets (ImageRefused fault) image before after d u = absurd u
unbuilt_builds name target budgets (Trap kind pc) image before after d u = absurd u
unbuilt_builds name target budgets Done image before after d u = absurd u
unbuilt_builds name target budgets (Running n) image before after d u = absurd u
unbuilt_builds name target budgets (ListRefused kind line) image before after d u = absurd u

-- what was built and written by one write
into : (name target : List ℕ) (budgets : BudgetSizes) (built : BuiltImage) (written : Result (Unit {0}) Failed)
    (before after : Outside) → IsBuiltOf name budgets built before.files
    → Writes before.files after.files target built.image.items written → after.reads ≡ next_count before.reads
    → after.writes ≡ next_count before.writes
    → after.streams.input ≡ before.streams.input → after.streams.errors ≡ before.streams.errors
    → BuiltInto name target budgets written [] before after
into name target budgets built written before after b w asked once input errors = record {
  source = b.source;
  read = b.read;
  built = built;
  is_built = b.is_built;
  writes = w;
  asked = asked;
  once = once;
  input = input;
  errors = errors;
  none = refl;
}

pub unwritten_builds : (name target : List ℕ) (budgets : BudgetSizes) (built : BuiltImage) (before after : Outside)
    → IsBuiltOf name budgets built before.files
    → Writes {T = Unit {0}} before.files after.files target built.image.items (Err record {})
    → after.reads ≡ next_count before.reads → after.writes ≡ next_count before.writes
    → after.streams ≡ before.streams
    → Builds name target budgets WriteFault [] before after
unwritten_builds name target budgets built before after b w asked once same =
    inl (record {
      into = into name target budgets built (Err record {}) before after b w asked once (ap (λ s. s.input) same)
          (ap (λ s. s.errors) same);
      output = ap (λ s. s.output) same;
    })

pub told_builds : (name target : List ℕ) (budgets : BudgetSizes) (built : BuiltImage) (before after : Outside)
    → IsBuiltOf name budgets built before.files
    → Writes {T = Unit {0}} before.files after.files target built.image.items (Ok tt)
    → after.reads ≡ next_count before.reads → after.writes ≡ next_count before.writes
    → after.streams.input ≡ before.streams.input
    → after.streams.errors ≡ before.streams.errors
    → after.streams.output ≡ gained before.streams.output (built_line built.checks built.dropped)
    → Builds name target budgets Built [] before after
unfolding into
told_builds name target budgets built before after b w asked once input errors told =
    record { into = into name target budgets built (Ok tt) before after b w asked once input errors; output = told }

pub untold_builds : (name target : List ℕ) (budgets : BudgetSizes) (built : BuiltImage) (before after : Outside)
    → IsBuiltOf name budgets built before.files
    → Writes {T = Unit {0}} before.files after.files target built.image.items (Ok tt)
    → after.reads ≡ next_count before.reads → after.writes ≡ next_count before.writes
    → after.streams.input ≡ before.streams.input
    → after.streams.errors ≡ before.streams.errors
    → GainsPart before.streams.output after.streams.output (built_line built.checks built.dropped)
    → Builds name target budgets WriteFault [] before after
unfolding into
untold_builds name target budgets built before after b w asked once input errors part =
    inr (record { into = into name target budgets built (Ok tt) before after b w asked once input errors; output = part })

pub unread_runs : (name : List ℕ) (limit : ℕ) (outcome : Outcome) (image : List ℕ) (before after : Outside)
    → OnlyReads image before after → IsUnread name max_image_file outcome before.files
    → Runs name limit outcome image before after
unread_runs name limit (outcomes.ReadFault reads.Failed) image before after d u = d
unread_runs name limit (outcomes.ReadFault (TooLong n most)) image before after d u = (u, d)
unread_runs name limit Memory image before after d u = inr d
unread_runs name limit (Refused refusal) image before after d u = absurd u
unread_runs name limit (Exited code) image before after d u = absurd u
unread_runs name limit Built image before after d u = absurd u
unread_runs name limit Usage image before after d u = absurd u
unread_runs name limit WriteFault image before after d u = absurd u
unread_runs name limit InputFault image before after d u = absurd u
unread_runs name limit (Limit n) image before after d u = absurd u
unread_runs name limit (ImageRefused fault) image before after d u = absurd u
unread_runs name limit (Trap kind pc) image before after d u = absurd u
unread_runs name limit Done image before after d u = absurd u
unread_runs name limit (Running n) image before after d u = absurd u
unread_runs name limit (ListRefused kind line) image before after d u = absurd u

pub unread_unbuilt : (name : List ℕ) (budgets : BudgetSizes) (outcome : Outcome)
    (held : Option (List ℕ → Option (List ℕ)))
    → IsUnread name max_source outcome held → IsUnbuilt name budgets outcome held
unread_unbuilt name budgets (outcomes.ReadFault reads.Failed) held u = u
unread_unbuilt name budgets (outcomes.ReadFault (TooLong n most)) held u = u
unread_unbuilt name budgets Memory held u = u
unread_unbuilt name budgets (Refused refusal) held u = absurd u
unread_unbuilt name budgets (Exited code) held u = absurd u
unread_unbuilt name budgets Built held u = absurd u
unread_unbuilt name budgets Usage held u = absurd u
unread_unbuilt name budgets WriteFault held u = absurd u
unread_unbuilt name budgets InputFault held u = absurd u
unread_unbuilt name budgets (Limit n) held u = absurd u
unread_unbuilt name budgets (ImageRefused fault) held u = absurd u
unread_unbuilt name budgets (Trap kind pc) held u = absurd u
unread_unbuilt name budgets Done held u = absurd u
unread_unbuilt name budgets (Running n) held u = absurd u
unread_unbuilt name budgets (ListRefused kind line) held u = absurd u

-- a run, by how it ended
went_by : (name : List ℕ) (budgets : BudgetSizes) (limit : ℕ) (image : List ℕ) (stop : Stop) (before after : Outside)
    → Went name budgets limit image stop before after
    → Goes name budgets limit (outcome_of stop limit) image before after
went_by name budgets limit image (stops.Exited code) before after w = w
went_by name budgets limit image (stops.Trap kind pc) before after w =
    never_traps w.source budgets w.built limit kind pc before.streams after.streams w.is_built w.run
went_by name budgets limit image stops.Limit before after w = (refl, w)
went_by name budgets limit image stops.InputFault before after w = w
went_by name budgets limit image stops.OutputFault before after w = w

pub went_goes : (name : List ℕ) (budgets : BudgetSizes) (limit : ℕ) (built : BuiltImage) (stop : Stop)
    (before after : Outside) → IsBuiltOf name budgets built before.files
    → RunsImage built.image.items limit stop before.streams after.streams → after.files ≡ before.files
    → after.reads ≡ next_count before.reads → after.writes ≡ before.writes → Goes name budgets limit (outcome_of stop limit) built.image.items before after
went_goes name budgets limit built stop before after b r files asked unwritten =
    went_by name budgets limit built.image.items stop before after
    (record {
      source = b.source;
      read = b.read;
      built = built;
      is_built = b.is_built;
      image_is = refl;
      run = r;
      files = files;
      asked = asked;
      unwritten = unwritten;
    })

pub ran_runs : (name : List ℕ) (limit : ℕ) (image : List ℕ) (stop : Stop) (before after : Outside)
    → RanFile name limit stop image before after → Runs name limit (outcome_of stop limit) image before after
ran_runs name limit image (stops.Exited code) before after r = r
ran_runs name limit image (stops.Trap kind pc) before after r = r
ran_runs name limit image stops.Limit before after r = (refl, r)
ran_runs name limit image stops.InputFault before after r = r
ran_runs name limit image stops.OutputFault before after r = r

-- the counts of a command that got nothing
pub unread_counts : (name : List ℕ) (max : ℕ) (outcome : Outcome) (held : Option (List ℕ → Option (List ℕ)))
    (before after : Counts) → after ≡ record before { reads = after.reads } → IsUnread name max outcome held
    → ReadCounts outcome before.reads after.reads → CommandCounts outcome before after
unread_counts name max (outcomes.ReadFault reads.Failed) held before after same u c = same
    ∙ ap (λ r. record before { reads = r }) c
unread_counts name max (outcomes.ReadFault (TooLong n most)) held before after same u c = same
    ∙ ap (λ r. record before { reads = r }) c
unread_counts name max Memory held before after same u c = same ∙ ap (λ r. record before { reads = r }) c
unread_counts name max (Refused refusal) held before after same u c = absurd u
unread_counts name max (Exited code) held before after same u c = absurd u
unread_counts name max Built held before after same u c = absurd u
unread_counts name max Usage held before after same u c = absurd u
unread_counts name max WriteFault held before after same u c = absurd u
unread_counts name max InputFault held before after same u c = absurd u
unread_counts name max (Limit n) held before after same u c = absurd u
unread_counts name max (ImageRefused fault) held before after same u c = absurd u
unread_counts name max (Trap kind pc) held before after same u c = absurd u
unread_counts name max Done held before after same u c = absurd u
unread_counts name max (Running n) held before after same u c = absurd u
unread_counts name max (ListRefused kind line) held before after same u c = absurd u

pub unbuilt_counts : (name : List ℕ) (budgets : BudgetSizes) (outcome : Outcome)
    (held : Option (List ℕ → Option (List ℕ)))
    (before after : Counts) → after ≡ record before { reads = after.reads } → IsUnbuilt name budgets outcome held
    → ReadCounts outcome before.reads after.reads → CommandCounts outcome before after
unbuilt_counts name budgets (outcomes.ReadFault reads.Failed) held before after same u c = same
    ∙ ap (λ r. record before { reads = r }) c
unbuilt_counts name budgets (outcomes.ReadFault (TooLong n most)) held before after same u c = same
    ∙ ap (λ r. record before { reads = r }) c
unbuilt_counts name budgets Memory held before after same u c = same ∙ ap (λ r. record before { reads = r }) c
unbuilt_counts name budgets (Refused refusal) held before after same u c = same
    ∙ ap (λ r. record before { reads = r }) c
unbuilt_counts name budgets (Exited code) held before after same u c = absurd u
unbuilt_counts name budgets Built held before after same u c = absurd u
unbuilt_counts name budgets Usage held before after same u c = absurd u
unbuilt_counts name budgets WriteFault held before after same u c = absurd u
unbuilt_counts name budgets InputFault held before after same u c = absurd u
unbuilt_counts name budgets (Limit n) held before after same u c = absurd u
unbuilt_counts name budgets (ImageRefused fault) held before after same u c = absurd u
unbuilt_counts name budgets (Trap kind pc) held before after same u c = absurd u
unbuilt_counts name budgets Done held before after same u c = absurd u
unbuilt_counts name budgets (Running n) held before after same u c = absurd u
unbuilt_counts name budgets (ListRefused kind line) held before after same u c = absurd u

-- the counts of a run
pub stop_counts : (stop : Stop) (state : MachineState) (i i' o o' e e' : ℕ) → CountsInput (Some stop) state i i'
    → CountsOutput (Some stop) state o o' e e' → StopCounts stop i i' o o' e e'
stop_counts stops.InputFault state i i' o o' e e' p q = (p.1, q.0, q.1)
stop_counts stops.OutputFault state i i' o o' e e' p q = (p, ⊎_elim (λ s. inl (s.1, s.2)) (λ s. inr (s.1, s.2)) q)
stop_counts stops.Limit state i i' o o' e e' p q = (p, q.0, q.1)
stop_counts (stops.Exited code) state i i' o o' e e' p q = (p, q.0, q.1)
stop_counts (stops.Trap kind pc) state i i' o o' e e' p q = (p, q.0, q.1)

ran_quiet : (before after : Counts) → after.reads ≡ before.reads → after.writes ≡ before.writes
    → after.input ≡ before.input → after.output ≡ before.output → after.errors ≡ before.errors → after ≡ before
ran_quiet before after r w i o e = λ j. record { reads = r j; writes = w j; input = i j; output = o j; errors = e j }

pub ran_counts : (stop : Stop) (limit : ℕ) (before after : Counts) → after.reads ≡ before.reads
    → after.writes ≡ before.writes
    → StopCounts stop before.input after.input before.output after.output before.errors after.errors
    → CommandCounts (outcome_of stop limit) before after
ran_counts stops.InputFault limit before after r w c = ran_quiet (record before { input = next_count before.input })
    after r w c.0 c.1 c.2
ran_counts stops.OutputFault limit before after r w c =
    inr (⊎_elim
    (λ s. inl (ran_quiet (record before { output = next_count before.output }) after r w c.0 s.0 s.1))
    (λ s. inr (ran_quiet (record before { errors = next_count before.errors }) after r w c.0 s.0 s.1)) c.1)
ran_counts stops.Limit limit before after r w c = ran_quiet before after r w c.0 c.1 c.2
ran_counts (stops.Exited code) limit before after r w c = ran_quiet before after r w c.0 c.1 c.2
ran_counts (stops.Trap kind pc) limit before after r w c = ran_quiet before after r w c.0 c.1 c.2

-- the cases of `go`, and of `run`
pub ruleset going = (unbuilt_goes, went_goes, unbuilt_counts, ran_counts)

pub ruleset running = (unread_runs, ran_runs, unread_counts, ran_counts)

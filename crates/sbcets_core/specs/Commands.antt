-- What each command comes to, and what it leaves outside, its tool line apart.
use Rattle.std.specs.Prelude.{◌≡◌, ◌⊎◌, ℕ, ◌<◌, ◌≤◌, List, [], ◌++◌, length, Option, Some, None, Result, Ok, Err}
use Rattle.std.specs.Prelude.{IfSome, codes, decimal}
use Rattle.sb_outside.specs.declared.source.Failed.{Failed}
use Rattle.sb_outside.specs.Content.{gained, GainsPart, Writes}
use Rattle.sb_outside.specs.Faults.{Rose, next_count}
use Rattle.sb_outside.specs.Rest.{Rest, ForEveryInput}
use Rattle.sb_base.specs.Budgets.{BudgetSizes}
use Rattle.elf_image.specs.declared.fault.ImageFault.{ImageFault}
use Rattle.elf_image.specs.Tests.{image_fault}
use Rattle.elf_image.specs.Layout.{content_of}
use Rattle.rv_sim.specs.declared.stop.Stop.{Stop}
use Rattle.rv_sim.specs.declared.stop.Stop.TheVariants as stops
use Rattle.rv_sim.specs.State.{MachineState}
use Rattle.rv_sim.specs.Seen.{IsRun}
use Rattle.rv_sim.specs.Start.{start_of}
use Rattle.rv_sim.specs.Behaviour.{begun}
use Rattle.image_compiler.specs.declared.compiler.Built.{Built as BuiltImage}
use Rattle.sbcets_core.specs.declared.refusal.SourceRefusal.{SourceRefusal}
use Rattle.sbcets_core.specs.declared.outcome.ReadFault.TheVariants.{TooLong}
use Rattle.sbcets_core.specs.declared.outcome.ReadFault.TheVariants as reads
use Rattle.sbcets_core.specs.declared.outcome.Outcome.{Outcome}
use Rattle.sbcets_core.specs.declared.outcome.Outcome.TheVariants.{Exited, Built, Usage, WriteFault, InputFault, Memory}
use Rattle.sbcets_core.specs.declared.outcome.Outcome.TheVariants.{Limit, Refused, ImageRefused, Trap}
use Rattle.sbcets_core.specs.declared.outcome.Outcome.TheVariants.{Done, Running, ListRefused}
use Rattle.sbcets_core.specs.declared.outcome.Outcome.TheVariants as outcomes
use Rattle.sbcets_core.specs.Outcomes.{max_source, max_image_file}
use Rattle.sbcets_core.specs.Accepted.{Refuses, IsBuiltFrom}

-- what the files hold, by their names, where they tell it
abbrev pub Held : Type 0
Held = Option (List ℕ → Option (List ℕ))

-- what the streams tell: what the input has left, and what the output and the error output have taken
pub record Streams : Type 0 where
  pub input : Rest
  pub output : Option (List ℕ)
  pub errors : Option (List ℕ)

-- all that is outside: what the files hold, how many reads and writes of files were asked for, and what the streams
-- tell
pub record Outside : Type 0 where
  pub files : Option (List ℕ → Option (List ℕ))
  pub reads : ℕ
  pub writes : ℕ
  pub streams : Streams

abbrev pub outside_of : Held → (reads writes : ℕ) → Rest → (output errors : Option (List ℕ)) → Outside
outside_of files reads writes input output errors = record {
  files = files;
  reads = reads;
  writes = writes;
  streams = record { input = input; output = output; errors = errors };
}

-- the bytes of the file of this name were read: it holds them, where the files tell it, and they are at most max
pub record IsRead (held : Option (List ℕ → Option (List ℕ))) (name : List ℕ) (max : ℕ) (bytes : List ℕ) : Type 0 where
  pub holds : IfSome held (λ files. files name ≡ Some bytes)
  pub short : length bytes ≤ max

-- nothing was built to be handed back, and nothing outside changed
pub record DoesNothing (image : List ℕ) (before after : Outside) : Type 0 where
  pub none : image ≡ []
  pub same : after ≡ before

-- nothing was built to be handed back, and nothing outside changed but that a read of a file was asked for
pub record OnlyReads (image : List ℕ) (before after : Outside) : Type 0 where
  pub none : image ≡ []
  pub same : after ≡ record before { reads = next_count before.reads }

-- the same, where memory may have been wanting before that read
abbrev pub ReadsAtMostOnce : (image : List ℕ) (before after : Outside) → Type 0
ReadsAtMostOnce image before after = DoesNothing image before after ⊎ OnlyReads image before after

-- The run of the image at the limit ended so, and left the streams so. That holds of each list of input that begins
-- with the
-- bytes that were taken: of an input that tells its content, of just that; of one that does not, of each that ends
-- there where
-- its end was met. (A sink that does not tell its content stays untold.)
pub record RunsImage (image : List ℕ) (limit : ℕ) (stop : Stop) (before after : Streams) : Type 0 where
  pub readable : image_fault image ≡ None
  pub state : MachineState
  pub run : ForEveryInput before.input after.input
      (λ input rest. IsRun before.output before.errors stop limit (begun (start_of (content_of image)) input) state rest
      after.output after.errors)

-- a file of this name was not read, since it has n bytes, more than max
pub record IsTooLong (name : List ℕ) (max n most : ℕ) (held : Option (List ℕ → Option (List ℕ))) : Type 0 where
  pub most_is : most ≡ max
  pub more : max < n
  pub length_is : IfSome held (λ files. IfSome (files name) (λ bytes. length bytes ≡ n))

-- GO. A source was read, is accepted, and the image that was built from it ran
pub record Went (name : List ℕ) (budgets : BudgetSizes) (limit : ℕ) (image : List ℕ) (stop : Stop)
    (before after : Outside) : Type 0 where
  pub source : List ℕ
  pub read : IsRead before.files name max_source source
  pub built : BuiltImage
  pub is_built : IsBuiltFrom source budgets built
  pub image_is : image ≡ built.image.items
  pub run : RunsImage built.image.items limit stop before.streams after.streams
  pub files : after.files ≡ before.files
  pub asked : after.reads ≡ next_count before.reads
  pub unwritten : after.writes ≡ before.writes

-- a source was read and refused
pub record RefusesSource (name : List ℕ) (budgets : BudgetSizes) (refusal : SourceRefusal)
    (held : Option (List ℕ → Option (List ℕ))) : Type 0 where
  pub source : List ℕ
  pub read : IsRead held name max_source source
  pub refused : Refuses source budgets refusal

abbrev pub Goes : (name : List ℕ) → BudgetSizes → (limit : ℕ) → Outcome → List ℕ → Outside → Outside → Type 0
Goes name budgets limit (Exited code) image before after = Went name budgets limit image (stops.Exited code) before
    after
Goes name budgets limit (Limit n) image before after =
    (n ≡ limit) × Went name budgets limit image stops.Limit before after
Goes name budgets limit WriteFault image before after = Went name budgets limit image stops.OutputFault before after
Goes name budgets limit InputFault image before after = Went name budgets limit image stops.InputFault before after
Goes name budgets limit (Trap kind pc) image before after = ⊥
Goes name budgets limit (Refused refusal) image before after =
    RefusesSource name budgets refusal before.files × OnlyReads image before after
Goes name budgets limit (outcomes.ReadFault reads.Failed) image before after = OnlyReads image before after
Goes name budgets limit (outcomes.ReadFault (TooLong n most)) image before after =
    IsTooLong name max_source n most before.files × OnlyReads image before after
Goes name budgets limit Memory image before after = ReadsAtMostOnce image before after
Goes name budgets limit Usage image before after = ⊥
Goes name budgets limit Done image before after = ⊥
Goes name budgets limit (Running n) image before after = ⊥
Goes name budgets limit (ListRefused kind line) image before after = ⊥
Goes name budgets limit Built image before after = ⊥
Goes name budgets limit (ImageRefused fault) image before after = ⊥

-- RUN. An image was read and ran
pub record RanFile (name : List ℕ) (limit : ℕ) (stop : Stop) (image : List ℕ) (before after : Outside) : Type 0 where
  pub bytes : List ℕ
  pub read : IsRead before.files name max_image_file bytes
  pub run : RunsImage bytes limit stop before.streams after.streams
  pub files : after.files ≡ before.files
  pub asked : after.reads ≡ next_count before.reads
  pub unwritten : after.writes ≡ before.writes
  pub none : image ≡ []

-- an image was read and refused: this test is the first that fails
pub record RefusesImage (name : List ℕ) (fault : ImageFault) (held : Option (List ℕ → Option (List ℕ))) : Type 0 where
  pub bytes : List ℕ
  pub read : IsRead held name max_image_file bytes
  pub refused : image_fault bytes ≡ Some fault

abbrev pub Runs : (name : List ℕ) (limit : ℕ) → Outcome → List ℕ → Outside → Outside → Type 0
Runs name limit (Exited code) image before after = RanFile name limit (stops.Exited code) image before after
Runs name limit (Limit n) image before after = (n ≡ limit) × RanFile name limit stops.Limit image before after
Runs name limit WriteFault image before after = RanFile name limit stops.OutputFault image before after
Runs name limit InputFault image before after = RanFile name limit stops.InputFault image before after
Runs name limit (Trap kind pc) image before after = RanFile name limit (stops.Trap kind pc) image before after
Runs name limit (ImageRefused fault) image before after = RefusesImage name fault before.files
    × OnlyReads image before after
Runs name limit (outcomes.ReadFault reads.Failed) image before after = OnlyReads image before after
Runs name limit (outcomes.ReadFault (TooLong n most)) image before after = IsTooLong name max_image_file n most
    before.files × OnlyReads image before after
Runs name limit Memory image before after = ReadsAtMostOnce image before after
Runs name limit Usage image before after = ⊥
Runs name limit Done image before after = ⊥
Runs name limit (Running n) image before after = ⊥
Runs name limit (ListRefused kind line) image before after = ⊥
Runs name limit Built image before after = ⊥
Runs name limit (Refused refusal) image before after = ⊥

-- BUILD. The line that is printed for an image with so many checks, of which so many were dropped
unfoldable pub built_line : (checks dropped : ℕ) → List ℕ
built_line checks dropped = decimal checks ++ (codes " checks, " ++ (decimal dropped ++ codes " dropped\n"))

-- a source was read, is accepted, and by one write the file now holds the image that was built from it, or a part of
-- that
pub record BuiltInto (name target : List ℕ) (budgets : BudgetSizes) (written : Result (Unit {0}) Failed)
    (image : List ℕ) (before after : Outside) : Type 0 where
  pub source : List ℕ
  pub read : IsRead before.files name max_source source
  pub built : BuiltImage
  pub is_built : IsBuiltFrom source budgets built
  pub writes : Writes before.files after.files target built.image.items written
  pub asked : after.reads ≡ next_count before.reads
  pub once : after.writes ≡ next_count before.writes
  pub input : after.streams.input ≡ before.streams.input
  pub errors : after.streams.errors ≡ before.streams.errors
  pub none : image ≡ []

-- the file's write failed, and nothing was printed
pub record FileFails (name target : List ℕ) (budgets : BudgetSizes) (image : List ℕ) (before after : Outside) : Type 0
  where
    pub into : BuiltInto name target budgets (Err record {}) image before after
    pub output : after.streams.output ≡ before.streams.output

-- the file holds the image, and the line was printed in part
pub record LineFails (name target : List ℕ) (budgets : BudgetSizes) (image : List ℕ) (before after : Outside) : Type 0
  where
    pub into : BuiltInto name target budgets (Ok tt) image before after
    pub output : GainsPart before.streams.output after.streams.output (built_line into.built.checks into.built.dropped)

-- the file holds the image, and the line was printed
pub record IsBuiltAndTold (name target : List ℕ) (budgets : BudgetSizes) (image : List ℕ) (before after : Outside)
    : Type
    0 where
  pub into : BuiltInto name target budgets (Ok tt) image before after
  pub output : after.streams.output ≡ gained before.streams.output (built_line into.built.checks into.built.dropped)

abbrev pub Builds : (name target : List ℕ) → BudgetSizes → Outcome → List ℕ → Outside → Outside → Type 0
Builds name target budgets Built image before after = IsBuiltAndTold name target budgets image before after
Builds name target budgets WriteFault image before after =
    FileFails name target budgets image before after ⊎ LineFails name target budgets image before after
Builds name target budgets (Refused refusal) image before after =
    RefusesSource name budgets refusal before.files × OnlyReads image before after
Builds name target budgets (outcomes.ReadFault reads.Failed) image before after = OnlyReads image before after
Builds name target budgets (outcomes.ReadFault (TooLong n most)) image before after =
    IsTooLong name max_source n most before.files × OnlyReads image before after
Builds name target budgets Memory image before after = ReadsAtMostOnce image before after
Builds name target budgets Usage image before after = ⊥
Builds name target budgets Done image before after = ⊥
Builds name target budgets (Running n) image before after = ⊥
Builds name target budgets (ListRefused kind line) image before after = ⊥
Builds name target budgets (Exited code) image before after = ⊥
Builds name target budgets (Limit n) image before after = ⊥
Builds name target budgets InputFault image before after = ⊥
Builds name target budgets (ImageRefused fault) image before after = ⊥
Builds name target budgets (Trap kind pc) image before after = ⊥

-- the outcome of a run
abbrev pub outcome_of : Stop → ℕ → Outcome
outcome_of (stops.Exited code) limit = Exited code
outcome_of (stops.Trap kind pc) limit = Trap kind pc
outcome_of stops.Limit limit = Limit limit
outcome_of stops.InputFault limit = InputFault
outcome_of stops.OutputFault limit = WriteFault

-- the outcomes of a command that got no bytes of a file
abbrev pub IsUnread : (name : List ℕ) (max : ℕ) → Outcome → Held → Type 0
IsUnread name max (outcomes.ReadFault reads.Failed) held = Unit {0}
IsUnread name max (outcomes.ReadFault (TooLong n most)) held = IsTooLong name max n most held
IsUnread name max Memory held = Unit {0}
IsUnread name max outcome held = ⊥

-- the outcomes of a command that got no image of a source
abbrev pub IsUnbuilt : (name : List ℕ) → BudgetSizes → Outcome → Held → Type 0
IsUnbuilt name budgets (outcomes.ReadFault reads.Failed) held = Unit {0}
IsUnbuilt name budgets (outcomes.ReadFault (TooLong n most)) held = IsTooLong name max_source n most held
IsUnbuilt name budgets Memory held = Unit {0}
IsUnbuilt name budgets (Refused refusal) held = RefusesSource name budgets refusal held
IsUnbuilt name budgets outcome held = ⊥

-- what was built from the source of this name
pub record IsBuiltOf (name : List ℕ) (budgets : BudgetSizes) (built : BuiltImage)
    (held : Option (List ℕ → Option (List ℕ))) : Type 0 where
  pub source : List ℕ
  pub read : IsRead held name max_source source
  pub is_built : IsBuiltFrom source budgets built

-- the counts of the files beside a command that got nothing: reads rise with their own fault alone
abbrev pub ReadCounts : Outcome → ℕ → ℕ → Type 0
ReadCounts (outcomes.ReadFault reads.Failed) before after = Rose before after
ReadCounts outcome before after = after ≡ before

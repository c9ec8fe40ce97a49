-- What the top call answers, and what it leaves outside.
use Rattle.std.specs.Prelude.{◌≡◌, ◌⊎◌, ℕ, ◌≤◌, true, false, List, length, Option, Some, None, Ok}
use Rattle.sb_outside.specs.Content.{gained, GainsPart}
use Rattle.sb_outside.specs.Faults.{Rose}
use Rattle.c_tree.specs.Programs.{Program}
use Rattle.compiled_programs.specs.Programs.{is_integer_program}
use Rattle.elf_image.specs.Tests.{image_fault}
use Rattle.sbcets_core.specs.declared.refusal.Counted.TheVariants.{Code}
use Rattle.sbcets_core.specs.declared.refusal.SourceRefusal.{SourceRefusal}
use Rattle.sbcets_core.specs.declared.refusal.SourceRefusal.TheVariants.{NumbersTooLarge, TooLarge, Uncompiled}
use Rattle.sbcets_core.specs.declared.outcome.ReadFault.TheVariants.{TooLong}
use Rattle.sbcets_core.specs.declared.outcome.ReadFault.TheVariants as reads
use Rattle.sbcets_core.specs.declared.outcome.Outcome.{Outcome}
use Rattle.sbcets_core.specs.declared.outcome.Outcome.TheVariants.{Exited, Built, Usage, WriteFault, InputFault, Memory}
use Rattle.sbcets_core.specs.declared.outcome.Outcome.TheVariants.{Limit, Refused, ImageRefused, Trap}
use Rattle.sbcets_core.specs.declared.outcome.Outcome.TheVariants.{Done, Running, ListRefused}
use Rattle.sbcets_core.specs.declared.outcome.Outcome.TheVariants as outcomes
use Rattle.sbcets_core.specs.Outcomes.{max_source, max_image_file, max_listing, HasLine, tool_line}
use Rattle.sbcets_core.specs.Accepted.{Judges}
use Rattle.command_line.specs.Asked.{Asked, build, run, go, list, assemble, work}
use Rattle.command_line.specs.Generator.{work_source}
use Rattle.sbcets_core.specs.Counting.{Counts, CommandCounts}
use Rattle.sbcets_core.specs.Commands.{Held, Outside, DoesNothing, Goes, Runs, Builds}
use Rattle.sbcets_core.specs.Listings.{Lists, Assembles, Spells}
use Rattle.sbcets_core.specs.Works.{Works}

-- What the command comes to, its tool line apart. Words that are no command are Usage, and no others; want of memory
-- may
-- keep them from being read.
abbrev pub Does : Option Asked → Outcome → List ℕ → Outside → Outside → Type 0
Does (Some (go name budgets limit)) outcome image before after = Goes name budgets limit outcome image before after
Does (Some (run name limit)) outcome image before after = Runs name limit outcome image before after
Does (Some (build name target budgets)) outcome image before after =
    Builds name target budgets outcome image before after
Does (Some (list name)) outcome image before after = Lists name outcome image before after
Does (Some (assemble name target)) outcome image before after = Assembles name target outcome image before after
Does (Some (work seed count)) outcome image before after = Works seed count outcome image before after
Does None outcome image before after = ((outcome ≡ Usage) ⊎ (outcome ≡ Memory)) × DoesNothing image before after

-- all that is outside, with the counts of faults
pub record Moment : Type 0 where
  pub outside : Outside
  pub counts : Counts

-- the outside, with this told of the error output
abbrev pub with_errors : Outside → Option (List ℕ) → Outside
with_errors outside errors = record outside { streams = record outside.streams { errors = errors } }

-- the tool line of an outcome came in, where the error output told this before and tells that now
pub record IsReported (outcome : Outcome) (before now : Option (List ℕ)) (faults faults_now : ℕ) : Type 0 where
  pub line : now ≡ gained before (tool_line outcome)
  pub counts : faults_now ≡ faults

-- the outcome has a line, of which a part came in, and the error output failed
pub record IsCutShort (outcome : Outcome) (before now : Option (List ℕ)) (faults faults_now : ℕ) : Type 0 where
  pub lined : HasLine outcome
  pub line : GainsPart before now (tool_line outcome)
  pub rose : Rose faults faults_now

-- a tool line that cannot be written turns the outcome into WriteFault
abbrev pub Finishes : (outcome answer : Outcome) (before now : Option (List ℕ)) (faults faults_now : ℕ) → Type 0
Finishes outcome answer before now faults faults_now =
    ((answer ≡ outcome) × IsReported outcome before now faults faults_now)
    ⊎ ((answer ≡ WriteFault) × IsCutShort outcome before now faults faults_now)

-- the command came to the outcome, and then its tool line came in
pub record AnswersInFull (command : Option Asked) (outcome : Outcome) (image : List ℕ) (before after : Moment) : Type
    0 where
  pub between : Option (List ℕ)
  pub does : Does command outcome image before.outside (with_errors after.outside between)
  pub counts : CommandCounts outcome before.counts after.counts
  pub line : after.outside.streams.errors ≡ gained between (tool_line outcome)

-- the command came to some outcome that has a tool line, and then a part of that line came in
pub record AnswersInPart (command : Option Asked) (image : List ℕ) (before after : Moment) : Type 0 where
  pub outcome : Outcome
  pub between : Option (List ℕ)
  pub faults : ℕ
  pub does : Does command outcome image before.outside (with_errors after.outside between)
  pub counts : CommandCounts outcome before.counts (record after.counts { errors = faults })
  pub cut : IsCutShort outcome between after.outside.streams.errors faults after.counts.errors

-- THE ANSWER. A line that cannot be written turns an outcome that has one into WriteFault.
abbrev pub Answers : Option Asked → Outcome → List ℕ → Moment → Moment → Type 0
Answers command WriteFault image before after =
    AnswersInFull command WriteFault image before after ⊎ AnswersInPart command image before after
Answers command outcome image before after = AnswersInFull command outcome image before after

-- the refusals of an accepted source, by its program: one of integers alone may be too large to be built, and another
-- may not be compiled yet
abbrev pub IsRefusalOf : Program → SourceRefusal → Type 0
IsRefusalOf program NumbersTooLarge = is_integer_program program ≡ true
IsRefusalOf program (TooLarge Code bytes) = is_integer_program program ≡ true
IsRefusalOf program (Uncompiled line) = is_integer_program program ≡ false
IsRefusalOf program refusal = ⊥

-- what a run of an image can come to, that of an accepted source, and a build of it; the counts tell when a fault may
-- come
abbrev pub IsOfRun : Outcome → Type 0
IsOfRun (Exited code) = Unit {0}
IsOfRun (Limit n) = Unit {0}
IsOfRun Memory = Unit {0}
IsOfRun WriteFault = Unit {0}
IsOfRun InputFault = Unit {0}
IsOfRun (Trap kind pc) = Unit {0}
IsOfRun (outcomes.ReadFault reads.Failed) = Unit {0}
IsOfRun outcome = ⊥

abbrev pub IsOfGo : Program → Outcome → Type 0
IsOfGo program (Refused refusal) = IsRefusalOf program refusal
IsOfGo program outcome = IsOfRun outcome

abbrev pub IsOfBuild : Program → Outcome → Type 0
IsOfBuild program (Refused refusal) = IsRefusalOf program refusal
IsOfBuild program Built = Unit {0}
IsOfBuild program Memory = Unit {0}
IsOfBuild program WriteFault = Unit {0}
IsOfBuild program (outcomes.ReadFault reads.Failed) = Unit {0}
IsOfBuild program outcome = ⊥

-- what a run of an accepted source of a seed can come to
abbrev pub IsOfWork : Program → Outcome → Type 0
IsOfWork program (Refused refusal) = IsRefusalOf program refusal
IsOfWork program (Exited code) = Unit {0}
IsOfWork program (Limit n) = Unit {0}
IsOfWork program Memory = Unit {0}
IsOfWork program WriteFault = Unit {0}
IsOfWork program outcome = ⊥

-- what listing an image can come to, and putting one together
abbrev pub IsOfListing : Outcome → Type 0
IsOfListing Done = Unit {0}
IsOfListing Memory = Unit {0}
IsOfListing WriteFault = Unit {0}
IsOfListing (outcomes.ReadFault reads.Failed) = Unit {0}
IsOfListing outcome = ⊥

-- a file that is told, is there, not too long, and an accepted source
pub record IsAcceptedFile (held : Option (List ℕ → Option (List ℕ))) (name : List ℕ) : Type 0 where
  pub files : List ℕ → Option (List ℕ)
  pub told : held ≡ Some files
  pub source : List ℕ
  pub there : files name ≡ Some source
  pub short : length source ≤ max_source
  pub program : Program
  pub accepts : Judges source (Ok program)

-- a file that is told, is there, not too long, and a readable image
pub record IsReadableFile (held : Option (List ℕ → Option (List ℕ))) (name : List ℕ) : Type 0 where
  pub files : List ℕ → Option (List ℕ)
  pub told : held ≡ Some files
  pub image : List ℕ
  pub there : files name ≡ Some image
  pub short : length image ≤ max_image_file
  pub readable : image_fault image ≡ None

-- a file that is told, is there, not too long, and the listing of a readable image
pub record IsListingFile (held : Option (List ℕ → Option (List ℕ))) (name : List ℕ) : Type 0 where
  pub files : List ℕ → Option (List ℕ)
  pub told : held ≡ Some files
  pub text : List ℕ
  pub there : files name ≡ Some text
  pub short : length text ≤ max_listing
  pub image : List ℕ
  pub spells : Spells text image

-- THE ANSWER IS COMPLETE: nothing but a fault, want of memory, code that is too large or that is not compiled yet keeps
-- a command from its end
abbrev pub IsComplete : Option Asked → Outcome → Held → Type 0
IsComplete (Some (go name budgets limit)) outcome held = (f : IsAcceptedFile held name) → IsOfGo f.program outcome
IsComplete (Some (run name limit)) outcome held = IsReadableFile held name → IsOfRun outcome
IsComplete (Some (build name target budgets)) outcome held =
    (f : IsAcceptedFile held name) → IsOfBuild f.program outcome
IsComplete (Some (list name)) outcome held = IsReadableFile held name → IsOfListing outcome
IsComplete (Some (assemble name target)) outcome held = IsListingFile held name → IsOfListing outcome
IsComplete (Some (work seed count)) outcome held =
    (program : Program) → Judges (work_source seed count) (Ok program) → IsOfWork program outcome
IsComplete None outcome held = Unit {0}

-- What `work` comes to, and what it leaves outside, the tool line apart.
use Rattle.std.specs.Prelude.{◌≡◌, ◌⊎◌, ℕ, Bool, true, false, List, [], ◌++◌, length, Option, Some, codes, decimal}
use Rattle.sb_outside.specs.Content.{gained, GainsPart}
use Rattle.sb_outside.specs.Rest.{Told}
use Rattle.sb_base.specs.Budgets.{default_sizes}
use Rattle.rv_sim.specs.declared.stop.Stop.{Stop}
use Rattle.rv_sim.specs.declared.stop.Stop.TheVariants as stops
use Rattle.image_compiler.specs.declared.compiler.Built.{Built as BuiltImage}
use Rattle.command_line.specs.Asked.{default_limit}
use Rattle.command_line.specs.Generator.{work_source}
use Rattle.sbcets_core.specs.declared.outcome.Outcome.{Outcome}
use Rattle.sbcets_core.specs.declared.outcome.Outcome.TheVariants.{Exited, WriteFault, Memory, Limit, Refused}
use Rattle.sbcets_core.specs.Accepted.{IsBuiltFrom, Refuses}
use Rattle.sbcets_core.specs.Commands.{Outside, Streams, DoesNothing, RunsImage}

-- the streams of a run by itself: an input that is at its end, and what it has put to its output and its error output
abbrev pub alone : (shown reported : List ℕ) → Streams
alone shown reported = record { input = Told []; output = Some shown; errors = Some reported }

-- The source of this seed with so many functions is accepted, and the image that was built from it, with the default
-- budgets, ran by itself to this stop, at most 1000000000 instructions of it.
pub record Worked (seed count : ℕ) (image : List ℕ) (stop : Stop) : Type 0 where
  pub built : BuiltImage
  pub is_built : IsBuiltFrom (work_source seed count) default_sizes built
  pub image_is : image ≡ built.image.items
  pub shown : List ℕ
  pub reported : List ℕ
  pub run : RunsImage built.image.items default_limit stop (alone [] []) (alone shown reported)

-- the outside failed in it
abbrev pub fails : Stop → Bool
fails stops.InputFault = true
fails stops.OutputFault = true
fails (stops.Exited status) = false
fails (stops.Trap kind pc) = false
fails stops.Limit = false

-- the four lines: the length of the source, the counts of its checks as `build` tells them, the status of the run, and
-- how many bytes it put to its output
unfoldable pub work_lines : (size checks dropped status shown : ℕ) → List ℕ
work_lines size checks dropped status shown =
    codes "source " ++ (decimal size ++ (codes " bytes\n"
    ++ (decimal checks ++ (codes " checks, " ++ (decimal dropped ++ (codes " dropped\n"
    ++ (codes "status " ++ (decimal status ++ (codes "\n"
    ++ (codes "output " ++ (decimal shown ++ codes " bytes\n")))))))))))

-- those of a run that ended with a status
abbrev pub lines_of : {seed count : ℕ} {image : List ℕ} {stop : Stop} → Worked seed count image stop → (status : ℕ)
    → List ℕ
lines_of {seed = seed} {count = count} w status =
    work_lines (length (work_source seed count)) w.built.checks w.built.dropped status (length w.shown)

-- the outside, with this told of the output and the error output
abbrev pub with_outputs : Outside → (output errors : Option (List ℕ)) → Outside
with_outputs outside output errors = record outside
    { streams = record outside.streams { output = output; errors = errors } }

-- the run ended with a status; what it reported came to the error output, and then the four lines to the output
pub record IsWorked (seed count status : ℕ) (image : List ℕ) (before after : Outside) : Type 0 where
  pub of : Worked seed count image (stops.Exited status)
  pub leaves : after ≡ with_outputs before (gained before.streams.output (lines_of of status))
      (gained before.streams.errors of.reported)

-- the same, but a part of the four lines came
pub record LinesFail (seed count : ℕ) (image : List ℕ) (before after : Outside) : Type 0 where
  pub status : ℕ
  pub of : Worked seed count image (stops.Exited status)
  pub part : GainsPart before.streams.output after.streams.output (lines_of of status)
  pub leaves : after ≡ with_outputs before after.streams.output (gained before.streams.errors of.reported)

-- a part of what the run reported came to the error output, and nothing else
pub record ReportFails (seed count : ℕ) (image : List ℕ) (before after : Outside) : Type 0 where
  pub stop : Stop
  pub of : Worked seed count image stop
  pub part : GainsPart before.streams.errors after.streams.errors of.reported
  pub leaves : after ≡ with_outputs before before.streams.output after.streams.errors

-- the run had not ended; what it reported came to the error output
pub record WorksToLimit (seed count : ℕ) (image : List ℕ) (before after : Outside) : Type 0 where
  pub of : Worked seed count image stops.Limit
  pub leaves : after ≡ with_outputs before before.streams.output (gained before.streams.errors of.reported)

abbrev pub Works : (seed count : ℕ) → Outcome → List ℕ → Outside → Outside → Type 0
Works seed count (Exited status) image before after = IsWorked seed count status image before after
Works seed count (Limit n) image before after = (n ≡ default_limit) × WorksToLimit seed count image before after
Works seed count WriteFault image before after =
    ReportFails seed count image before after ⊎ LinesFail seed count image before after
Works seed count (Refused refusal) image before after =
    Refuses (work_source seed count) default_sizes refusal × DoesNothing image before after
Works seed count Memory image before after = DoesNothing image before after
Works seed count outcome image before after = ⊥

-- the outcomes without a run
abbrev pub IsUnworked : (seed count : ℕ) → Outcome → Type 0
IsUnworked seed count (Refused refusal) = Refuses (work_source seed count) default_sizes refusal
IsUnworked seed count Memory = Unit {0}
IsUnworked seed count outcome = ⊥

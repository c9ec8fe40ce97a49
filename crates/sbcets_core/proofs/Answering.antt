-- The answer of a command, behind its tool line.
use Rattle.std.proofs.Common.{ℕ, List, Option, inl, inr, ⊎_elim, subst, sym}
use Rattle.command_line.specs.Asked.{Asked}
use Rattle.sbcets_core.specs.declared.outcome.Outcome.{Outcome}
use Rattle.sbcets_core.specs.declared.outcome.Outcome.TheVariants.{Exited, Built, Usage, WriteFault, InputFault, Memory}
use Rattle.sbcets_core.specs.declared.outcome.Outcome.TheVariants.{Limit, Refused, ImageRefused, Trap}
use Rattle.sbcets_core.specs.declared.outcome.Outcome.TheVariants.{Done, Running, ListRefused}
use Rattle.sbcets_core.specs.declared.outcome.Outcome.TheVariants as outcomes
use Rattle.sbcets_core.specs.Counting.{Counts, CommandCounts}
use Rattle.sbcets_core.specs.Commands.{Outside}
use Rattle.sbcets_core.specs.Top.{Does, Moment, with_errors, Finishes, AnswersInFull, Answers}

in_full : (command : Option Asked) (outcome : Outcome) (image : List ℕ) (before after : Moment)
    → AnswersInFull command outcome image before after → Answers command outcome image before after
in_full command WriteFault image before after f = inl f
in_full command (Exited code) image before after f = f
in_full command Built image before after f = f
in_full command Usage image before after f = f
in_full command (outcomes.ReadFault fault) image before after f = f
in_full command InputFault image before after f = f
in_full command Memory image before after f = f
in_full command (Limit n) image before after f = f
in_full command (Refused refusal) image before after f = f
in_full command (ImageRefused fault) image before after f = f
in_full command (Trap kind pc) image before after f = f
in_full command Done image before after f = f
in_full command (Running n) image before after f = f
in_full command (ListRefused kind line) image before after f = f

-- the moment after the line, where the error output tells this and has failed so often
abbrev pub finished : Outside → Counts → Option (List ℕ) → ℕ → Moment
finished outside counts told faults = record
    { outside = with_errors outside told; counts = record counts { errors = faults } }

pub answers : (command : Option Asked) (outcome answer : Outcome) (image : List ℕ) (before : Moment) (outside : Outside)
    (counts : Counts) (told : Option (List ℕ)) (faults : ℕ) → Does command outcome image before.outside outside
    → CommandCounts outcome before.counts counts
    → Finishes outcome answer outside.streams.errors told counts.errors faults
    → Answers command answer image before (finished outside counts told faults)
answers command outcome answer image before outside counts told faults does quiet finish =
    let P : Outcome → Type 0 = λ o. Answers command o image before (finished outside counts told faults) in
    ⊎_elim
    (λ f. subst P (sym f.0)
    (in_full command outcome image before (finished outside counts told faults)
    (record {
      between = outside.streams.errors;
      does = does;
      counts = subst (λ k. CommandCounts outcome before.counts (record counts { errors = k })) (sym f.1.counts) quiet;
      line = f.1.line;
    })))
    (λ f. subst P (sym f.0)
    (inr (record {
      outcome = outcome;
      between = outside.streams.errors;
      faults = counts.errors;
      does = does;
      counts = quiet;
      cut = f.1;
    })))
    finish

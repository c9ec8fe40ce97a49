-- What the streams gained in a run, beside what the source means.
use Rattle.std.specs.Prelude.{◌≡◌, ℕ, List, Some}
use Rattle.behaviours.specs.Shown.{Status, IsPrefix}
use Rattle.sb_outside.specs.Content.{gained}
use Rattle.behaviours.specs.Behaviour.{Behaviour}
use Rattle.sbcets_core.specs.Commands.{Streams}

-- the program ends with this status within so many turns, and the output and the error output gained just what it shows
pub record EndsAsMeant (means : List ℕ → Behaviour) (input : List ℕ) (limit code : ℕ) (before after : Streams) : Type
    0 where
  pub ending : (means input limit).shown.ending ≡ Some (Status code)
  pub output : after.output ≡ gained before.output (means input limit).shown.output
  pub errors : after.errors ≡ gained before.errors (means input limit).shown.errors

-- the output and the error output gained the first of what the program shows within so many turns
pub record GoesAsMeant (means : List ℕ → Behaviour) (input : List ℕ) (limit : ℕ) (before after : Streams) : Type 0 where
  pub output : List ℕ
  pub output_is : after.output ≡ gained before.output output
  pub output_first : IsPrefix output (means input limit).shown.output
  pub errors : List ℕ
  pub errors_is : after.errors ≡ gained before.errors errors
  pub errors_first : IsPrefix errors (means input limit).shown.errors

-- The calls of an object in memory that are to fail, by their numbers from 0.
use Rattle.std.specs.Prelude.{ℕ, ◌==◌, List, Option, option_map, find, min, unwrap_or}

-- how many bytes the failing call of this number keeps, if it is to fail
unfoldable pub kept_by : List (ℕ × ℕ) → ℕ → Option ℕ
kept_by fails call = option_map (λ f. f.1) (find (λ f. f.0 == call) fails)

-- how many of `sent` bytes a call keeps for which there is room for `room`: all that fit, or of a call that is to
-- fail so many
abbrev pub kept_count : Option ℕ → (sent room : ℕ) → ℕ
kept_count listed sent room = min (min (unwrap_or listed sent) sent) room

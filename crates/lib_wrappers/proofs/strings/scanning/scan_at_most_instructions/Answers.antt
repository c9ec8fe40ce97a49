use Rattle.std.proofs.Common.{ℕ, ◌+◌, ◌<◌, ◌≤◌}
use Rattle.std.proofs.lemmas.Result.{IfOk-weaker}
use Rattle.flat_code.specs.Routines.Shape.{HasShape}
use Rattle.lib_wrappers.specs.StringRoutines.Scanning.{scan_at_most_turns}
use Rattle.lib_wrappers.proofs.Shapes.{scan_at_most_turns_shape}
use Rattle.lib_wrappers.proofs.strings.scanning.scan_at_most_instructions.Goals as goal

pub returns-clause-shape : goal.returns-clause-shape
returns-clause-shape c =
    let a = c.args in
    IfOk-weaker _
    (λ r. (k m : ℕ) → a.scratch + 2 ≤ m
    → HasShape (scan_at_most_turns a.string a.cursor a.line a.limit a.scratch) k m → HasShape r.items (11 + k) m)
    (λ r. (m : ℕ) → a.cursor < m → a.limit < m → a.scratch + 2 ≤ m → HasShape r.items 20 m)
    (λ r h. λ m l k le. h 9 m le (scan_at_most_turns_shape a.string a.cursor a.line a.limit a.scratch m l k le
    c.requires.below)) c.first_judged.ensures.shape

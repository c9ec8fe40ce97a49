use Rattle.std.proofs.Common.{ℕ, ◌+◌, ◌<◌, ◌≤◌}
use Rattle.std.proofs.lemmas.Result.{IfOk-weaker}
use Rattle.flat_code.specs.Routines.Shape.{HasShape}
use Rattle.lib_wrappers.specs.StringRoutines.Scanning.{scan_turns}
use Rattle.lib_wrappers.proofs.Shapes.{scan_turns_shape}
use Rattle.lib_wrappers.proofs.strings.scanning.scan_instructions.Goals as goal

pub returns-clause-shape : goal.returns-clause-shape
returns-clause-shape c =
    let a = c.args in
    IfOk-weaker _
    (λ r. (k m : ℕ) → a.scratch + 2 ≤ m → HasShape (scan_turns a.string a.cursor a.line a.scratch) k m
    → HasShape r.items (11 + k) m)
    (λ r. (m : ℕ) → a.cursor < m → a.scratch + 2 ≤ m → HasShape r.items 18 m)
    (λ r h. λ m l le. h 7 m le (scan_turns_shape a.string a.cursor a.line a.scratch m l le c.requires.below))
    c.first_judged.ensures.shape

-- The endings of a source's run: the exit status of each, and what is reported of it.
use Rattle.std.specs.Prelude.{ℕ, pos, ℤ, unsigned_abs, List, [], ◌++◌, codes, decimal}
use Rattle.std.specs.Int.{int_rem_euclid}
use Rattle.sb_base.specs.declared.ending.Ending.{Ending}
use Rattle.sb_base.specs.declared.ending.Ending.TheVariants.{Exit, Spatial, Temporal, BadCall, BadFree, Divide, Stack}
use Rattle.sb_base.specs.declared.ending.Ending.TheVariants.{Keys, Abort}

-- a number modulo 256: the low byte of its two's complement
abbrev pub low_byte : ℤ → ℕ
low_byte z = unsigned_abs (int_rem_euclid z (pos 256))

abbrev pub code_of : Ending → ℕ
code_of (Exit status) = low_byte status
code_of (Spatial line) = 120
code_of (Temporal line) = 121
code_of (BadCall line) = 122
code_of (BadFree line) = 123
code_of (Divide line) = 124
code_of (Stack line) = 125
code_of (Keys line) = 126
code_of (Abort line) = 134

-- the report of what happened at a line
unfoldable pub report_at : (what : List ℕ) → (line : ℕ) → List ℕ
report_at what line = codes "sbcets: " ++ what ++ codes " at line " ++ decimal line ++ codes "\n"

-- what is reported of an ending; of an exit nothing is
abbrev pub report_of : Ending → List ℕ
report_of (Exit status) = []
report_of (Spatial line) = report_at (codes "spatial violation") line
report_of (Temporal line) = report_at (codes "temporal violation") line
report_of (BadCall line) = report_at (codes "bad call") line
report_of (BadFree line) = report_at (codes "bad free") line
report_of (Divide line) = report_at (codes "division by zero") line
report_of (Stack line) = report_at (codes "stack exhausted") line
report_of (Keys line) = report_at (codes "keys exhausted") line
report_of (Abort line) = report_at (codes "abort") line

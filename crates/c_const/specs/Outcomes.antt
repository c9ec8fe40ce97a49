-- What calls answer, beside what is defined.
use Rattle.std.specs.Prelude.{◌≡◌, ℕ, Result, Ok, Err}
use Rattle.c_const.specs.declared.contents.InitialFault.{InitialFault}
use Rattle.c_const.specs.declared.contents.InitialFault.TheVariants.{Memory, NotConstant}
use Rattle.c_const.specs.Contents.{Contents}

abbrev pub IsFault : InitialFault → Result Contents ℕ → Type 0
IsFault Memory defined = Unit {0}
IsFault (NotConstant line) defined = defined ≡ Err line

-- an initial object, or the line of what is not constant; for want of memory nothing is claimed
abbrev pub IsInitial : Result Contents InitialFault → Result Contents ℕ → Type 0
IsInitial (Ok o) defined = defined ≡ Ok o
IsInitial (Err fault) defined = IsFault fault defined

-- contents that were changed in place, or the line of what is not constant
abbrev pub Stores : Result (Unit {0}) ℕ → Result Contents ℕ → (new : Contents) → Type 0
Stores (Ok done) defined new = defined ≡ Ok new
Stores (Err line) defined new = defined ≡ Err line

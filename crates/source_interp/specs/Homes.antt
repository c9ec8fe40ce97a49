-- Where variables are kept, as code has it: the number of an object, or none.
use Rattle.std.specs.Prelude.{ℕ, List, map, Option, Some, None, Result, Ok, Err}
use Rattle.source_meaning.specs.State.{Home, NoObject, InObject}

abbrev pub home_of : Option ℕ → Home
home_of None = NoObject
home_of (Some n) = InObject n

abbrev pub homes_of : List (Option ℕ) → List Home
homes_of homes = map home_of homes

-- a result with what it has as a home, and as homes
abbrev pub housed : {E : Type 0} → Result (Option ℕ) E → Result Home E
housed (Ok home) = Ok (home_of home)
housed (Err e) = Err e

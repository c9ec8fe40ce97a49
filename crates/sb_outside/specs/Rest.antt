-- What a source has left.
use Rattle.std.specs.Prelude.{◌≡◌, List, [], ◌++◌, ℕ, Bool, true, false}

-- It tells the bytes that are left; or it does not, and more may come; or it does not, and its end was met.
pub data Rest : Type 0 where
  Told : (bytes : List ℕ) → Rest
  Untold : Rest
  Ended : Rest

-- the rest of a source that does not tell its content
abbrev pub untold : (ended : Bool) → Rest
untold true = Ended
untold false = Untold

-- the source may go on to give just these bytes, and end
abbrev pub MayGive : Rest → List ℕ → Type 0
MayGive (Told left) bytes = bytes ≡ left
MayGive Untold bytes = Unit {0}
MayGive Ended bytes = bytes ≡ []

-- These bytes were taken between two moments of a source: with them in front, whatever it may give now it might have
-- given then.
pub record HasTaken (before now : Rest) (taken : List ℕ) : Type 0 where
  pub behind : (bytes : List ℕ) → MayGive now bytes → MayGive before (taken ++ bytes)

-- Some bytes were taken between two moments of a source, and, whatever it may give now, P holds of that with these
-- bytes in front, and of it alone. So P speaks of each list of input that begins with what was taken, and ends there
-- where the end was met.
pub record ForEveryInput (before now : Rest) (P : (was rest : List ℕ) → Type 0) : Type 0 where
  pub taken : List ℕ
  pub took : HasTaken before now taken
  pub holds : (rest : List ℕ) → MayGive now rest → P (taken ++ rest) rest

-- some bytes it may give
pub record GivesSome (rest : Rest) : Type 0 where
  pub bytes : List ℕ
  pub given : MayGive rest bytes

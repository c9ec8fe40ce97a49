-- Stages in which every value is a word of 64 bits and every byte of the memory a byte.
use Rattle.std.specs.Prelude.{ℕ, ◌<◌, ◌^◌, List, [], ◌∷◌}
use Rattle.flat_code.specs.Memory.{AreBytes}
use Rattle.flat_code.specs.State.{Values, State, Frame, Stage, Stands, Over, Stuck}

abbrev pub AreWords : Values → Type 0
AreWords values = (x : ℕ) → values x < 2 ^ 64

pub record IsOfWords (state : State) : Type 0 where
  pub values : AreWords state.values
  pub memory : AreBytes state.memory

abbrev pub WaitWithWords : List Frame → Type 0
WaitWithWords [] = Unit {0}
WaitWithWords (x ∷ xs) = AreWords x.values × WaitWithWords xs

abbrev pub HasWords : Stage → Type 0
HasWords (Stands f pc s frames) = IsOfWords s × WaitWithWords frames
HasWords (Over status report s) = Unit {0}
HasWords Stuck = Unit {0}

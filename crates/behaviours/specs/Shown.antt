-- What a run has shown so far: the accesses to storage and the data written to files that C99 5.1.2.3 has agree
-- with the abstract machine, and how the run ended.
use Rattle.std.specs.Prelude.{◌≡◌, ℕ, ◌≤◌, List, [], ◌++◌, Option, Some, None}

pub data AccessKind : Type 0 where
  Read : AccessKind
  Write : AccessKind

-- an access of so many bytes from an address on
pub record Access : Type 0 where
  pub address : ℕ
  pub size : ℕ
  pub kind : AccessKind

-- how a run ended: with an exit status, or by a trap of the machine, which no source has
pub data End : Type 0 where
  Status : (code : ℕ) → End
  Fault : End

-- The bytes written to the output and to the error output, how many bytes of the input were taken, the accesses of
-- objects in order, and the ending. A run with no ending is still running.
pub record Shown : Type 0 where
  pub output : List ℕ
  pub errors : List ℕ
  pub taken : ℕ
  pub accesses : List Access
  pub ending : Option End

abbrev pub nothing_shown : Shown
nothing_shown = record { output = []; errors = []; taken = 0; accesses = []; ending = None }

pub record IsPrefix {A : Type 0} (front whole : List A) : Type 0 where
  pub rest : List A
  pub split : whole ≡ front ++ rest

-- What y shows begins with what x shows. Where the run of x has ended, y shows just the same.
pub record IsEarlier (earlier later : Shown) : Type 0 where
  pub output : IsPrefix earlier.output later.output
  pub errors : IsPrefix earlier.errors later.errors
  pub taken : earlier.taken ≤ later.taken
  pub accesses : IsPrefix earlier.accesses later.accesses
  pub ended : (e : End) → earlier.ending ≡ Some e → later ≡ earlier

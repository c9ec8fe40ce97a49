-- What the calls of the outside give and leave, where the content is told.
use Rattle.std.specs.Prelude.{◌≡◌, ◌≢◌, ◌<◌, ◌≤◌, ◌⊎◌, ℕ, List, [], ◌∷◌, ◌++◌, drop, length, slice_get, Option, Some}
use Rattle.std.specs.Prelude.{None, Result, Ok, Err, IfOk, Vec, ◌+◌}
use Rattle.std.specs.declared.alloc.Global.{Global}
use Rattle.sb_outside.specs.declared.source.Failed.{Failed}
use Rattle.sb_outside.specs.declared.files.FileFault.{FileFault}
use Rattle.sb_outside.specs.declared.files.FileFault.TheVariants.{TooLong, Memory}
use Rattle.sb_outside.specs.declared.files.FileFault.TheVariants as fault
use Rattle.sb_outside.specs.Rest.{Rest, Told, Untold, Ended}

-- a source gives its first byte, if there is one, and keeps the others; one whose end was met gives none
abbrev pub Takes : Rest → Rest → Result (Option ℕ) Failed → Type 0
Takes (Told bytes) new (Ok first) = (first ≡ slice_get bytes 0) × (new ≡ Told (drop 1 bytes))
Takes (Told bytes) new (Err failed) = new ≡ Told bytes
Takes Untold new (Ok (Some byte)) = new ≡ Untold
Takes Untold new (Ok None) = new ≡ Ended
Takes Untold new (Err failed) = new ≡ Untold
Takes Ended new (Ok (Some byte)) = ⊥
Takes Ended new (Ok None) = new ≡ Ended
Takes Ended new (Err failed) = new ≡ Ended

-- the bytes that a call gave
abbrev pub given_by : Result (Option ℕ) Failed → List ℕ
given_by (Ok (Some byte)) = byte ∷ []
given_by (Ok None) = []
given_by (Err failed) = []

-- what was told, and then these bytes; what was not told stays untold
abbrev pub gained : Option (List ℕ) → List ℕ → Option (List ℕ)
gained None bytes = None
gained (Some before) bytes = Some (before ++ bytes)

-- of the bytes that were sent the first were kept
pub record GainsPart (old new : Option (List ℕ)) (sent : List ℕ) : Type 0 where
  pub kept : List ℕ
  pub lost : List ℕ
  pub parts : sent ≡ kept ++ lost
  pub gains : new ≡ gained old kept

-- a file holds the first of the bytes that were sent
pub record HoldsPart (held : Option (List ℕ)) (sent : List ℕ) : Type 0 where
  pub kept : List ℕ
  pub lost : List ℕ
  pub parts : sent ≡ kept ++ lost
  pub holds : held ≡ Some kept

-- reading a file that holds these bytes, or none, where at most max are asked for
abbrev pub ReadsFile : Option (List ℕ) → ℕ → Result (Vec ℕ Global) FileFault → Type 0
ReadsFile None max (Ok bytes) = ⊥
ReadsFile None max (Err (TooLong n)) = ⊥
ReadsFile None max (Err fault.Failed) = Unit {0}
ReadsFile None max (Err Memory) = Unit {0}
ReadsFile (Some held) max (Ok bytes) = (bytes.items ≡ held) × (length held ≤ max)
ReadsFile (Some held) max (Err (TooLong n)) = (n ≡ length held) × (max < n)
ReadsFile (Some held) max (Err fault.Failed) = Unit {0}
ReadsFile (Some held) max (Err Memory) = Unit {0}

-- reading a file of which nothing is told
abbrev pub ReadsUntold : ℕ → Result (Vec ℕ Global) FileFault → Type 0
ReadsUntold max (Ok bytes) = length bytes.items ≤ max
ReadsUntold max (Err (TooLong n)) = max < n
ReadsUntold max (Err fault.Failed) = Unit {0}
ReadsUntold max (Err Memory) = Unit {0}

-- Reading a reader that tells the bytes that it has left, before and after: all of them, at most max, come with Ok;
-- more than max there are with TooLong; and at most one byte above max is taken.
pub record ReadsAtMost (all left : List ℕ) (max : ℕ) (result : Result (Vec ℕ Global) FileFault) : Type 0 where
  pub read : IfOk result (λ bytes. bytes.items ≡ all)
  pub too_long : (n : ℕ) → result ≡ Err (TooLong n) → max < length all
  pub taken : length all ≤ length left + (max + 1)

abbrev pub Reads : Option (List ℕ → Option (List ℕ)) → List ℕ → ℕ → Result (Vec ℕ Global) FileFault → Type 0
Reads None name max result = ReadsUntold max result
Reads (Some files) name max result = ReadsFile (files name) max result

-- A file that held old, or was not there, and these bytes were written to it: it holds them; where the write failed it
-- holds the first of them, or is still not there.
abbrev pub WritesFile : {T : Type 0} → Option (List ℕ) → Option (List ℕ) → List ℕ → Result T Failed → Type 0
WritesFile old new bytes (Ok done) = new ≡ Some bytes
WritesFile old new bytes (Err failed) = HoldsPart new bytes ⊎ ((old ≡ None) × (new ≡ None))

-- the file of this name was written, and the others stay
pub record WritesFiles {T : Type 0} (old new : List ℕ → Option (List ℕ)) (name bytes : List ℕ)
    (result : Result T Failed) : Type 0 where
  pub written : WritesFile (old name) (new name) bytes result
  pub others : (other : List ℕ) → other ≢ name → new other ≡ old other

abbrev pub Writes : {T : Type 0} → Option (List ℕ → Option (List ℕ)) → Option (List ℕ → Option (List ℕ)) → List ℕ
    → List ℕ → Result T Failed → Type 0
Writes None new name bytes result = new ≡ None
Writes (Some old) None name bytes result = ⊥
Writes (Some old) (Some new) name bytes result = WritesFiles old new name bytes result

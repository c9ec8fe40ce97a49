-- Files by their names, before and after one of them is written.
use Rattle.std.proofs.Common.{◌≡◌, ◌≢◌, ◌≤◌, ◌+◌, ◌-◌, ◌⊎◌, ℕ, suc, cond, Bool, true, false, List, [], ◌∷◌, length}
use Rattle.std.proofs.Common.{take, Option, Some, None, Result, Ok, Err, refl, sym, ap, ◌∙◌, subst, inl, inr, arith}
use Rattle.std.proofs.Common.{map, get_or, set, String, Vec}
use Rattle.std.specs.declared.alloc.Global.{Global}
use Rattle.std.specs.Prelude.{All, is_some, bytes_eq, if◌then◌else◌}
use Rattle.std.specs.List.{AllByRecursion, position_from}
use Rattle.std.proofs.lemmas.List.Elements.{recursion_from_All, All-from_recursion}
use Rattle.std.proofs.lemmas.Slice.Eq.{bytes_eq-Decides}
use Rattle.std.proofs.lemmas.Bool.{cond-true, cond-false}
use Rattle.std.proofs.lemmas.List.{take_all}
use Rattle.sb_outside.specs.declared.source.Failed.{Failed}
use Rattle.sb_outside.specs.HeldFile.{HeldFile, held_in, written_in, file_of}
use Rattle.sb_outside.specs.Content.{HoldsPart, WritesFiles}
use Rattle.sb_outside.proofs.Parts.{holds_front}

-- a file has room for so many bytes
abbrev pub HasRoom : ℕ → HeldFile → Type 0
HasRoom room f = room ≤ f.room

pub roomy_made : (room : ℕ) (pairs : List (String Global × Vec ℕ Global))
    → All (HasRoom room) (map (file_of room) pairs)
roomy_made room pairs = All-from_recursion (HasRoom room) (map (file_of room) pairs) (each pairs)
  where
    each : (pairs : List (String Global × Vec ℕ Global)) → AllByRecursion (HasRoom room) (map (file_of room) pairs)
    each [] = tt
    each (p ∷ ps) = (omega arith, each ps)

written_room : (room : ℕ) (f : HeldFile) (fs gs : List HeldFile) (bytes : List ℕ) (b : Bool) → room ≤ f.room
    → AllByRecursion (HasRoom room) fs → AllByRecursion (HasRoom room) gs
    → AllByRecursion (HasRoom room) (if b then record f { bytes = bytes } ∷ fs else f ∷ gs)
written_room room f fs gs bytes true h hs gs-fit = (h, hs)
written_room room f fs gs bytes false h hs gs-fit = (h, gs-fit)

written_rooms : (room : ℕ) (fs : List HeldFile) (name bytes : List ℕ) → AllByRecursion (HasRoom room) fs
    → AllByRecursion (HasRoom room) (written_in fs name bytes)
written_rooms room [] name bytes h = tt
written_rooms room (f ∷ fs) name bytes h = written_room room f fs (written_in fs name bytes) bytes
    (bytes_eq f.name name) h.0 h.1 (written_rooms room fs name bytes h.1)

pub roomy_written : (room : ℕ) (fs : List HeldFile) (name bytes : List ℕ) → All (HasRoom room) fs
    → All (HasRoom room) (written_in fs name bytes)
roomy_written room fs name bytes h = All-from_recursion (HasRoom room) (written_in fs name bytes)
    (written_rooms room fs name bytes (recursion_from_All (HasRoom room) fs h))

pub roomy_for : (room count : ℕ) (fs : List HeldFile) → All (HasRoom room) fs → count ≤ room → All (HasRoom count) fs
roomy_for room count fs h le = λ k d lt. let fits : room ≤ (get_or fs k d).room = h k d lt in omega arith

-- the test for a name
abbrev pub named : List ℕ → HeldFile → Bool
named name f = bytes_eq f.name name

-- a file with other bytes
abbrev pub holding : List ℕ → HeldFile → HeldFile
holding bytes f = record f { bytes = bytes }

-- Where the place of a name is at, and places count from n: writing there writes the first file of the name.
pub record IsPlace (n at : ℕ) (fs : List HeldFile) (name bytes : List ℕ) (d : HeldFile) : Type 0 where
  pub within : n ≤ at
  pub written : set fs (at - n) (holding bytes (get_or fs (at - n) d)) ≡ written_in fs name bytes
  pub there : is_some (held_in fs name) ≡ true

place_by : (n at : ℕ) (f : HeldFile) (fs : List HeldFile) (name bytes : List ℕ) (d : HeldFile) (b : Bool)
    → bytes_eq f.name name ≡ b → cond b (Some n) (position_from (named name) (n + 1) fs) ≡ Some at
    → (position_from (named name) (n + 1) fs ≡ Some at → IsPlace (n + 1) at fs name bytes d)
    → IsPlace n at (f ∷ fs) name bytes d
place_by n at f fs name bytes d true t e rest =
    let here : n ≡ at = cc in
    let zeroth : at - n ≡ 0 = omega arith in
    record {
      within = omega arith;
      written = ap (λ k. set (f ∷ fs) k (holding bytes (get_or (f ∷ fs) k d))) zeroth
          ∙ sym (cond-true _ (holding bytes f ∷ fs) (f ∷ written_in fs name bytes) t);
      there = ap is_some (cond-true _ (Some f.bytes) (held_in fs name) t);
    }
place_by n at f fs name bytes d false t e rest =
    let r = rest e in
    let later = r.within in
    let next : at - n ≡ suc (at - (n + 1)) = omega arith in
    record {
      within = omega arith;
      written =
          ap (λ k. set (f ∷ fs) k (holding bytes (get_or (f ∷ fs) k d))) next
          ∙ ap (λ l. f ∷ l) r.written
          ∙ sym (cond-false _ (holding bytes f ∷ fs) (f ∷ written_in fs name bytes) t);
      there = ap is_some (cond-false _ (Some f.bytes) (held_in fs name) t) ∙ r.there;
    }

place_from : (n at : ℕ) (fs : List HeldFile) (name bytes : List ℕ) (d : HeldFile)
    → position_from (named name) n fs ≡ Some at → IsPlace n at fs name bytes d
place_from n at [] name bytes d e = absurd (cc)
place_from n at (f ∷ fs) name bytes d e = place_by n at f fs name bytes d (bytes_eq f.name name) refl e
    (place_from (n + 1) at fs name bytes d)

-- No file has the name.
pub record IsAbsent (fs : List HeldFile) (name bytes : List ℕ) : Type 0 where
  pub written : fs ≡ written_in fs name bytes
  pub there : is_some (held_in fs name) ≡ false

absent_by : (n : ℕ) (f : HeldFile) (fs : List HeldFile) (name bytes : List ℕ) (b : Bool) → bytes_eq f.name name ≡ b
    → cond b (Some n) (position_from (named name) (n + 1) fs) ≡ None
    → (position_from (named name) (n + 1) fs ≡ None → IsAbsent fs name bytes) → IsAbsent (f ∷ fs) name bytes
absent_by n f fs name bytes true t e rest = absurd (cc)
absent_by n f fs name bytes false t e rest =
    let r = rest e in
    record {
      written = ap (λ l. f ∷ l) r.written ∙ sym (cond-false _ (holding bytes f ∷ fs) (f ∷ written_in fs name bytes) t);
      there = ap is_some (cond-false _ (Some f.bytes) (held_in fs name) t) ∙ r.there;
    }

absent_from : (n : ℕ) (fs : List HeldFile) (name bytes : List ℕ) → position_from (named name) n fs ≡ None
    → IsAbsent fs name bytes
absent_from n [] name bytes e = record { written = refl; there = refl }
absent_from n (f ∷ fs) name bytes e = absent_by n f fs name bytes (bytes_eq f.name name) refl e
    (absent_from (n + 1) fs name bytes)

pub set_is_written : (at : ℕ) (fs : List HeldFile) (name bytes : List ℕ) (d : HeldFile)
    → position_from (named name) 0 fs ≡ Some at → set fs at (holding bytes (get_or fs at d)) ≡ written_in fs name bytes
set_is_written at fs name bytes d e =
    let same : at ≡ at - 0 = omega arith in
    ap (λ k. set fs k (holding bytes (get_or fs k d))) same ∙ (place_from 0 at fs name bytes d e).written

pub none_is_written : (fs : List HeldFile) (name bytes : List ℕ) → position_from (named name) 0 fs ≡ None
    → fs ≡ written_in fs name bytes
none_is_written fs name bytes e = (absent_from 0 fs name bytes e).written

pub place_is_held : (at : ℕ) (fs : List HeldFile) (name : List ℕ) (d : HeldFile)
    → position_from (named name) 0 fs ≡ Some at → is_some (held_in fs name) ≡ true
place_is_held at fs name d e = (place_from 0 at fs name [] d e).there

pub no_place_is_held : (fs : List HeldFile) (name : List ℕ) → position_from (named name) 0 fs ≡ None
    → is_some (held_in fs name) ≡ false
no_place_is_held fs name e = (absent_from 0 fs name [] e).there

-- what the name holds after a write, where it is there
held_by : (f : HeldFile) (fs : List HeldFile) (name bytes : List ℕ) (b : Bool) → bytes_eq f.name name ≡ b
    → is_some (if b then Some f.bytes else held_in fs name) ≡ true
    → (is_some (held_in fs name) ≡ true → held_in (written_in fs name bytes) name ≡ Some bytes)
    → held_in (if b then holding bytes f ∷ fs else f ∷ written_in fs name bytes) name ≡ Some bytes
held_by f fs name bytes true t h rest = cond-true _ (Some bytes) (held_in fs name) t
held_by f fs name bytes false t h rest = cond-false _ (Some f.bytes) (held_in (written_in fs name bytes) name) t
    ∙ rest h

pub held_written : (fs : List HeldFile) (name bytes : List ℕ) → is_some (held_in fs name) ≡ true
    → held_in (written_in fs name bytes) name ≡ Some bytes
held_written [] name bytes h = absurd (cc)
held_written (f ∷ fs) name bytes h = held_by f fs name bytes (bytes_eq f.name name) refl h (held_written fs name bytes)

-- where it is not there, nothing is written
absent_held_by : (f : HeldFile) (fs : List HeldFile) (name bytes : List ℕ) (b : Bool)
    → is_some (if b then Some f.bytes else held_in fs name) ≡ false
    → (is_some (held_in fs name) ≡ false → written_in fs name bytes ≡ fs)
    → (if b then holding bytes f ∷ fs else f ∷ written_in fs name bytes) ≡ f ∷ fs
absent_held_by f fs name bytes true h rest = absurd (cc)
absent_held_by f fs name bytes false h rest = ap (λ l. f ∷ l) (rest h)

pub unheld_written : (fs : List HeldFile) (name bytes : List ℕ) → is_some (held_in fs name) ≡ false
    → written_in fs name bytes ≡ fs
unheld_written [] name bytes h = refl
unheld_written (f ∷ fs) name bytes h = absent_held_by f fs name bytes (bytes_eq f.name name) h
    (unheld_written fs name bytes)

-- other names hold what they held
unequal : (b : Bool) (P : Type 0) → (b ≡ true → P) → (P → ⊥) → b ≡ false
unequal true P shown refuted = absurd (refuted (shown refl))
unequal false P shown refuted = refl

others_by : (f : HeldFile) (fs : List HeldFile) (name bytes other : List ℕ) (b : Bool) → bytes_eq f.name name ≡ b
    → other ≢ name → held_in (written_in fs name bytes) other ≡ held_in fs other
    → held_in (if b then holding bytes f ∷ fs else f ∷ written_in fs name bytes) other ≡ held_in (f ∷ fs) other
others_by f fs name bytes other true t different rest =
    let is_name : f.name ≡ name = (bytes_eq-Decides f.name name).0 t in
    let no_match : bytes_eq f.name other
    ≡ false = unequal (bytes_eq f.name other) (f.name ≡ other) (bytes_eq-Decides f.name other).0
    (λ e. different (sym e ∙ is_name)) in
    cond-false _ (Some bytes) (held_in fs other) no_match
    ∙ sym (cond-false _ (Some f.bytes) (held_in fs other) no_match)
others_by f fs name bytes other false t different rest = ap
    (λ r. if bytes_eq f.name other then Some f.bytes else r) rest

pub others_written : (fs : List HeldFile) (name bytes other : List ℕ) → other ≢ name
    → held_in (written_in fs name bytes) other ≡ held_in fs other
others_written [] name bytes other different = refl
others_written (f ∷ fs) name bytes other different = others_by f fs name bytes other (bytes_eq f.name name) refl
    different (others_written fs name bytes other different)

-- what a write to files in memory comes to, whether it worked or not
abbrev pub Wrote : List HeldFile → List HeldFile → List ℕ → List ℕ → Result (Unit {0}) Failed → Type 0
Wrote fs gs name bytes result = WritesFiles (held_in fs) (held_in gs) name bytes result

pub writes_all : (fs gs : List HeldFile) (name bytes : List ℕ) (k : ℕ) → gs ≡ written_in fs name (take k bytes)
    → length bytes ≤ k → is_some (held_in fs name) ≡ true → Wrote fs gs name bytes (Ok tt)
writes_all fs gs name bytes k is_written all there =
    let whole : gs ≡ written_in fs name bytes = is_written ∙ ap (written_in fs name) (take_all k bytes all) in
    record {
      written = ap (λ l. held_in l name) whole ∙ held_written fs name bytes there;
      others = λ other different. ap (λ l. held_in l other) whole ∙ others_written fs name bytes other different;
    }

part_by : (fs : List HeldFile) (name bytes : List ℕ) (k : ℕ) (b : Bool) → is_some (held_in fs name) ≡ b
    → HoldsPart (held_in (written_in fs name (take k bytes)) name) bytes
    ⊎ ((held_in fs name ≡ None) × (held_in (written_in fs name (take k bytes)) name ≡ None))
part_by fs name bytes k true h = inl
    (subst (λ o. HoldsPart o bytes) (sym (held_written fs name (take k bytes) h))
    (holds_front (take k bytes) bytes k refl))
part_by fs name bytes k false h =
    let none : held_in fs name ≡ None = is_none (held_in fs name) h in
    inr (none, ap (λ gs. held_in gs name) (unheld_written fs name (take k bytes) h) ∙ none)
  where
    is_none : (o : Option (List ℕ)) → is_some o ≡ false → o ≡ None
    is_none None e = refl
    is_none (Some x) e = absurd (cc)

pub writes_part : (fs gs : List HeldFile) (name bytes : List ℕ) (k : ℕ) → gs ≡ written_in fs name (take k bytes)
    → Wrote fs gs name bytes (Err record {})
writes_part fs gs name bytes k is_written =
    let Holds : List HeldFile → Type 0 = λ l. HoldsPart (held_in l name) bytes
    ⊎ ((held_in fs name ≡ None) × (held_in l name ≡ None)) in
    record {
      written = subst Holds (sym is_written) (part_by fs name bytes k (is_some (held_in fs name)) refl);
      others = λ other different. ap (λ l. held_in l other) is_written
          ∙ others_written fs name (take k bytes) other different;
    }

-- Code in the spaces of the runtime may be done, and shows nothing.
use Rattle.std.proofs.Common.{◌≡◌, ℕ, ◌+◌, ◌≤◌, List, [], ◌∷◌, true, ◌&&◌, ◌||◌, length, refl, ap, ◌∙◌}
use Rattle.std.proofs.Common.{subst, arith}
use Rattle.std.specs.Prelude.{nat_le}
use Rattle.std.proofs.lemmas.Bool.{le-leb}
use Rattle.std.proofs.Math.Bool.{or-true}
use Rattle.addr_map.specs.declared.region.Region.TheVariants.{Cells}
use Rattle.addr_map.specs.Places.{MapSizes, spaces_begin, region_end}
use Rattle.rv_isa.specs.Results.{load_bytes, store_bytes}
use Rattle.behaviours.specs.Shown.{Read, Write}
use Rattle.flat_code.specs.declared.instruction.FlatInstruction.{FlatInstruction}
use Rattle.flat_code.specs.declared.instruction.FlatInstruction.TheVariants.{Constant, Move, Operate, Operate32}
use Rattle.flat_code.specs.declared.instruction.FlatInstruction.TheVariants.{Load, Store, Branch, JumpForward}
use Rattle.flat_code.specs.declared.instruction.FlatInstruction.TheVariants.{JumpBack, Turn, Call, CallAddress}
use Rattle.flat_code.specs.declared.instruction.FlatInstruction.TheVariants.{Return, Get, Put, Exit, End, Charged}
use Rattle.flat_code.specs.Spaces.{is_of_objects, is_allowed}
use Rattle.flat_code.specs.State.{State}
use Rattle.flat_code.specs.Words.{IsOfWords}
use Rattle.flat_code.specs.Meaning.{Context, Goes, address_in}
use Rattle.flat_code.proofs.Words.{LocalFits}
use Rattle.flat_code.specs.Routines.Effects.{worked, effect, effects, IsAllowed, AreAllowed}
use Rattle.flat_code.specs.Routines.Metadata.{ShowsNothing}
use Rattle.flat_code.proofs.Routines.Steps.{has_self, run_fits}
use Rattle.flat_code.proofs.Routines.Straight.{run_straight}
use Rattle.flat_code.proofs.Routines.Regions.{IsLaidOut, shadow_not_shown}
use Rattle.flat_code.proofs.Routines.Showing.{shows_both}
use Rattle.flat_code.specs.Routines.Spaces.Quiet.{IsInSpaces, IsQuiet, AreQuiet}

-- ---- allowed

-- an access of the runtime's spaces
pub space_allowed : (s : MapSizes) (a n : ℕ) → spaces_begin ≤ a → a + n ≤ region_end s Cells
    → is_allowed s a n ≡ true
space_allowed s a n lo hi =
    ap (λ b. is_of_objects s a n || (b && nat_le (a + n) (region_end s Cells))) (le-leb spaces_begin a lo)
    ∙ ap (λ b. is_of_objects s a n || b) (le-leb (a + n) (region_end s Cells) hi)
    ∙ or-true (is_of_objects s a n)

one_allowed : (c : Context) (i : FlatInstruction) (s : State) → IsQuiet c i s → IsAllowed c i s
one_allowed c (Constant x n) s q = tt
one_allowed c (Move x y) s q = tt
one_allowed c (Operate op x y z) s q = tt
one_allowed c (Operate32 op x y z) s q = tt
one_allowed c (Load op x y offset) s q =
    space_allowed c.sizes (address_in s y offset) (load_bytes op) q.begins q.ends
one_allowed c (Store op y offset x) s q =
    space_allowed c.sizes (address_in s y offset) (store_bytes op) q.begins q.ends
one_allowed c (Branch op y z past) s q = absurd q
one_allowed c (JumpForward past) s q = absurd q
one_allowed c (JumpBack back) s q = absurd q
one_allowed c Turn s q = absurd q
one_allowed c (Call f first x) s q = absurd q
one_allowed c (CallAddress y first n x m) s q = absurd q
one_allowed c (Return y) s q = absurd q
one_allowed c (Get x) s q = absurd q
one_allowed c (Put x) s q = absurd q
one_allowed c (Exit x) s q = absurd q
one_allowed c (End e) s q = absurd q
one_allowed c (Charged x) s q = absurd q

pub quiet_allowed : (c : Context) (is : List FlatInstruction) (s : State) → AreQuiet c is s → AreAllowed c is s
quiet_allowed c [] s q = tt
quiet_allowed c (i ∷ is) s q = (one_allowed c i s q.0, quiet_allowed c is (effect c i s) q.1)

-- ---- nothing shown

-- counting work shows nothing
pub shows_worked : (c : Context) (s s1 : State) → ShowsNothing s s1 → ShowsNothing s (worked c s1)
shows_worked c s s1 h = record {
  input = h.input;
  output = h.output;
  taken = h.taken;
  accesses = h.accesses;
  turns = h.turns;
}

pub shows_itself : (s : State) → ShowsNothing s s
shows_itself s = record { input = refl; output = refl; taken = refl; accesses = refl; turns = refl }

one_shows : (c : Context) (i : FlatInstruction) (s : State) → IsLaidOut c.sizes → IsQuiet c i s
    → ShowsNothing s (effect c i s)
one_shows c (Constant x n) s ok q =
    record { input = refl; output = refl; taken = refl; accesses = refl; turns = refl }
one_shows c (Move x y) s ok q = record { input = refl; output = refl; taken = refl; accesses = refl; turns = refl }
one_shows c (Operate op x y z) s ok q =
    record { input = refl; output = refl; taken = refl; accesses = refl; turns = refl }
one_shows c (Operate32 op x y z) s ok q =
    record { input = refl; output = refl; taken = refl; accesses = refl; turns = refl }
one_shows c (Load op x y offset) s ok q = record {
  input = refl;
  output = refl;
  taken = refl;
  accesses = shadow_not_shown c (address_in s y offset) (load_bytes op) Read s.accesses ok q.begins;
  turns = refl;
}
one_shows c (Store op y offset x) s ok q = record {
  input = refl;
  output = refl;
  taken = refl;
  accesses = shadow_not_shown c (address_in s y offset) (store_bytes op) Write s.accesses ok q.begins;
  turns = refl;
}
one_shows c (Branch op y z past) s ok q = absurd q
one_shows c (JumpForward past) s ok q = absurd q
one_shows c (JumpBack back) s ok q = absurd q
one_shows c Turn s ok q = absurd q
one_shows c (Call f first x) s ok q = absurd q
one_shows c (CallAddress y first n x m) s ok q = absurd q
one_shows c (Return y) s ok q = absurd q
one_shows c (Get x) s ok q = absurd q
one_shows c (Put x) s ok q = absurd q
one_shows c (Exit x) s ok q = absurd q
one_shows c (End e) s ok q = absurd q
one_shows c (Charged x) s ok q = absurd q

pub quiet_shows : (c : Context) (is : List FlatInstruction) (s : State) → IsLaidOut c.sizes → AreQuiet c is s
    → ShowsNothing s (effects c is s)
quiet_shows c [] s ok q = shows_itself s
quiet_shows c (i ∷ is) s ok q =
    shows_both s (effect c i s) (effects c is (effect c i s)) (one_shows c i s ok q.0)
    (quiet_shows c is (effect c i s) ok q.1)

-- a place in the spaces that is known by an equation
pub in_spaces : (c : Context) (a b n : ℕ) → a ≡ b → spaces_begin ≤ b → b + n ≤ region_end c.sizes Cells
    → IsInSpaces c a n
in_spaces c a b n e lo hi = record { begins = omega arith; ends = omega arith }

-- and leaves words
pub quiet_words : (c : Context) (is : List FlatInstruction) (s : State) → AreQuiet c is s → IsOfWords s
    → IsOfWords (effects c is s)
quiet_words c is s q w =
    subst LocalFits (run_straight c is is 0 s (quiet_allowed c is s q) (has_self is))
    (run_fits c is (length is) (Goes 0 s) w)

pub worked_words : (c : Context) (s : State) → IsOfWords s → IsOfWords (worked c s)
worked_words c s w = record { values = w.values; memory = w.memory }

-- States that stand for the source's where memory is as before, and values that are held where registers are.
use Rattle.std.proofs.Common.{◌≡◌, ℕ, ◌<◌, List, [], ◌∷◌, refl, sym, ap, ◌∙◌, subst}
use Rattle.sb_base.specs.declared.ending.Ending.{Ending}
use Rattle.sb_base.specs.Endings.{code_of, report_of}
use Rattle.addr_map.specs.Places.{MapSizes}
use Rattle.obj_memory.specs.declared.value.Value.{Value}
use Rattle.obj_memory.specs.Objects.{Objects}
use Rattle.source_meaning.specs.State.{State as Source}
use Rattle.source_meaning.specs.Acting.{at_work}
use Rattle.flat_code.specs.Memory.{Bytes}
use Rattle.flat_code.specs.State.{State}
use Rattle.flat_code.specs.declared.registers.Held.{Held}
use Rattle.flat_code.specs.declared.registers.Entry.{Entry}
use Rattle.flat_code.specs.Routines.Registers.{IsNoneOf, AreNoneOf, AreBelow, OthersStay}
use Rattle.flat_code.specs.Routines.Metadata.{ShowsNothing, held_registers, metadata_in}
use Rattle.flat_code.proofs.Routines.Words.{same_metadata}
use Rattle.flat_code.proofs.Routines.Showing.{shows_both}
use Rattle.flat_code.specs.Routines.Objects.StandsFor.{Views, Keys, Spells, StandsFor}
use Rattle.flat_actions.specs.Actions.{AreSpacesGood, IsShown, IsFor, Holder, Nowhere, Word, Pointer, registers_of}
use Rattle.flat_actions.specs.Actions.{IsHeldBy, IsGivenIn, StaysElsewhere, KeepsHeld, HasGiven, HasEnded}
use Rattle.flat_actions.specs.Actions.{StaysUnwritten, ChangesNothing}
use Rattle.flat_actions.specs.Judgement.Judging.{IsSameBut}

-- ---- states

pub shown_still : (x : Source) (f f' : State) → ShowsNothing f f' → IsShown x f → IsShown x f'
shown_still x f f' s h = record {
  input = s.input ∙ h.input;
  output = s.output ∙ h.output;
  taken = s.taken ∙ h.taken;
  accesses = s.accesses ∙ h.accesses;
}

pub good_still : (map : MapSizes) (IsGood : Bytes → Type 0) (m m' : Bytes) → m' ≡ m → AreSpacesGood map IsGood m
    → AreSpacesGood map IsGood m'
good_still map IsGood m m' e h = subst (AreSpacesGood map IsGood) (sym e) h

pub for_still : (g : Views) (k : Keys) (IsGood : Bytes → Type 0) (x : Source) (f f' : State) → f'.memory ≡ f.memory
    → ShowsNothing f f' → IsFor g k IsGood x f → IsFor g k IsGood x f'
for_still g k IsGood x f f' e s h = record {
  objects = subst (StandsFor g k x.objects) (sym e) h.objects;
  spaces = good_still g.sizes IsGood f.memory f'.memory e h.spaces;
  keys = h.keys;
  shown = shown_still x f f' s h.shown;
}

-- work plays no part
pub for_worked : (g : Views) (k : Keys) (IsGood : Bytes → Type 0) (x : Source) (n : ℕ) (f : State)
    → IsFor g k IsGood x f → IsFor g k IsGood (at_work n x) f
for_worked g k IsGood x n f h = record {
  objects = h.objects;
  spaces = h.spaces;
  keys = h.keys;
  shown = record {
    input = h.shown.input;
    output = h.shown.output;
    taken = h.shown.taken;
    accesses = h.shown.accesses;
  };
}

pub keeps_same : (objects : Objects) (k : Keys) → KeepsHeld objects k k
keeps_same objects k = record { own = λ n l. refl; held = λ n l. refl }

pub stays_same : (map : MapSizes) (objects : Objects) (m m' : Bytes) → m' ≡ m → StaysElsewhere map objects m m'
stays_same map objects m m' e = record { low = λ a l out. ap (λ b. b a) e; behind = λ a l. ap (λ b. b a) e }

-- ---- registers

pub stays : (results : List ℕ) (t : ℕ) (f f' : State) (r : ℕ) → OthersStay results t f f' → r < t → IsNoneOf r results
    → f'.values r ≡ f.values r
stays results t f f' r o l n = o r l n

-- the registers of an entry keep it
pub entry_stays : (results : List ℕ) (t : ℕ) (f f' : State) (e : Entry) → OthersStay results t f f'
    → AreBelow t (e.base ∷ e.bound ∷ e.key ∷ e.lock ∷ [])
    → AreNoneOf (e.base ∷ e.bound ∷ e.key ∷ e.lock ∷ []) results → metadata_in f'.values e ≡ metadata_in f.values e
entry_stays results t f f' e o b n = same_metadata (metadata_in f'.values e) (metadata_in f.values e)
    (o e.base b.0 n.0) (o e.bound b.1.0 n.1.0) (o e.key b.1.1.0 n.1.1.0) (o e.lock b.1.1.1.0 n.1.1.1.0)

pub spells_still : (g : Views) (k : Keys) (v : Value) (h : Held) (results : List ℕ) (t : ℕ) (f f' : State)
    → OthersStay results t f f' → AreBelow t (held_registers h) → AreNoneOf (held_registers h) results
    → Spells g k v h f.values → Spells g k v h f'.values
spells_still g k v h results t f f' o b n s = record {
  word = o h.value b.0 n.0 ∙ s.word;
  tag = entry_stays results t f f' h.tag o b.1 n.1 ∙ s.tag;
}

-- an argument is held on
pub held_still : (g : Views) (k : Keys) (objects : Objects) (h : Holder) (v : Value) (results : List ℕ) (t : ℕ)
    (f f' : State) → OthersStay results t f f' → AreBelow t (registers_of h) → AreNoneOf (registers_of h) results
    → IsHeldBy g k objects h v f.values → IsHeldBy g k objects h v f'.values
held_still g k objects Nowhere v results t f f' o b n s = tt
held_still g k objects (Word r) v results t f f' o b n s = o r b.0 n.0 ∙ s
held_still g k objects (Pointer h) v results t f f' o b n s = (spells_still g k v h results t f f' o b n s.0, s.1)

-- the registers of each holder lie below the scratch registers
abbrev pub AreAllBelow : (scratch : ℕ) → List Holder → Type 0
AreAllBelow t [] = Unit {0}
AreAllBelow t (h ∷ hs) = AreBelow t (registers_of h) × AreAllBelow t hs

-- no register is among none
pub none_of_none : (xs : List ℕ) → AreNoneOf xs []
none_of_none [] = tt
none_of_none (x ∷ xs) = (tt, none_of_none xs)

pub others_trans : (results : List ℕ) (t : ℕ) (a b c : State) → OthersStay [] t a b → OthersStay results t b c
    → OthersStay results t a c
others_trans results t a b c h k r l n = k r l n ∙ h r l tt

-- ---- what is left

-- the run went on, and only registers changed
pub given_still : (g : Views) (k : Keys) (IsGood : Bytes → Type 0) (result : Holder) (t : ℕ) (x : Source) (n : ℕ)
    (f f' : State) (v : Value) → IsFor g k IsGood x f → f'.memory ≡ f.memory → ShowsNothing f f'
    → IsGivenIn g k result v f'.values → OthersStay (registers_of result) t f f'
    → HasGiven g k IsGood result t x f v (at_work n x) f'
given_still g k IsGood result t x n f f' v h e s given others = record {
  keys = k;
  held = keeps_same x.objects k;
  stands = for_worked g k IsGood x n f' (for_still g k IsGood x f f' e s h);
  given = given;
  turns = s.turns;
  elsewhere = stays_same g.sizes x.objects f.memory f'.memory e;
  others = others;
}

-- nothing was written where the memory is the same, and since a time before
pub unwritten_same : {map : MapSizes} {m m' : Bytes} → m' ≡ m → StaysUnwritten map m m'
unwritten_same e = record { low = λ a l. ap (λ b. b a) e; behind = λ a l. ap (λ b. b a) e }

pub unwritten_since : {map : MapSizes} {m m1 m2 : Bytes} → m1 ≡ m → StaysUnwritten map m1 m2 → StaysUnwritten map m m2
unwritten_since e h = record {
  low = λ a l. h.low a l ∙ ap (λ b. b a) e;
  behind = λ a l. h.behind a l ∙ ap (λ b. b a) e;
}

pub nothing_then : {a b c : State} → ChangesNothing a b → ChangesNothing b c → ChangesNothing a c
nothing_then {a} {b} {c} h k = record { memory = k.memory ∙ h.memory; shows = shows_both a b c h.shows k.shows }

-- the run is over, and nothing was shown or written
pub ended_still : {map : MapSizes} (e : Ending) (x : Source) (n status : ℕ) (report : List ℕ) (f f' : State)
    → IsShown x f → ShowsNothing f f' → StaysUnwritten map f.memory f'.memory → status ≡ code_of e
    → report ≡ report_of e → HasEnded map e (at_work n x) status report f f'
ended_still e x n status report f f' h s u a b = record {
  status_is = a;
  report_is = b;
  shown = (let z = shown_still x f f' s h in record {
    input = z.input;
    output = z.output;
    taken = z.taken;
    accesses = z.accesses;
  });
  turns = s.turns;
  unwritten = u;
}

-- what two stretches leave that change registers alone
pub same_then : (t : ℕ) (a b c : State) → IsSameBut t a b → IsSameBut t b c → IsSameBut t a c
same_then t a b c h k = record {
  memory = k.memory ∙ h.memory;
  shows = shows_both a b c h.shows k.shows;
  others = others_trans [] t a b c h.others k.others;
}

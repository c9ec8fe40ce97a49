-- One access is shown, by flat code and by the source.
use Rattle.std.proofs.Common.{◌≡◌, ℕ, List, [], ◌∷◌, ◌++◌, true, false, if◌then◌else◌, sym, ap, ◌∙◌}
use Rattle.std.proofs.Common.{subst}
use Rattle.behaviours.specs.Shown.{Access, AccessKind, Read}
use Rattle.addr_map.specs.Places.{MapSizes}
use Rattle.obj_memory.specs.declared.value.Value.{Value}
use Rattle.obj_memory.specs.declared.value.Scalar.{Scalar}
use Rattle.obj_memory.specs.Judgement.{place_in, named, named_in}
use Rattle.obj_memory.specs.Access.{scalar_size, read_value}
use Rattle.source_meaning.specs.State.{State as Source, Gives, on}
use Rattle.source_meaning.specs.Actions.{place_or_stop, read_scalar, load}
use Rattle.source_meaning.specs.Keeping.{IsDirect}
use Rattle.flat_code.specs.Memory.{Bytes}
use Rattle.flat_code.specs.Spaces.{is_of_objects}
use Rattle.flat_code.specs.State.{State}
use Rattle.flat_code.specs.Meaning.{Context}
use Rattle.flat_code.specs.Routines.Registers.{OthersStay}
use Rattle.flat_code.specs.Routines.Effects.{with_shown}
use Rattle.flat_code.specs.Routines.Metadata.{ShowsNothing}
use Rattle.flat_code.specs.Routines.Objects.StandsFor.{Views, Keys, StandsFor}
use Rattle.flat_actions.specs.Actions.{IsShown, IsFor, Holder, registers_of, IsGivenIn, HasGiven}
use Rattle.flat_actions.proofs.Standing.{good_still, keeps_same, stays_same}

-- ---- by flat code

pub record ShowsOne (a : Access) (f f' : State) : Type 0 where
  pub input : f'.input ≡ f.input
  pub output : f'.output ≡ f.output
  pub taken : f'.taken ≡ f.taken
  pub accesses : f'.accesses ≡ f.accesses ++ a ∷ []
  pub turns : f'.turns ≡ f.turns

pub shows_one_then : (a : Access) (f y z : State) → ShowsOne a f y → ShowsNothing y z → ShowsOne a f z
shows_one_then a f y z h s = record {
  input = s.input ∙ h.input;
  output = s.output ∙ h.output;
  taken = s.taken ∙ h.taken;
  accesses = s.accesses ∙ h.accesses;
  turns = s.turns ∙ h.turns;
}

-- work plays no part
pub one_at_work : (a : Access) (f y : State) (n : ℕ) → ShowsOne a f y → ShowsOne a f (record y { work = n })
one_at_work a f y n h = record {
  input = h.input;
  output = h.output;
  taken = h.taken;
  accesses = h.accesses;
  turns = h.turns;
}

-- an access of object space in a function of the program
pub is_shown : (map : MapSizes) (charge weight a b n l : ℕ) (kind : AccessKind) (accesses : List Access) → b ≡ a
    → l ≡ n → is_of_objects map a n ≡ true
    → with_shown (record { sizes = map; is_runtime = false; charge = charge; weight = weight }) b l kind accesses
    ≡ accesses ++ record { address = a; size = n; kind = kind } ∷ []
is_shown map charge weight a b n l kind accesses at size e =
    let c : Context = record { sizes = map; is_runtime = false; charge = charge; weight = weight } in
    ap (λ z. with_shown c z l kind accesses) at ∙ ap (λ z. with_shown c a z kind accesses) size
    ∙ ap (λ z. if z then accesses ++ record { address = a; size = n; kind = kind } ∷ [] else accesses) e

-- ---- by the source

abbrev pub with_noted : AccessKind → (address size : ℕ) → Source → Source
with_noted kind a n x = record x { accesses = x.accesses ++ (record { address = a; size = n; kind = kind } ∷ []) }

pub load_is : (k : Scalar) (v : Value) (line : ℕ) (x : Source) (d : IsDirect x.objects v (scalar_size k))
    → load k false v line x
    ≡ Gives (read_value k (place_in x.objects d.object v.word) x.objects) (with_noted Read v.word (scalar_size k) x)
unfolding named
load_is k v line x d =
    ap (λ t. on (place_or_stop (named_in t v.word x.objects) line x) (λ place. read_scalar k v.word place)) d.tag

-- ---- by both

pub shown_one : (a : Access) (x : Source) (f f' : State) → ShowsOne a f f' → IsShown x f
    → IsShown (record x { accesses = x.accesses ++ a ∷ [] }) f'
shown_one a x f f' s h = record {
  input = s.input ∙ h.input;
  output = s.output ∙ h.output;
  taken = s.taken ∙ h.taken;
  accesses = s.accesses ∙ ap (λ l. l ++ a ∷ []) h.accesses;
}

-- the run went on with one access more, and only registers changed
pub given_read : (g : Views) (k : Keys) (IsGood : Bytes → Type 0) (result : Holder) (t : ℕ) (x : Source) (a : Access)
    (f f' : State) (v : Value) → IsFor g k IsGood x f → f'.memory ≡ f.memory → ShowsOne a f f'
    → IsGivenIn g k result v f'.values → OthersStay (registers_of result) t f f'
    → HasGiven g k IsGood result t x f v (record x { accesses = x.accesses ++ a ∷ [] }) f'
given_read g k IsGood result t x a f f' v h e s given others = record {
  keys = k;
  held = keeps_same x.objects k;
  stands = record {
    objects = subst (StandsFor g k x.objects) (sym e) h.objects;
    spaces = good_still g.sizes IsGood f.memory f'.memory e h.spaces;
    keys = h.keys;
    shown = shown_one a x f f' s h.shown;
  };
  given = given;
  turns = s.turns;
  elsewhere = stays_same g.sizes x.objects f.memory f'.memory e;
  others = others;
}

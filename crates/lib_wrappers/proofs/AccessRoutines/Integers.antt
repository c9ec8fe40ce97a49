-- A scalar loaded in flat code is the one that the source reads.
use Rattle.std.proofs.Common.{◌≡◌, ℕ, ◌+◌, ◌*◌, ◌%◌, ◌^◌, ◌<◌, List, [], ◌∷◌, true, false, refl, sym, ap}
use Rattle.std.proofs.Common.{◌∙◌, subst, arith}
use Rattle.behaviours.specs.Shown.{Access, Read}
use Rattle.addr_map.specs.Places.{MapSizes, AreMapped}
use Rattle.rv_isa.specs.Results.{load_bytes, extended}
use Rattle.obj_memory.specs.declared.int_type.IntType.{IntType}
use Rattle.obj_memory.specs.declared.value.Value.{Value}
use Rattle.obj_memory.specs.declared.value.Scalar.TheVariants.{Integer as OfInteger}
use Rattle.obj_memory.specs.declared.value.Place.{Place}
use Rattle.obj_memory.specs.Integers.{size_of, fit}
use Rattle.obj_memory.specs.Judgement.{place_in}
use Rattle.obj_memory.specs.Access.{read_value}
use Rattle.obj_memory.specs.Sound.{IsAllowed}
use Rattle.source_meaning.specs.State.{State as Source}
use Rattle.source_meaning.specs.Actions.{load as source_load}
use Rattle.source_meaning.specs.Keeping.{IsDirect}
use Rattle.source_meaning.proofs.Holding.{direct_allowed}
use Rattle.flat_code.specs.declared.instruction.FlatInstruction.{FlatInstruction}
use Rattle.flat_code.specs.Memory.{Bytes, load}
use Rattle.flat_code.specs.Spaces.{is_allowed}
use Rattle.flat_code.specs.State.{State}
use Rattle.flat_code.specs.Words.{IsOfWords}
use Rattle.flat_code.specs.Meaning.{Context, Goes}
use Rattle.flat_code.proofs.Stored.{put_same, put_other, load_fits as loaded_below}
use Rattle.flat_code.specs.Routines.Routine.{HasAt, Reaches}
use Rattle.flat_code.specs.Routines.Effects.{effects}
use Rattle.flat_code.specs.Routines.Metadata.{View}
use Rattle.flat_code.proofs.Routines.Rules.{line_on, arrived, weaken}
use Rattle.flat_code.proofs.Routines.Regions.{laid_out}
use Rattle.flat_code.specs.Routines.Objects.StandsFor.{Views, Keys}
use Rattle.shadow_space.proofs.Entries.{context_of}
use Rattle.flat_actions.specs.Actions.{IsFor, IsHeldBy, Word, Leaves, views_of, work_of, program_basis}
use Rattle.lib_wrappers.specs.declared.accesses.held.HeldScalar.TheVariants.{Integer}
use Rattle.lib_wrappers.specs.AccessRoutines.Accessing.{IsLoadRoutine, load_op, load_integer_code}
use Rattle.lib_wrappers.proofs.AccessRoutines.Places.{load_size, load_fits, of_objects, number_there}
use Rattle.lib_wrappers.proofs.AccessRoutines.Places.{access_allowed}
use Rattle.lib_wrappers.proofs.AccessRoutines.Shown.{ShowsOne, is_shown, load_is, given_read}

-- the address of an access, as the instruction computes it
pub address_is : (a v : ℕ) → a < 2 ^ 64 → a ≡ v → (a + 0) % 2 ^ 64 ≡ v
address_is a v l e = omega arith

-- ---- integers

module _ (map : MapSizes) (mapped : AreMapped map) (entry : View) (IsGood : Bytes → Type 0) (functions : ℕ)
    (types : ℕ → ℕ) (k : Keys) (x : Source) (v : Value) (charge weight : ℕ) (code : List FlatInstruction) (pc : ℕ)
    (f : State) (w : IsOfWords f) (address : ℕ) (t : ℕ) where
  abbrev g : Views
  g = views_of map functions types entry

  abbrev c : Context
  c = context_of map false charge weight

  module _ (stands : IsFor g k IsGood x f) (held : IsHeldBy g k x.objects (Word address) v f.values) where
    at_is : (f.values address + 0) % 2 ^ 64 ≡ v.word
    at_is = address_is (f.values address) v.word (w.values address) held

    module _ (ty : IntType) (r line : ℕ) (has : HasAt code pc (load_integer_code address ty r))
        (d : IsDirect x.objects v (size_of ty)) where
      abbrev p : Place
      p = place_in x.objects d.object v.word

      abbrev loaded : State
      loaded = effects c (load_integer_code address ty r) f

      allowed : IsAllowed x.objects v (size_of ty) p
      allowed = direct_allowed x.objects v (size_of ty) d

      in_objects : Rattle.flat_code.specs.Spaces.is_of_objects map v.word (size_of ty) ≡ true
      in_objects = of_objects g k x.objects f.memory (laid_out map mapped) stands.objects v (size_of ty) p allowed

      may_load : is_allowed map ((f.values address + 0) % 2 ^ 64) (load_bytes (load_op ty)) ≡ true
      may_load =
          ap (λ a. is_allowed map a (load_bytes (load_op ty))) at_is ∙ ap (is_allowed map v.word) (load_size ty)
          ∙ access_allowed map v.word (size_of ty) in_objects

      integer_is : loaded.values r ≡ (read_value (OfInteger ty) p x.objects).word
      unfolding read_value
      integer_is =
          let n = size_of ty in
          put_same f.values r _
          ∙ ap (λ a. extended (load_op ty) (load (load_bytes (load_op ty)) f.memory a)) at_is
          ∙ ap (λ s. extended (load_op ty) (load s f.memory v.word)) (load_size ty)
          ∙ load_fits ty (load n f.memory v.word) (loaded_below n f.memory v.word w.memory)
          ∙ ap (fit ty) (number_there g k x.objects f.memory (laid_out map mapped) stands.objects v n p allowed)

      pub loads_integer : Reaches c code 1 (Goes pc f) (pc + 1)
          (Leaves g k IsGood (Word r) t x f (source_load (OfInteger ty) false v line x))
      loads_integer =
          let a : Access = record { address = v.word; size = size_of ty; kind = Read } in
          let shows : ShowsOne a f loaded = record {
            input = refl;
            output = refl;
            taken = refl;
            accesses = is_shown map charge weight v.word _ (size_of ty) _ Read f.accesses at_is (load_size ty)
                in_objects;
            turns = refl;
          } in
          let given = given_read g k IsGood (Word r) t x a f loaded (read_value (OfInteger ty) p x.objects) stands refl
          shows integer_is (λ i l none. put_other f.values r _ i none.0) in
          subst (λ o. Reaches c code 1 (Goes pc f) (pc + 1) (Leaves g k IsGood (Word r) t x f o))
          (sym (load_is (OfInteger ty) v line x d))
          (line_on c code (load_integer_code address ty r) 0 pc f (pc + 1) _ (may_load, tt) has
          (arrived c code 0 loaded (pc + 1) (pc + 1) _ refl given))

pub load_integer_does : (map : MapSizes) (entry : View) (IsGood : Bytes → Type 0) (address : ℕ) (ty : IntType) (r t : ℕ)
    → AreMapped map → IsLoadRoutine (program_basis map entry IsGood) address (Integer ty r) t
    (load_integer_code address ty r)
load_integer_does map entry IsGood address ty r t mapped line functions types k x [] charge weight =
    record { from = λ code pc f has w p. absurd p.1 }
load_integer_does map entry IsGood address ty r t mapped line functions types k x (v ∷ []) charge weight = record {
  from = λ code pc f has w p.
      weaken _ code 1 (1 + 0 * work_of (source_load (OfInteger ty) false v line) x) (Goes pc f) (pc + 1) _ _
      (omega arith)
      (λ o q. q)
      (loads_integer map mapped entry IsGood functions types k x v charge weight code pc f w address t p.0 p.1.0 ty r
      line has
      p.2);
}
load_integer_does map entry IsGood address ty r t mapped line functions types k x (v ∷ v' ∷ vs) charge weight =
    record { from = λ code pc f has w p. absurd p.1.1 }

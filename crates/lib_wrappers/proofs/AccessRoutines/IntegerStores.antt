-- An integer stored in flat code is the one that the source writes.
use Rattle.std.proofs.Common.{◌≡◌, ℕ, ◌+◌, ◌*◌, ◌%◌, ◌^◌, ◌<◌, ◌≤◌, ◌⊎◌, inl, inr, ⊎_elim, List, [], ◌∷◌, ◌++◌, true}
use Rattle.std.proofs.Common.{false}
use Rattle.std.proofs.Common.{refl, sym, ap, ◌∙◌, subst, arith}
use Rattle.byteorder.specs.Endian.{little_bytes}
use Rattle.byteorder.specs.Numbers.{length-bytes_low_first}
use Rattle.behaviours.specs.Shown.{Access, Write}
use Rattle.addr_map.specs.Places.{MapSizes, AreMapped, spaces_begin}
use Rattle.rv_isa.specs.Results.{store_bytes}
use Rattle.obj_memory.specs.declared.int_type.IntType.{IntType}
use Rattle.obj_memory.specs.declared.int_type.IntType.TheVariants.{Char, SignedChar, UnsignedChar, Short}
use Rattle.obj_memory.specs.declared.int_type.IntType.TheVariants.{UnsignedShort, Int, UnsignedInt, Long}
use Rattle.obj_memory.specs.declared.int_type.IntType.TheVariants.{UnsignedLong, LongLong, UnsignedLongLong}
use Rattle.obj_memory.specs.declared.value.Value.{Value}
use Rattle.obj_memory.specs.declared.value.Scalar.{Scalar}
use Rattle.obj_memory.specs.declared.value.Scalar.TheVariants.{Integer as OfInteger}
use Rattle.obj_memory.specs.declared.value.Place.{Place}
use Rattle.obj_memory.specs.Integers.{size_of}
use Rattle.obj_memory.specs.Objects.{Objects}
use Rattle.obj_memory.specs.Judgement.{place_in, named, named_in}
use Rattle.obj_memory.specs.Access.{scalar_size, write_bytes, write_value}
use Rattle.obj_memory.specs.Sound.{IsAllowed, IsPlace, KeepsObjects}
use Rattle.obj_memory.proofs.Bytes.{little_bytes_below}
use Rattle.obj_memory.proofs.Keeping.{keeps_bytes}
use Rattle.source_meaning.specs.State.{State as Source, Gives, on, ◌>>◌, done}
use Rattle.source_meaning.specs.Actions.{integer, place_or_stop, write_scalar, store as source_store}
use Rattle.source_meaning.specs.Keeping.{IsDirect}
use Rattle.source_meaning.proofs.Holding.{direct_allowed}
use Rattle.flat_code.specs.declared.instruction.FlatInstruction.{FlatInstruction}
use Rattle.flat_code.specs.Memory.{Bytes, store}
use Rattle.flat_code.specs.Spaces.{is_of_objects, is_allowed}
use Rattle.flat_code.specs.State.{State}
use Rattle.flat_code.specs.Words.{IsOfWords}
use Rattle.flat_code.specs.Meaning.{Context, Goes}
use Rattle.flat_code.proofs.Stored.{store_beside}
use Rattle.flat_code.specs.Routines.Registers.{OthersStay}
use Rattle.flat_code.specs.Routines.Routine.{HasAt, Reaches}
use Rattle.flat_code.specs.Routines.Effects.{effects}
use Rattle.flat_code.specs.Routines.Metadata.{View}
use Rattle.flat_code.proofs.Routines.Rules.{line_on, arrived, weaken}
use Rattle.flat_code.proofs.Routines.Regions.{laid_out, spaces_follow}
use Rattle.flat_code.proofs.Routines.Words.{IsLocal}
use Rattle.flat_code.specs.Routines.Objects.StandsFor.{Views, Keys, StandsFor}
use Rattle.flat_code.specs.Routines.Objects.Changes.{IsPut}
use Rattle.flat_code.proofs.Routines.Objects.Moves.{put_stands}
use Rattle.shadow_space.proofs.Entries.{context_of}
use Rattle.flat_actions.specs.Actions.{AreSpacesGood, IsFor, IsHeldBy, Nowhere, Word, program_basis}
use Rattle.flat_actions.specs.Actions.{StaysElsewhere}
use Rattle.flat_actions.specs.Actions.{HasGiven, Leaves, views_of, work_of}
use Rattle.flat_actions.proofs.Standing.{keeps_same}
use Rattle.lib_wrappers.specs.declared.accesses.held.HeldScalar.TheVariants.{Integer}
use Rattle.lib_wrappers.specs.AccessRoutines.Accessing.{IsStoreRoutine, store_op, store_integer_code}
use Rattle.lib_wrappers.proofs.AccessRoutines.Places.{of_objects, lies_last, access_allowed}
use Rattle.lib_wrappers.proofs.AccessRoutines.Shown.{ShowsOne, is_shown, with_noted, shown_one}
use Rattle.lib_wrappers.proofs.AccessRoutines.Integers.{address_is}
use Rattle.lib_wrappers.proofs.AccessRoutines.Kept.{KeepsTablesBytes, structures_behind, store_keeps}
use Rattle.lib_wrappers.proofs.AccessRoutines.Kept.{store_is_put, store_good}

-- the instruction of a type stores as many bytes as the type has
store_size : (t : IntType) → store_bytes (store_op t) ≡ size_of t
unfolding store_op size_of
store_size Char = refl
store_size SignedChar = refl
store_size UnsignedChar = refl
store_size Short = refl
store_size UnsignedShort = refl
store_size Int = refl
store_size UnsignedInt = refl
store_size Long = refl
store_size UnsignedLong = refl
store_size LongLong = refl
store_size UnsignedLongLong = refl

-- ---- in the source

abbrev pub with_written : Scalar → Value → Value → Place → Source → Source
with_written s v new p x = record (with_noted Write v.word (scalar_size s) x)
    { objects = write_value s new p x.objects }

pub store_is : (s : Scalar) (v : Value) (line : ℕ) (new : Value) (x : Source) (d : IsDirect x.objects v (scalar_size s))
    → (source_store s false v line new >> done (integer 0)) x
    ≡ Gives (integer 0) (with_written s v new (place_in x.objects d.object v.word) x)
unfolding named
store_is s v line new x d =
    ap (λ t. on (on (place_or_stop (named_in t v.word x.objects) line x) (λ place. write_scalar s v.word place new))
    (λ u. done (integer 0))) d.tag

-- ---- what is left

-- the run went on with one access more, other bytes in objects, and nowhere else
pub given_written : (g : Views) (k : Keys) (IsGood : Bytes → Type 0) (t : ℕ) (x : Source) (a : Access)
    (new : Objects) (f f' : State) (v : Value) → IsFor g k IsGood x f → StandsFor g k new f'.memory
    → AreSpacesGood g.sizes IsGood f'.memory → ShowsOne a f f' → StaysElsewhere g.sizes new f.memory f'.memory
    → OthersStay [] t f f'
    → HasGiven g k IsGood Nowhere t x f v (record x { accesses = x.accesses ++ a ∷ []; objects = new }) f'
given_written g k IsGood t x a new f f' v h stands good s elsewhere others = record {
  keys = k;
  held = keeps_same x.objects k;
  stands = record {
    objects = stands;
    spaces = good;
    keys = h.keys;
    shown = (let q = shown_one a x f f' s h.shown in record {
      input = q.input;
      output = q.output;
      taken = q.taken;
      accesses = q.accesses;
    });
  };
  given = tt;
  turns = s.turns;
  elsewhere = elsewhere;
  others = others;
}

-- bytes of a live object were written, and all other bytes below the shadow space stay, and so does all behind it
pub written_elsewhere : (map : MapSizes) (old new : Objects) (n : ℕ) (p : Place) (v : Value) (m m' : Bytes)
    → KeepsObjects old new → IsAllowed old v n p
    → ((b : ℕ) → b < spaces_begin → (b < v.word) ⊎ (v.word + n ≤ b) → m' b ≡ m b)
    → KeepsTablesBytes map m m'
    → StaysElsewhere map new m m'
written_elsewhere map old new n p v m m' keeps al beside behind =
    let e = keeps.at p.object in let at = al.address in let room = al.place.room in
    let address = e.address in let size = e.size in
    record {
      low = λ b l out. beside b l (⊎_elim (λ z. inl (omega arith)) (λ z. inr (omega arith))
          (out p.object (e.live ∙ al.live)));
      behind = λ b l. behind b (let s = structures_behind map in omega arith);
    }

-- ---- integers

module _ (map : MapSizes) (mapped : AreMapped map) (entry : View) (IsGood : Bytes → Type 0)
    (is_local : IsLocal map entry IsGood) (functions : ℕ) (types : ℕ → ℕ) (k : Keys) (x : Source) (v new : Value)
    (charge weight : ℕ) (code : List FlatInstruction) (pc : ℕ) (f : State) (w : IsOfWords f) (address : ℕ)
    (t r line : ℕ)
    (ty : IntType) (has : HasAt code pc (store_integer_code address ty r)) where
  abbrev g : Views
  g = views_of map functions types entry

  abbrev c : Context
  c = context_of map false charge weight

  module _ (stands : IsFor g k IsGood x f) (held : IsHeldBy g k x.objects (Word address) v f.values)
      (given : f.values r ≡ new.word) (d : IsDirect x.objects v (size_of ty)) where
    abbrev p : Place
    p = place_in x.objects d.object v.word

    abbrev stored : State
    stored = effects c (store_integer_code address ty r) f

    abbrev put : List ℕ
    put = little_bytes (size_of ty) new.word

    allowed : IsAllowed x.objects v (size_of ty) p
    allowed = direct_allowed x.objects v (size_of ty) d

    at_is : (f.values address + 0) % 2 ^ 64 ≡ v.word
    at_is = address_is (f.values address) v.word (w.values address) held

    in_objects : is_of_objects map v.word (size_of ty) ≡ true
    in_objects = of_objects g k x.objects f.memory (laid_out map mapped) stands.objects v (size_of ty) p allowed

    low : v.word + size_of ty ≤ spaces_begin
    low =
        let l = lies_last g k x.objects f.memory (laid_out map mapped) stands.objects v (size_of ty) p allowed in
        let s = (laid_out map mapped).small in omega arith

    may_store : is_allowed map ((f.values address + 0) % 2 ^ 64) (store_bytes (store_op ty)) ≡ true
    may_store =
        ap (λ a. is_allowed map a (store_bytes (store_op ty))) at_is ∙ ap (is_allowed map v.word) (store_size ty)
        ∙ access_allowed map v.word (size_of ty) in_objects

    memory_is : stored.memory ≡ store (size_of ty) f.memory v.word new.word
    memory_is =
        ap (λ n. store n f.memory ((f.values address + 0) % 2 ^ 64) (f.values r)) (store_size ty)
        ∙ ap (λ a. store (size_of ty) f.memory a (f.values r)) at_is ∙ ap (store (size_of ty) f.memory v.word) given

    objects_stand : StandsFor g k (write_bytes put p x.objects) (store (size_of ty) f.memory v.word new.word)
    objects_stand =
        let n = size_of ty in
        let long = length-bytes_low_first 0 n new.word in
        let is_put = store_is_put map n f.memory v.word new.word low mapped functions types entry IsGood is_local
        stands.spaces in
        put_stands g k mapped (laid_out map mapped) x.objects f.memory (store n f.memory v.word new.word) stands.objects
        put p allowed.live (subst (IsPlace x.objects p) (sym long) allowed.place) (little_bytes_below n new.word)
        (subst (λ a. IsPut g put a f.memory (store n f.memory v.word new.word))
        (sym allowed.address) is_put)

    pub stores_integer : Reaches c code 1 (Goes pc f) (pc + 1)
        (Leaves g k IsGood Nowhere t x f ((source_store (OfInteger ty) false v line new >> done (integer 0)) x))
    unfolding write_value
    stores_integer =
        let n = size_of ty in
        let m' = store n f.memory v.word new.word in
        let a : Access = record { address = v.word; size = n; kind = Write } in
        let shows : ShowsOne a f stored = record {
          input = refl;
          output = refl;
          taken = refl;
          accesses = is_shown map charge weight v.word _ n _ Write f.accesses at_is (store_size ty) in_objects;
          turns = refl;
        } in
        let elsewhere = written_elsewhere map x.objects (write_bytes put p x.objects) n p v f.memory m'
        (keeps_bytes put p x.objects) allowed (λ b l out. store_beside n f.memory v.word new.word b out)
        (λ b l. store_keeps map n f.memory v.word new.word low b
        (let first = (spaces_follow map).shadow in omega arith)) in
        let left = given_written g k IsGood t x a (write_bytes put p x.objects) f stored (integer 0) stands
        (subst (StandsFor g k (write_bytes put p x.objects)) (sym memory_is) objects_stand)
        (subst (AreSpacesGood map IsGood) (sym memory_is)
        (store_good map n f.memory v.word new.word low mapped functions types entry IsGood is_local stands.spaces))
        shows (subst (StaysElsewhere map (write_bytes put p x.objects) f.memory) (sym memory_is) elsewhere)
        (λ i l none. refl) in
        subst (λ o. Reaches c code 1 (Goes pc f) (pc + 1) (Leaves g k IsGood Nowhere t x f o))
        (sym (store_is (OfInteger ty) v line new x d))
        (line_on c code (store_integer_code address ty r) 0 pc f (pc + 1) _ (may_store, tt) has
        (arrived c code 0 stored (pc + 1) (pc + 1) _ refl left))

pub store_integer_does : (map : MapSizes) (entry : View) (IsGood : Bytes → Type 0) (address : ℕ) (ty : IntType)
    (r t : ℕ)
    → AreMapped map → IsLocal map entry IsGood
    → IsStoreRoutine (program_basis map entry IsGood) address (Integer ty r) t (store_integer_code address ty r)
store_integer_does map entry IsGood address ty r t mapped is_local line functions types k x [] charge weight =
    record { from = λ code pc f has w p. absurd p.1 }
store_integer_does map entry IsGood address ty r t mapped is_local line functions types k x (v ∷ []) charge weight =
    record { from = λ code pc f has w p. absurd p.1.1 }
store_integer_does map entry IsGood address ty r t mapped is_local line functions types k x (v ∷ new ∷ []) charge
    weight =
    record {
      from = λ code pc f has w p.
          weaken _ code 1
          (1 + 0 * work_of (source_store (OfInteger ty) false v line new >> done (integer 0)) x) (Goes pc f) (pc + 1) _
          _
          (omega arith) (λ o q. q)
          (stores_integer map mapped entry IsGood is_local functions types k x v new charge weight code pc f w address t
          r
          line ty
          has p.0 p.1.0 p.1.1.0 p.2);
    }
store_integer_does map entry IsGood address ty r t mapped is_local line functions types k x (v ∷ new ∷ v' ∷ vs) charge
    weight =
    record { from = λ code pc f has w p. absurd p.1.1.1 }

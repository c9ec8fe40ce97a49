-- Accesses of three-address code that is not stuck: the object is there, so a judged access is one that names its object.
use Rattle.std.proofs.Common.{◌≡◌, ℕ, ◌+◌, Bool, true, false, List, [], ◌∷◌, ◌++◌, Option, Some}
use Rattle.std.proofs.Common.{None, refl, ap, ◌∙◌, arith}
use Rattle.std.specs.Prelude.{slice_get, nat_le}
use Rattle.std.proofs.lemmas.Bool.{and_parts, leb-true}
use Rattle.behaviours.specs.Shown.{Read, Write}
use Rattle.sb_base.specs.declared.ending.Ending.TheVariants.{Spatial, Temporal}
use Rattle.obj_memory.specs.declared.value.Place.{Place}
use Rattle.obj_memory.specs.declared.value.Scalar.{Scalar}
use Rattle.obj_memory.specs.declared.value.Tag.{Tag}
use Rattle.obj_memory.specs.declared.value.Tag.TheVariants.{Untagged, OfFunction, OfObject}
use Rattle.obj_memory.specs.declared.value.Value.{Value}
use Rattle.obj_memory.specs.Access.{scalar_size, read_value, write_value}
use Rattle.obj_memory.specs.Judgement.{place_in}
use Rattle.obj_memory.specs.Objects.{Objects}
use Rattle.obj_memory.specs.Sound.{IsSoundTag}
use Rattle.source_meaning.specs.State.{State, Rvalue, Gives, on}
use Rattle.source_meaning.specs.Actions.{load, located, place_or_stop, read_scalar, store, write_scalar}
use Rattle.source_meaning.specs.Blocks.{pass_or_stop}
use Rattle.source_meaning.specs.Judging.{is_within, is_live_tag}
use Rattle.source_meaning.specs.Keeping.{IsDirect}
use Rattle.source_meaning.proofs.Holding.{direct_named, live_made}
use Rattle.source_meaning.proofs.JudgingTests.{two_tests}
use Rattle.tac_ir.specs.declared.instruction.Mode.{Mode}
use Rattle.tac_ir.specs.declared.instruction.Mode.TheVariants.{Named, Unchecked, Judged}
use Rattle.tac_ir.specs.declared.key.Key.{Key}
use Rattle.tac_ir.specs.Accesses.{admitted, is_inside, is_live_at, is_live_by, is_through}
use Rattle.tac_ir.specs.Keys.{gives}
use Rattle.tac_ir.specs.Meaning.{keyed, keyed_by}
use Rattle.tac_ir.specs.Stage.{Stage, Stuck}
use Rattle.tac_ir.proofs.Fits.{only_true}
use Rattle.metadata_relation.specs.Steps.{is_settled}

-- ---- tests of three-address code

-- what stands behind a key, where it is not stuck
pub keyed_opens : (keys : List Key) (key : Option ℕ) (s : State) (v : Value) (next : Stage)
    → (keyed keys key s v next ≡ Stuck → ⊥) → keyed keys key s v next ≡ next
keyed_opens keys None s v next fine = refl
keyed_opens keys (Some n) s v next fine = by (slice_get keys n) fine
  where
    by : (o : Option Key) → (keyed_by o s v next ≡ Stuck → ⊥) → keyed_by o s v next ≡ next
    by None fine = absurd (fine refl)
    by (Some key) fine = (only_true (gives key s v) next fine).1

-- bytes of a live object, whatever the bounds
pub live_direct : (objects : Objects) (v : Value) (size : ℕ) (t : Tag) → v.tag ≡ t
    → is_live_by t v.word size objects ≡ true → IsDirect objects v size
live_direct objects v size Untagged is e = cc
live_direct objects v size (OfFunction f) is e = cc
live_direct objects v size (OfObject o b) is e =
    let p = and_parts _ _ e in
    let q = and_parts _ _ p.1 in
    record {
      object = o;
      bounds = b;
      tag = is;
      made = live_made objects o p.0;
      live = p.0;
      start = leb-true _ _ q.0;
      end = leb-true _ _ q.1;
    }

-- bytes that both tests allow
inside_direct : (functions : ℕ) (objects : Objects) (v : Value) (size : ℕ) (t : Tag) → v.tag ≡ t
    → is_within t v.word size ≡ true → is_live_tag t objects ≡ true → IsSoundTag functions objects t
    → IsDirect objects v size
inside_direct functions objects v size Untagged is within live sound = cc
inside_direct functions objects v size (OfFunction f) is within live sound = cc
inside_direct functions objects v size (OfObject o b) is within live sound =
    let p = and_parts (nat_le b.base v.word) (nat_le (v.word + size) b.bound) within in
    let low = leb-true b.base v.word p.0 in
    let high = leb-true (v.word + size) b.bound p.1 in
    let base = sound.base in
    let bound = sound.bound in
    record {
      object = o;
      bounds = b;
      tag = is;
      made = sound.made;
      live = live;
      start = omega arith;
      end = omega arith;
    }

-- where both tests pass, the place is that of the object that is named
both_passed : (size : ℕ) (v : Value) (line : ℕ) (s : State) → is_within v.tag v.word size ≡ true
    → is_live_tag v.tag s.objects ≡ true → located true size v line s ≡ located false size v line s
both_passed size v line s within live = two_tests size v line s ∙ first (is_within v.tag v.word size) within
  where
    first : (b : Bool) → b ≡ true
        → on (pass_or_stop b (Spatial line) s) (λ _ z. on (pass_or_stop (is_live_tag v.tag z.objects) (Temporal line) z)
        (λ _ y. located false size v line y)) ≡ located false size v line s
    first false e = cc
    first true e =
        ap (λ b. on (pass_or_stop b (Temporal line) s) (λ _ y. located false size v line y)) live

-- What is known of an access of some bytes that goes on: they are bytes of a live object, and it is as one that names it.
pub record IsFound (mode : Mode) (size : ℕ) (q : Rvalue) (objects : Objects) (next : Stage) : Type 0 where
  pub direct : IsDirect objects q.value size
  pub opens : admitted mode size q objects next ≡ next
  pub same : (line : ℕ) (s : State) → s.objects ≡ objects
      → located (is_through mode) size q.value line s ≡ located false size q.value line s

pub found : (mode : Mode) → is_settled mode ≡ true → (functions size : ℕ) (value : Value) (objects : Objects)
    (next : Stage) → IsSoundTag functions objects value.tag
    → (admitted mode size (record { value = value; contents = None }) objects next ≡ Stuck → ⊥)
    → IsFound mode size (record { value = value; contents = None }) objects next
found Named e functions size value objects next sound fine =
    let t = only_true (is_live_at size value objects) next fine in
    record {
      direct = live_direct objects value size value.tag refl t.0;
      opens = t.1;
      same = λ line s is. refl;
    }
found Unchecked e functions size value objects next sound fine = cc
found Judged e functions size value objects next sound fine =
    let t = only_true (is_inside size value objects) next fine in
    let p = and_parts (is_within value.tag value.word size) (is_live_tag value.tag objects) t.0 in
    record {
      direct = inside_direct functions objects value size value.tag refl p.0 p.1 sound;
      opens = t.1;
      same = λ line s is. both_passed size value line s p.0 (ap (is_live_tag value.tag) is ∙ p.1);
    }

-- ---- accesses that name their objects

abbrev pub place_of : (v : Value) (size : ℕ) (s : State) → IsDirect s.objects v size → Place
place_of v size s d = place_in s.objects d.object v.word

-- the state behind a read
abbrev pub behind_read : (size : ℕ) → Value → State → State
behind_read size v s = record s {
  accesses = s.accesses ++ (record { address = v.word; size = size; kind = Read } ∷ []);
}

pub loaded : (k : Scalar) (v : Value) (line : ℕ) (s : State) (d : IsDirect s.objects v (scalar_size k))
    → load k false v line s
    ≡ Gives (read_value k (place_in s.objects d.object v.word) s.objects) (behind_read (scalar_size k) v s)
loaded k v line s d =
    ap (λ w. on (place_or_stop w line s) (λ p. read_scalar k v.word p)) (direct_named s.objects v (scalar_size k) d)

-- the state behind a write
abbrev pub behind_write : Scalar → (address : Value) → Place → (value : Value) → State → State
behind_write k p q v s = record s {
  accesses = s.accesses ++ (record { address = p.word; size = scalar_size k; kind = Write } ∷ []);
  objects = write_value k v q s.objects;
}

pub stored : (k : Scalar) (p v : Value) (line : ℕ) (s : State) (d : IsDirect s.objects p (scalar_size k))
    → store k false p line v s ≡ Gives tt (behind_write k p (place_in s.objects d.object p.word) v s)
stored k p v line s d =
    ap (λ w. on (place_or_stop w line s) (λ q. write_scalar k p.word q v)) (direct_named s.objects p (scalar_size k) d)

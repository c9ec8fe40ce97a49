-- Writes change the contents of one object.
use Rattle.std.proofs.Common.{◌≡◌, ℕ, ◌/◌, ◌<◌, List, length, set, Bool, true, false, refl, ap, subst, ◌∙◌, ◌≢◌, arith}
use Rattle.std.specs.Prelude.{if◌then◌else◌}
use Rattle.std.proofs.lemmas.List.{get_or-set_same, get_or-set_other, length-set}
use Rattle.byteorder.specs.Endian.{little_bytes}
use Rattle.obj_memory.specs.declared.value.Scalar.{Scalar}
use Rattle.obj_memory.specs.declared.value.Scalar.TheVariants.{Integer, Pointer}
use Rattle.obj_memory.specs.declared.value.Tag.{Tag}
use Rattle.obj_memory.specs.declared.value.Value.{Value}
use Rattle.obj_memory.specs.Integers.{size_of}
use Rattle.obj_memory.specs.Objects.{ObjectState, Objects, object_at, no_object, pointer_to}
use Rattle.obj_memory.specs.Access.{is_aligned, write_value, write_bytes, write_tag}
use Rattle.c_const.specs.Contents.{Contents, with_bytes, with_tag, with_scalar}
use Rattle.source_meaning.specs.Constants.Leaving.{filled}

abbrev pub contents_of : ObjectState → Contents
contents_of o = record { bytes = o.bytes; tags = o.tags }

-- of the objects one has new contents
pub record Changed (n : ℕ) (c : Contents) (old new : Objects) : Type 0 where
  pub count : length new ≡ length old
  pub own : object_at new n ≡ filled c (object_at old n)
  pub others : (m : ℕ) → m ≢ n → object_at new m ≡ object_at old m

pub changed_none : (n : ℕ) (old : Objects) → Changed n (contents_of (object_at old n)) old old
changed_none n old = record { count = refl; own = refl; others = λ m e. refl }

pub changed_set : (n : ℕ) (c : Contents) (old : Objects) → n < length old
    → Changed n c old (set old n (filled c (object_at old n)))
changed_set n c old lt = record {
  count = length-set old n (filled c (object_at old n));
  own = get_or-set_same old n (filled c (object_at old n)) no_object lt;
  others = λ m e. get_or-set_other old n m (filled c (object_at old n)) no_object e;
}

pub changed_then : {n : ℕ} {c d : Contents} {a b e : Objects} → Changed n c a b → Changed n d b e → Changed n d a e
changed_then {d = d} h g = record {
  count = g.count ∙ h.count;
  own = g.own ∙ ap (filled d) h.own;
  others = λ m e. g.others m e ∙ h.others m e;
}

pub changed_same : {n : ℕ} {c d : Contents} {a b : Objects} → c ≡ d → Changed n c a b → Changed n d a b
changed_same {n = n} {a = a} {b = b} e h = let P : Contents → Type 0 = λ x. Changed n x a b in subst P e h

-- the contents after a change
pub changed_contents : {n : ℕ} {c : Contents} {a b : Objects} → Changed n c a b → contents_of (object_at b n) ≡ c
changed_contents h = ap contents_of h.own

bytes_change : (new : List ℕ) (n offset : ℕ) (old : Objects) → n < length old
    → Changed n (with_bytes offset new (contents_of (object_at old n))) old
    (write_bytes new (record { object = n; offset = offset }) old)
unfolding write_bytes
bytes_change new n offset old lt = changed_set n (with_bytes offset new (contents_of (object_at old n))) old lt

tag_by : (b : Bool) (t : Tag) (n word : ℕ) (old : Objects) → n < length old
    → Changed n (if b then record { bytes = (object_at old n).bytes; tags = set (object_at old n).tags word t }
    else contents_of (object_at old n)) old
    (if b then set old n (record (object_at old n) { tags = set (object_at old n).tags word t }) else old)
tag_by true t n word old lt = changed_set n
    (record { bytes = (object_at old n).bytes; tags = set (object_at old n).tags word t }) old lt
tag_by false t n word old lt = changed_none n old

tag_changes : (t : Tag) (n offset : ℕ) (old : Objects) → n < length old
    → Changed n (with_tag offset t (contents_of (object_at old n))) old
    (write_tag t (record { object = n; offset = offset }) old)
unfolding write_tag
tag_changes t n offset old lt = tag_by (is_aligned offset) t n (offset / 8) old lt

pub scalar_changes : (k : Scalar) (v : Value) (n offset : ℕ) (old : Objects) → n < length old
    → Changed n (with_scalar k offset v (contents_of (object_at old n))) old
    (write_value k v (record { object = n; offset = offset }) old)
unfolding write_value
scalar_changes (Integer t) v n offset old lt = bytes_change (little_bytes (size_of t) v.word) n offset old lt
scalar_changes Pointer v n offset old lt =
    let first = bytes_change (little_bytes 8 v.word) n offset old lt in
    let second = tag_changes v.tag n offset
    (write_bytes (little_bytes 8 v.word) (record { object = n; offset = offset }) old)
    (omega (arith, lt, first.count)) in
    changed_then first (changed_same (ap (with_tag offset v.tag) (changed_contents first)) second)

-- pointers to objects stay

same_pointer : (m : ℕ) (old new : Objects) → (object_at new m).address ≡ (object_at old m).address
    → (object_at new m).size ≡ (object_at old m).size → pointer_to m new ≡ pointer_to m old
unfolding pointer_to
same_pointer m old new address size = cc

pub own_pointer : {n : ℕ} {c : Contents} {old new : Objects} → Changed n c old new → pointer_to n new ≡ pointer_to n old
own_pointer {n = n} {old = old} {new = new} h = same_pointer n old new (ap (λ o. o.address) h.own)
    (ap (λ o. o.size) h.own)

pub other_pointer : {n : ℕ} {c : Contents} {old new : Objects} (m : ℕ) → m ≢ n → Changed n c old new
    → pointer_to m new ≡ pointer_to m old
other_pointer {old = old} {new = new} m e h =
    same_pointer m old new (ap (λ o. o.address) (h.others m e)) (ap (λ o. o.size) (h.others m e))

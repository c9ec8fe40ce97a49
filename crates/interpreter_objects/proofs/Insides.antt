-- What a test of bytes tells.
use Rattle.std.proofs.Common.{◌≡◌, ℕ, ◌+◌, ◌-◌, ◌/◌, ◌≤◌, Bool, true, false, ◌&&◌, length, leb-true, refl, arith}
use Rattle.std.proofs.Common.{List, take, drop}
use Rattle.std.proofs.lemmas.List.{length-drop, length-take}
use Rattle.obj_memory.specs.Objects.{ObjectState}
use Rattle.obj_memory.specs.declared.int_type.IntType.{IntType}
use Rattle.obj_memory.specs.declared.int_type.IntType.TheVariants.{Char}
use Rattle.obj_memory.specs.declared.value.Scalar.{Scalar}
use Rattle.obj_memory.specs.declared.value.Scalar.TheVariants.{Integer, Pointer}
use Rattle.obj_memory.specs.Access.{scalar_size}
use Rattle.obj_memory.specs.Integers.{size_of}
use Rattle.interpreter_objects.specs.Kept.{has_bytes, has_range}

pub by_test : (b c : Bool) → (b && c) ≡ true → c ≡ true
by_test true c h = h
by_test false c h = absurd (let e : false ≡ true = h in cc)

pub bytes_inside : (offset size : ℕ) (o : ObjectState) → has_bytes offset size o ≡ true → offset + size ≤ length o.bytes
unfolding has_bytes
bytes_inside offset size o h = leb-true (offset + size) (length o.bytes) (by_test o.is_live _ h)

pub both : (b c : Bool) → (b && c) ≡ true → b ≡ true
both true c h = refl
both false c h = h

pub range_bytes : (offset size : ℕ) (o : ObjectState) → has_range offset size o ≡ true → has_bytes offset size o ≡ true
unfolding has_range
range_bytes offset size o h = both (has_bytes offset size o) _ h

-- what has bytes is live
pub there_life : (offset size : ℕ) (o : ObjectState) → has_bytes offset size o ≡ true → o.is_live ≡ true
unfolding has_bytes
there_life offset size o h = both o.is_live _ h

pub range_inside : (offset size : ℕ) (o : ObjectState) → has_range offset size o ≡ true
    → offset + size ≤ length o.bytes
unfolding has_range
range_inside offset size o h = bytes_inside offset size o (range_bytes offset size o h)

pub range_tags : (offset size : ℕ) (o : ObjectState) → has_range offset size o ≡ true
    → (offset + size) / 8 ≤ length o.tags
unfolding has_range
range_tags offset size o h = leb-true ((offset + size) / 8) (length o.tags) (by_test (has_bytes offset size o) _ h)

-- a scalar has a byte at least
of_type : (t : IntType) → 1 ≤ size_of t
unfolding size_of
of_type Char = omega arith
of_type _ = omega arith

pub some_bytes : (k : Scalar) → 1 ≤ scalar_size k
some_bytes (Integer t) = of_type t
some_bytes Pointer = omega arith

-- as many bytes from an offset on as are there
pub some_there : (size offset n : ℕ) (bytes : List ℕ) → offset + size ≤ length bytes → n ≡ length bytes
    → size ≡ length (take size (take (n - offset) (drop offset bytes)))
some_there size offset n bytes h e = omega (
  arith,
  length-take size (take (n - offset) (drop offset bytes)),
  length-take (n - offset) (drop offset bytes),
  length-drop offset bytes,
  h,
  e,
)

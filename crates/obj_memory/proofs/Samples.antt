-- What the definitions compute, at values worked out by hand from the rules.
use Rattle.std.proofs.Common.{◌≡◌, ℕ, ◌-◌, ◌^◌, [], ◌∷◌, Some, None, refl}
use Rattle.obj_memory.specs.declared.object.Storage.TheVariants.{Automatic, Allocated}
use Rattle.obj_memory.specs.declared.int_type.IntType.TheVariants.{SignedChar, Int}
use Rattle.obj_memory.specs.declared.value.Tag.TheVariants.{Untagged, OfObject}
use Rattle.obj_memory.specs.declared.value.Place.{Place}
use Rattle.obj_memory.specs.declared.value.Scalar.TheVariants.{Integer, Pointer}
use Rattle.obj_memory.specs.declared.judgement.Verdict.TheVariants.{Outside, Dead, Inside}
use Rattle.obj_memory.specs.Integers.{size_of, fit}
use Rattle.obj_memory.specs.Objects.{Objects, new_object, with_new, with_dead, pointer_to}
use Rattle.obj_memory.specs.Judgement.{judge, moved, narrowed}
use Rattle.obj_memory.specs.Access.{tag_of, read_value, write_bytes, write_tag, write_value, move_range}
use Rattle.obj_memory.specs.Heap.{block_count, is_clear, least_place}

place : ℕ → ℕ → Place
place object offset = record { object = object; offset = offset }

-- an array of 24 bytes, a block of 40 bytes, and a block of 8
three : Objects
three = with_new Allocated 8240 8 (with_new Allocated 8192 40 (with_new Automatic 4096 24 []))

-- a block of 40 bytes takes 48, so the next free place is behind both blocks
next_block : least_place 8192 12287 16 three ≡ Some 8256
unfolding least_place is_clear three with_new new_object
next_block = refl

-- where the first dies its place is taken by what fits there
reused_block : least_place 8192 12287 41 (with_dead 1 three) ≡ Some 8192
unfolding least_place is_clear three with_new new_object with_dead
reused_block = refl

larger_block : least_place 8192 12287 49 (with_dead 1 three) ≡ Some 8256
unfolding least_place is_clear three with_new new_object with_dead
larger_block = refl

full_heap : least_place 8192 8271 17 three ≡ None
unfolding least_place is_clear three with_new new_object
full_heap = refl

last_block : least_place 8192 8271 0 three ≡ Some 8256
unfolding least_place is_clear three with_new new_object
last_block = refl

blocks : block_count (with_dead 1 three) ≡ 1
unfolding block_count three with_new new_object with_dead
blocks = refl

-- one past the end may be pointed to, and not accessed
inside : judge 4 (moved 20 (pointer_to 0 three)) three ≡ Inside (place 0 20)
unfolding judge moved pointer_to three with_new new_object place
inside = refl

outside : judge 4 (moved 21 (pointer_to 0 three)) three ≡ Outside
unfolding judge moved pointer_to three with_new new_object
outside = refl

below : judge 1 (moved (2 ^ 64 - 1) (pointer_to 0 three)) three ≡ Outside
unfolding judge moved pointer_to three with_new new_object
below = refl

dead : judge 1 (pointer_to 1 three) (with_dead 1 three) ≡ Dead
unfolding judge pointer_to three with_new new_object with_dead
dead = refl

-- a member's bounds are its own bytes
beyond_member : judge 4 (moved 4 (narrowed 8 4 (pointer_to 0 three))) three ≡ Outside
unfolding judge moved narrowed pointer_to three with_new new_object
beyond_member = refl

-- the array with a pointer to itself at offset 8
pointing : Objects
pointing = write_value Pointer (pointer_to 0 three) (place 0 8) three

pointer_read : read_value Pointer (place 0 8) pointing ≡ pointer_to 0 three
unfolding pointing read_value write_value write_bytes write_tag pointer_to three with_new new_object place
pointer_read = refl

-- other writes leave its tag, and a pointer that is not at a multiple of 8 has none
integer_over_it : read_value Pointer (place 0 8) (write_value (Integer Int) (record { word = 1; tag = Untagged })
    (place 0 8) pointing)
    ≡ record { word = 1; tag = OfObject 0 (record { base = 4096; bound = 4120 }) }
unfolding pointing read_value write_value write_bytes write_tag pointer_to three with_new new_object place size_of
integer_over_it = refl

misaligned : read_value Pointer (place 0 4) (write_value Pointer (pointer_to 0 three) (place 0 4) three)
    ≡ record { word = 4096; tag = Untagged }
unfolding read_value write_value write_bytes write_tag pointer_to three with_new new_object place
misaligned = refl

signed_byte : read_value (Integer SignedChar) (place 0 3) (write_bytes (255 ∷ []) (place 0 3) three)
    ≡ record { word = 2 ^ 64 - 1; tag = Untagged }
unfolding read_value write_bytes three with_new new_object place size_of fit
signed_byte = refl

-- moved by a multiple of 8 whole words keep their tags, moved otherwise they lose them
moved_up : tag_of 0 2 (move_range 8 (place 0 16) (place 0 8) pointing)
    ≡ OfObject 0 (record { base = 4096; bound = 4120 })
unfolding pointing move_range write_value write_bytes write_tag pointer_to three with_new new_object place
moved_up = refl

part_moved : tag_of 0 2 (move_range 7 (place 0 16) (place 0 8) pointing) ≡ Untagged
unfolding pointing move_range write_value write_bytes write_tag pointer_to three with_new new_object place
part_moved = refl

shifted : tag_of 0 2 (move_range 8 (place 0 16) (place 0 4) pointing) ≡ Untagged
unfolding pointing move_range write_value write_bytes write_tag pointer_to three with_new new_object place
shifted = refl

overlapping : read_value Pointer (place 0 0) (move_range 16 (place 0 0) (place 0 8) pointing) ≡ pointer_to 0 three
unfolding pointing move_range read_value write_value write_bytes write_tag pointer_to three with_new new_object place
overlapping = refl

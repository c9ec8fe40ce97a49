-- Integer types and kinds.
use Rattle.std.proofs.Common.{◌≡◌, ℕ, zero, suc, Bool, true, false, Option, Some, None, List, [], ◌∷◌, refl, ap, sym}
use Rattle.std.proofs.Common.{◌∙◌}
use Rattle.std.specs.Prelude.{if◌then◌else◌}
use Rattle.std.proofs.lemmas.Bool.{eqb-true}
use Rattle.obj_memory.specs.declared.int_type.IntType.{IntType}
use Rattle.obj_memory.specs.declared.int_type.IntType.TheVariants.{Char, SignedChar, UnsignedChar, Short, UnsignedShort}
use Rattle.obj_memory.specs.declared.int_type.IntType.TheVariants.{Int, UnsignedInt, Long, UnsignedLong, LongLong}
use Rattle.obj_memory.specs.declared.int_type.IntType.TheVariants.{UnsignedLongLong}
use Rattle.obj_memory.specs.Integers.{rank, is_signed, promoted, unsigned_of, mixed_type, balanced_type, common_type}
use Rattle.c_tree.specs.declared.c_type.TypeWord.{TypeWord}
use Rattle.c_tree.specs.declared.c_type.TypeWord.TheVariants as word
use Rattle.c_tree.specs.declared.expression.Kind.{Kind}
use Rattle.c_tree.specs.Extents.{TypeExtent, extent_of}
use Rattle.c_tree.specs.Kinds.{integer, pointer, int_number, is_int_type, is_promoted_type, is_size}
use Rattle.c_tree.specs.TypesAgree.{kind_of_type}
use Rattle.c_rules.specs.declared.class.Class.{Class}
use Rattle.c_rules.specs.declared.class.Class.TheVariants as class
use Rattle.c_rules.specs.declared.class.Target.{Target}
use Rattle.c_rules.specs.declared.class.Target.TheVariants as target
use Rattle.c_rules.specs.Types.{class_of, object_of, target_of}

-- integer types by number

abbrev of_number : ℕ → IntType
of_number zero = Char
of_number (suc (zero)) = SignedChar
of_number (suc (suc (zero))) = UnsignedChar
of_number (suc (suc (suc (zero)))) = Short
of_number (suc (suc (suc (suc (zero))))) = UnsignedShort
of_number (suc (suc (suc (suc (suc (zero)))))) = Int
of_number (suc (suc (suc (suc (suc (suc (zero))))))) = UnsignedInt
of_number (suc (suc (suc (suc (suc (suc (suc (zero)))))))) = Long
of_number (suc (suc (suc (suc (suc (suc (suc (suc (zero))))))))) = UnsignedLong
of_number (suc (suc (suc (suc (suc (suc (suc (suc (suc (zero)))))))))) = LongLong
of_number (suc (suc (suc (suc (suc (suc (suc (suc (suc (suc (zero))))))))))) = UnsignedLongLong
of_number n = Int

number_back : (t : IntType) → of_number (int_number t) ≡ t
number_back Char = refl
number_back SignedChar = refl
number_back UnsignedChar = refl
number_back Short = refl
number_back UnsignedShort = refl
number_back Int = refl
number_back UnsignedInt = refl
number_back Long = refl
number_back UnsignedLong = refl
number_back LongLong = refl
number_back UnsignedLongLong = refl

pub same_int : (s t : IntType) → is_int_type s t ≡ true → s ≡ t
same_int s t e = sym (number_back s) ∙ ap of_number (eqb-true (int_number s) (int_number t) e) ∙ number_back t

pub same_number : (t : IntType) → is_int_type t t ≡ true
same_number Char = refl
same_number SignedChar = refl
same_number UnsignedChar = refl
same_number Short = refl
same_number UnsignedShort = refl
same_number Int = refl
same_number UnsignedInt = refl
same_number Long = refl
same_number UnsignedLong = refl
same_number LongLong = refl
same_number UnsignedLongLong = refl

-- the type of an operation is promoted

promoted_if : (b : Bool) (s t : IntType) → is_promoted_type s ≡ true → is_promoted_type t ≡ true
    → is_promoted_type (if b then s else t) ≡ true
promoted_if true s t p q = p
promoted_if false s t p q = q

pub promotes : (t : IntType) → is_promoted_type (promoted t) ≡ true
unfolding promoted rank
promotes Char = refl
promotes SignedChar = refl
promotes UnsignedChar = refl
promotes Short = refl
promotes UnsignedShort = refl
promotes Int = refl
promotes UnsignedInt = refl
promotes Long = refl
promotes UnsignedLong = refl
promotes LongLong = refl
promotes UnsignedLongLong = refl

unsigned_promoted : (t : IntType) → is_promoted_type t ≡ true → is_promoted_type (unsigned_of t) ≡ true
unfolding unsigned_of rank
unsigned_promoted Char h = h
unsigned_promoted SignedChar h = h
unsigned_promoted UnsignedChar h = h
unsigned_promoted Short h = h
unsigned_promoted UnsignedShort h = h
unsigned_promoted Int h = h
unsigned_promoted UnsignedInt h = h
unsigned_promoted Long h = h
unsigned_promoted UnsignedLong h = h
unsigned_promoted LongLong h = h
unsigned_promoted UnsignedLongLong h = h

mixed_promoted : (s u : IntType) → is_promoted_type s ≡ true → is_promoted_type u ≡ true
    → is_promoted_type (mixed_type s u) ≡ true
unfolding mixed_type
mixed_promoted s u p q = promoted_if _ u _ q (promoted_if _ s (unsigned_of s) p (unsigned_promoted s p))

balanced_promoted : (s t : IntType) → is_promoted_type s ≡ true → is_promoted_type t ≡ true
    → is_promoted_type (balanced_type s t) ≡ true
unfolding balanced_type
balanced_promoted s t p q =
    promoted_if (is_signed s) _ _
    (promoted_if (is_signed t) _ _ (promoted_if _ t s q p) (mixed_promoted s t p q))
    (promoted_if (is_signed t) _ _ (mixed_promoted t s q p) (promoted_if _ t s q p))

pub common_promoted : (s t : IntType) → is_promoted_type (common_type s t) ≡ true
unfolding common_type
common_promoted s t = balanced_promoted (promoted s) (promoted t) (promotes s) (promotes t)

-- the class of a type tells the kind of its values

abbrev pub HasSize : Target → Type 0
HasSize (target.Object size) = is_size size ≡ true
HasSize target.Incomplete = Unit {0}
HasSize target.Void = Unit {0}
HasSize target.Function = Unit {0}

abbrev pub HasKind : Class → Kind → Type 0
HasKind (class.Integer t) k = k ≡ integer t
HasKind (class.Pointer to) k = (k ≡ pointer) × HasSize to
HasKind class.Other k = Unit {0}

sized_by : (b : Bool) (n : ℕ) → is_size n ≡ b → HasSize (if b then target.Object n else target.Incomplete)
sized_by true n e = e
sized_by false n e = tt

object_sized : (o : Option TypeExtent) → HasSize (object_of o)
object_sized None = tt
object_sized (Some e) = sized_by (is_size e.size) e.size refl

target_sized : (structures : List (Option TypeExtent)) (ws : List TypeWord) → HasSize (target_of structures ws)
target_sized structures [] = object_sized (extent_of structures [])
target_sized structures (word.Void ∷ behind) = tt
target_sized structures (word.Integer t ∷ behind) = object_sized (extent_of structures (word.Integer t ∷ behind))
target_sized structures (word.Enumeration n ∷ behind) = object_sized
    (extent_of structures (word.Enumeration n ∷ behind))
target_sized structures (word.Pointer ∷ behind) = object_sized (extent_of structures (word.Pointer ∷ behind))
target_sized structures (word.Array count bytes ∷ behind) = object_sized
    (extent_of structures (word.Array count bytes ∷ behind))
target_sized structures (word.OpenArray ∷ behind) = object_sized (extent_of structures (word.OpenArray ∷ behind))
target_sized structures (word.Structure n ∷ behind) = object_sized (extent_of structures (word.Structure n ∷ behind))
target_sized structures (word.Const ∷ behind) = target_sized structures behind
target_sized structures (word.Takes ∷ behind) = tt
target_sized structures (word.Gives ∷ behind) = tt

some_kind : (j k : Kind) → Some j ≡ Some k → k ≡ j
some_kind j k e = cc

pub class_kind : (structures : List (Option TypeExtent)) (ws : List TypeWord) (k : Kind)
    → kind_of_type structures ws ≡ Some k → HasKind (class_of structures ws) k
class_kind structures [] k e = tt
class_kind structures (word.Void ∷ behind) k e = tt
class_kind structures (word.Integer t ∷ behind) k e = some_kind _ k e
class_kind structures (word.Enumeration n ∷ behind) k e = some_kind _ k e
class_kind structures (word.Pointer ∷ behind) k e = (some_kind _ k e, target_sized structures behind)
class_kind structures (word.Array count bytes ∷ behind) k e = tt
class_kind structures (word.OpenArray ∷ behind) k e = tt
class_kind structures (word.Structure n ∷ behind) k e = tt
class_kind structures (word.Const ∷ behind) k e = class_kind structures behind k e
class_kind structures (word.Takes ∷ behind) k e = tt
class_kind structures (word.Gives ∷ behind) k e = tt

-- Types that declarators make, and the extents of types.
use Rattle.std.proofs.Common.{◌≡◌, ℕ, zero, suc, ◌*◌, ◌^◌, ◌<◌, ◌≤◌, Bool, true, false, ◌&&◌, refl, ap, ◌∙◌}
use Rattle.std.proofs.Common.{subst, List, [], ◌∷◌, Option, Some, None, if◌then◌else◌, nat_le, arith}
use Rattle.std.specs.Prelude.{not, is_none, option_map}
use Rattle.std.proofs.lemmas.Bool.{leb-true, le-leb, ltb-false, and_from, true≢false}
use Rattle.obj_memory.specs.declared.int_type.IntType.{IntType}
use Rattle.obj_memory.specs.declared.int_type.IntType.TheVariants as int
use Rattle.obj_memory.specs.Integers.{size_of}
use Rattle.c_tree.specs.declared.c_type.TypeWord.{TypeWord}
use Rattle.c_tree.specs.declared.c_type.TypeWord.TheVariants as word
use Rattle.c_tree.specs.Arrays.{array_word}
use Rattle.c_tree.specs.Extents.{TypeExtent, array_extent, capped, extent_of, scalar_extent, structure_extent}
use Rattle.c_tree.specs.Kinds.{is_size}
use Rattle.c_tree.specs.Layout.{array_size}
use Rattle.c_rules.specs.declared.class.Target.TheVariants as target
use Rattle.c_rules.specs.Types.{object_of, target_of}
use Rattle.c_place_rules.specs.Targets.{constant, qualified}
use Rattle.c_declarators.specs.declared.faults.TypeFaults.{TypeFaults}
use Rattle.c_declarators.specs.Derivations.{BuiltType, Derivation, array_of, built, derived, element_faults}
use Rattle.c_declarators.specs.Derivations.{function_words, is_large, pointer_words, to_array, to_function}
use Rattle.c_declarators.specs.Derivations.{to_open_array, to_pointer}
use Rattle.c_declarators.specs.Faults.{and_faults, rule_of}
use Rattle.c_scope.specs.Declaring.{is_function}
use Rattle.c_specifiers.specs.declared.specified.Sign.{Sign}
use Rattle.c_specifiers.specs.declared.specified.Size.{Size}
use Rattle.c_specifiers.specs.declared.specified.Size.TheVariants as size
use Rattle.c_specifiers.specs.declared.specified.Specified.{Specified}
use Rattle.c_specifiers.specs.Specified.{basic_of}
use Rattle.c_declarator_typing.specs.Specifications.{Gathered, specified, type_or_basic}
use Rattle.typing_laws.specs.Validity.Sound.{IsObjectExtent, is_sized_array}
use Rattle.typing_laws.proofs.Validity.Common.{first, neither_left, neither_right, no_value, the_same}
use Rattle.typing_laws.proofs.Validity.Moved.{size_high}
use Rattle.typing_laws.specs.Declarators.Given.{AreCounted, HasType, IsCounted}

pub is_size_of : (n : ℕ) → 1 ≤ n → n ≤ 2 ^ 32 → is_size n ≡ true
is_size_of n low high = and_from (nat_le 1 n) (nat_le n (2 ^ 32)) (le-leb 1 n low) (le-leb n (2 ^ 32) high)

pub size_low : (n : ℕ) → is_size n ≡ true → 1 ≤ n
size_low n e = leb-true 1 n (first (nat_le 1 n) (nat_le n (2 ^ 32)) e)

-- extents of complete types

abbrev HasSizes : List (Option TypeExtent) → Type 0
HasSizes es = (n : ℕ) (e : TypeExtent) → structure_extent es n ≡ Some e → IsObjectExtent e

scalar_object : (n : ℕ) → is_size n ≡ true → n ≤ 8 → IsObjectExtent (scalar_extent n)
scalar_object n e small = record { size = e; least = size_low n e; greatest = small }

integer_object : (t : IntType) → IsObjectExtent (scalar_extent (size_of t))
unfolding size_of
integer_object int.Char = scalar_object 1 refl (omega arith)
integer_object int.SignedChar = scalar_object 1 refl (omega arith)
integer_object int.UnsignedChar = scalar_object 1 refl (omega arith)
integer_object int.Short = scalar_object 2 refl (omega arith)
integer_object int.UnsignedShort = scalar_object 2 refl (omega arith)
integer_object int.Int = scalar_object 4 refl (omega arith)
integer_object int.UnsignedInt = scalar_object 4 refl (omega arith)
integer_object int.Long = scalar_object 8 refl (omega arith)
integer_object int.UnsignedLong = scalar_object 8 refl (omega arith)
integer_object int.LongLong = scalar_object 8 refl (omega arith)
integer_object int.UnsignedLongLong = scalar_object 8 refl (omega arith)

pub record IsAligned (e : TypeExtent) : Type 0 where
  pub least : 1 ≤ e.alignment
  pub greatest : e.alignment ≤ 8

object_aligned : (e : TypeExtent) → IsObjectExtent e → IsAligned e
object_aligned e is = record { least = is.least; greatest = is.greatest }

array_aligned : (bytes : ℕ) (o : Option TypeExtent) (e : TypeExtent) → ((x : TypeExtent) → o ≡ Some x → IsAligned x)
    → option_map (array_extent bytes) o ≡ Some e → IsAligned e
array_aligned bytes None e h is = no_value e _ is
array_aligned bytes (Some x) e h is =
    subst IsAligned (the_same is) (record { least = (h x refl).least; greatest = (h x refl).greatest })

pub aligned_type : (es : List (Option TypeExtent)) → HasSizes es → (ws : List TypeWord) (e : TypeExtent)
    → extent_of es ws ≡ Some e → IsAligned e
unfolding extent_of
aligned_type es h [] e is = no_value e _ is
aligned_type es h (word.Void ∷ ws) e is = no_value e _ is
aligned_type es h (word.Integer t ∷ ws) e is =
    subst IsAligned (the_same is) (object_aligned (scalar_extent (size_of t)) (integer_object t))
aligned_type es h (word.Enumeration n ∷ ws) e is =
    subst IsAligned (the_same is) (object_aligned (scalar_extent (size_of int.Int)) (integer_object int.Int))
aligned_type es h (word.Pointer ∷ ws) e is =
    subst IsAligned (the_same is) (object_aligned (scalar_extent 8) (scalar_object 8 refl (omega arith)))
aligned_type es h (word.Array count bytes ∷ ws) e is =
    array_aligned bytes (extent_of es ws) e (λ x. aligned_type es h ws x) is
aligned_type es h (word.OpenArray ∷ ws) e is = no_value e _ is
aligned_type es h (word.Structure n ∷ ws) e is = object_aligned e (h n e is)
aligned_type es h (word.Const ∷ ws) e is = aligned_type es h ws e is
aligned_type es h (word.Takes ∷ ws) e is = no_value e _ is
aligned_type es h (word.Gives ∷ ws) e is = no_value e _ is

capped_same : (n : ℕ) → n ≤ 2 ^ 32 → capped n ≡ n
capped_same n small = omega arith

array_object : (bytes : ℕ) (o : Option TypeExtent) (e : TypeExtent) → ((x : TypeExtent) → o ≡ Some x → IsAligned x)
    → is_size bytes ≡ true → option_map (array_extent bytes) o ≡ Some e → IsObjectExtent e
array_object bytes None e h sized is = no_value e _ is
array_object bytes (Some x) e h sized is =
    subst IsObjectExtent (the_same is) (record {
      size = ap is_size (capped_same bytes (size_high bytes sized)) ∙ sized;
      least = (h x refl).least;
      greatest = (h x refl).greatest;
    })

pub object_type : (es : List (Option TypeExtent)) → HasSizes es → (ws : List TypeWord) → is_sized_array ws ≡ true
    → (e : TypeExtent) → extent_of es ws ≡ Some e → IsObjectExtent e
unfolding extent_of
object_type es h [] sized e is = no_value e _ is
object_type es h (word.Void ∷ ws) sized e is = no_value e _ is
object_type es h (word.Integer t ∷ ws) sized e is = subst IsObjectExtent (the_same is) (integer_object t)
object_type es h (word.Enumeration n ∷ ws) sized e is = subst IsObjectExtent (the_same is) (integer_object int.Int)
object_type es h (word.Pointer ∷ ws) sized e is =
    subst IsObjectExtent (the_same is) (scalar_object 8 refl (omega arith))
object_type es h (word.Array count bytes ∷ ws) sized e is =
    array_object bytes (extent_of es ws) e (λ x. aligned_type es h ws x) sized is
object_type es h (word.OpenArray ∷ ws) sized e is = no_value e _ is
object_type es h (word.Structure n ∷ ws) sized e is = h n e is
object_type es h (word.Const ∷ ws) sized e is = object_type es h ws sized e is
object_type es h (word.Takes ∷ ws) sized e is = no_value e _ is
object_type es h (word.Gives ∷ ws) sized e is = no_value e _ is

object_is : (o : Option TypeExtent) (e : TypeExtent) → o ≡ Some e → is_size e.size ≡ true
    → object_of o ≡ target.Object e.size
object_is o e is sized = ap object_of is ∙ ap (λ b. if b then target.Object e.size else target.Incomplete) sized

pub target_is : (es : List (Option TypeExtent)) (ws : List TypeWord) (e : TypeExtent) → extent_of es ws ≡ Some e
    → is_size e.size ≡ true → target_of es ws ≡ target.Object e.size
unfolding extent_of
target_is es [] e is sized = no_value e _ is
target_is es (word.Void ∷ ws) e is sized = no_value e _ is
target_is es (word.Integer t ∷ ws) e is sized = object_is (extent_of es (word.Integer t ∷ ws)) e is sized
target_is es (word.Enumeration n ∷ ws) e is sized = object_is (extent_of es (word.Enumeration n ∷ ws)) e is sized
target_is es (word.Pointer ∷ ws) e is sized = object_is (extent_of es (word.Pointer ∷ ws)) e is sized
target_is es (word.Array c b ∷ ws) e is sized = object_is (extent_of es (word.Array c b ∷ ws)) e is sized
target_is es (word.OpenArray ∷ ws) e is sized = no_value e _ is
target_is es (word.Structure n ∷ ws) e is sized = object_is (extent_of es (word.Structure n ∷ ws)) e is sized
target_is es (word.Const ∷ ws) e is sized = target_is es ws e is sized
target_is es (word.Takes ∷ ws) e is sized = no_value e _ is
target_is es (word.Gives ∷ ws) e is sized = no_value e _ is

-- what a declarator makes of a type, without a fault

pub record NoFaults (f : TypeFaults) : Type 0 where
  pub complete : f.incomplete ≡ false
  pub placed : f.misplaced ≡ false
  pub counted : f.miscounted ≡ false
  pub small : f.large ≡ false

no_faults_by : (a b c d : Bool) → rule_of (record { incomplete = a; misplaced = b; miscounted = c; large = d }) ≡ None
    → NoFaults (record { incomplete = a; misplaced = b; miscounted = c; large = d })
no_faults_by true b c d e = absurd cc
no_faults_by false true c d e = absurd cc
no_faults_by false false true d e = absurd cc
no_faults_by false false false true e = absurd cc
no_faults_by false false false false e = record { complete = refl; placed = refl; counted = refl; small = refl }

pub without_faults : (f : TypeFaults) → rule_of f ≡ None → NoFaults f
without_faults f e = no_faults_by f.incomplete f.misplaced f.miscounted f.large e

pub first_faultless : (a b : TypeFaults) → NoFaults (and_faults a b) → NoFaults a
first_faultless a b h = record {
  complete = neither_left a.incomplete b.incomplete h.complete;
  placed = neither_left a.misplaced b.misplaced h.placed;
  counted = neither_left a.miscounted b.miscounted h.counted;
  small = neither_left a.large b.large h.small;
}

pub second_faultless : (a b : TypeFaults) → NoFaults (and_faults a b) → NoFaults b
second_faultless a b h = record {
  complete = neither_right a.incomplete b.incomplete h.complete;
  placed = neither_right a.misplaced b.misplaced h.placed;
  counted = neither_right a.miscounted b.miscounted h.counted;
  small = neither_right a.large b.large h.small;
}

-- an element that is no function and of no incomplete type is complete
known_by : (of_function : Bool) (o : Option TypeExtent) → (not of_function && is_none o) ≡ false → of_function ≡ false
    → (e : TypeExtent) × (o ≡ Some e)
known_by true o e g = absurd cc
known_by false None e g = absurd cc
known_by false (Some x) e g = (x, refl)

pub element_known : (es : List (Option TypeExtent)) (type : List TypeWord) → NoFaults (element_faults es type)
    → (e : TypeExtent) × (extent_of es type ≡ Some e)
element_known es type h = known_by (is_function type) (extent_of es type) h.complete h.placed

pub positive_product : (a b : ℕ) → 1 ≤ a → 1 ≤ b → 1 ≤ a * b
positive_product (suc a) (suc b) low high = grind arith
positive_product zero b low high = absurd (omega arith)
positive_product (suc a) zero low high = absurd (omega arith)

capped_low : (n : ℕ) → 1 ≤ n → 1 ≤ capped n
capped_low n low = omega arith

words_sized : (count : ℕ) (e : TypeExtent) → 0 < count → IsObjectExtent e
    → is_large (array_word count e) ≡ false → is_sized_array (array_word count e ∷ []) ≡ true
unfolding array_size
words_sized count e some is small =
    is_size_of (capped (count * e.size))
    (capped_low (count * e.size) (positive_product count e.size some (size_low e.size is.size)))
    (ltb-false (2 ^ 32) (capped (count * e.size)) small)

pub array_sized : (es : List (Option TypeExtent)) (count : ℕ) (type : List TypeWord) (o : Option TypeExtent)
    → 0 < count → ((e : TypeExtent) → o ≡ Some e → IsObjectExtent e) → (e : TypeExtent) → o ≡ Some e
    → is_large (array_of count o) ≡ false → is_sized_array (array_of count o ∷ type) ≡ true
array_sized es count type None some h e is small = no_value e _ is
array_sized es count type (Some x) some h e is small = words_sized count x some (h x refl) small

function_sized : (ps : List (List TypeWord)) (type : List TypeWord)
    → is_sized_array (function_words ps type) ≡ true
function_sized [] type = refl
function_sized (p ∷ ps) type = refl

pointer_sized : (b : Bool) (type : List TypeWord) → is_sized_array (pointer_words b type) ≡ true
pointer_sized true type = refl
pointer_sized false type = refl

derived_sized : (es : List (Option TypeExtent)) → HasSizes es → (d : Derivation) → IsCounted d → (b : BuiltType)
    → (NoFaults b.faults → is_sized_array b.type ≡ true) → NoFaults (derived es d b).faults
    → is_sized_array (derived es d b).type ≡ true
derived_sized es h (to_pointer is_const) counted b sized good = pointer_sized is_const b.type
derived_sized es h to_open_array counted b sized good =
    sized (first_faultless b.faults (element_faults es b.type) good)
derived_sized es h (to_array None) counted b sized good =
    absurd (true≢false
    (second_faultless b.faults (record (element_faults es b.type) { miscounted = true }) good).counted)
derived_sized es h (to_array (Some count)) counted b sized good =
    let w = array_of count (extent_of es b.type) in
    let own = second_faultless b.faults (record (element_faults es b.type) { large = is_large w }) good in
    let sound = sized (first_faultless b.faults (record (element_faults es b.type) { large = is_large w }) good) in
    let known = known_by (is_function b.type) (extent_of es b.type) own.complete own.placed in
    array_sized es count b.type (extent_of es b.type) counted (λ e. object_type es h b.type sound e) known.0 known.1
    own.small
derived_sized es h (to_function ps) counted b sized good = function_sized ps b.type

pub built_sized : (es : List (Option TypeExtent)) → HasSizes es → (base : List TypeWord)
    → is_sized_array base ≡ true → (ds : List Derivation) → AreCounted ds → NoFaults (built es base ds).faults
    → is_sized_array (built es base ds).type ≡ true
built_sized es h base sized [] counted good = sized
built_sized es h base sized (d ∷ ds) counted good =
    derived_sized es h d counted.0 (built es base ds) (built_sized es h base sized ds counted.1) good

-- what specifiers name

constant_sized : (type : List TypeWord) → is_sized_array type ≡ true → is_sized_array (constant type) ≡ true
constant_sized [] e = refl
constant_sized (word.Void ∷ ws) e = refl
constant_sized (word.Integer t ∷ ws) e = refl
constant_sized (word.Enumeration n ∷ ws) e = refl
constant_sized (word.Pointer ∷ ws) e = refl
constant_sized (word.Array count bytes ∷ ws) e = e
constant_sized (word.OpenArray ∷ ws) e = constant_sized ws e
constant_sized (word.Structure n ∷ ws) e = refl
constant_sized (word.Const ∷ ws) e = e
constant_sized (word.Takes ∷ ws) e = refl
constant_sized (word.Gives ∷ ws) e = refl

qualified_sized : (b : Bool) (type : List TypeWord) → is_sized_array type ≡ true
    → is_sized_array (qualified b type) ≡ true
qualified_sized true type e = constant_sized type e
qualified_sized false type e = e

basic_sized : (z : Size) (g : Sign) → is_sized_array (basic_of z g ∷ []) ≡ true
basic_sized size.Void g = refl
basic_sized size.Absent g = refl
basic_sized size.Char g = refl
basic_sized size.Short g = refl
basic_sized size.Long g = refl
basic_sized size.LongLong g = refl

named_sized : (o : Option (List TypeWord)) (k : Specified) → HasType o → is_sized_array (type_or_basic o k) ≡ true
named_sized None k h = basic_sized k.size k.sign
named_sized (Some type) k h = h

pub specified_sized : (line : ℕ) (g : Gathered) → HasType g.type → is_sized_array (specified line g).type ≡ true
specified_sized line g h =
    qualified_sized g.keywords.is_const (type_or_basic g.type g.keywords) (named_sized g.type g.keywords h)

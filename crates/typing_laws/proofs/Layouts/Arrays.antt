-- Arrays have the bytes of their elements in the types that declarators and specifiers make, and keep them where more
-- structures are complete (C99 6.7.5.2).
use Rattle.std.proofs.Common.{◌≡◌, ℕ, Bool, true, false, ◌&&◌, refl, ap, ◌∙◌, List, [], ◌∷◌, Option, Some, None}
use Rattle.std.proofs.lemmas.Bool.{eq-eqb, true≢false}
use Rattle.c_tree.specs.declared.c_type.TypeWord.{TypeWord}
use Rattle.c_tree.specs.declared.c_type.TypeWord.TheVariants as word
use Rattle.c_tree.specs.Arrays.{has_bytes}
use Rattle.c_tree.specs.Extents.{TypeExtent, extent_of}
use Rattle.c_tree.specs.Layout.{array_size}
use Rattle.c_tree.specs.declared.member.Member.{Member}
use Rattle.c_place_rules.specs.Places.{member_view}
use Rattle.c_place_rules.specs.Targets.{constant, qualified}
use Rattle.c_place_laws.proofs.Sizes.{constant_extent}
use Rattle.c_declarators.specs.Derivations.{BuiltType, Derivation, array_of, built, derived, element_faults}
use Rattle.c_declarators.specs.Derivations.{function_words, is_large, pointer_words, to_array, to_function}
use Rattle.c_declarators.specs.Derivations.{to_open_array, to_pointer}
use Rattle.c_specifiers.specs.declared.specified.Sign.{Sign}
use Rattle.c_specifiers.specs.declared.specified.Size.{Size}
use Rattle.c_specifiers.specs.declared.specified.Size.TheVariants as size
use Rattle.c_specifiers.specs.declared.specified.Specified.{Specified}
use Rattle.c_specifiers.specs.Specified.{basic_of}
use Rattle.c_scope.specs.declared.meaning.Tag.{Tag}
use Rattle.c_scope.specs.declared.meaning.Tag.TheVariants as tag
use Rattle.c_declarator_typing.specs.Specifications.{Gathered, specified, tag_type, type_or_basic}
use Rattle.typing_laws.specs.Validity.More.{AreMore}
use Rattle.typing_laws.proofs.Validity.Common.{both_true}
use Rattle.typing_laws.proofs.Validity.Kept.{extent_kept}
use Rattle.typing_laws.proofs.Declarators.Tags.{member_kept}
use Rattle.typing_laws.proofs.Declarators.Types.{NoFaults, element_known, first_faultless, second_faultless}
use Rattle.typing_laws.specs.Layouts.Listed.{IsListed, has_array_bytes}

-- where more structures are complete

pub bytes_kept : (count bytes : ℕ) (o more : Option TypeExtent) → ((e : TypeExtent) → o ≡ Some e → more ≡ Some e)
    → has_bytes count bytes o ≡ true → has_bytes count bytes more ≡ true
bytes_kept count bytes None more h e = absurd cc
bytes_kept count bytes (Some x) more h e = ap (has_bytes count bytes) (h x refl) ∙ e

pub arrays_kept : (es more : List (Option TypeExtent)) → AreMore es more → (ws : List TypeWord)
    → has_array_bytes es ws ≡ true → has_array_bytes more ws ≡ true
arrays_kept es more h [] e = e
arrays_kept es more h (word.Void ∷ ws) e = e
arrays_kept es more h (word.Integer t ∷ ws) e = e
arrays_kept es more h (word.Enumeration n ∷ ws) e = e
arrays_kept es more h (word.Pointer ∷ ws) e = e
arrays_kept es more h (word.Array count bytes ∷ ws) e =
    both_true (has_bytes count bytes (extent_of es ws)) (has_array_bytes es ws)
    (has_bytes count bytes (extent_of more ws)) (has_array_bytes more ws)
    (bytes_kept count bytes (extent_of es ws) (extent_of more ws) (λ x. extent_kept es more h ws x))
    (arrays_kept es more h ws) e
arrays_kept es more h (word.OpenArray ∷ ws) e = arrays_kept es more h ws e
arrays_kept es more h (word.Structure n ∷ ws) e = e
arrays_kept es more h (word.Const ∷ ws) e = arrays_kept es more h ws e
arrays_kept es more h (word.Takes ∷ ws) e = e
arrays_kept es more h (word.Gives ∷ ws) e = e

pub listed_kept : (es more : List (Option TypeExtent)) → AreMore es more → (n : ℕ) (m : Member)
    → IsListed es n m → IsListed more n m
listed_kept es more h n m is = record {
  member = member_kept es more h n (member_view m) is.member;
  arrays = arrays_kept es more h m.c_type is.arrays;
}

-- what declarators make

pub array_arrays : (es : List (Option TypeExtent)) (count : ℕ) (type : List TypeWord) (o : Option TypeExtent)
    → extent_of es type ≡ o → (e : TypeExtent) → o ≡ Some e → has_array_bytes es type ≡ true
    → has_array_bytes es (array_of count o ∷ type) ≡ true
array_arrays es count type None is e known arrays = absurd cc
array_arrays es count type (Some x) is e known arrays =
    ap (λ o. has_bytes count (array_size count x.size) o && has_array_bytes es type) is
    ∙ ap (λ b. b && has_array_bytes es type) (eq-eqb (array_size count x.size) (array_size count x.size) refl) ∙ arrays

pointer_arrays : (es : List (Option TypeExtent)) (b : Bool) (type : List TypeWord)
    → has_array_bytes es (pointer_words b type) ≡ true
pointer_arrays es true type = refl
pointer_arrays es false type = refl

function_arrays : (es : List (Option TypeExtent)) (ps : List (List TypeWord)) (type : List TypeWord)
    → has_array_bytes es (function_words ps type) ≡ true
function_arrays es [] type = refl
function_arrays es (p ∷ ps) type = refl

derived_arrays : (es : List (Option TypeExtent)) (d : Derivation) (b : BuiltType)
    → (NoFaults b.faults → has_array_bytes es b.type ≡ true) → NoFaults (derived es d b).faults
    → has_array_bytes es (derived es d b).type ≡ true
derived_arrays es (to_pointer is_const) b h good = pointer_arrays es is_const b.type
derived_arrays es to_open_array b h good = h (first_faultless b.faults (element_faults es b.type) good)
derived_arrays es (to_array None) b h good =
    absurd (true≢false
    (second_faultless b.faults (record (element_faults es b.type) { miscounted = true }) good).counted)
derived_arrays es (to_array (Some count)) b h good =
    let w = array_of count (extent_of es b.type) in
    let own = second_faultless b.faults (record (element_faults es b.type) { large = is_large w }) good in
    let known = element_known es b.type (record {
      complete = own.complete;
      placed = own.placed;
      counted = refl;
      small = refl;
    }) in
    array_arrays es count b.type (extent_of es b.type) refl known.0 known.1
    (h (first_faultless b.faults (record (element_faults es b.type) { large = is_large w }) good))
derived_arrays es (to_function ps) b h good = function_arrays es ps b.type

-- the type of a declarator without faults
pub built_arrays : (es : List (Option TypeExtent)) (base : List TypeWord) → has_array_bytes es base ≡ true
    → (ds : List Derivation) → NoFaults (built es base ds).faults → has_array_bytes es (built es base ds).type ≡ true
built_arrays es base arrays [] good = arrays
built_arrays es base arrays (d ∷ ds) good =
    derived_arrays es d (built es base ds) (built_arrays es base arrays ds) good

-- what specifiers name

constant_arrays : (es : List (Option TypeExtent)) (ws : List TypeWord)
    → has_array_bytes es (constant ws) ≡ has_array_bytes es ws
constant_arrays es [] = refl
constant_arrays es (word.Void ∷ ws) = refl
constant_arrays es (word.Integer t ∷ ws) = refl
constant_arrays es (word.Enumeration n ∷ ws) = refl
constant_arrays es (word.Pointer ∷ ws) = refl
constant_arrays es (word.Array count bytes ∷ ws) =
    ap (λ o. has_bytes count bytes o && has_array_bytes es (constant ws)) (constant_extent es ws)
    ∙ ap (λ b. has_bytes count bytes (extent_of es ws) && b) (constant_arrays es ws)
constant_arrays es (word.OpenArray ∷ ws) = constant_arrays es ws
constant_arrays es (word.Structure n ∷ ws) = refl
constant_arrays es (word.Const ∷ ws) = refl
constant_arrays es (word.Takes ∷ ws) = refl
constant_arrays es (word.Gives ∷ ws) = refl

qualified_arrays : (es : List (Option TypeExtent)) (b : Bool) (ws : List TypeWord)
    → has_array_bytes es (qualified b ws) ≡ has_array_bytes es ws
qualified_arrays es true ws = constant_arrays es ws
qualified_arrays es false ws = refl

basic_arrays : (es : List (Option TypeExtent)) (z : Size) (g : Sign)
    → has_array_bytes es (basic_of z g ∷ []) ≡ true
basic_arrays es size.Void g = refl
basic_arrays es size.Absent g = refl
basic_arrays es size.Char g = refl
basic_arrays es size.Short g = refl
basic_arrays es size.Long g = refl
basic_arrays es size.LongLong g = refl

abbrev pub HasArraysIf : List (Option TypeExtent) → Option (List TypeWord) → Type 0
HasArraysIf es None = Unit {0}
HasArraysIf es (Some type) = has_array_bytes es type ≡ true

named_arrays : (es : List (Option TypeExtent)) (o : Option (List TypeWord)) (k : Specified) → HasArraysIf es o
    → has_array_bytes es (type_or_basic o k) ≡ true
named_arrays es None k h = basic_arrays es k.size k.sign
named_arrays es (Some type) k h = h

pub specified_arrays : (es : List (Option TypeExtent)) (line : ℕ) (g : Gathered) → HasArraysIf es g.type
    → has_array_bytes es (specified line g).type ≡ true
specified_arrays es line g h =
    qualified_arrays es g.keywords.is_const (type_or_basic g.type g.keywords)
    ∙ named_arrays es g.type g.keywords h

pub tag_arrays : (es : List (Option TypeExtent)) (t : Tag) → has_array_bytes es (tag_type t) ≡ true
tag_arrays es (tag.Structure n) = refl
tag_arrays es (tag.Union n) = refl
tag_arrays es (tag.Enumeration n) = refl

-- Types that specifiers and declarators make are spelled (C99 6.7.2, 6.7.5).
use Rattle.std.proofs.Common.{◌≡◌, ℕ, Bool, true, false, ◌&&◌, ◌||◌, refl, ap, ◌∙◌, List, [], ◌∷◌}
use Rattle.std.proofs.Common.{Option, Some, None}
use Rattle.std.specs.Prelude.{not}
use Rattle.std.proofs.lemmas.Bool.{and_from, eq-eqb, true≢false}
use Rattle.c_tree.specs.declared.c_type.TypeWord.{TypeWord}
use Rattle.c_tree.specs.declared.c_type.TypeWord.TheVariants as word
use Rattle.c_tree.specs.Arrays.{has_bytes}
use Rattle.c_tree.specs.Extents.{TypeExtent, extent_of}
use Rattle.c_tree.specs.Layout.{array_size}
use Rattle.c_rules.specs.Types.{unqualified}
use Rattle.c_declarators.specs.Adjusted.{adjusted}
use Rattle.c_declarators.specs.Derivations.{BuiltType, Derivation, array_of, built, derived, element_faults}
use Rattle.c_declarators.specs.Derivations.{function_words, is_array, is_large, pointer_words, to_array, to_function}
use Rattle.c_declarators.specs.Derivations.{to_open_array, to_pointer}
use Rattle.c_declarators.specs.Faults.{no_faults}
use Rattle.c_scope.specs.Declaring.{is_function}
use Rattle.c_specifiers.specs.declared.specified.Sign.{Sign}
use Rattle.c_specifiers.specs.declared.specified.Size.{Size}
use Rattle.c_specifiers.specs.declared.specified.Size.TheVariants as size
use Rattle.c_specifiers.specs.declared.specified.Specified.{Specified}
use Rattle.c_specifiers.specs.Specified.{basic_of}
use Rattle.c_declarator_typing.specs.Specifications.{Gathered, specified, type_or_basic}
use Rattle.typing_laws.proofs.Validity.Common.{second as right}
use Rattle.typing_laws.specs.Validity.Steps.{Structures}
use Rattle.typing_laws.proofs.Declarators.Types.{NoFaults, element_known, first_faultless, second_faultless}
use Rattle.typing_laws.specs.SpelledTypes.Spelled.{fits, is_spelled}
use Rattle.typing_laws.proofs.SpelledTypes.Words.{qualified_spelled, spelled_append}
use Rattle.typing_laws.specs.Types.Typed.{AreSpelled, Each, IsDerived, IsSpelled, IsSpelledIf, OfSpecification}

pointer_spelled : (es : Structures) (b : Bool) (type : List TypeWord) → IsSpelled es type
    → IsSpelled es (pointer_words b type)
pointer_spelled es true type h = h
pointer_spelled es false type h = h

functions_spelled : (es : Structures) (ps : List (List TypeWord)) (type : List TypeWord) → AreSpelled es ps
    → IsSpelled es type → fits es word.Gives type ≡ true → IsSpelled es (function_words ps type)
functions_spelled es [] type h is good = and_from (fits es word.Gives type) (is_spelled es 1 type) good is
functions_spelled es (p ∷ ps) type h is good =
    spelled_append es 1 1 2 refl p (function_words ps type) h.0 (functions_spelled es ps type h.1 is good)

neither : (a b : Bool) → (a || b) ≡ false → (not a && not b) ≡ true
neither true b e = absurd cc
neither false true e = absurd cc
neither false false e = refl

array_fits : (es : Structures) (count : ℕ) (type : List TypeWord) (o : Option TypeExtent) → extent_of es type ≡ o
    → (e : TypeExtent) → o ≡ Some e → fits es (array_of count o) type ≡ true
array_fits es count type None g e is = absurd cc
array_fits es count type (Some x) g e is =
    ap (has_bytes count (array_size count x.size)) g ∙ eq-eqb (array_size count x.size) (array_size count x.size) refl

array_still : (count : ℕ) (o : Option TypeExtent) (es : Structures) (type : List TypeWord)
    → fits es (array_of count o) type ≡ true → IsSpelled es type → IsSpelled es (array_of count o ∷ type)
array_still count None es type e h = and_from (fits es (array_of count None) type) (is_spelled es 1 type) e h
array_still count (Some x) es type e h = and_from (fits es (array_of count (Some x)) type) (is_spelled es 1 type) e h

-- an array of a complete type
pub array_spelled : (es : Structures) (count : ℕ) (type : List TypeWord) → IsSpelled es type → (e : TypeExtent)
    → extent_of es type ≡ Some e → IsSpelled es (array_of count (extent_of es type) ∷ type)
array_spelled es count type h e is =
    array_still count (extent_of es type) es type (array_fits es count type (extent_of es type) refl e is) h

derived_spelled : (es : Structures) (d : Derivation) → IsDerived es d → (b : BuiltType)
    → (NoFaults b.faults → IsSpelled es b.type) → NoFaults (derived es d b).faults → IsSpelled es (derived es d b).type
derived_spelled es (to_pointer c) is b h good = pointer_spelled es c b.type (h good)
derived_spelled es to_open_array is b h good = h (first_faultless b.faults (element_faults es b.type) good)
derived_spelled es (to_array None) is b h good =
    absurd (true≢false
    (second_faultless b.faults (record (element_faults es b.type) { miscounted = true }) good).counted)
derived_spelled es (to_array (Some count)) is b h good =
    let w = array_of count (extent_of es b.type) in
    let own = second_faultless b.faults (record (element_faults es b.type) { large = is_large w }) good in
    let sound = h (first_faultless b.faults (record (element_faults es b.type) { large = is_large w }) good) in
    let known = element_known es b.type
    (record { complete = own.complete; placed = own.placed; counted = refl; small = refl }) in
    array_spelled es count b.type sound known.0 known.1
derived_spelled es (to_function ps) is b h good =
    let faults = record no_faults { misplaced = is_function (unqualified b.type) || is_array b.type } in
    functions_spelled es ps b.type is (h (first_faultless b.faults faults good))
    (neither (is_function (unqualified b.type)) (is_array b.type) (second_faultless b.faults faults good).placed)

pub built_spelled : (es : Structures) (base : List TypeWord) → IsSpelled es base → (ds : List Derivation)
    → Each (IsDerived es) ds → NoFaults (built es base ds).faults → IsSpelled es (built es base ds).type
built_spelled es base h [] is good = h
built_spelled es base h (d ∷ ds) is good =
    derived_spelled es d is.0 (built es base ds) (built_spelled es base h ds is.1) good

pub adjusted_spelled : (es : Structures) (type : List TypeWord) → IsSpelled es type → IsSpelled es (adjusted type)
adjusted_spelled es [] h = h
adjusted_spelled es (word.Array c b ∷ ws) h = right (fits es (word.Array c b) ws) _ h
adjusted_spelled es (word.OpenArray ∷ ws) h = h
adjusted_spelled es (word.Takes ∷ ws) h = h
adjusted_spelled es (word.Gives ∷ ws) h = h
adjusted_spelled es (word.Void ∷ ws) h = h
adjusted_spelled es (word.Integer t ∷ ws) h = h
adjusted_spelled es (word.Enumeration n ∷ ws) h = h
adjusted_spelled es (word.Pointer ∷ ws) h = h
adjusted_spelled es (word.Structure n ∷ ws) h = h
adjusted_spelled es (word.Const ∷ ws) h = h

-- what specifiers name

basic_spelled : (es : Structures) (z : Size) (g : Sign) → IsSpelled es (basic_of z g ∷ [])
basic_spelled es size.Void g = refl
basic_spelled es size.Absent g = refl
basic_spelled es size.Char g = refl
basic_spelled es size.Short g = refl
basic_spelled es size.Long g = refl
basic_spelled es size.LongLong g = refl

named_spelled : (es : Structures) (o : Option (List TypeWord)) (k : Specified) → IsSpelledIf es o
    → IsSpelled es (type_or_basic o k)
named_spelled es None k h = basic_spelled es k.size k.sign
named_spelled es (Some type) k h = h

pub specified_spelled : (es : Structures) (line : ℕ) (g : Gathered) → IsSpelledIf es g.type
    → OfSpecification es (specified line g)
specified_spelled es line g h =
    qualified_spelled es g.keywords.is_const (type_or_basic g.type g.keywords) (named_spelled es g.type g.keywords h)

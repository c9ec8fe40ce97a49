-- The composite type of two types whose arrays have the bytes of their elements is such a type too (C99 6.2.7).
use Rattle.std.proofs.Common.{◌≡◌, ℕ, true, refl, sym, ap, ◌∙◌, subst, List, [], ◌∷◌, Option}
use Rattle.std.proofs.Common.{Some, None, arith}
use Rattle.std.specs.Prelude.{option_map}
use Rattle.c_tree.specs.declared.c_type.TypeWord.{TypeWord}
use Rattle.c_tree.specs.declared.c_type.TypeWord.TheVariants as word
use Rattle.c_tree.specs.Arrays.{has_bytes}
use Rattle.c_tree.specs.Extents.{TypeExtent, array_extent, capped, extent_of}
use Rattle.c_tree.specs.Kinds.{is_size}
use Rattle.c_scope.specs.Composite.{composite}
use Rattle.c_scope.specs.Environment.{type_or}
use Rattle.c_scope.specs.Declaring.{sized_by_initializer}
use Rattle.typing_laws.specs.Validity.Sound.{is_sized_array}
use Rattle.typing_laws.proofs.Validity.Common.{both_true, second}
use Rattle.typing_laws.proofs.Validity.Moved.{size_high}
use Rattle.typing_laws.specs.Declarations.Binding.{IsCompleteFor}
use Rattle.typing_laws.specs.Layouts.Listed.{HasSizes, has_array_bytes}
use Rattle.typing_laws.proofs.Layouts.Arrays.{bytes_kept}
use Rattle.typing_laws.proofs.SpelledTypes.Composites.{IsJoint, alike, first_sized, joins, second_sized}
use Rattle.typing_laws.proofs.SpelledTypes.Composites.{composite_first, composite_nothing, composite_second}
use Rattle.typing_laws.proofs.SpelledTypes.Composites.{extent_behind, none_first, none_second}

-- a complete type stays complete

abbrev Completes : List (Option TypeExtent) → (before behind : List TypeWord) → Type 0
Completes es s c = (e : TypeExtent) → extent_of es s ≡ Some e → extent_of es c ≡ Some e

-- its arrays have the bytes of their elements

array_arrays : (es : List (Option TypeExtent)) (count bytes : ℕ) (s c : List TypeWord) → Completes es s c
    → (has_array_bytes es s ≡ true → has_array_bytes es c ≡ true)
    → has_array_bytes es (word.Array count bytes ∷ s) ≡ true → has_array_bytes es (word.Array count bytes ∷ c) ≡ true
array_arrays es count bytes s c h g is =
    both_true (has_bytes count bytes (extent_of es s)) (has_array_bytes es s)
    (has_bytes count bytes (extent_of es c)) (has_array_bytes es c)
    (bytes_kept count bytes (extent_of es s) (extent_of es c) h) g is

head_arrays : (es : List (Option TypeExtent)) (v : TypeWord) (s t c : List TypeWord) → Completes es s c
    → (has_array_bytes es s ≡ true → has_array_bytes es t ≡ true → has_array_bytes es c ≡ true)
    → has_array_bytes es (v ∷ s) ≡ true → has_array_bytes es (v ∷ t) ≡ true → has_array_bytes es (v ∷ c) ≡ true
head_arrays es word.Void s t c h g a b = refl
head_arrays es (word.Integer i) s t c h g a b = refl
head_arrays es (word.Enumeration n) s t c h g a b = refl
head_arrays es word.Pointer s t c h g a b = refl
head_arrays es (word.Array count bytes) s t c h g a b =
    array_arrays es count bytes s c h
    (λ a. g a (second (has_bytes count bytes (extent_of es t)) (has_array_bytes es t) b)) a
head_arrays es word.OpenArray s t c h g a b = g a b
head_arrays es (word.Structure n) s t c h g a b = refl
head_arrays es word.Const s t c h g a b = g a b
head_arrays es word.Takes s t c h g a b = refl
head_arrays es word.Gives s t c h g a b = refl

arrays_by : (es : List (Option TypeExtent)) (v w x : TypeWord) (s t c : List TypeWord) → Completes es s c
    → Completes es t c
    → (has_array_bytes es s ≡ true → has_array_bytes es t ≡ true → has_array_bytes es c ≡ true) → IsJoint v w x
    → has_array_bytes es (v ∷ s) ≡ true → has_array_bytes es (w ∷ t) ≡ true → has_array_bytes es (x ∷ c) ≡ true
arrays_by es v w x s t c h k g (alike e is) a b =
    subst (λ x. has_array_bytes es (x ∷ c) ≡ true) (sym is)
    (head_arrays es v s t c h g a (subst (λ w. has_array_bytes es (w ∷ t) ≡ true) (sym e) b))
arrays_by es v w x s t c h k g (first_sized n bytes i e is) a b =
    subst (λ x. has_array_bytes es (x ∷ c) ≡ true) (sym (is ∙ i))
    (array_arrays es n bytes s c h (λ a. g a (subst (λ w. has_array_bytes es (w ∷ t) ≡ true) e b))
    (subst (λ v. has_array_bytes es (v ∷ s) ≡ true) i a))
arrays_by es v w x s t c h k g (second_sized n bytes e i is) a b =
    subst (λ x. has_array_bytes es (x ∷ c) ≡ true) (sym (is ∙ i))
    (array_arrays es n bytes t c k (g (subst (λ v. has_array_bytes es (v ∷ s) ≡ true) e a))
    (subst (λ w. has_array_bytes es (w ∷ t) ≡ true) i b))

composite_arrays : (es : List (Option TypeExtent)) (s t c : List TypeWord) → composite s t ≡ Some c
    → has_array_bytes es s ≡ true → has_array_bytes es t ≡ true → has_array_bytes es c ≡ true
composite_arrays es [] [] c is a b = subst (λ c. has_array_bytes es c ≡ true) (sym (composite_nothing c is)) a
composite_arrays es [] (w ∷ t) c is a b = none_first w t c _ is
composite_arrays es (v ∷ s) [] c is a b = none_second v s c _ is
composite_arrays es (v ∷ s) (w ∷ t) c is a b =
    let j = joins v s w t c is in
    subst (λ c. has_array_bytes es c ≡ true) (sym j.is)
    (arrays_by es v w j.first s t j.rest (composite_first es s t j.rest j.behind)
    (composite_second es s t j.rest j.behind) (composite_arrays es s t j.rest j.behind) j.joint a b)

-- its arrays have from 1 to 2^32 bytes

head_sized : (v : TypeWord) (s t c : List TypeWord)
    → (is_sized_array s ≡ true → is_sized_array t ≡ true → is_sized_array c ≡ true)
    → is_sized_array (v ∷ s) ≡ true → is_sized_array (v ∷ t) ≡ true → is_sized_array (v ∷ c) ≡ true
head_sized word.Void s t c h a b = refl
head_sized (word.Integer i) s t c h a b = refl
head_sized (word.Enumeration n) s t c h a b = refl
head_sized word.Pointer s t c h a b = refl
head_sized (word.Array n z) s t c h a b = a
head_sized word.OpenArray s t c h a b = h a b
head_sized (word.Structure n) s t c h a b = refl
head_sized word.Const s t c h a b = h a b
head_sized word.Takes s t c h a b = refl
head_sized word.Gives s t c h a b = refl

joint_sized : (v w x : TypeWord) (s t c : List TypeWord) → IsJoint v w x
    → (is_sized_array s ≡ true → is_sized_array t ≡ true → is_sized_array c ≡ true)
    → is_sized_array (v ∷ s) ≡ true → is_sized_array (w ∷ t) ≡ true → is_sized_array (x ∷ c) ≡ true
joint_sized v w x s t c (alike e g) h a b =
    ap (λ z. is_sized_array (z ∷ c)) g
    ∙ head_sized v s t c h a (ap (λ z. is_sized_array (z ∷ t)) e ∙ b)
joint_sized v w x s t c (first_sized n z e g i) h a b =
    ap (λ y. is_sized_array (y ∷ c)) (i ∙ e) ∙ sym (ap (λ y. is_sized_array (y ∷ s)) e) ∙ a
joint_sized v w x s t c (second_sized n z e g i) h a b =
    ap (λ y. is_sized_array (y ∷ c)) (i ∙ g) ∙ sym (ap (λ y. is_sized_array (y ∷ t)) g) ∙ b

pub composite_sized : (s t c : List TypeWord) → composite s t ≡ Some c → is_sized_array s ≡ true
    → is_sized_array t ≡ true → is_sized_array c ≡ true
composite_sized [] [] c e a b = ap is_sized_array (composite_nothing c e)
composite_sized [] (w ∷ t) c e a b = none_first w t c _ e
composite_sized (v ∷ s) [] c e a b = none_second v s c _ e
composite_sized (v ∷ s) (w ∷ t) c e a b =
    let j = joins v s w t c e in
    ap is_sized_array j.is
    ∙ joint_sized v w j.first s t j.rest j.joint (composite_sized s t j.rest j.behind) a b

composite_by : (es : List (Option TypeExtent)) (s t : List TypeWord) (o : Option (List TypeWord))
    → composite s t ≡ o → HasSizes es s → HasSizes es t → HasSizes es (type_or o t)
composite_by es s t None is a b = b
composite_by es s t (Some c) is a b = record {
  arrays = composite_arrays es s t c is a.arrays b.arrays;
  sized = composite_sized s t c is a.sized b.sized;
}

pub joined_sizes : (es : List (Option TypeExtent)) (s t : List TypeWord) → HasSizes es s → HasSizes es t
    → HasSizes es (type_or (composite s t) t)
joined_sizes es s t a b = composite_by es s t (composite s t) refl a b

-- a type that is complete with its initializer stays so

sized_head : (es : List (Option TypeExtent)) (w : TypeWord) (t c : List TypeWord) → Completes es t c
    → Completes es (sized_by_initializer (w ∷ t)) (sized_by_initializer (w ∷ c))
sized_head es word.OpenArray t c h = h
sized_head es word.Void t c h = extent_behind es word.Void t c h
sized_head es (word.Integer i) t c h = extent_behind es (word.Integer i) t c h
sized_head es (word.Enumeration n) t c h = extent_behind es (word.Enumeration n) t c h
sized_head es word.Pointer t c h = extent_behind es word.Pointer t c h
sized_head es (word.Array count bytes) t c h = extent_behind es (word.Array count bytes) t c h
sized_head es (word.Structure n) t c h = extent_behind es (word.Structure n) t c h
sized_head es word.Const t c h = extent_behind es word.Const t c h
sized_head es word.Takes t c h = extent_behind es word.Takes t c h
sized_head es word.Gives t c h = extent_behind es word.Gives t c h

still_complete : (es : List (Option TypeExtent)) (t c : List TypeWord)
    → Completes es (sized_by_initializer t) (sized_by_initializer c) → IsCompleteFor es true t
    → IsCompleteFor es true c
still_complete es t c h is = record { extent = is.extent; is = h is.extent is.is; object = is.object }

capped_bytes : (n : ℕ) → is_size n ≡ true → capped n ≡ n
capped_bytes n e = let high = size_high n e in omega (arith, high)

array_complete : (es : List (Option TypeExtent)) (count bytes : ℕ) (t c : List TypeWord) → Completes es t c
    → is_size bytes ≡ true → IsCompleteFor es true (word.OpenArray ∷ t)
    → IsCompleteFor es true (word.Array count bytes ∷ c)
unfolding extent_of
array_complete es count bytes t c h sized is = record {
  extent = array_extent bytes is.extent;
  is = ap (option_map (array_extent bytes)) (h is.extent is.is);
  object = record {
    size = ap is_size (capped_bytes bytes sized) ∙ sized;
    least = is.object.least;
    greatest = is.object.greatest;
  };
}

complete_joint : (es : List (Option TypeExtent)) (v w x : TypeWord) (s t c : List TypeWord) → Completes es t c
    → is_sized_array (v ∷ s) ≡ true → IsJoint v w x → IsCompleteFor es true (w ∷ t) → IsCompleteFor es true (x ∷ c)
complete_joint es v w x s t c h sized (alike e at) is =
    subst (λ x. IsCompleteFor es true (x ∷ c)) (sym (at ∙ e))
    (still_complete es (w ∷ t) (w ∷ c) (sized_head es w t c h) is)
complete_joint es v w x s t c h sized (first_sized n bytes i e at) is =
    subst (λ x. IsCompleteFor es true (x ∷ c)) (sym (at ∙ i))
    (array_complete es n bytes t c h (subst (λ v. is_sized_array (v ∷ s) ≡ true) i sized)
    (subst (λ w. IsCompleteFor es true (w ∷ t)) e is))
complete_joint es v w x s t c h sized (second_sized n bytes e i at) is =
    subst (λ x. IsCompleteFor es true (x ∷ c)) (sym at)
    (still_complete es (w ∷ t) (w ∷ c) (sized_head es w t c h) is)

composite_complete : (es : List (Option TypeExtent)) (s t c : List TypeWord) → composite s t ≡ Some c
    → is_sized_array s ≡ true → IsCompleteFor es true t → IsCompleteFor es true c
composite_complete es [] [] c is sized h = subst (λ c. IsCompleteFor es true c) (sym (composite_nothing c is)) h
composite_complete es [] (w ∷ t) c is sized h = none_first w t c _ is
composite_complete es (v ∷ s) [] c is sized h = none_second v s c _ is
composite_complete es (v ∷ s) (w ∷ t) c is sized h =
    let j = joins v s w t c is in
    subst (λ c. IsCompleteFor es true c) (sym j.is)
    (complete_joint es v w j.first s t j.rest (composite_second es s t j.rest j.behind) sized j.joint h)

complete_or : (es : List (Option TypeExtent)) (s t : List TypeWord) (o : Option (List TypeWord)) → composite s t ≡ o
    → is_sized_array s ≡ true → IsCompleteFor es true t → IsCompleteFor es true (type_or o t)
complete_or es s t None is sized h = h
complete_or es s t (Some c) is sized h = composite_complete es s t c is sized h

pub joined_complete : (es : List (Option TypeExtent)) (s t : List TypeWord) → is_sized_array s ≡ true
    → IsCompleteFor es true t → IsCompleteFor es true (type_or (composite s t) t)
joined_complete es s t sized h = complete_or es s t (composite s t) refl sized h

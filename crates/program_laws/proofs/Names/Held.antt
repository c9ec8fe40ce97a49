-- Kinds of static objects, beside the types by which names declare them: these only lack sizes of arrays.
use Rattle.std.proofs.Common.{◌≡◌, inl, inr, ℕ, Bool, true, false, ◌||◌, ◌==◌, refl, sym, ap, ◌∙◌, subst}
use Rattle.std.proofs.Common.{List, [], ◌∷◌, Option, Some, None, if◌then◌else◌}
use Rattle.std.specs.Prelude.{is_none, option_map}
use Rattle.std.proofs.lemmas.Bool.{eq-eqb, eqb-true, or_left as or_first, or_right as or_second}
use Rattle.obj_memory.specs.declared.int_type.IntType.TheVariants.{Int}
use Rattle.obj_memory.specs.declared.value.Scalar.TheVariants.{Integer, Pointer}
use Rattle.obj_memory.specs.Integers.{size_of}
use Rattle.c_tree.specs.declared.c_type.TypeWord.{TypeWord}
use Rattle.c_tree.specs.declared.c_type.TypeWord.TheVariants as word
use Rattle.c_tree.specs.declared.expression.Kind.{Kind}
use Rattle.c_tree.specs.declared.expression.Kind.TheVariants as kind
use Rattle.c_tree.specs.Arrays.{has_bytes}
use Rattle.c_tree.specs.Extents.{TypeExtent, array_extent, capped, extent_of, scalar_extent, structure_extent}
use Rattle.c_tree.specs.Kinds.{has_size, integer, is_kind, is_size, pointer}
use Rattle.c_tree.specs.Valid.{is_named_as}
use Rattle.c_tree.specs.Valid as valid
use Rattle.c_rules.specs.declared.class.Target.TheVariants as target
use Rattle.c_rules.specs.Types.{object_of}
use Rattle.c_rules.proofs.FineUnary.{same_kind}
use Rattle.c_rules.proofs.SameTypes.{both_true}
use Rattle.c_place_laws.specs.FinePlaces.{IsSized, complete, unsized}
use Rattle.c_scope.specs.Composite.{composite}
use Rattle.typing_laws.proofs.Common.{conflict}
use Rattle.typing_laws.proofs.SpelledTypes.Composites.{IsJoint, alike, first_sized, second_sized}
use Rattle.typing_laws.proofs.SpelledTypes.Composites.{composite_nothing, joins, none_first, none_second}
use Rattle.c_declarators.specs.Derivations.{array_of}
use Rattle.c_operand_typing.specs.Primaries.{size_or_zero}
use Rattle.c_unit_typing.specs.Programs.{final_type}
use Rattle.typing_laws.specs.Validity.Names.{kind_among}
use Rattle.typing_laws.specs.Validity.Steps.{Structures}
use Rattle.typing_laws.specs.Layouts.Listed.{has_array_bytes}
use Rattle.program_laws.specs.Functions.Entities.{Fills, FillsWord}

-- The kind that a static object has where a type declares it: an array of a known size has its bytes, one of an unknown
-- size may have any number of bytes.
abbrev pub Holds : Structures → Kind → List TypeWord → Type 0
Holds es k [] = k ≡ kind.Void
Holds es k (word.Void ∷ ws) = k ≡ kind.Void
Holds es k (word.Integer t ∷ ws) = k ≡ integer t
Holds es k (word.Enumeration n ∷ ws) = k ≡ integer Int
Holds es k (word.Pointer ∷ ws) = k ≡ pointer
Holds es k (word.Array count bytes ∷ ws) = k ≡ kind.Array (capped bytes)
Holds es k (word.OpenArray ∷ ws) = (n : ℕ) × (k ≡ kind.Array n)
Holds es k (word.Structure n ∷ ws) = k ≡ kind.Structure (size_or_zero (structure_extent es n))
Holds es k (word.Const ∷ ws) = Holds es k ws
Holds es k (word.Takes ∷ ws) = k ≡ kind.Void
Holds es k (word.Gives ∷ ws) = k ≡ kind.Void

-- as far as it is an array of a known size
abbrev pub HoldsArray : Kind → List TypeWord → Type 0
HoldsArray k (word.Array count bytes ∷ ws) = k ≡ kind.Array (capped bytes)
HoldsArray k (word.Const ∷ ws) = HoldsArray k ws
HoldsArray k ws = Unit {0}

-- an object of such a type may be named by it

named_same : (k l : Kind) → k ≡ l → is_named_as k l ≡ true
named_same k l e = ap (is_named_as k) (sym e) ∙ or_first (is_kind k k) (valid.is_unsized k k) (same_kind k)

pub record IsNamed (es : Structures) (k : Kind) (type : List TypeWord) : Type 0 where
  pub named : is_named_as k (kind_among es type) ≡ true
  pub sized : IsSized es type (size_or_zero (extent_of es type))

object_if : (e : TypeExtent) → is_size e.size ≡ true → object_of (Some e) ≡ target.Object e.size
object_if e h = ap (λ b. if b then target.Object e.size else target.Incomplete) h

open_named : (m : ℕ) (k : Kind) → k ≡ kind.Array m → is_named_as k (kind.Array 0) ≡ true
open_named m k e =
    ap (λ z. is_named_as z (kind.Array 0)) e ∙ or_second (m == 0) (0 == 0) (eq-eqb 0 0 refl)

array_named : (es : Structures) (k : Kind) (n b : ℕ) (ws : List TypeWord) → k ≡ kind.Array (capped b)
    → has_size k ≡ true → (o : Option TypeExtent) → extent_of es ws ≡ o → IsNamed es k (word.Array n b ∷ ws)
unfolding extent_of
array_named es k n b ws e h None g = record {
  named = ap (λ z. is_named_as k (kind.Array (size_or_zero (option_map (array_extent b) z)))) g
      ∙ open_named (capped b) k e;
  sized = unsized (ap is_none g) (ap (λ z. size_or_zero (option_map (array_extent b) z)) g);
}
array_named es k n b ws e h (Some x) g = record {
  named = ap (λ z. is_named_as k (kind.Array (size_or_zero (option_map (array_extent b) z)))) g
      ∙ named_same k (kind.Array (capped b)) e;
  sized = complete (ap (λ z. object_of (option_map (array_extent b) z)) g
      ∙ object_if (array_extent b x) (ap has_size (sym e) ∙ h)
      ∙ ap (λ z. target.Object (size_or_zero (option_map (array_extent b) z))) (sym g));
}

structure_named : (es : Structures) (k : Kind) (n : ℕ) (ws : List TypeWord)
    → k ≡ kind.Structure (size_or_zero (structure_extent es n)) → has_size k ≡ true
    → (o : Option TypeExtent) → structure_extent es n ≡ o → IsSized es (word.Structure n ∷ ws)
    (size_or_zero (structure_extent es n))
unfolding extent_of
structure_named es k n ws e h None g =
    conflict (ap (λ z. is_size (size_or_zero z)) (sym g) ∙ ap has_size (sym e) ∙ h)
structure_named es k n ws e h (Some x) g =
    complete (ap object_of g
    ∙ object_if x (ap (λ z. is_size (size_or_zero z)) (sym g) ∙ ap has_size (sym e) ∙ h)
    ∙ ap (λ z. target.Object (size_or_zero z)) (sym g))

pub holds_named : (es : Structures) (k : Kind) (ws : List TypeWord) → Holds es k ws → has_size k ≡ true
    → IsNamed es k ws
unfolding extent_of
holds_named es k [] e h = conflict (ap has_size (sym e) ∙ h)
holds_named es k (word.Void ∷ ws) e h = conflict (ap has_size (sym e) ∙ h)
holds_named es k (word.Integer t ∷ ws) e h =
    record {
      named = named_same k (integer t) e;
      sized = complete (object_if (scalar_extent (size_of t)) (ap has_size (sym e) ∙ h));
    }
holds_named es k (word.Enumeration n ∷ ws) e h =
    record {
      named = named_same k (integer Int) e;
      sized = complete (object_if (scalar_extent (size_of Int)) (ap has_size (sym e) ∙ h));
    }
holds_named es k (word.Pointer ∷ ws) e h =
    record {
      named = named_same k pointer e;
      sized = complete (object_if (scalar_extent 8) (ap has_size (sym e) ∙ h));
    }
holds_named es k (word.Array n b ∷ ws) e h = array_named es k n b ws e h (extent_of es ws) refl
holds_named es k (word.OpenArray ∷ ws) e h =
    record { named = open_named e.0 k e.1; sized = unsized refl refl }
holds_named es k (word.Structure n ∷ ws) e h = record {
  named = named_same k (kind.Structure (size_or_zero (structure_extent es n))) e;
  sized = structure_named es k n ws e h (structure_extent es n) refl;
}
holds_named es k (word.Const ∷ ws) e h =
    again (holds_named es k ws e h)
  where
    again : IsNamed es k ws → IsNamed es k (word.Const ∷ ws)
    again is = record { named = is.named; sized = by (size_or_zero (extent_of es ws)) is.sized }
      where
        by : (n : ℕ) → IsSized es ws n → IsSized es (word.Const ∷ ws) n
        by n (complete g) = complete g
        by n (unsized g i) = unsized g i
holds_named es k (word.Takes ∷ ws) e h = conflict (ap has_size (sym e) ∙ h)
holds_named es k (word.Gives ∷ ws) e h = conflict (ap has_size (sym e) ∙ h)

-- a type that lacks sizes declares the same object

filled_word : (es : Structures) (k : Kind) (v w : TypeWord) (s t : List TypeWord) → w ≡ v
    → (Holds es k t → Holds es k s) → Holds es k (w ∷ t) → Holds es k (v ∷ s)
filled_word es k v w s t e h is = by v (subst (λ z. Holds es k (z ∷ t)) e is)
  where
    by : (v : TypeWord) → Holds es k (v ∷ t) → Holds es k (v ∷ s)
    by word.Void is = is
    by (word.Integer i) is = is
    by (word.Enumeration n) is = is
    by word.Pointer is = is
    by (word.Array n b) is = is
    by word.OpenArray is = is
    by (word.Structure n) is = is
    by word.Const is = h is
    by word.Takes is = is
    by word.Gives is = is

opened_word : (es : Structures) (k : Kind) (v w : TypeWord) (s t : List TypeWord) (n b : ℕ) → v ≡ word.OpenArray
    → w ≡ word.Array n b → Holds es k (w ∷ t) → Holds es k (v ∷ s)
opened_word es k v w s t n b e g is =
    subst (λ z. Holds es k (z ∷ s)) (sym e) (capped b, subst (λ z. Holds es k (z ∷ t)) g is)

pub holds_filled : (es : Structures) (k : Kind) (s t : List TypeWord) → Fills s t → Holds es k t → Holds es k s
holds_filled es k [] [] h is = is
holds_filled es k [] (w ∷ t) h is = absurd cc
holds_filled es k (v ∷ s) [] h is = absurd cc
holds_filled es k (v ∷ s) (w ∷ t) h is = by (holds_filled es k s t h.1) h.0
  where
    by : (Holds es k t → Holds es k s) → FillsWord v w → Holds es k (v ∷ s)
    by behind (inl e) = filled_word es k v w s t e behind is
    by behind (inr e) = opened_word es k v w s t e.1.0 e.1.1.0 e.0 e.1.1.1 is

-- the kind of a type, and of the type that an object has at the end

array_kind : (es : Structures) (n b : ℕ) (ws : List TypeWord) (o : Option TypeExtent) → extent_of es ws ≡ o
    → has_size (kind_among es (word.Array n b ∷ ws)) ≡ true
    → kind_among es (word.Array n b ∷ ws) ≡ kind.Array (capped b)
unfolding extent_of
array_kind es n b ws None e h =
    conflict (sym (ap (λ z. is_size (size_or_zero (option_map (array_extent b) z))) e) ∙ h)
array_kind es n b ws (Some x) e h = ap (λ z. kind.Array (size_or_zero (option_map (array_extent b) z))) e

pub holds_kind : (es : Structures) (ws : List TypeWord) → has_size (kind_among es ws) ≡ true
    → Holds es (kind_among es ws) ws
unfolding extent_of
holds_kind es [] h = refl
holds_kind es (word.Void ∷ ws) h = refl
holds_kind es (word.Integer t ∷ ws) h = refl
holds_kind es (word.Enumeration n ∷ ws) h = refl
holds_kind es (word.Pointer ∷ ws) h = refl
holds_kind es (word.Array n b ∷ ws) h = array_kind es n b ws (extent_of es ws) refl h
holds_kind es (word.OpenArray ∷ ws) h = (0, refl)
holds_kind es (word.Structure n ∷ ws) h = refl
holds_kind es (word.Const ∷ ws) h = holds_kind es ws h
holds_kind es (word.Takes ∷ ws) h = refl
holds_kind es (word.Gives ∷ ws) h = refl

open_kind : (es : Structures) (ws : List TypeWord) (o : Option TypeExtent)
    → (n : ℕ) × (kind_among es (array_of 1 o ∷ ws) ≡ kind.Array n)
open_kind es ws None = (size_or_zero (extent_of es (array_of 1 None ∷ ws)), refl)
open_kind es ws (Some x) = (size_or_zero (extent_of es (array_of 1 (Some x) ∷ ws)), refl)

pub holds_final : (es : Structures) (ws : List TypeWord) → has_size (kind_among es (final_type es ws)) ≡ true
    → Holds es (kind_among es (final_type es ws)) ws
holds_final es [] h = holds_kind es [] h
holds_final es (word.Void ∷ ws) h = holds_kind es (word.Void ∷ ws) h
holds_final es (word.Integer t ∷ ws) h = holds_kind es (word.Integer t ∷ ws) h
holds_final es (word.Enumeration n ∷ ws) h = holds_kind es (word.Enumeration n ∷ ws) h
holds_final es (word.Pointer ∷ ws) h = holds_kind es (word.Pointer ∷ ws) h
holds_final es (word.Array n b ∷ ws) h = holds_kind es (word.Array n b ∷ ws) h
holds_final es (word.OpenArray ∷ ws) h = open_kind es ws (extent_of es ws)
holds_final es (word.Structure n ∷ ws) h = holds_kind es (word.Structure n ∷ ws) h
holds_final es (word.Const ∷ ws) h = holds_kind es (word.Const ∷ ws) h
holds_final es (word.Takes ∷ ws) h = holds_kind es (word.Takes ∷ ws) h
holds_final es (word.Gives ∷ ws) h = holds_kind es (word.Gives ∷ ws) h

-- a composite type declares what both types declare

joint_holds : (es : Structures) (k : Kind) (v w x : TypeWord) (s t c : List TypeWord) → IsJoint v w x
    → (HoldsArray k s → Holds es k t → Holds es k c) → HoldsArray k (v ∷ s) → Holds es k (w ∷ t) → Holds es k (x ∷ c)
joint_holds es k v w x s t c (alike e g) h a is =
    subst (λ z. Holds es k (z ∷ c)) (sym g)
    (by v a (subst (λ z. Holds es k (z ∷ t)) (sym e) is))
  where
    by : (v : TypeWord) → HoldsArray k (v ∷ s) → Holds es k (v ∷ t) → Holds es k (v ∷ c)
    by word.Void a is = is
    by (word.Integer i) a is = is
    by (word.Enumeration n) a is = is
    by word.Pointer a is = is
    by (word.Array n b) a is = is
    by word.OpenArray a is = is
    by (word.Structure n) a is = is
    by word.Const a is = h a is
    by word.Takes a is = is
    by word.Gives a is = is
joint_holds es k v w x s t c (first_sized n b e g i) h a is =
    subst (λ z. Holds es k (z ∷ c)) (sym (i ∙ e)) (subst (λ z. HoldsArray k (z ∷ s)) e a)
joint_holds es k v w x s t c (second_sized n b e g i) h a is =
    subst (λ z. Holds es k (z ∷ c)) (sym (i ∙ g)) (subst (λ z. Holds es k (z ∷ t)) g is)

pub composite_holds : (es : Structures) (k : Kind) (s t c : List TypeWord) → composite s t ≡ Some c → HoldsArray k s
    → Holds es k t → Holds es k c
composite_holds es k [] [] c e a is = subst (Holds es k) (sym (composite_nothing c e)) is
composite_holds es k [] (w ∷ t) c e a is = none_first w t c _ e
composite_holds es k (v ∷ s) [] c e a is = none_second v s c _ e
composite_holds es k (v ∷ s) (w ∷ t) c e a is =
    let j = joins v s w t c e in
    subst (Holds es k) (sym j.is)
    (joint_holds es k v w j.first s t j.rest j.joint (composite_holds es k s t j.rest j.behind) a is)

-- where an object is named by a type whose arrays have the bytes of their elements

array_size_is : (b : ℕ) (c : Bool) → is_size b ≡ c
    → (if c then target.Object b else target.Incomplete) ≡ target.Object b → is_size b ≡ true
array_size_is b true e g = e
array_size_is b false e g = absurd cc

no_size : (b : ℕ) → is_size b ≡ true → (b == 0) ≡ true → false ≡ true
no_size b h e = ap is_size (sym (eqb-true b 0 e)) ∙ h

named_array : (b : ℕ) (k : Kind) → is_size b ≡ true → is_named_as k (kind.Array b) ≡ true → k ≡ kind.Array b
named_array b (kind.Array m) h e = by (m == b) refl e
  where
    by : (c : Bool) → (m == b) ≡ c → (c || b == 0) ≡ true → kind.Array m ≡ kind.Array b
    by true g i = ap kind.Array (eqb-true m b g)
    by false g i = conflict (no_size b h i)
named_array b kind.Void h e = absurd cc
named_array b (kind.Scalar (Integer t)) h e = absurd cc
named_array b (kind.Scalar Pointer) h e = absurd cc
named_array b (kind.Structure m) h e = absurd cc

array_sized : (es : Structures) (n b : ℕ) (ws : List TypeWord) (x : TypeExtent) → extent_of es ws ≡ Some x → (m : ℕ)
    → m ≡ capped b → IsSized es (word.Array n b ∷ ws) m → is_size (capped b) ≡ true
unfolding extent_of
array_sized es n b ws x e m same (complete g) =
    array_size_is (capped b) (is_size (capped b)) refl
    (ap (λ z. object_of (option_map (array_extent b) z)) (sym e) ∙ g ∙ ap target.Object same)
array_sized es n b ws x e m same (unsized g z) = conflict (ap is_none (sym e) ∙ g)

array_held : (es : Structures) (k : Kind) (n b : ℕ) (ws : List TypeWord) → (o : Option TypeExtent) → extent_of es ws ≡ o
    → has_bytes n b o ≡ true → IsNamed es k (word.Array n b ∷ ws) → k ≡ kind.Array (capped b)
unfolding extent_of
array_held es k n b ws None e h is = absurd cc
array_held es k n b ws (Some x) e h is =
    named_array (capped b) k
    (array_sized es n b ws x e (size_or_zero (extent_of es (word.Array n b ∷ ws)))
    (ap (λ z. size_or_zero (option_map (array_extent b) z)) e) is.sized)
    (ap (λ z. is_named_as k (kind.Array (size_or_zero (option_map (array_extent b) z)))) (sym e) ∙ is.named)

pub named_holds : (es : Structures) (k : Kind) (ws : List TypeWord) → has_array_bytes es ws ≡ true → IsNamed es k ws
    → HoldsArray k ws
unfolding extent_of
named_holds es k [] h is = tt
named_holds es k (word.Void ∷ ws) h is = tt
named_holds es k (word.Integer t ∷ ws) h is = tt
named_holds es k (word.Enumeration n ∷ ws) h is = tt
named_holds es k (word.Pointer ∷ ws) h is = tt
named_holds es k (word.Array n b ∷ ws) h is =
    array_held es k n b ws (extent_of es ws) refl
    (both_true (has_bytes n b (extent_of es ws)) (has_array_bytes es ws) h).0 is
named_holds es k (word.OpenArray ∷ ws) h is = tt
named_holds es k (word.Structure n ∷ ws) h is = tt
named_holds es k (word.Const ∷ ws) h is =
    named_holds es k ws h (record { named = is.named; sized = by (size_or_zero (extent_of es ws)) is.sized })
  where
    by : (n : ℕ) → IsSized es (word.Const ∷ ws) n → IsSized es ws n
    by n (complete g) = complete g
    by n (unsized g i) = unsized g i
named_holds es k (word.Takes ∷ ws) h is = tt
named_holds es k (word.Gives ∷ ws) h is = tt

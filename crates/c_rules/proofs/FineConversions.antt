-- Casts of valid values are valid, and so are values that pass to an object of another type, with the kind of that
-- type.
use Rattle.std.proofs.Common.{◌≡◌, ℕ, Bool, true, false, Option, Some, None, List, [], ◌∷◌, refl, ap, sym, ◌∙◌}
use Rattle.std.specs.Prelude.{◌||◌, if◌then◌else◌, Ok}
use Rattle.c_tree.specs.declared.c_type.TypeWord.{TypeWord}
use Rattle.c_tree.specs.declared.c_type.TypeWord.TheVariants as word
use Rattle.c_tree.specs.declared.expression.Kind.{Kind}
use Rattle.c_tree.specs.declared.expression.Kind.TheVariants as kind
use Rattle.c_tree.specs.Extents.{TypeExtent, structure_extent}
use Rattle.c_tree.specs.Kinds.{integer, pointer, is_value}
use Rattle.c_tree.specs.Tree.{kind_of}
use Rattle.c_tree.specs.TypesAgree.{structure_kind, kind_of_type, same_words}
use Rattle.c_tree.specs.Valid.{Scope, is_conversion}
use Rattle.c_rules.specs.declared.class.Class.{Class}
use Rattle.c_rules.specs.declared.class.Class.TheVariants as class
use Rattle.c_rules.specs.declared.conversion.Passing.TheVariants as passing
use Rattle.c_rules.specs.Types.{unqualified, class_of, same_pointee}
use Rattle.c_rules.specs.Values.{Value, converted, is_null}
use Rattle.c_rules.specs.Unary.{is_scalar}
use Rattle.c_rules.specs.Conversions.{is_void_type, cast_kind, cast_to, cast, is_structure_type, passing_of, passed}
use Rattle.c_rules.specs.Conversions.{are_one_structure, assigned}
use Rattle.c_rules.specs.Rows.{may_meet}
use Rattle.c_rules.specs.Fine.{IsFine, IfFine, IfFineAs}
use Rattle.c_rules.proofs.TypeKinds.{HasKind, class_kind}
use Rattle.c_rules.proofs.SameTypes.{both_true, words_are}
use Rattle.c_rules.proofs.FineBinary.{all, Converts, integer_converts, from_integer, from_pointer}
use Rattle.c_rules.proofs.FineUnary.{scalar_value}

-- the kind of the values of a type, by its class

abbrev pub KindIs : Class → Option Kind → Type 0
KindIs (class.Integer t) k = k ≡ Some (integer t)
KindIs (class.Pointer to) k = k ≡ Some pointer
KindIs class.Other k = Unit {0}

pub kind_is : (structures : List (Option TypeExtent)) (ws : List TypeWord)
    → KindIs (class_of structures ws) (kind_of_type structures ws)
kind_is structures [] = tt
kind_is structures (word.Void ∷ behind) = tt
kind_is structures (word.Integer t ∷ behind) = refl
kind_is structures (word.Enumeration n ∷ behind) = refl
kind_is structures (word.Pointer ∷ behind) = refl
kind_is structures (word.Array count bytes ∷ behind) = tt
kind_is structures (word.OpenArray ∷ behind) = tt
kind_is structures (word.Structure n ∷ behind) = tt
kind_is structures (word.Const ∷ behind) = kind_is structures behind
kind_is structures (word.Takes ∷ behind) = tt
kind_is structures (word.Gives ∷ behind) = tt

-- qualifiers do not change it
pub unqualified_kind : (structures : List (Option TypeExtent)) (ws : List TypeWord)
    → kind_of_type structures (unqualified ws) ≡ kind_of_type structures ws
unqualified_kind structures [] = refl
unqualified_kind structures (word.Const ∷ behind) = unqualified_kind structures behind
unqualified_kind structures (word.Void ∷ behind) = refl
unqualified_kind structures (word.Integer t ∷ behind) = refl
unqualified_kind structures (word.Enumeration n ∷ behind) = refl
unqualified_kind structures (word.Pointer ∷ behind) = refl
unqualified_kind structures (word.Array count bytes ∷ behind) = refl
unqualified_kind structures (word.OpenArray ∷ behind) = refl
unqualified_kind structures (word.Structure n ∷ behind) = refl
unqualified_kind structures (word.Takes ∷ behind) = refl
unqualified_kind structures (word.Gives ∷ behind) = refl

void_kind : (structures : List (Option TypeExtent)) (ws : List TypeWord) → is_void_type ws ≡ true
    → kind_of_type structures ws ≡ Some kind.Void
void_kind structures [] e = absurd cc
void_kind structures (word.Void ∷ behind) e = refl
void_kind structures (w ∷ behind) e = absurd cc

module _ (scope : Scope) (structures : List (Option TypeExtent)) (line : ℕ) (to : List TypeWord) (a : Value)
    (fa : IsFine scope structures a) where
  cast_into : (k : Kind) → is_conversion (kind_of a.tree) k ≡ true → kind_of_type structures (unqualified to) ≡ Some k
      → IfFine scope structures (cast_to to line (Some k) a)
  cast_into k can same = record { valid = all fa.valid can; kind = same; bare = refl }

  where_scalar : (b : Bool) (k : Kind) → (b ≡ true → IfFine scope structures (cast_to to line (Some k) a))
      → IfFine scope structures (cast_to to line (if b then Some k else None) a)
  where_scalar true k h = h refl
  where_scalar false k h = tt

  cast_cases : (b : Bool) (c : Class) → is_void_type (unqualified to) ≡ b → KindIs c (kind_of_type structures to)
      → IfFine scope structures (cast_to to line (cast_kind b c (class_of structures a.type)) a)
  cast_cases true c e h = cast_into kind.Void refl (void_kind structures (unqualified to) e)
  cast_cases false (class.Integer t) e h = where_scalar (is_scalar (class_of structures a.type)) (integer t)
      (λ s. cast_into (integer t) (scalar_value scope structures a fa s) (unqualified_kind structures to ∙ h))
  cast_cases false (class.Pointer target) e h = where_scalar (is_scalar (class_of structures a.type)) pointer
      (λ s. cast_into pointer (scalar_value scope structures a fa s) (unqualified_kind structures to ∙ h))
  cast_cases false class.Other e h = tt

pub cast_fine : (scope : Scope) (structures : List (Option TypeExtent)) (line : ℕ) (to : List TypeWord) (a : Value)
    → IsFine scope structures a → IfFine scope structures (cast structures line to a)
unfolding cast
cast_fine scope structures line to a fa =
    cast_cases scope structures line to a fa (is_void_type (unqualified to)) (class_of structures to) refl
    (kind_is structures to)

-- values that pass to an object

some_is : (j k : Kind) → Some j ≡ Some k → j ≡ k
some_is j k e = cc

of_extent : (o : Option TypeExtent) (k : Kind) → structure_kind o ≡ Some k → is_value k ≡ true
of_extent None k e = absurd cc
of_extent (Some x) k e = sym (ap is_value (some_is (kind.Structure x.size) k e))

pub structure_value : (structures : List (Option TypeExtent)) (ws : List TypeWord) (k : Kind)
    → is_structure_type ws ≡ true → kind_of_type structures ws ≡ Some k → is_value k ≡ true
structure_value structures [] k s e = absurd cc
structure_value structures (word.Structure n ∷ behind) k s e = of_extent (structure_extent structures n) k e
structure_value structures (w ∷ behind) k s e = absurd cc

-- both types are one structure
record Moves (structures : List (Option TypeExtent)) (to : List TypeWord) (k : Kind) : Type 0 where
  kind : kind_of_type structures to ≡ Some k
  value : is_value k ≡ true

moves_by : (structures : List (Option TypeExtent)) (to from s t : List TypeWord) (k : Kind)
    → kind_of_type structures s ≡ kind_of_type structures to → kind_of_type structures t ≡ kind_of_type structures from
    → kind_of_type structures from ≡ Some k → are_one_structure s t ≡ true → Moves structures to k
moves_by structures to from s t k es et e h =
    let both = both_true (is_structure_type s) (same_words s t) h in
    let of_s : kind_of_type structures s ≡ Some k = ap (kind_of_type structures) (words_are s t both.1) ∙ et ∙ e in
    record { kind = sym es ∙ of_s; value = structure_value structures s k both.0 of_s }

module _ (scope : Scope) (structures : List (Option TypeExtent)) (line : ℕ) (to : List TypeWord) (a : Value)
    (fa : IsFine scope structures a) where
  converts_to : (k : Kind) → Converts scope k a.tree → kind_of_type structures to ≡ Some k → is_value k ≡ true
      → IfFineAs scope structures to (Ok (converted k a.tree))
  converts_to k c h v =
      record { valid = c.valid; kind = h ∙ ap Some (sym c.kind); value = ap is_value c.kind ∙ v }

  where_pointer : (b : Bool) → Converts scope pointer a.tree → kind_of_type structures to ≡ Some pointer
      → IfFineAs scope structures to (passed (if b then passing.Convert pointer else passing.NoWay) line a.tree)
  where_pointer true c h = converts_to pointer c h refl
  where_pointer false c h = tt

  where_structure : (b : Bool) → (b ≡ true → Moves structures to (kind_of a.tree))
      → IfFineAs scope structures to (passed (if b then passing.AsItIs else passing.NoWay) line a.tree)
  where_structure true h = record { valid = fa.valid; kind = (h refl).kind; value = (h refl).value }
  where_structure false h = tt

  passing_cases : (same null structure : Bool) (c d : Class) → KindIs c (kind_of_type structures to)
      → HasKind d (kind_of a.tree) → (structure ≡ true → Moves structures to (kind_of a.tree))
      → IfFineAs scope structures to (passed (passing_of same null structure c d) line a.tree)
  passing_cases same null structure (class.Integer j) (class.Integer k) hc hd m =
      converts_to (integer j) (integer_converts scope structures j k a fa hd) hc refl
  passing_cases same null structure (class.Pointer s) (class.Pointer t) hc hd m =
      where_pointer (may_meet same s t || null) (from_pointer scope structures a fa hd.0) hc
  passing_cases same null structure (class.Pointer s) (class.Integer k) hc hd m =
      where_pointer null (from_integer scope structures k a fa hd) hc
  passing_cases same null structure class.Other class.Other hc hd m = where_structure structure m
  passing_cases same null structure _ _ hc hd m = tt

pub assigned_fine : (scope : Scope) (structures : List (Option TypeExtent)) (line : ℕ) (to : List TypeWord) (a : Value)
    → IsFine scope structures a → IfFineAs scope structures to (assigned structures line to a)
unfolding assigned
assigned_fine scope structures line to a fa =
    passing_cases scope structures line to a fa (same_pointee to a.type) (is_null a)
    (are_one_structure (unqualified to) (unqualified a.type)) (class_of structures to) (class_of structures a.type)
    (kind_is structures to) (class_kind structures a.type (kind_of a.tree) fa.kind)
    (moves_by structures to a.type (unqualified to) (unqualified a.type) (kind_of a.tree)
    (unqualified_kind structures to) (unqualified_kind structures a.type) fa.kind)

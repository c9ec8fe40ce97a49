-- What is valid stays valid where more structures are complete.
use Rattle.std.proofs.Common.{◌≡◌, ℕ, Bool, true, false, ◌&&◌, refl, ap, ◌∙◌, List, [], ◌∷◌}
use Rattle.std.proofs.Common.{Option, Some, None}
use Rattle.std.specs.Prelude.{option_map}
use Rattle.c_tree.specs.declared.c_type.TypeWord.{TypeWord}
use Rattle.c_tree.specs.declared.c_type.TypeWord.TheVariants.{Void, Integer, Enumeration, Pointer, Array, OpenArray}
use Rattle.c_tree.specs.declared.c_type.TypeWord.TheVariants.{Structure, Const, Takes, Gives}
use Rattle.c_tree.specs.declared.expression.Kind.{Kind}
use Rattle.c_tree.specs.Extents.{TypeExtent, array_extent, extent_of, structure_extent}
use Rattle.c_tree.specs.Kinds.{size_of_kind}
use Rattle.c_tree.specs.Tree.{kind_of, lvalue_kind}
use Rattle.c_tree.specs.TypesAgree.{agrees, behind_types, gives_kind, is_end, is_kind_of, kind_of_type, structure_kind}
use Rattle.c_tree.specs.TypesAgree.{takes_kind}
use Rattle.c_tree.specs.Valid.{Scope}
use Rattle.c_rules.specs.declared.class.Target.TheVariants as target
use Rattle.c_rules.specs.Fine.{IsFine}
use Rattle.c_rules.specs.Types.{object_of, target_of}
use Rattle.c_rules.specs.Values.{Value}
use Rattle.c_place_rules.specs.Operands.{Operand, Variable, a_value, a_place, a_variable, a_function}
use Rattle.c_place_rules.specs.Targets.{object_kind}
use Rattle.c_place_laws.specs.FinePlaces.{IsEarlierOperand, IsFineOperand, IsFineVariable, IsSized, WasSized, complete}
use Rattle.c_place_laws.specs.FinePlaces.{complete_as, is_unsized, is_unsized_kind, unsized, unsized_as}
use Rattle.c_call_rules.specs.FineCalls.{AreFine}
use Rattle.typing_laws.specs.Validity.More.{AreMore}
use Rattle.typing_laws.proofs.Validity.Common.{both_true, no_value}

structure_kept : (s more : List (Option TypeExtent)) → AreMore s more → (n : ℕ) (k : Kind) (o : Option TypeExtent)
    → structure_extent s n ≡ o → structure_kind o ≡ Some k → structure_kind (structure_extent more n) ≡ Some k
structure_kept s more h n k None is e = no_value k _ e
structure_kept s more h n k (Some x) is e = ap structure_kind (h.kept n x is) ∙ e

pub kind_kept : (s more : List (Option TypeExtent)) → AreMore s more → (ws : List TypeWord) (k : Kind)
    → kind_of_type s ws ≡ Some k → kind_of_type more ws ≡ Some k
kind_kept s more h [] k e = e
kind_kept s more h (Void ∷ behind) k e = e
kind_kept s more h (Integer t ∷ behind) k e = e
kind_kept s more h (Enumeration n ∷ behind) k e = e
kind_kept s more h (Pointer ∷ behind) k e = e
kind_kept s more h (Array count bytes ∷ behind) k e = e
kind_kept s more h (OpenArray ∷ behind) k e = e
kind_kept s more h (Structure n ∷ behind) k e = structure_kept s more h n k (structure_extent s n) refl e
kind_kept s more h (Const ∷ behind) k e = kind_kept s more h behind k e
kind_kept s more h (Takes ∷ behind) k e = e
kind_kept s more h (Gives ∷ behind) k e = e

pub array_kept : (bytes : ℕ) (o more : Option TypeExtent) (e : TypeExtent)
    → ((x : TypeExtent) → o ≡ Some x → more ≡ Some x) → option_map (array_extent bytes) o ≡ Some e
    → option_map (array_extent bytes) more ≡ Some e
array_kept bytes None more e h is = no_value e _ is
array_kept bytes (Some x) more e h is = ap (option_map (array_extent bytes)) (h x refl) ∙ is

pub extent_kept : (s more : List (Option TypeExtent)) → AreMore s more → (ws : List TypeWord) (e : TypeExtent)
    → extent_of s ws ≡ Some e → extent_of more ws ≡ Some e
unfolding extent_of
extent_kept s more h [] e is = is
extent_kept s more h (Void ∷ behind) e is = is
extent_kept s more h (Integer t ∷ behind) e is = is
extent_kept s more h (Enumeration n ∷ behind) e is = is
extent_kept s more h (Pointer ∷ behind) e is = is
extent_kept s more h (Array count bytes ∷ element) e is =
    array_kept bytes (extent_of s element) (extent_of more element) e (λ x. extent_kept s more h element x) is
extent_kept s more h (OpenArray ∷ element) e is = is
extent_kept s more h (Structure n ∷ behind) e is = h.kept n e is
extent_kept s more h (Const ∷ behind) e is = extent_kept s more h behind e is
extent_kept s more h (Takes ∷ behind) e is = is
extent_kept s more h (Gives ∷ behind) e is = is

object_kept : (o more : Option TypeExtent) (size : ℕ) → ((x : TypeExtent) → o ≡ Some x → more ≡ Some x)
    → object_of o ≡ target.Object size → object_of more ≡ target.Object size
object_kept None more size h is = cc
object_kept (Some x) more size h is = ap object_of (h x refl) ∙ is

pub target_kept : (s more : List (Option TypeExtent)) → AreMore s more → (ws : List TypeWord) (size : ℕ)
    → target_of s ws ≡ target.Object size → target_of more ws ≡ target.Object size
target_kept s more h [] size is =
    object_kept (extent_of s []) (extent_of more []) size (λ x. extent_kept s more h [] x) is
target_kept s more h (Void ∷ behind) size is = is
target_kept s more h (Integer t ∷ ws) size is =
    object_kept (extent_of s (Integer t ∷ ws)) _ size (λ x. extent_kept s more h (Integer t ∷ ws) x) is
target_kept s more h (Enumeration n ∷ ws) size is =
    object_kept (extent_of s (Enumeration n ∷ ws)) _ size (λ x. extent_kept s more h (Enumeration n ∷ ws) x) is
target_kept s more h (Pointer ∷ ws) size is =
    object_kept (extent_of s (Pointer ∷ ws)) _ size (λ x. extent_kept s more h (Pointer ∷ ws) x) is
target_kept s more h (Array count bytes ∷ ws) size is =
    object_kept (extent_of s (Array count bytes ∷ ws)) _ size (λ x. extent_kept s more h (Array count bytes ∷ ws) x) is
target_kept s more h (OpenArray ∷ ws) size is =
    object_kept (extent_of s (OpenArray ∷ ws)) _ size (λ x. extent_kept s more h (OpenArray ∷ ws) x) is
target_kept s more h (Structure n ∷ ws) size is =
    object_kept (extent_of s (Structure n ∷ ws)) _ size (λ x. extent_kept s more h (Structure n ∷ ws) x) is
target_kept s more h (Const ∷ behind) size is = target_kept s more h behind size is
target_kept s more h (Takes ∷ behind) size is = is
target_kept s more h (Gives ∷ behind) size is = is

-- types of functions

of_kind_kept : (s more : List (Option TypeExtent)) → AreMore s more → (ws : List TypeWord) (k : Kind) (o : Option Kind)
    → kind_of_type s ws ≡ o → is_kind_of o k ≡ true → is_kind_of (kind_of_type more ws) k ≡ true
of_kind_kept s more h ws k None is e = cc
of_kind_kept s more h ws k (Some j) is e = ap (λ z. is_kind_of z k) (kind_kept s more h ws j is) ∙ e

pub both_kept : (a b c : Bool) → (a ≡ true → c ≡ true) → (a && b) ≡ true → (c && b) ≡ true
both_kept true b c h e = ap (λ z. z && b) (h refl) ∙ e
both_kept false b c h e = cc

pub gives_kept : (s more : List (Option TypeExtent)) → AreMore s more → (ws : List TypeWord) (k : Kind)
    → gives_kind s ws k ≡ true → gives_kind more ws k ≡ true
gives_kept s more h (Gives ∷ ws) k e =
    both_kept (is_kind_of (kind_of_type s ws) k) (is_end (behind_types 1 ws)) (is_kind_of (kind_of_type more ws) k)
    (of_kind_kept s more h ws k (kind_of_type s ws) refl) e
gives_kept s more h [] k e = e
gives_kept s more h (Void ∷ ws) k e = e
gives_kept s more h (Integer t ∷ ws) k e = e
gives_kept s more h (Enumeration n ∷ ws) k e = e
gives_kept s more h (Pointer ∷ ws) k e = e
gives_kept s more h (Array count bytes ∷ ws) k e = e
gives_kept s more h (OpenArray ∷ ws) k e = e
gives_kept s more h (Structure n ∷ ws) k e = e
gives_kept s more h (Const ∷ ws) k e = e
gives_kept s more h (Takes ∷ ws) k e = e

takes_kept : (s more : List (Option TypeExtent)) → AreMore s more → (ws : List TypeWord) (k : Kind)
    → takes_kind s ws k ≡ true → takes_kind more ws k ≡ true
takes_kept s more h (Takes ∷ ws) k e = of_kind_kept s more h ws k (kind_of_type s ws) refl e
takes_kept s more h [] k e = e
takes_kept s more h (Void ∷ ws) k e = e
takes_kept s more h (Integer t ∷ ws) k e = e
takes_kept s more h (Enumeration n ∷ ws) k e = e
takes_kept s more h (Pointer ∷ ws) k e = e
takes_kept s more h (Array count bytes ∷ ws) k e = e
takes_kept s more h (OpenArray ∷ ws) k e = e
takes_kept s more h (Structure n ∷ ws) k e = e
takes_kept s more h (Const ∷ ws) k e = e
takes_kept s more h (Gives ∷ ws) k e = e

pub agrees_kept : (s more : List (Option TypeExtent)) → AreMore s more → (ws : List TypeWord) (ks : List Kind)
    (k : Kind) → agrees s ws ks k ≡ true → agrees more ws ks k ≡ true
agrees_kept s more h ws [] k e = gives_kept s more h ws k e
agrees_kept s more h [] (j ∷ ks) k e = e
agrees_kept s more h (w ∷ ws) (j ∷ ks) k e =
    both_true (takes_kind s (w ∷ ws) j) (agrees s (behind_types 1 ws) ks k) (takes_kind more (w ∷ ws) j)
    (agrees more (behind_types 1 ws) ks k) (takes_kept s more h (w ∷ ws) j)
    (agrees_kept s more h (behind_types 1 ws) ks k) e

-- values, operands and arguments

pub value_kept : (scope : Scope) (s more : List (Option TypeExtent)) → AreMore s more → (v : Value)
    → IsFine scope s v → IsFine scope more v
value_kept scope s more h v is = record {
  valid = is.valid;
  kind = kind_kept s more h v.type (kind_of v.tree) is.kind;
  bare = is.bare;
}

-- an lvalue of a type that is not complete where it is named counts no bytes
unsized_kind : (s : List (Option TypeExtent)) (ws : List TypeWord) (k : Kind) → is_unsized s ws ≡ true
    → k ≡ object_kind 0 ws → is_unsized_kind k ≡ true
unsized_kind s [] k u e = absurd cc
unsized_kind s (Void ∷ behind) k u e = absurd cc
unsized_kind s (Integer t ∷ behind) k u e = absurd cc
unsized_kind s (Enumeration n ∷ behind) k u e = absurd cc
unsized_kind s (Pointer ∷ behind) k u e = absurd cc
unsized_kind s (Array count bytes ∷ element) k u e = ap is_unsized_kind e
unsized_kind s (OpenArray ∷ element) k u e = ap is_unsized_kind e
unsized_kind s (Structure n ∷ behind) k u e = ap is_unsized_kind e
unsized_kind s (Const ∷ behind) k u e = unsized_kind s behind k u e
unsized_kind s (Takes ∷ behind) k u e = absurd cc
unsized_kind s (Gives ∷ behind) k u e = absurd cc

was_sized : (s more : List (Option TypeExtent)) → AreMore s more → (ws : List TypeWord) (k : Kind)
    → k ≡ object_kind (size_of_kind k) ws → IsSized s ws (size_of_kind k) → WasSized more ws k
was_sized s more h ws k e (complete is) = complete_as (target_kept s more h ws (size_of_kind k) is)
was_sized s more h ws k e (unsized u z) = unsized_as (unsized_kind s ws k u (e ∙ ap (λ n. object_kind n ws) z))

variable_kept : (scope : Scope) (s more : List (Option TypeExtent)) → AreMore s more → (x : Variable)
    → IsFineVariable scope s x → IsFineVariable scope more x
variable_kept scope s more h x is = record { value = value_kept scope s more h _ is.value; plain = is.plain }

pub operand_kept : (scope : Scope) (s more : List (Option TypeExtent)) → AreMore s more → (o : Operand)
    → IsFineOperand scope s o → IsEarlierOperand scope more o
operand_kept scope s more h (a_value v) is = value_kept scope s more h v is
operand_kept scope s more h (a_place p) is = record {
  valid = is.valid;
  sized = was_sized s more h p.type (lvalue_kind p.tree) is.kind is.sized;
  kind = is.kind;
}
operand_kept scope s more h (a_variable x) is = variable_kept scope s more h x is
operand_kept scope s more h (a_function f) is = is

still_sized : (s more : List (Option TypeExtent)) → AreMore s more → (ws : List TypeWord) (k : Kind)
    → WasSized s ws k → WasSized more ws k
still_sized s more h ws k (complete_as is) = complete_as (target_kept s more h ws (size_of_kind k) is)
still_sized s more h ws k (unsized_as u) = unsized_as u

pub earlier_kept : (scope : Scope) (s more : List (Option TypeExtent)) → AreMore s more → (o : Operand)
    → IsEarlierOperand scope s o → IsEarlierOperand scope more o
earlier_kept scope s more h (a_value v) is = value_kept scope s more h v is
earlier_kept scope s more h (a_place p) is = record {
  valid = is.valid;
  sized = still_sized s more h p.type (lvalue_kind p.tree) is.sized;
  kind = is.kind;
}
earlier_kept scope s more h (a_variable x) is = variable_kept scope s more h x is
earlier_kept scope s more h (a_function f) is = is

pub arguments_kept : (scope : Scope) (s more : List (Option TypeExtent)) → AreMore s more → (vs : List Value)
    → AreFine scope s vs → AreFine scope more vs
arguments_kept scope s more h [] is = is
arguments_kept scope s more h (v ∷ vs) is =
    (value_kept scope s more h v is.0, arguments_kept scope s more h vs is.1)

-- States that differ in what names stand for nowhere.
use Rattle.std.proofs.Common.{◌≡◌, ℕ, ◌*◌, ◌^◌, ◌≤◌, Bool, true, false, ◌||◌, ◌&&◌, refl, ap, sym, ◌∙◌}
use Rattle.std.proofs.Common.{List, [], ◌∷◌, ◌++◌, length, Option, Some, None, if◌then◌else◌, nat_le, arith}
use Rattle.std.specs.Prelude.{slice_get}
use Rattle.std.proofs.lemmas.Bool.{leb-true, or_left}
use Rattle.obj_memory.specs.Integers.{size_of}
use Rattle.c_tree.specs.Extents.{TypeExtent, capped, extent_of}
use Rattle.c_tree.specs.declared.expression.Kind.TheVariants as kind
use Rattle.c_tree.specs.Kinds.{is_size, size_of_kind}
use Rattle.c_tree.specs.Layout.{array_size}
use Rattle.c_tree.specs.Tree.{lvalue_kind}
use Rattle.c_tree.specs.Valid.{Scope, is_named_as}
use Rattle.c_rules.specs.declared.class.Target.TheVariants as target
use Rattle.c_rules.specs.Types.{target_of}
use Rattle.c_rules.proofs.FineUnary.{same_kind}
use Rattle.c_place_rules.specs.Operands.{Operand, Place, a_value, a_place, a_variable, a_function}
use Rattle.c_place_laws.specs.FinePlaces.{IsFineOperand, IsFinePlace, IsSized, complete, is_unsized, unsized}
use Rattle.c_scope.specs.declared.meaning.Designated.TheVariants as what
use Rattle.c_scope.specs.declared.meaning.Meaning.{Meaning}
use Rattle.c_scope.specs.declared.meaning.Meaning.TheVariants as meaning
use Rattle.c_operand_typing.specs.Operators.{object_taken, variable_named, with_taken}
use Rattle.c_operand_typing.specs.Primaries.{is_aggregate, is_marked, is_undefined, literal_place, literal_type}
use Rattle.c_operand_typing.specs.Primaries.{size_or_zero}
use Rattle.c_operand_typing.specs.Primaries.{used_as}
use Rattle.c_operand_typing.specs.Primaries.{earlier_or, with_literal, with_use}
use Rattle.c_typing_state.specs.State.{State, extents}
use Rattle.typing_laws.specs.Validity.More.{AreMore}
use Rattle.typing_laws.specs.Validity.Names.{IsMeant, kind_among}
use Rattle.typing_laws.specs.Validity.Sound.{Covers, IsFormed, Keeps}
use Rattle.typing_laws.proofs.Validity.Common.{no_value, second}
use Rattle.typing_laws.proofs.Validity.Kept.{target_kept}
use Rattle.typing_laws.proofs.Validity.Primaries.{static_fine}
use Rattle.typing_laws.proofs.Validity.Sound.{keeps_same, same_list, same_more}

pub meant_moved : (scope : Scope) (last : List (Option TypeExtent)) (s t : State) → s.objects ≡ t.objects
    → s.environment.facts ≡ t.environment.facts → (m : Option Meaning)
    → IsMeant scope last s m → IsMeant scope last t m
meant_moved scope last s t o f None is = tt
meant_moved scope last s t o f (Some (meaning.Typedef type)) is = tt
meant_moved scope last s t o f (Some (meaning.Constant w)) is = is
meant_moved scope last s t o f (Some (meaning.Named (what.Object n) type)) is = is
meant_moved scope last s t o f (Some (meaning.Named (what.Static n) type)) is = is
meant_moved scope last s t o f (Some (meaning.Named (what.Function n) type)) is =
    λ defined. is (ap (λ z. nat_le (length z.functions) n) f ∙ defined)
meant_moved scope last s t o f (Some (meaning.Named (what.Library r) type)) is = tt
meant_moved scope last s t o f (Some (meaning.Named (what.Variable n) type)) is = record {
  sized = is.sized;
  kind = is.kind;
  object = is.object ∙ ap (λ z. is_aggregate type || is_marked z n) o;
}

-- only marks, the line of a use, literals and types are new
pub keeps_marks : (scope : Scope) (last : List (Option TypeExtent)) (s : State) → IsFormed s
    → (taken : List Bool) (undefined : Option ℕ)
    → (undefined ≡ None → s.undefined ≡ None) → Keeps scope last s (record s { taken = taken; undefined = undefined })
keeps_marks scope last s formed taken undefined unused = record {
  more = same_more (extents s);
  literals = same_list s.literals;
  types = same_list s.function_types;
  knows = λ k. record {
    names = λ name.
        meant_moved scope last s (record s { taken = taken; undefined = undefined }) refl refl _ (k.names name);
    members = record { each = k.members.each };
  };
  pending = λ n p. record { begun = p.begun; incomplete = p.incomplete };
  formed = record {
    same = formed.same;
    begun = formed.begun;
    sizes = formed.sizes;
    tags = formed.tags;
    constants = formed.constants;
    typedefs = formed.typedefs;
  };
  undefined = unused;
}

pub unused_before : (o : Option ℕ) (line : ℕ) → earlier_or o line ≡ None → o ≡ None
unused_before None line e = refl
unused_before (Some n) line e = e

use_keeps : (scope : Scope) (last : List (Option TypeExtent)) (b : Bool) (line : ℕ) (s : State) → IsFormed s
    → Keeps scope last s (if b then with_use line s else s)
use_keeps scope last true line s formed =
    keeps_marks scope last s formed s.taken (with_use line s).undefined (unused_before s.undefined line)
use_keeps scope last false line s formed = keeps_same scope last s formed

pub used_keeps : (scope : Scope) (last : List (Option TypeExtent)) (is : Bool) (line : ℕ) (m : Option Meaning)
    (s : State) → IsFormed s
    → Keeps scope last s (used_as is line m s)
used_keeps scope last is line None s formed = keeps_same scope last s formed
used_keeps scope last is line (Some (meaning.Typedef type)) s formed = keeps_same scope last s formed
used_keeps scope last is line (Some (meaning.Constant w)) s formed = keeps_same scope last s formed
used_keeps scope last is line (Some (meaning.Named (what.Object n) type)) s formed = keeps_same scope last s formed
used_keeps scope last is line (Some (meaning.Named (what.Static n) type)) s formed = keeps_same scope last s formed
used_keeps scope last is line (Some (meaning.Named (what.Function n) type)) s formed =
    use_keeps scope last (is && is_undefined n s) line s formed
used_keeps scope last is line (Some (meaning.Named (what.Library f) type)) s formed = keeps_same scope last s formed
used_keeps scope last is line (Some (meaning.Named (what.Variable n) type)) s formed = keeps_same scope last s formed

taken_keeps : (scope : Scope) (last : List (Option TypeExtent)) (x : Option ℕ) (s : State) → IsFormed s
    → Keeps scope last s (with_taken x s)
taken_keeps scope last None s formed = keeps_same scope last s formed
taken_keeps scope last (Some n) s formed =
    keeps_marks scope last s formed (with_taken (Some n) s).taken s.undefined (λ e. e)

object_keeps : (scope : Scope) (last : List (Option TypeExtent)) (o : Operand) (s : State) → IsFormed s
    → Keeps scope last s (object_taken o s)
object_keeps scope last (a_value v) s formed = keeps_same scope last s formed
object_keeps scope last (a_place p) s formed = taken_keeps scope last (variable_named p.tree) s formed
object_keeps scope last (a_variable x) s formed = keeps_same scope last s formed
object_keeps scope last (a_function f) s formed = keeps_same scope last s formed

pub address_keeps : (scope : Scope) (last : List (Option TypeExtent)) (is : Bool) (o : Operand) (s : State) → IsFormed s
    → Keeps scope last s (if is then object_taken o s else s)
address_keeps scope last true o s formed = object_keeps scope last o s formed
address_keeps scope last false o s formed = keeps_same scope last s formed

-- string literals

pub literal_keeps : (scope : Scope) (last : List (Option TypeExtent)) (bytes : List ℕ) (s : State) → IsFormed s
    → Keeps scope last s (with_literal bytes s)
literal_keeps scope last bytes s formed = record {
  more = same_more (extents s);
  literals = record { rest = _; is = refl };
  types = same_list s.function_types;
  knows = λ k. record {
    names = λ name. meant_moved scope last s (with_literal bytes s) refl refl _ (k.names name);
    members = record { each = k.members.each };
  };
  pending = λ n p. record { begun = p.begun; incomplete = p.incomplete };
  formed = record {
    same = formed.same;
    begun = formed.begun;
    sizes = formed.sizes;
    tags = formed.tags;
    constants = formed.constants;
    typedefs = formed.typedefs;
  };
  undefined = λ e. e;
}

pub get_last : {A : Type 0} (xs : List A) (x : A) → slice_get (xs ++ x ∷ []) (length xs) ≡ Some x
get_last [] x = refl
get_last (y ∷ xs) x = get_last xs x

pub size_high : (n : ℕ) → is_size n ≡ true → n ≤ 2 ^ 32
size_high n e = leb-true n (2 ^ 32) (second (nat_le 1 n) (nat_le n (2 ^ 32)) e)

literal_sized : (size : ℕ) → is_size size ≡ true → target_of [] (literal_type size) ≡ target.Object size
unfolding extent_of array_size size_of
literal_sized size sized =
    let small = size_high size sized in
    let e : capped (capped (size * 1)) ≡ size = omega (arith, small) in
    ap (λ n. if is_size n then target.Object n else target.Incomplete) e
    ∙ ap (λ b. if b then target.Object size else target.Incomplete) sized

literal_bytes : (size : ℕ) → is_size size ≡ true → size_or_zero (extent_of [] (literal_type size)) ≡ size
unfolding extent_of array_size size_of
literal_bytes size sized =
    let small = size_high size sized in
    let e : capped (capped (size * 1)) ≡ size = omega (arith, small) in e

literal_complete : (size : ℕ) → is_unsized [] (literal_type size) ≡ false
unfolding extent_of
literal_complete size = refl

no_structures : (es : List (Option TypeExtent)) → AreMore [] es
no_structures es = record { kept = λ n e is. no_value e _ is }

-- an lvalue of a type that is complete without any structure
complete_kept : (scope : Scope) (es : List (Option TypeExtent)) (p : Place) → is_unsized [] p.type ≡ false
    → IsFinePlace scope [] p → IsFinePlace scope es p
complete_kept scope es p whole is = record {
  valid = is.valid;
  sized = sized_whole is.sized;
  kind = is.kind;
}
  where
    sized_whole : IsSized [] p.type (size_of_kind (lvalue_kind p.tree))
        → IsSized es p.type (size_of_kind (lvalue_kind p.tree))
    sized_whole (complete s) =
        complete (target_kept [] es (no_structures es) p.type (size_of_kind (lvalue_kind p.tree)) s)
    sized_whole (unsized u z) = absurd cc

pub literal_fine : (scope : Scope) (last es : List (Option TypeExtent)) (bytes : List ℕ) (line : ℕ) (s : State)
    → Covers scope last (with_literal bytes s)
    → IsFineOperand scope es (literal_place line (length bytes) s.environment.statics)
literal_fine scope last es bytes line s covers =
    let is = covers.literals (length s.literals) _ (get_last s.literals _) in
    let n = s.environment.statics in
    let type = literal_type (length bytes) in
    let e = literal_bytes (length bytes) is.sized in
    complete_kept scope es _ (literal_complete (length bytes))
    (static_fine scope [] [] (no_structures []) line n type (record {
      sized = complete (literal_sized (length bytes) is.sized ∙ ap target.Object (sym e));
      there = is.there;
      kind = ap (λ k. is_named_as k (kind_among [] type)) is.kind
          ∙ ap (λ z. is_named_as (kind.Array (length bytes)) (kind.Array z)) e
          ∙ or_left _ _ (same_kind (kind.Array (length bytes)));
    }))

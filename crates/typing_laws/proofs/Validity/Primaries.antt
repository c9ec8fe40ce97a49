-- Constants, string literals, names and members give what is valid.
use Rattle.std.proofs.Common.{◌≡◌, ℕ, Bool, true, false, ◌&&◌, ◌||◌}
use Rattle.std.proofs.Common.{if◌then◌else◌, refl, sym, ap, ◌∙◌, subst, List, [], ◌∷◌, Option, Some, None, arith}
use Rattle.std.specs.Prelude.{◌==◌, get_or, is_none, not, option_map}
use Rattle.std.proofs.lemmas.Bool.{eq-eqb}
use Rattle.obj_memory.specs.declared.int_type.IntType.{IntType}
use Rattle.obj_memory.specs.declared.int_type.IntType.TheVariants as int
use Rattle.obj_memory.specs.declared.value.Scalar.{Scalar}
use Rattle.obj_memory.specs.declared.value.Scalar.TheVariants as scalar
use Rattle.obj_memory.specs.Integers.{fit}
use Rattle.obj_memory.proofs.Words.{fit_twice}
use Rattle.c_lexer.specs.declared.integer.IntegerConstant.{IntegerConstant}
use Rattle.c_lexer.specs.Constants.{constant_of}
use Rattle.c_lexer.specs.Literals.{character_value}
use Rattle.c_tree.specs.declared.c_type.TypeWord.{TypeWord}
use Rattle.c_tree.specs.declared.c_type.TypeWord.TheVariants as word
use Rattle.c_tree.specs.declared.expression.Kind.{Kind}
use Rattle.c_tree.specs.declared.expression.Kind.TheVariants as kind
use Rattle.c_tree.specs.Extents.{TypeExtent, array_extent, extent_of, structure_extent}
use Rattle.c_tree.specs.Kinds.{is_kind, is_scalar, size_of_kind}
use Rattle.c_tree.specs.Tree.{LvalueNode, automatic, expression, lvalue, plain, static}
use Rattle.c_tree.specs.TypesAgree.{kind_of_type}
use Rattle.c_tree.specs.Valid.{Scope, is_named_as, is_plain, is_unsized as is_unsized_as, is_valid_lvalue_node}
use Rattle.c_tree.specs.Valid.{variable_at}
use Rattle.c_rules.specs.declared.class.Target.TheVariants as target
use Rattle.c_rules.specs.Fine.{IsFine}
use Rattle.c_rules.specs.Types.{object_of, target_of}
use Rattle.c_rules.proofs.FineBinary.{all}
use Rattle.c_rules.proofs.FineConversions.{unqualified_kind}
use Rattle.c_place_rules.specs.Operands.{Place, Variable}
use Rattle.c_place_rules.specs.Targets.{object_kind}
use Rattle.c_place_laws.specs.FinePlaces.{IfFineOperand, IsFineOperand, IsFinePlace, IsFineVariable, IsSized}
use Rattle.c_place_laws.specs.FinePlaces.{complete, is_unsized, unsized}
use Rattle.c_place_laws.proofs.Sizes.{kind_bytes}
use Rattle.c_scope.specs.declared.meaning.Designated.{Designated}
use Rattle.c_scope.specs.declared.meaning.Designated.TheVariants as what
use Rattle.c_scope.specs.declared.meaning.Meaning.{Meaning}
use Rattle.c_scope.specs.declared.meaning.Meaning.TheVariants as meaning
use Rattle.c_operand_typing.specs.Primaries.{character_constant, constant_value, designated, function_named, integer_as}
use Rattle.c_operand_typing.specs.Primaries.{integer_constant, is_aggregate, is_marked, is_undefined, meant, or_zero}
use Rattle.c_operand_typing.specs.Primaries.{earlier_or, place, plain_variable, size_or_zero, type_of_constant}
use Rattle.c_operand_typing.specs.Primaries.{used, used_as, with_use}
use Rattle.c_typing_state.specs.State.{State, extents}
use Rattle.typing_laws.specs.Validity.More.{AreMore}
use Rattle.typing_laws.specs.Validity.Names.{IsDesignated, IsFunctionOf, IsMeant, IsStaticOf, IsVariableOf, kind_among}
use Rattle.typing_laws.proofs.Validity.Common.{neither_left, no_value}
use Rattle.typing_laws.proofs.Validity.Constants.{IsHeld, constant_held, small_int, within_type}
use Rattle.typing_laws.proofs.Validity.Kept.{extent_kept}

pub constant_fine : (scope : Scope) (es : List (Option TypeExtent)) (line : ℕ) (t : IntType) (w : ℕ) → fit t w ≡ w
    → IsFine scope es (constant_value line t w)
constant_fine scope es line t w same = record {
  valid = eq-eqb (fit t w) w same;
  kind = refl;
  bare = refl;
}

integer_by : (scope : Scope) (es : List (Option TypeExtent)) (line : ℕ) (o : Option IntegerConstant) → IsHeld o
    → IsFine scope es (integer_as line o)
integer_by scope es line None h = constant_fine scope es line int.Int 0 (small_int 0 (omega arith))
integer_by scope es line (Some c) h =
    constant_fine scope es line (type_of_constant c.integer_type) c.value (within_type c.integer_type c.value h)

pub integer_fine : (scope : Scope) (es : List (Option TypeExtent)) (spelling : List ℕ) (line : ℕ)
    → IsFine scope es (integer_constant spelling line)
integer_fine scope es spelling line = integer_by scope es line (constant_of spelling) (constant_held spelling)

pub character_fine : (scope : Scope) (es : List (Option TypeExtent)) (spelling : List ℕ) (line : ℕ)
    → IsFine scope es (character_constant spelling line)
character_fine scope es spelling line =
    constant_fine scope es line int.Int (fit int.Int (or_zero (character_value spelling)))
    (fit_twice int.Int (or_zero (character_value spelling)))

-- what a type tells where fewer structures are complete than at the end

none_is : (o : Option TypeExtent) → is_none o ≡ true → o ≡ None
none_is None e = refl
none_is (Some x) e = absurd cc

none_mapped : (f : TypeExtent → TypeExtent) (o : Option TypeExtent) → is_none o ≡ true → option_map f o ≡ None
none_mapped f None e = refl
none_mapped f (Some x) e = absurd cc

none_behind : (f : TypeExtent → TypeExtent) (o : Option TypeExtent) → option_map f o ≡ None → is_none o ≡ true
none_behind f None e = refl
none_behind f (Some x) e = absurd cc

target_by : (es last : List (Option TypeExtent)) (ws : List TypeWord) → extent_of es ws ≡ extent_of last ws
    → target_of es ws ≡ target_of last ws
unfolding extent_of
target_by es last [] e = ap object_of e
target_by es last (word.Void ∷ ws) e = refl
target_by es last (word.Integer t ∷ ws) e = ap object_of e
target_by es last (word.Enumeration n ∷ ws) e = ap object_of e
target_by es last (word.Pointer ∷ ws) e = ap object_of e
target_by es last (word.Array c b ∷ ws) e = ap object_of e
target_by es last (word.OpenArray ∷ ws) e = ap object_of e
target_by es last (word.Structure n ∷ ws) e = ap object_of e
target_by es last (word.Const ∷ ws) e = target_by es last ws e
target_by es last (word.Takes ∷ ws) e = refl
target_by es last (word.Gives ∷ ws) e = refl

unsized_extent : (es : List (Option TypeExtent)) (ws : List TypeWord) → is_unsized es ws ≡ true
    → extent_of es ws ≡ None
unfolding extent_of
unsized_extent es [] u = absurd cc
unsized_extent es (word.Void ∷ ws) u = absurd cc
unsized_extent es (word.Integer t ∷ ws) u = absurd cc
unsized_extent es (word.Enumeration n ∷ ws) u = absurd cc
unsized_extent es (word.Pointer ∷ ws) u = absurd cc
unsized_extent es (word.Array c b ∷ ws) u = none_mapped (array_extent b) (extent_of es ws) u
unsized_extent es (word.OpenArray ∷ ws) u = refl
unsized_extent es (word.Structure n ∷ ws) u = none_is (structure_extent es n) u
unsized_extent es (word.Const ∷ ws) u = unsized_extent es ws u
unsized_extent es (word.Takes ∷ ws) u = absurd cc
unsized_extent es (word.Gives ∷ ws) u = absurd cc

abbrev IsObject : List (Option TypeExtent) → List TypeWord → ℕ → Type 0
IsObject es type size = target_of es type ≡ target.Object size

-- what is complete at the end, and not yet, is an array, a structure or a union
later_unsized : (es last : List (Option TypeExtent)) (ws : List TypeWord) (n : ℕ) → IsObject last ws n
    → extent_of es ws ≡ None → is_unsized es ws ≡ true
unfolding extent_of
later_unsized es last [] n s e = absurd cc
later_unsized es last (word.Void ∷ ws) n s e = absurd cc
later_unsized es last (word.Integer t ∷ ws) n s e = absurd cc
later_unsized es last (word.Enumeration m ∷ ws) n s e = absurd cc
later_unsized es last (word.Pointer ∷ ws) n s e = absurd cc
later_unsized es last (word.Array c b ∷ ws) n s e = none_behind (array_extent b) (extent_of es ws) e
later_unsized es last (word.OpenArray ∷ ws) n s e = refl
later_unsized es last (word.Structure m ∷ ws) n s e = ap is_none e
later_unsized es last (word.Const ∷ ws) n s e = later_unsized es last ws n s e
later_unsized es last (word.Takes ∷ ws) n s e = absurd cc
later_unsized es last (word.Gives ∷ ws) n s e = absurd cc

-- and what is not complete at the end was not before
unsized_before : (es last : List (Option TypeExtent)) → AreMore es last → (ws : List TypeWord)
    → is_unsized last ws ≡ true → extent_of es ws ≡ None → is_unsized es ws ≡ true
unfolding extent_of
unsized_before es last h [] u e = u
unsized_before es last h (word.Void ∷ ws) u e = u
unsized_before es last h (word.Integer t ∷ ws) u e = u
unsized_before es last h (word.Enumeration m ∷ ws) u e = u
unsized_before es last h (word.Pointer ∷ ws) u e = u
unsized_before es last h (word.Array c b ∷ ws) u e = none_behind (array_extent b) (extent_of es ws) e
unsized_before es last h (word.OpenArray ∷ ws) u e = refl
unsized_before es last h (word.Structure m ∷ ws) u e = ap is_none e
unsized_before es last h (word.Const ∷ ws) u e = unsized_before es last h ws u e
unsized_before es last h (word.Takes ∷ ws) u e = u
unsized_before es last h (word.Gives ∷ ws) u e = u

unsized_bytes : (es : List (Option TypeExtent)) (ws : List TypeWord) → is_unsized es ws ≡ true
    → size_of_kind (object_kind 0 ws) ≡ 0
unsized_bytes es [] u = absurd cc
unsized_bytes es (word.Void ∷ ws) u = absurd cc
unsized_bytes es (word.Integer t ∷ ws) u = absurd cc
unsized_bytes es (word.Enumeration m ∷ ws) u = absurd cc
unsized_bytes es (word.Pointer ∷ ws) u = absurd cc
unsized_bytes es (word.Array c b ∷ ws) u = refl
unsized_bytes es (word.OpenArray ∷ ws) u = refl
unsized_bytes es (word.Structure m ∷ ws) u = refl
unsized_bytes es (word.Const ∷ ws) u = unsized_bytes es ws u
unsized_bytes es (word.Takes ∷ ws) u = absurd cc
unsized_bytes es (word.Gives ∷ ws) u = absurd cc

-- a name of no bytes stands for an array or a structure as one of its bytes does

pub or_true : (b : Bool) → (b || true) ≡ true
or_true true = refl
or_true false = refl

array_unsized : (declared : Kind) (n : ℕ) → is_named_as declared (kind.Array n) ≡ true
    → is_named_as declared (kind.Array 0) ≡ true
array_unsized kind.Void n e = absurd cc
array_unsized (kind.Scalar (scalar.Integer t)) n e = absurd cc
array_unsized (kind.Scalar scalar.Pointer) n e = absurd cc
array_unsized (kind.Structure m) n e = absurd cc
array_unsized (kind.Array m) n e = or_true (m == 0)

structure_unsized : (declared : Kind) (n : ℕ) → is_named_as declared (kind.Structure n) ≡ true
    → is_named_as declared (kind.Structure 0) ≡ true
structure_unsized kind.Void n e = absurd cc
structure_unsized (kind.Scalar (scalar.Integer t)) n e = absurd cc
structure_unsized (kind.Scalar scalar.Pointer) n e = absurd cc
structure_unsized (kind.Structure m) n e = or_true (m == 0)
structure_unsized (kind.Array m) n e = absurd cc

named_unsized : (es : List (Option TypeExtent)) (declared : Kind) (ws : List TypeWord) (n : ℕ)
    → is_unsized es ws ≡ true → is_named_as declared (object_kind n ws) ≡ true
    → is_named_as declared (object_kind 0 ws) ≡ true
named_unsized es declared [] n u e = absurd cc
named_unsized es declared (word.Void ∷ ws) n u e = absurd cc
named_unsized es declared (word.Integer t ∷ ws) n u e = absurd cc
named_unsized es declared (word.Enumeration m ∷ ws) n u e = absurd cc
named_unsized es declared (word.Pointer ∷ ws) n u e = absurd cc
named_unsized es declared (word.Array c b ∷ ws) n u e = array_unsized declared n e
named_unsized es declared (word.OpenArray ∷ ws) n u e = array_unsized declared n e
named_unsized es declared (word.Structure m ∷ ws) n u e = structure_unsized declared n e
named_unsized es declared (word.Const ∷ ws) n u e = named_unsized es declared ws n u e
named_unsized es declared (word.Takes ∷ ws) n u e = absurd cc
named_unsized es declared (word.Gives ∷ ws) n u e = absurd cc

abbrev size_among : List (Option TypeExtent) → List TypeWord → ℕ
size_among es ws = size_or_zero (extent_of es ws)

-- what holds of a type at the end holds of it where fewer structures are complete: the bytes that are counted of it,
-- and
-- the kind under which an object is named
record Before (es last : List (Option TypeExtent)) (ws : List TypeWord) : Type 0 where
  sized : IsSized es ws (size_among es ws)
  named : (declared : Kind) → is_named_as declared (kind_among last ws) ≡ true
      → is_named_as declared (kind_among es ws) ≡ true

unsized_now : (es last : List (Option TypeExtent)) → AreMore es last → (ws : List TypeWord)
    → IsSized last ws (size_among last ws) → extent_of es ws ≡ None → is_unsized es ws ≡ true
unsized_now es last h ws (complete s) e = later_unsized es last ws (size_among last ws) s e
unsized_now es last h ws (unsized u z) e = unsized_before es last h ws u e

sized_still : (es last : List (Option TypeExtent)) (ws : List TypeWord) (x : TypeExtent)
    → extent_of es ws ≡ Some x → extent_of last ws ≡ Some x → IsSized last ws (size_among last ws)
    → IsSized es ws (size_among es ws)
sized_still es last ws x e g (complete s) =
    complete (target_by es last ws (e ∙ sym g) ∙ s ∙ ap (λ o. target.Object (size_or_zero o)) (g ∙ sym e))
sized_still es last ws x e g (unsized u z) = no_value x _ (sym (unsized_extent last ws u) ∙ g)

before_by : (es last : List (Option TypeExtent)) → AreMore es last → (ws : List TypeWord)
    → IsSized last ws (size_among last ws) → (o : Option TypeExtent) → extent_of es ws ≡ o → Before es last ws
before_by es last h ws s None e =
    let u = unsized_now es last h ws s e in
    record {
      sized = unsized u (ap size_or_zero e);
      named = λ declared is.
          subst (λ o. is_named_as declared (object_kind (size_or_zero o) ws) ≡ true) (sym e)
          (named_unsized es declared ws (size_among last ws) u is);
    }
before_by es last h ws s (Some x) e =
    let g = extent_kept es last h ws x e in
    record {
      sized = sized_still es last ws x e g s;
      named = λ declared is.
          subst (λ o. is_named_as declared (object_kind (size_or_zero o) ws) ≡ true) (g ∙ sym e) is;
    }

before : (es last : List (Option TypeExtent)) → AreMore es last → (ws : List TypeWord)
    → IsSized last ws (size_among last ws) → Before es last ws
before es last h ws s = before_by es last h ws s (extent_of es ws) refl

-- lvalues

abbrev placed : (es : List (Option TypeExtent)) (line : ℕ) → List TypeWord → LvalueNode → Place
placed es line type node = record { type = type; tree = lvalue (kind_among es type) line node }

counted : (es : List (Option TypeExtent)) (ws : List TypeWord) (n : ℕ) → IsSized es ws n
    → size_of_kind (object_kind n ws) ≡ n
counted es ws n (complete s) = kind_bytes es ws n s
counted es ws n (unsized u z) =
    ap (λ m. size_of_kind (object_kind m ws)) z ∙ unsized_bytes es ws u ∙ sym z

place_fine : (scope : Scope) (es : List (Option TypeExtent)) (line : ℕ) (type : List TypeWord) (node : LvalueNode)
    → IsSized es type (size_among es type) → is_valid_lvalue_node scope node (kind_among es type) ≡ true
    → IsFinePlace scope es (placed es line type node)
place_fine scope es line type node sized valid =
    let bytes = counted es type (size_among es type) sized in
    record {
      valid = valid;
      sized = subst (IsSized es type) (sym bytes) sized;
      kind = ap (λ n. object_kind n type) (sym bytes);
    }

pub static_fine : (scope : Scope) (last es : List (Option TypeExtent)) → AreMore es last → (line n : ℕ)
    (type : List TypeWord) → IsStaticOf scope last n type → IsFinePlace scope es (placed es line type (static n))
static_fine scope last es h line n type is =
    let b = before es last h type is.sized in
    place_fine scope es line type (static n) b.sized
    (all is.there (b.named (get_or scope.statics n kind.Void) is.kind))

-- variables

pub scalar_by : (es : List (Option TypeExtent)) (type : List TypeWord) (size : ℕ) → IsObject es type size
    → is_aggregate type ≡ false → is_scalar (object_kind size type) ≡ true
unfolding extent_of
scalar_by es [] size e f = absurd cc
scalar_by es (word.Void ∷ ws) size e f = absurd cc
scalar_by es (word.Integer t ∷ ws) size e f = refl
scalar_by es (word.Enumeration n ∷ ws) size e f = refl
scalar_by es (word.Pointer ∷ ws) size e f = refl
scalar_by es (word.Array c b ∷ ws) size e f = absurd cc
scalar_by es (word.OpenArray ∷ ws) size e f = absurd cc
scalar_by es (word.Structure n ∷ ws) size e f = absurd cc
scalar_by es (word.Const ∷ ws) size e f = scalar_by es ws size e f
scalar_by es (word.Takes ∷ ws) size e f = absurd cc
scalar_by es (word.Gives ∷ ws) size e f = absurd cc

kind_by : (es : List (Option TypeExtent)) (type : List TypeWord) (size : ℕ) → IsObject es type size
    → is_aggregate type ≡ false → kind_of_type es type ≡ Some (object_kind size type)
unfolding extent_of
kind_by es [] size e f = absurd cc
kind_by es (word.Void ∷ ws) size e f = absurd cc
kind_by es (word.Integer t ∷ ws) size e f = refl
kind_by es (word.Enumeration n ∷ ws) size e f = refl
kind_by es (word.Pointer ∷ ws) size e f = refl
kind_by es (word.Array c b ∷ ws) size e f = absurd cc
kind_by es (word.OpenArray ∷ ws) size e f = absurd cc
kind_by es (word.Structure n ∷ ws) size e f = absurd cc
kind_by es (word.Const ∷ ws) size e f = kind_by es ws size e f
kind_by es (word.Takes ∷ ws) size e f = absurd cc
kind_by es (word.Gives ∷ ws) size e f = absurd cc

abbrev plain_of : (es : List (Option TypeExtent)) (line n : ℕ) → List TypeWord → Variable
plain_of es line n type = record {
  type = type;
  name = record { variable = n; parentheses = 0 };
  tree = expression (object_kind (size_or_zero (extent_of es type)) type) line (plain n);
}

never : {P : Type 0} (b : Bool) → b ≡ true → b ≡ false → P
never b e f = absurd cc

unsized_aggregate : (es : List (Option TypeExtent)) (ws : List TypeWord) → is_unsized es ws ≡ true
    → is_aggregate ws ≡ true
unsized_aggregate es [] u = absurd cc
unsized_aggregate es (word.Void ∷ ws) u = absurd cc
unsized_aggregate es (word.Integer t ∷ ws) u = absurd cc
unsized_aggregate es (word.Enumeration m ∷ ws) u = absurd cc
unsized_aggregate es (word.Pointer ∷ ws) u = absurd cc
unsized_aggregate es (word.Array c b ∷ ws) u = refl
unsized_aggregate es (word.OpenArray ∷ ws) u = refl
unsized_aggregate es (word.Structure m ∷ ws) u = refl
unsized_aggregate es (word.Const ∷ ws) u = unsized_aggregate es ws u
unsized_aggregate es (word.Takes ∷ ws) u = absurd cc
unsized_aggregate es (word.Gives ∷ ws) u = absurd cc

single_object : (es : List (Option TypeExtent)) (ws : List TypeWord) (n : ℕ) → IsSized es ws n
    → is_aggregate ws ≡ false → IsObject es ws n
single_object es ws n (complete s) f = s
single_object es ws n (unsized u z) f = never (is_aggregate ws) (unsized_aggregate es ws u) f

-- a scalar is named as what it is
unsized_scalar : (declared : Kind) (s : Scalar) → is_unsized_as declared (kind.Scalar s) ≡ false
unsized_scalar kind.Void s = refl
unsized_scalar (kind.Scalar r) s = refl
unsized_scalar (kind.Structure n) s = refl
unsized_scalar (kind.Array n) s = refl

either : (a b : Bool) → b ≡ false → (a || b) ≡ true → a ≡ true
either true b f e = refl
either false b f e = never b e f

named_scalar : (declared named : Kind) → is_scalar named ≡ true → is_named_as declared named ≡ true
    → is_kind declared named ≡ true
named_scalar declared kind.Void s e = absurd cc
named_scalar declared (kind.Scalar r) s e =
    either (is_kind declared (kind.Scalar r)) (is_unsized_as declared (kind.Scalar r)) (unsized_scalar declared r) e
named_scalar declared (kind.Structure n) s e = absurd cc
named_scalar declared (kind.Array n) s e = absurd cc

plain_fine : (scope : Scope) (last : List (Option TypeExtent)) (s : State) → AreMore (extents s) last → (line n : ℕ)
    (type : List TypeWord) → IsVariableOf scope last s n type → (is_aggregate type || is_marked s.objects n) ≡ false
    → IsFineVariable scope (extents s) (plain_of (extents s) line n type)
plain_fine scope last s h line n type is e =
    let es = extents s in
    let b = before es last h type is.sized in
    let single = neither_left (is_aggregate type) (is_marked s.objects n) e in
    let sized = single_object es type (size_among es type) b.sized single in
    let scalar = scalar_by es type (size_among es type) sized single in
    let declared = (variable_at scope n).kind in
    let ok : is_plain scope n (kind_among es type) ≡ true =
    all (all (ap not (is.object ∙ e)) (named_scalar declared (kind_among es type) scalar (b.named declared is.kind)))
    scalar in
    record {
      value = record {
        valid = ok;
        kind = unqualified_kind es type ∙ kind_by es type (size_among es type) sized single;
        bare = refl;
      };
      plain = ok;
    }

automatic_fine : (scope : Scope) (last : List (Option TypeExtent)) (s : State) → AreMore (extents s) last → (line n : ℕ)
    (type : List TypeWord) → IsVariableOf scope last s n type → (is_aggregate type || is_marked s.objects n) ≡ true
    → IsFinePlace scope (extents s) (placed (extents s) line type (automatic n))
automatic_fine scope last s h line n type is e =
    let b = before (extents s) last h type is.sized in
    place_fine scope (extents s) line type (automatic n) b.sized
    (all (is.object ∙ e) (b.named (variable_at scope n).kind is.kind))

variable_by : (scope : Scope) (last : List (Option TypeExtent)) (s : State) → AreMore (extents s) last → (line n : ℕ)
    (type : List TypeWord) → IsVariableOf scope last s n type → (b : Bool)
    → (is_aggregate type || is_marked s.objects n) ≡ b → IsFineOperand scope (extents s)
    (if b then place (extents s) line type (automatic n) else plain_variable (extents s) line n type)
variable_by scope last s h line n type is true e = automatic_fine scope last s h line n type is e
variable_by scope last s h line n type is false e = plain_fine scope last s h line n type is e

-- names

function_fine : (scope : Scope) (last es : List (Option TypeExtent)) (line n : ℕ) (type : List TypeWord)
    → IsFunctionOf scope last n type → IsFineOperand scope es (function_named line n type)
function_fine scope last es line n type is = record { valid = all is.has.there refl; kind = refl; bare = refl }

-- a function that is used is defined

earlier_some : (o : Option ℕ) (line : ℕ) (P : Type 0) → earlier_or o line ≡ None → P
earlier_some None line P e = cc
earlier_some (Some n) line P e = cc

pub defined_by : (line : ℕ) (s : State) (b : Bool) → (if b then with_use line s else s).undefined ≡ None → b ≡ false
defined_by line s true e = earlier_some s.undefined line (true ≡ false) e
defined_by line s false e = refl

designated_fine : (scope : Scope) (last : List (Option TypeExtent)) (line : ℕ) (w : Designated)
    (type : List TypeWord) (s : State) → AreMore (extents s) last
    → IsDesignated scope last s w type → (used true line w s).undefined ≡ None
    → IfFineOperand scope (extents s) (designated true line w type s)
designated_fine scope last line (what.Object n) type s h is unused =
    static_fine scope last (extents s) h line n type is
designated_fine scope last line (what.Static n) type s h is unused =
    static_fine scope last (extents s) h line n type is
designated_fine scope last line (what.Function n) type s h is unused =
    function_fine scope last (extents s) line n type (is (defined_by line s (is_undefined n s) unused))
designated_fine scope last line (what.Library f) type s h is unused = tt
designated_fine scope last line (what.Variable n) type s h is unused =
    variable_by scope last s h line n type is (is_aggregate type || is_marked s.objects n) refl

pub meant_fine : (scope : Scope) (last : List (Option TypeExtent)) (line : ℕ) (m : Option Meaning) (s : State)
    → AreMore (extents s) last → IsMeant scope last s m
    → (used_as true line m s).undefined ≡ None → IfFineOperand scope (extents s) (meant true line m s)
meant_fine scope last line None s h is unused = tt
meant_fine scope last line (Some (meaning.Typedef type)) s h is unused = tt
meant_fine scope last line (Some (meaning.Constant w)) s h is unused = constant_fine scope (extents s) line int.Int w is
meant_fine scope last line (Some (meaning.Named w type)) s h is unused =
    designated_fine scope last line w type s h is unused

use_extents : (b : Bool) (line : ℕ) (s : State) → extents (if b then with_use line s else s) ≡ extents s
use_extents true line s = refl
use_extents false line s = refl

pub used_extents : (is : Bool) (line : ℕ) (m : Option Meaning) (s : State)
    → extents (used_as is line m s) ≡ extents s
used_extents is line None s = refl
used_extents is line (Some (meaning.Typedef type)) s = refl
used_extents is line (Some (meaning.Constant w)) s = refl
used_extents is line (Some (meaning.Named (what.Object n) type)) s = refl
used_extents is line (Some (meaning.Named (what.Static n) type)) s = refl
used_extents is line (Some (meaning.Named (what.Function n) type)) s = use_extents (is && is_undefined n s) line s
used_extents is line (Some (meaning.Named (what.Library f) type)) s = refl
used_extents is line (Some (meaning.Named (what.Variable n) type)) s = refl

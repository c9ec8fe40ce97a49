-- The types of values.
use Rattle.std.proofs.Common.{◌≡◌, ℕ, Bool, true, false, List, Option, Some, None, subst, if◌then◌else◌}
use Rattle.std.specs.Prelude.{IfSome}
use Rattle.c_lexer.specs.declared.integer.IntegerConstant.{IntegerConstant}
use Rattle.c_lexer.specs.Constants.{constant_of}
use Rattle.c_lexer.specs.Literals as literals
use Rattle.obj_memory.specs.declared.int_type.IntType.{IntType}
use Rattle.obj_memory.specs.declared.int_type.IntType.TheVariants.{Long, UnsignedLong}
use Rattle.obj_memory.specs.declared.operator.UnaryOperator.{UnaryOperator}
use Rattle.obj_memory.specs.declared.operator.UnaryOperator.TheVariants.{Not}
use Rattle.obj_memory.specs.Integers.{common_type, balanced_type, promoted, mixed_type, is_signed, rank, size_of}
use Rattle.c_syntax.specs.Tree.{Expression}
use Rattle.c_syntax.specs.Tree as t
use Rattle.c_conditions.specs.declared.operator.Operator.{Operator}
use Rattle.c_conditions.specs.declared.operator.Operator.TheVariants.{Arithmetic, Shift, Comparison, And, Or}
use Rattle.c_conditions.specs.declared.value.Value.{Value}
use Rattle.c_conditions.specs.Operators.{operator_of, prefix_of}
use Rattle.c_conditions.specs.Values.{IsWidest, constant_value, character_value, prefixed}
use Rattle.c_conditions.specs.Values.{combined, ◌>>=◌, value_of}

abbrev Wide : Option Value → Type 0
Wide o = IfSome o (λ v. IsWidest v.integer_type)

either : (b : Bool) → IsWidest (if b then UnsignedLong else Long)
either true = tt
either false = tt

common_is_widest : (a b : IntType) → IsWidest a → IsWidest b → IsWidest (common_type a b)
unfolding common_type balanced_type promoted mixed_type is_signed rank size_of
common_is_widest Long Long p q = tt
common_is_widest Long UnsignedLong p q = tt
common_is_widest UnsignedLong Long p q = tt
common_is_widest UnsignedLong UnsignedLong p q = tt
common_is_widest Long _ p q = absurd q
common_is_widest UnsignedLong _ p q = absurd q
common_is_widest _ b p q = absurd p

of_constant : (z : List ℕ) (c : Option IntegerConstant) → Wide (constant_value z c)
of_constant z None = tt
of_constant z (Some c) = either _

of_character : (v : Option ℕ) → Wide (character_value v)
of_character None = tt
of_character (Some v) = tt

of_prefix : (op : UnaryOperator) (v : Value) → IsWidest v.integer_type → IsWidest (prefixed op v).integer_type
of_prefix Not v p = tt
of_prefix _ v p = p

of_operator : (op : Operator) (a b : Value) → IsWidest a.integer_type → IsWidest b.integer_type
    → IsWidest (combined op a b).integer_type
of_operator (Arithmetic op) a b p q = common_is_widest a.integer_type b.integer_type p q
of_operator (Shift op) a b p q = p
of_operator (Comparison op) a b p q = tt
of_operator And a b p q = tt
of_operator Or a b p q = tt

-- one part, and then another
whatever : {A : Type 0} (o : Option A) (f : A → Option Value) → ((x : A) → Wide (f x)) → Wide (o >>= f)
whatever None f g = tt
whatever (Some x) f g = g x

behind : (o : Option Value) (f : Value → Option Value) → Wide o → ((v : Value) → IsWidest v.integer_type → Wide (f v))
    → Wide (o >>= f)
behind None f p g = tt
behind (Some v) f p g = g v p

widest : (e : Expression) → Wide (value_of e)
widest (t.integer x) = of_constant x.spelling (constant_of x.spelling)
widest (t.character x) = of_character (literals.character_value x.spelling)
widest (t.parenthesized l e r) = widest e
widest (t.unary w at e) =
    whatever (prefix_of w) _ (λ op. behind (value_of e) _ (widest e) (λ v p. of_prefix op v p))
widest (t.binary a w at b) =
    whatever (operator_of w) _ (λ op. behind (value_of a) _ (widest a)
    (λ x p. behind (value_of b) _ (widest b) (λ y q. of_operator op x y p q)))
widest (t.conditional c q a colon b) =
    behind (value_of c) _ (widest c) (λ z o. behind (value_of a) _ (widest a)
    (λ x p. behind (value_of b) _ (widest b) (λ y q. common_is_widest x.integer_type y.integer_type p q)))
widest _ = tt

pub is_widest : (e : Expression) (v : Value) → value_of e ≡ Some v → IsWidest v.integer_type
is_widest e v h = subst Wide h (widest e)

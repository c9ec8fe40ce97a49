-- What operators give is of the type of their result.
use Rattle.std.proofs.Common.{◌≡◌, ℕ, true, ◌==◌, IfSome, refl, sym, ◌∙◌, subst}
use Rattle.obj_memory.specs.declared.int_type.IntType.{IntType}
use Rattle.obj_memory.specs.declared.int_type.IntType.TheVariants.{Int}
use Rattle.obj_memory.specs.declared.operator.UnaryOperator.{UnaryOperator}
use Rattle.obj_memory.specs.declared.operator.UnaryOperator.TheVariants.{Plus, Negate, Complement, Not}
use Rattle.obj_memory.specs.declared.operator.BinaryOperator.{BinaryOperator}
use Rattle.obj_memory.specs.declared.operator.BinaryOperator.TheVariants.{Add, Subtract, Multiply, Divide, Remainder}
use Rattle.obj_memory.specs.declared.operator.BinaryOperator.TheVariants.{ShiftLeft, ShiftRight, BitAnd, BitXor, BitOr}
use Rattle.obj_memory.specs.declared.operator.BinaryOperator.TheVariants.{Less, Greater, LessOrEqual, GreaterOrEqual}
use Rattle.obj_memory.specs.declared.operator.BinaryOperator.TheVariants.{Equal, NotEqual}
use Rattle.obj_memory.specs.declared.value.Scalar.TheVariants.{Integer, Pointer}
use Rattle.obj_memory.specs.declared.value.Value.{Value}
use Rattle.obj_memory.specs.Integers.{fit}
use Rattle.obj_memory.specs.Operators.{unary_value, binary_value}
use Rattle.obj_memory.proofs.Words.{fit_twice}
use Rattle.obj_memory.proofs.Typed.{truth_stays, shift_stays, binary_stays}
use Rattle.c_tree.specs.declared.expression.Kind.{Kind}
use Rattle.c_tree.specs.declared.expression.Kind.TheVariants.{Void, Scalar as OfScalar, Structure, Array}
use Rattle.c_tree.specs.Kinds.{integer, is_kind, is_promoted, is_scalar, Arithmetic, Shift, Comparison, class_of}
use Rattle.c_tree.specs.Kinds.{are_operands}
use Rattle.c_tree.specs.Valid.{is_operand}
use Rattle.source_meaning.specs.Actions.{scalar_of, integer_type}
use Rattle.source_meaning.specs.Good.{IsOfKind}
use Rattle.source_meaning.proofs.ValidNames.{both, three, never, same_kind}

promoted_type : (k : Kind) → is_promoted k ≡ true → (t : IntType) × (k ≡ OfScalar (Integer t))
promoted_type Void e = never e
promoted_type (OfScalar (Integer t)) e = (t, refl)
promoted_type (OfScalar Pointer) e = never e
promoted_type (Structure n) e = never e
promoted_type (Array n) e = never e

-- unary operators

-- the type of a result, of which each value is one
abbrev pub UnaryFits : UnaryOperator → (operand result : Kind) → Type 0
UnaryFits op k result = (t : IntType) × (result ≡ OfScalar (Integer t)) × ((w : ℕ)
    → fit t (unary_value op (integer_type (scalar_of k)) w) ≡ unary_value op (integer_type (scalar_of k)) w)

same_unary : (op : UnaryOperator) (k result : Kind)
    → ((t : IntType) (w : ℕ) → fit t (unary_value op t w) ≡ unary_value op t w) → is_promoted k ≡ true
    → is_kind result k ≡ true → UnaryFits op k result
same_unary op k result fits e same =
    let p = promoted_type k e in (
      p.0,
      same_kind result k same ∙ p.1,
      λ w. subst
          (λ z. fit p.0 (unary_value op (integer_type (scalar_of z)) w) ≡ unary_value op (integer_type (scalar_of z)) w)
          (sym p.1) (fits p.0 w),
    )

plus_fits : (t : IntType) (w : ℕ) → fit t (unary_value Plus t w) ≡ unary_value Plus t w
unfolding unary_value
plus_fits t w = fit_twice t _

negate_fits : (t : IntType) (w : ℕ) → fit t (unary_value Negate t w) ≡ unary_value Negate t w
unfolding unary_value
negate_fits t w = fit_twice t _

complement_fits : (t : IntType) (w : ℕ) → fit t (unary_value Complement t w) ≡ unary_value Complement t w
unfolding unary_value
complement_fits t w = fit_twice t _

not_fits : (t : IntType) (w : ℕ) → fit Int (unary_value Not t w) ≡ unary_value Not t w
unfolding unary_value
not_fits t w = truth_stays Int (w == 0)

pub unary_fits : (op : UnaryOperator) (k result : Kind) → is_operand op k result ≡ true → UnaryFits op k result
unary_fits Plus k result e = let h =
    both (is_promoted k) (is_kind result k) e in same_unary Plus k result plus_fits h.0 h.1
unary_fits Negate k result e = let h =
    both (is_promoted k) (is_kind result k) e in same_unary Negate k result negate_fits h.0 h.1
unary_fits Complement k result e = let h =
    both (is_promoted k) (is_kind result k) e in same_unary Complement k result complement_fits h.0 h.1
unary_fits Not k result e =
    let h = both (is_scalar k) (is_kind result (integer Int)) e in
    (Int, same_kind result (integer Int) h.1, λ w. not_fits (integer_type (scalar_of k)) w)

-- binary operators

abbrev pub BinaryFits : BinaryOperator → (left right result : Kind) → Type 0
BinaryFits op k l result = (t : IntType) × (result ≡ OfScalar (Integer t))
    × ((functions : ℕ) (x y : Value) → IsOfKind functions k x → IsOfKind functions l y
    → IfSome (binary_value op (integer_type (scalar_of k)) x.word y.word) (λ w. fit t w ≡ w))

arithmetic_fits : (op : BinaryOperator) (k l result : Kind) → are_operands Arithmetic k l result ≡ true
    → BinaryFits op k l result
arithmetic_fits op k l result e =
    let h = three (is_promoted k) (is_kind k l) (is_kind result k) e in
    let p = promoted_type k h.0 in (
      p.0,
      same_kind result k h.2 ∙ p.1,
      λ functions x y hx hy.
          let left = subst (λ z. IsOfKind functions z x) p.1 hx in
          let right = subst (λ z. IsOfKind functions z y) (sym (same_kind k l h.1) ∙ p.1) hy in
          subst (λ z. IfSome (binary_value op (integer_type (scalar_of z)) x.word y.word) (λ w. fit p.0 w ≡ w))
          (sym p.1) (binary_stays op p.0 x.word y.word left.1 right.1),
    )

shift_fits : (op : BinaryOperator)
    → ((t : IntType) (x y : ℕ) → fit t x ≡ x → IfSome (binary_value op t x y) (λ w. fit t w ≡ w)) → (k l result : Kind)
    → are_operands Shift k l result ≡ true → BinaryFits op k l result
shift_fits op fits k l result e =
    let h = three (is_promoted k) (is_promoted l) (is_kind result k) e in
    let p = promoted_type k h.0 in (
      p.0,
      same_kind result k h.2 ∙ p.1,
      λ functions x y hx hy.
          let left = subst (λ z. IsOfKind functions z x) p.1 hx in
          subst (λ z. IfSome (binary_value op (integer_type (scalar_of z)) x.word y.word) (λ w. fit p.0 w ≡ w))
          (sym p.1) (fits p.0 x.word y.word left.1),
    )

left_fits : (t : IntType) (x y : ℕ) → fit t x ≡ x → IfSome (binary_value ShiftLeft t x y) (λ w. fit t w ≡ w)
unfolding binary_value
left_fits t x y h = fit_twice t _

right_fits : (t : IntType) (x y : ℕ) → fit t x ≡ x → IfSome (binary_value ShiftRight t x y) (λ w. fit t w ≡ w)
unfolding binary_value
right_fits t x y h = shift_stays t x _ h

-- truth is an int
abbrev Compares : BinaryOperator → Type 0
Compares op = (t : IntType) (x y : ℕ) → IfSome (binary_value op t x y) (λ w. fit Int w ≡ w)

compare_fits : (op : BinaryOperator) → Compares op → (k l result : Kind) → are_operands Comparison k l result ≡ true
    → BinaryFits op k l result
compare_fits op truth k l result e =
    let h = three _ (is_kind k l) (is_kind result (integer Int)) e in
    (Int, same_kind result (integer Int) h.2, λ functions x y hx hy. truth (integer_type (scalar_of k)) x.word y.word)

less_compares : Compares Less
unfolding binary_value
less_compares t x y = truth_stays Int _

greater_compares : Compares Greater
unfolding binary_value
greater_compares t x y = truth_stays Int _

no_more_compares : Compares LessOrEqual
unfolding binary_value
no_more_compares t x y = truth_stays Int _

no_less_compares : Compares GreaterOrEqual
unfolding binary_value
no_less_compares t x y = truth_stays Int _

equal_compares : Compares Equal
unfolding binary_value
equal_compares t x y = truth_stays Int _

not_equal_compares : Compares NotEqual
unfolding binary_value
not_equal_compares t x y = truth_stays Int _

pub binary_fits : (op : BinaryOperator) (k l result : Kind) → are_operands (class_of op) k l result ≡ true
    → BinaryFits op k l result
binary_fits Add k l result e = arithmetic_fits Add k l result e
binary_fits Subtract k l result e = arithmetic_fits Subtract k l result e
binary_fits Multiply k l result e = arithmetic_fits Multiply k l result e
binary_fits Divide k l result e = arithmetic_fits Divide k l result e
binary_fits Remainder k l result e = arithmetic_fits Remainder k l result e
binary_fits ShiftLeft k l result e = shift_fits ShiftLeft left_fits k l result e
binary_fits ShiftRight k l result e = shift_fits ShiftRight right_fits k l result e
binary_fits BitAnd k l result e = arithmetic_fits BitAnd k l result e
binary_fits BitXor k l result e = arithmetic_fits BitXor k l result e
binary_fits BitOr k l result e = arithmetic_fits BitOr k l result e
binary_fits Less k l result e = compare_fits Less less_compares k l result e
binary_fits Greater k l result e = compare_fits Greater greater_compares k l result e
binary_fits LessOrEqual k l result e = compare_fits LessOrEqual no_more_compares k l result e
binary_fits GreaterOrEqual k l result e = compare_fits GreaterOrEqual no_less_compares k l result e
binary_fits Equal k l result e = compare_fits Equal equal_compares k l result e
binary_fits NotEqual k l result e = compare_fits NotEqual not_equal_compares k l result e

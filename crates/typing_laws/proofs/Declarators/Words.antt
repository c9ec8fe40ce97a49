-- What operators make of operands whose constants are words has constants that are words.
use Rattle.std.proofs.Common.{◌≡◌, ℕ, ◌+◌, ◌-◌, ◌%◌, ◌^◌, ◌<◌, ◌≤◌, Bool, true, false, ◌&&◌, ◌||◌, ◌==◌, refl, sym, ap}
use Rattle.std.proofs.Common.{◌∙◌, subst, Option, Some, None, if◌then◌else◌, nat_le, arith}
use Rattle.std.specs.Prelude.{IfSome, nat_lt, option_map}
use Rattle.std.proofs.lemmas.Bool.{leb-true, ltb-true}
use Rattle.obj_memory.specs.declared.int_type.IntType.{IntType}
use Rattle.obj_memory.specs.declared.int_type.IntType.TheVariants.{Int}
use Rattle.obj_memory.specs.declared.operator.BinaryOperator.{BinaryOperator}
use Rattle.obj_memory.specs.declared.operator.UnaryOperator.{UnaryOperator}
use Rattle.obj_memory.specs.Integers.{fit}
use Rattle.obj_memory.specs.Operators.{unary_value, binary_value}
use Rattle.obj_memory.proofs.Words.{binary_below, fit_below, unary_below}
use Rattle.c_tree.specs.declared.expression.Kind.{Kind}
use Rattle.c_tree.specs.Tree as tree
use Rattle.c_tree.specs.Tree.{Expression, Node, expression, kind_of}
use Rattle.c_const.specs.Integers.{constant_word, has_form, node_value, truth, type_of, value_of, with_value}
use Rattle.c_rules.specs.Values.{Value}
use Rattle.c_declarator_typing.specs.Sizes.{enumeration_value, has_sign, is_int, next_value, provided}
use Rattle.typing_laws.specs.Declarators.Given.{HasWords, IsIntIf, NodeHasWords}

abbrev IsWordIf : Option ℕ → Type 0
IsWordIf o = IfSome o (λ w. w < 2 ^ 64)

fitted : (t : IntType) (o : Option ℕ) → IsWordIf (option_map (fit t) o)
fitted t None = tt
fitted t (Some w) = fit_below t w

unary_word : (op : UnaryOperator) (t : IntType) (o : Option ℕ) → IsWordIf (option_map (unary_value op t) o)
unary_word op t None = tt
unary_word op t (Some w) = unary_below op t w

binary_word : (op : BinaryOperator) (t : IntType) (x y : Option ℕ) → IsWordIf x → IsWordIf y
    → IsWordIf (with_value x (λ x. with_value y (binary_value op t x)))
binary_word op t None y p q = tt
binary_word op t (Some x) None p q = tt
binary_word op t (Some x) (Some y) p q = binary_below op t x y p q

either_word : (b : Bool) (x y : Option ℕ) → IsWordIf x → IsWordIf y → IsWordIf (if b then x else y)
either_word true x y p q = p
either_word false x y p q = q

bit_word : (b : Bool) → (if b then 0 else 1) < 2 ^ 64
bit_word true = omega arith
bit_word false = omega arith

truth_word : (o : Option ℕ) → IsWordIf (truth o)
truth_word None = tt
truth_word (Some w) = bit_word (w == 0)

zero_word : IsWordIf (Some 0)
zero_word = omega arith

one_word : IsWordIf (Some 1)
one_word = omega arith

and_word : (x y : Option ℕ) → IsWordIf (with_value x (λ x. if x == 0 then Some 0 else truth y))
and_word None y = tt
and_word (Some x) y = either_word (x == 0) (Some 0) (truth y) zero_word (truth_word y)

or_word : (x y : Option ℕ) → IsWordIf (with_value x (λ x. if x == 0 then truth y else Some 1))
or_word None y = tt
or_word (Some x) y = either_word (x == 0) (truth y) (Some 1) (truth_word y) one_word

choice_word : (x y z : Option ℕ) → IsWordIf y → IsWordIf z → IsWordIf (with_value x (λ x. if x == 0 then z else y))
choice_word None y z p q = tt
choice_word (Some x) y z p q = either_word (x == 0) z y q p

mutual
  value_word : (e : Expression) → HasWords e → IsWordIf (value_of e)
  value_word (expression k line node) h = node_word k node h

  node_word : (k : Kind) (node : Node) → NodeHasWords node → IsWordIf (node_value k node)
  node_word k (tree.constant w) h = h
  node_word k (tree.parenthesized e) h = value_word e h
  node_word k (tree.cast e) h = fitted (type_of k) (value_of e)
  node_word k (tree.convert e) h = fitted (type_of k) (value_of e)
  node_word k (tree.unary op e) h = unary_word op (type_of (kind_of e)) (value_of e)
  node_word k (tree.binary op a b) h =
      binary_word op (type_of (kind_of a)) (value_of a) (value_of b) (value_word a h.0) (value_word b h.1)
  node_word k (tree.logical_and a b) h = and_word (value_of a) (value_of b)
  node_word k (tree.logical_or a b) h = or_word (value_of a) (value_of b)
  node_word k (tree.conditional c a b) h =
      choice_word (value_of c) (value_of a) (value_of b) (value_word a h.0) (value_word b h.1)
  node_word k _ h = tt

formed_word : (b : Bool) (o : Option ℕ) → IsWordIf o → IsWordIf (if b then o else None)
formed_word true o h = h
formed_word false o h = tt

constant_is_word : (e : Expression) → HasWords e → IsWordIf (constant_word e)
unfolding constant_word
constant_is_word e h = formed_word (has_form e) (value_of e) (value_word e h)

-- words of int

pub int_word : (w : ℕ) → w < 2 ^ 31 → fit Int w ≡ w
unfolding fit
int_word w small = grind arith

pub negative_word : (w : ℕ) → 2 ^ 64 - 2 ^ 31 ≤ w → w < 2 ^ 64 → fit Int w ≡ w
unfolding fit
negative_word w low high = grind arith

pub word_of_int : (w : ℕ) → fit Int w ≡ w → w < 2 ^ 64
word_of_int w e = subst (λ z. z < 2 ^ 64) e (fit_below Int w)

small_or_negative : (a b : Bool) (w : ℕ) → nat_lt w (2 ^ 31) ≡ a → nat_le (2 ^ 64 - 2 ^ 31) w ≡ b
    → w < 2 ^ 64 → (s : Bool) → (a || (s && b)) ≡ true → fit Int w ≡ w
small_or_negative true b w e g low s is = int_word w (ltb-true w (2 ^ 31) e)
small_or_negative false true w e g low s is = negative_word w (leb-true (2 ^ 64 - 2 ^ 31) w g) low
small_or_negative false false w e g low true is = cc
small_or_negative false false w e g low false is = cc

provided_int : (s : Bool) (w : ℕ) → w < 2 ^ 64 → (b : Bool) → is_int s w ≡ b → IsIntIf (if b then Some w else None)
provided_int s w low true e =
    small_or_negative (nat_lt w (2 ^ 31)) (nat_le (2 ^ 64 - 2 ^ 31) w) w refl refl low s e
provided_int s w low false e = tt

int_if : (s : Bool) (o : Option ℕ) → IsWordIf o → IsIntIf (provided is_int s o)
int_if s None h = tt
int_if s (Some w) h = provided_int s w h (is_int s w) refl

pub enumeration_int : (v : Value) → HasWords v.tree → IsIntIf (enumeration_value v)
enumeration_int v h = int_if (has_sign v.tree) (constant_word v.tree) (constant_is_word v.tree h)

next_word : (w : ℕ) → fit Int w ≡ w → (w ≡ 2 ^ 31 - 1 → true ≡ false) → fit Int ((w + 1) % 2 ^ 64) ≡ (w + 1) % 2 ^ 64
unfolding fit
next_word w e h = grind arith

successor_by : (w : ℕ) → fit Int w ≡ w → (b : Bool) → (w == 2 ^ 31 - 1) ≡ b
    → IsIntIf (if b then None else Some ((w + 1) % 2 ^ 64))
successor_by w e true is = tt
successor_by w e false is = next_word w e (λ g. eqb-refl-at w g ∙ is)
  where
    eqb-refl-at : (w : ℕ) → w ≡ 2 ^ 31 - 1 → true ≡ (w == 2 ^ 31 - 1)
    eqb-refl-at w g = ap (λ z. z == 2 ^ 31 - 1) (sym g)

pub next_int : (o : Option ℕ) → IsIntIf o → IsIntIf (next_value o)
next_int None h = tt
next_int (Some w) h = successor_by w h (w == 2 ^ 31 - 1) refl

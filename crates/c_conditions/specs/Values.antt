-- The values of conditions (C99 6.10.1 paragraph 4, 6.6). Each has one of the two widest types, `long` or `unsigned
-- long`, and a word, its number modulo 2 ^ 64, unless an operand that is evaluated divides by zero.
use Rattle.std.specs.Prelude.{⊤, ℕ, ◌-◌, ◌^◌, ◌||◌, ◌==◌, nat_lt, if◌then◌else◌, List, Option, Some, None, option_map}
use Rattle.std.specs.List.{list_any}
use Rattle.c_lexer.specs.declared.integer.IntegerConstant.{IntegerConstant}
use Rattle.c_lexer.specs.Constants.{is_u, constant_of}
use Rattle.c_lexer.specs.Literals as literals
use Rattle.obj_memory.specs.declared.int_type.IntType.{IntType}
use Rattle.obj_memory.specs.declared.int_type.IntType.TheVariants.{Long, UnsignedLong}
use Rattle.obj_memory.specs.declared.operator.UnaryOperator.{UnaryOperator}
use Rattle.obj_memory.specs.declared.operator.UnaryOperator.TheVariants.{Not}
use Rattle.obj_memory.specs.declared.operator.BinaryOperator.{BinaryOperator}
use Rattle.obj_memory.specs.Integers.{common_type, fit}
use Rattle.obj_memory.specs.Operators.{unary_value, binary_value}
use Rattle.c_syntax.specs.Tree.{Expression}
use Rattle.c_syntax.specs.Tree as t
use Rattle.c_conditions.specs.declared.operator.Operator.{Operator}
use Rattle.c_conditions.specs.declared.operator.Operator.TheVariants.{Arithmetic, Shift, Comparison, And, Or}
use Rattle.c_conditions.specs.declared.value.Value.{Value}
use Rattle.c_conditions.specs.Operators.{operator_of, prefix_of}

-- a value of this type with this word, if it has one
abbrev pub valued : IntType → Option ℕ → Value
valued t word = record { integer_type = t; word = word }

-- a truth, 1 or 0, is of type `long`
abbrev pub truth : Option ℕ → Option ℕ
truth None = None
truth (Some x) = Some (if x == 0 then 0 else 1)

-- an integer constant is unsigned where it has a suffix `u`, which is no digit, or is above 2 ^ 63 - 1
abbrev pub constant_type : (spelling : List ℕ) → ℕ → IntType
constant_type z v = if list_any is_u z || nat_lt (2 ^ 63 - 1) v then UnsignedLong else Long

abbrev pub constant_value : (spelling : List ℕ) → Option IntegerConstant → Option Value
constant_value z None = None
constant_value z (Some c) = Some (valued (constant_type z c.value) (Some c.value))

-- a character constant
abbrev pub character_value : Option ℕ → Option Value
character_value None = None
character_value (Some v) = Some (valued Long (Some v))

-- an operator before its operand (6.5.3.3)
abbrev pub prefix_type : UnaryOperator → IntType → IntType
prefix_type Not t = Long
prefix_type _ t = t

abbrev pub prefixed : UnaryOperator → Value → Value
prefixed op v = valued (prefix_type op v.integer_type) (option_map (unary_value op v.integer_type) v.word)

-- the type to which both operands are converted (6.3.1.8)
abbrev pub common : Value → Value → IntType
common a b = common_type a.integer_type b.integer_type

-- the word of a value in another type (6.3.1.3)
abbrev pub word_in : IntType → Value → Option ℕ
word_in t v = option_map (fit t) v.word

-- an operator on two words of a type
abbrev pub computed : BinaryOperator → IntType → Option ℕ → Option ℕ → Option ℕ
computed op t None y = None
computed op t (Some x) None = None
computed op t (Some x) (Some y) = binary_value op t x y

-- the same on two values in their common type
abbrev pub computed_in_common : BinaryOperator → Value → Value → Option ℕ
computed_in_common op a b = computed op (common a b) (word_in (common a b) a) (word_in (common a b) b)

-- `&&` and `||`: the right operand is evaluated only where the left one does not decide (6.5.13, 6.5.14)
abbrev pub conjunction : Option ℕ → Option ℕ → Option ℕ
conjunction None y = None
conjunction (Some x) y = if x == 0 then Some 0 else truth y

abbrev pub disjunction : Option ℕ → Option ℕ → Option ℕ
disjunction None y = None
disjunction (Some x) y = if x == 0 then truth y else Some 1

-- an operator between its operands (6.5.5 to 6.5.14)
abbrev pub combined : Operator → Value → Value → Value
combined (Arithmetic op) a b = valued (common a b) (computed_in_common op a b)
combined (Shift op) a b = valued a.integer_type (computed op a.integer_type a.word b.word)
combined (Comparison op) a b = valued Long (computed_in_common op a b)
combined And a b = valued Long (conjunction a.word b.word)
combined Or a b = valued Long (disjunction a.word b.word)

-- `?:` evaluates one of its two last operands, and has their common type (6.5.15)
abbrev pub chosen : Option ℕ → Option ℕ → Option ℕ → Option ℕ
chosen None x y = None
chosen (Some c) x y = if c == 0 then y else x

abbrev pub conditional : Value → Value → Value → Value
conditional c a b = valued (common a b) (chosen c.word (word_in (common a b) a) (word_in (common a b) b))

-- one part, and then another
infixl 10 ◌>>=◌
abbrev pub ◌>>=◌ : {A B : Type 0} → Option A → (A → Option B) → Option B
None >>= f = None
(Some x) >>= f = f x

-- The value of an expression over integer and character constants, by parentheses and the unary, binary, logical and
-- conditional operators. There is none where it has any other part.
abbrev pub value_of : Expression → Option Value
value_of (t.integer x) = constant_value x.spelling (constant_of x.spelling)
value_of (t.character x) = character_value (literals.character_value x.spelling)
value_of (t.parenthesized l e r) = value_of e
value_of (t.unary w at e) = prefix_of w >>= λ op. value_of e >>= λ v. Some (prefixed op v)
value_of (t.binary a w at b) = operator_of w >>= λ op. value_of a >>= λ x. value_of b >>= λ y. Some (combined op x y)
value_of (t.conditional c q a colon b) =
    value_of c >>= λ z. value_of a >>= λ x. value_of b >>= λ y. Some (conditional z x y)
value_of _ = None

-- the types that values have
abbrev pub IsWidest : IntType → Type 0
IsWidest Long = ⊤
IsWidest UnsignedLong = ⊤
IsWidest _ = ⊥

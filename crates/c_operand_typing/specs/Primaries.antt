-- Names, constants and string literals (C99 6.5.1).
use Rattle.std.specs.Prelude.{ℕ, ◌+◌, Bool, true, false, not, ◌&&◌, ◌||◌, if◌then◌else◌, nat_le}
use Rattle.std.specs.Prelude.{List, [], ◌∷◌, ◌++◌, length, Option, Some, None, Ok, slice_get}
use Rattle.obj_memory.specs.declared.int_type.IntType.{IntType}
use Rattle.obj_memory.specs.declared.int_type.IntType.TheVariants as int
use Rattle.obj_memory.specs.Integers.{fit, size_of}
use Rattle.c_lexer.specs.declared.integer.IntegerConstant.{IntegerConstant}
use Rattle.c_lexer.specs.declared.integer.IntegerType.{IntegerType}
use Rattle.c_lexer.specs.declared.integer.IntegerType.TheVariants as spelled_type
use Rattle.c_lexer.specs.Constants.{constant_of}
use Rattle.c_lexer.specs.Literals.{bytes_of_literal, character_value}
use Rattle.c_tree.specs.declared.c_type.TypeWord.{TypeWord}
use Rattle.c_tree.specs.declared.c_type.TypeWord.TheVariants as word
use Rattle.c_tree.specs.Arrays.{array_word}
use Rattle.c_tree.specs.Extents.{TypeExtent, extent_of, scalar_extent}
use Rattle.c_tree.specs.Kinds.{integer, pointer}
use Rattle.c_tree.specs.Tree.{expression, constant, function, plain, lvalue, automatic, static, LvalueNode}
use Rattle.c_faults.specs.declared.fault.Rule.TheVariants.{LibraryName, Undeclared}
use Rattle.c_faults.specs.Answer.{Answer, violates, ◌>>=◌}
use Rattle.c_rules.specs.Values.{Value, integer_words}
use Rattle.c_place_rules.specs.Operands.{Operand, a_value, a_place, a_variable, a_function}
use Rattle.c_place_rules.specs.Targets.{object_kind}
use Rattle.c_scope.specs.declared.meaning.Designated.{Designated}
use Rattle.c_scope.specs.declared.meaning.Designated.TheVariants as what
use Rattle.c_scope.specs.declared.meaning.Meaning.{Meaning}
use Rattle.c_scope.specs.declared.meaning.Meaning.TheVariants as meaning
use Rattle.c_scope.specs.Names.{Name}
use Rattle.c_scope.specs.Names as names
use Rattle.c_scope.specs.Tags.{is_true}
use Rattle.c_typing_state.specs.State.{State, Typing, extents}

-- constants (6.4.4)

abbrev pub constant_value : (line : ℕ) → IntType → (word : ℕ) → Value
constant_value line t w = record { type = integer_words t; tree = expression (integer t) line (constant w) }

abbrev pub type_of_constant : IntegerType → IntType
type_of_constant spelled_type.Int = int.Int
type_of_constant spelled_type.UnsignedInt = int.UnsignedInt
type_of_constant spelled_type.Long = int.Long
type_of_constant spelled_type.UnsignedLong = int.UnsignedLong
type_of_constant spelled_type.LongLong = int.LongLong
type_of_constant spelled_type.UnsignedLongLong = int.UnsignedLongLong

-- bytes that are no constant, which no token has, count as 0
abbrev pub integer_as : (line : ℕ) → Option IntegerConstant → Value
integer_as line None = constant_value line int.Int 0
integer_as line (Some c) = constant_value line (type_of_constant c.integer_type) c.value

abbrev pub integer_constant : (spelling : List ℕ) → (line : ℕ) → Value
integer_constant spelling line = integer_as line (constant_of spelling)

abbrev pub or_zero : Option ℕ → ℕ
or_zero None = 0
or_zero (Some n) = n

-- a character constant is its character converted to int (6.4.4.4 paragraph 10)
abbrev pub character_constant : (spelling : List ℕ) → (line : ℕ) → Value
character_constant spelling line = constant_value line int.Int (fit int.Int (or_zero (character_value spelling)))

-- string literals (6.4.5): those that stand side by side are one, and a 0 ends it

abbrev pub or_empty : Option (List ℕ) → List ℕ
or_empty None = []
or_empty (Some bytes) = bytes

abbrev pub spelled_bytes : List (List ℕ) → List ℕ
spelled_bytes [] = []
spelled_bytes (s ∷ more) = or_empty (bytes_of_literal s) ++ spelled_bytes more

abbrev pub literal_bytes : (spellings : List (List ℕ)) → List ℕ
literal_bytes spellings = spelled_bytes spellings ++ 0 ∷ []

abbrev pub literal_type : (size : ℕ) → List TypeWord
literal_type size = array_word size (scalar_extent (size_of int.Char)) ∷ word.Integer int.Char ∷ []

-- an lvalue of a type, of which the bytes are counted where it is complete

abbrev pub size_or_zero : Option TypeExtent → ℕ
size_or_zero None = 0
size_or_zero (Some e) = e.size

abbrev pub place : List (Option TypeExtent) → (line : ℕ) → (type : List TypeWord) → LvalueNode → Operand
place es line type node = a_place (record {
  type = type;
  tree = lvalue (object_kind (size_or_zero (extent_of es type)) type) line node;
})

abbrev pub literal_place : (line : ℕ) → (size number : ℕ) → Operand
literal_place line size n = place [] line (literal_type size) (static n)

abbrev pub with_literal : (bytes : List ℕ) → State → State
with_literal bytes s = record s {
  environment = record s.environment { statics = s.environment.statics + 1 };
  literals = s.literals ++ record { number = s.environment.statics; function = s.function; bytes = bytes } ∷ [];
}

-- a literal is an object, but for one inside `sizeof`
abbrev pub literal : (is_evaluated : Bool) → (bytes : List ℕ) → (line : ℕ) → Typing Operand
literal is_evaluated bytes line s =
    Ok (
      if is_evaluated then with_literal bytes s else s,
      literal_place line (length bytes) s.environment.statics,
    )

-- names (6.5.1 paragraph 2)

abbrev pub is_aggregate : List TypeWord → Bool
is_aggregate (word.Array count bytes ∷ element) = true
is_aggregate (word.OpenArray ∷ element) = true
is_aggregate (word.Structure n ∷ behind) = true
is_aggregate (word.Const ∷ type) = is_aggregate type
is_aggregate type = false

-- before it is known which addresses the text takes, each variable counts as an object
abbrev pub is_marked : Option (List Bool) → ℕ → Bool
is_marked None n = true
is_marked (Some marks) n = is_true (slice_get marks n)

-- A variable is an object where the text takes its address, and where it is an array or a structure. What `sizeof` does
-- not evaluate needs no plain variables.
abbrev pub is_object : (is_evaluated : Bool) → State → ℕ → List TypeWord → Bool
is_object is_evaluated s n type = not is_evaluated || is_aggregate type || is_marked s.objects n

abbrev pub plain_variable : List (Option TypeExtent) → (line number : ℕ) → List TypeWord → Operand
plain_variable es line n type = a_variable (record {
  type = type;
  name = record { variable = n; parentheses = 0 };
  tree = expression (object_kind (size_or_zero (extent_of es type)) type) line (plain n);
})

abbrev pub variable : (is_evaluated : Bool) → (line number : ℕ) → List TypeWord → State → Operand
variable is_evaluated line n type s =
    if is_object is_evaluated s n type
    then place (extents s) line type (automatic n)
    else plain_variable (extents s) line n type

abbrev pub function_named : (line number : ℕ) → List TypeWord → Operand
function_named line n type = a_function (record { type = type; tree = expression pointer line (function n) })

abbrev pub designated : (is_evaluated : Bool) → (line : ℕ) → Designated → List TypeWord → State → Answer Operand
designated is_evaluated line (what.Object n) type s = Ok (place (extents s) line type (static n))
designated is_evaluated line (what.Static n) type s = Ok (place (extents s) line type (static n))
designated is_evaluated line (what.Function n) type s = Ok (function_named line n type)
designated is_evaluated line (what.Library f) type s = violates LibraryName line
designated is_evaluated line (what.Variable n) type s = Ok (variable is_evaluated line n type s)

-- a function is used where its name is evaluated (6.9 paragraph 5)

abbrev pub earlier_or : Option ℕ → (line : ℕ) → Option ℕ
earlier_or None line = Some line
earlier_or (Some first) line = Some first

abbrev pub with_use : (line : ℕ) → State → State
with_use line s = record s { undefined = earlier_or s.undefined line }

abbrev pub is_undefined : ℕ → State → Bool
is_undefined n s = nat_le (length s.environment.facts.functions) n

abbrev pub used : (is_evaluated : Bool) → (line : ℕ) → Designated → State → State
used is_evaluated line (what.Function n) s = if is_evaluated && is_undefined n s then with_use line s else s
used is_evaluated line what s = s

abbrev pub used_as : (is_evaluated : Bool) → (line : ℕ) → Option Meaning → State → State
used_as is_evaluated line (Some (meaning.Named what type)) s = used is_evaluated line what s
used_as is_evaluated line m s = s

abbrev pub meant : (is_evaluated : Bool) → (line : ℕ) → Option Meaning → State → Answer Operand
meant is_evaluated line None s = violates Undeclared line
meant is_evaluated line (Some (meaning.Typedef type)) s = violates Undeclared line
meant is_evaluated line (Some (meaning.Constant w)) s = Ok (a_value (constant_value line int.Int w))
meant is_evaluated line (Some (meaning.Named what type)) s = designated is_evaluated line what type s

abbrev pub as_meant : (is_evaluated : Bool) → (line : ℕ) → Option Meaning → Typing Operand
as_meant is_evaluated line m s = meant is_evaluated line m s >>= λ o. Ok (used_as is_evaluated line m s, o)

abbrev pub named : (is_evaluated : Bool) → Name → (line : ℕ) → Typing Operand
named is_evaluated name line s = as_meant is_evaluated line (names.meaning name s.environment.names) s

-- Typed values, conversions, and null pointer constants (C99 6.3).
use Rattle.std.specs.Prelude.{ℕ, Bool, false, ◌&&◌, ◌||◌, ◌==◌, if◌then◌else◌, List, [], ◌∷◌, Option, Some, None}
use Rattle.obj_memory.specs.declared.int_type.IntType.{IntType}
use Rattle.c_tree.specs.declared.c_type.TypeWord.{TypeWord}
use Rattle.c_tree.specs.declared.c_type.TypeWord.TheVariants.{Void, Pointer}
use Rattle.c_tree.specs.declared.c_type.TypeWord.TheVariants as word
use Rattle.c_tree.specs.declared.expression.Kind.{Kind}
use Rattle.c_tree.specs.Kinds.{is_kind}
use Rattle.c_tree.specs.TypesAgree.{same_words}
use Rattle.c_tree.specs.View.{expression_of}
use Rattle.c_tree.specs.Tree.{Expression, expression, Node, cast, parenthesized, convert, kind_of, line_of}
use Rattle.c_const.specs.Integers.{constant_word}
use Rattle.c_rules.specs.declared.value.TypedValue as code

-- a value, and its type, which has no qualifiers of its own
pub record Value : Type 0 where
  pub type : List TypeWord
  pub tree : Expression

abbrev pub value_of : code.TypedValue → Value
value_of v = record { type = v.c_type; tree = expression_of v.tree }

abbrev pub integer_words : IntType → List TypeWord
integer_words t = word.Integer t ∷ []

-- an implicit conversion stands where the kinds differ (6.3)
abbrev pub converted : Kind → Expression → Expression
converted kind e = if is_kind kind (kind_of e) then e else expression kind (line_of e) (convert e)

abbrev pub is_zero_word : Option ℕ → Bool
is_zero_word None = false
is_zero_word (Some w) = w == 0

-- the constant 0, also converted to a pointer to void (6.3.2.3 paragraph 3)
abbrev pub is_zero : Expression → Bool
is_zero e = is_zero_word (constant_word e)

abbrev mutual
  pub is_null_tree : (is_void_pointer : Bool) → Expression → Bool
  is_null_tree v (expression kind line node) = is_null_node v node

  pub is_null_node : (is_void_pointer : Bool) → Node → Bool
  is_null_node v (parenthesized e) = is_null_tree v e
  is_null_node v (cast e) = v && is_zero e
  is_null_node v node = false

abbrev pub is_null : Value → Bool
is_null v = is_zero v.tree || is_null_tree (same_words v.type (Pointer ∷ Void ∷ [])) v.tree

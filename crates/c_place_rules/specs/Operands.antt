-- Operands and the values that they stand for (C99 6.3.2.1, 6.5.1).
use Rattle.std.specs.Prelude.{ℕ, ◌+◌, ◌^◌, ◌-◌, min, if◌then◌else◌, List, [], ◌∷◌, Ok}
use Rattle.c_tree.specs.declared.c_type.TypeWord.{TypeWord}
use Rattle.c_tree.specs.declared.c_type.TypeWord.TheVariants as word
use Rattle.c_tree.specs.declared.expression.PlainName.{PlainName}
use Rattle.c_tree.specs.Kinds.{pointer}
use Rattle.c_tree.specs.Tree.{Expression, expression, read, decay, parenthesized, Lvalue, lvalue, parenthesized_lvalue}
use Rattle.c_tree.specs.Tree.{kind_of}
use Rattle.c_tree.specs.Tree.{lvalue_kind, lvalue_line}
use Rattle.c_tree.specs.Valid.{is_lvalue}
use Rattle.c_tree.specs.View.{expression_of, lvalue_of}
use Rattle.c_faults.specs.declared.fault.Rule.TheVariants.{ArrayOfValue}
use Rattle.c_faults.specs.Answer.{Answer, violates, ◌>>=◌}
use Rattle.c_rules.specs.Types.{unqualified}
use Rattle.c_rules.specs.Values.{Value, value_of}
use Rattle.c_place_rules.specs.declared.operand.TypedPlace as code_place
use Rattle.c_place_rules.specs.declared.operand.TypedVariable as code_variable
use Rattle.c_place_rules.specs.declared.operand.Operand as code

-- what designates an object or a part of one, and its type with all qualifiers
pub record Place : Type 0 where
  pub type : List TypeWord
  pub tree : Lvalue

-- the name of a plain variable, maybe in parentheses, its type with all qualifiers, and the tree that gives its value
pub record Variable : Type 0 where
  pub type : List TypeWord
  pub name : PlainName
  pub tree : Expression

-- a function has the type of functions, and a tree that gives a pointer to it
pub data Operand : Type 0 where
  a_value : Value → Operand
  a_place : Place → Operand
  a_variable : Variable → Operand
  a_function : Value → Operand

abbrev pub place_of : code_place.TypedPlace → Place
place_of p = record { type = p.c_type; tree = lvalue_of p.tree }

abbrev pub variable_of : code_variable.TypedVariable → Variable
variable_of x = record { type = x.c_type; name = x.name; tree = expression_of x.tree }

abbrev pub operand_of : code.Operand → Operand
operand_of (code.TheVariants.Value v) = a_value (value_of v)
operand_of (code.TheVariants.Place p) = a_place (place_of p)
operand_of (code.TheVariants.Variable x) = a_variable (variable_of x)
operand_of (code.TheVariants.Function f) = a_function (value_of f)

-- the type of the elements of an array
abbrev pub element_of : List TypeWord → List TypeWord
element_of [] = []
element_of (word.Const ∷ type) = element_of type
element_of (word.Array count bytes ∷ element) = element
element_of (word.OpenArray ∷ element) = element
element_of (w ∷ behind) = w ∷ behind

-- an array is the pointer to its first element (6.3.2.1 paragraph 3), where it has an address
abbrev pub element_pointer : Place → Answer (List TypeWord)
element_pointer p =
    if is_lvalue p.tree then Ok (word.Pointer ∷ element_of p.type) else violates ArrayOfValue (lvalue_line p.tree)

abbrev pub decayed_to : (type : List TypeWord) → Lvalue → Value
decayed_to type p = record { type = type; tree = expression pointer (lvalue_line p) (decay p) }

abbrev pub decayed : Place → Answer Value
decayed p = element_pointer p >>= λ type. Ok (decayed_to type p.tree)

-- any other lvalue is what it holds (6.3.2.1 paragraph 2)
abbrev pub read_value : Place → Answer Value
read_value p = Ok (record {
  type = unqualified p.type;
  tree = expression (lvalue_kind p.tree) (lvalue_line p.tree) (read p.tree);
})

abbrev pub loaded_as : (unqualified_type : List TypeWord) → Place → Answer Value
loaded_as (word.Array count bytes ∷ element) p = decayed p
loaded_as (word.OpenArray ∷ element) p = decayed p
loaded_as type p = read_value p

abbrev pub loaded : Place → Answer Value
loaded p = loaded_as (unqualified p.type) p

abbrev pub variable_value : Variable → Value
variable_value x = record { type = unqualified x.type; tree = x.tree }

-- a function is the pointer to it (6.3.2.1 paragraph 4)
abbrev pub function_value : Value → Value
function_value f = record { type = word.Pointer ∷ f.type; tree = f.tree }

-- the value of an operand
abbrev pub value_in : Operand → Answer Value
value_in (a_value v) = Ok v
value_in (a_place p) = loaded p
value_in (a_variable x) = Ok (variable_value x)
value_in (a_function f) = Ok (function_value f)

-- an operand in parentheses; of an lvalue the line is that of its outermost operator, parentheses aside

abbrev pub enclosed_tree : (line : ℕ) → Expression → Expression
enclosed_tree line e = expression (kind_of e) line (parenthesized e)

abbrev pub enclosed_value : (line : ℕ) → Value → Value
enclosed_value line v = record { type = v.type; tree = enclosed_tree line v.tree }

abbrev pub enclosed_place : Place → Place
enclosed_place p = record {
  type = p.type;
  tree = lvalue (lvalue_kind p.tree) (lvalue_line p.tree) (parenthesized_lvalue p.tree);
}

-- the pairs of parentheses are counted as far as a word of 64 bits goes
abbrev pub enclosed_name : PlainName → PlainName
enclosed_name x = record { variable = x.variable; parentheses = min (x.parentheses + 1) (2 ^ 64 - 1) }

abbrev pub enclosed_variable : (line : ℕ) → Variable → Variable
enclosed_variable line x = record { type = x.type; name = enclosed_name x.name; tree = enclosed_tree line x.tree }

abbrev pub enclosed : (line : ℕ) → Operand → Answer Operand
enclosed line (a_value v) = Ok (a_value (enclosed_value line v))
enclosed line (a_place p) = Ok (a_place (enclosed_place p))
enclosed line (a_variable x) = Ok (a_variable (enclosed_variable line x))
enclosed line (a_function f) = Ok (a_function (enclosed_value line f))

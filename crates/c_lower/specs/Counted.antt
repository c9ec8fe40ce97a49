-- A `for` that counts a plain int variable v up by 1 over a range of constants (C99 6.8.5.3): `for (v = A; v < B;
-- v++)`.
-- A and B are integer constant expressions whose own type is int, and the body assigns v nowhere. The tree keeps the
-- parentheses of the text but for those of a declarator, and marks each conversion.
use Rattle.std.specs.Prelude.{ℕ, Bool, true, false, not, ◌&&◌, ◌==◌, if◌then◌else◌, [], ◌∷◌, Option, Some, None}
use Rattle.obj_memory.specs.declared.int_type.IntType.TheVariants.{Int}
use Rattle.obj_memory.specs.declared.operator.BinaryOperator.TheVariants.{Less, Add}
use Rattle.obj_memory.specs.declared.value.Scalar.TheVariants.{Integer}
use Rattle.c_tree.specs.declared.expression.Kind.TheVariants.{Scalar as OfScalar}
use Rattle.c_tree.specs.declared.expression.PlainName.{PlainName}
use Rattle.c_tree.specs.declared.expression.Update.TheVariants.{Arithmetic}
use Rattle.c_tree.specs.Tree.{Expression, expression, constant, plain, convert, binary, assign_plain, step_plain}
use Rattle.c_tree.specs.Statements.{Initializer, of_plain, First, first_expression, first_declaration, Statement}
use Rattle.c_tree.specs.Assigning.{statement_assigns}
use Rattle.c_const.specs.Integers.{constant_word}

pub record CountedParts : Type 0 where
  pub variable : ℕ
  pub start : ℕ
  pub bound : ℕ

-- a variable and a word
pub record Setting : Type 0 where
  pub variable : ℕ
  pub word : ℕ

abbrev pub set_to : (variable : ℕ) → Option ℕ → Option Setting
set_to x None = None
set_to x (Some w) = Some (record { variable = x; word = w })

-- an integer constant expression (6.6 paragraph 6) whose own type is int: one that is converted to int has another
abbrev pub int_constant : Expression → Option ℕ
int_constant (expression kind line (convert e)) = None
int_constant (expression (OfScalar (Integer Int)) line node) = constant_word
    (expression (OfScalar (Integer Int)) line node)
int_constant e = None

-- the constant 1 of type int
abbrev pub is_one : Expression → Bool
is_one (expression (OfScalar (Integer Int)) line (constant w)) = w == 1
is_one e = false

-- an int variable by its name alone
abbrev pub int_variable : Expression → Option ℕ
int_variable (expression (OfScalar (Integer Int)) line (plain x)) = Some x
int_variable e = None

-- the name of an assigned variable, without parentheses
abbrev pub bare_name : PlainName → Option ℕ
bare_name x = if x.parentheses == 0 then Some x.variable else None

abbrev pub is_variable : (variable : ℕ) → Option ℕ → Bool
is_variable v None = false
is_variable v (Some x) = x == v

abbrev pub set_by_name : (variable word : Option ℕ) → Option Setting
set_by_name None w = None
set_by_name (Some x) w = set_to x w

-- the first part: `v = A`, or a declaration of v alone
abbrev pub set_by : Expression → Option Setting
set_by (expression kind line (assign_plain x e)) = set_by_name (bare_name x) (int_constant e)
set_by e = None

abbrev pub set_first : First → Option Setting
set_first (first_expression e) = set_by e
set_first (first_declaration (d ∷ [])) = declared_set d.variable d.initializer
  where
    declared_set : ℕ → Option Initializer → Option Setting
    declared_set x (Some (of_plain e)) = set_to x (int_constant e)
    declared_set x i = None
set_first first = None

-- `v < B`
abbrev pub compared_with : Option Expression → Option Setting
compared_with (Some (expression kind line (binary Less a b))) = set_by_name (int_variable a) (int_constant b)
compared_with e = None

-- `v++`, `++v` or `v = v + 1`
abbrev pub counts_up : (variable : ℕ) → Option Expression → Bool
counts_up v (Some (expression kind line (step_plain (Arithmetic Add Int) fixity x))) = is_variable v (bare_name x)
counts_up v (Some (expression kind line (assign_plain x (expression k l (binary Add a b))))) =
    is_variable v (bare_name x) && (is_variable v (int_variable a) && is_one b)
counts_up v e = false

abbrev pub if_counted : Bool → (variable start bound : ℕ) → Option CountedParts
if_counted true x a b = Some (record { variable = x; start = a; bound = b })
if_counted false x a b = None

abbrev pub counted_by : Option Setting → Option Setting → Option Expression → Statement → Option CountedParts
counted_by (Some a) (Some b) step body =
    if_counted (a.variable == b.variable && (counts_up a.variable step && not (statement_assigns a.variable body)))
    a.variable a.word b.word
counted_by a b step body = None

-- the parts of a `for`, where it counts
abbrev pub counted_parts : First → (condition step : Option Expression) → (body : Statement) → Option CountedParts
counted_parts first condition step body = counted_by (set_first first) (compared_with condition) step body

-- Words for the trees of the rows, and what the rows look at.
use Rattle.std.proofs.Common.{ℕ, Bool, List, Option, Some, None, map}
use Rattle.c_lexer.specs.declared.keyword.Keyword.{Keyword}
use Rattle.c_syntax.specs.declared.position.Position.{Position}
use Rattle.c_syntax.specs.declared.position.Spelled.{Spelled}
use Rattle.c_syntax.specs.Statements.{Declaration, External, InitDeclarator, InitDeclarators}
use Rattle.c_syntax.specs.Tree.{Declarator, Designation, Designator, Initializer, Specifier, Specifiers}
use Rattle.c_syntax.specs.Tree as t
use Rattle.c_tree.specs.declared.program.Variable.{Variable}
use Rattle.c_tree.specs.Blocks.{each_contents}
use Rattle.c_tree.specs.Kinds.{size_of_kind}
use Rattle.c_tree.specs.Programs.{Function, StaticObject}
use Rattle.c_tree.specs.Statements.{Content, literal_content, value_content}
use Rattle.c_tree.specs.ValidProgram.{is_valid_program}
use Rattle.c_const.specs.Integers.{constant_word}
use Rattle.c_faults.specs.declared.fault.Rule.{Rule}
use Rattle.c_unit_typing.specs.declared.limits.Limited.{Limited}
use Rattle.c_unit_typing.specs.Typed.{TypedUnit, a_fault, a_program, not_constant, too_large, typed_unit}

abbrev pub at : (line : ℕ) → Position
at line = record { at = 0; line = line }

abbrev pub spelled : List ℕ → (line : ℕ) → Spelled
spelled bytes line = record { spelling = bytes; position = at line }

abbrev pub word : Keyword → (line : ℕ) → Specifier
word w line = t.keyword w (at line)

abbrev pub designation : List Designator → Position → Designation
designation ds equals = record { designators = ds; equals = equals }

abbrev pub init_declarator : Declarator → Option (Position × Initializer) → InitDeclarator
init_declarator d x = record { declarator = d; initializer = x }

abbrev pub declarators : InitDeclarator → List (Position × InitDeclarator) → InitDeclarators
declarators first others = record { first = first; others = others }

abbrev pub declaration : Specifiers → Option InitDeclarators → Position → Declaration
declaration specs ds end = record { specifiers = specs; declarators = ds; semicolon = end }

-- what an initializer stores or a statement evaluates: the word of an integer constant expression, something else, or
-- the bytes of a literal
pub data Stored : Type 0 where
  number : ℕ → Stored
  other : Stored
  bytes : List ℕ → Stored

abbrev number_or_other : Option ℕ → Stored
number_or_other None = other
number_or_other (Some w) = number w

abbrev pub stored : Content → Stored
stored (value_content e) = number_or_other (constant_word e)
stored (literal_content bs) = bytes bs

-- a static object: its bytes, the function in whose block it stands, and the parts of its initializer
abbrev pub Object : Type 0
Object = ℕ × (Option ℕ × List (ℕ × Stored))

abbrev pub object_shown : StaticObject → Object
object_shown o = (size_of_kind o.kind, (o.function, map (λ p. (p.offset, stored p.content)) o.parts))

-- a function: the line of its name, the number of its type, its parameters and its variables, each with its bytes and
-- whether it is an object, and what its block evaluates and initializes
pub data ShownFunction : Type 0 where
  function : (line type_number : ℕ) → (parameters variables : List (ℕ × Bool)) → List Stored → ShownFunction

abbrev variable_shown : Variable → ℕ × Bool
variable_shown v = (size_of_kind v.kind, v.is_object)

abbrev pub function_shown : Function → ShownFunction
function_shown f =
    function f.line f.type_number (map variable_shown f.parameters) (map variable_shown f.variables)
    (map stored (each_contents f.body))

pub data Shown : Type 0 where
  -- of a typed program: whether it is valid, its static objects and its functions
  accepted : (is_valid : Bool) → List Object → List ShownFunction → Shown
  refused : Rule → (line : ℕ) → Shown
  -- the line of the first expression in an initializer that is not constant
  inconstant : (line : ℕ) → Shown
  large : Limited → (count : ℕ) → Shown

abbrev pub shown : TypedUnit → Shown
shown (a_program p) = accepted (is_valid_program p) (map object_shown p.statics) (map function_shown p.functions)
shown (a_fault f) = refused f.rule f.line
shown (not_constant line) = inconstant line
shown (too_large which n) = large which n

abbrev pub source : List External → (end : ℕ) → Shown
source es end = shown (typed_unit end (record { externals = es }))

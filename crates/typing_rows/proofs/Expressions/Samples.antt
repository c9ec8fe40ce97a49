-- Trees of the rows, a state in which they are typed, and what the rows look at.
use Rattle.std.proofs.Common.{ℕ, Bool, true, List, [], ◌∷◌, Option, Some, None, Ok, length}
use Rattle.std.specs.Prelude.{codes}
use Rattle.obj_memory.specs.declared.int_type.IntType.TheVariants.{Int}
use Rattle.c_lexer.specs.declared.keyword.Keyword.{Keyword}
use Rattle.c_lexer.specs.declared.punctuator.Punctuator.{Punctuator}
use Rattle.c_syntax.specs.declared.position.Position.{Position}
use Rattle.c_syntax.specs.declared.position.Spelled.{Spelled}
use Rattle.c_syntax.specs.Tree.{Declarator, Enumerator, Expression, Member, Members, MoreArguments, Specifier}
use Rattle.c_syntax.specs.Tree.{Specifiers, TypedDeclarator}
use Rattle.c_syntax.specs.Tree as t
use Rattle.c_tree.specs.declared.c_type.TypeWord.{TypeWord}
use Rattle.c_tree.specs.declared.c_type.TypeWord.TheVariants.{Gives, Integer, Pointer}
use Rattle.c_const.specs.Integers.{constant_word}
use Rattle.c_faults.specs.Answer.{Answer, ◌>>=◌}
use Rattle.c_place_rules.specs.Operands.{value_in}
use Rattle.c_place_rules.specs.Places.{type_in}
use Rattle.c_scope.specs.declared.meaning.Designated.TheVariants.{Function}
use Rattle.c_scope.specs.declared.meaning.Meaning.TheVariants.{Named}
use Rattle.c_scope.specs.Environment.{Environment, with_name, with_variable}
use Rattle.c_scope.specs.Start.{empty}
use Rattle.c_typing_state.specs.State.{State}
use Rattle.c_expression_typing.specs.Typed.{typed}

abbrev pub at : (line : ℕ) → Position
at line = record { at = 0; line = line }

abbrev pub spelled : List ℕ → (line : ℕ) → Spelled
spelled bytes line = record { spelling = bytes; position = at line }

abbrev pub name : List ℕ → Expression
name bytes = t.identifier (spelled bytes 1)

abbrev pub number : List ℕ → Expression
number bytes = t.integer (spelled bytes 1)

abbrev pub before : Punctuator → Expression → Expression
before w e = t.unary w (at 1) e

abbrev pub between : Expression → Punctuator → Expression → Expression
between a w b = t.binary a w (at 1) b

abbrev pub assigning : Expression → Punctuator → Expression → Expression
assigning a w b = t.assignment a w (at 1) b

abbrev pub indexing : Expression → Expression → Expression
indexing a b = t.subscript a (at 1) b (at 1)

abbrev more : List Expression → MoreArguments
more [] = t.end_of_arguments
more (e ∷ es) = t.more_arguments (at 1) e (more es)

abbrev pub calling : Expression → List Expression → Expression
calling f [] = t.call f (at 1) t.no_arguments (at 1)
calling f (e ∷ es) = t.call f (at 1) (t.arguments e (more es)) (at 1)

abbrev pub word : Keyword → Specifiers
word w = t.specifiers (t.keyword w (at 1)) t.no_specifiers

abbrev pub alone : Specifier → Specifiers
alone x = t.specifiers x t.no_specifiers

abbrev pub of_type : Specifiers → Declarator → TypedDeclarator
of_type specs d = t.typed specs d

abbrev pub size_of_type : TypedDeclarator → Expression
size_of_type x = t.sizeof_type (at 1) (at 1) x (at 1)

abbrev pub casting : TypedDeclarator → Expression → Expression
casting x e = t.cast (at 1) x (at 1) e

abbrev pub member : Specifiers → Declarator → Member
member specs d = t.member_declaration specs d t.end_of_declarators (at 1)

abbrev pub members : List Member → Members
members [] = t.no_members
members (m ∷ ms) = t.members m (members ms)

-- a name that stands on a line
abbrev pub declared : List ℕ → (line : ℕ) → Declarator
declared bytes line = t.named (spelled bytes line)

abbrev pub array_of : Declarator → Expression → Declarator
array_of d e = t.array d (at 1) e (at 1)

-- `int x, *p; int f(void);` in a function; the text takes no address of its variables, or this is not known yet

abbrev environment : Environment
environment =
    with_name (codes "f") (Named (Function 0) (Gives ∷ Integer Int ∷ []))
    (with_variable (codes "p") (Pointer ∷ Integer Int ∷ [])
    (with_variable (codes "x") (Integer Int ∷ [])
    (empty (record { functions = (codes "f", 0) ∷ []; objects = []; tags = [] }))))

abbrev pub state_with : (objects : Option (List Bool)) → State
state_with objects = record {
  environment = environment;
  function_types = [];
  objects = objects;
  taken = [];
  undefined = None;
  literals = [];
  function = Some 0;
}

abbrev pub type_shown : (objects : Option (List Bool)) → Expression → Answer (List TypeWord)
type_shown objects e = typed true e (state_with objects) >>= λ r. Ok (type_in r.1)

-- the word of a constant expression
abbrev pub word_shown : Expression → Answer (Option ℕ)
word_shown e = typed true e (state_with (Some [])) >>= λ r. value_in r.1 >>= λ v. Ok (constant_word v.tree)

-- of which variables the text took the addresses, how many string literals are objects, and how many types of functions
-- are called through pointers
abbrev pub marks_shown : Expression → Answer (List Bool × (ℕ × ℕ))
marks_shown e =
    typed true e (state_with None) >>=
    λ r. Ok (r.0.taken, (length r.0.literals, length r.0.function_types))

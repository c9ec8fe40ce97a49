-- What constructs give, beside the states that they leave: trees whose constants are words, types whose arrays have the
-- sizes of objects, and members of complete types.
use Rattle.std.specs.Prelude.{◌≡◌, ℕ, ◌<◌, ◌^◌, true, List, [], ◌∷◌, Option, Some, None, is_some, length}
use Rattle.obj_memory.specs.declared.int_type.IntType.TheVariants.{Int}
use Rattle.obj_memory.specs.Integers.{fit}
use Rattle.c_syntax.specs.Formed.{has_name}
use Rattle.c_syntax.specs.Tree.{Declarator}
use Rattle.c_tree.specs.declared.c_type.TypeWord.{TypeWord}
use Rattle.c_tree.specs.Extents.{extent_of}
use Rattle.c_tree.specs.Tree.{Expression, expression, Node, constant, parenthesized, binary, conditional}
use Rattle.c_rules.specs.Values.{Value}
use Rattle.c_place_rules.specs.Operands.{Operand, a_value, a_place, a_variable, a_function}
use Rattle.c_declarators.specs.Derivations.{Derivation, to_pointer, to_open_array, to_array, to_function}
use Rattle.c_scope.specs.declared.meaning.Meaning.{Meaning}
use Rattle.c_scope.specs.declared.meaning.Tag.{Tag}
use Rattle.c_scope.specs.declared.meaning.Tag.TheVariants as tag
use Rattle.c_scope.specs.Names.{Name, declared}
use Rattle.c_scope.specs.Parameters.{ParameterScope}
use Rattle.c_declarator_typing.specs.Declarators.{Shape}
use Rattle.c_declarator_typing.specs.Members.{Entry}
use Rattle.c_declarator_typing.specs.Specifications.{Gathered, Specification}
use Rattle.c_typing_state.specs.State.{State, extents}
use Rattle.typing_laws.specs.Validity.Sound.{IsNumbered, IsObjectExtent, IsPending, is_sized_array}
use Rattle.typing_laws.specs.Declarators.Extending.{IsNew}

abbrev pub anything : {A : Type 0} → State → A → Type 0
anything s x = Unit {0}

-- the constants that the value of an integer constant expression comes from are words

abbrev mutual
  pub HasWords : Expression → Type 0
  HasWords (expression kind line node) = NodeHasWords node

  pub NodeHasWords : Node → Type 0
  NodeHasWords (constant w) = w < 2 ^ 64
  NodeHasWords (parenthesized e) = HasWords e
  NodeHasWords (binary op a b) = HasWords a × HasWords b
  NodeHasWords (conditional c a b) = HasWords a × HasWords b
  NodeHasWords _ = Unit {0}

abbrev pub ValueHasWords : State → Value → Type 0
ValueHasWords s v = HasWords v.tree

abbrev pub OperandHasWords : State → Operand → Type 0
OperandHasWords s (a_value v) = HasWords v.tree
OperandHasWords s (a_place p) = Unit {0}
OperandHasWords s (a_variable x) = HasWords x.tree
OperandHasWords s (a_function f) = HasWords f.tree

abbrev pub IsIntIf : Option ℕ → Type 0
IsIntIf None = Unit {0}
IsIntIf (Some w) = fit Int w ≡ w

-- declarators: an array has at least one element

abbrev pub IsCounted : Derivation → Type 0
IsCounted (to_array None) = Unit {0}
IsCounted (to_array (Some count)) = 0 < count
IsCounted (to_pointer is_const) = Unit {0}
IsCounted to_open_array = Unit {0}
IsCounted (to_function parameters) = Unit {0}

abbrev pub AreCounted : List Derivation → Type 0
AreCounted [] = Unit {0}
AreCounted (d ∷ ds) = IsCounted d × AreCounted ds

-- the scope of a list of parameters: names stand for these and for enumerators, and tags for structures so far
pub record IsParameterScope (state : State) (scope : ParameterScope) : Type 0 where
  pub names : (name : Name) (m : Meaning) → declared name scope.names ≡ Some m → IsNew true m
  pub tags : (name : Name) (t : Tag) → declared name scope.tags ≡ Some t → IsNumbered (length (extents state)) t

abbrev pub HasScope : State → Option ParameterScope → Type 0
HasScope s None = Unit {0}
HasScope s (Some p) = IsParameterScope s p

pub record IsShapeOf (state : State) (declarator : Declarator) (sh : Shape) : Type 0 where
  pub counted : AreCounted sh.derivations
  pub named : has_name declarator ≡ true → is_some sh.name ≡ true
  pub scope : HasScope state sh.parameters

abbrev pub HasType : Option (List TypeWord) → Type 0
HasType None = Unit {0}
HasType (Some type) = is_sized_array type ≡ true

abbrev pub IsGathered : State → Gathered → Type 0
IsGathered s g = HasType g.type

abbrev pub IsSpecified : State → Specification → Type 0
IsSpecified s spec = is_sized_array spec.type ≡ true

-- members: each is of a complete type

pub record IsEntry (state : State) (entry : Entry) : Type 0 where
  pub complete : extent_of (extents state) entry.type ≡ Some entry.extent
  pub object : IsObjectExtent entry.extent

abbrev pub AreEntries : State → List Entry → Type 0
AreEntries s [] = Unit {0}
AreEntries s (e ∷ es) = IsEntry s e × AreEntries s es

-- a tag whose structure or union, if it is one, waits for its members
abbrev pub IsBegun : State → Tag → Type 0
IsBegun s (tag.Structure n) = IsPending s n
IsBegun s (tag.Union n) = IsPending s n
IsBegun s (tag.Enumeration n) = Unit {0}

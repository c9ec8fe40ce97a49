-- Operands that are valid, of the kind that their type has (C99 6.2.5, 6.3.2.1).
use Rattle.std.specs.Prelude.{◌≡◌, ◌==◌, ℕ, ◌+◌, ◌^◌, Bool, true, false, nat_le, List, ◌∷◌, Option, Some, None}
use Rattle.std.specs.Prelude.{is_none, Ok, Err}
use Rattle.c_tree.specs.declared.c_type.TypeWord.{TypeWord}
use Rattle.c_tree.specs.declared.c_type.TypeWord.TheVariants as word
use Rattle.c_tree.specs.declared.expression.Kind.{Kind}
use Rattle.c_tree.specs.declared.expression.Kind.TheVariants as kind
use Rattle.c_tree.specs.Extents.{TypeExtent, extent_of, structure_extent}
use Rattle.c_tree.specs.Kinds.{pointer, is_size, size_of_kind}
use Rattle.c_tree.specs.Tree.{kind_of, lvalue_kind}
use Rattle.c_tree.specs.TypesAgree.{kind_of_type}
use Rattle.c_tree.specs.Valid.{Scope, is_valid, is_converted, is_valid_lvalue, is_plain}
use Rattle.c_rules.specs.declared.class.Target.TheVariants.{Object}
use Rattle.c_faults.specs.Answer.{Answer}
use Rattle.c_rules.specs.Types.{target_of}
use Rattle.c_rules.specs.Values.{Value}
use Rattle.c_rules.specs.Fine.{IsFine}
use Rattle.c_place_rules.specs.Targets.{pointee_of, object_kind}
use Rattle.c_place_rules.specs.Operands.{Place, Variable, Operand, a_value, a_place, a_variable, a_function}
use Rattle.c_place_rules.specs.Operands.{variable_value}
use Rattle.c_place_rules.specs.Places.{Member, structure_of}

-- an array of unknown size, or of elements whose size is not known, or a structure or union whose members are not known
-- (6.2.5 paragraph 22)
abbrev pub is_unsized : List (Option TypeExtent) → List TypeWord → Bool
is_unsized structures (word.Array count bytes ∷ element) = is_none (extent_of structures element)
is_unsized structures (word.OpenArray ∷ element) = true
is_unsized structures (word.Structure n ∷ behind) = is_none (structure_extent structures n)
is_unsized structures (word.Const ∷ type) = is_unsized structures type
is_unsized structures type = false

-- the bytes of an object of a type where it is named: none are counted of one that is not complete there
pub data IsSized (structures : List (Option TypeExtent)) (type : List TypeWord) (bytes : ℕ) : Type 0 where
  complete : target_of structures type ≡ Object bytes → IsSized structures type bytes
  unsized : is_unsized structures type ≡ true → bytes ≡ 0 → IsSized structures type bytes

-- a valid lvalue: what it designates has the bytes and the kind that its type tells
pub record IsFinePlace (scope : Scope) (structures : List (Option TypeExtent)) (place : Place) : Type 0 where
  pub valid : is_valid_lvalue scope place.tree ≡ true
  pub sized : IsSized structures place.type (size_of_kind (lvalue_kind place.tree))
  pub kind : lvalue_kind place.tree ≡ object_kind (size_of_kind (lvalue_kind place.tree)) place.type

-- the kind of an array or a structure whose size is not known where it is named
abbrev pub is_unsized_kind : Kind → Bool
is_unsized_kind (kind.Array bytes) = bytes == 0
is_unsized_kind (kind.Structure bytes) = bytes == 0
is_unsized_kind k = false

pub data WasSized (structures : List (Option TypeExtent)) (type : List TypeWord) (kind : Kind) : Type 0 where
  complete_as : target_of structures type ≡ Object (size_of_kind kind) → WasSized structures type kind
  unsized_as : is_unsized_kind kind ≡ true → WasSized structures type kind

-- a valid lvalue that was named where fewer structures may have been complete
pub record IsEarlierPlace (scope : Scope) (structures : List (Option TypeExtent)) (place : Place) : Type 0 where
  pub valid : is_valid_lvalue scope place.tree ≡ true
  pub sized : WasSized structures place.type (lvalue_kind place.tree)
  pub kind : lvalue_kind place.tree ≡ object_kind (size_of_kind (lvalue_kind place.tree)) place.type

-- the name of a plain variable of this kind
pub record IsFineVariable (scope : Scope) (structures : List (Option TypeExtent)) (variable : Variable) : Type 0 where
  pub value : IsFine scope structures (variable_value variable)
  pub plain : is_plain scope variable.name.variable (kind_of variable.tree) ≡ true

-- a function stands as a pointer to it
pub record IsFineFunction (scope : Scope) (value : Value) : Type 0 where
  pub valid : is_valid scope value.tree ≡ true
  pub kind : kind_of value.tree ≡ pointer
  pub bare : is_converted value.tree ≡ false

abbrev pub IsFineOperand : Scope → List (Option TypeExtent) → Operand → Type 0
IsFineOperand scope structures (a_value v) = IsFine scope structures v
IsFineOperand scope structures (a_place p) = IsFinePlace scope structures p
IsFineOperand scope structures (a_variable x) = IsFineVariable scope structures x
IsFineOperand scope structures (a_function f) = IsFineFunction scope f

abbrev pub IsEarlierOperand : Scope → List (Option TypeExtent) → Operand → Type 0
IsEarlierOperand scope structures (a_value v) = IsFine scope structures v
IsEarlierOperand scope structures (a_place p) = IsEarlierPlace scope structures p
IsEarlierOperand scope structures (a_variable x) = IsFineVariable scope structures x
IsEarlierOperand scope structures (a_function f) = IsFineFunction scope f

-- an operand that may be read: a structure or union is complete there (6.3.2.1 paragraph 2)

abbrev pub is_incomplete_structure : List (Option TypeExtent) → List TypeWord → Bool
is_incomplete_structure structures (word.Structure n ∷ behind) = is_none (structure_extent structures n)
is_incomplete_structure structures (word.Const ∷ type) = is_incomplete_structure structures type
is_incomplete_structure structures type = false

abbrev pub IsReadable : List (Option TypeExtent) → Operand → Type 0
IsReadable structures (a_place p) = is_incomplete_structure structures p.type ≡ false
IsReadable structures o = Unit {0}

abbrev pub IfFinePlace : Scope → List (Option TypeExtent) → Answer Place → Type 0
IfFinePlace scope structures (Ok p) = IsFinePlace scope structures p
IfFinePlace scope structures (Err f) = Unit {0}

abbrev pub IfFineOperand : Scope → List (Option TypeExtent) → Answer Operand → Type 0
IfFineOperand scope structures (Ok o) = IsFineOperand scope structures o
IfFineOperand scope structures (Err f) = Unit {0}

-- a member that lies in the structure or union with a number, which is complete
pub record IsMemberOf (structures : List (Option TypeExtent)) (number : ℕ) (member : Member) : Type 0 where
  pub sized : target_of structures member.type ≡ Object member.size
  pub small : nat_le (member.offset + member.size) (2 ^ 32) ≡ true
  pub whole : TypeExtent
  pub complete : structure_extent structures number ≡ Some whole
  pub object : is_size whole.size ≡ true
  pub inside : nat_le (member.offset + member.size) whole.size ≡ true

-- what was found in a structure, if a type is one, is a member of it
abbrev pub IsFound : List (Option TypeExtent) → (number : Option ℕ) → Option Member → Type 0
IsFound structures number None = Unit {0}
IsFound structures None (Some m) = true ≡ false
IsFound structures (Some n) (Some m) = IsMemberOf structures n m

-- what was found behind a type is a member of the structure to which that points
abbrev pub IsFoundBehind : List (Option TypeExtent) → List TypeWord → Option Member → Type 0
IsFoundBehind structures type None = Unit {0}
IsFoundBehind structures type (Some m) =
    (kind_of_type structures type ≡ Some pointer) × IsFound structures (structure_of (pointee_of type)) (Some m)

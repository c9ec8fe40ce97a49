-- What `*`, `&`, `[]`, `.`, `->` and `sizeof` make of their operands (C99 6.5.2.1, 6.5.2.3, 6.5.3.2, 6.5.3.4).
use Rattle.std.specs.Prelude.{ℕ, if◌then◌else◌, List, [], ◌∷◌, Option, Some, None, Ok}
use Rattle.obj_memory.specs.declared.int_type.IntType.TheVariants.{UnsignedLong}
use Rattle.c_tree.specs.declared.c_type.TypeWord.{TypeWord}
use Rattle.c_tree.specs.declared.c_type.TypeWord.TheVariants as word
use Rattle.c_tree.specs.declared.expression.OffsetForm.{OffsetForm}
use Rattle.c_tree.specs.declared.expression.OffsetForm.TheVariants.{PointerPlusIndex, IndexPlusPointer}
use Rattle.c_tree.specs.declared.expression.OffsetForm.TheVariants.{PointerMinusIndex}
use Rattle.c_tree.specs.Extents.{TypeExtent}
use Rattle.c_tree.specs.Kinds.{integer, pointer}
use Rattle.c_tree.specs.Tree.{expression, constant as constant_node, deref_function, address as address_node}
use Rattle.c_tree.specs.Tree.{address_function}
use Rattle.c_tree.specs.Tree.{LvalueNode, lvalue, deref, index as index_node, member as member_node}
use Rattle.c_tree.specs.Tree.{arrow as arrow_node}
use Rattle.c_tree.specs.Tree.{member_of_value as member_of_value_node, Lvalue}
use Rattle.c_tree.specs.Valid.{is_lvalue}
use Rattle.c_rules.specs.declared.class.Class.{Class}
use Rattle.c_rules.specs.declared.class.Class.TheVariants as class
use Rattle.c_rules.specs.declared.class.Target.{Target}
use Rattle.c_rules.specs.declared.class.Target.TheVariants as target
use Rattle.c_faults.specs.declared.fault.Rule.TheVariants.{Incomplete, NoMember, NoTarget, NoAddress, Operands}
use Rattle.c_faults.specs.Answer.{Answer, violates, ◌>>=◌}
use Rattle.c_rules.specs.Types.{class_of, target_of}
use Rattle.c_rules.specs.Values.{Value, integer_words}
use Rattle.c_tree.specs.declared.member.Member as code
use Rattle.c_place_rules.specs.declared.place.Element as code_element
use Rattle.c_place_rules.specs.Targets.{pointee_of, object_kind, is_const, qualified}
use Rattle.c_place_rules.specs.Operands.{Place, Operand, a_value, a_place, a_variable, a_function}

-- an object of so many bytes
abbrev pub object_at : (type : List TypeWord) → (size line : ℕ) → LvalueNode → Place
object_at type size line node = record { type = type; tree = lvalue (object_kind size type) line node }

-- `*` of a pointer to an object of a complete type, or to a function (6.5.3.2)
abbrev pub object_behind : (size line : ℕ) → Value → Place
object_behind size line a = object_at (pointee_of a.type) size line (deref a.tree)

abbrev pub function_behind : (line : ℕ) → Value → Value
function_behind line a = record { type = pointee_of a.type; tree = expression pointer line (deref_function a.tree) }

abbrev pub dereferenced_as : (line : ℕ) → Class → Value → Answer Operand
dereferenced_as line (class.Pointer (target.Object size)) a = Ok (a_place (object_behind size line a))
dereferenced_as line (class.Pointer target.Function) a = Ok (a_function (function_behind line a))
dereferenced_as line _ a = violates NoTarget line

unfoldable pub dereferenced : List (Option TypeExtent) → (line : ℕ) → Value → Answer Operand
dereferenced structures line a = dereferenced_as line (class_of structures a.type) a

-- `&` of an lvalue or a function (6.5.3.2)
abbrev pub place_pointer : (line : ℕ) → Place → Answer (List TypeWord)
place_pointer line p = if is_lvalue p.tree then Ok (word.Pointer ∷ p.type) else violates NoAddress line

abbrev pub address_to : (line : ℕ) → (type : List TypeWord) → Lvalue → Value
address_to line type p = record { type = type; tree = expression pointer line (address_node p) }

abbrev pub place_address : (line : ℕ) → Place → Answer Value
place_address line p = place_pointer line p >>= λ type. Ok (address_to line type p.tree)

abbrev pub function_address : (line : ℕ) → Value → Value
function_address line f =
    record { type = word.Pointer ∷ f.type; tree = expression pointer line (address_function f.tree) }

-- a plain variable of which the text takes the address is an object, and comes as a place
abbrev pub address : (line : ℕ) → Operand → Answer Value
address line (a_value v) = violates NoAddress line
address line (a_place p) = place_address line p
address line (a_variable x) = violates NoAddress line
address line (a_function f) = Ok (function_address line f)

-- `[]`: which operand is a pointer to an object of a complete type, and the bytes of that, the other being an integer
-- (6.5.2.1)
abbrev pub subscript : Class → Class → Option (OffsetForm × ℕ)
subscript (class.Pointer (target.Object size)) (class.Integer k) = Some (PointerPlusIndex, size)
subscript (class.Integer j) (class.Pointer (target.Object size)) = Some (IndexPlusPointer, size)
subscript _ _ = None

abbrev pub pointer_of : OffsetForm → Value → Value → List TypeWord
pointer_of PointerPlusIndex a b = a.type
pointer_of IndexPlusPointer a b = b.type
pointer_of PointerMinusIndex a b = a.type

-- what it designates: where the pointer stands, the bytes of an element, and its type
pub record Element : Type 0 where
  pub form : OffsetForm
  pub size : ℕ
  pub type : List TypeWord

abbrev pub element_view : code_element.Element → Element
element_view e = record { form = e.form; size = e.size; type = e.c_type }

abbrev pub element_as : (line : ℕ) → Option (OffsetForm × ℕ) → Value → Value → Answer Element
element_as line None a b = violates NoTarget line
element_as line (Some s) a b = Ok (record { form = s.0; size = s.1; type = pointee_of (pointer_of s.0 a b) })

abbrev pub designated : List (Option TypeExtent) → (line : ℕ) → Value → Value → Answer Element
designated structures line a b = element_as line (subscript (class_of structures a.type) (class_of structures b.type))
    a b

abbrev pub element_at : (line : ℕ) → Value → Value → Element → Place
element_at line a b e = object_at e.type e.size line (index_node e.form e.size a.tree b.tree)

unfoldable pub indexed : List (Option TypeExtent) → (line : ℕ) → Value → Value → Answer Place
indexed structures line a b = designated structures line a b >>= λ e. Ok (element_at line a b e)

-- a member of a structure or union: its type, its offset and its bytes
pub record Member : Type 0 where
  pub type : List TypeWord
  pub offset : ℕ
  pub size : ℕ

abbrev pub member_view : code.Member → Member
member_view m = record { type = m.c_type; offset = m.offset; size = m.size }

-- the number of a structure or union
abbrev pub structure_of : List TypeWord → Option ℕ
structure_of [] = None
structure_of (word.Const ∷ type) = structure_of type
structure_of (word.Structure n ∷ behind) = Some n
structure_of (w ∷ behind) = None

-- `.` of an operand whose structure or union has this member, if it has one (6.5.2.3); a member of what is const is
-- const
abbrev pub member_of_value : (line : ℕ) → Member → Value → Place
member_of_value line m v = object_at m.type m.size line (member_of_value_node v.tree m.offset m.size)

abbrev pub member_of_place : (line : ℕ) → Member → Place → Place
member_of_place line m p =
    object_at (qualified (is_const p.type) m.type) m.size line (member_node p.tree m.offset m.size)

abbrev pub selected_in : (line : ℕ) → Member → Operand → Answer Place
selected_in line m (a_value v) = Ok (member_of_value line m v)
selected_in line m (a_place p) = Ok (member_of_place line m p)
selected_in line m (a_variable x) = violates NoMember line
selected_in line m (a_function f) = violates NoMember line

abbrev pub selected : (line : ℕ) → Option Member → Operand → Answer Place
selected line None o = violates NoMember line
selected line (Some m) o = selected_in line m o

-- `->` of a pointer to a structure or union that has this member, if it points to one that has it
abbrev pub member_behind : (line : ℕ) → Member → Value → Place
member_behind line m a =
    object_at (qualified (is_const (pointee_of a.type)) m.type) m.size line (arrow_node a.tree m.offset m.size)

abbrev pub arrow : (line : ℕ) → Option Member → Value → Answer Place
arrow line None a = violates NoMember line
arrow line (Some m) a = Ok (member_behind line m a)

-- `sizeof` of a type: of a complete one its bytes; a function has none (6.5.3.4)
abbrev pub size_in : (line : ℕ) → Target → Answer Value
size_in line (target.Object size) =
    Ok (record {
      type = integer_words UnsignedLong;
      tree = expression (integer UnsignedLong) line
          (constant_node size);
    })
size_in line target.Function = violates Operands line
size_in line _ = violates Incomplete line

unfoldable pub size_of : List (Option TypeExtent) → (line : ℕ) → List TypeWord → Answer Value
size_of structures line type = size_in line (target_of structures type)

-- the type of an operand, which is not read and does not decay there
abbrev pub type_in : Operand → List TypeWord
type_in (a_value v) = v.type
type_in (a_place p) = p.type
type_in (a_variable x) = x.type
type_in (a_function f) = f.type

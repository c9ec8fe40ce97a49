-- The conditional operator, the conditions of statements and the value of a switch (C99 6.5.15, 6.8.4, 6.8.5).
use Rattle.std.specs.Prelude.{ℕ, Bool, false, ◌||◌, ◌&&◌, if◌then◌else◌, List, [], ◌∷◌, Option, Ok}
use Rattle.obj_memory.specs.Integers.{common_type, promoted}
use Rattle.c_tree.specs.declared.c_type.TypeWord.{TypeWord}
use Rattle.c_tree.specs.declared.c_type.TypeWord.TheVariants as word
use Rattle.c_tree.specs.declared.expression.Kind.{Kind}
use Rattle.c_tree.specs.Extents.{TypeExtent}
use Rattle.c_tree.specs.Kinds.{integer, pointer}
use Rattle.c_tree.specs.Tree.{Expression, expression, conditional as conditional_node, kind_of}
use Rattle.c_rules.specs.declared.class.Class.{Class}
use Rattle.c_rules.specs.declared.class.Class.TheVariants as class
use Rattle.c_rules.specs.declared.class.Target.{Target}
use Rattle.c_faults.specs.declared.fault.Rule.TheVariants.{Operands, NoCondition}
use Rattle.c_rules.specs.declared.row.Pair.{Pair}
use Rattle.c_faults.specs.Answer.{Answer, violates, ◌>>=◌}
use Rattle.c_rules.specs.Types.{unqualified, class_of}
use Rattle.c_rules.specs.Values.{Value, integer_words, converted}
use Rattle.c_rules.specs.Rows.{may_meet}
use Rattle.c_rules.specs.Unary.{is_scalar}
use Rattle.c_rules.specs.Binary.{pair_of}
use Rattle.c_rules.specs.Conversions.{are_one_structure, is_void_type}
use Rattle.c_place_rules.specs.Targets.{pointee_of, is_const, qualified}
use Rattle.c_condition_rules.specs.declared.choice.Meeting.{Meeting}
use Rattle.c_condition_rules.specs.declared.choice.Meeting.TheVariants as meeting
use Rattle.c_condition_rules.specs.declared.choice.Shape as code

-- two pointers: to one type, one of them a null pointer constant, or one to void and the other to an object
abbrev pub pointers_meet : Pair → Target → Target → Meeting
pointers_meet p s t =
    if p.same_pointee then meeting.SamePointee
    else if p.right_is_null then meeting.AsLeft
    else if p.left_is_null then meeting.AsRight
    else if may_meet false s t then meeting.ToVoid
    else meeting.NoMeeting

abbrev pub where_met : Bool → Meeting → Meeting
where_met b m = if b then m else meeting.NoMeeting

-- what the second and third operands become (6.5.15 paragraphs 3, 5 and 6)
abbrev pub meeting_of : Pair → (are_same : Bool) → Class → Class → Meeting
meeting_of p same (class.Integer j) (class.Integer k) = meeting.Arithmetic (common_type j k)
meeting_of p same (class.Pointer s) (class.Pointer t) = pointers_meet p s t
meeting_of p same (class.Pointer s) (class.Integer k) = where_met p.right_is_null meeting.AsLeft
meeting_of p same (class.Integer j) (class.Pointer t) = where_met p.left_is_null meeting.AsRight
meeting_of p same class.Other class.Other = where_met same meeting.AsTheyAre
meeting_of p same _ _ = meeting.NoMeeting

-- whether both are void, or one structure or union
abbrev pub are_same : (left right : List TypeWord) → Bool
are_same left right = are_one_structure left right || (is_void_type left && is_void_type right)

-- a pointer to a type that has the qualifiers of both pointees
abbrev pub merged_pointer : (target left right : List TypeWord) → List TypeWord
merged_pointer target left right =
    word.Pointer ∷ qualified (is_const (pointee_of left) || is_const (pointee_of right)) target

-- the kind to which both are converted, and the type of the result
pub record Shape : Type 0 where
  pub kind : Kind
  pub type : List TypeWord

abbrev pub shape_view : code.Shape → Shape
shape_view s = record { kind = s.kind; type = s.c_type }

abbrev pub shape_of : Meeting → (line : ℕ) → Value → Value → Answer Shape
shape_of (meeting.Arithmetic t) line a b = Ok (record { kind = integer t; type = integer_words t })
shape_of meeting.SamePointee line a b =
    Ok (record { kind = pointer; type = merged_pointer (unqualified (pointee_of a.type)) a.type b.type })
shape_of meeting.ToVoid line a b = Ok (record { kind = pointer; type = merged_pointer (word.Void ∷ []) a.type b.type })
shape_of meeting.AsLeft line a b = Ok (record { kind = pointer; type = a.type })
shape_of meeting.AsRight line a b = Ok (record { kind = pointer; type = b.type })
shape_of meeting.AsTheyAre line a b = Ok (record { kind = kind_of a.tree; type = a.type })
shape_of meeting.NoMeeting line a b = violates Operands line

abbrev pub meeting_in : List (Option TypeExtent) → Value → Value → Meeting
meeting_in structures a b =
    meeting_of (pair_of a b) (are_same a.type b.type) (class_of structures a.type) (class_of structures b.type)

abbrev pub shape_in : List (Option TypeExtent) → (line : ℕ) → (condition first second : Value) → Answer Shape
shape_in structures line c a b =
    if is_scalar (class_of structures c.type) then shape_of (meeting_in structures a b) line a b
    else violates Operands line

abbrev pub chosen : (line : ℕ) → Kind → (condition first second : Expression) → Expression
chosen line k c a b = expression k line (conditional_node c (converted k a) (converted k b))

-- `C ? E : F` of a scalar C
unfoldable pub conditional : List (Option TypeExtent) → (line : ℕ) → (condition first second : Value) → Answer Value
conditional structures line c a b =
    shape_in structures line c a b >>= λ s.
    Ok (record { type = s.type; tree = chosen line s.kind c.tree a.tree b.tree })

-- a controlling condition is a scalar
unfoldable pub condition : List (Option TypeExtent) → (line : ℕ) → Value → Answer Expression
condition structures line a = if is_scalar (class_of structures a.type) then Ok a.tree else violates NoCondition line

-- the value of a switch is an integer, which is promoted (6.8.4.2 paragraphs 1 and 5)
abbrev pub switched : Class → (line : ℕ) → Value → Answer Value
switched (class.Integer t) line a =
    Ok (record { type = integer_words (promoted t); tree = converted (integer (promoted t)) a.tree })
switched _ line a = violates NoCondition line

unfoldable pub switch_value : List (Option TypeExtent) → (line : ℕ) → Value → Answer Value
switch_value structures line a = switched (class_of structures a.type) line a

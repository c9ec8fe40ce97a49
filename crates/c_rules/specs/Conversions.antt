-- Casts, and conversions as by assignment (C99 6.5.4, 6.5.16.1).
use Rattle.std.specs.Prelude.{ℕ, Bool, true, false, ◌||◌, ◌&&◌, if◌then◌else◌, List, ◌∷◌, Option, Some, None, Ok}
use Rattle.c_tree.specs.declared.c_type.TypeWord.{TypeWord}
use Rattle.c_tree.specs.declared.c_type.TypeWord.TheVariants.{Void, Structure}
use Rattle.c_tree.specs.declared.expression.Kind.{Kind}
use Rattle.c_tree.specs.declared.expression.Kind.TheVariants as kind
use Rattle.c_tree.specs.Extents.{TypeExtent}
use Rattle.c_tree.specs.Kinds.{integer, pointer}
use Rattle.c_tree.specs.Tree.{Expression, expression, cast as cast_node}
use Rattle.c_tree.specs.TypesAgree.{same_words}
use Rattle.c_rules.specs.declared.class.Class.{Class}
use Rattle.c_rules.specs.declared.class.Class.TheVariants as class
use Rattle.c_faults.specs.declared.fault.Rule.TheVariants.{NoCast, NoConversion}
use Rattle.c_rules.specs.declared.conversion.Passing.{Passing}
use Rattle.c_rules.specs.declared.conversion.Passing.TheVariants as passing
use Rattle.c_faults.specs.Answer.{Answer, violates}
use Rattle.c_rules.specs.Types.{unqualified, class_of, same_pointee}
use Rattle.c_rules.specs.Values.{Value, converted, is_null}
use Rattle.c_rules.specs.Rows.{may_meet}
use Rattle.c_rules.specs.Unary.{is_scalar}

abbrev pub is_void_type : List TypeWord → Bool
is_void_type (Void ∷ behind) = true
is_void_type type = false

-- the kind that a cast to a type gives of a value of a class, where it may stand: void of anything, and integers and
-- pointers of each other
abbrev pub cast_kind : (is_void : Bool) → (to from : Class) → Option Kind
cast_kind true to from = Some kind.Void
cast_kind false (class.Integer t) from = if is_scalar from then Some (integer t) else None
cast_kind false (class.Pointer target) from = if is_scalar from then Some pointer else None
cast_kind false class.Other from = None

abbrev pub cast_to : List TypeWord → (line : ℕ) → Option Kind → Value → Answer Value
cast_to type line None a = violates NoCast line
cast_to type line (Some k) a = Ok (record { type = unqualified type; tree = expression k line (cast_node a.tree) })

unfoldable pub cast : List (Option TypeExtent) → (line : ℕ) → (to : List TypeWord) → Value → Answer Value
cast structures line to a =
    cast_to to line (cast_kind (is_void_type (unqualified to)) (class_of structures to) (class_of structures a.type)) a

abbrev pub is_structure_type : List TypeWord → Bool
is_structure_type (Structure n ∷ behind) = true
is_structure_type type = false

-- how a value of a type comes to an object of another (6.5.16.1 paragraph 1): an integer as one of another type; a
-- pointer
-- to one type, or to or from void, and a null pointer constant, as a pointer; a structure as it is
abbrev pub passing_of : (same_pointee is_null is_same_structure : Bool) → (to from : Class) → Passing
passing_of same null structure (class.Integer j) (class.Integer k) = passing.Convert (integer j)
passing_of same null structure (class.Pointer s) (class.Pointer t) = if may_meet same s t || null
    then passing.Convert pointer else passing.NoWay
passing_of same null structure (class.Pointer s) (class.Integer k) = if null then passing.Convert pointer
    else passing.NoWay
passing_of same null structure class.Other class.Other = if structure then passing.AsItIs else passing.NoWay
passing_of same null structure _ _ = passing.NoWay

abbrev pub passed : Passing → (line : ℕ) → Expression → Answer Expression
passed (passing.Convert k) line e = Ok (converted k e)
passed passing.AsItIs line e = Ok e
passed passing.NoWay line e = violates NoConversion line

-- whether both are one structure or union
abbrev pub are_one_structure : (to from : List TypeWord) → Bool
are_one_structure to from = is_structure_type to && same_words to from

unfoldable pub assigned : List (Option TypeExtent) → (line : ℕ) → (to : List TypeWord) → Value → Answer Expression
assigned structures line to a =
    passed (passing_of (same_pointee to a.type) (is_null a) (are_one_structure (unqualified to) (unqualified a.type))
    (class_of structures to) (class_of structures a.type)) line a.tree

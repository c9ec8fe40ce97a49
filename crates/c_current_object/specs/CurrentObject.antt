-- The current object (C99 6.7.8 paragraphs 17, 18 and 20): the subobject that the next initializer is for.
use Rattle.std.specs.Prelude.{ℕ, zero, suc, ◌^◌, Bool, true, false, List, [], ◌∷◌, ◌++◌, Option, Some, None, Ok}
use Rattle.c_tree.specs.Extents.{TypeExtent}
use Rattle.c_faults.specs.declared.fault.Rule.TheVariants.{MisplacedItem}
use Rattle.c_faults.specs.Answer.{Answer, violates}
use Rattle.c_current_object.specs.declared.current.CurrentObject.{CurrentObject}
use Rattle.c_current_object.specs.declared.current.Open.{Open}
use Rattle.c_current_object.specs.declared.filler.Filler.{Filler}
use Rattle.c_current_object.specs.declared.subobject.Subobject.{Subobject}
use Rattle.c_current_object.specs.Members.{MemberLists}
use Rattle.c_scope.specs.Names.{Name}
use Rattle.c_current_object.specs.Subobjects.{element_number, member_number, number_behind, part}
use Rattle.c_current_object.specs.Types.{fills}

-- an object whose part with a number is initialized, and the part behind that
abbrev pub open_behind : MemberLists → Subobject → ℕ → Open
open_behind members o n = record { object = o; next = number_behind members o.c_type n }

-- a part of an object that lies in those that are open
abbrev pub part_within : MemberLists → CurrentObject → ℕ → Subobject → CurrentObject
part_within members c n part = record { object = part; levels = c.levels ++ open_behind members c.object n ∷ [] }

-- an object, in no other one
abbrev pub alone : Subobject → CurrentObject
alone o = record { object = o; levels = [] }

-- What comes next in objects that are open, the outermost first, each with the number of its next part: the next part
-- of the innermost that has one left. There is none where all are full.

abbrev pub part_next : MemberLists → Open → Option Subobject → Option CurrentObject
part_next members o None = None
part_next members o (Some part) = Some (part_within members (alone o.object) o.next part)

abbrev pub within : Open → CurrentObject → CurrentObject
within o c = record { object = c.object; levels = o ∷ c.levels }

abbrev pub innermost : Open → Option CurrentObject → Option CurrentObject → Option CurrentObject
innermost o None outside = outside
innermost o (Some c) outside = Some (within o c)

abbrev pub next_in : List (Option TypeExtent) → MemberLists → List Open → Option CurrentObject
next_in structures members [] = None
next_in structures members (o ∷ inner) =
    innermost o (next_in structures members inner) (part_next members o (part structures members o.object o.next))

-- Brace elision (paragraph 20): an initializer without braces is for the current object where it fills it, else for its
-- first part, and so on. A source has at most 2^20 tokens, and each level of a type one of them.

abbrev pub most_levels : ℕ
most_levels = 2 ^ 20

abbrev pub first_part : MemberLists → CurrentObject → Option Subobject → CurrentObject
first_part members c None = c
first_part members c (Some part) = part_within members c 0 part

abbrev pub below : List (Option TypeExtent) → MemberLists → CurrentObject → CurrentObject
below structures members c = first_part members c (part structures members c.object 0)

-- where it is asked whether the initializer fills the current object
unfoldable pub reached_by : List (Option TypeExtent) → MemberLists → (levels : ℕ) → Filler → (is_filled : Bool)
    → CurrentObject → CurrentObject
reached_by structures members zero filler is_filled c = c
reached_by structures members (suc n) filler true c = c
reached_by structures members (suc n) filler false c =
    reached_by structures members n filler (fills filler (below structures members c).object.c_type)
    (below structures members c)

unfoldable pub reached_in : List (Option TypeExtent) → MemberLists → (levels : ℕ) → Filler → CurrentObject
    → CurrentObject
reached_in structures members n filler c =
    reached_by structures members n filler (fills filler c.object.c_type) c

unfoldable pub reached : List (Option TypeExtent) → MemberLists → Filler → CurrentObject → CurrentObject
reached structures members filler c = reached_in structures members most_levels filler c

-- What a designator makes the current object: a part of what the designators before it named (paragraph 18), where it
-- names one.

abbrev pub chosen : MemberLists → (line : ℕ) → CurrentObject → ℕ → Option Subobject → Answer CurrentObject
chosen members line c n None = violates MisplacedItem line
chosen members line c n (Some part) = Ok (part_within members c n part)

abbrev pub designated : List (Option TypeExtent) → MemberLists → (line : ℕ) → CurrentObject → Option ℕ
    → Answer CurrentObject
designated structures members line c None = violates MisplacedItem line
designated structures members line c (Some n) = chosen members line c n (part structures members c.object n)

-- `[n]`
abbrev pub by_index : List (Option TypeExtent) → MemberLists → (line : ℕ) → (index : Option ℕ) → CurrentObject
    → Answer CurrentObject
by_index structures members line index c = designated structures members line c (element_number c.object.c_type index)

-- `.name`
abbrev pub by_name : List (Option TypeExtent) → MemberLists → (line : ℕ) → Name → CurrentObject → Answer CurrentObject
by_name structures members line name c =
    designated structures members line c (member_number members c.object.c_type name)

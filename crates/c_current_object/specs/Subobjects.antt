-- Subobjects (C99 6.7.8 paragraphs 6, 7, 17): the parts of arrays, structures and unions, and those that designators
-- name.
use Rattle.std.specs.Prelude.{ℕ, ◌+◌, ◌-◌, ◌^◌, min, nat_lt, ◌==◌, if◌then◌else◌, Bool, false, List, [], ◌∷◌}
use Rattle.std.specs.Prelude.{◌++◌, length, map, Option, Some, None, slice_get}
use Rattle.c_tree.specs.declared.c_type.TypeWord.{TypeWord}
use Rattle.c_tree.specs.declared.c_type.TypeWord.TheVariants.{Array, OpenArray, Structure}
use Rattle.c_tree.specs.Extents.{TypeExtent, capped, extent_of}
use Rattle.c_tree.specs.Layout.{array_size}
use Rattle.c_tree.specs.declared.member.Member.{Member}
use Rattle.c_rules.specs.Types.{unqualified}
use Rattle.c_current_object.specs.declared.subobject.Step.{Step}
use Rattle.c_current_object.specs.declared.subobject.Subobject.{Subobject}
use Rattle.c_current_object.specs.Members.{MemberList, MemberLists}
use Rattle.c_scope.specs.Names.{Name, number_named}

-- the whole object of a type
abbrev pub whole : List TypeWord → Subobject
whole type = record { offset = 0; c_type = type; path = [] }

abbrev pub size_or_0 : Option TypeExtent → ℕ
size_or_0 None = 0
size_or_0 (Some e) = e.size

-- a part so many bytes behind the start of an object; offsets beyond 2^32 count as 2^32 + 1, as sizes do
abbrev pub part_at : Subobject → (offset : ℕ) → List TypeWord → Step → Subobject
part_at o offset type step = record { offset = capped (o.offset + offset); c_type = type; path = o.path ++ step ∷ [] }

abbrev pub element_in : List (Option TypeExtent) → Subobject → (element : List TypeWord) → ℕ → Subobject
element_in structures o element n =
    part_at o (array_size n (size_or_0 (extent_of structures element))) element
    (record { is_union = false; number = n })

abbrev pub member_in : Subobject → (is_union : Bool) → ℕ → Option Member → Option Subobject
member_in o is_union n None = None
member_in o is_union n (Some m) = Some (part_at o m.offset m.c_type (record { is_union = is_union; number = n }))

abbrev pub member_of : Subobject → ℕ → Option MemberList → Option Subobject
member_of o n None = None
member_of o n (Some l) = member_in o l.is_union n (slice_get (map (λ m. m.1) l.members) n)

-- the element or member with a number, in the order of subscripts or declarations; a scalar is its own only part
-- (paragraph 11)
abbrev pub part_as : List (Option TypeExtent) → MemberLists → (unqualified_type : List TypeWord) → Subobject → ℕ
    → Option Subobject
part_as structures members (Array count bytes ∷ element) o n =
    if nat_lt n count then Some (element_in structures o element n) else None
part_as structures members (OpenArray ∷ element) o n = Some (element_in structures o element n)
part_as structures members (Structure s ∷ behind) o n = member_of o n (members s)
part_as structures members [] o n = None
part_as structures members type o n = if n == 0 then Some o else None

unfoldable pub part : List (Option TypeExtent) → MemberLists → Subobject → ℕ → Option Subobject
part structures members o n = part_as structures members (unqualified o.c_type) o n

-- the number of the part behind another; of a union no part stands behind one (paragraph 17)
abbrev pub following : ℕ → ℕ
following n = min (n + 1) (2 ^ 64 - 1)

abbrev pub member_behind : Option MemberList → ℕ → ℕ
member_behind None n = following n
member_behind (Some l) n = if l.is_union then length l.members else following n

abbrev pub number_behind_as : MemberLists → (unqualified_type : List TypeWord) → ℕ → ℕ
number_behind_as members (Structure s ∷ behind) n = member_behind (members s) n
number_behind_as members type n = following n

unfoldable pub number_behind : MemberLists → List TypeWord → ℕ → ℕ
number_behind members type n = number_behind_as members (unqualified type) n

-- the number of the element that `[n]` names, where n is the value of an integer constant expression that is not
-- negative (paragraph 6)
abbrev pub element_number_as : (unqualified_type : List TypeWord) → Option ℕ → Option ℕ
element_number_as (Array count bytes ∷ element) index = index
element_number_as (OpenArray ∷ element) index = index
element_number_as type index = None

unfoldable pub element_number : List TypeWord → Option ℕ → Option ℕ
element_number type index = element_number_as (unqualified type) index

-- the number of the member that `.name` names (paragraph 7)
abbrev pub number_in : Name → Option MemberList → Option ℕ
number_in name None = None
number_in name (Some l) = number_named name l.members

abbrev pub member_number_as : MemberLists → (unqualified_type : List TypeWord) → Name → Option ℕ
member_number_as members (Structure s ∷ behind) name = number_in name (members s)
member_number_as members type name = None

unfoldable pub member_number : MemberLists → List TypeWord → Name → Option ℕ
member_number members type name = member_number_as members (unqualified type) name

-- The members of structures and unions in the order of their declarations (C99 6.7.2.1).
use Rattle.std.specs.Prelude.{ℕ, ◌==◌, Bool, true, Option, Some, None, option_map}
use Rattle.std.specs.List.{list_all}
use Rattle.c_tree.specs.declared.member.Member.{Member}
use Rattle.c_scope.specs.declared.structures.Structures as code
use Rattle.c_scope.specs.Names.{Names}
use Rattle.c_scope.specs.Structures.{Structures, members_of, structures_of}

-- the members of a structure or union, with their names
pub record MemberList : Type 0 where
  pub is_union : Bool
  pub members : Names Member

-- All members of a union lie at 0 (6.7.2.1 paragraph 14), and of a structure the first alone (paragraph 13): one with a
-- single member is initialized as a union with it is.

abbrev pub lies_at_start : Option Member → Bool
lies_at_start None = true
lies_at_start (Some m) = m.offset == 0

abbrev pub is_union : Names Member → Bool
is_union members = list_all (λ m. lies_at_start (Some m.1)) members

abbrev pub list_in : Names Member → MemberList
list_in members = record { is_union = is_union members; members = members }

-- those of the structures and unions that are complete, by the numbers of these
abbrev pub MemberLists : Type 0
MemberLists = ℕ → Option MemberList

abbrev pub lists_in : Structures → MemberLists
lists_in s n = option_map list_in (members_of n s)

abbrev pub lists_of : code.Structures → MemberLists
lists_of s = lists_in (structures_of s)

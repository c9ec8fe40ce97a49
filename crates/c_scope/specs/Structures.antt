-- The structures and unions of a source (C99 6.7.2.1), by number in the order of their declarations.
use Rattle.std.specs.Prelude.{ℕ, zero, suc, Bool, true, false, List, [], ◌∷◌, ◌++◌, map, Option, Some, None}
use Rattle.std.specs.Prelude.{if◌then◌else◌, option_copied, slice_get}
use Rattle.c_tree.specs.Extents.{TypeExtent}
use Rattle.c_tree.specs.declared.member.Member.{Member}
use Rattle.c_scope.specs.declared.structures.Body as code
use Rattle.c_scope.specs.declared.structures.Structures as code_structures
use Rattle.c_scope.specs.Names.{Name, Names, declared, names_of}

-- the tag by which it was declared at file scope, whether the list of its members has begun, and its members by name
pub record Body : Type 0 where
  pub file_tag : Option Name
  pub is_begun : Bool
  pub members : Names Member

-- the extents, where they are complete, whether they have a const member, also within members, and the bodies
pub record Structures : Type 0 where
  pub extents : List (Option TypeExtent)
  pub with_const : List Bool
  pub bodies : List Body

abbrev pub body_of : code.Body → Body
body_of b = record {
  file_tag = option_copied b.file_tag;
  is_begun = b.is_begun;
  members = names_of b.members;
}

abbrev pub structures_of : code_structures.Structures → Structures
structures_of s = record {
  extents = s.extents.items;
  with_const = s.with_const.items;
  bodies = map body_of s.bodies.items;
}

abbrev pub none : Structures
none = record { extents = []; with_const = []; bodies = [] }

-- a structure or union that is incomplete, with the next number
abbrev pub declared_structure : Option Name → Structures → Structures
declared_structure tag s = record {
  extents = s.extents ++ None ∷ [];
  with_const = s.with_const ++ false ∷ [];
  bodies = s.bodies ++ record { file_tag = tag; is_begun = false; members = [] } ∷ [];
}

-- a list with one element changed
abbrev pub changed : {A : Type 0} → ℕ → (A → A) → List A → List A
changed n change [] = []
changed zero change (x ∷ xs) = change x ∷ xs
changed (suc n) change (x ∷ xs) = x ∷ changed n change xs

abbrev pub begun : ℕ → Structures → Structures
begun n s = record s { bodies = changed n (λ b. record b { is_begun = true }) s.bodies }

abbrev pub with_extent : ℕ → TypeExtent → Structures → Structures
with_extent n extent s = record s { extents = changed n (λ e. Some extent) s.extents }

abbrev pub with_constness : ℕ → Bool → Structures → Structures
with_constness n has_const s = record s { with_const = changed n (λ b. has_const) s.with_const }

abbrev pub with_members : ℕ → Names Member → Structures → Structures
with_members n members s = record s { bodies = changed n (λ b. record b { members = members }) s.bodies }

abbrev pub completed : ℕ → TypeExtent → (has_const : Bool) → Names Member → Structures → Structures
completed n extent has_const members s = with_members n members (with_constness n has_const (with_extent n extent s))

abbrev pub begun_body : Option Body → Bool
begun_body None = false
begun_body (Some b) = b.is_begun

abbrev pub is_begun : ℕ → List Body → Bool
is_begun n bodies = begun_body (slice_get bodies n)

abbrev pub member_in : Name → Option Body → Option Member
member_in name None = None
member_in name (Some b) = declared name b.members

abbrev pub member_of : ℕ → Name → List Body → Option Member
member_of n name bodies = member_in name (slice_get bodies n)

abbrev pub is_known : Option (Option TypeExtent) → Bool
is_known (Some (Some extent)) = true
is_known _ = false

-- the members of one that is complete, in the order of their declarations

abbrev pub members_in : Option Body → Option (Names Member)
members_in None = None
members_in (Some b) = Some b.members

abbrev pub members_of : ℕ → Structures → Option (Names Member)
members_of n s = if is_known (slice_get s.extents n) then members_in (slice_get s.bodies n) else None

abbrev pub file_tag_of : Option Body → Option Name
file_tag_of None = None
file_tag_of (Some b) = b.file_tag

-- Structures and unions with their members (C99 6.7.2.1).
use Rattle.std.specs.Prelude.{ℕ, ◌^◌, Bool, true, false, ◌||◌, nat_lt, if◌then◌else◌}
use Rattle.std.specs.Prelude.{List, [], ◌∷◌, ◌++◌, map, Option, Some, None, is_some, Ok}
use Rattle.c_tree.specs.declared.c_type.TypeWord.{TypeWord}
use Rattle.c_tree.specs.Extents.{TypeExtent, extent_of}
use Rattle.c_tree.specs.Layout.{member_offsets, structure_of, union_of}
use Rattle.c_faults.specs.declared.fault.Rule.{Rule}
use Rattle.c_faults.specs.declared.fault.Rule.TheVariants as rule
use Rattle.c_faults.specs.Answer.{Answer, violates, ◌>>=◌}
use Rattle.c_tree.specs.declared.member.Member.{Member}
use Rattle.c_assignment_rules.specs.Assignable.{has_const}
use Rattle.c_declarators.specs.Derivations.{BuiltType, element_faults}
use Rattle.c_declarators.specs.Faults.{and_faults, rule_of}
use Rattle.c_scope.specs.declared.meaning.Tag.{Tag}
use Rattle.c_scope.specs.declared.meaning.Tag.TheVariants as tag
use Rattle.c_scope.specs.Names.{Name, Names, bound, declared, names_of}
use Rattle.c_scope.specs.Structures.{completed}
use Rattle.c_declarator_typing.specs.declared.members.Entries as code_entries
use Rattle.c_declarator_typing.specs.declared.members.Entry as code_entry
use Rattle.c_declarator_typing.specs.Declarators.{Shape, built_in, has_storage, unless}
use Rattle.c_declarator_typing.specs.Specifications.{Specification}
use Rattle.c_typing_state.specs.State.{State, Typing, extents, with_const}

-- a member: its name, its type, and its size and alignment
pub record Entry : Type 0 where
  pub name : Name
  pub type : List TypeWord
  pub extent : TypeExtent

-- the members so far in order, and their names
pub record Entries : Type 0 where
  pub entries : List Entry
  pub names : Names Bool

abbrev pub entry_of : code_entry.Entry → Entry
entry_of e = record { name = e.name.now; type = e.c_type; extent = e.extent }

abbrev pub entries_of : code_entries.Entries → Entries
entries_of e = record { entries = map entry_of e.entries.items; names = names_of e.names }

abbrev pub no_entries : Entries
no_entries = record { entries = []; names = [] }

abbrev pub with_entry : Entry → Entries → Entries
with_entry e es = record {
  entries = es.entries ++ e ∷ [];
  names = bound e.name true es.names;
}

-- a member has no storage class (6.7.2.1 paragraph 1)
abbrev pub member_specified : Specification → Answer Specification
member_specified spec =
    if spec.has_two_storages || has_storage spec.storage then violates rule.MisplacedStorage spec.line else Ok spec

-- at its name: a complete object type (paragraph 2) without the faults of its own, and a name that no other has
abbrev pub rule_or_repeated : Option Rule → (is_repeated : Bool) → Option Rule
rule_or_repeated (Some r) is_repeated = Some r
rule_or_repeated None true = Some rule.RepeatedMember
rule_or_repeated None false = None

abbrev pub member_rule : List (Option TypeExtent) → BuiltType → Name → Entries → Option Rule
member_rule es b name entries =
    rule_or_repeated (rule_of (and_faults b.faults (element_faults es b.type))) (is_some (declared name entries.names))

abbrev pub sized_entry : Name → (line : ℕ) → List TypeWord → Option TypeExtent → Entries → Answer Entries
sized_entry name line type None entries = violates rule.Incomplete line
sized_entry name line type (Some extent) entries =
    Ok (with_entry (record { name = name; type = type; extent = extent }) entries)

abbrev pub member_built : List (Option TypeExtent) → BuiltType → Name → (line : ℕ) → Entries → Answer Entries
member_built es b name line entries =
    unless (member_rule es b name entries) line entries >>= λ entries.
    sized_entry name line b.type (extent_of es b.type) entries

-- a declarator without a name, which no well-formed one is, adds no member
abbrev pub member_named : List (Option TypeExtent) → BuiltType → Option (Name × ℕ) → Entries → Answer Entries
member_named es b None entries = Ok entries
member_named es b (Some name) entries = member_built es b name.0 name.1 entries

abbrev pub member_added : Specification → Shape → Entries → State → Answer Entries
member_added spec shape entries s = member_named (extents s) (built_in s spec shape) shape.name entries

-- where the members lie (paragraphs 13 and 14)

abbrev pub no_offset : Entry → ℕ
no_offset e = 0

abbrev pub extent_in : Entry → TypeExtent
extent_in e = e.extent

abbrev pub offsets_in : (is_union : Bool) → List Entry → List ℕ
offsets_in true entries = map no_offset entries
offsets_in false entries = member_offsets (map extent_in entries)

abbrev pub extent_with : (is_union : Bool) → List Entry → TypeExtent
extent_with true entries = union_of (map extent_in entries)
extent_with false entries = structure_of (map extent_in entries)

abbrev pub member_at : (offset : ℕ) → Entry → Member
member_at offset e = record { c_type = e.type; offset = offset; size = e.extent.size }

abbrev pub members_at : List Entry → (offsets : List ℕ) → Names Member → Names Member
members_at [] os members = members
members_at (e ∷ es) [] members = members
members_at (e ∷ es) (o ∷ os) members = members_at es os (bound e.name (member_at o e) members)

abbrev pub any_const : (with_const : List Bool) → List Entry → Bool
any_const marks [] = false
any_const marks (e ∷ es) = has_const marks e.type || any_const marks es

abbrev pub with_structure : (is_union : Bool) → (number : ℕ) → List Entry → State → State
with_structure is_union n entries s = record s {
  environment = record s.environment {
    structures = completed n (extent_with is_union entries) (any_const (with_const s) entries)
        (members_at entries (offsets_in is_union entries) []) s.environment.structures;
  };
}

-- a structure or union is complete behind its members (paragraph 7); it has at most 2^32 bytes
abbrev pub structure_completed : (is_union : Bool) → (line number : ℕ) → List Entry → State → Answer State
structure_completed is_union line n entries s =
    if nat_lt (2 ^ 32) (extent_with is_union entries).size then violates rule.LargeType line
    else Ok (with_structure is_union n entries s)

abbrev pub tag_completed : (line : ℕ) → Tag → Entries → Typing Tag
tag_completed line (tag.Structure n) es s =
    structure_completed false line n es.entries s >>= λ s'. Ok (s', tag.Structure n)
tag_completed line (tag.Union n) es s =
    structure_completed true line n es.entries s >>= λ s'. Ok (s', tag.Union n)
tag_completed line (tag.Enumeration n) es s = Ok (s, tag.Enumeration n)

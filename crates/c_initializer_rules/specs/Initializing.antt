-- An initializer, read from left to right (C99 6.7.8 paragraphs 11 to 22).
use Rattle.std.specs.Prelude.{◌≡◌, ℕ, ◌-◌, Bool, true, false, ◌&&◌, if◌then◌else◌, List, [], ◌∷◌, ◌++◌, length, take}
use Rattle.std.specs.Prelude.{Option, Some, None, is_some, Result, Ok, Err, slice_index_or}
use Rattle.c_tree.specs.declared.c_type.TypeWord.{TypeWord}
use Rattle.c_tree.specs.Extents.{TypeExtent}
use Rattle.c_tree.specs.Statements.{Content, value_content, literal_content, Part}
use Rattle.c_faults.specs.declared.fault.Refusal.{Refusal}
use Rattle.c_faults.specs.declared.fault.Rule.TheVariants.{MisplacedItem}
use Rattle.c_faults.specs.Answer.{Answer, Fails, violates, ◌>>=◌}
use Rattle.c_rules.specs.Conversions.{assigned}
use Rattle.c_rules.specs.Values.{Value}
use Rattle.c_current_object.specs.declared.current.CurrentObject.{CurrentObject}
use Rattle.c_current_object.specs.declared.current.Open.{Open}
use Rattle.c_current_object.specs.declared.filler.Filler.{Filler}
use Rattle.c_current_object.specs.declared.filler.Filler.TheVariants as filler
use Rattle.c_current_object.specs.declared.subobject.Subobject.{Subobject}
use Rattle.c_current_object.specs.CurrentObject.{alone, by_index, by_name, next_in, part_within, reached}
use Rattle.c_current_object.specs.Members.{MemberLists}
use Rattle.c_scope.specs.Names.{Name}
use Rattle.c_current_object.specs.Subobjects.{part, whole}
use Rattle.c_current_object.specs.Types.{filler_of, is_character_array}
use Rattle.c_initializer_rules.specs.declared.initializing.Braces.{Braces}
use Rattle.c_initializer_rules.specs.declared.initializing.Initializing as code
use Rattle.c_initializer_rules.specs.declared.initializing.Next.{Next}
use Rattle.c_initializer_rules.specs.declared.initializing.Standing.{Standing}
use Rattle.c_initializer_rules.specs.declared.initializing.Standing.TheVariants.{Whole, First, Further}
use Rattle.c_initializer_rules.specs.Literals.{filling, is_too_long}
use Rattle.c_initializer_rules.specs.Parts.{parts_of}
use Rattle.c_initializer_rules.specs.Placed.{PlacedPart, count_of, parts_in, with_part, without}

-- The parts so far; what the next initializer is for, if it is not one too many; the list in braces in which it stands;
-- and those around that, the outermost first
pub record Initializing : Type 0 where
  pub parts : List PlacedPart
  pub next : Option Next
  pub list : Braces
  pub outer : List Braces

abbrev pub initializing_of : code.Initializing → Initializing
initializing_of s = record { parts = parts_of s.parts; next = s.next; list = s.list; outer = s.outer.items }

-- what a call leaves, and what it gives
abbrev pub Leaves : (new : Initializing) → Result (Unit {0}) Refusal → Answer Initializing → Type 0
Leaves new (Ok done) defined = defined ≡ Ok new
Leaves new (Err e) defined = Fails e defined

abbrev pub LeavesAnd : {A : Type 0} → (new : Initializing) → Result A Refusal → Answer (Initializing × A) → Type 0
LeavesAnd new (Ok x) defined = defined ≡ Ok (new, x)
LeavesAnd new (Err e) defined = Fails e defined

abbrev pub at_object : CurrentObject → Standing → Next
at_object c standing = record { current = c; standing = standing }

-- a list in braces for an object, if it is not one too many
abbrev pub braces_for : Option Subobject → Braces
braces_for o = record { object = o; behind = []; has_too_many = false }

-- the initializer of an object of a type, which stands in no braces, comes next
abbrev pub begun : List TypeWord → Initializing
begun type = record {
  parts = [];
  next = Some (at_object (alone (whole type)) Whole);
  list = braces_for None;
  outer = [];
}

-- what comes behind an initializer is the next part of what is open there (paragraph 17)
abbrev pub further : Option CurrentObject → Option Next
further None = None
further (Some c) = Some (at_object c Further)

abbrev pub next_behind : List (Option TypeExtent) → MemberLists → List Open → Option Next
next_behind structures members levels = further (next_in structures members levels)

-- an item too many is stored nowhere (paragraph 2), and so are those behind it
abbrev pub with_one_too_many : Initializing → Initializing
with_one_too_many s = record s { next = None; list = record s.list { has_too_many = true } }

-- Designators name a part of the object of the list in which they stand (paragraphs 6, 7 and 18). The first violates
-- the rule on items where that list itself is one too many.

abbrev pub from_whole_list : Option Subobject → Option Next
from_whole_list None = None
from_whole_list (Some o) = Some (at_object (alone o) Further)

abbrev pub designation_begun : Initializing → Initializing
designation_begun s = record s { next = from_whole_list s.list.object }

abbrev pub designated_in : (line : ℕ) → (CurrentObject → Answer CurrentObject) → Option Next → Answer (Option Next)
designated_in line choose None = violates MisplacedItem line
designated_in line choose (Some n) = choose n.current >>= λ c. Ok (Some (at_object c Further))

abbrev pub designated_by : (line : ℕ) → (CurrentObject → Answer CurrentObject) → Initializing → Answer Initializing
designated_by line choose s = designated_in line choose s.next >>= λ next. Ok (record s { next = next })

-- `[n]`, where n is the value of an integer constant expression that is not negative
abbrev pub with_index : List (Option TypeExtent) → MemberLists → (line : ℕ) → (index : Option ℕ) → Initializing
    → Answer Initializing
with_index structures members line index s = designated_by line (by_index structures members line index) s

-- `.name`
abbrev pub with_name : List (Option TypeExtent) → MemberLists → (line : ℕ) → Name → Initializing → Answer Initializing
with_name structures members line name s = designated_by line (by_name structures members line name) s

-- What an initializer without braces is for: the whole object where it stands in no braces; in braces the current
-- object or a first part of it (paragraph 20). The first item of a list for an array of character type may be a
-- literal for all of it (paragraph 14).

abbrev pub is_literal : Filler → Bool
is_literal filler.Literal = true
is_literal f = false

abbrev pub place_in_list : List (Option TypeExtent) → MemberLists → Option Subobject → Filler → CurrentObject
    → CurrentObject
place_in_list structures members None f c = reached structures members f c
place_in_list structures members (Some o) f c =
    if is_literal f && is_character_array o.c_type then alone o else reached structures members f c

abbrev pub place_standing : List (Option TypeExtent) → MemberLists → Option Subobject → Filler → CurrentObject
    → Standing → CurrentObject
place_standing structures members list f c Whole = c
place_standing structures members list f c First = place_in_list structures members list f c
place_standing structures members list f c Further = reached structures members f c

abbrev pub place_of : List (Option TypeExtent) → MemberLists → Initializing → Filler → Next → CurrentObject
place_of structures members s f n = place_standing structures members s.list.object f n.current n.standing

-- what an object gets, and what comes behind it
abbrev pub stored_at : List (Option TypeExtent) → MemberLists → Content → CurrentObject → Initializing → Initializing
stored_at structures members content c s =
    record s { parts = with_part c.object content s.parts; next = next_behind structures members c.levels }

-- a value, converted as by assignment (paragraph 11), with the line of its first token

abbrev pub value_at : List (Option TypeExtent) → MemberLists → (line : ℕ) → Value → CurrentObject → Initializing
    → Answer Initializing
value_at structures members line v c s =
    assigned structures line c.object.c_type v >>= λ e. Ok (stored_at structures members (value_content e) c s)

abbrev pub value_next : List (Option TypeExtent) → MemberLists → (line : ℕ) → Value → Initializing → Option Next
    → Answer Initializing
value_next structures members line v s None = Ok (with_one_too_many s)
value_next structures members line v s (Some n) =
    value_at structures members line v (place_of structures members s (filler_of v.type) n) s

unfoldable pub with_value : List (Option TypeExtent) → MemberLists → (line : ℕ) → Value → Initializing
    → Answer Initializing
with_value structures members line v s = value_next structures members line v s s.next

-- A string literal of these bytes, with the line of its first token, and whether it fills an array of character type.
-- Where it does not, it is for the object that its value, a pointer, is then stored in.

abbrev pub literal_at : List (Option TypeExtent) → MemberLists → (line : ℕ) → (spelled : List ℕ) → CurrentObject
    → Initializing → Answer (Initializing × Bool)
literal_at structures members line spelled c s =
    if is_too_long c.object.c_type spelled then violates MisplacedItem line
    else Ok (stored_at structures members (literal_content (filling c.object.c_type spelled)) c s, true)

abbrev pub literal_placed : List (Option TypeExtent) → MemberLists → (line : ℕ) → (spelled : List ℕ) → CurrentObject
    → Initializing → Answer (Initializing × Bool)
literal_placed structures members line spelled c s =
    if is_character_array c.object.c_type then literal_at structures members line spelled c s
    else Ok (record s { next = Some (at_object c Whole) }, false)

abbrev pub literal_next : List (Option TypeExtent) → MemberLists → (line : ℕ) → (spelled : List ℕ) → Initializing
    → Option Next → Answer (Initializing × Bool)
literal_next structures members line spelled s None = Ok (s, false)
literal_next structures members line spelled s (Some n) =
    literal_placed structures members line spelled (place_of structures members s filler.Literal n) s

unfoldable pub with_literal : List (Option TypeExtent) → MemberLists → (line : ℕ) → (spelled : List ℕ) → Initializing
    → Answer (Initializing × Bool)
with_literal structures members line spelled s = literal_next structures members line spelled s s.next

-- `{` begins a list for the current object, of which nothing remains that was initialized before (paragraph 19)

abbrev pub first_of : MemberLists → Subobject → Option Subobject → Option Next
first_of members o None = None
first_of members o (Some first) = Some (at_object (part_within members (alone o) 0 first) First)

abbrev pub opened_for : List (Option TypeExtent) → MemberLists → Initializing → Option Next → Initializing
opened_for structures members s None = record s {
  next = None;
  list = braces_for None;
  outer = s.outer ++ record s.list { has_too_many = true } ∷ [];
}
opened_for structures members s (Some n) = record {
  parts = without n.current.object.path s.parts;
  next = first_of members n.current.object (part structures members n.current.object 0);
  list = braces_for (Some n.current.object);
  outer = s.outer ++ record s.list { behind = n.current.levels } ∷ [];
}

unfoldable pub opened : List (Option TypeExtent) → MemberLists → Initializing → Initializing
opened structures members s = opened_for structures members s s.next

-- `}` ends a list: the rule on items is violated at its `{` where it has too many, if it is itself none of those

abbrev pub has_misplaced : Braces → Bool
has_misplaced list = list.has_too_many && is_some list.object

abbrev pub last_list : List Braces → Braces
last_list outer = slice_index_or outer (length outer - 1) (braces_for None)

abbrev pub closed_list : List (Option TypeExtent) → MemberLists → Initializing → Initializing
closed_list structures members s = record {
  parts = s.parts;
  next = next_behind structures members (last_list s.outer).behind;
  list = record (last_list s.outer) { behind = [] };
  outer = take (length s.outer - 1) s.outer;
}

unfoldable pub closed : List (Option TypeExtent) → MemberLists → (line : ℕ) → Initializing → Answer Initializing
closed structures members line s =
    if has_misplaced s.list then violates MisplacedItem line else Ok (closed_list structures members s)

-- at the end: the number of elements, where the object is an array of unknown size, and the parts in their order
abbrev pub ended : Initializing → ℕ × List Part
ended s = (count_of s.parts, parts_in s.parts)

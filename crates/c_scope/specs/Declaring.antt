-- What a declarator declares, and the rules that it may violate (C99 6.2.2, 6.2.7, 6.7, 6.9.2).
use Rattle.std.specs.Prelude.{ℕ, Bool, true, false, not, ◌&&◌, ◌||◌, if◌then◌else◌, List, [], ◌∷◌}
use Rattle.std.specs.Prelude.{Option, Some, None, is_some, option_copied, Ok, Err}
use Rattle.c_tree.specs.declared.c_type.TypeWord.{TypeWord}
use Rattle.c_tree.specs.declared.c_type.TypeWord.TheVariants.{OpenArray, Takes, Gives}
use Rattle.c_tree.specs.Extents.{TypeExtent, extent_of}
use Rattle.c_faults.specs.declared.fault.Rule.{Rule}
use Rattle.c_faults.specs.declared.fault.Rule.TheVariants.{Redeclared, Incomplete, MisplacedStorage}
use Rattle.c_faults.specs.Answer.{Answer}
use Rattle.c_scope.specs.declared.meaning.Designated.{Designated}
use Rattle.c_scope.specs.declared.meaning.Designated.TheVariants as what
use Rattle.c_scope.specs.declared.meaning.Entity.{Entity}
use Rattle.c_scope.specs.declared.meaning.Meaning.{Meaning}
use Rattle.c_scope.specs.declared.meaning.Meaning.TheVariants as meaning
use Rattle.c_scope.specs.declared.meaning.Storage.{Storage}
use Rattle.c_scope.specs.declared.meaning.Storage.TheVariants as storage
use Rattle.c_scope.specs.declared.declaring.Declared as code
use Rattle.c_scope.specs.declared.declaring.Surroundings as code_surroundings
use Rattle.c_scope.specs.Composite.{composite}
use Rattle.c_scope.specs.Names.{Name}

-- a declarator: its name, the lines of the first token of its specifiers, of the name and of its initializer, the
-- storage-class specifier, its type, the rule that the type violates by itself, whether the type may be incomplete, and
-- whether it has an initializer and, as a function, a body
pub record Declaration : Type 0 where
  pub name : Name
  pub specifiers_line : ℕ
  pub line : ℕ
  pub initializer_line : ℕ
  pub storage : Storage
  pub type : List TypeWord
  pub type_rule : Option Rule
  pub may_be_incomplete : Bool
  pub has_initializer : Bool
  pub has_body : Bool

abbrev pub is_definition : Declaration → Bool
is_definition d = d.has_initializer || d.has_body

-- where a declarator stands: whether no block is open, the structures and unions so far, what the name stands for in
-- this scope, what its declarations with linkage say so far, whether the file defines an object of this name, and
-- whether the type is complete at the end of the file
pub record Surroundings : Type 0 where
  pub in_file : Bool
  pub structures : List (Option TypeExtent)
  pub here : Option Meaning
  pub entity : Option Entity
  pub is_object_of_file : Bool
  pub is_completed : Bool

abbrev pub declaration_of : code.Declared → Declaration
declaration_of d = record {
  name = d.name.now;
  specifiers_line = d.specifiers_line;
  line = d.line;
  initializer_line = d.initializer_line;
  storage = d.storage;
  type = d.c_type.now;
  type_rule = d.type_rule;
  may_be_incomplete = d.may_be_incomplete;
  has_initializer = d.has_initializer;
  has_body = d.has_body;
}

abbrev pub surroundings_of : code_surroundings.Surroundings → Surroundings
surroundings_of s = record {
  in_file = s.in_file;
  structures = s.structures.now;
  here = option_copied s.here;
  entity = option_copied s.entity;
  is_object_of_file = s.is_object_of_file;
  is_completed = s.is_completed;
}

abbrev pub is_typedef : Storage → Bool
is_typedef storage.Typedef = true
is_typedef _ = false

abbrev pub is_extern : Storage → Bool
is_extern storage.Extern = true
is_extern _ = false

abbrev pub is_function : List TypeWord → Bool
is_function (Takes ∷ behind) = true
is_function (Gives ∷ behind) = true
is_function _ = false

-- `auto` and `register` at file scope or at a function, and `static` at a function in a block (6.7.1 paragraph 5, 6.9
-- paragraph 2)
abbrev pub is_misplaced : (in_file of_function : Bool) → Storage → Bool
is_misplaced in_file of_function storage.Auto = in_file || of_function
is_misplaced in_file of_function storage.Register = in_file || of_function
is_misplaced in_file of_function storage.Static = not in_file && of_function
is_misplaced in_file of_function _ = false

-- what has linkage: all at file scope but typedef names; in a block functions, and what is declared `extern` (6.2.2)
abbrev pub has_linkage : (in_file : Bool) → Declaration → Bool
has_linkage in_file d = not (is_typedef d.storage) && (in_file || is_function d.type || is_extern d.storage)

-- a tentative definition (6.9.2 paragraph 2)
abbrev pub is_tentative : (in_file : Bool) → Declaration → Bool
is_tentative in_file d = in_file && not (is_typedef d.storage) && not (is_function d.type) && not d.has_initializer
    && not (is_extern d.storage)

abbrev pub are_compatible : List TypeWord → List TypeWord → Bool
are_compatible s t = is_some (composite s t)

-- whether a meaning that the scope has for the name may stand beside the declarator: the same use, of compatible types;
-- a variable without linkage is declared once (6.7 paragraph 3)
abbrev pub is_linked : Designated → Bool
is_linked (what.Static n) = false
is_linked (what.Variable n) = false
is_linked _ = true

abbrev pub agrees : Declaration → Meaning → Bool
agrees d (meaning.Typedef type) = is_typedef d.storage && are_compatible type d.type
agrees d (meaning.Constant word) = false
agrees d (meaning.Named what type) = not (is_typedef d.storage) && is_linked what && are_compatible type d.type

-- in one scope a name repeats only at file scope, or where it has linkage
abbrev pub clashes : (in_file : Bool) → Declaration → Option Meaning → Bool
clashes in_file d None = false
clashes in_file d (Some m) = not (in_file || has_linkage in_file d) || not (agrees d m)

-- all declarations of an object or function with linkage have compatible types (6.2.7 paragraph 2), and one defines it
-- (6.9 paragraph 5)
abbrev pub differs : Declaration → Option Entity → Bool
differs d None = false
differs d (Some e) = not (are_compatible e.c_type d.type) || (e.is_defined && is_definition d)

abbrev pub is_redeclared : Surroundings → Declaration → Bool
is_redeclared s d = clashes s.in_file d s.here || (has_linkage s.in_file d && differs d s.entity)

-- an array of unknown size has its size from its initializer (6.7.8 paragraph 22)
abbrev pub sized_by_initializer : List TypeWord → List TypeWord
sized_by_initializer (OpenArray ∷ element) = element
sized_by_initializer (w ∷ behind) = w ∷ behind
sized_by_initializer [] = []

abbrev pub is_complete : List (Option TypeExtent) → Declaration → Bool
is_complete structures d =
    is_some (extent_of structures (if d.has_initializer then sized_by_initializer d.type else d.type))

-- an object is complete where its declarator ends (6.7 paragraph 7), a tentative definition at the end of the file
-- (6.9.2), and what is declared `extern` need not be, nor a parameter where the function is not defined (6.7.5.3
-- paragraph 12)
abbrev pub is_incomplete : Surroundings → Declaration → Bool
is_incomplete s d =
    if is_typedef d.storage || is_function d.type || is_extern d.storage || d.may_be_incomplete then false
    else if is_tentative s.in_file d then not s.is_completed
    else not (is_complete s.structures d)

-- `extern` of an object that the file does not define (6.9 paragraph 5)
abbrev pub is_undefined : Surroundings → Declaration → Bool
is_undefined s d = is_extern d.storage && not (is_function d.type) && not s.is_object_of_file

-- an initializer of what has none: a typedef name, a function, or an `extern` object (6.7.8, 6.9.1)
abbrev pub is_wrongly_initialized : Declaration → Bool
is_wrongly_initialized d = d.has_initializer && (is_typedef d.storage || is_extern d.storage || is_function d.type)

-- the first test that holds, of rules in the order of their numbers
abbrev pub when : Bool → Rule → (line : ℕ) → Answer (Unit {0}) → Answer (Unit {0})
when holds rule line other = if holds then Err (record { rule = rule; line = line }) else other

abbrev pub when_some : Option Rule → (line : ℕ) → Answer (Unit {0}) → Answer (Unit {0})
when_some None line other = other
when_some (Some rule) line other = Err (record { rule = rule; line = line })

-- the rules of a declarator: at its specifiers, at its name, and at its initializer
unfoldable pub judged : Surroundings → Declaration → Answer (Unit {0})
judged s d =
    when (is_misplaced s.in_file (is_function d.type) d.storage) MisplacedStorage d.specifiers_line
    (when (is_redeclared s d) Redeclared d.line
    (when (is_incomplete s d) Incomplete d.line
    (when_some d.type_rule d.line
    (when (is_undefined s d) MisplacedStorage d.line
    (when (is_wrongly_initialized d) MisplacedStorage d.initializer_line
    (Ok tt))))))

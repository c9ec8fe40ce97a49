-- What stands for names where a construct is typed, and what a declarator adds (C99 6.2.1 to 6.2.4, 6.7, 6.9.2).
use Rattle.std.specs.Prelude.{◌≡◌, ℕ, ◌+◌, Bool, true, false, ◌||◌, if◌then◌else◌, List, [], ◌∷◌, length}
use Rattle.std.specs.Prelude.{Option, Some, None, is_some, Result, Ok, Err, slice_get}
use Rattle.c_tree.specs.declared.c_type.TypeWord.{TypeWord}
use Rattle.c_tree.specs.declared.c_type.TypeWord.TheVariants as word
use Rattle.c_faults.specs.declared.fault.Refusal.{Refusal}
use Rattle.c_faults.specs.Answer.{Answer, Fails, ◌>>=◌}
use Rattle.c_scope.specs.declared.environment.Environment as code
use Rattle.c_scope.specs.declared.environment.Facts as code_facts
use Rattle.c_scope.specs.declared.meaning.Designated.{Designated}
use Rattle.c_scope.specs.declared.meaning.Designated.TheVariants as what
use Rattle.c_scope.specs.declared.meaning.Entity.{Entity}
use Rattle.c_scope.specs.declared.meaning.Meaning.{Meaning}
use Rattle.c_scope.specs.declared.meaning.Meaning.TheVariants as meaning
use Rattle.c_scope.specs.declared.meaning.Storage.{Storage}
use Rattle.c_scope.specs.declared.meaning.Storage.TheVariants as storage
use Rattle.c_scope.specs.declared.meaning.Tag.{Tag}
use Rattle.c_scope.specs.Composite.{composite}
use Rattle.c_scope.specs.Declaring.{Declaration, Surroundings, is_linked, has_linkage, is_definition, is_function}
use Rattle.c_scope.specs.Declaring.{is_tentative, judged}
use Rattle.c_scope.specs.Names.{Name, Names, Scopes, bound, closed, declared, is_file_scope, meaning, names_of, opened}
use Rattle.c_scope.specs.Names.{scopes_of}
use Rattle.c_scope.specs.Structures.{Structures, file_tag_of, is_known, structures_of}

-- What the file says as a whole, before it is typed: the functions that it defines, numbered in their order, the
-- objects that it defines, also tentatively, and the tags whose structures and unions get their members at file scope.
pub record Facts : Type 0 where
  pub functions : Names ℕ
  pub objects : Names Bool
  pub tags : Names Bool

-- names and tags have scopes of their own (6.2.3); the structures and unions; which enumerations have begun; what has
-- linkage; how many static objects there are; and how many variables the function has
pub record Environment : Type 0 where
  pub names : Scopes Meaning
  pub tags : Scopes Tag
  pub structures : Structures
  pub enumerations : List Bool
  pub entities : Names Entity
  pub statics : ℕ
  pub variables : ℕ
  pub facts : Facts

abbrev pub facts_of : code_facts.Facts → Facts
facts_of f = record { functions = names_of f.functions; objects = names_of f.objects; tags = names_of f.tags }

abbrev pub environment_of : code.Environment → Environment
environment_of e = record {
  names = scopes_of e.names;
  tags = scopes_of e.tags;
  structures = structures_of e.structures;
  enumerations = e.enumerations.items;
  entities = names_of e.entities;
  statics = e.statics;
  variables = e.variables;
  facts = facts_of e.facts;
}

abbrev pub in_file : Environment → Bool
in_file env = is_file_scope env.names

-- whether a type that is not complete yet is so at the end of the file (6.9.2)

abbrev pub gets_tag : Facts → Option Name → Bool
gets_tag facts None = false
gets_tag facts (Some tag) = is_some (declared tag facts.tags)

abbrev pub structure_ends_complete : Facts → Structures → ℕ → Bool
structure_ends_complete facts s n =
    is_known (slice_get s.extents n) || gets_tag facts (file_tag_of (slice_get s.bodies n))

abbrev pub ends_complete : Facts → Structures → List TypeWord → Bool
ends_complete facts s [] = false
ends_complete facts s (word.Void ∷ behind) = false
ends_complete facts s (word.Integer t ∷ behind) = true
ends_complete facts s (word.Enumeration n ∷ behind) = true
ends_complete facts s (word.Pointer ∷ behind) = true
ends_complete facts s (word.Array count bytes ∷ element) = ends_complete facts s element
ends_complete facts s (word.OpenArray ∷ element) = false
ends_complete facts s (word.Structure n ∷ behind) = structure_ends_complete facts s n
ends_complete facts s (word.Const ∷ behind) = ends_complete facts s behind
ends_complete facts s (word.Takes ∷ behind) = false
ends_complete facts s (word.Gives ∷ behind) = false

-- a tentative array of unknown size gets one element at the end of the file (6.9.2 paragraph 5), but not a static one
-- (paragraph 3)
abbrev pub at_end : Storage → List TypeWord → List TypeWord
at_end storage.Static type = type
at_end _ (word.OpenArray ∷ element) = element
at_end _ type = type

abbrev pub surroundings : Environment → Declaration → Surroundings
surroundings env d = record {
  in_file = in_file env;
  structures = env.structures.extents;
  here = declared d.name env.names.current;
  entity = declared d.name env.entities;
  is_object_of_file = is_some (declared d.name env.facts.objects);
  is_completed = ends_complete env.facts env.structures (at_end d.storage d.type);
}

-- a name of the innermost scope
abbrev pub with_name : Name → Meaning → Environment → Environment
with_name name m env = record env { names = record env.names { current = bound name m env.names.current } }

-- The type of a name with linkage is the composite with that of the declaration which is visible there, where that has
-- linkage too (6.2.7 paragraph 4).

abbrev pub type_or : Option (List TypeWord) → List TypeWord → List TypeWord
type_or None type = type
type_or (Some composite_type) type = composite_type

abbrev pub visible_type : List TypeWord → Option Meaning → List TypeWord
visible_type type (Some (meaning.Named what visible)) =
    if is_linked what then type_or (composite visible type) type else type
visible_type type _ = type

-- what its first declaration makes an object or a function: the next static object, or the function of that name

abbrev pub number_or : Option ℕ → ℕ → ℕ
number_or None count = count
number_or (Some n) count = n

abbrev pub designated : Environment → Declaration → Designated
designated env d =
    if is_function d.type
    then what.Function (number_or (declared d.name env.facts.functions) (length env.facts.functions))
    else what.Object env.statics

abbrev pub entity_with : Environment → Declaration → Option Entity → Entity
entity_with env d None = record {
  what = designated env d;
  c_type = d.type;
  is_defined = is_definition d;
  is_tentative = is_tentative (in_file env) d;
}
entity_with env d (Some e) = record {
  what = e.what;
  c_type = type_or (composite e.c_type d.type) e.c_type;
  is_defined = e.is_defined || is_definition d;
  is_tentative = e.is_tentative || is_tentative (in_file env) d;
}

abbrev pub statics_with : Environment → Declaration → Option Entity → ℕ
statics_with env d None = if is_function d.type then env.statics else env.statics + 1
statics_with env d (Some e) = env.statics

abbrev pub linked_as : Environment → Declaration → Entity → Environment
linked_as env d e =
    with_name d.name (meaning.Named e.what (visible_type d.type (meaning d.name env.names)))
    (record env {
      entities = bound d.name e env.entities;
      statics = statics_with env d (declared d.name env.entities);
    })

abbrev pub linked : Environment → Declaration → Environment
linked env d = linked_as env d (entity_with env d (declared d.name env.entities))

abbrev pub with_static : Name → List TypeWord → Environment → Environment
with_static name type env =
    with_name name (meaning.Named (what.Static env.statics) type) (record env { statics = env.statics + 1 })

abbrev pub with_variable : Name → List TypeWord → Environment → Environment
with_variable name type env =
    with_name name (meaning.Named (what.Variable env.variables) type) (record env { variables = env.variables + 1 })

abbrev pub without_linkage : Storage → Environment → Declaration → Environment
without_linkage storage.Typedef env d = with_name d.name (meaning.Typedef d.type) env
without_linkage storage.Static env d = with_static d.name d.type env
without_linkage _ env d = with_variable d.name d.type env

abbrev pub with_declarator : Environment → Declaration → Environment
with_declarator env d = if has_linkage (in_file env) d then linked env d else without_linkage d.storage env d

-- one declarator: the rules that it may violate, and what it adds
abbrev pub declared_in : Environment → Declaration → Answer Environment
declared_in env d = judged (surroundings env d) d >>= λ done. Ok (with_declarator env d)

-- what a call leaves, where it answers, is what is defined; for want of memory nothing is claimed
abbrev pub Leads : {A : Type 0} → (new : Environment) → Result A Refusal → Answer Environment → Type 0
Leads new (Ok x) defined = defined ≡ Ok new
Leads new (Err e) defined = Fails e defined

-- the scopes of names and tags are opened and closed together
abbrev pub with_block : Environment → Environment
with_block env = record env { names = opened env.names; tags = opened env.tags }

abbrev pub without_block : Environment → Environment
without_block env = record env { names = closed env.names; tags = closed env.tags }

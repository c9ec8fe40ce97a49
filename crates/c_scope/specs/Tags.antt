-- Tags of structures, unions and enumerations (C99 6.7.2.3).
use Rattle.std.specs.Prelude.{◌≡◌, ℕ, Bool, true, false, not, ◌&&◌, if◌then◌else◌, [], ◌∷◌, ◌++◌, length}
use Rattle.std.specs.Prelude.{Option, Some, None, Result, Ok, Err, slice_get}
use Rattle.c_faults.specs.declared.fault.Refusal.{Refusal}
use Rattle.c_faults.specs.declared.fault.Rule.TheVariants.{MistakenTag}
use Rattle.c_faults.specs.Answer.{Answer, Fails, violates}
use Rattle.c_scope.specs.declared.meaning.Tag.{Tag}
use Rattle.c_scope.specs.declared.meaning.Tag.TheVariants as tag
use Rattle.c_scope.specs.declared.tags.TagKind.{TagKind}
use Rattle.c_scope.specs.declared.tags.TagKind.TheVariants as kind
use Rattle.c_scope.specs.Environment.{Environment, in_file}
use Rattle.c_scope.specs.Names.{Name, bound, declared, meaning}
use Rattle.c_scope.specs.Structures.{begun, changed, declared_structure, is_begun}

-- what a call gives, and the environment that it leaves
abbrev pub LeadsTo : {A : Type 0} → (new : Environment) → Result A Refusal → Answer (Environment × A) → Type 0
LeadsTo new (Ok x) defined = defined ≡ Ok (new, x)
LeadsTo new (Err e) defined = Fails e defined

abbrev pub is_of : TagKind → Tag → Bool
is_of kind.Structure (tag.Structure n) = true
is_of kind.Union (tag.Union n) = true
is_of kind.Enumeration (tag.Enumeration n) = true
is_of k t = false

abbrev pub is_enumeration : TagKind → Bool
is_enumeration kind.Enumeration = true
is_enumeration _ = false

-- the next declaration of a kind
abbrev pub next_tag : TagKind → Environment → Tag
next_tag kind.Structure env = tag.Structure (length env.structures.extents)
next_tag kind.Union env = tag.Union (length env.structures.extents)
next_tag kind.Enumeration env = tag.Enumeration (length env.enumerations)

abbrev pub if_file : Bool → Option Name → Option Name
if_file true name = name
if_file false name = None

abbrev pub with_declaration : TagKind → Option Name → Environment → Environment
with_declaration kind.Enumeration name env = record env { enumerations = env.enumerations ++ false ∷ [] }
with_declaration _ name env =
    record env { structures = declared_structure (if_file (in_file env) name) env.structures }

abbrev pub with_tag : Option Name → Tag → Environment → Environment
with_tag None t env = env
with_tag (Some name) t env = record env { tags = record env.tags { current = bound name t env.tags.current } }

-- a structure, union or enumeration that is declared here, of which nothing else is known yet
abbrev pub added : TagKind → Option Name → Environment → Environment
added k name env = with_tag name (next_tag k env) (with_declaration k name env)

abbrev pub added_as : TagKind → Option Name → Environment → Environment × Tag
added_as k name env = (added k name env, next_tag k env)

-- what a tag that has no list behind it stands for: in a declaration that declares nothing else one of this scope
-- (paragraph 7), elsewhere the innermost that is declared (paragraph 8)

abbrev pub referred : TagKind → Name → (line : ℕ) → Environment → Option Tag → Answer (Environment × Tag)
referred k name line env None = Ok (added_as k (Some name) env)
referred k name line env (Some t) = if is_of k t then Ok (env, t) else violates MistakenTag line

abbrev pub tag_found : (is_alone : Bool) → TagKind → Name → Environment → Option Tag
tag_found is_alone k name env =
    if is_alone && not (is_enumeration k) then declared name env.tags.current else meaning name env.tags

abbrev pub tagged : (is_alone : Bool) → TagKind → Name → (line : ℕ) → Environment → Answer (Environment × Tag)
tagged is_alone k name line env = referred k name line env (tag_found is_alone k name env)

-- a tag with a list of members or enumerators, which stands once in a scope (paragraph 1)

abbrev pub is_true : Option Bool → Bool
is_true None = false
is_true (Some b) = b

abbrev pub has_begun : Environment → Tag → Bool
has_begun env (tag.Structure n) = is_begun n env.structures.bodies
has_begun env (tag.Union n) = is_begun n env.structures.bodies
has_begun env (tag.Enumeration n) = is_true (slice_get env.enumerations n)

abbrev pub marked : Tag → Environment → Environment
marked (tag.Structure n) env = record env { structures = begun n env.structures }
marked (tag.Union n) env = record env { structures = begun n env.structures }
marked (tag.Enumeration n) env = record env { enumerations = changed n (λ b. true) env.enumerations }

abbrev pub marked_as : Environment × Tag → Environment × Tag
marked_as e = (marked e.1 e.0, e.1)

abbrev pub begins_in : TagKind → Name → (line : ℕ) → Environment → Option Tag → Answer (Environment × Tag)
begins_in k name line env None = Ok (marked_as (added_as k (Some name) env))
begins_in k name line env (Some t) =
    if is_of k t && not (has_begun env t) then Ok (marked t env, t) else violates MistakenTag line

abbrev pub begins : TagKind → Option Name → (line : ℕ) → Environment → Answer (Environment × Tag)
begins k None line env = Ok (marked_as (added_as k None env))
begins k (Some name) line env = begins_in k name line env (declared name env.tags.current)

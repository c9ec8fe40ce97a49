-- What a file says as a whole, before it is typed (C99 6.9): the functions that it defines, the objects that it
-- defines, also tentatively, and the tags whose structures and unions get their members at file scope.
use Rattle.std.specs.Prelude.{ℕ, Bool, true, false, not, ◌&&◌, ◌||◌, if◌then◌else◌, List, [], ◌∷◌, length, Option, Some}
use Rattle.std.specs.Prelude.{None, is_some}
use Rattle.c_lexer.specs.declared.keyword.Keyword.TheVariants as keyword
use Rattle.c_syntax.specs.declared.position.Position.{Position}
use Rattle.c_syntax.specs.declared.position.Spelled.{Spelled}
use Rattle.c_syntax.specs.Statements.{Declaration, External, InitDeclarator, InitDeclarators, declaration, definition}
use Rattle.c_syntax.specs.Tree.{Declarator, Members, Member, Specifier, Specifiers}
use Rattle.c_syntax.specs.Tree as t
use Rattle.c_syntax.specs.Formed as formed
use Rattle.c_scope.specs.Environment.{Facts, facts_of}
use Rattle.c_scope.specs.Names.{Name, Names, bound, declared, names_of}
use Rattle.c_facts.specs.declared.found.Found as code
use Rattle.c_facts.specs.declared.found.Heading as code_heading

-- the facts so far, and which typedef names stand for function types
pub record Found : Type 0 where
  pub facts : Facts
  pub types : Names Bool

abbrev pub found_of : code.Found → Found
found_of f = record { facts = facts_of f.facts; types = names_of f.types }

abbrev pub nothing_found : Found
nothing_found = record { facts = record { functions = []; objects = []; tags = [] }; types = [] }

-- tags with a list of members, also among the specifiers of members

abbrev pub with_tag : Option Spelled → Names Bool → Names Bool
with_tag None tags = tags
with_tag (Some x) tags = bound x.spelling true tags

abbrev mutual
  pub tags_of : Specifier → Names Bool → Names Bool
  tags_of (t.structure_body w at x l ms r) tags = tags_in_members ms (with_tag x tags)
  tags_of x tags = tags

  pub tags_in : Specifiers → Names Bool → Names Bool
  tags_in t.no_specifiers tags = tags
  tags_in (t.specifiers x more) tags = tags_in more (tags_of x tags)

  pub tags_in_members : Members → Names Bool → Names Bool
  tags_in_members t.no_members tags = tags
  tags_in_members (t.members m more) tags = tags_in_members more (tags_in_member m tags)

  pub tags_in_member : Member → Names Bool → Names Bool
  tags_in_member (t.member_declaration specs d more at) tags = tags_in specs tags

-- whether the type that specifiers name is one of functions, which a typedef name alone can stand for (6.7.7)

abbrev pub is_true : Option Bool → Bool
is_true None = false
is_true (Some b) = b

abbrev pub names_function : (types : Names Bool) → Specifier → Bool
names_function types (t.typedef_name x) = is_true (declared x.spelling types)
names_function types x = false

abbrev pub name_function : (types : Names Bool) → Specifiers → Bool
name_function types t.no_specifiers = false
name_function types (t.specifiers x more) = names_function types x || name_function types more

-- whether a declarator gives its name a function type, where that of the specifiers is one or not (6.7.5.3)
abbrev pub declares_function : (base : Bool) → Declarator → Bool
declares_function base (t.named x) = base
declares_function base t.unnamed = base
declares_function base (t.pointer at consts d) = declares_function false d
declares_function base (t.grouped l d r) = declares_function base d
declares_function base (t.open_array d l r) = declares_function false d
declares_function base (t.array d l e r) = declares_function false d
declares_function base (t.function d l ps r) = declares_function true d

-- whether a storage-class specifier is among specifiers (6.7.1)

abbrev pub is_extern : Specifier → Bool
is_extern (t.keyword keyword.Extern at) = true
is_extern x = false

abbrev pub has_extern : Specifiers → Bool
has_extern t.no_specifiers = false
has_extern (t.specifiers x more) = is_extern x || has_extern more

-- functions are numbered in the order of their definitions (6.9.1)

abbrev pub numbered : Name → Names ℕ → Names ℕ
numbered name functions =
    if is_some (declared name functions) then functions else bound name (length functions) functions

abbrev pub defined : Option Name → Facts → Facts
defined None facts = facts
defined (Some name) facts = record facts { functions = numbered name facts.functions }

-- A declarator of a declaration at file scope. An object is defined there, also tentatively, but by `extern` without an
-- initializer (6.9.2).

pub record Heading : Type 0 where
  pub is_typedef : Bool
  pub has_extern : Bool
  pub is_function : Bool

abbrev pub heading_of : code_heading.Heading → Heading
heading_of h = record { is_typedef = h.is_typedef; has_extern = h.has_extern; is_function = h.is_function }

abbrev pub heading : (types : Names Bool) → Specifiers → Heading
heading types specs = record {
  is_typedef = formed.has_typedef specs;
  has_extern = has_extern specs;
  is_function = name_function types specs;
}

abbrev pub with_object : (is_defined : Bool) → Name → Found → Found
with_object true name f = record f { facts = record f.facts { objects = bound name true f.facts.objects } }
with_object false name f = f

abbrev pub with_named : Heading → (is_function has_initializer : Bool) → Name → Found → Found
with_named h is_function has_initializer name f =
    if h.is_typedef then record f { types = bound name is_function f.types }
    else with_object (not is_function && (not h.has_extern || has_initializer)) name f

abbrev pub with_name : Heading → (is_function has_initializer : Bool) → Option Name → Found → Found
with_name h is_function has_initializer None f = f
with_name h is_function has_initializer (Some name) f = with_named h is_function has_initializer name f

abbrev pub with_declarator : Heading → InitDeclarator → Found → Found
with_declarator h d f =
    with_name h (declares_function h.is_function d.declarator) (is_some d.initializer) (formed.declared d.declarator) f

abbrev pub with_more : Heading → List (Position × InitDeclarator) → Found → Found
with_more h [] f = f
with_more h (d ∷ ds) f = with_more h ds (with_declarator h d.1 f)

abbrev pub with_declarators : Heading → Option InitDeclarators → Found → Found
with_declarators h None f = f
with_declarators h (Some ds) f = with_more h ds.others (with_declarator h ds.first f)

abbrev pub with_tags : Specifiers → Found → Found
with_tags specs f = record f { facts = record f.facts { tags = tags_in specs f.facts.tags } }

abbrev pub with_declaration : Declaration → Found → Found
with_declaration d f = with_declarators (heading f.types d.specifiers) d.declarators (with_tags d.specifiers f)

abbrev pub with_definition : Specifiers → Option Name → Found → Found
with_definition specs name f = record (with_tags specs f) { facts = defined name (with_tags specs f).facts }

abbrev pub with_external : External → Found → Found
with_external (definition specs d b) f = with_definition specs (formed.declared d) f
with_external (declaration d) f = with_declaration d f

abbrev pub found_in : List External → Found → Found
found_in [] f = f
found_in (e ∷ es) f = found_in es (with_external e f)

-- those of a file
abbrev pub facts_in : List External → Facts
facts_in es = (found_in es nothing_found).facts

-- What the specifiers of a declaration say (C99 6.7.1 to 6.7.4, 6.7.7).
use Rattle.std.specs.Prelude.{ℕ, Bool, List, [], ◌∷◌, Option, Some, None, Ok}
use Rattle.c_lexer.specs.declared.keyword.Keyword.{Keyword}
use Rattle.c_lexer.specs.declared.keyword.Keyword.TheVariants as keyword
use Rattle.c_tree.specs.declared.c_type.TypeWord.{TypeWord}
use Rattle.c_tree.specs.declared.c_type.TypeWord.TheVariants as word
use Rattle.c_faults.specs.declared.fault.Rule.TheVariants.{Undeclared}
use Rattle.c_faults.specs.Answer.{Answer, violates}
use Rattle.c_place_rules.specs.Targets.{qualified}
use Rattle.c_scope.specs.declared.meaning.Meaning.{Meaning}
use Rattle.c_scope.specs.declared.meaning.Meaning.TheVariants as meaning
use Rattle.c_scope.specs.declared.meaning.Storage.{Storage}
use Rattle.c_scope.specs.declared.meaning.Tag.{Tag}
use Rattle.c_scope.specs.declared.meaning.Tag.TheVariants as tag
use Rattle.c_scope.specs.declared.tags.TagKind.{TagKind}
use Rattle.c_scope.specs.declared.tags.TagKind.TheVariants as kind
use Rattle.c_scope.specs.Names.{Name}
use Rattle.c_scope.specs.Names as names
use Rattle.c_specifiers.specs.declared.specified.Specified.{Specified}
use Rattle.c_specifiers.specs.Specified.{basic_type, nothing, with}
use Rattle.c_declarator_typing.specs.declared.specification.Gathered as code_gathered
use Rattle.c_declarator_typing.specs.declared.specification.Specification as code
use Rattle.c_typing_state.specs.State.{State}

-- what the specifiers so far say: their keywords, and the type that another one names
pub record Gathered : Type 0 where
  pub keywords : Specified
  pub type : Option (List TypeWord)

abbrev pub gathered_of : code_gathered.Gathered → Gathered
gathered_of g = record { keywords = g.keywords; type = g.c_type }

-- the line of the first of them, the storage-class specifier and whether there is a second one, and the type
pub record Specification : Type 0 where
  pub line : ℕ
  pub storage : Storage
  pub has_two_storages : Bool
  pub type : List TypeWord

abbrev pub specification_of : code.Specification → Specification
specification_of s = record {
  line = s.line;
  storage = s.storage;
  has_two_storages = s.has_two_storages;
  type = s.c_type;
}

abbrev pub nothing_gathered : Gathered
nothing_gathered = record { keywords = nothing; type = None }

abbrev pub with_keyword : Keyword → Gathered → Gathered
with_keyword k g = record g { keywords = with k g.keywords }

abbrev pub with_named : List TypeWord → Gathered → Gathered
with_named type g = record g { type = Some type }

abbrev pub type_or_basic : Option (List TypeWord) → Specified → List TypeWord
type_or_basic None keywords = basic_type keywords ∷ []
type_or_basic (Some type) keywords = type

abbrev pub specified : (line : ℕ) → Gathered → Specification
specified line g = record {
  line = line;
  storage = g.keywords.storage;
  has_two_storages = g.keywords.has_two_storages;
  type = qualified g.keywords.is_const (type_or_basic g.type g.keywords);
}

-- 6.7.7
abbrev pub typedef_meant : (line : ℕ) → Option Meaning → Answer (List TypeWord)
typedef_meant line (Some (meaning.Typedef type)) = Ok type
typedef_meant line m = violates Undeclared line

abbrev pub typedef_type : Name → (line : ℕ) → State → Answer (List TypeWord)
typedef_type name line s = typedef_meant line (names.meaning name s.environment.names)

abbrev pub tag_kind : Keyword → TagKind
tag_kind keyword.Union = kind.Union
tag_kind _ = kind.Structure

-- the type that a tag stands for
abbrev pub tag_type : Tag → List TypeWord
tag_type (tag.Structure n) = word.Structure n ∷ []
tag_type (tag.Union n) = word.Structure n ∷ []
tag_type (tag.Enumeration n) = word.Enumeration n ∷ []

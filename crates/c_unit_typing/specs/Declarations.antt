-- The typing of declarations in blocks and files (C99 6.7, 6.8.5.3, 6.9.2), in the order of the tokens.
use Rattle.std.specs.Prelude.{ℕ, Bool, true, false, not, ◌&&◌, ◌||◌, if◌then◌else◌, List, [], ◌∷◌, ◌++◌}
use Rattle.std.specs.Prelude.{Option, Some, None, is_none, is_some, option_map, Ok}
use Rattle.c_syntax.specs.declared.position.Position.{Position}
use Rattle.c_syntax.specs.Statements as t
use Rattle.c_syntax.specs.Tree.{Initializer}
use Rattle.c_tree.specs.declared.c_type.TypeWord.{TypeWord}
use Rattle.c_tree.specs.declared.c_type.TypeWord.TheVariants as word
use Rattle.c_tree.specs.declared.expression.Kind.{Kind}
use Rattle.c_tree.specs.declared.program.Variable.{Variable}
use Rattle.c_tree.specs.Extents.{extent_of}
use Rattle.c_tree.specs.Programs.{StaticObject}
use Rattle.c_tree.specs.Statements as tree
use Rattle.c_tree.specs.Statements.{Content, DeclaredVariable, Part}
use Rattle.c_faults.specs.declared.fault.Rule.TheVariants.{LargeType, MisplacedStorage, Redeclared}
use Rattle.c_faults.specs.Answer.{Answer, violates}
use Rattle.c_place_rules.specs.Targets.{object_kind}
use Rattle.c_declarators.specs.Derivations.{BuiltType, array_of, is_large}
use Rattle.c_declarators.specs.Faults.{rule_of}
use Rattle.c_scope.specs.declared.meaning.Designated.{Designated}
use Rattle.c_scope.specs.declared.meaning.Designated.TheVariants as what
use Rattle.c_scope.specs.declared.meaning.Entity.{Entity}
use Rattle.c_scope.specs.declared.meaning.Meaning.{Meaning}
use Rattle.c_scope.specs.declared.meaning.Meaning.TheVariants as meaning
use Rattle.c_scope.specs.declared.meaning.Storage.{Storage}
use Rattle.c_scope.specs.declared.meaning.Storage.TheVariants as storage
use Rattle.c_scope.specs.Composite.{composite}
use Rattle.c_scope.specs.Declaring.{Declaration, are_compatible, is_function, is_misplaced}
use Rattle.c_scope.specs.Environment.{Environment, in_file, type_or, with_name}
use Rattle.c_scope.specs.Names.{Name, bound, declared}
use Rattle.c_initializer_rules.specs.Initializing.{begun}
use Rattle.c_initializer_rules.specs.Placed.{count_of, parts_in}
use Rattle.c_declarator_typing.specs.Declarators.{Shape, built_in, declaring}
use Rattle.c_operand_typing.specs.Primaries.{is_object, size_or_zero}
use Rattle.c_declarator_typing.specs.Specifications.{Specification}
use Rattle.c_typing_state.specs.State.{State, Typing, done, extents, judged, ◌>>>◌}
use Rattle.c_expression_typing.specs.Typed.{shape, specification}
use Rattle.c_unit_typing.specs.Files.{FileTyping, finished, in_state, ◌~>◌}
use Rattle.c_unit_typing.specs.Initializers.{initialized}
use Rattle.c_unit_typing.specs.Lines.{initializer_line}

-- at most one storage-class specifier (6.7.1 paragraph 2), judged at the first of the specifiers
abbrev pub stored_once : Specification → State → Answer Specification
stored_once spec s = if spec.has_two_storages then violates MisplacedStorage spec.line else Ok spec

abbrev pub specified : (is_alone : Bool) → t.Declaration → Typing Specification
specified is_alone d = specification is_alone d.specifiers >>> λ spec. judged (stored_once spec)

-- What a declarator declares, with the line of its initializer, if it has one. An array of functions is no incomplete
-- type (6.2.5 paragraph 1), though it has no size: it violates the rule on such types alone.

abbrev pub line_or : Option ℕ → ℕ → ℕ
line_or None line = line
line_or (Some n) line = n

abbrev pub declaration_of : Specification → BuiltType → Name × ℕ → (initializer : Option ℕ) → Declaration
declaration_of spec b name initializer = record {
  name = name.0;
  specifiers_line = spec.line;
  line = name.1;
  initializer_line = line_or initializer name.1;
  storage = spec.storage;
  type = b.type;
  type_rule = rule_of b.faults;
  may_be_incomplete = b.faults.misplaced;
  has_initializer = is_some initializer;
  has_body = false;
}

-- In the head of a `for` stand declarations of automatic variables alone (6.8.5 paragraph 3).

abbrev pub is_automatic : Storage → Bool
is_automatic storage.Absent = true
is_automatic storage.Auto = true
is_automatic storage.Register = true
is_automatic _ = false

abbrev pub has_place : (in_head : Bool) → Specification → (type : List TypeWord) → Bool
has_place in_head spec type = not in_head || (is_automatic spec.storage && not (is_function type))

-- A declarator with its name is judged and declared; its initializer stands in the scope of the name (6.2.1 paragraph
-- 7).
abbrev pub declared_as : (in_head : Bool) → Specification → Shape → (initializer : Option ℕ) → Name × ℕ
    → Typing (Option Meaning)
declared_as in_head spec sh initializer name s =
    if has_place in_head spec (built_in s spec sh).type
    then (declaring name (declaration_of spec (built_in s spec sh) name initializer) >>>
    λ name. judged (λ s. Ok (declared name.0 s.environment.names.current))) s
    else violates MisplacedStorage spec.line

-- An array of unknown size has that of its initializer where this ends (6.7.8 paragraph 22). The size is judged at the
-- name: it has to be that of the other declarations of the object (6.2.7 paragraph 2), and not too large.

abbrev pub entity_with_type : List TypeWord → Entity → Entity
entity_with_type type e = record e { c_type = type_or (composite e.c_type type) type }

abbrev pub with_entity : Name → Option Entity → Environment → Environment
with_entity name None env = env
with_entity name (Some e) env = record env { entities = bound name e env.entities }

abbrev pub with_size : Designated → Name → List TypeWord → Environment → Environment
with_size (what.Object n) name type env =
    with_name name (meaning.Named (what.Object n) type)
    (with_entity name (option_map (entity_with_type type) (declared name env.entities)) env)
with_size what name type env = with_name name (meaning.Named what type) env

abbrev pub is_of_type : List TypeWord → Option Entity → Bool
is_of_type type None = true
is_of_type type (Some e) = are_compatible e.c_type type

abbrev pub is_same_object : Designated → Name → List TypeWord → Environment → Bool
is_same_object (what.Object n) name type env = is_of_type type (declared name env.entities)
is_same_object what name type env = true

abbrev pub sized : Designated → Name × ℕ → (array : TypeWord) → (element : List TypeWord) → Typing (List TypeWord)
sized what name array element s =
    if not (is_same_object what name.0 (array ∷ element) s.environment) then violates Redeclared name.1
    else if is_large array then violates LargeType name.1
    else Ok (record s { environment = with_size what name.0 (array ∷ element) s.environment }, array ∷ element)

abbrev pub completed : Designated → Name × ℕ → (type : List TypeWord) → (count : ℕ) → Typing (List TypeWord)
completed what name (word.OpenArray ∷ element) n s = sized what name (array_of n (extent_of (extents s) element))
    element s
completed what name type n s = Ok (s, type)

-- the type and the parts of an object with its initializer, if it has one

abbrev pub initialized_by : Designated → Name × ℕ → (type : List TypeWord) → Initializer
    → Typing (List TypeWord × List Part)
initialized_by what name type x =
    initialized x (begun type) >>> λ i. completed what name type (count_of i.parts) >>>
    λ type. done (type, parts_in i.parts)

abbrev pub initialized_if : Designated → Name × ℕ → (type : List TypeWord) → Option Initializer
    → Typing (List TypeWord × List Part)
initialized_if what name type None = done (type, [])
initialized_if what name type (Some x) = initialized_by what name type x

-- Objects: automatic variables, static objects without linkage, and objects with linkage.

abbrev pub kind_in : State → List TypeWord → Kind
kind_in s type = object_kind (size_or_zero (extent_of (extents s) type)) type

abbrev pub variable_in : State → (number : ℕ) → List TypeWord → Variable
variable_in s n type = record { kind = kind_in s type; is_object = is_object true s n type }

-- a plain variable has a scalar as the only part of its initializer
abbrev pub content_initializer : Content → List Part → tree.Initializer
content_initializer (tree.value_content e) parts = tree.of_plain e
content_initializer (tree.literal_content bytes) parts = tree.of_object parts

abbrev pub parts_initializer : (is_object : Bool) → List Part → tree.Initializer
parts_initializer false (p ∷ []) = content_initializer p.content (p ∷ [])
parts_initializer is_object parts = tree.of_object parts

abbrev pub initializer_if : (has_one is_object : Bool) → List Part → Option tree.Initializer
initializer_if false is_object parts = None
initializer_if true is_object parts = Some (parts_initializer is_object parts)

abbrev pub with_variable : (number : ℕ) → (has_initializer : Bool) → List TypeWord × List Part
    → FileTyping (List DeclaredVariable)
with_variable n has_initializer r f =
    Ok (
      record f { variables = f.variables ++ variable_in f.state n r.0 ∷ [] },
      record {
        variable = n;
        initializer = initializer_if has_initializer (variable_in f.state n r.0).is_object r.1;
      } ∷ [],
    )

abbrev pub static_in : State → List TypeWord → List Part → StaticObject
static_in s type parts = record {
  kind = kind_in s type;
  is_literal = false;
  function = s.function;
  parts = parts;
}

abbrev pub with_static : (number : ℕ) → List TypeWord × List Part → FileTyping (List DeclaredVariable)
with_static n r f = Ok (record f { statics = f.statics ++ (n, static_in f.state r.0 r.1) ∷ [] }, [])

abbrev pub with_parts : (number : ℕ) → (has_initializer : Bool) → List TypeWord × List Part
    → FileTyping (List DeclaredVariable)
with_parts n has_initializer r f =
    Ok (if has_initializer then record f { initializers = f.initializers ++ (n, r.1) ∷ [] } else f, [])

-- what a declarator declared, with its initializer, if it has one: an automatic variable is declared where it stands
abbrev pub declared_with : Name × ℕ → Option Initializer → Option Meaning → FileTyping (List DeclaredVariable)
declared_with name x (Some (meaning.Named (what.Variable n) type)) =
    in_state (initialized_if (what.Variable n) name type x) ~> with_variable n (is_some x)
declared_with name x (Some (meaning.Named (what.Static n) type)) =
    in_state (initialized_if (what.Static n) name type x) ~> with_static n
declared_with name x (Some (meaning.Named (what.Object n) type)) =
    in_state (initialized_if (what.Object n) name type x) ~> with_parts n (is_some x)
declared_with name x m = finished []

-- a declarator without a name, which no well-formed one of a declaration is, declares nothing
abbrev pub named_by : (in_head : Bool) → Specification → Option Initializer → Shape → Option (Name × ℕ)
    → FileTyping (List DeclaredVariable)
named_by in_head spec x sh None = finished []
named_by in_head spec x sh (Some name) =
    in_state (declared_as in_head spec sh (option_map initializer_line x) name) ~> declared_with name x

abbrev pub initializer_in : t.InitDeclarator → Option Initializer
initializer_in d = option_map (λ x. x.1) d.initializer

abbrev pub with_declarator : (in_head : Bool) → Specification → t.InitDeclarator → FileTyping (List DeclaredVariable)
with_declarator in_head spec d =
    in_state (shape false d.declarator) ~> λ sh. named_by in_head spec (initializer_in d) sh sh.name

abbrev pub with_others : (in_head : Bool) → Specification → List (Position × t.InitDeclarator)
    → (before : List DeclaredVariable) → FileTyping (List DeclaredVariable)
with_others in_head spec [] vs = finished vs
with_others in_head spec (d ∷ ds) vs =
    with_declarator in_head spec d.1 ~> λ us. with_others in_head spec ds (vs ++ us)

-- a declaration that declares nothing but tags and enumerators has no storage class out of place either (6.7.1)
abbrev pub alone_in : (in_head : Bool) → Specification → State → Answer (List DeclaredVariable)
alone_in in_head spec s =
    if is_misplaced (in_file s.environment) false spec.storage || not (has_place in_head spec spec.type)
    then violates MisplacedStorage spec.line
    else Ok []

abbrev pub with_declarators : (in_head : Bool) → Specification → Option t.InitDeclarators
    → FileTyping (List DeclaredVariable)
with_declarators in_head spec None = in_state (judged (alone_in in_head spec))
with_declarators in_head spec (Some ds) =
    with_declarator in_head spec ds.first ~> λ vs. with_others in_head spec ds.others vs

-- a declaration: its automatic variables, in order
abbrev pub declaration : (in_head : Bool) → t.Declaration → FileTyping (List DeclaredVariable)
declaration in_head d =
    in_state (specified (is_none d.declarators) d) ~> λ spec. with_declarators in_head spec d.declarators

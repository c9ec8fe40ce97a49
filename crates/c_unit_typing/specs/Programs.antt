-- The typed program of a file (C99 6.9).
use Rattle.std.specs.Prelude.{ℕ, zero, suc, true, false, ◌==◌, if◌then◌else◌, List, [], ◌∷◌, ◌++◌, length, map}
use Rattle.std.specs.Prelude.{Option, Some, None, codes}
use Rattle.c_tree.specs.declared.c_type.TypeWord.{TypeWord}
use Rattle.c_tree.specs.declared.c_type.TypeWord.TheVariants as word
use Rattle.c_tree.specs.declared.expression.Kind.{Kind}
use Rattle.c_tree.specs.declared.expression.Kind.TheVariants as kind
use Rattle.c_tree.specs.Extents.{TypeExtent, extent_of}
use Rattle.c_tree.specs.Programs.{Function, FunctionType, Program, StaticObject}
use Rattle.c_tree.specs.Room.{room}
use Rattle.c_tree.specs.Statements.{Part, literal_content}
use Rattle.c_tree.specs.TypesAgree.{kind_of_type, still}
use Rattle.c_call_rules.specs.FunctionTypes.{result_type}
use Rattle.c_declarators.specs.Derivations.{array_of}
use Rattle.c_scope.specs.declared.meaning.Designated.{Designated}
use Rattle.c_scope.specs.declared.meaning.Designated.TheVariants as what
use Rattle.c_scope.specs.declared.meaning.Entity.{Entity}
use Rattle.c_scope.specs.Names.{Names, declared}
use Rattle.c_operand_typing.specs.Calls.{place_among}
use Rattle.c_typing_state.specs.State.{Literal, extents}
use Rattle.c_unit_typing.specs.Declarations.{kind_in}
use Rattle.c_unit_typing.specs.Files.{Definition, File}

-- The static objects, by their numbers: string literals, those without linkage, and those with linkage, of which each
-- is defined.

abbrev pub literal_object : Literal → ℕ × StaticObject
literal_object l = (
  l.number,
  record {
    kind = kind.Array (length l.bytes);
    is_literal = true;
    function = l.function;
    parts = record { offset = 0; content = literal_content l.bytes } ∷ [];
  },
)

abbrev pub parts_of : (number : ℕ) → List (ℕ × List Part) → List Part
parts_of n [] = []
parts_of n (i ∷ is) = if n == i.0 then i.1 else parts_of n is

-- an array whose size is unknown at the end of the file has one element (6.9.2 paragraphs 2 and 5)
abbrev pub final_type : List (Option TypeExtent) → List TypeWord → List TypeWord
final_type es (word.OpenArray ∷ element) = array_of 1 (extent_of es element) ∷ element
final_type es type = type

abbrev pub linked_object : File → (type : List TypeWord) → Designated → List (ℕ × StaticObject)
linked_object f type (what.Object n) = (
  n,
  record {
    kind = kind_in f.state (final_type (extents f.state) type);
    is_literal = false;
    function = None;
    parts = parts_of n f.initializers;
  },
) ∷ []
linked_object f type what = []

abbrev pub linked_objects : File → Names Entity → List (ℕ × StaticObject)
linked_objects f [] = []
linked_objects f (e ∷ es) = linked_object f e.1.c_type e.1.what ++ linked_objects f es

abbrev pub with_number : (number : ℕ) → List (ℕ × StaticObject) → List StaticObject
with_number n [] = []
with_number n (o ∷ os) = if n == o.0 then o.1 ∷ [] else with_number n os

abbrev pub in_order : (first count : ℕ) → List (ℕ × StaticObject) → List StaticObject
in_order n zero os = []
in_order n (suc k) os = with_number n os ++ in_order (suc n) k os

abbrev pub static_objects : File → List StaticObject
static_objects f =
    in_order 0 f.state.environment.statics
    (map literal_object f.state.literals ++ f.statics ++ linked_objects f f.state.environment.entities)

-- the types of functions, with the kinds of their parameters and results (6.7.5.3)

abbrev pub kind_or_void : Option Kind → Kind
kind_or_void None = kind.Void
kind_or_void (Some k) = k

-- where so many types stand before the words that are parts of parameters
abbrev pub parameter_kinds : List (Option TypeExtent) → (before : ℕ) → List TypeWord → List Kind
parameter_kinds es n [] = []
parameter_kinds es zero (word.Takes ∷ ws) = kind_or_void (kind_of_type es ws) ∷ parameter_kinds es 1 ws
parameter_kinds es zero (w ∷ ws) = []
parameter_kinds es (suc n) (w ∷ ws) = parameter_kinds es (still w n) ws

abbrev pub result_kind : List (Option TypeExtent) → List TypeWord → Kind
result_kind es type = kind_or_void (kind_of_type es (result_type 0 type))

abbrev pub function_type : List (Option TypeExtent) → List TypeWord → FunctionType
function_type es type = record {
  c_type = type;
  parameters = parameter_kinds es 0 type;
  result = result_kind es type;
}

-- functions, with the bytes that a call of each takes

abbrev pub function_of : (types : List (List TypeWord)) → (room : ℕ) → Definition → Function
function_of types room d = record {
  line = d.line;
  type_number = place_among d.type types;
  parameters = d.parameters;
  variables = d.variables;
  body = d.body;
  room = room;
}

abbrev pub room_of : File → List StaticObject → (number : ℕ) → Definition → ℕ
room_of f statics n d =
    room statics n (result_kind (extents f.state) d.type) (function_of f.state.function_types 0 d)

abbrev pub functions_from : File → List StaticObject → (number : ℕ) → List Definition → List Function
functions_from f statics n [] = []
functions_from f statics n (d ∷ ds) =
    function_of f.state.function_types (room_of f statics n d) d ∷ functions_from f statics (suc n) ds

abbrev pub number_or_zero : Option ℕ → ℕ
number_or_zero None = 0
number_or_zero (Some n) = n

abbrev pub program_of : File → Program
program_of f = record {
  structures = extents f.state;
  statics = static_objects f;
  function_types = map (function_type (extents f.state)) f.state.function_types;
  functions = functions_from f (static_objects f) 0 f.definitions;
  main = number_or_zero (declared (codes "main") f.state.environment.facts.functions);
}

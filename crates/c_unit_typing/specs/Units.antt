-- The typing of function definitions and files (C99 6.9), in the order of the tokens.
use Rattle.std.specs.Prelude.{ℕ, Bool, true, false, ◌&&◌, ◌||◌, if◌then◌else◌, List, [], ◌∷◌, ◌++◌}
use Rattle.std.specs.Prelude.{Option, Some, None, is_none, slice_get, codes, Ok}
use Rattle.obj_memory.specs.declared.int_type.IntType.TheVariants.{Int}
use Rattle.c_syntax.specs.Statements as t
use Rattle.c_syntax.specs.Tree.{Declarator, Specifiers}
use Rattle.c_tree.specs.declared.c_type.TypeWord.{TypeWord}
use Rattle.c_tree.specs.declared.c_type.TypeWord.TheVariants as word
use Rattle.c_tree.specs.declared.program.Variable.{Variable}
use Rattle.c_tree.specs.Extents.{TypeExtent, extent_of}
use Rattle.c_tree.specs.Statements.{Statements}
use Rattle.c_tree.specs.TypesAgree.{same_words}
use Rattle.c_faults.specs.declared.fault.Rule.{Rule}
use Rattle.c_faults.specs.declared.fault.Rule.TheVariants.{MisplacedStorage, NoMain, UndefinedFunction}
use Rattle.c_faults.specs.Answer.{Answer, violates, ◌>>=◌}
use Rattle.c_rules.specs.Types.{unqualified}
use Rattle.c_call_rules.specs.FunctionTypes.{result_type}
use Rattle.c_declarators.specs.Derivations.{BuiltType}
use Rattle.c_declarators.specs.Faults.{rule_of}
use Rattle.c_facts.specs.Facts.{facts_in}
use Rattle.c_scope.specs.declared.meaning.Designated.TheVariants as what
use Rattle.c_scope.specs.declared.meaning.Entity.{Entity}
use Rattle.c_scope.specs.declared.meaning.Meaning.{Meaning}
use Rattle.c_scope.specs.declared.meaning.Meaning.TheVariants as meaning
use Rattle.c_scope.specs.Declaring.{Declaration, is_typedef}
use Rattle.c_scope.specs.Environment.{Facts, without_block}
use Rattle.c_scope.specs.Names.{Name, Names, declared}
use Rattle.c_scope.specs.Parameters.{ParameterScope, with_parameters}
use Rattle.c_scope.specs.Start.{start}
use Rattle.c_operand_typing.specs.Calls.{with_type}
use Rattle.c_declarator_typing.specs.Declarators.{Shape, built_in, declaring}
use Rattle.c_declarator_typing.specs.Specifications.{Specification}
use Rattle.c_typing_state.specs.State.{State, Typing, extents, judged, ◌>>>◌}
use Rattle.c_expression_typing.specs.Typed.{shape, specification}
use Rattle.c_unit_typing.specs.Constructs.{Around}
use Rattle.c_unit_typing.specs.Declarations.{declaration, stored_once, variable_in}
use Rattle.c_unit_typing.specs.Files.{File, FileTyping, finished, in_state, ◌~>◌}
use Rattle.c_unit_typing.specs.Statements.{block_items}

-- what a function that is defined gives is void or of a complete type (6.9.1 paragraph 3), judged at its name

abbrev pub is_incomplete_structure : List (Option TypeExtent) → (unqualified_type : List TypeWord) → Bool
is_incomplete_structure es (word.Structure n ∷ behind) = is_none (extent_of es (word.Structure n ∷ behind))
is_incomplete_structure es type = false

abbrev pub gives_incomplete : List (Option TypeExtent) → (type : List TypeWord) → Bool
gives_incomplete es type = is_incomplete_structure es (unqualified (result_type 0 type))

abbrev pub definition_rule : List (Option TypeExtent) → BuiltType → Option Rule
definition_rule es b =
    rule_of (record b.faults { incomplete = b.faults.incomplete || gives_incomplete es b.type })

abbrev pub definition_of : List (Option TypeExtent) → Specification → BuiltType → Name × ℕ → Declaration
definition_of es spec b name = record {
  name = name.0;
  specifiers_line = spec.line;
  line = name.1;
  initializer_line = name.1;
  storage = spec.storage;
  type = b.type;
  type_rule = definition_rule es b;
  may_be_incomplete = false;
  has_initializer = false;
  has_body = true;
}

-- the only storage-class specifiers are `extern` and `static` (6.9.1 paragraph 4)
abbrev pub defined_as : Specification → Shape → Name × ℕ → Typing (Option Meaning)
defined_as spec sh name s =
    if is_typedef spec.storage then violates MisplacedStorage spec.line
    else (declaring name (definition_of (extents s) spec (built_in s spec sh) name) >>>
    λ name. judged (λ s. Ok (declared name.0 s.environment.names.current))) s

-- The block of a function stands in the scope of its parameters, which have the first numbers of its variables.

abbrev pub marks_in : Option (List (List Bool)) → (number : ℕ) → Option (List Bool)
marks_in None n = None
marks_in (Some objects) n = slice_get objects n

abbrev pub entered : (number : ℕ) → (type : List TypeWord) → ParameterScope → File → File
entered n type scope f = record f {
  state = with_type type (record f.state {
    environment = with_parameters scope f.state.environment;
    objects = marks_in f.objects n;
    taken = [];
    function = Some n;
  });
  variables = [];
}

abbrev pub parameter_in : State → Meaning → List Variable
parameter_in s (meaning.Named (what.Variable n) type) = variable_in s n type ∷ []
parameter_in s m = []

abbrev pub parameters_in : State → Names Meaning → List Variable
parameters_in s [] = []
parameters_in s (e ∷ es) = parameter_in s e.1 ++ parameters_in s es

abbrev pub left : (line : ℕ) → (type : List TypeWord) → (parameters : List Variable) → File × Statements → File
left line type parameters r = record r.0 {
  state = record r.0.state {
    environment = record (without_block r.0.state.environment) { variables = 0 };
    objects = None;
    taken = [];
    function = None;
  };
  variables = [];
  definitions = r.0.definitions ++ record {
    line = line;
    type = type;
    parameters = parameters;
    variables = r.0.variables;
    body = r.1;
  } ∷ [];
  taken = r.0.taken ++ r.0.state.taken ∷ [];
}

abbrev pub around_body : (type : List TypeWord) → Around
around_body type = record {
  inside = record { may_break = false; may_continue = false };
  result = result_type 0 type;
}

abbrev pub body : Around → t.Block → FileTyping Statements
body a (t.block l xs r) = block_items a xs

abbrev pub body_of : (line : ℕ) → (type : List TypeWord) → ParameterScope → t.Block → FileTyping (Unit {0})
body_of line type scope b f =
    body (around_body type) b f >>= λ r. Ok (left line type (parameters_in f.state scope.names) r, tt)

-- a well-formed definition has a name and, directly behind it, parameters

abbrev pub scope_or_none : Option ParameterScope → ParameterScope
scope_or_none None = record { names = []; tags = []; variables = 0 }
scope_or_none (Some scope) = scope

abbrev pub with_body : (line : ℕ) → Option ParameterScope → t.Block → Option Meaning → FileTyping (Unit {0})
with_body line scope b (Some (meaning.Named (what.Function n) type)) f =
    body_of line type (scope_or_none scope) b (entered n type (scope_or_none scope) f)
with_body line scope b m f = Ok (f, tt)

abbrev pub defined_by : Specification → Shape → t.Block → Option (Name × ℕ) → FileTyping (Unit {0})
defined_by spec sh b None = finished tt
defined_by spec sh b (Some name) = in_state (defined_as spec sh name) ~> with_body name.1 sh.parameters b

abbrev pub definition : Specifiers → Declarator → t.Block → FileTyping (Unit {0})
definition specs d b =
    in_state (specification false specs >>> λ spec. judged (stored_once spec)) ~> λ spec.
    in_state (shape true d) ~> λ sh. defined_by spec sh b sh.name

abbrev pub external : t.External → FileTyping (Unit {0})
external (t.definition specs d b) = definition specs d b
external (t.declaration d) = declaration false d ~> λ vs. finished tt

abbrev pub externals : List t.External → FileTyping (Unit {0})
externals [] = finished tt
externals (e ∷ es) = external e ~> λ done. externals es

abbrev pub file_before : (objects : Option (List (List Bool))) → Facts → File
file_before objects facts = record {
  state = record {
    environment = start facts;
    function_types = [];
    objects = None;
    taken = [];
    undefined = None;
    literals = [];
    function = None;
  };
  variables = [];
  statics = [];
  initializers = [];
  definitions = [];
  objects = objects;
  taken = [];
}

-- At the end, on the line where the text ends, `int main(void)` has to be defined (5.1.2.2.1); then each function that
-- is used (6.9 paragraph 5), at the first use.

abbrev pub is_main : Option Entity → Bool
is_main None = false
is_main (Some e) = e.is_defined && same_words e.c_type (word.Gives ∷ word.Integer Int ∷ [])

abbrev pub all_defined : Option ℕ → File → Answer File
all_defined None f = Ok f
all_defined (Some line) f = violates UndefinedFunction line

abbrev pub ended : (end : ℕ) → File → Answer File
ended end f =
    if is_main (declared (codes "main") f.state.environment.entities) then all_defined f.state.undefined f
    else violates NoMain end

-- A file, where it is known or not which variables of each function are objects since the text takes their addresses.
abbrev pub file_with : (objects : Option (List (List Bool))) → (end : ℕ) → List t.External → Answer File
file_with objects end es = externals es (file_before objects (facts_in es)) >>= λ r. ended end r.0

-- it is typed twice, first to know that
abbrev pub file_in : (end : ℕ) → List t.External → Answer File
file_in end es = file_with None end es >>= λ f. file_with (Some f.taken) end es

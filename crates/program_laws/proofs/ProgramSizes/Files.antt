-- A file is typed to at most 3 nodes for each of its words (C99 6.9).
use Rattle.std.proofs.Common.{◌≡◌, ℕ, ◌+◌, ◌*◌, Bool, true, false, ap, List, [], ◌∷◌, Option, Some, None, arith}
use Rattle.std.proofs.Common.{if◌then◌else◌, length}
use Rattle.std.specs.Prelude.{Ok, codes}
use Rattle.c_syntax.specs.Statements as t
use Rattle.c_syntax.specs.Tree.{Declarator, Specifiers}
use Rattle.c_tree.specs.declared.c_type.TypeWord.{TypeWord}
use Rattle.c_tree.specs.declared.program.Variable.{Variable}
use Rattle.c_tree.specs.Statements.{Statements}
use Rattle.c_faults.specs.declared.fault.Rule.TheVariants.{MisplacedStorage, NoMain}
use Rattle.c_faults.specs.Answer.{violates}
use Rattle.c_facts.specs.Facts.{facts_in}
use Rattle.c_scope.specs.declared.meaning.Designated.TheVariants as what
use Rattle.c_scope.specs.declared.meaning.Meaning.{Meaning}
use Rattle.c_scope.specs.declared.meaning.Meaning.TheVariants as meaning
use Rattle.c_scope.specs.Declaring.{Declaration, is_typedef}
use Rattle.c_scope.specs.Environment.{Facts}
use Rattle.c_scope.specs.Names.{Name, declared}
use Rattle.c_scope.specs.Parameters.{ParameterScope, with_parameters}
use Rattle.c_declarator_typing.specs.Declarators.{Shape, built_in, declaring}
use Rattle.c_declarator_typing.specs.Specifications.{Specification}
use Rattle.c_typing_state.specs.State.{State, extents, judged, ◌>>>◌}
use Rattle.c_expression_typing.specs.Typed.{shape, specification}
use Rattle.c_unit_typing.specs.Constructs.{Around}
use Rattle.c_unit_typing.specs.Declarations.{stored_once}
use Rattle.c_unit_typing.specs.Files.{File}
use Rattle.c_unit_typing.specs.Units.{all_defined, around_body, body, body_of, defined_as, defined_by, definition}
use Rattle.c_unit_typing.specs.Units.{definition_of, ended, entered, external, externals, file_before, file_in}
use Rattle.c_unit_typing.specs.Units.{file_with, is_main, left, marks_in, parameters_in, scope_or_none, with_body}
use Rattle.program_laws.specs.TreeSizes.AtMost.{AtMost, in_state_size, no_size}
use Rattle.program_laws.specs.TreeSizes.Nodes.{statements_nodes}
use Rattle.program_laws.specs.TreeSizes.WordCounts.{words_in_block, words_in_declarator, words_in_external}
use Rattle.program_laws.specs.TreeSizes.WordCounts.{words_in_externals}
use Rattle.program_laws.specs.TreeSizes.WordCounts.{words_in_specifiers}
use Rattle.program_laws.proofs.TreeSizes.Bounded.{gives, more, refuses, then_gives}
use Rattle.program_laws.proofs.TreeSizes.Recursion.{shape_nodes}
use Rattle.program_laws.proofs.TreeSizes.Steps.{with_type_literals}
use Rattle.program_laws.specs.ProgramSizes.Sizes.{definition_nodes, file_nodes, in_file_size}
use Rattle.program_laws.proofs.ProgramSizes.Declarations.{declaration_bound, in_state_gives, name_nodes}
use Rattle.program_laws.proofs.ProgramSizes.Declarations.{specified_nodes}
use Rattle.program_laws.proofs.ProgramSizes.Numbers.{sum_added}
use Rattle.program_laws.proofs.ProgramSizes.Statements.{items_bound}

-- function definitions

typedef_by : (b : Bool) (spec : Specification) (d : Declaration) (name : Name × ℕ) (s : State)
    → AtMost (in_state_size no_size) (length s.literals) (if b then violates MisplacedStorage spec.line
    else (declaring name d >>> λ name. judged (λ s. Ok (declared name.0 s.environment.names.current))) s)
typedef_by true spec d name s = refuses
typedef_by false spec d name s = name_nodes d name s

defined_as_nodes : (spec : Specification) (sh : Shape) (name : Name × ℕ) (s : State)
    → AtMost (in_state_size no_size) (length s.literals) (defined_as spec sh name s)
defined_as_nodes spec sh name s =
    typedef_by (is_typedef spec.storage) spec (definition_of (extents s) spec (built_in s spec sh) name) name s

body_nodes : (a : Around) (b : t.Block) (f : File)
    → AtMost (in_file_size statements_nodes) (file_nodes f + 3 * words_in_block b) (body a b f)
body_nodes a (t.block l xs r) f = more (omega arith) (items_bound a xs f)

left_nodes : (line : ℕ) (type : List TypeWord) (ps : List Variable) (r : File × Statements)
    → file_nodes (left line type ps r) ≡ in_file_size statements_nodes r
left_nodes line type ps r = omega (
  arith,
  sum_added definition_nodes r.0.definitions (record {
    line = line;
    type = type;
    parameters = ps;
    variables = r.0.variables;
    body = r.1;
  }),
)

entered_nodes : (n : ℕ) (type : List TypeWord) (scope : ParameterScope) (f : File)
    → file_nodes (entered n type scope f) ≡ file_nodes f
entered_nodes n type scope f =
    let begun : State = record f.state {
      environment = with_parameters scope f.state.environment;
      objects = marks_in f.objects n;
      taken = [];
      function = Some n;
    } in
    omega (arith, ap length (with_type_literals type begun))

body_of_nodes : (line : ℕ) (type : List TypeWord) (scope : ParameterScope) (b : t.Block) (f : File)
    → AtMost (in_file_size no_size) (file_nodes f + 3 * words_in_block b) (body_of line type scope b f)
body_of_nodes line type scope b f =
    then_gives (body_nodes (around_body type) b f)
    (λ r h. gives (omega (arith, left_nodes line type (parameters_in f.state scope.names) r)))

with_body_nodes : (line : ℕ) (scope : Option ParameterScope) (b : t.Block) (m : Option Meaning) (f : File)
    → AtMost (in_file_size no_size) (file_nodes f + 3 * words_in_block b) (with_body line scope b m f)
with_body_nodes line scope b (Some (meaning.Named (what.Function n) type)) f =
    more (omega (arith, entered_nodes n type (scope_or_none scope) f))
    (body_of_nodes line type (scope_or_none scope) b (entered n type (scope_or_none scope) f))
with_body_nodes line scope b _ f = gives (omega arith)

defined_by_nodes : (spec : Specification) (sh : Shape) (b : t.Block) (name : Option (Name × ℕ)) (f : File)
    → AtMost (in_file_size no_size) (file_nodes f + 3 * words_in_block b) (defined_by spec sh b name f)
defined_by_nodes spec sh b None f = gives (omega arith)
defined_by_nodes spec sh b (Some name) f =
    then_gives (in_state_gives no_size f (defined_as spec sh name) (defined_as_nodes spec sh name f.state))
    (λ m h. more (omega arith) (with_body_nodes name.1 sh.parameters b m.1 m.0))

definition_bound : (specs : Specifiers) (d : Declarator) (b : t.Block) (f : File)
    → AtMost (in_file_size no_size)
    (file_nodes f + 3 * (words_in_specifiers specs + words_in_declarator d + words_in_block b))
    (definition specs d b f)
definition_bound specs d b f =
    then_gives
    (in_state_gives no_size f (specification false specs >>> λ spec. judged (stored_once spec))
    (specified_nodes false specs f.state)) (λ spec h.
    then_gives (in_state_gives no_size spec.0 (shape true d) (shape_nodes true d spec.0.state)) (λ sh g.
    more (omega arith) (defined_by_nodes spec.1 sh.1 b sh.1.name sh.0)))

-- files

external_bound : (x : t.External) (f : File)
    → AtMost (in_file_size no_size) (file_nodes f + 3 * words_in_external x) (external x f)
external_bound (t.definition specs d b) f = definition_bound specs d b f
external_bound (t.declaration d) f = then_gives (declaration_bound false d f) (λ vs h. gives (omega arith))

externals_bound : (xs : List t.External) (f : File)
    → AtMost (in_file_size no_size) (file_nodes f + 3 * words_in_externals xs) (externals xs f)
externals_bound [] f = gives (omega arith)
externals_bound (x ∷ xs) f =
    then_gives (external_bound x f) (λ r h. more (omega arith) (externals_bound xs r.0))

all_defined_nodes : (line : Option ℕ) (f : File) → AtMost file_nodes (file_nodes f) (all_defined line f)
all_defined_nodes None f = gives (omega arith)
all_defined_nodes (Some line) f = refuses

ended_by : (b : Bool) (end : ℕ) (f : File)
    → AtMost file_nodes (file_nodes f) (if b then all_defined f.state.undefined f else violates NoMain end)
ended_by true end f = all_defined_nodes f.state.undefined f
ended_by false end f = refuses

ended_nodes : (end : ℕ) (f : File) → AtMost file_nodes (file_nodes f) (ended end f)
ended_nodes end f = ended_by (is_main (declared (codes "main") f.state.environment.entities)) end f

before_nodes : (objects : Option (List (List Bool))) (facts : Facts) → file_nodes (file_before objects facts) ≡ 0
before_nodes objects facts = omega arith

file_with_bound : (objects : Option (List (List Bool))) (end : ℕ) (xs : List t.External)
    → AtMost file_nodes (3 * words_in_externals xs) (file_with objects end xs)
file_with_bound objects end xs =
    then_gives (externals_bound xs (file_before objects (facts_in xs)))
    (λ r h. more (omega (arith, before_nodes objects (facts_in xs))) (ended_nodes end r.0))

pub file_bound : (end : ℕ) (xs : List t.External) → AtMost file_nodes (3 * words_in_externals xs) (file_in end xs)
file_bound end xs = then_gives (file_with_bound None end xs) (λ f h. file_with_bound (Some f.taken) end xs)

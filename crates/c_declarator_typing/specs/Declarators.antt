-- Declarators without initializers: type names, parameters and members (C99 6.7.2.1, 6.7.5, 6.7.6).
use Rattle.std.specs.Prelude.{ℕ, Bool, true, false, not, ◌&&◌, ◌||◌, if◌then◌else◌}
use Rattle.std.specs.Prelude.{List, [], ◌∷◌, ◌++◌, map, Option, Some, None, option_map, Ok}
use Rattle.c_tree.specs.declared.c_type.TypeWord.{TypeWord}
use Rattle.c_tree.specs.declared.c_type.TypeWord.TheVariants as word
use Rattle.c_faults.specs.declared.fault.Rule.{Rule}
use Rattle.c_faults.specs.declared.fault.Rule.TheVariants as rule
use Rattle.c_faults.specs.Answer.{Answer, violates, ◌>>=◌}
use Rattle.c_rules.specs.Types.{unqualified}
use Rattle.c_declarators.specs.declared.faults.TypeFaults.{TypeFaults}
use Rattle.c_declarators.specs.Adjusted.{adjusted}
use Rattle.c_declarators.specs.Derivations.{BuiltType, Derivation, built, derivation_of, to_function}
use Rattle.c_declarators.specs.Faults.{rule_of}
use Rattle.c_scope.specs.declared.meaning.Storage.{Storage}
use Rattle.c_scope.specs.declared.meaning.Storage.TheVariants as storage
use Rattle.c_scope.specs.Declaring.{Declaration}
use Rattle.c_scope.specs.Environment.{declared_in, with_block}
use Rattle.c_scope.specs.Names.{Name}
use Rattle.c_scope.specs.Parameters.{ParameterScope, parameters_in, scope_of, without_parameters}
use Rattle.c_declarator_typing.specs.declared.shape.LocatedName as code_name
use Rattle.c_declarator_typing.specs.declared.shape.Shape as code_shape
use Rattle.c_declarator_typing.specs.Specifications.{Specification}
use Rattle.c_typing_state.specs.State.{State, Typing, extents, judged}

-- What a declarator says: its name with the line, if it has one; what it derives the type from, from the name outward;
-- and, where `(..)` directly follows the name, the scope of these parameters.
pub record Shape : Type 0 where
  pub name : Option (Name × ℕ)
  pub derivations : List Derivation
  pub parameters : Option ParameterScope

abbrev pub located : code_name.LocatedName → Name × ℕ
located n = (n.name, n.line)

abbrev pub shape_of : code_shape.Shape → Shape
shape_of s = record {
  name = option_map located s.name;
  derivations = map derivation_of s.derivations.items;
  parameters = option_map scope_of s.parameters;
}

abbrev pub plain_shape : Option (Name × ℕ) → Shape
plain_shape name = record { name = name; derivations = []; parameters = None }

abbrev pub with_derivation : Derivation → Shape → Shape
with_derivation d shape = record shape { derivations = shape.derivations ++ d ∷ [] }

abbrev pub is_nothing : List Derivation → Bool
is_nothing [] = true
is_nothing (d ∷ ds) = false

abbrev pub with_function : (types : List (List TypeWord)) → ParameterScope → Shape → Shape
with_function types scope shape = record shape {
  derivations = shape.derivations ++ to_function types ∷ [];
  parameters = if is_nothing shape.derivations then Some scope else shape.parameters;
}

-- the scope of a parameter list begins, and ends with the declarator; how many variables the function has is kept
abbrev pub scope_opened : Typing ℕ
scope_opened s = Ok (record s { environment = with_block s.environment }, s.environment.variables)

abbrev pub scope_left : (before : ℕ) → Typing ParameterScope
scope_left before s =
    Ok (record s { environment = without_parameters before s.environment }, parameters_in s.environment)

-- a declaration in the environment
abbrev pub declaring : {A : Type 0} → A → Declaration → Typing A
declaring x d s = declared_in s.environment d >>= λ env. Ok (record s { environment = env }, x)

abbrev pub built_in : State → Specification → Shape → BuiltType
built_in s spec shape = built (extents s) spec.type shape.derivations

-- without a name all is judged at the first token of the specifiers, the rules in their order

abbrev pub rule_or_storage : Option Rule → (is_misplaced : Bool) → Option Rule
rule_or_storage (Some rule) is_misplaced = Some rule
rule_or_storage None true = Some rule.MisplacedStorage
rule_or_storage None false = None

abbrev pub unless : {A : Type 0} → Option Rule → (line : ℕ) → A → Answer A
unless None line x = Ok x
unless (Some rule) line x = violates rule line

abbrev pub nameless : {A : Type 0} → (line : ℕ) → TypeFaults → (is_misplaced : Bool) → A → Answer A
nameless line faults is_misplaced x = unless (rule_or_storage (rule_of faults) is_misplaced) line x

-- type names (6.7.6): there is no storage-class specifier

abbrev pub has_storage : Storage → Bool
has_storage storage.Absent = false
has_storage _ = true

abbrev pub type_named : Specification → Shape → State → Answer (List TypeWord)
type_named spec shape s =
    nameless spec.line (built_in s spec shape).faults (has_storage spec.storage) (built_in s spec shape).type

-- parameters (6.7.5.3): the only storage-class specifier is `register` (paragraph 2), and void is no type of one, but
-- where it stands alone (paragraph 10); the type is complete where the function is defined (paragraph 4)

abbrev pub not_for_parameter : Storage → Bool
not_for_parameter storage.Absent = false
not_for_parameter storage.Register = false
not_for_parameter _ = true

abbrev pub is_misplaced : Specification → Bool
is_misplaced spec = spec.has_two_storages || not_for_parameter spec.storage

abbrev pub is_void : List TypeWord → Bool
is_void (word.Void ∷ behind) = true
is_void (word.Const ∷ type) = is_void type
is_void type = false

abbrev pub parameter_declaration : (in_definition : Bool) → Specification → BuiltType → Name × ℕ → Declaration
parameter_declaration in_definition spec b name = record {
  name = name.0;
  specifiers_line = spec.line;
  line = name.1;
  initializer_line = name.1;
  storage = spec.storage;
  type = adjusted b.type;
  type_rule = rule_of b.faults;
  may_be_incomplete = not in_definition && not (is_void b.type);
  has_initializer = false;
  has_body = false;
}

abbrev pub nameless_parameter : Specification → BuiltType → Answer (List TypeWord)
nameless_parameter spec b =
    nameless spec.line (record b.faults { incomplete = b.faults.incomplete || is_void b.type }) (is_misplaced spec)
    (unqualified (adjusted b.type))

abbrev pub parameter_built : (in_definition : Bool) → Specification → BuiltType → Option (Name × ℕ)
    → Typing (List TypeWord)
parameter_built in_definition spec b None s = judged (λ s. nameless_parameter spec b) s
parameter_built in_definition spec b (Some name) s =
    if is_misplaced spec then violates rule.MisplacedStorage spec.line
    else declaring (unqualified (adjusted b.type)) (parameter_declaration in_definition spec b name) s

abbrev pub parameter : (in_definition : Bool) → Specification → Shape → Typing (List TypeWord)
parameter in_definition spec shape s = parameter_built in_definition spec (built_in s spec shape) shape.name s

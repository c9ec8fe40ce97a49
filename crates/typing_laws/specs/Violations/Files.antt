-- All violations of typing rules in function definitions and files (C99 6.9), in the order of the tokens.
use Rattle.std.specs.Prelude.{ℕ, Bool, true, false, List, [], ◌∷◌, ◌++◌, Option, Some, None, map, option_map, codes}
use Rattle.std.specs.Prelude.{if◌then◌else◌}
use Rattle.c_syntax.specs.Statements as t
use Rattle.c_syntax.specs.Formed.{is_plain_name}
use Rattle.c_syntax.specs.Tree.{Declarator, Specifiers}
use Rattle.c_syntax.specs.Tree as syntax
use Rattle.c_tree.specs.declared.c_type.TypeWord.{TypeWord}
use Rattle.c_tree.specs.declared.program.Variable.{Variable}
use Rattle.c_tree.specs.Statements.{Statements, no_statements}
use Rattle.c_call_rules.specs.FunctionTypes.{result_type}
use Rattle.c_faults.specs.declared.fault.Fault.{Fault}
use Rattle.c_faults.specs.declared.fault.Rule.TheVariants.{NoMain, UndefinedFunction}
use Rattle.c_facts.specs.Facts.{facts_in}
use Rattle.c_scope.specs.declared.meaning.Designated.TheVariants as what
use Rattle.c_scope.specs.declared.meaning.Meaning.{Meaning}
use Rattle.c_scope.specs.declared.meaning.Meaning.TheVariants as meaning
use Rattle.c_scope.specs.Environment.{without_block}
use Rattle.c_scope.specs.Names.{Name, declared}
use Rattle.c_scope.specs.Parameters.{ParameterScope, parameters_in as scope_in, with_parameters}
use Rattle.c_declarator_typing.specs.Declarators.{Shape, built_in}
use Rattle.c_declarator_typing.specs.Specifications.{Specification}
use Rattle.c_typing_state.specs.State.{State, judged}
use Rattle.c_unit_typing.specs.Declarations.{stored_once}
use Rattle.c_unit_typing.specs.Files.{File}
use Rattle.c_unit_typing.specs.Typed.{TypedUnit, a_fault}
use Rattle.c_unit_typing.specs.Units.{around_body, defined_as, entered, file_before, is_main, left}
use Rattle.c_unit_typing.specs.Units.{parameters_in, scope_or_none}
use Rattle.typing_laws.specs.Violations.Declarations.{declaration, in_state}
use Rattle.typing_laws.specs.Violations.Expressions.{first_token, in_scope, name_token, parameter_types, shape}
use Rattle.typing_laws.specs.Violations.Expressions.{specification}
use Rattle.typing_laws.specs.Violations.Judgements.{Judgement, Judging, by_rule, gives, ◌beside◌, ◌giving◌, ◌knowing◌}
use Rattle.typing_laws.specs.Violations.Judgements.{◌onward◌, ◌ruled_by◌, rule_at}
use Rattle.typing_laws.specs.Violations.Statements.{Within, block_items, within}

-- the block of a function: the function is left where it ends, also where something in it violates a rule

abbrev pub or_none : Option Statements → Statements
or_none None = no_statements
or_none (Some ss) = ss

abbrev pub function_left : (line : ℕ) → (type : List TypeWord) → List Variable → Judgement File Statements
    → Judgement File (Unit {0})
function_left line type parameters j = record {
  violations = j.violations;
  state = left line type parameters (j.state, or_none j.known);
  known = option_map (λ ss. tt) j.known;
}

abbrev pub body : Within → t.Block → Judging File Statements
body w (t.block l xs r) = block_items w xs

abbrev pub body_of : (line : ℕ) → (type : List TypeWord) → ParameterScope → t.Block → Judging File (Unit {0})
body_of line type scope b f =
    function_left line type (parameters_in f.state scope.names) (body (within (around_body type)) b f)

abbrev pub with_body : (line : ℕ) → Option ParameterScope → t.Block → Option Meaning → Judging File (Unit {0})
with_body line scope b (Some (meaning.Named (what.Function n) type)) f =
    body_of line type (scope_or_none scope) b (entered n type (scope_or_none scope) f)
with_body line scope b m f = gives tt f

-- Where the declarator violates a rule, the block is judged by itself, in the scope of the parameters. Where a part of
-- it does, these are the parameters that violate none, and what the function gives is not known.

abbrev pub entered_alone : ParameterScope → File → File
entered_alone scope f = record f {
  state = record f.state { environment = with_parameters scope f.state.environment };
}

abbrev pub left_alone : Judgement File Statements → Judgement File (Unit {0})
left_alone j = record {
  violations = j.violations;
  state = record j.state {
    state = record j.state.state {
      environment = record (without_block j.state.state.environment) { variables = 0 };
    };
  };
  known = None;
}

abbrev pub by_itself : ParameterScope → (result : Option (List TypeWord)) → t.Block → Judging File (Unit {0})
by_itself scope result b f =
    left_alone (body (record { inside = record { may_break = false; may_continue = false }; result = result }) b
    (entered_alone scope f))

abbrev pub parameter_scope : Declarator → State → ParameterScope
parameter_scope (syntax.named x) s = scope_or_none None
parameter_scope syntax.unnamed s = scope_or_none None
parameter_scope (syntax.pointer at consts d) s = parameter_scope d s
parameter_scope (syntax.grouped l d r) s = parameter_scope d s
parameter_scope (syntax.open_array d l r) s = parameter_scope d s
parameter_scope (syntax.array d l e r) s = parameter_scope d s
parameter_scope (syntax.function d l ps r) s =
    if is_plain_name d then scope_in (parameter_types true ps (in_scope s)).state.environment
    else parameter_scope d s

abbrev pub behind_name : t.Block → Specification × Shape → Name × ℕ → Option (Option Meaning)
    → Judging File (Unit {0})
behind_name b v name (Some m) f = with_body name.1 v.1.parameters b m f
behind_name b v name None f =
    by_itself (scope_or_none v.1.parameters) (Some (result_type 0 (built_in f.state v.0 v.1).type)) b f

abbrev pub defined : (token : ℕ) → t.Block → Specification × Shape → Option (Name × ℕ) → Judging File (Unit {0})
defined n b v None = gives tt
defined n b v (Some name) = in_state (by_rule n (defined_as v.0 v.1 name)) knowing behind_name b v name

abbrev pub defined_by : Declarator → t.Block → Option (Specification × Shape) → Judging File (Unit {0})
defined_by d b None f = by_itself (parameter_scope d f.state) None b f
defined_by d b (Some v) f = defined (name_token 0 d) b v v.1.name f

abbrev pub definition : Specifiers → Declarator → t.Block → Judging File (Unit {0})
definition specs d b =
    in_state (specification false specs ruled_by
    rule_at (first_token specs) λ spec. judged (stored_once spec)) beside
    in_state (shape true d) knowing defined_by d b

abbrev pub external : t.External → Judging File (Unit {0})
external (t.definition specs d b) = definition specs d b
external (t.declaration d) = declaration false d giving λ vs. tt

abbrev pub externals : List t.External → Judging File (Unit {0})
externals [] = gives tt
externals (e ∷ es) = external e onward externals es

-- At the end, on the line where the text ends, `int main(void)` has to be defined; then each function that is used, of
-- which the first use that has no definition counts.

abbrev pub main_violations : (end : ℕ) → (has_main : Bool) → List Fault
main_violations end true = []
main_violations end false = record { rule = NoMain; line = end } ∷ []

abbrev pub use_violations : (first_use : Option ℕ) → List Fault
use_violations None = []
use_violations (Some line) = record { rule = UndefinedFunction; line = line } ∷ []

abbrev pub end_violations : (end : ℕ) → File → List Fault
end_violations end f =
    main_violations end (is_main (declared (codes "main") f.state.environment.entities))
    ++ use_violations f.state.undefined

abbrev pub with_end : (end : ℕ) → Judgement File (Unit {0}) → File × List Fault
with_end end j = (j.state, map (λ v. v.fault) j.violations ++ end_violations end j.state)

-- a file, where it is known or not which variables of each function are objects since the text takes their addresses
abbrev pub file_with : (objects : Option (List (List Bool))) → (end : ℕ) → List t.External → File × List Fault
file_with objects end es = with_end end (externals es (file_before objects (facts_in es)))

-- it is judged twice, first to know that, and then where it violates no rule

abbrev pub or_those : List Fault → List Fault → List Fault
or_those [] gs = gs
or_those (f ∷ fs) gs = f ∷ fs

abbrev pub judged_again : (end : ℕ) → List t.External → File × List Fault → List Fault
judged_again end es r = or_those r.1 (file_with (Some r.0.taken) end es).1

-- all violations in a file whose text ends on a line
abbrev pub violations : (end : ℕ) → t.Unit → List Fault
violations end u = judged_again end u.externals (file_with None end u.externals)

abbrev pub first_in : List Fault → Option Fault
first_in [] = None
first_in (f ∷ fs) = Some f

-- the violation that the typing of a file answers, if it answers one
abbrev pub fault_in : TypedUnit → Option Fault
fault_in (a_fault f) = Some f
fault_in unit = None

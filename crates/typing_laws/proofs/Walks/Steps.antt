-- The steps of expressions and parameters: names, string literals, operators, calls and enumerators (C99 6.4.5, 6.5,
-- 6.7.2.2, 6.7.5.3).
use Rattle.std.proofs.Common.{ℕ, ◌+◌, ◌≤◌, nat_lt, Bool, true, false, ◌&&◌, refl, List, [], ◌∷◌, ◌++◌, length}
use Rattle.std.proofs.Common.{Option, Some, None, if◌then◌else◌, arith}
use Rattle.std.specs.Prelude.{Ok, Err, is_some}
use Rattle.c_lexer.specs.declared.punctuator.Punctuator.{Punctuator}
use Rattle.c_lexer.specs.declared.punctuator.Punctuator.TheVariants as sign
use Rattle.c_syntax.specs.declared.position.Spelled.{Spelled}
use Rattle.c_tree.specs.declared.c_type.TypeWord.{TypeWord}
use Rattle.c_tree.specs.declared.expression.Fixity.TheVariants as fixity
use Rattle.c_faults.specs.declared.fault.Rule.TheVariants.{MisplacedStorage, Redeclared}
use Rattle.c_faults.specs.Answer.{Answer, violates, ◌>>=◌}
use Rattle.c_rules.specs.Types.{unqualified}
use Rattle.c_rules.specs.Values.{Value}
use Rattle.c_place_rules.specs.Operands.{Operand, a_function as a_function_operand, a_place, a_value, a_variable}
use Rattle.c_place_rules.specs.Places.{address}
use Rattle.c_call_rules.specs.Calls.{called_through, of_function, of_routine}
use Rattle.c_call_rules.specs.FunctionTypes.{callee_type}
use Rattle.c_tree.specs.Routines.{routine_words}
use Rattle.c_declarators.specs.Adjusted.{adjusted}
use Rattle.c_declarators.specs.Derivations.{BuiltType}
use Rattle.c_scope.specs.declared.meaning.Designated.TheVariants as what
use Rattle.c_scope.specs.declared.meaning.Meaning.{Meaning}
use Rattle.c_scope.specs.declared.meaning.Meaning.TheVariants as meaning
use Rattle.c_scope.specs.declared.meaning.Storage.{Storage}
use Rattle.c_scope.specs.declared.meaning.Storage.TheVariants as storage
use Rattle.c_scope.specs.Declaring.{Declaration, has_linkage, judged as judged_in}
use Rattle.c_scope.specs.Enumerators.{with_value}
use Rattle.c_scope.specs.Environment.{Environment, in_file, linked, surroundings, with_declarator, with_name}
use Rattle.c_scope.specs.Environment.{without_linkage}
use Rattle.c_scope.specs.Names.{Name, Names, bound, declared, is_name}
use Rattle.c_scope.specs.Names as names
use Rattle.c_operand_typing.specs.declared.forms.PrefixForm.{PrefixForm}
use Rattle.c_operand_typing.specs.declared.forms.PrefixForm.TheVariants as form
use Rattle.c_operand_typing.specs.Calls.{Called, a_function, a_pointer, a_printf, a_routine, applied, called_by_value}
use Rattle.c_operand_typing.specs.Calls.{called_plainly, callee_number, place_among, plainly_applied, plainly_or}
use Rattle.c_operand_typing.specs.Calls.{pointer_called, printed, with_callee_type, with_type}
use Rattle.c_declarator_typing.specs.Declarators.{Shape, built_in, declaring, is_misplaced, nameless_parameter}
use Rattle.c_declarator_typing.specs.Declarators.{parameter}
use Rattle.c_declarator_typing.specs.Declarators.{parameter_built, parameter_declaration}
use Rattle.c_operand_typing.specs.Operators.{addressed, arrowed, as_operand, as_value, dotted, object_taken, stepped_by}
use Rattle.c_operand_typing.specs.Operators.{unary_value, value_among, variable_named, with_taken}
use Rattle.c_operand_typing.specs.Primaries.{is_undefined, literal, literal_bytes, meant, named, spelled_bytes, used_as}
use Rattle.c_operand_typing.specs.Primaries.{with_use}
use Rattle.c_declarator_typing.specs.Sizes.{next_value}
use Rattle.c_declarator_typing.specs.Specifications.{Specification}
use Rattle.c_typing_state.specs.State.{State, Typing, extents, judged, ◌>>>◌}
use Rattle.c_expression_typing.specs.Constructs.{Printing, accessed, applied_to, called_by, enumerated_as, format_by}
use Rattle.c_expression_typing.specs.Constructs.{is_printf, prefixed, valued}
use Rattle.c_expression_typing.specs.Lines.{name_of}
use Rattle.typing_laws.specs.Declarations.Binding.{Binds}
use Rattle.typing_laws.specs.Scopes.Variables.{variable_count, variables_among}
use Rattle.typing_laws.proofs.Declarations.Bound.{declarator_binds}
use Rattle.typing_laws.proofs.Walks.States.{Stands, StateWalk, Walking, done_walks, judged_walks}
use Rattle.typing_laws.proofs.Walks.States.{refused_walks}
use Rattle.typing_laws.proofs.Walks.States.{standing_walks, stays, step_walks, still, then_walks}

-- states behind such steps

use_stands : (b : Bool) (line : ℕ) (s : State) → Stands 0 s (if b then with_use line s else s)
use_stands true line s = stays refl refl refl
use_stands false line s = still s

used_stands : (is : Bool) (line : ℕ) (m : Option Meaning) (s : State) → Stands 0 s (used_as is line m s)
used_stands is line (Some (meaning.Named (what.Function n) type)) s = use_stands (is && is_undefined n s) line s
used_stands is line (Some (meaning.Named (what.Object n) type)) s = still s
used_stands is line (Some (meaning.Named (what.Static n) type)) s = still s
used_stands is line (Some (meaning.Named (what.Library f) type)) s = still s
used_stands is line (Some (meaning.Named (what.Variable n) type)) s = still s
used_stands is line (Some (meaning.Typedef type)) s = still s
used_stands is line (Some (meaning.Constant w)) s = still s
used_stands is line None s = still s

taken_stands : (n : Option ℕ) (s : State) → Stands 0 s (with_taken n s)
taken_stands None s = still s
taken_stands (Some n) s =
    stays refl refl refl

object_stands : (o : Operand) (s : State) → Stands 0 s (object_taken o s)
object_stands (a_place p) s = taken_stands (variable_named p.tree) s
object_stands (a_value v) s = still s
object_stands (a_variable x) s = still s
object_stands (a_function_operand f) s = still s

address_stands : (is : Bool) (o : Operand) (s : State) → Stands 0 s (if is then object_taken o s else s)
address_stands true o s = object_stands o s
address_stands false o s = still s

type_by : (b : Bool) (type : List TypeWord) (s : State)
    → Stands 0 s (if b then s else record s { function_types = s.function_types ++ type ∷ [] })
type_by true type s = still s
type_by false type s =
    stays refl refl refl

pub type_stands : (type : List TypeWord) (s : State) → Stands 0 s (with_type type s)
type_stands type s = type_by (nat_lt (place_among type s.function_types) (length s.function_types)) type s

callee_stands : (type : Option (List TypeWord)) (s : State) → Stands 0 s (with_callee_type type s)
callee_stands None s = still s
callee_stands (Some type) s = type_stands type s

-- a name that is bound

bound_by : (b : Bool) (name : Name) (m : Meaning) (e : Name × Meaning) (es more : Names Meaning)
    → variables_among more ≤ variable_count m + variables_among es
    → variables_among (if b then (e.0, m) ∷ es else e ∷ more)
    ≤ variable_count m + (variable_count e.1 + variables_among es)
bound_by true name m e es more h = omega arith
bound_by false name m e es more h = omega arith

bound_variables : (name : Name) (m : Meaning) (es : Names Meaning)
    → variables_among (bound name m es) ≤ variable_count m + variables_among es
bound_variables name m [] = omega arith
bound_variables name m (e ∷ es) =
    bound_by (is_name name e.0) name m e es (bound name m es) (bound_variables name m es)

-- a meaning is that of one variable at most
at_most_one : (m : Meaning) → variable_count m ≤ 1
at_most_one (meaning.Named (what.Variable n) type) = omega arith
at_most_one (meaning.Named (what.Object n) type) = omega arith
at_most_one (meaning.Named (what.Function n) type) = omega arith
at_most_one (meaning.Named (what.Library f) type) = omega arith
at_most_one (meaning.Named (what.Static n) type) = omega arith
at_most_one (meaning.Typedef type) = omega arith
at_most_one (meaning.Constant w) = omega arith

one_bound : (name : Name) (m : Meaning) (es : Names Meaning)
    → variables_among (bound name m es) ≤ 1 + variables_among es
one_bound name m es = (let most = bound_variables name m es in let one = at_most_one m in omega arith)

abbrev AddsOne : Environment → Environment → Type 0
AddsOne env behind = variables_among behind.names.current ≤ 1 + variables_among env.names.current

unlinked_adds : (z : Storage) (env : Environment) (d : Declaration) → AddsOne env (without_linkage z env d)
unlinked_adds storage.Typedef env d = one_bound d.name _ env.names.current
unlinked_adds storage.Static env d = one_bound d.name _ env.names.current
unlinked_adds storage.Absent env d = one_bound d.name _ env.names.current
unlinked_adds storage.Auto env d = one_bound d.name _ env.names.current
unlinked_adds storage.Register env d = one_bound d.name _ env.names.current
unlinked_adds storage.Extern env d = one_bound d.name _ env.names.current

declarator_adds : (b : Bool) (env : Environment) (d : Declaration)
    → AddsOne env (if b then linked env d else without_linkage d.storage env d)
declarator_adds true env d = one_bound d.name _ env.names.current
declarator_adds false env d = unlinked_adds d.storage env d

declarator_stands : (d : Declaration) (s : State)
    → Stands 1 s (record s { environment = with_declarator s.environment d })
declarator_stands d s =
    let b = declarator_binds s d in
    record {
      structures = b.structures;
      tags = b.tags;
      outer = b.outer;
      literals = b.literals;
      function = b.function;
      variables = declarator_adds (has_linkage (in_file s.environment) d) s.environment d;
    }

-- however many variables it adds
pub binds_stand : {name : Name} {m : Meaning} {s t : State} → Binds name m s t
    → Stands (variables_among t.environment.names.current) s t
binds_stand b = record {
  structures = b.structures;
  tags = b.tags;
  outer = b.outer;
  literals = b.literals;
  function = b.function;
  variables = omega arith;
}

-- an enumerator is no variable
constant_stands : (name : Name) (w : ℕ) (s : State)
    → Stands 0 s (record s { environment = with_name name (meaning.Constant w) s.environment })
constant_stands name w s = record {
  structures = refl;
  tags = refl;
  outer = refl;
  literals = refl;
  function = refl;
  variables = bound_variables name (meaning.Constant w) s.environment.names.current;
}

-- the last byte of a literal is 0
one_more : (bytes : List ℕ) (byte : ℕ) → 1 ≤ length (bytes ++ byte ∷ [])
one_more [] byte = omega arith
one_more (b ∷ bytes) byte = omega arith

module _ {holds : ℕ → State → State → Type 0} {walk : StateWalk holds} where
  value_walks : (o : Operand) (s : State) → Walking walk 0 s (as_value o s)
  value_walks o s = judged_walks s (value_among (extents s) o)

  pub valued_walks : (operand : Typing Operand) (s : State) → Walking walk 0 s (operand s)
      → Walking walk 0 s (valued operand s)
  valued_walks operand s h = then_walks h (λ r. value_walks r.1 r.0)

  -- names and literals

  meant_walks : {A : Type 0} (is : Bool) (line : ℕ) (m : Option Meaning) (s : State) (a : Answer A)
      → Walking walk 0 s (a >>= λ x. Ok (used_as is line m s, x))
  meant_walks is line m s a = standing_walks s (used_as is line m s) (used_stands is line m s) a

  pub named_walks : (is : Bool) (name : Name) (line : ℕ) (s : State) → Walking walk 0 s (named is name line s)
  named_walks is name line s =
      let m = names.meaning name s.environment.names in
      meant_walks is line m s (meant is line m s)

  pub literal_walks : (is : Bool) (spellings : List Name) (line : ℕ) (s : State)
      → Walking walk 0 s (literal is (literal_bytes spellings) line s)
  literal_walks true spellings line s =
      step_walks (walk.literal (literal_bytes spellings) (one_more (spelled_bytes spellings) 0) s)
  literal_walks false spellings line s = done_walks

  -- unary operators, and `.` and `->`

  addressed_walks : (is : Bool) (line : ℕ) (o : Operand) (s : State) → Walking walk 0 s (addressed is line o s)
  addressed_walks is line o s =
      standing_walks s (if is then object_taken o s else s) (address_stands is o s) (address line o)

  unary_walks : (f : PrefixForm) (line : ℕ) (o : Operand) (s : State)
      → Walking walk 0 s ((as_value o >>> λ v. judged (unary_value f line v)) s)
  unary_walks f line o s = then_walks (value_walks o s) (λ r. judged_walks r.0 (unary_value f line r.1 r.0))

  pub prefixed_walks : (is : Bool) (f : PrefixForm) (line : ℕ) (o : Operand) (s : State)
      → Walking walk 0 s (prefixed is f line o s)
  prefixed_walks is form.Address line o s = then_walks (addressed_walks is line o s) (λ r. done_walks)
  prefixed_walks is (form.Step op) line o s = judged_walks s (stepped_by (form.Step op) fixity.Prefix line o s)
  prefixed_walks is form.Dereference line o s = unary_walks form.Dereference line o s
  prefixed_walks is (form.Value op) line o s = unary_walks (form.Value op) line o s
  prefixed_walks is form.Nothing line o s = unary_walks form.Nothing line o s

  pub accessed_walks : (w : Punctuator) (line : ℕ) (name : Name) (o : Operand) (s : State)
      → Walking walk 0 s (accessed w line name o s)
  accessed_walks sign.Dot line name o s = judged_walks s (dotted line name o s)
  accessed_walks sign.Arrow line name o s =
      then_walks (value_walks o s) (λ r. judged_walks r.0 (arrowed line name r.1 r.0))
  accessed_walks _ line name o s = refused_walks

  -- calls

  pub called_walks : (is : Bool) (name : Option Spelled) (operand : Typing Operand) (s : State)
      → Walking walk 0 s (operand s) → Walking walk 0 s (called_by is name operand s)
  called_walks is (Some x) operand s h =
      let m = names.meaning (name_of x) s.environment.names in
      let line = x.position.line in
      meant_walks is line m s (plainly_or (called_plainly m) (called_by_value is line m s))
  called_walks is None operand s h = then_walks h (λ r. judged_walks r.0 (pointer_called r.1 r.0))

  applied_walks : (line : ℕ) (c : Called) (vs : List Value) (s : State) → Walking walk 0 s (applied line c vs s)
  applied_walks line (a_function n type) vs s = judged_walks s (plainly_applied line (of_function n) type vs s)
  applied_walks line (a_routine r) vs s =
      judged_walks s (plainly_applied line (of_routine r) (routine_words r) vs s)
  applied_walks line a_printf vs s = judged_walks s (printed line None vs s)
  applied_walks line (a_pointer v) vs s =
      let type = callee_type v.type in
      standing_walks s (with_callee_type type s) (callee_stands type s)
      (as_operand (called_through (extents s) line (callee_number type s) v vs))

  applied_by : (line : ℕ) (values : Typing (List Value)) (printing : Typing Printing) (c : Called) (s : State)
      → Walking walk 0 s (values s) → Walking walk 0 s (printing s) → (b : Bool)
      → Walking walk 0 s ((if b then printing >>> (λ p. judged (printed line p.format p.values))
      else values >>> (λ vs. applied line c vs)) s)
  applied_by line values printing c s h g true =
      then_walks g (λ r. judged_walks r.0 (printed line r.1.format r.1.values r.0))
  applied_by line values printing c s h g false = then_walks h (λ r. applied_walks line c r.1 r.0)

  pub applied_to_walks : (line : ℕ) (values : Typing (List Value)) (printing : Typing Printing) (c : Called) (s : State)
      → Walking walk 0 s (values s) → Walking walk 0 s (printing s)
      → Walking walk 0 s (applied_to line values printing c s)
  applied_to_walks line values printing c s h g = applied_by line values printing c s h g (is_printf c)

  -- the first argument of a `printf`
  pub format_walks : (names : Option (List Name)) (operand : Typing Operand) (s : State) → Walking walk 0 s (operand s)
      → Walking walk 0 s (format_by names operand s)
  format_walks (Some names) operand s h = done_walks
  format_walks None operand s h = then_walks (valued_walks operand s h) (λ r. done_walks)

  -- names that are declared

  declaring_by : {A : Type 0} (x : A) (d : Declaration) (s : State) (a : Answer (Unit {0}))
      → Walking walk 1 s ((a >>= λ done. Ok (with_declarator s.environment d)) >>= λ env.
      Ok (record s { environment = env }, x))
  declaring_by x d s (Ok r) = step_walks (walk.stands 1 s _ (declarator_stands d s))
  declaring_by x d s (Err f) = refused_walks

  pub declaring_walks : {A : Type 0} (x : A) (d : Declaration) (s : State) → Walking walk 1 s (declaring x d s)
  declaring_walks x d s = declaring_by x d s (judged_in (surroundings s.environment d) d)

  parameter_named : (b in_definition : Bool) (spec : Specification) (x : BuiltType) (name : Name × ℕ) (s : State)
      → Walking walk 1 s (if b then violates MisplacedStorage spec.line
      else declaring (unqualified (adjusted x.type)) (parameter_declaration in_definition spec x name) s)
  parameter_named true in_definition spec x name s = refused_walks
  parameter_named false in_definition spec x name s =
      declaring_walks (unqualified (adjusted x.type)) (parameter_declaration in_definition spec x name) s

  parameter_by : (in_definition : Bool) (spec : Specification) (b : BuiltType) (name : Option (Name × ℕ)) (s : State)
      → Walking walk 1 s (parameter_built in_definition spec b name s)
  parameter_by in_definition spec b None s = judged_walks s (nameless_parameter spec b)
  parameter_by in_definition spec b (Some name) s = parameter_named (is_misplaced spec) in_definition spec b name s

  pub parameter_walks : (in_definition : Bool) (spec : Specification) (sh : Shape) (s : State)
      → Walking walk 1 s (parameter in_definition spec sh s)
  parameter_walks in_definition spec sh s = parameter_by in_definition spec (built_in s spec sh) sh.name s

  enumerated_by : (name : Name) (line : ℕ) (o next : Option ℕ) (s : State) (b : Bool)
      → Walking walk 0 s ((if b then violates Redeclared line else with_value name line o s.environment) >>= λ env.
      Ok (record s { environment = env }, next))
  enumerated_by name line o next s true = refused_walks
  enumerated_by name line None next s false = refused_walks
  enumerated_by name line (Some w) next s false =
      step_walks (walk.stands 0 s _ (constant_stands name w s))

  pub enumerated_walks : (name : Name) (line : ℕ) (value : Option ℕ) (s : State)
      → Walking walk 0 s (enumerated_as name line value s)
  enumerated_walks name line value s =
      enumerated_by name line value (next_value value) s (is_some (declared name s.environment.names.current))

-- What leaves the structures and unions as they are keeps their members laid out.
use Rattle.std.proofs.Common.{◌≡◌, ℕ, Bool, true, false, ◌&&◌, refl, sym, ◌∙◌, subst, List, [], ◌∷◌, ◌++◌}
use Rattle.std.proofs.Common.{Option, Some, None, if◌then◌else◌, nat_lt, length}
use Rattle.std.specs.Prelude.{Ok, Err, is_some}
use Rattle.c_lexer.specs.declared.punctuator.Punctuator.{Punctuator}
use Rattle.c_lexer.specs.declared.punctuator.Punctuator.TheVariants as sign
use Rattle.c_tree.specs.declared.c_type.TypeWord.{TypeWord}
use Rattle.c_tree.specs.declared.expression.Fixity.TheVariants as fixity
use Rattle.c_faults.specs.declared.fault.Rule.TheVariants.{MisplacedStorage, Redeclared}
use Rattle.c_faults.specs.Answer.{Answer, violates, ◌>>=◌}
use Rattle.c_rules.specs.Values.{Value}
use Rattle.c_place_rules.specs.Operands.{Operand, a_value, a_place, a_variable, a_function}
use Rattle.c_place_rules.specs.Places.{address}
use Rattle.c_call_rules.specs.Calls.{of_function, of_routine}
use Rattle.c_call_rules.specs.FunctionTypes.{callee_type}
use Rattle.c_tree.specs.Routines.{routine_words}
use Rattle.c_declarators.specs.Adjusted.{adjusted}
use Rattle.c_declarators.specs.Derivations.{BuiltType}
use Rattle.c_rules.specs.Types.{unqualified}
use Rattle.c_scope.specs.declared.meaning.Designated.TheVariants as what
use Rattle.c_scope.specs.declared.meaning.Meaning.{Meaning}
use Rattle.c_scope.specs.declared.meaning.Meaning.TheVariants as meaning
use Rattle.c_scope.specs.Declaring.{Declaration, judged as judged_in}
use Rattle.c_scope.specs.Enumerators.{enumerated, with_value}
use Rattle.c_scope.specs.Environment.{Environment, declared_in, surroundings, with_declarator}
use Rattle.c_scope.specs.Names.{Name, declared}
use Rattle.c_scope.specs.Names as names
use Rattle.c_operand_typing.specs.declared.forms.PrefixForm.{PrefixForm}
use Rattle.c_operand_typing.specs.declared.forms.PrefixForm.TheVariants as form
use Rattle.c_operand_typing.specs.Calls.{Called, a_function, a_pointer, a_printf, a_routine, applied}
use Rattle.c_operand_typing.specs.Calls.{called_by_value, called_plainly, name_called, place_among, plainly_applied}
use Rattle.c_operand_typing.specs.Calls.{plainly_or}
use Rattle.c_operand_typing.specs.Calls.{printed, with_callee_type}
use Rattle.c_declarator_typing.specs.Declarators.{Shape, declaring, is_misplaced, nameless_parameter, parameter}
use Rattle.c_declarator_typing.specs.Declarators.{parameter_built}
use Rattle.c_declarator_typing.specs.Declarators.{parameter_declaration, built_in}
use Rattle.c_operand_typing.specs.Operators.{arrowed, as_value, dotted, object_taken, stepped_by, unary_value}
use Rattle.c_operand_typing.specs.Operators.{value_among}
use Rattle.c_operand_typing.specs.Operators.{variable_named, with_taken, addressed}
use Rattle.c_operand_typing.specs.Primaries.{literal, meant, named, used_as, with_use, is_undefined}
use Rattle.c_declarator_typing.specs.Specifications.{Specification}
use Rattle.c_typing_state.specs.State.{State, Typing, extents, judged, ◌>>>◌}
use Rattle.c_expression_typing.specs.Constructs.{accessed, enumerated_as, prefixed}
use Rattle.typing_laws.specs.Declarators.Given.{anything}
use Rattle.typing_laws.proofs.Declarations.Bound.{declarator_binds}
use Rattle.typing_laws.specs.Layouts.Listed.{AreListed}
use Rattle.typing_laws.proofs.Layouts.Chained.{HasLists, Laid}
use Rattle.c_current_object.specs.Members.{lists_in}
use Rattle.typing_laws.proofs.Validity.Sound.{IfAnswer}

abbrev pub Stands : {A : Type 0} → State → Answer (State × A) → Type 0
Stands s (Ok r) = r.0.environment.structures ≡ s.environment.structures
Stands s (Err f) = Unit {0}

pub same_lists : (s t : State) → t.environment.structures ≡ s.environment.structures → HasLists s → HasLists t
same_lists s t e h = subst (λ z. AreListed z.extents (lists_in z)) (sym e) h

pub stands_laid : {A : Type 0} (s : State) → HasLists s → (a : Answer (State × A)) → Stands s a → Laid anything a
stands_laid s h (Ok r) e = (same_lists s r.0 e h, tt)
stands_laid s h (Err f) e = tt

stands_judged : {A : Type 0} (s : State) (a : Answer A) → Stands s (a >>= λ x. Ok (s, x))
stands_judged s (Ok x) = refl
stands_judged s (Err f) = tt

stands_then : {A B : Type 0} (s : State) (a : Answer (State × A)) (next : A → Typing B) → Stands s a
    → ((t : State) (x : A) → Stands t (next x t)) → Stands s (a >>= λ r. next r.1 r.0)
stands_then s (Ok r) next h g = by (next r.1 r.0) (g r.0 r.1)
  where
    by : {B : Type 0} (b : Answer (State × B)) → Stands r.0 b → Stands s b
    by (Ok q) e = e ∙ h
    by (Err f) e = tt
stands_then s (Err f) next h g = tt

stands_with : {A : Type 0} (s t : State) (a : Answer A) → t.environment.structures ≡ s.environment.structures
    → Stands s (a >>= λ x. Ok (t, x))
stands_with s t (Ok x) e = e
stands_with s t (Err f) e = tt

-- names and literals

use_stands : (b : Bool) (line : ℕ) (s : State)
    → (if b then with_use line s else s).environment.structures ≡ s.environment.structures
use_stands true line s = refl
use_stands false line s = refl

used_stands : (is : Bool) (line : ℕ) (m : Option Meaning) (s : State)
    → (used_as is line m s).environment.structures ≡ s.environment.structures
used_stands is line None s = refl
used_stands is line (Some (meaning.Typedef type)) s = refl
used_stands is line (Some (meaning.Constant w)) s = refl
used_stands is line (Some (meaning.Named (what.Object n) type)) s = refl
used_stands is line (Some (meaning.Named (what.Static n) type)) s = refl
used_stands is line (Some (meaning.Named (what.Function n) type)) s = use_stands (is && is_undefined n s) line s
used_stands is line (Some (meaning.Named (what.Library f) type)) s = refl
used_stands is line (Some (meaning.Named (what.Variable n) type)) s = refl

pub named_stands : (is : Bool) (name : Name) (line : ℕ) (s : State) → Stands s (named is name line s)
named_stands is name line s =
    let m = names.meaning name s.environment.names in
    stands_with s (used_as is line m s) (meant is line m s) (used_stands is line m s)

pub literal_stands : (is : Bool) (bytes : List ℕ) (line : ℕ) (s : State) → Stands s (literal is bytes line s)
literal_stands true bytes line s = refl
literal_stands false bytes line s = refl

-- operators

pub value_stands : (o : Operand) (s : State) → Stands s (as_value o s)
value_stands o s = stands_judged s (value_among (extents s) o)

taken_stands : (x : Option ℕ) (s : State) → (with_taken x s).environment.structures ≡ s.environment.structures
taken_stands None s = refl
taken_stands (Some n) s = refl

object_stands : (o : Operand) (s : State) → (object_taken o s).environment.structures ≡ s.environment.structures
object_stands (a_value v) s = refl
object_stands (a_place p) s = taken_stands (variable_named p.tree) s
object_stands (a_variable x) s = refl
object_stands (a_function f) s = refl

address_stands : (b : Bool) (o : Operand) (s : State)
    → (if b then object_taken o s else s).environment.structures ≡ s.environment.structures
address_stands true o s = object_stands o s
address_stands false o s = refl

addressed_stands : (is : Bool) (line : ℕ) (o : Operand) (s : State) → Stands s (addressed is line o s)
addressed_stands is line o s =
    stands_with s (if is then object_taken o s else s) (address line o) (address_stands is o s)

value_then : (f : PrefixForm) (line : ℕ) (o : Operand) (s : State)
    → Stands s ((as_value o >>> λ v. judged (unary_value f line v)) s)
value_then f line o s =
    stands_then s (as_value o s) (λ v. judged (unary_value f line v)) (value_stands o s)
    (λ t v. stands_judged t (unary_value f line v t))

pub prefixed_stands : (is : Bool) (f : PrefixForm) (line : ℕ) (o : Operand) (s : State)
    → Stands s (prefixed is f line o s)
prefixed_stands is form.Address line o s =
    stands_then s (addressed is line o s) (λ v s. Ok (s, a_value v)) (addressed_stands is line o s) (λ t v. refl)
prefixed_stands is (form.Step op) line o s = stands_judged s (stepped_by (form.Step op) fixity.Prefix line o s)
prefixed_stands is form.Dereference line o s = value_then form.Dereference line o s
prefixed_stands is (form.Value op) line o s = value_then (form.Value op) line o s
prefixed_stands is form.Nothing line o s = value_then form.Nothing line o s

pub accessed_stands : (w : Punctuator) (line : ℕ) (name : Name) (o : Operand) (s : State)
    → Stands s (accessed w line name o s)
accessed_stands sign.Dot line name o s = stands_judged s (dotted line name o s)
accessed_stands sign.Arrow line name o s =
    stands_then s (as_value o s) (λ v. judged (arrowed line name v)) (value_stands o s)
    (λ t v. stands_judged t (arrowed line name v t))
accessed_stands w line name o s = tt

-- calls

pub name_called_stands : (is : Bool) (name : Name) (line : ℕ) (s : State) → Stands s (name_called is name line s)
name_called_stands is name line s =
    let m = names.meaning name s.environment.names in
    stands_with s (used_as is line m s) (plainly_or (called_plainly m) (called_by_value is line m s))
    (used_stands is line m s)

type_by : (b : Bool) (type : List TypeWord) (s : State)
    → (if b then s else record s { function_types = s.function_types ++ type ∷ [] }).environment.structures
    ≡ s.environment.structures
type_by true type s = refl
type_by false type s = refl

callee_stands : (o : Option (List TypeWord)) (s : State)
    → (with_callee_type o s).environment.structures ≡ s.environment.structures
callee_stands None s = refl
callee_stands (Some type) s =
    type_by (nat_lt (place_among type s.function_types) (length s.function_types)) type s

pub applied_stands : (line : ℕ) (c : Called) (vs : List Value) (s : State) → Stands s (applied line c vs s)
applied_stands line (a_function n type) vs s = stands_judged s (plainly_applied line (of_function n) type vs s)
applied_stands line (a_routine r) vs s =
    stands_judged s (plainly_applied line (of_routine r) (routine_words r) vs s)
applied_stands line a_printf vs s = stands_judged s (printed line None vs s)
applied_stands line (a_pointer v) vs s =
    stands_with s (with_callee_type (callee_type v.type) s) _ (callee_stands (callee_type v.type) s)

-- declarations in the environment

environment_stands : {A : Type 0} (s : State) (x : A) (a : Answer Environment)
    → IfAnswer (λ env. env.structures ≡ s.environment.structures) a
    → Stands s (a >>= λ env. Ok (record s { environment = env }, x))
environment_stands s x (Ok env) e = e
environment_stands s x (Err f) e = tt

value_in : (name : Name) (line : ℕ) (o : Option ℕ) (env : Environment)
    → IfAnswer (λ z. z.structures ≡ env.structures) (with_value name line o env)
value_in name line None env = tt
value_in name line (Some w) env = refl

unless_declared : (b : Bool) (name : Name) (line : ℕ) (o : Option ℕ) (env : Environment)
    → IfAnswer (λ z. z.structures ≡ env.structures)
    (if b then violates Redeclared line else with_value name line o env)
unless_declared true name line o env = tt
unless_declared false name line o env = value_in name line o env

pub enumerated_stands : (name : Name) (line : ℕ) (o : Option ℕ) (s : State) → Stands s (enumerated_as name line o s)
enumerated_stands name line o s =
    environment_stands s _ (enumerated name line o s.environment)
    (unless_declared (is_some (declared name s.environment.names.current)) name line o s.environment)

judged_stands : (s : State) (d : Declaration) (a : Answer (Unit {0}))
    → IfAnswer (λ env. env.structures ≡ s.environment.structures)
    (a >>= λ done. Ok (with_declarator s.environment d))
judged_stands s d (Ok x) = (declarator_binds s d).structures
judged_stands s d (Err f) = tt

declaring_stands : {A : Type 0} (x : A) (d : Declaration) (s : State) → Stands s (declaring x d s)
declaring_stands x d s =
    environment_stands s x (declared_in s.environment d)
    (judged_stands s d (judged_in (surroundings s.environment d) d))

named_parameter : (in_definition : Bool) (spec : Specification) (b : BuiltType) (name : Name × ℕ) (s : State)
    (is : Bool)
    → Stands s (if is then violates MisplacedStorage spec.line
    else declaring (unqualified (adjusted b.type)) (parameter_declaration in_definition spec b name) s)
named_parameter in_definition spec b name s true = tt
named_parameter in_definition spec b name s false =
    declaring_stands (unqualified (adjusted b.type)) (parameter_declaration in_definition spec b name) s

parameter_by : (in_definition : Bool) (spec : Specification) (b : BuiltType) (name : Option (Name × ℕ)) (s : State)
    → Stands s (parameter_built in_definition spec b name s)
parameter_by in_definition spec b None s = stands_judged s (nameless_parameter spec b)
parameter_by in_definition spec b (Some name) s = named_parameter in_definition spec b name s (is_misplaced spec)

pub parameter_stands : (in_definition : Bool) (spec : Specification) (sh : Shape) (s : State)
    → Stands s (parameter in_definition spec sh s)
parameter_stands in_definition spec sh s = parameter_by in_definition spec (built_in s spec sh) sh.name s

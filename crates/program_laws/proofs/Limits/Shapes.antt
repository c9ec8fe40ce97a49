-- The scope of the parameters behind the name of a declarator has at most as many variables as a list of parameters of
-- the declarator has parameters (C99 6.7.5.3).
use Rattle.std.proofs.Common.{◌≡◌, ℕ, ◌≤◌, Bool, true, false, ◌&&◌, subst, List, Option, Some, None}
use Rattle.std.proofs.Common.{arith, if◌then◌else◌}
use Rattle.std.specs.Prelude.{Ok, Err}
use Rattle.c_syntax.specs.Formed.{is_plain_name}
use Rattle.c_syntax.specs.Tree.{Declarator, Parameters}
use Rattle.c_syntax.specs.Tree as t
use Rattle.c_tree.specs.declared.c_type.TypeWord.{TypeWord}
use Rattle.c_faults.specs.Answer.{Answer, ◌>>=◌}
use Rattle.c_rules.specs.Values.{Value}
use Rattle.c_declarators.specs.Derivations.{Derivation, to_array, to_open_array, to_pointer}
use Rattle.c_counts.specs.Counts.{Count, parameters_counted}
use Rattle.c_counts.specs.Counts as counts
use Rattle.c_counts.specs.Excess.{first_above, parameters_among}
use Rattle.c_scope.specs.Parameters.{ParameterScope, parameters_in}
use Rattle.c_declarator_typing.specs.Declarators.{Shape, is_nothing, scope_left, scope_opened, with_derivation}
use Rattle.c_declarator_typing.specs.Declarators.{with_function}
use Rattle.c_declarator_typing.specs.Sizes.{count_in}
use Rattle.c_typing_state.specs.State.{State, Typing, done, ◌>>>◌}
use Rattle.c_expression_typing.specs.Constructs.{has_words, valued}
use Rattle.c_expression_typing.specs.Typed.{parameter_types, shape, typed}
use Rattle.typing_laws.proofs.Declarators.Parameters.{within}
use Rattle.typing_laws.specs.Scopes.Variables.{variables_among}
use Rattle.typing_laws.proofs.Scopes.Initializers.{IfBehind}
use Rattle.typing_laws.proofs.Walks.Recursion.{parameter_count, parameters_walk}
use Rattle.program_laws.proofs.Limits.Counted.{AreWithin, declarator_within, first_within}
use Rattle.program_laws.proofs.Limits.Walked.{Adds, adds_walk}

-- a scope of at most so many variables, if there is one
abbrev pub HasFew : (most : ℕ) → Option ParameterScope → Type 0
HasFew most None = Unit {0}
HasFew most (Some scope) = variables_among scope.names ≤ most

abbrev pub IfFew : (most : ℕ) → Answer (State × Shape) → Type 0
IfFew most (Ok r) = HasFew most r.1.parameters
IfFew most (Err f) = Unit {0}

count_within : (m : ℕ) (ps : Parameters) (cs : List Count) → AreWithin m (parameters_counted ps cs)
    → parameter_count ps ≤ m
count_within m t.no_parameters cs h = omega arith
count_within m (t.void_parameters at) cs h = omega arith
count_within m (t.parameters x more) cs h = (first_within m _ cs h).0

-- behind the declarator inside
then_few : (m : ℕ) (a : Answer (State × Shape)) → IfFew m a → (next : Shape → Typing Shape)
    → ((sh : Shape) (u : State) → HasFew m sh.parameters → IfFew m (next sh u))
    → IfFew m (a >>= λ r. next r.1 r.0)
then_few m (Ok r) h next go = go r.1 r.0 h
then_few m (Err f) h next go = tt

array_few : (m : ℕ) (sh : Shape) → HasFew m sh.parameters → (x : Value → Derivation) (a : Answer (State × Value))
    → IfFew m (a >>= λ r. done (with_derivation (x r.1) sh) r.0)
array_few m sh h x (Ok r) = h
array_few m sh h x (Err f) = tt

choice_few : (m : ℕ) (b : Bool) (scope : ParameterScope) (o : Option ParameterScope)
    → variables_among scope.names ≤ m → HasFew m o → HasFew m (if b then Some scope else o)
choice_few m true scope o low h = low
choice_few m false scope o low h = h

function_few : (m n : ℕ) → n ≤ m → (sh : Shape) → HasFew m sh.parameters → (u : State)
    (a : Answer (State × List (List TypeWord))) → IfBehind (Adds n) (within u) a
    → IfFew m (a >>= λ r. (scope_left u.environment.variables >>> λ scope. done (with_function r.1 scope sh)) r.0)
function_few m n low sh h u (Ok r) g =
    let few = g.variables in
    choice_few m (is_nothing sh.derivations) (parameters_in r.0.environment) sh.parameters (omega arith) h
function_few m n low sh h u (Err f) g = tt

pub shape_few : (m : ℕ) (in_definition : Bool) (d : Declarator) (cs : List Count)
    → AreWithin m (counts.declarator d cs) → (s : State) → IfFew m (shape in_definition d s)
shape_few m b (t.named x) cs h s = tt
shape_few m b t.unnamed cs h s = tt
shape_few m b (t.pointer at consts d) cs h s =
    then_few m (shape b d s) (shape_few m b d cs h s) (λ sh. done (with_derivation (to_pointer (has_words consts)) sh))
    (λ sh u few. few)
shape_few m b (t.grouped l d r) cs h s = shape_few m b d cs h s
shape_few m b (t.open_array d l r) cs h s =
    then_few m (shape b d s) (shape_few m b d cs h s) (λ sh. done (with_derivation to_open_array sh))
    (λ sh u few. few)
shape_few m b (t.array d l e r) cs h s =
    then_few m (shape b d s) (shape_few m b d _ h s)
    (λ sh. valued (typed false e) >>> λ v. done (with_derivation (to_array (count_in v)) sh))
    (λ sh u few. array_few m sh few (λ v. to_array (count_in v)) (valued (typed false e) u))
shape_few m b (t.function d l ps r) cs h s =
    then_few m (shape b d s) (shape_few m b d _ h s)
    (λ sh. scope_opened >>> λ before. parameter_types (b && is_plain_name d) ps >>> λ types. scope_left before >>>
    λ scope. done (with_function types scope sh))
    (λ sh u few.
    function_few m (parameter_count ps) (count_within m ps _ (declarator_within m d _ h)) sh few u
    (parameter_types (b && is_plain_name d) ps (within u))
    (parameters_walk adds_walk (b && is_plain_name d) ps (within u)).by)

-- the law

few_of : (m : ℕ) (o : Option ParameterScope) → HasFew m o → (scope : ParameterScope) → o ≡ Some scope
    → variables_among scope.names ≤ m
few_of m o h scope e = subst (HasFew m) e h

pub shape_variables : (most : ℕ) (in_definition : Bool) (d : Declarator) (cs : List Count)
    → first_above most (parameters_among (counts.declarator d cs)) ≡ None → (s behind : State) (sh : Shape)
    (scope : ParameterScope) → shape in_definition d s ≡ Ok (behind, sh) → sh.parameters ≡ Some scope
    → variables_among scope.names ≤ most
shape_variables most in_definition d cs w s behind sh scope e is =
    few_of most sh.parameters (subst (IfFew most) e (shape_few most in_definition d cs w s)) scope is

-- The parameters of a function whose block begins.
use Rattle.std.proofs.Common.{◌≡◌, ℕ, zero, suc, ◌+◌, ◌<◌, ◌≤◌, refl, sym, ap, ◌∙◌, Bool, true, false, List, [], ◌∷◌}
use Rattle.std.proofs.Common.{◌++◌, length, map, drop, arith}
use Rattle.std.specs.Prelude.{Option, nat_lt, slice_get, if◌then◌else◌}
use Rattle.std.proofs.lemmas.List.{append_assoc, append-nil, drop_all}
use Rattle.c_tree.specs.declared.c_type.TypeWord.{TypeWord}
use Rattle.c_tree.specs.declared.program.Variable.{Variable}
use Rattle.c_scope.specs.declared.meaning.Designated.TheVariants as what
use Rattle.c_scope.specs.declared.meaning.Meaning.{Meaning}
use Rattle.c_scope.specs.declared.meaning.Meaning.TheVariants.{Constant, Named, Typedef}
use Rattle.c_scope.specs.Names.{Names}
use Rattle.c_scope.specs.Parameters.{ParameterScope, with_parameters}
use Rattle.c_operand_typing.specs.Calls.{place_among}
use Rattle.c_typing_state.specs.State.{State}
use Rattle.c_unit_typing.specs.Files.{File}
use Rattle.c_unit_typing.specs.Units.{entered, parameter_in, parameters_in}
use Rattle.c_typer.specs.Entering.{begun, parameter_of}

-- one after the other

one_parameter : (s : State) (es : Names Meaning) (n : ℕ) (m : Option Meaning) → n < length es
    → m ≡ slice_get (map (λ e. e.1) es) n
    → parameters_in s (drop n es) ≡ parameter_of s m ++ parameters_in s (drop (suc n) es)
one_parameter s [] n m here is = absurd (omega arith)
one_parameter s (e ∷ es) zero m here is = ap (λ z. parameter_of s z ++ parameters_in s es) (sym is)
one_parameter s (e ∷ es) (suc n) m here is = one_parameter s es n m (omega arith) is

pub parameters_next : (s : State) (es : Names Meaning) (n : ℕ) (m : Option Meaning) (vs more all : List Variable)
    → n < length es → m ≡ slice_get (map (λ e. e.1) es) n → more ≡ vs ++ parameter_of s m
    → vs ++ parameters_in s (drop n es) ≡ all → more ++ parameters_in s (drop (n + 1) es) ≡ all
parameters_next s es n m vs more all here is longer so_far =
    let next : n + 1 ≡ suc n = omega arith in
    let rest = parameters_in s (drop (suc n) es) in
    ap (λ k. more ++ parameters_in s (drop k es)) next
    ∙ ap (λ z. z ++ rest) longer ∙ append_assoc vs (parameter_of s m) rest
    ∙ ap (λ z. vs ++ z) (sym (one_parameter s es n m here is)) ∙ so_far

pub parameters_end : (s : State) (es : Names Meaning) (n : ℕ) (vs all : List Variable) → length es ≤ n
    → vs ++ parameters_in s (drop n es) ≡ all → vs ≡ all
parameters_end s es n vs all past e =
    sym (append-nil vs) ∙ ap (λ z. vs ++ parameters_in s z) (sym (drop_all n es past)) ∙ e

-- before and in their scope

abbrev scoped : ParameterScope → State → State
scoped scope s = record s { environment = with_parameters scope s.environment }

one_same : (s : State) (scope : ParameterScope) (types : List (List TypeWord)) (m : Meaning)
    → parameter_in s m ≡ parameter_in (record (scoped scope s) { function_types = types }) m
one_same s scope types (Typedef type) = refl
one_same s scope types (Constant word) = refl
one_same s scope types (Named (what.Object k) type) = refl
one_same s scope types (Named (what.Function k) type) = refl
one_same s scope types (Named (what.Library l) type) = refl
one_same s scope types (Named (what.Static k) type) = refl
one_same s scope types (Named (what.Variable k) type) = refl

all_same : (s : State) (scope : ParameterScope) (types : List (List TypeWord)) (es : Names Meaning)
    → parameters_in s es ≡ parameters_in (record (scoped scope s) { function_types = types }) es
all_same s scope types [] = refl
all_same s scope types (e ∷ es) =
    ap (λ z. z ++ parameters_in s es) (one_same s scope types e.1)
    ∙ ap (λ z. parameter_in (record (scoped scope s) { function_types = types }) e.1 ++ z) (all_same s scope types es)

by_types : (s : State) (scope : ParameterScope) (types : List (List TypeWord)) (es : Names Meaning) (b : Bool)
    → parameters_in s es
    ≡ parameters_in (if b then scoped scope s else record (scoped scope s) { function_types = types }) es
by_types s scope types es true = all_same s scope s.function_types es
by_types s scope types es false = all_same s scope types es

pub same_parameters : (n : ℕ) (type : List TypeWord) (scope : ParameterScope) (f : File) (es : Names Meaning)
    (s : State) (vs : List Variable) → s ≡ (begun n f).state → vs ≡ parameters_in s es
    → vs ≡ parameters_in (entered n type scope f).state es
same_parameters n type scope f es s vs is are =
    are ∙ ap (λ z. parameters_in z es) is
    ∙ by_types (begun n f).state scope (f.state.function_types ++ type ∷ []) es
    (nat_lt (place_among type f.state.function_types) (length f.state.function_types))

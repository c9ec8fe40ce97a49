-- Calls (C99 6.5.2.2).
use Rattle.std.specs.Prelude.{ℕ, List, [], ◌∷◌, ◌++◌, Option, Some, None, Ok}
use Rattle.c_tree.specs.declared.c_type.TypeWord.{TypeWord}
use Rattle.c_tree.specs.declared.c_type.TypeWord.TheVariants as word
use Rattle.c_tree.specs.declared.expression.Kind.{Kind}
use Rattle.c_tree.specs.declared.expression.Kind.TheVariants as kind
use Rattle.c_tree.specs.declared.expression.Routine.{Routine}
use Rattle.c_tree.specs.Extents.{TypeExtent}
use Rattle.c_tree.specs.Tree.{Expression, expression, Expressions, expressions_in, Node, call, call_through, library}
use Rattle.c_tree.specs.View.{expression_of}
use Rattle.c_rules.specs.declared.class.Target.{Target}
use Rattle.c_rules.specs.declared.class.Target.TheVariants as target
use Rattle.c_faults.specs.declared.fault.Rule.TheVariants.{Incomplete, NoCallee, ArgumentCount}
use Rattle.c_faults.specs.Answer.{Answer, violates, ◌>>=◌}
use Rattle.c_rules.specs.Types.{unqualified, target_of}
use Rattle.c_rules.specs.Values.{Value}
use Rattle.c_rules.specs.Conversions.{assigned}
use Rattle.c_place_rules.specs.Targets.{object_kind}
use Rattle.c_call_rules.specs.declared.callee.Callee as code
use Rattle.c_call_rules.specs.declared.callee.Outcome as code_outcome
use Rattle.c_call_rules.specs.FunctionTypes.{first_types, behind_parameter, result_type, callee_type}

-- what is called: a function of the source by its plain name, what a pointer to a function of a type points to, a
-- routine of the library
pub data Callee : Type 0 where
  of_function : (number : ℕ) → Callee
  of_pointer : (type : ℕ) → Expression → Callee
  of_routine : Routine → Callee

abbrev pub callee_of : code.Callee → Callee
callee_of (code.TheVariants.Function n) = of_function n
callee_of (code.TheVariants.Pointer n e) = of_pointer n (expression_of e)
callee_of (code.TheVariants.Library r) = of_routine r

abbrev pub call_node : Callee → Expressions → Node
call_node (of_function n) es = call n es
call_node (of_pointer n e) es = call_through n e es
call_node (of_routine r) es = library r es

-- what a call gives: the kind and the type, without qualifiers, of the result; a structure is complete there
pub record Outcome : Type 0 where
  pub kind : Kind
  pub type : List TypeWord

abbrev pub outcome_of : code_outcome.Outcome → Outcome
outcome_of o = record { kind = o.kind; type = o.c_type }

abbrev pub result_kind : Target → List TypeWord → Kind
result_kind (target.Object size) type = object_kind size type
result_kind t type = kind.Void

abbrev pub complete_result : (line : ℕ) → Target → List TypeWord → Answer Outcome
complete_result line target.Incomplete type = violates Incomplete line
complete_result line t type = Ok (record { kind = result_kind t type; type = unqualified type })

abbrev pub outcome_in : List (Option TypeExtent) → (line : ℕ) → List TypeWord → Answer Outcome
outcome_in structures line words =
    complete_result line (target_of structures (result_type 0 words)) (result_type 0 words)

-- an argument as a value of the type of its parameter (6.5.2.2 paragraphs 2 and 7), behind those before it; one that
-- has no parameter is not judged
abbrev pub one_passed : List (Option TypeExtent) → (line : ℕ) → List TypeWord → (before : List Expression) → Value
    → Answer (List Expression)
one_passed structures line (word.Takes ∷ type) before a =
    assigned structures line (first_types 1 type) a >>= λ e. Ok (before ++ e ∷ [])
one_passed structures line words before a = Ok before

-- there are as many arguments as parameters where the result's type stands next
abbrev pub counted : (line : ℕ) → List TypeWord → List Expression → Answer (List Expression)
counted line (word.Gives ∷ type) es = Ok es
counted line words es = violates ArgumentCount line

abbrev pub passed : List (Option TypeExtent) → (line : ℕ) → List TypeWord → (before : List Expression) → List Value
    → Answer (List Expression)
passed structures line words before [] = counted line words before
passed structures line words before (a ∷ vs) =
    one_passed structures line words before a >>= λ es. passed structures line (behind_parameter words) es vs

abbrev pub call_tree : (line : ℕ) → Kind → Callee → List Expression → Expression
call_tree line k callee es = expression k line (call_node callee (expressions_in es))

-- a call of what has a function type
unfoldable pub called : List (Option TypeExtent) → (line : ℕ) → Callee → (type : List TypeWord) → List Value
    → Answer Value
called structures line callee type vs =
    outcome_in structures line type >>= λ o. passed structures line type [] vs >>= λ es.
    Ok (record { type = o.type; tree = call_tree line o.kind callee es })

abbrev pub called_if : List (Option TypeExtent) → (line number : ℕ) → Option (List TypeWord) → Value → List Value
    → Answer Value
called_if structures line number None f vs = violates NoCallee line
called_if structures line number (Some type) f vs = called structures line (of_pointer number f.tree) type vs

-- a call through a pointer, whose function type has a number
unfoldable pub called_through : List (Option TypeExtent) → (line number : ℕ) → Value → List Value → Answer Value
called_through structures line number f vs = called_if structures line number (callee_type f.type) f vs

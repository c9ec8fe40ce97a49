-- What calls make of types: a type of functions that is called has kinds of its parameters and result.
use Rattle.std.proofs.Common.{◌≡◌, ℕ, zero, suc, Bool, true, false, ◌||◌, refl, sym, ap, ◌∙◌, List, [], ◌∷◌}
use Rattle.std.proofs.Common.{◌++◌, Option, Some, None, if◌then◌else◌}
use Rattle.std.proofs.lemmas.Bool.{and_from, not-true}
use Rattle.std.specs.Prelude.{Ok, Err, not, is_some}
use Rattle.obj_memory.specs.declared.int_type.IntType.TheVariants.{Char, Int}
use Rattle.c_tree.specs.declared.c_type.TypeWord.{TypeWord}
use Rattle.c_tree.specs.declared.c_type.TypeWord.TheVariants as word
use Rattle.c_tree.specs.declared.expression.Routine.{Routine}
use Rattle.c_tree.specs.declared.expression.Routine.TheVariants as routine
use Rattle.c_tree.specs.declared.format.Directive.{Directive}
use Rattle.c_tree.specs.Extents.{TypeExtent, extent_of, structure_extent}
use Rattle.c_tree.specs.declared.expression.Kind.{Kind}
use Rattle.c_tree.specs.Kinds.{pointer}
use Rattle.c_tree.specs.Tree.{Expression}
use Rattle.c_tree.specs.TypesAgree.{behind_types, kind_of_type, same_words, still, structure_kind}
use Rattle.c_rules.specs.declared.class.Class.{Class}
use Rattle.c_rules.specs.declared.class.Class.TheVariants as class
use Rattle.c_rules.specs.declared.class.Target.{Target}
use Rattle.c_rules.specs.declared.class.Target.TheVariants as target
use Rattle.c_faults.specs.declared.fault.Rule.TheVariants.{MistakenFormat}
use Rattle.c_faults.specs.Answer.{Answer, violates, ◌>>=◌}
use Rattle.c_rules.specs.declared.conversion.Passing.{Passing}
use Rattle.c_rules.specs.declared.conversion.Passing.TheVariants as passing
use Rattle.c_rules.specs.Conversions as conversions
use Rattle.c_rules.specs.Conversions.{are_one_structure, is_structure_type, passing_of}
use Rattle.c_rules.specs.Rows.{may_meet}
use Rattle.c_rules.specs.Types.{class_of, object_of, same_pointee, target_of, unqualified}
use Rattle.c_rules.specs.Values.{Value, integer_words, is_null}
use Rattle.c_rules.proofs.SameTypes.{both_true, words_are}
use Rattle.c_declarators.specs.Derivations.{is_array}
use Rattle.c_scope.specs.Declaring.{is_function}
use Rattle.c_call_rules.specs.Calls.{Callee, Outcome, called, complete_result}
use Rattle.c_call_rules.specs.Calls.{counted, passed, result_kind}
use Rattle.c_call_rules.specs.FunctionTypes.{first_types, result_type}
use Rattle.c_call_rules.specs.Printing.{Format, a_literal, another, directives_in, formatted, printed, printed_by}
use Rattle.c_call_rules.specs.Printing.{printf_tree}
use Rattle.c_tree.specs.Routines.{routine_words}
use Rattle.typing_laws.proofs.Validity.Common.{first as left, second as right}
use Rattle.typing_laws.proofs.Validity.Sound.{IfAnswer}
use Rattle.typing_laws.specs.Validity.Steps.{Structures}
use Rattle.typing_laws.specs.SpelledTypes.Spelled.{IsFunctionType, IsValueType, fits, has_parameters}
use Rattle.typing_laws.specs.SpelledTypes.Spelled.{is_readable, is_spelled}
use Rattle.typing_laws.proofs.SpelledTypes.Words.{result_spelled, still_more, unqualified_readable}
use Rattle.typing_laws.proofs.SpelledTypes.Words.{unqualified_spelled}
use Rattle.typing_laws.specs.Types.Typed.{OfValueType, OfValueTypes}
use Rattle.typing_laws.proofs.Types.Operators.{IfValue, is_incomplete, target_readable, then_value}

-- parameters

pub kind_by : (o : Option TypeExtent) → is_some o ≡ true → is_some (structure_kind o) ≡ true
kind_by None e = absurd cc
kind_by (Some x) e = refl

structure_kinded : (es : Structures) (ws : List TypeWord) → is_structure_type (unqualified (first_types 1 ws)) ≡ true
    → is_readable es (unqualified (first_types 1 ws)) ≡ true → is_some (kind_of_type es ws) ≡ true
structure_kinded es [] e g = absurd cc
structure_kinded es (word.Structure n ∷ ws) e g = kind_by (structure_extent es n) g
structure_kinded es (word.Const ∷ ws) e g = structure_kinded es ws e g
structure_kinded es (word.Void ∷ ws) e g = absurd cc
structure_kinded es (word.Integer t ∷ ws) e g = absurd cc
structure_kinded es (word.Enumeration n ∷ ws) e g = absurd cc
structure_kinded es (word.Pointer ∷ ws) e g = absurd cc
structure_kinded es (word.Array c b ∷ ws) e g = absurd cc
structure_kinded es (word.OpenArray ∷ ws) e g = absurd cc
structure_kinded es (word.Takes ∷ ws) e g = absurd cc
structure_kinded es (word.Gives ∷ ws) e g = absurd cc

abbrev IsScalar : Class → Type 0
IsScalar (class.Integer t) = Unit {0}
IsScalar (class.Pointer t) = Unit {0}
IsScalar class.Other = true ≡ false

scalar_kinded : (es : Structures) (ws : List TypeWord) → IsScalar (class_of es (first_types 1 ws))
    → is_some (kind_of_type es ws) ≡ true
scalar_kinded es [] e = absurd cc
scalar_kinded es (word.Structure n ∷ ws) e = absurd cc
scalar_kinded es (word.Const ∷ ws) e = scalar_kinded es ws e
scalar_kinded es (word.Void ∷ ws) e = refl
scalar_kinded es (word.Integer t ∷ ws) e = refl
scalar_kinded es (word.Enumeration n ∷ ws) e = refl
scalar_kinded es (word.Pointer ∷ ws) e = refl
scalar_kinded es (word.Array c b ∷ ws) e = absurd cc
scalar_kinded es (word.OpenArray ∷ ws) e = absurd cc
scalar_kinded es (word.Takes ∷ ws) e = absurd cc
scalar_kinded es (word.Gives ∷ ws) e = absurd cc

abbrev Passes : Type 0 → Passing → (line : ℕ) → Expression → Type 0
Passes P p line e = IfAnswer (λ x. P) (conversions.passed p line e)

convert_if : (P : Type 0) (k : Kind) (b : Bool) (line : ℕ) (e : Expression) → P
    → Passes P (if b then passing.Convert k else passing.NoWay) line e
convert_if P k true line e h = h
convert_if P k false line e h = tt

as_it_is_if : (P : Type 0) (b : Bool) (line : ℕ) (e : Expression) → (b ≡ true → P)
    → Passes P (if b then passing.AsItIs else passing.NoWay) line e
as_it_is_if P true line e h = h refl
as_it_is_if P false line e h = tt

passing_kinded : (P : Type 0) (same null structure : Bool) (c d : Class) (line : ℕ) (e : Expression)
    → (IsScalar c → P) → (structure ≡ true → P) → Passes P (passing_of same null structure c d) line e
passing_kinded P same null structure (class.Integer j) (class.Integer k) line e h g = h tt
passing_kinded P same null structure (class.Integer j) (class.Pointer k) line e h g = tt
passing_kinded P same null structure (class.Integer j) class.Other line e h g = tt
passing_kinded P same null structure (class.Pointer s) (class.Pointer t) line e h g =
    convert_if P pointer (may_meet same s t || null) line e (h tt)
passing_kinded P same null structure (class.Pointer s) (class.Integer k) line e h g =
    convert_if P pointer null line e (h tt)
passing_kinded P same null structure (class.Pointer s) class.Other line e h g = tt
passing_kinded P same null structure class.Other class.Other line e h g = as_it_is_if P structure line e g
passing_kinded P same null structure class.Other (class.Integer k) line e h g = tt
passing_kinded P same null structure class.Other (class.Pointer t) line e h g = tt

-- what a parameter takes has a kind
assigned_kinded : (es : Structures) (line : ℕ) (ws : List TypeWord) (v : Value) → OfValueType es v
    → IfAnswer (λ e. is_some (kind_of_type es ws) ≡ true) (conversions.assigned es line (first_types 1 ws) v)
unfolding conversions.assigned
assigned_kinded es line ws v h =
    passing_kinded (is_some (kind_of_type es ws) ≡ true) (same_pointee (first_types 1 ws) v.type) (is_null v)
    (are_one_structure (unqualified (first_types 1 ws)) (unqualified v.type)) (class_of es (first_types 1 ws))
    (class_of es v.type) line v.tree (scalar_kinded es ws)
    (λ e. let one = both_true (is_structure_type (unqualified (first_types 1 ws)))
    (same_words (unqualified (first_types 1 ws)) (unqualified v.type)) e in
    structure_kinded es ws one.0
    (ap (is_readable es) (words_are (unqualified (first_types 1 ws)) (unqualified v.type) one.1)
    ∙ unqualified_readable es v.type h.readable))

parameters_behind : (es : Structures) (n : ℕ) (ws : List TypeWord)
    → has_parameters es n ws ≡ has_parameters es 0 (behind_types n ws)
parameters_behind es zero ws = refl
parameters_behind es (suc n) [] = refl
parameters_behind es (suc n) (w ∷ ws) = parameters_behind es (still w n) ws

weak_answer : {A : Type 0} (P Q : Type 0) (a : Answer A) → (P → Q) → IfAnswer (λ x. P) a → IfAnswer (λ x. Q) a
weak_answer P Q (Ok x) h is = h is
weak_answer P Q (Err f) h is = tt

counted_kinded : (es : Structures) (line : ℕ) (ws : List TypeWord) (args : List Expression)
    → IfAnswer (λ x. has_parameters es 0 ws ≡ true) (counted line ws args)
counted_kinded es line [] args = tt
counted_kinded es line (word.Gives ∷ ws) args = refl
counted_kinded es line (word.Takes ∷ ws) args = tt
counted_kinded es line (word.Void ∷ ws) args = tt
counted_kinded es line (word.Integer t ∷ ws) args = tt
counted_kinded es line (word.Enumeration n ∷ ws) args = tt
counted_kinded es line (word.Pointer ∷ ws) args = tt
counted_kinded es line (word.Array c b ∷ ws) args = tt
counted_kinded es line (word.OpenArray ∷ ws) args = tt
counted_kinded es line (word.Structure n ∷ ws) args = tt
counted_kinded es line (word.Const ∷ ws) args = tt

abbrev HasParameters : Structures → List TypeWord → Answer (List Expression) → Type 0
HasParameters es ws a = IfAnswer (λ x. has_parameters es 0 ws ≡ true) a

one_more : (es : Structures) (line : ℕ) (ws : List TypeWord) (before : List Expression) (vs : List Value)
    (a : Answer Expression) → IfAnswer (λ e. is_some (kind_of_type es ws) ≡ true) a
    → ((es' : List Expression) → HasParameters es (behind_types 1 ws) (passed es line (behind_types 1 ws) es' vs))
    → HasParameters es (word.Takes ∷ ws)
    (a >>= (λ e. Ok (before ++ e ∷ [])) >>= λ es'. passed es line (behind_types 1 ws) es' vs)
one_more es line ws before vs (Ok e) is h =
    weak_answer (has_parameters es 0 (behind_types 1 ws) ≡ true) (has_parameters es 0 (word.Takes ∷ ws) ≡ true)
    (passed es line (behind_types 1 ws) (before ++ e ∷ []) vs)
    (λ g. and_from (is_some (kind_of_type es ws)) (has_parameters es 1 ws) is (parameters_behind es 1 ws ∙ g))
    (h (before ++ e ∷ []))
one_more es line ws before vs (Err f) is h = tt

no_words : (es : Structures) (line : ℕ) (ws : List TypeWord) (before : List Expression) (vs : List Value)
    → HasParameters es [] (passed es line [] before vs) → HasParameters es ws (passed es line [] before vs)
no_words es line ws before vs h =
    weak_answer (false ≡ true) (has_parameters es 0 ws ≡ true) (passed es line [] before vs) (λ e. absurd cc) h

passed_parameters : (es : Structures) (line : ℕ) (ws : List TypeWord) (before : List Expression) (vs : List Value)
    → OfValueTypes es vs → HasParameters es ws (passed es line ws before vs)
passed_parameters es line ws before [] h = counted_kinded es line ws before
passed_parameters es line (word.Takes ∷ ws) before (v ∷ vs) h =
    one_more es line ws before vs (conversions.assigned es line (first_types 1 ws) v)
    (assigned_kinded es line ws v h.0)
    (λ es'. passed_parameters es line (behind_types 1 ws) es' vs h.1)
passed_parameters es line [] before (v ∷ vs) h =
    no_words es line [] before vs (passed_parameters es line [] before vs h.1)
passed_parameters es line (word.Gives ∷ ws) before (v ∷ vs) h =
    no_words es line (word.Gives ∷ ws) before vs (passed_parameters es line [] before vs h.1)
passed_parameters es line (word.Void ∷ ws) before (v ∷ vs) h =
    no_words es line (word.Void ∷ ws) before vs (passed_parameters es line [] before vs h.1)
passed_parameters es line (word.Integer t ∷ ws) before (v ∷ vs) h =
    no_words es line (word.Integer t ∷ ws) before vs (passed_parameters es line [] before vs h.1)
passed_parameters es line (word.Enumeration n ∷ ws) before (v ∷ vs) h =
    no_words es line (word.Enumeration n ∷ ws) before vs (passed_parameters es line [] before vs h.1)
passed_parameters es line (word.Pointer ∷ ws) before (v ∷ vs) h =
    no_words es line (word.Pointer ∷ ws) before vs (passed_parameters es line [] before vs h.1)
passed_parameters es line (word.Array c b ∷ ws) before (v ∷ vs) h =
    no_words es line (word.Array c b ∷ ws) before vs (passed_parameters es line [] before vs h.1)
passed_parameters es line (word.OpenArray ∷ ws) before (v ∷ vs) h =
    no_words es line (word.OpenArray ∷ ws) before vs (passed_parameters es line [] before vs h.1)
passed_parameters es line (word.Structure n ∷ ws) before (v ∷ vs) h =
    no_words es line (word.Structure n ∷ ws) before vs (passed_parameters es line [] before vs h.1)
passed_parameters es line (word.Const ∷ ws) before (v ∷ vs) h =
    no_words es line (word.Const ∷ ws) before vs (passed_parameters es line [] before vs h.1)

-- results

pub result_fits : (es : Structures) (n : ℕ) (ws : List TypeWord) → is_spelled es (suc n) ws ≡ true
    → fits es word.Gives (result_type n ws) ≡ true
result_fits es n [] e = refl
result_fits es zero (word.Gives ∷ ws) e = left (fits es word.Gives ws) _ e
result_fits es zero (word.Takes ∷ ws) e = result_fits es 1 ws e
result_fits es zero (word.Void ∷ ws) e = refl
result_fits es zero (word.Integer t ∷ ws) e = refl
result_fits es zero (word.Enumeration k ∷ ws) e = refl
result_fits es zero (word.Pointer ∷ ws) e = refl
result_fits es zero (word.Array c b ∷ ws) e = refl
result_fits es zero (word.OpenArray ∷ ws) e = refl
result_fits es zero (word.Structure k ∷ ws) e = refl
result_fits es zero (word.Const ∷ ws) e = refl
result_fits es (suc n) (v ∷ ws) e =
    result_fits es (still v n) ws
    (ap (λ z. is_spelled es z ws) (sym (still_more v n)) ∙ right (fits es v ws) _ e)

pub gives_no_function : (es : Structures) (ws : List TypeWord) → fits es word.Gives ws ≡ true
    → is_function (unqualified ws) ≡ false
gives_no_function es ws e = not-true (is_function (unqualified ws)) (left _ (not (is_array ws)) e)

pub gives_no_array : (es : Structures) (ws : List TypeWord) → fits es word.Gives ws ≡ true → is_array ws ≡ false
gives_no_array es ws e = not-true (is_array ws) (right (not (is_function (unqualified ws))) _ e)

object_kinded : (o : Option TypeExtent) → is_incomplete (object_of o) ≡ false → is_some (structure_kind o) ≡ true
object_kinded None e = absurd cc
object_kinded (Some x) e = refl

-- a result that is complete and no function has a kind
pub target_kinded : (es : Structures) (ws : List TypeWord) → is_spelled es 1 ws ≡ true → is_array ws ≡ false
    → is_incomplete (target_of es ws) ≡ false → is_function (unqualified ws) ≡ false
    → is_some (kind_of_type es ws) ≡ true
unfolding extent_of
target_kinded es [] s a e f = absurd cc
target_kinded es (word.Structure n ∷ ws) s a e f = object_kinded (structure_extent es n) e
target_kinded es (word.Const ∷ ws) s a e f =
    target_kinded es ws (right (not (is_array ws)) _ s) (not-true (is_array ws) (left (not (is_array ws)) _ s)) e f
target_kinded es (word.Void ∷ ws) s a e f = refl
target_kinded es (word.Integer t ∷ ws) s a e f = refl
target_kinded es (word.Enumeration n ∷ ws) s a e f = refl
target_kinded es (word.Pointer ∷ ws) s a e f = refl
target_kinded es (word.Array c b ∷ ws) s a e f = absurd cc
target_kinded es (word.OpenArray ∷ ws) s a e f = absurd cc
target_kinded es (word.Takes ∷ ws) s a e f = absurd cc
target_kinded es (word.Gives ∷ ws) s a e f = absurd cc

-- behind the test of the result
complete_then : {A : Type 0} (P : A → Type 0) (line : ℕ) (t : Target) (type : List TypeWord)
    (next : Outcome → Answer A)
    → (is_incomplete t ≡ false → IfAnswer P (next (record { kind = result_kind t type; type = unqualified type })))
    → IfAnswer P (complete_result line t type >>= next)
complete_then P line target.Incomplete type next h = tt
complete_then P line (target.Object n) type next h = h refl
complete_then P line target.Void type next h = h refl
complete_then P line target.Function type next h = h refl

some_result : (es : Structures) (ws : List TypeWord) → is_spelled es 1 ws ≡ true → (r : List TypeWord)
    → result_type 0 ws ≡ r → is_incomplete (target_of es r) ≡ false → is_spelled es 1 (result_type 0 ws) ≡ true
unfolding extent_of
some_result es ws s [] e g = absurd cc
some_result es ws s (w ∷ r) e g = result_spelled es 0 ws s w r e

result_value : (es : Structures) (ws : List TypeWord) → is_spelled es 1 ws ≡ true
    → is_incomplete (target_of es (result_type 0 ws)) ≡ false → IsValueType es (unqualified (result_type 0 ws))
result_value es ws s g = record {
  spelled = unqualified_spelled es 0 (result_type 0 ws) (some_result es ws s (result_type 0 ws) refl g);
  readable = unqualified_readable es (result_type 0 ws)
      (target_readable es (result_type 0 ws) g);
}

pub called_type : (es : Structures) (line : ℕ) (callee : Callee) (type : List TypeWord) (vs : List Value)
    → is_spelled es 1 type ≡ true → IfValue es (called es line callee type vs)
unfolding called
called_type es line callee type vs s =
    complete_then (OfValueType es) line (target_of es (result_type 0 type)) (result_type 0 type) _
    (λ g. then_value es (passed es line type [] vs) _ (λ args. result_value es type s g))

-- what is called has kinds of its parameters and result

abbrev Kinded : Structures → List TypeWord → Answer Value → Type 0
Kinded es type a = IfAnswer (λ v. IsFunctionType es type) a

passed_then : (es : Structures) (type : List TypeWord) (a : Answer (List Expression))
    (next : List Expression → Value) → HasParameters es type a → (has_parameters es 0 type ≡ true
    → IsFunctionType es type) → Kinded es type (a >>= λ args. Ok (next args))
passed_then es type (Ok args) next is h = h is
passed_then es type (Err f) next is h = tt

pub called_kinded : (es : Structures) (line : ℕ) (callee : Callee) (type : List TypeWord) (vs : List Value)
    → is_spelled es 1 type ≡ true → OfValueTypes es vs → Kinded es type (called es line callee type vs)
unfolding called
called_kinded es line callee type vs s h =
    complete_then (λ v. IsFunctionType es type) line (target_of es (result_type 0 type)) (result_type 0 type) _
    (λ g. passed_then es type (passed es line type [] vs) _ (passed_parameters es line type [] vs h)
    (λ p. let result = result_type 0 type in
    let has = result_fits es 0 type s in
    record {
      spelled = s;
      parameters = p;
      result = target_kinded es result (some_result es type s result refl g) (gives_no_array es result has) g
          (gives_no_function es result has);
    }))

pub routine_spelled : (es : Structures) (r : Routine) → is_spelled es 1 (routine_words r) ≡ true
unfolding routine_words
routine_spelled es routine.Malloc = refl
routine_spelled es routine.Calloc = refl
routine_spelled es routine.Free = refl
routine_spelled es routine.Realloc = refl
routine_spelled es routine.Memcpy = refl
routine_spelled es routine.Memmove = refl
routine_spelled es routine.Memset = refl
routine_spelled es routine.Memcmp = refl
routine_spelled es routine.Strlen = refl
routine_spelled es routine.Strcmp = refl
routine_spelled es routine.Strcpy = refl
routine_spelled es routine.Strncpy = refl
routine_spelled es routine.Strcat = refl
routine_spelled es routine.Strchr = refl
routine_spelled es routine.Putchar = refl
routine_spelled es routine.Getchar = refl
routine_spelled es routine.Puts = refl
routine_spelled es routine.Exit = refl
routine_spelled es routine.Abort = refl

-- `printf`

printed_by_type : (es : Structures) (line : ℕ) (bytes : List ℕ) (o : Option (List Directive)) (vs : List Value)
    → IfValue es (printed_by es line bytes o vs)
printed_by_type es line bytes None vs = tt
printed_by_type es line bytes (Some ds) vs =
    then_value es (printed es line ds [] vs)
    (λ args. Ok (record { type = integer_words Int; tree = printf_tree line bytes args }))
    (λ args. record { spelled = refl; readable = refl })

pub formatted_type : (es : Structures) (line : ℕ) (f : Option Format) (vs : List Value)
    → IfValue es (formatted es line f vs)
formatted_type es line None vs = tt
formatted_type es line (Some (another v)) vs =
    then_value es (conversions.assigned es line (word.Pointer ∷ word.Const ∷ word.Integer Char ∷ []) v)
    (λ e. violates MistakenFormat line) (λ e. tt)
formatted_type es line (Some (a_literal bytes)) vs = printed_by_type es line bytes (directives_in bytes) vs

-- Words of function types: their parameters and results, also in composite types, and their kinds.
use Rattle.std.proofs.Common.{◌≡◌, ℕ, zero, suc, ◌+◌, arith, true, false, refl, sym, ap, ◌∙◌, subst, List, []}
use Rattle.std.proofs.Common.{◌∷◌, ◌++◌, Option, Some, None}
use Rattle.std.proofs.lemmas.Bool.{and_from, false≢true, not-true}
use Rattle.std.specs.Prelude.{not, is_none, is_some}
use Rattle.c_tree.specs.declared.c_type.TypeWord.{TypeWord}
use Rattle.c_tree.specs.declared.c_type.TypeWord.TheVariants as word
use Rattle.c_tree.specs.declared.expression.Kind.{Kind}
use Rattle.c_tree.specs.Extents.{TypeExtent, extent_of, structure_extent}
use Rattle.c_tree.specs.TypesAgree.{agrees, behind_types, is_end, is_kind_of, kind_of_type, still}
use Rattle.c_tree.specs.TypesAgree.{structure_kind}
use Rattle.c_rules.specs.Types.{unqualified}
use Rattle.c_rules.proofs.FineUnary.{same_kind}
use Rattle.c_call_rules.specs.FunctionTypes.{result_type}
use Rattle.c_declarators.specs.Derivations.{function_words, is_array}
use Rattle.c_scope.specs.Composite.{composite}
use Rattle.c_scope.specs.Declaring.{is_function}
use Rattle.c_unit_typing.specs.Programs.{kind_or_void, parameter_kinds, result_kind}
use Rattle.c_unit_typing.specs.Units.{is_incomplete_structure}
use Rattle.typing_laws.proofs.Validity.Common.{first as left, second as right}
use Rattle.typing_laws.specs.Validity.Steps.{Structures}
use Rattle.typing_laws.specs.SpelledTypes.Spelled.{IsFunctionType, fits, has_parameters, is_spelled}
use Rattle.typing_laws.proofs.SpelledTypes.Composites.{IsJoint, alike, first_sized, composite_nothing}
use Rattle.typing_laws.proofs.SpelledTypes.Composites.{composite_spelled, joins, none_first, none_second}
use Rattle.typing_laws.proofs.SpelledTypes.Composites.{second_sized}
use Rattle.typing_laws.proofs.SpelledTypes.Words.{spelled_end, still_more}
use Rattle.typing_laws.specs.Types.Typed.{AreSpelled, Each, IsSpelled}
use Rattle.typing_laws.proofs.Types.Parameters.{IsKinded}

-- the words agree with the kinds (6.7.5.3)

some_kind : (o : Option Kind) → is_some o ≡ true → is_kind_of o (kind_or_void o) ≡ true
some_kind None e = absurd cc
some_kind (Some k) e = same_kind k

agrees_from : (es : Structures) (n : ℕ) (ws : List TypeWord) → has_parameters es n ws ≡ true
    → is_spelled es (suc n) ws ≡ true → is_some (kind_of_type es (result_type n ws)) ≡ true
    → agrees es (behind_types n ws) (parameter_kinds es n ws) (kind_or_void (kind_of_type es (result_type n ws)))
    ≡ true
agrees_from es n [] p s r = absurd cc
agrees_from es zero (word.Gives ∷ ws) p s r =
    and_from (is_kind_of (kind_of_type es ws) (kind_or_void (kind_of_type es ws))) (is_end (behind_types 1 ws))
    (some_kind (kind_of_type es ws) r)
    (ap is_end (spelled_end es 1 ws (right (fits es word.Gives ws) _ s)))
agrees_from es zero (word.Takes ∷ ws) p s r =
    and_from (is_kind_of (kind_of_type es ws) (kind_or_void (kind_of_type es ws))) _
    (some_kind (kind_of_type es ws) (left (is_some (kind_of_type es ws)) (has_parameters es 1 ws) p))
    (agrees_from es 1 ws (right (is_some (kind_of_type es ws)) (has_parameters es 1 ws) p) s r)
agrees_from es zero (word.Void ∷ ws) p s r = absurd cc
agrees_from es zero (word.Integer t ∷ ws) p s r = absurd cc
agrees_from es zero (word.Enumeration k ∷ ws) p s r = absurd cc
agrees_from es zero (word.Pointer ∷ ws) p s r = absurd cc
agrees_from es zero (word.Array c b ∷ ws) p s r = absurd cc
agrees_from es zero (word.OpenArray ∷ ws) p s r = absurd cc
agrees_from es zero (word.Structure k ∷ ws) p s r = absurd cc
agrees_from es zero (word.Const ∷ ws) p s r = absurd cc
agrees_from es (suc n) (w ∷ ws) p s r =
    agrees_from es (still w n) ws p
    (ap (λ z. is_spelled es z ws) (sym (still_more w n)) ∙ right (fits es w ws) _ s) r

pub function_agrees : (es : Structures) (type : List TypeWord) → IsFunctionType es type
    → agrees es type (parameter_kinds es 0 type) (result_kind es type) ≡ true
function_agrees es type is = agrees_from es 0 type is.parameters is.spelled is.result

-- the words that a declarator makes

kind_append : (es : Structures) (n : ℕ) (p rest : List TypeWord) → is_spelled es (suc n) p ≡ true
    → kind_of_type es (p ++ rest) ≡ kind_of_type es p
kind_append es n [] rest s = absurd cc
kind_append es n (word.Const ∷ ws) rest s = kind_append es n ws rest (right (not (is_array ws)) _ s)
kind_append es n (word.Void ∷ ws) rest s = refl
kind_append es n (word.Integer t ∷ ws) rest s = refl
kind_append es n (word.Enumeration k ∷ ws) rest s = refl
kind_append es n (word.Pointer ∷ ws) rest s = refl
kind_append es n (word.Array c b ∷ ws) rest s = refl
kind_append es n (word.OpenArray ∷ ws) rest s = refl
kind_append es n (word.Structure k ∷ ws) rest s = refl
kind_append es n (word.Takes ∷ ws) rest s = refl
kind_append es n (word.Gives ∷ ws) rest s = refl

parameters_skip : (es : Structures) (m : ℕ) (p : List TypeWord) (w : TypeWord) (rest : List TypeWord)
    → is_spelled es m p ≡ true → has_parameters es m (p ++ w ∷ rest) ≡ has_parameters es 0 (w ∷ rest)
parameters_skip es zero [] w rest s = refl
parameters_skip es zero (v ∷ p) w rest s = absurd cc
parameters_skip es (suc m) [] w rest s = absurd cc
parameters_skip es (suc m) (v ∷ p) w rest s = parameters_skip es (still v m) p w rest (right (fits es v p) _ s)

result_skip : (es : Structures) (m : ℕ) (p rest : List TypeWord) → is_spelled es m p ≡ true
    → result_type m (p ++ rest) ≡ result_type 0 rest
result_skip es zero [] rest s = refl
result_skip es zero (v ∷ p) rest s = absurd cc
result_skip es (suc m) [] rest s = absurd cc
result_skip es (suc m) (v ∷ p) rest s = result_skip es (still v m) p rest (right (fits es v p) _ s)

words_skip : (es : Structures) (p : List TypeWord) (ps : List (List TypeWord)) (r : List TypeWord) → IsSpelled es p
    → has_parameters es 1 (p ++ function_words ps r) ≡ has_parameters es 0 (function_words ps r)
words_skip es p [] r s = parameters_skip es 1 p word.Gives r s
words_skip es p (q ∷ ps) r s = parameters_skip es 1 p word.Takes (q ++ function_words ps r) s

pub words_parameters : (es : Structures) (ps : List (List TypeWord)) (r : List TypeWord) → AreSpelled es ps
    → Each (IsKinded es) ps → has_parameters es 0 (function_words ps r) ≡ true
words_parameters es [] r s k = refl
words_parameters es (p ∷ ps) r s k =
    and_from (is_some (kind_of_type es (p ++ function_words ps r))) (has_parameters es 1 (p ++ function_words ps r))
    (ap is_some (kind_append es 0 p (function_words ps r) s.0) ∙ k.0)
    (words_skip es p ps r s.0 ∙ words_parameters es ps r s.1 k.1)

pub words_result : (es : Structures) (ps : List (List TypeWord)) (r : List TypeWord) → AreSpelled es ps
    → result_type 0 (function_words ps r) ≡ r
words_result es [] r s = refl
words_result es (p ∷ ps) r s = result_skip es 1 p (function_words ps r) s.0 ∙ words_result es ps r s.1

-- the result of a function that is defined

known_structure : (o : Option TypeExtent) → is_none o ≡ false → is_some (structure_kind o) ≡ true
known_structure None e = absurd cc
known_structure (Some x) e = refl

pub result_kinded : (es : Structures) (ws : List TypeWord) → IsSpelled es ws → is_array ws ≡ false
    → is_incomplete_structure es (unqualified ws) ≡ false → is_function (unqualified ws) ≡ false
    → is_some (kind_of_type es ws) ≡ true
unfolding extent_of
result_kinded es [] s a i f = absurd cc
result_kinded es (word.Structure n ∷ ws) s a i f = known_structure (structure_extent es n) i
result_kinded es (word.Const ∷ ws) s a i f =
    result_kinded es ws (right (not (is_array ws)) _ s) (not-true (is_array ws) (left (not (is_array ws)) _ s)) i f
result_kinded es (word.Void ∷ ws) s a i f = refl
result_kinded es (word.Integer t ∷ ws) s a i f = refl
result_kinded es (word.Enumeration n ∷ ws) s a i f = refl
result_kinded es (word.Pointer ∷ ws) s a i f = refl
result_kinded es (word.Array c b ∷ ws) s a i f = absurd cc
result_kinded es (word.OpenArray ∷ ws) s a i f = absurd cc
result_kinded es (word.Takes ∷ ws) s a i f = absurd cc
result_kinded es (word.Gives ∷ ws) s a i f = absurd cc

-- composite types

kind_behind : (es : Structures) (w : TypeWord) (t c : List TypeWord)
    → (is_some (kind_of_type es t) ≡ true → is_some (kind_of_type es c) ≡ true)
    → is_some (kind_of_type es (w ∷ t)) ≡ true → is_some (kind_of_type es (w ∷ c)) ≡ true
kind_behind es word.Const t c h e = h e
kind_behind es word.Void t c h e = e
kind_behind es (word.Integer i) t c h e = e
kind_behind es (word.Enumeration k) t c h e = e
kind_behind es word.Pointer t c h e = e
kind_behind es (word.Array n b) t c h e = absurd cc
kind_behind es word.OpenArray t c h e = absurd cc
kind_behind es (word.Structure k) t c h e = e
kind_behind es word.Takes t c h e = absurd cc
kind_behind es word.Gives t c h e = absurd cc

kind_joint : (es : Structures) (v w x : TypeWord) (t c : List TypeWord) → IsJoint v w x
    → (is_some (kind_of_type es t) ≡ true → is_some (kind_of_type es c) ≡ true)
    → is_some (kind_of_type es (w ∷ t)) ≡ true → is_some (kind_of_type es (x ∷ c)) ≡ true
kind_joint es v w x t c (alike e g) h k =
    ap (λ z. is_some (kind_of_type es (z ∷ c))) (g ∙ e) ∙ kind_behind es w t c h k
kind_joint es v w x t c (first_sized n b e g i) h k =
    absurd (false≢true (sym (ap (λ z. is_some (kind_of_type es (z ∷ t))) g) ∙ k))
kind_joint es v w x t c (second_sized n b e g i) h k =
    absurd (false≢true (sym (ap (λ z. is_some (kind_of_type es (z ∷ t))) g) ∙ k))

composite_kind : (es : Structures) (s t c : List TypeWord) → composite s t ≡ Some c
    → is_some (kind_of_type es t) ≡ true → is_some (kind_of_type es c) ≡ true
composite_kind es [] [] c e k = absurd cc
composite_kind es [] (w ∷ t) c e k = none_first w t c _ e
composite_kind es (v ∷ s) [] c e k = none_second v s c _ e
composite_kind es (v ∷ s) (w ∷ t) c e k =
    let j = joins v s w t c e in
    ap (λ z. is_some (kind_of_type es z)) j.is
    ∙ kind_joint es v w j.first t j.rest j.joint (composite_kind es s t j.rest j.behind) k

-- the first word of a composite: as that of the second type, or an array in place of one
data IsSecond (w x : TypeWord) : Type 0 where
  equal : x ≡ w → IsSecond w x
  arrays : (c b : ℕ) → w ≡ word.OpenArray → x ≡ word.Array c b → IsSecond w x

second_of : (v w x : TypeWord) → IsJoint v w x → IsSecond w x
second_of v w x (alike e g) = equal (g ∙ e)
second_of v w x (first_sized c b e g h) = arrays c b g (h ∙ e)
second_of v w x (second_sized c b e g h) = equal h

second_still : (w x : TypeWord) (n : ℕ) → IsSecond w x → still x n ≡ still w n
second_still w x n (equal e) = ap (λ z. still z n) e
second_still w x n (arrays c b e g) = ap (λ z. still z n) g ∙ sym (ap (λ z. still z n) e)

parameters_behind : (es : Structures) (w : TypeWord) (t c : List TypeWord)
    → (is_some (kind_of_type es t) ≡ true → is_some (kind_of_type es c) ≡ true)
    → (has_parameters es 1 t ≡ true → has_parameters es 1 c ≡ true)
    → has_parameters es 0 (w ∷ t) ≡ true → has_parameters es 0 (w ∷ c) ≡ true
parameters_behind es word.Takes t c h g e =
    and_from (is_some (kind_of_type es c)) (has_parameters es 1 c)
    (h (left (is_some (kind_of_type es t)) (has_parameters es 1 t) e))
    (g (right (is_some (kind_of_type es t)) (has_parameters es 1 t) e))
parameters_behind es word.Gives t c h g e = refl
parameters_behind es word.Void t c h g e = absurd cc
parameters_behind es (word.Integer i) t c h g e = absurd cc
parameters_behind es (word.Enumeration k) t c h g e = absurd cc
parameters_behind es word.Pointer t c h g e = absurd cc
parameters_behind es (word.Array n b) t c h g e = absurd cc
parameters_behind es word.OpenArray t c h g e = absurd cc
parameters_behind es (word.Structure k) t c h g e = absurd cc
parameters_behind es word.Const t c h g e = absurd cc

parameters_second : (es : Structures) (w x : TypeWord) (t c : List TypeWord) → IsSecond w x
    → (is_some (kind_of_type es t) ≡ true → is_some (kind_of_type es c) ≡ true)
    → (has_parameters es 1 t ≡ true → has_parameters es 1 c ≡ true)
    → has_parameters es 0 (w ∷ t) ≡ true → has_parameters es 0 (x ∷ c) ≡ true
parameters_second es w x t c (equal e) h g k =
    ap (λ z. has_parameters es 0 (z ∷ c)) e ∙ parameters_behind es w t c h g k
parameters_second es w x t c (arrays n b e i) h g k =
    absurd (false≢true (sym (ap (λ z. has_parameters es 0 (z ∷ t)) e) ∙ k))

composite_parameters : (es : Structures) (n : ℕ) (s t c : List TypeWord) → composite s t ≡ Some c
    → has_parameters es n t ≡ true → has_parameters es n c ≡ true
composite_parameters es n [] [] c e k = absurd cc
composite_parameters es n [] (w ∷ t) c e k = none_first w t c _ e
composite_parameters es n (v ∷ s) [] c e k = none_second v s c _ e
composite_parameters es zero (v ∷ s) (w ∷ t) c e k =
    let j = joins v s w t c e in
    ap (has_parameters es 0) j.is
    ∙ parameters_second es w j.first t j.rest (second_of v w j.first j.joint)
    (composite_kind es s t j.rest j.behind) (composite_parameters es 1 s t j.rest j.behind) k
composite_parameters es (suc n) (v ∷ s) (w ∷ t) c e k =
    let j = joins v s w t c e in
    ap (has_parameters es (suc n)) j.is
    ∙ ap (λ z. has_parameters es z j.rest) (second_still w j.first n (second_of v w j.first j.joint))
    ∙ composite_parameters es (still w n) s t j.rest j.behind k

-- results

result_behind : (es : Structures) (w : TypeWord) (t c : List TypeWord) → (IsKinded es t → IsKinded es c)
    → (IsKinded es (result_type 1 t) → IsKinded es (result_type 1 c))
    → IsKinded es (result_type 0 (w ∷ t)) → IsKinded es (result_type 0 (w ∷ c))
result_behind es word.Gives t c h g k = h k
result_behind es word.Takes t c h g k = g k
result_behind es word.Void t c h g k = k
result_behind es (word.Integer i) t c h g k = k
result_behind es (word.Enumeration n) t c h g k = k
result_behind es word.Pointer t c h g k = k
result_behind es (word.Array n b) t c h g k = k
result_behind es word.OpenArray t c h g k = k
result_behind es (word.Structure n) t c h g k = k
result_behind es word.Const t c h g k = k

result_second : (es : Structures) (w x : TypeWord) (t c : List TypeWord) → IsSecond w x
    → (IsKinded es t → IsKinded es c)
    → (IsKinded es (result_type 1 t) → IsKinded es (result_type 1 c))
    → IsKinded es (result_type 0 (w ∷ t)) → IsKinded es (result_type 0 (x ∷ c))
result_second es w x t c (equal e) h g k =
    subst (λ z. IsKinded es (result_type 0 (z ∷ c))) (sym e) (result_behind es w t c h g k)
result_second es w x t c (arrays n b e i) h g k =
    subst (λ z. IsKinded es (result_type 0 (z ∷ c))) (sym i)
    (subst (λ z. IsKinded es (result_type 0 (z ∷ t))) e k)

composite_result : (es : Structures) (n : ℕ) (s t c : List TypeWord) → composite s t ≡ Some c
    → IsKinded es (result_type n t) → IsKinded es (result_type n c)
composite_result es n [] [] c e k =
    subst (λ z. IsKinded es (result_type n z)) (sym (composite_nothing c e)) k
composite_result es n [] (w ∷ t) c e k = none_first w t c _ e
composite_result es n (v ∷ s) [] c e k = none_second v s c _ e
composite_result es zero (v ∷ s) (w ∷ t) c e k =
    let j = joins v s w t c e in
    subst (λ z. IsKinded es (result_type 0 z)) (sym j.is)
    (result_second es w j.first t j.rest (second_of v w j.first j.joint)
    (composite_kind es s t j.rest j.behind) (composite_result es 1 s t j.rest j.behind) k)
composite_result es (suc n) (v ∷ s) (w ∷ t) c e k =
    let j = joins v s w t c e in
    subst (λ z. IsKinded es (result_type (suc n) z)) (sym j.is)
    (subst (λ z. IsKinded es (result_type z j.rest))
    (sym (second_still w j.first n (second_of v w j.first j.joint)))
    (composite_result es (still w n) s t j.rest j.behind k))

pub composite_function_type : (es : Structures) (s t c : List TypeWord) → composite s t ≡ Some c → IsSpelled es s
    → IsFunctionType es t → IsFunctionType es c
composite_function_type es s t c e h is = record {
  spelled = composite_spelled es 1 s t c e h is.spelled;
  parameters = composite_parameters es 0 s t c e is.parameters;
  result = composite_result es 0 s t c e is.result;
}

rest_by : (es : Structures) (m : ℕ) (p : List TypeWord) (w : TypeWord) (rest : List TypeWord) (n : ℕ) → n ≡ m + 1
    → is_spelled es m p ≡ true → is_spelled es n (p ++ w ∷ rest) ≡ true → is_spelled es 1 (w ∷ rest) ≡ true
rest_by es zero [] w rest n e s g =
    let one : n ≡ 1 = omega (arith, e) in ap (λ z. is_spelled es z (w ∷ rest)) (sym one) ∙ g
rest_by es zero (v ∷ p) w rest n e s g = absurd cc
rest_by es (suc m) [] w rest n e s g = absurd cc
rest_by es (suc m) (v ∷ p) w rest zero e s g = absurd (omega (arith, e))
rest_by es (suc m) (v ∷ p) w rest (suc n) e s g =
    rest_by es (still v m) p w rest (still v n) (still_one v m n (omega (arith, e)))
    (right (fits es v p) _ s) (right (fits es v (p ++ w ∷ rest)) _ g)
  where
    still_one : (v : TypeWord) (m n : ℕ) → n ≡ m + 1 → still v n ≡ still v m + 1
    still_one word.Void m n e = e
    still_one (word.Integer i) m n e = e
    still_one (word.Enumeration k) m n e = e
    still_one word.Pointer m n e = omega (arith, e)
    still_one (word.Array c b) m n e = omega (arith, e)
    still_one word.OpenArray m n e = omega (arith, e)
    still_one (word.Structure k) m n e = e
    still_one word.Const m n e = omega (arith, e)
    still_one word.Takes m n e = omega (arith, e)
    still_one word.Gives m n e = omega (arith, e)

words_rest : (es : Structures) (p : List TypeWord) (ps : List (List TypeWord)) (r : List TypeWord) → IsSpelled es p
    → is_spelled es 2 (p ++ function_words ps r) ≡ true → IsSpelled es (function_words ps r)
words_rest es p [] r s g = rest_by es 1 p word.Gives r 2 refl s g
words_rest es p (q ∷ ps) r s g = rest_by es 1 p word.Takes (q ++ function_words ps r) 2 refl s g

pub rest_spelled : (es : Structures) (ps : List (List TypeWord)) (r : List TypeWord) → AreSpelled es ps
    → IsSpelled es (function_words ps r) → IsSpelled es r
rest_spelled es [] r s g = right (fits es word.Gives r) _ g
rest_spelled es (p ∷ ps) r s g = rest_spelled es ps r s.1 (words_rest es p ps r s.0 g)

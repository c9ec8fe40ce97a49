-- Words that spell types: their parts, and types put together.
use Rattle.std.proofs.Common.{◌≡◌, ℕ, zero, suc, ◌+◌, Bool, true, false, ◌&&◌, refl, sym, ap, ◌∙◌, List, [], ◌∷◌, ◌++◌}
use Rattle.std.proofs.Common.{Some, arith}
use Rattle.std.proofs.lemmas.Bool.{and_from}
use Rattle.std.specs.Prelude.{not, option_map}
use Rattle.c_tree.specs.declared.c_type.TypeWord.{TypeWord}
use Rattle.c_tree.specs.declared.c_type.TypeWord.TheVariants as word
use Rattle.c_tree.specs.Arrays.{has_bytes, is_sized}
use Rattle.c_tree.specs.Extents.{array_extent, extent_of}
use Rattle.c_tree.specs.TypesAgree.{behind_types, still}
use Rattle.c_rules.specs.Types.{unqualified}
use Rattle.c_place_rules.specs.Operands.{element_of}
use Rattle.c_place_rules.specs.Targets.{constant, pointee_of, qualified}
use Rattle.c_declarators.specs.Derivations.{is_array}
use Rattle.c_scope.specs.Declaring.{is_function}
use Rattle.c_call_rules.specs.FunctionTypes.{callee_type, result_type}
use Rattle.typing_laws.proofs.Validity.Common.{first as left, second as right, the_same}
use Rattle.typing_laws.specs.Validity.Steps.{Structures}
use Rattle.typing_laws.specs.SpelledTypes.Spelled.{fits, is_readable, is_spelled}

pub spelled_sized : (es : Structures) (n : ℕ) (ws : List TypeWord) → is_spelled es n ws ≡ true → is_sized es ws ≡ true
spelled_sized es n [] e = refl
spelled_sized es zero (w ∷ ws) e = absurd cc
spelled_sized es (suc n) (word.Array c b ∷ ws) e =
    and_from (has_bytes c b (extent_of es ws)) (is_sized es ws) (left (has_bytes c b (extent_of es ws)) _ e)
    (spelled_sized es (suc n) ws (right (has_bytes c b (extent_of es ws)) _ e))
spelled_sized es (suc n) (word.Void ∷ ws) e = spelled_sized es n ws e
spelled_sized es (suc n) (word.Integer t ∷ ws) e = spelled_sized es n ws e
spelled_sized es (suc n) (word.Enumeration k ∷ ws) e = spelled_sized es n ws e
spelled_sized es (suc n) (word.Pointer ∷ ws) e = spelled_sized es (suc n) ws e
spelled_sized es (suc n) (word.OpenArray ∷ ws) e = spelled_sized es (suc n) ws e
spelled_sized es (suc n) (word.Structure k ∷ ws) e = spelled_sized es n ws e
spelled_sized es (suc n) (word.Const ∷ ws) e =
    spelled_sized es (suc n) ws (right (not (is_array ws)) _ e)
spelled_sized es (suc n) (word.Takes ∷ ws) e = spelled_sized es (suc (suc n)) ws e
spelled_sized es (suc n) (word.Gives ∷ ws) e =
    spelled_sized es (suc n) ws (right (not (is_function (unqualified ws)) && not (is_array ws)) _ e)

pub spelled_end : (es : Structures) (n : ℕ) (ws : List TypeWord) → is_spelled es n ws ≡ true → behind_types n ws ≡ []
spelled_end es zero [] e = refl
spelled_end es zero (w ∷ ws) e = absurd cc
spelled_end es (suc n) [] e = absurd cc
spelled_end es (suc n) (w ∷ ws) e = spelled_end es (still w n) ws (right (fits es w ws) _ e)

pub still_more : (w : TypeWord) (n : ℕ) → still w (suc n) ≡ suc (still w n)
still_more word.Void n = refl
still_more (word.Integer t) n = refl
still_more (word.Enumeration k) n = refl
still_more word.Pointer n = refl
still_more (word.Array c b) n = refl
still_more word.OpenArray n = refl
still_more (word.Structure k) n = refl
still_more word.Const n = refl
still_more word.Takes n = refl
still_more word.Gives n = refl

still_sum : (w : TypeWord) (m n t : ℕ) → t ≡ m + n → still w t ≡ still w m + n
still_sum word.Void m n t e = e
still_sum (word.Integer i) m n t e = e
still_sum (word.Enumeration k) m n t e = e
still_sum word.Pointer m n t e = omega (arith, e)
still_sum (word.Array c b) m n t e = omega (arith, e)
still_sum word.OpenArray m n t e = omega (arith, e)
still_sum (word.Structure k) m n t e = e
still_sum word.Const m n t e = omega (arith, e)
still_sum word.Takes m n t e = omega (arith, e)
still_sum word.Gives m n t e = omega (arith, e)

-- what stands behind a type does not change it

pub array_append : (es : Structures) (n : ℕ) (ws rest : List TypeWord) → is_spelled es (suc n) ws ≡ true
    → is_array (ws ++ rest) ≡ is_array ws
array_append es n [] rest e = absurd cc
array_append es n (word.Void ∷ ws) rest e = refl
array_append es n (word.Integer t ∷ ws) rest e = refl
array_append es n (word.Enumeration k ∷ ws) rest e = refl
array_append es n (word.Pointer ∷ ws) rest e = refl
array_append es n (word.Array c b ∷ ws) rest e = refl
array_append es n (word.OpenArray ∷ ws) rest e = refl
array_append es n (word.Structure k ∷ ws) rest e = refl
array_append es n (word.Const ∷ ws) rest e = refl
array_append es n (word.Takes ∷ ws) rest e = refl
array_append es n (word.Gives ∷ ws) rest e = refl

function_append : (es : Structures) (n : ℕ) (ws rest : List TypeWord) → is_spelled es (suc n) ws ≡ true
    → is_function (unqualified (ws ++ rest)) ≡ is_function (unqualified ws)
function_append es n [] rest e = absurd cc
function_append es n (word.Void ∷ ws) rest e = refl
function_append es n (word.Integer t ∷ ws) rest e = refl
function_append es n (word.Enumeration k ∷ ws) rest e = refl
function_append es n (word.Pointer ∷ ws) rest e = refl
function_append es n (word.Array c b ∷ ws) rest e = refl
function_append es n (word.OpenArray ∷ ws) rest e = refl
function_append es n (word.Structure k ∷ ws) rest e = refl
function_append es n (word.Const ∷ ws) rest e = function_append es n ws rest (right (not (is_array ws)) _ e)
function_append es n (word.Takes ∷ ws) rest e = refl
function_append es n (word.Gives ∷ ws) rest e = refl

pub extent_append : (es : Structures) (n : ℕ) (ws rest : List TypeWord) → is_spelled es (suc n) ws ≡ true
    → extent_of es (ws ++ rest) ≡ extent_of es ws
unfolding extent_of
extent_append es n [] rest e = absurd cc
extent_append es n (word.Void ∷ ws) rest e = refl
extent_append es n (word.Integer t ∷ ws) rest e = refl
extent_append es n (word.Enumeration k ∷ ws) rest e = refl
extent_append es n (word.Pointer ∷ ws) rest e = refl
extent_append es n (word.Array c b ∷ ws) rest e =
    ap (option_map (array_extent b)) (extent_append es n ws rest (right (fits es (word.Array c b) ws) _ e))
extent_append es n (word.OpenArray ∷ ws) rest e = refl
extent_append es n (word.Structure k ∷ ws) rest e = refl
extent_append es n (word.Const ∷ ws) rest e = extent_append es n ws rest (right (not (is_array ws)) _ e)
extent_append es n (word.Takes ∷ ws) rest e = refl
extent_append es n (word.Gives ∷ ws) rest e = refl

fits_append : (es : Structures) (w : TypeWord) (n : ℕ) (ws rest : List TypeWord) → is_spelled es (still w n) ws ≡ true
    → fits es w (ws ++ rest) ≡ fits es w ws
fits_append es word.Void n ws rest e = refl
fits_append es (word.Integer t) n ws rest e = refl
fits_append es (word.Enumeration k) n ws rest e = refl
fits_append es word.Pointer n ws rest e = refl
fits_append es (word.Array c b) n ws rest e = ap (has_bytes c b) (extent_append es n ws rest e)
fits_append es word.OpenArray n ws rest e = refl
fits_append es (word.Structure k) n ws rest e = refl
fits_append es word.Const n ws rest e = ap not (array_append es n ws rest e)
fits_append es word.Takes n ws rest e = refl
fits_append es word.Gives n ws rest e =
    ap (λ z. not z && not (is_array (ws ++ rest))) (function_append es n ws rest e)
    ∙ ap (λ z. not (is_function (unqualified ws)) && not z) (array_append es n ws rest e)

no_sum : (m n : ℕ) (P : Type 0) → 0 ≡ suc m + n → P
no_sum m n P e = absurd (omega (arith, e))

pub spelled_append : (es : Structures) (m n t : ℕ) → t ≡ m + n → (ws rest : List TypeWord)
    → is_spelled es m ws ≡ true → is_spelled es n rest ≡ true → is_spelled es t (ws ++ rest) ≡ true
spelled_append es zero n t sum [] rest e g = ap (λ z. is_spelled es z rest) (omega (arith, sum)) ∙ g
spelled_append es zero n t sum (w ∷ ws) rest e g = absurd cc
spelled_append es (suc m) n t sum [] rest e g = absurd cc
spelled_append es (suc m) n zero sum (w ∷ ws) rest e g = no_sum m n _ sum
spelled_append es (suc m) n (suc t) sum (w ∷ ws) rest e g =
    let behind = right (fits es w ws) (is_spelled es (still w m) ws) e in
    and_from (fits es w (ws ++ rest)) (is_spelled es (still w t) (ws ++ rest))
    (fits_append es w m ws rest behind ∙ left (fits es w ws) (is_spelled es (still w m) ws) e)
    (spelled_append es (still w m) n (still w t) (still_sum w m n t (omega (arith, sum))) ws rest behind g)

-- parts of a type

pub unqualified_spelled : (es : Structures) (n : ℕ) (ws : List TypeWord) → is_spelled es (suc n) ws ≡ true
    → is_spelled es (suc n) (unqualified ws) ≡ true
unqualified_spelled es n [] e = e
unqualified_spelled es n (word.Void ∷ ws) e = e
unqualified_spelled es n (word.Integer t ∷ ws) e = e
unqualified_spelled es n (word.Enumeration k ∷ ws) e = e
unqualified_spelled es n (word.Pointer ∷ ws) e = e
unqualified_spelled es n (word.Array c b ∷ ws) e = e
unqualified_spelled es n (word.OpenArray ∷ ws) e = e
unqualified_spelled es n (word.Structure k ∷ ws) e = e
unqualified_spelled es n (word.Const ∷ ws) e = unqualified_spelled es n ws (right (not (is_array ws)) _ e)
unqualified_spelled es n (word.Takes ∷ ws) e = e
unqualified_spelled es n (word.Gives ∷ ws) e = e

pub pointee_spelled : (es : Structures) (n : ℕ) (ws : List TypeWord) → is_spelled es (suc n) ws ≡ true
    → is_spelled es (suc n) (pointee_of ws) ≡ true
pointee_spelled es n [] e = e
pointee_spelled es n (word.Void ∷ ws) e = e
pointee_spelled es n (word.Integer t ∷ ws) e = e
pointee_spelled es n (word.Enumeration k ∷ ws) e = e
pointee_spelled es n (word.Pointer ∷ ws) e = e
pointee_spelled es n (word.Array c b ∷ ws) e = e
pointee_spelled es n (word.OpenArray ∷ ws) e = e
pointee_spelled es n (word.Structure k ∷ ws) e = e
pointee_spelled es n (word.Const ∷ ws) e = pointee_spelled es n ws (right (not (is_array ws)) _ e)
pointee_spelled es n (word.Takes ∷ ws) e = e
pointee_spelled es n (word.Gives ∷ ws) e = e

pub element_spelled : (es : Structures) (n : ℕ) (ws : List TypeWord) → is_spelled es (suc n) ws ≡ true
    → is_spelled es (suc n) (element_of ws) ≡ true
element_spelled es n [] e = e
element_spelled es n (word.Void ∷ ws) e = e
element_spelled es n (word.Integer t ∷ ws) e = e
element_spelled es n (word.Enumeration k ∷ ws) e = e
element_spelled es n (word.Pointer ∷ ws) e = e
element_spelled es n (word.Array c b ∷ ws) e = right (fits es (word.Array c b) ws) _ e
element_spelled es n (word.OpenArray ∷ ws) e = e
element_spelled es n (word.Structure k ∷ ws) e = e
element_spelled es n (word.Const ∷ ws) e = element_spelled es n ws (right (not (is_array ws)) _ e)
element_spelled es n (word.Takes ∷ ws) e = e
element_spelled es n (word.Gives ∷ ws) e = e

constant_extent : (es : Structures) (ws : List TypeWord) → extent_of es (constant ws) ≡ extent_of es ws
unfolding extent_of
constant_extent es [] = refl
constant_extent es (word.Void ∷ ws) = refl
constant_extent es (word.Integer t ∷ ws) = refl
constant_extent es (word.Enumeration k ∷ ws) = refl
constant_extent es (word.Pointer ∷ ws) = refl
constant_extent es (word.Array c b ∷ ws) = ap (option_map (array_extent b)) (constant_extent es ws)
constant_extent es (word.OpenArray ∷ ws) = refl
constant_extent es (word.Structure k ∷ ws) = refl
constant_extent es (word.Const ∷ ws) = refl
constant_extent es (word.Takes ∷ ws) = refl
constant_extent es (word.Gives ∷ ws) = refl

constant_spelled : (es : Structures) (n : ℕ) (ws : List TypeWord) → is_spelled es (suc n) ws ≡ true
    → is_spelled es (suc n) (constant ws) ≡ true
constant_spelled es n [] e = absurd cc
constant_spelled es n (word.Void ∷ ws) e = e
constant_spelled es n (word.Integer t ∷ ws) e = e
constant_spelled es n (word.Enumeration k ∷ ws) e = e
constant_spelled es n (word.Pointer ∷ ws) e = e
constant_spelled es n (word.Array c b ∷ ws) e =
    and_from (has_bytes c b (extent_of es (constant ws))) (is_spelled es (suc n) (constant ws))
    (ap (has_bytes c b) (constant_extent es ws)
    ∙ left (has_bytes c b (extent_of es ws)) (is_spelled es (suc n) ws) e)
    (constant_spelled es n ws (right (has_bytes c b (extent_of es ws)) _ e))
constant_spelled es n (word.OpenArray ∷ ws) e = constant_spelled es n ws e
constant_spelled es n (word.Structure k ∷ ws) e = e
constant_spelled es n (word.Const ∷ ws) e = e
constant_spelled es n (word.Takes ∷ ws) e = e
constant_spelled es n (word.Gives ∷ ws) e = e

pub qualified_spelled : (es : Structures) (b : Bool) (ws : List TypeWord) → is_spelled es 1 ws ≡ true
    → is_spelled es 1 (qualified b ws) ≡ true
qualified_spelled es true ws e = constant_spelled es 0 ws e
qualified_spelled es false ws e = e

pub callee_spelled : (es : Structures) (ws : List TypeWord) → is_spelled es 1 ws ≡ true → (type : List TypeWord)
    → callee_type ws ≡ Some type → is_spelled es 1 type ≡ true
callee_spelled es [] e type g = absurd cc
callee_spelled es (word.Const ∷ ws) e type g = callee_spelled es ws (right (not (is_array ws)) _ e) type g
callee_spelled es (word.Pointer ∷ []) e type g = absurd cc
callee_spelled es (word.Pointer ∷ word.Takes ∷ ws) e type g = ap (is_spelled es 1) (sym (the_same g)) ∙ e
callee_spelled es (word.Pointer ∷ word.Gives ∷ ws) e type g = ap (is_spelled es 1) (sym (the_same g)) ∙ e
callee_spelled es (word.Pointer ∷ word.Void ∷ ws) e type g = absurd cc
callee_spelled es (word.Pointer ∷ word.Integer t ∷ ws) e type g = absurd cc
callee_spelled es (word.Pointer ∷ word.Enumeration t ∷ ws) e type g = absurd cc
callee_spelled es (word.Pointer ∷ word.Pointer ∷ ws) e type g = absurd cc
callee_spelled es (word.Pointer ∷ word.Array c b ∷ ws) e type g = absurd cc
callee_spelled es (word.Pointer ∷ word.OpenArray ∷ ws) e type g = absurd cc
callee_spelled es (word.Pointer ∷ word.Structure k ∷ ws) e type g = absurd cc
callee_spelled es (word.Pointer ∷ word.Const ∷ ws) e type g = absurd cc
callee_spelled es (word.Void ∷ ws) e type g = absurd cc
callee_spelled es (word.Integer t ∷ ws) e type g = absurd cc
callee_spelled es (word.Enumeration k ∷ ws) e type g = absurd cc
callee_spelled es (word.Array c b ∷ ws) e type g = absurd cc
callee_spelled es (word.OpenArray ∷ ws) e type g = absurd cc
callee_spelled es (word.Structure k ∷ ws) e type g = absurd cc
callee_spelled es (word.Takes ∷ ws) e type g = absurd cc
callee_spelled es (word.Gives ∷ ws) e type g = absurd cc

-- the result of a function, unless there is none
pub result_spelled : (es : Structures) (n : ℕ) (ws : List TypeWord) → is_spelled es (suc n) ws ≡ true
    → (w : TypeWord) (r : List TypeWord) → result_type n ws ≡ w ∷ r → is_spelled es 1 (result_type n ws) ≡ true
result_spelled es n [] e w r g = absurd cc
result_spelled es zero (word.Gives ∷ ws) e w r g =
    right (not (is_function (unqualified ws)) && not (is_array ws)) _ e
result_spelled es zero (word.Takes ∷ ws) e w r g = result_spelled es 1 ws e w r g
result_spelled es zero (word.Void ∷ ws) e w r g = absurd cc
result_spelled es zero (word.Integer t ∷ ws) e w r g = absurd cc
result_spelled es zero (word.Enumeration k ∷ ws) e w r g = absurd cc
result_spelled es zero (word.Pointer ∷ ws) e w r g = absurd cc
result_spelled es zero (word.Array c b ∷ ws) e w r g = absurd cc
result_spelled es zero (word.OpenArray ∷ ws) e w r g = absurd cc
result_spelled es zero (word.Structure k ∷ ws) e w r g = absurd cc
result_spelled es zero (word.Const ∷ ws) e w r g = absurd cc
result_spelled es (suc n) (v ∷ ws) e w r g =
    result_spelled es (still v n) ws
    (ap (λ z. is_spelled es z ws) (sym (still_more v n)) ∙ right (fits es v ws) _ e) w r g

-- values of structures and unions

pub unqualified_readable : (es : Structures) (ws : List TypeWord) → is_readable es ws ≡ true
    → is_readable es (unqualified ws) ≡ true
unqualified_readable es [] e = e
unqualified_readable es (word.Void ∷ ws) e = e
unqualified_readable es (word.Integer t ∷ ws) e = e
unqualified_readable es (word.Enumeration k ∷ ws) e = e
unqualified_readable es (word.Pointer ∷ ws) e = e
unqualified_readable es (word.Array c b ∷ ws) e = e
unqualified_readable es (word.OpenArray ∷ ws) e = e
unqualified_readable es (word.Structure k ∷ ws) e = e
unqualified_readable es (word.Const ∷ ws) e = unqualified_readable es ws e
unqualified_readable es (word.Takes ∷ ws) e = e
unqualified_readable es (word.Gives ∷ ws) e = e

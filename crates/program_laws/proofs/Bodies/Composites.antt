-- Composite types spell the signatures of the types that they are composed of (C99 6.2.7).
use Rattle.std.proofs.Common.{◌≡◌, ℕ, zero, suc, Bool, true, false, ◌&&◌, refl, sym, ap, ◌∙◌, subst, List, [], ◌∷◌}
use Rattle.std.proofs.Common.{Some, None}
use Rattle.std.proofs.lemmas.Bool.{true≢false}
use Rattle.c_tree.specs.declared.c_type.TypeWord.{TypeWord}
use Rattle.c_tree.specs.declared.c_type.TypeWord.TheVariants as word
use Rattle.c_tree.specs.declared.expression.Kind.{Kind}
use Rattle.c_tree.specs.TypesAgree.{agrees, behind_types, gives_kind, is_end, is_kind_of, kind_of_type}
use Rattle.c_tree.specs.TypesAgree.{still}
use Rattle.c_tree.specs.TypesAgree.{takes_kind}
use Rattle.c_scope.specs.Composite.{composite}
use Rattle.typing_laws.specs.Validity.Steps.{Structures}
use Rattle.typing_laws.proofs.SpelledTypes.Composites.{IsJoint, alike, composite_nothing, first_sized, joins}
use Rattle.typing_laws.proofs.SpelledTypes.Composites.{none_first, none_second, second_sized}

-- words that differ in the sizes of arrays alone

abbrev pub is_array_word : TypeWord → Bool
is_array_word (word.Array count bytes) = true
is_array_word word.OpenArray = true
is_array_word w = false

pub data IsAlike (v w : TypeWord) : Type 0 where
  same_word : v ≡ w → IsAlike v w
  both_arrays : is_array_word v ≡ true → is_array_word w ≡ true → IsAlike v w

abbrev pub AreAlike : List TypeWord → List TypeWord → Type 0
AreAlike [] [] = Unit {0}
AreAlike [] (w ∷ ws) = true ≡ false
AreAlike (v ∷ vs) [] = true ≡ false
AreAlike (v ∷ vs) (w ∷ ws) = IsAlike v w × AreAlike vs ws

array_still : (w : TypeWord) → is_array_word w ≡ true → (n : ℕ) → still w n ≡ suc n
array_still word.Void e n = absurd cc
array_still (word.Integer x) e n = absurd cc
array_still (word.Enumeration x) e n = absurd cc
array_still word.Pointer e n = absurd cc
array_still (word.Array x y) e n = refl
array_still word.OpenArray e n = refl
array_still (word.Structure x) e n = absurd cc
array_still word.Const e n = absurd cc
array_still word.Takes e n = absurd cc
array_still word.Gives e n = absurd cc

array_kind : (es : Structures) (w : TypeWord) (ws : List TypeWord) → is_array_word w ≡ true
    → kind_of_type es (w ∷ ws) ≡ None
array_kind es word.Void ws e = absurd cc
array_kind es (word.Integer x) ws e = absurd cc
array_kind es (word.Enumeration x) ws e = absurd cc
array_kind es word.Pointer ws e = absurd cc
array_kind es (word.Array x y) ws e = refl
array_kind es word.OpenArray ws e = refl
array_kind es (word.Structure x) ws e = absurd cc
array_kind es word.Const ws e = absurd cc
array_kind es word.Takes ws e = absurd cc
array_kind es word.Gives ws e = absurd cc

array_gives : (es : Structures) (w : TypeWord) (ws : List TypeWord) (k : Kind) → is_array_word w ≡ true
    → gives_kind es (w ∷ ws) k ≡ false
array_gives es word.Void ws k e = absurd cc
array_gives es (word.Integer x) ws k e = absurd cc
array_gives es (word.Enumeration x) ws k e = absurd cc
array_gives es word.Pointer ws k e = absurd cc
array_gives es (word.Array x y) ws k e = refl
array_gives es word.OpenArray ws k e = refl
array_gives es (word.Structure x) ws k e = absurd cc
array_gives es word.Const ws k e = absurd cc
array_gives es word.Takes ws k e = absurd cc
array_gives es word.Gives ws k e = absurd cc

array_takes : (es : Structures) (w : TypeWord) (ws : List TypeWord) (k : Kind) → is_array_word w ≡ true
    → takes_kind es (w ∷ ws) k ≡ false
array_takes es word.Void ws k e = absurd cc
array_takes es (word.Integer x) ws k e = absurd cc
array_takes es (word.Enumeration x) ws k e = absurd cc
array_takes es word.Pointer ws k e = absurd cc
array_takes es (word.Array x y) ws k e = refl
array_takes es word.OpenArray ws k e = refl
array_takes es (word.Structure x) ws k e = absurd cc
array_takes es word.Const ws k e = absurd cc
array_takes es word.Takes ws k e = absurd cc
array_takes es word.Gives ws k e = absurd cc

still_alike : (v w : TypeWord) → IsAlike v w → (n : ℕ) → still v n ≡ still w n
still_alike v w (same_word e) n = ap (λ z. still z n) e
still_alike v w (both_arrays e g) n = array_still v e n ∙ sym (array_still w g n)

behind_alike : (n : ℕ) (vs ws : List TypeWord) → AreAlike vs ws → AreAlike (behind_types n vs) (behind_types n ws)
behind_alike zero vs ws h = h
behind_alike (suc n) [] [] h = tt
behind_alike (suc n) [] (w ∷ ws) h = absurd (true≢false h)
behind_alike (suc n) (v ∷ vs) [] h = absurd (true≢false h)
behind_alike (suc n) (v ∷ vs) (w ∷ ws) h =
    subst (λ k. AreAlike (behind_types (still v n) vs) (behind_types k ws)) (still_alike v w h.0 n)
    (behind_alike (still v n) vs ws h.1)

same_kinds : (es : Structures) (w : TypeWord) (vs ws : List TypeWord)
    → kind_of_type es vs ≡ kind_of_type es ws → kind_of_type es (w ∷ vs) ≡ kind_of_type es (w ∷ ws)
same_kinds es word.Void vs ws h = refl
same_kinds es (word.Integer x) vs ws h = refl
same_kinds es (word.Enumeration x) vs ws h = refl
same_kinds es word.Pointer vs ws h = refl
same_kinds es (word.Array x y) vs ws h = refl
same_kinds es word.OpenArray vs ws h = refl
same_kinds es (word.Structure x) vs ws h = refl
same_kinds es word.Const vs ws h = h
same_kinds es word.Takes vs ws h = refl
same_kinds es word.Gives vs ws h = refl

kind_alike : (es : Structures) (vs ws : List TypeWord) → AreAlike vs ws → kind_of_type es vs ≡ kind_of_type es ws
kind_alike es [] [] h = refl
kind_alike es [] (w ∷ ws) h = absurd cc
kind_alike es (v ∷ vs) [] h = absurd cc
kind_alike es (v ∷ vs) (w ∷ ws) h = by h.0 (kind_alike es vs ws h.1)
  where
    by : IsAlike v w → kind_of_type es vs ≡ kind_of_type es ws → kind_of_type es (v ∷ vs) ≡ kind_of_type es (w ∷ ws)
    by (same_word e) g = ap (λ z. kind_of_type es (z ∷ vs)) e ∙ same_kinds es w vs ws g
    by (both_arrays e f) g = array_kind es v vs e ∙ sym (array_kind es w ws f)

end_alike : (vs ws : List TypeWord) → AreAlike vs ws → is_end vs ≡ is_end ws
end_alike [] [] h = refl
end_alike [] (w ∷ ws) h = absurd cc
end_alike (v ∷ vs) [] h = absurd cc
end_alike (v ∷ vs) (w ∷ ws) h = refl

both_same : (a b c d : Bool) → a ≡ c → b ≡ d → (a && b) ≡ (c && d)
both_same a b c d e g = ap (λ z. z && b) e ∙ ap (λ z. c && z) g

same_gives : (es : Structures) (w : TypeWord) (vs ws : List TypeWord) (k : Kind) → AreAlike vs ws
    → gives_kind es (w ∷ vs) k ≡ gives_kind es (w ∷ ws) k
same_gives es word.Void vs ws k h = refl
same_gives es (word.Integer x) vs ws k h = refl
same_gives es (word.Enumeration x) vs ws k h = refl
same_gives es word.Pointer vs ws k h = refl
same_gives es (word.Array x y) vs ws k h = refl
same_gives es word.OpenArray vs ws k h = refl
same_gives es (word.Structure x) vs ws k h = refl
same_gives es word.Const vs ws k h = refl
same_gives es word.Takes vs ws k h = refl
same_gives es word.Gives vs ws k h =
    both_same (is_kind_of (kind_of_type es vs) k) (is_end (behind_types 1 vs)) (is_kind_of (kind_of_type es ws) k)
    (is_end (behind_types 1 ws)) (ap (λ o. is_kind_of o k) (kind_alike es vs ws h))
    (end_alike (behind_types 1 vs) (behind_types 1 ws) (behind_alike 1 vs ws h))

same_takes : (es : Structures) (w : TypeWord) (vs ws : List TypeWord) (k : Kind) → AreAlike vs ws
    → takes_kind es (w ∷ vs) k ≡ takes_kind es (w ∷ ws) k
same_takes es word.Void vs ws k h = refl
same_takes es (word.Integer x) vs ws k h = refl
same_takes es (word.Enumeration x) vs ws k h = refl
same_takes es word.Pointer vs ws k h = refl
same_takes es (word.Array x y) vs ws k h = refl
same_takes es word.OpenArray vs ws k h = refl
same_takes es (word.Structure x) vs ws k h = refl
same_takes es word.Const vs ws k h = refl
same_takes es word.Takes vs ws k h = ap (λ o. is_kind_of o k) (kind_alike es vs ws h)
same_takes es word.Gives vs ws k h = refl

pub agrees_alike : (es : Structures) (vs ws : List TypeWord) → AreAlike vs ws → (ks : List Kind) (k : Kind)
    → agrees es vs ks k ≡ agrees es ws ks k
agrees_alike es [] [] h [] k = refl
agrees_alike es [] (w ∷ ws) h ks k = absurd cc
agrees_alike es (v ∷ vs) [] h ks k = absurd cc
agrees_alike es [] [] h (j ∷ ks) k = refl
agrees_alike es (v ∷ vs) (w ∷ ws) h [] k = by h.0
  where
    by : IsAlike v w → gives_kind es (v ∷ vs) k ≡ gives_kind es (w ∷ ws) k
    by (same_word e) = ap (λ z. gives_kind es (z ∷ vs) k) e ∙ same_gives es w vs ws k h.1
    by (both_arrays e f) = array_gives es v vs k e ∙ sym (array_gives es w ws k f)
agrees_alike es (v ∷ vs) (w ∷ ws) h (j ∷ ks) k =
    both_same (takes_kind es (v ∷ vs) j) (agrees es (behind_types 1 vs) ks k) (takes_kind es (w ∷ ws) j)
    (agrees es (behind_types 1 ws) ks k) (by h.0)
    (agrees_alike es (behind_types 1 vs) (behind_types 1 ws) (behind_alike 1 vs ws h.1) ks k)
  where
    by : IsAlike v w → takes_kind es (v ∷ vs) j ≡ takes_kind es (w ∷ ws) j
    by (same_word e) = ap (λ z. takes_kind es (z ∷ vs) j) e ∙ same_takes es w vs ws j h.1
    by (both_arrays e f) = array_takes es v vs j e ∙ sym (array_takes es w ws j f)

-- composite types

joint_alike : (v w c : TypeWord) → IsJoint v w c → IsAlike c w
joint_alike v w c (alike e g) = same_word (g ∙ e)
joint_alike v w c (first_sized n b e g h) = both_arrays (ap is_array_word (h ∙ e)) (ap is_array_word g)
joint_alike v w c (second_sized n b e g h) = same_word h

composite_alike : (s t c : List TypeWord) → composite s t ≡ Some c → AreAlike c t
composite_alike [] [] c e = subst (λ z. AreAlike z []) (sym (composite_nothing c e)) tt
composite_alike [] (w ∷ t) c e = none_first w t c _ e
composite_alike (v ∷ s) [] c e = none_second v s c _ e
composite_alike (v ∷ s) (w ∷ t) c e =
    let j = joins v s w t c e in
    subst (λ z. AreAlike z (w ∷ t)) (sym j.is)
    (joint_alike v w j.first j.joint, composite_alike s t j.rest j.behind)

-- a composite type spells what the types that it is composed of spell
pub composite_agrees : (es : Structures) (s t c : List TypeWord) → composite s t ≡ Some c → (ks : List Kind) (k : Kind)
    → agrees es c ks k ≡ agrees es t ks k
composite_agrees es s t c e ks k = agrees_alike es c t (composite_alike s t c e) ks k

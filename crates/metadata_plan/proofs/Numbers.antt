-- Lists and registers.
use Rattle.std.proofs.Common.{◌≡◌, ℕ, zero, suc, ◌*◌, ◌<◌, ◌≤◌, max, refl, ap, ◌∙◌, arith, true}
use Rattle.std.proofs.Common.{false, not, ◌&&◌, List, [], ◌∷◌, ◌++◌, Some, length}
use Rattle.std.proofs.Common.{le_trans, mul-le-mul_left}
use Rattle.std.specs.Prelude.{slice_get}
use Rattle.std.proofs.lemmas.Bool.{and_parts, not-true}
use Rattle.obj_memory.specs.declared.value.Scalar.TheVariants.{Integer, Pointer}
use Rattle.c_tree.specs.declared.expression.Kind.{Kind}
use Rattle.c_tree.specs.declared.expression.Kind.TheVariants.{Void, Scalar as OfScalar, Structure, Array}
use Rattle.c_tree.specs.declared.program.Variable.{Variable}
use Rattle.tac_ir.specs.declared.instruction.Instruction.{Instruction}
use Rattle.tac_ir.specs.Temporaries.{temporaries}
use Rattle.metadata_plan.specs.Registers.{words_of, words_in, register_of, most_temporaries}
use Rattle.metadata_plan.specs.Part.{is_integer_kind, are_integers}

-- ---- temporaries

max_left : (a b : ℕ) → a ≤ max a b
max_left a b = omega arith

max_right : (a b : ℕ) → b ≤ max a b
max_right a b = omega arith

pub most_at : (is : List Instruction) (n : ℕ) (i : Instruction) → slice_get is n ≡ Some i
    → temporaries i ≤ most_temporaries is
most_at [] n i e = cc
most_at (x ∷ is) zero i e =
    let same : x ≡ i = cc in
    let a : temporaries x ≡ temporaries i = ap temporaries same in
    omega (arith, max_left (temporaries x) (most_temporaries is))
most_at (x ∷ is) (suc n) i e = omega (arith, most_at is n i e, max_right (temporaries x) (most_temporaries is))

-- what is no more than so much for each of at most two is no more than that for two
pub scaled : (a b w : ℕ) → w ≤ a * b → b ≤ 2 → w ≤ a * 2
scaled a b w le small = le_trans le (mul-le-mul_left a small)

-- ---- variables that are integers

-- an integer takes one word
pub one_word : (k : Kind) → is_integer_kind k ≡ true → words_of k ≡ 1
one_word Void e = cc
one_word (OfScalar (Integer t)) e = refl
one_word (OfScalar Pointer) e = cc
one_word (Structure n) e = cc
one_word (Array n) e = cc

-- a value takes at most five words, and so do variables each
pub most_words_of : (k : Kind) → words_of k ≤ 5
most_words_of Void = omega arith
most_words_of (OfScalar (Integer t)) = omega arith
most_words_of (OfScalar Pointer) = omega arith
most_words_of (Structure n) = omega arith
most_words_of (Array n) = omega arith

pub words_most : (vs : List Variable) → words_in vs ≤ 5 * length vs
words_most [] = omega arith
words_most (v ∷ vs) = omega (arith, most_words_of v.kind, words_most vs)

pub is_integer_variable : (v : Variable) (vs : List Variable) → are_integers (v ∷ vs) ≡ true
    → (v.is_object ≡ false) × (words_of v.kind ≡ 1) × (are_integers vs ≡ true)
is_integer_variable v vs e =
    let a = and_parts (not v.is_object && is_integer_kind v.kind) (are_integers vs) e in
    let b = and_parts (not v.is_object) (is_integer_kind v.kind) a.0 in
    (not-true v.is_object b.0, one_word v.kind b.1, a.1)

pub integers_words : (vs : List Variable) → are_integers vs ≡ true → words_in vs ≡ length vs
integers_words [] e = refl
integers_words (v ∷ vs) e =
    let h = is_integer_variable v vs e in
    omega (arith, h.1, integers_words vs h.2)

pub integers_register : (vs : List Variable) (x : ℕ) → are_integers vs ≡ true → x < length vs → register_of vs x ≡ x
integers_register [] x e lt = absurd (omega arith)
integers_register (v ∷ vs) zero e lt = refl
integers_register (v ∷ vs) (suc x) e lt =
    let h = is_integer_variable v vs e in
    omega (arith, h.1, integers_register vs x h.2 (omega arith))

pub integers_front : (vs ws : List Variable) → are_integers (vs ++ ws) ≡ true → are_integers vs ≡ true
integers_front [] ws e = refl
integers_front (v ∷ vs) ws e =
    let a = and_parts (not v.is_object && is_integer_kind v.kind) (are_integers (vs ++ ws)) e in
    ap (λ b. b && are_integers vs) a.0 ∙ integers_front vs ws a.1

pub integers_back : (vs ws : List Variable) → are_integers (vs ++ ws) ≡ true → are_integers ws ≡ true
integers_back [] ws e = e
integers_back (v ∷ vs) ws e =
    integers_back vs ws (and_parts (not v.is_object && is_integer_kind v.kind) (are_integers (vs ++ ws)) e).1

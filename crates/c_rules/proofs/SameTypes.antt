-- Types whose words are the same are equal.
use Rattle.std.proofs.Common.{◌≡◌, ℕ, Bool, true, false, List, [], ◌∷◌, refl, ap}
use Rattle.std.specs.Prelude.{◌&&◌, ◌==◌}
use Rattle.std.proofs.lemmas.Bool.{eqb-true}
use Rattle.c_tree.specs.declared.c_type.TypeWord.{TypeWord}
use Rattle.c_tree.specs.declared.c_type.TypeWord.TheVariants as word
use Rattle.c_tree.specs.TypesAgree.{same_word, same_words}
use Rattle.c_rules.proofs.TypeKinds.{same_int}

pub both_true : (a b : Bool) → (a && b) ≡ true → (a ≡ true) × (b ≡ true)
both_true true b e = (refl, e)
both_true false b e = absurd cc

same_array : (m n s t : ℕ) → m ≡ n → s ≡ t → word.Array m s ≡ word.Array n t
same_array m n s t e f = cc

word_is : (v w : TypeWord) → same_word v w ≡ true → v ≡ w
word_is word.Void word.Void e = refl
word_is (word.Integer s) (word.Integer t) e = ap word.Integer (same_int s t e)
word_is (word.Enumeration m) (word.Enumeration n) e = ap word.Enumeration (eqb-true m n e)
word_is word.Pointer word.Pointer e = refl
word_is (word.Array m s) (word.Array n t) e =
    let both = both_true (m == n) (s == t) e in
    same_array m n s t (eqb-true m n both.0) (eqb-true s t both.1)
word_is word.OpenArray word.OpenArray e = refl
word_is (word.Structure m) (word.Structure n) e = ap word.Structure (eqb-true m n e)
word_is word.Const word.Const e = refl
word_is word.Takes word.Takes e = refl
word_is word.Gives word.Gives e = refl
word_is _ _ e = absurd cc

same_pair : (v w : TypeWord) (vs ws : List TypeWord) → v ≡ w → vs ≡ ws → (v ∷ vs) ≡ (w ∷ ws)
same_pair v w vs ws e f = cc

pub words_are : (vs ws : List TypeWord) → same_words vs ws ≡ true → vs ≡ ws
words_are [] [] e = refl
words_are [] (w ∷ ws) e = absurd cc
words_are (v ∷ vs) [] e = absurd cc
words_are (v ∷ vs) (w ∷ ws) e =
    let both = both_true (same_word v w) (same_words vs ws) e in
    same_pair v w vs ws (word_is v w both.0) (words_are vs ws both.1)

-- Composite types (C99 6.2.7) are spelled as the types that they are made of.
use Rattle.std.proofs.Common.{◌≡◌, ℕ, zero, suc, Bool, true, false, ◌&&◌, refl, sym, ap, ◌∙◌, List, [], ◌∷◌}
use Rattle.std.proofs.Common.{Option, Some, None, if◌then◌else◌}
use Rattle.std.proofs.lemmas.Bool.{and_from}
use Rattle.std.specs.Prelude.{not}
use Rattle.c_tree.specs.declared.c_type.TypeWord.{TypeWord}
use Rattle.c_tree.specs.declared.c_type.TypeWord.TheVariants as word
use Rattle.c_tree.specs.Extents.{TypeExtent, extent_of}
use Rattle.c_tree.specs.TypesAgree.{same_words, still}
use Rattle.c_rules.specs.Types.{unqualified}
use Rattle.c_rules.proofs.SameTypes.{words_are}
use Rattle.c_scope.specs.Composite.{composite, joined, joint}
use Rattle.c_scope.specs.Declaring.{is_function}
use Rattle.c_declarators.specs.Derivations.{is_array}
use Rattle.typing_laws.proofs.Validity.Common.{first as left, no_value as none_is, second as right, the_same}
use Rattle.typing_laws.proofs.Validity.Kept.{array_kept}
use Rattle.typing_laws.specs.Validity.Steps.{Structures}
use Rattle.typing_laws.specs.SpelledTypes.Spelled.{fits, is_spelled}
use Rattle.typing_laws.proofs.Layouts.Arrays.{bytes_kept}

-- the words of a composite: those of both, but for the size of an array that one leaves open
pub data IsJoint (v w x : TypeWord) : Type 0 where
  alike : v ≡ w → x ≡ v → IsJoint v w x
  first_sized : (count bytes : ℕ) → v ≡ word.Array count bytes → w ≡ word.OpenArray → x ≡ v → IsJoint v w x
  second_sized : (count bytes : ℕ) → v ≡ word.OpenArray → w ≡ word.Array count bytes → x ≡ w → IsJoint v w x

pub first_is : {v w : TypeWord} {s t : List TypeWord} → v ∷ s ≡ w ∷ t → v ≡ w
first_is e = cc

alike_by : (v w x : TypeWord) (b : Bool) → same_words (v ∷ []) (w ∷ []) ≡ b → (if b then Some v else None) ≡ Some x
    → IsJoint v w x
alike_by v w x true e g = alike (first_is (words_are (v ∷ []) (w ∷ []) e)) (sym (the_same g))
alike_by v w x false e g = absurd cc

pub joint_is : (v w x : TypeWord) → joint v w ≡ Some x → IsJoint v w x
joint_is word.OpenArray (word.Array c b) x e = second_sized c b refl refl (sym (the_same e))
joint_is word.OpenArray word.Void x e = alike_by _ _ x _ refl e
joint_is word.OpenArray (word.Integer t) x e = alike_by _ _ x _ refl e
joint_is word.OpenArray (word.Enumeration k) x e = alike_by _ _ x _ refl e
joint_is word.OpenArray word.Pointer x e = alike_by _ _ x _ refl e
joint_is word.OpenArray word.OpenArray x e = alike_by _ _ x _ refl e
joint_is word.OpenArray (word.Structure k) x e = alike_by _ _ x _ refl e
joint_is word.OpenArray word.Const x e = alike_by _ _ x _ refl e
joint_is word.OpenArray word.Takes x e = alike_by _ _ x _ refl e
joint_is word.OpenArray word.Gives x e = alike_by _ _ x _ refl e
joint_is (word.Array c b) word.OpenArray x e = first_sized c b refl refl (sym (the_same e))
joint_is (word.Array c b) (word.Array d z) x e = alike_by _ _ x _ refl e
joint_is (word.Array c b) word.Void x e = alike_by _ _ x _ refl e
joint_is (word.Array c b) (word.Integer t) x e = alike_by _ _ x _ refl e
joint_is (word.Array c b) (word.Enumeration k) x e = alike_by _ _ x _ refl e
joint_is (word.Array c b) word.Pointer x e = alike_by _ _ x _ refl e
joint_is (word.Array c b) (word.Structure k) x e = alike_by _ _ x _ refl e
joint_is (word.Array c b) word.Const x e = alike_by _ _ x _ refl e
joint_is (word.Array c b) word.Takes x e = alike_by _ _ x _ refl e
joint_is (word.Array c b) word.Gives x e = alike_by _ _ x _ refl e
joint_is word.Void w x e = alike_by word.Void w x _ refl e
joint_is (word.Integer t) w x e = alike_by (word.Integer t) w x _ refl e
joint_is (word.Enumeration k) w x e = alike_by (word.Enumeration k) w x _ refl e
joint_is word.Pointer w x e = alike_by word.Pointer w x _ refl e
joint_is (word.Structure k) w x e = alike_by (word.Structure k) w x _ refl e
joint_is word.Const w x e = alike_by word.Const w x _ refl e
joint_is word.Takes w x e = alike_by word.Takes w x _ refl e
joint_is word.Gives w x e = alike_by word.Gives w x _ refl e

pub record Joins (v : TypeWord) (s : List TypeWord) (w : TypeWord) (t c : List TypeWord) : Type 0 where
  pub first : TypeWord
  pub rest : List TypeWord
  pub is : c ≡ first ∷ rest
  pub joint : IsJoint v w first
  pub behind : composite s t ≡ Some rest

joins_by : (v : TypeWord) (s : List TypeWord) (w : TypeWord) (t c : List TypeWord) (x : Option TypeWord)
    (r : Option (List TypeWord)) → joint v w ≡ x → composite s t ≡ r → joined x r ≡ Some c → Joins v s w t c
joins_by v s w t c None r e g h = absurd cc
joins_by v s w t c (Some x) None e g h = absurd cc
joins_by v s w t c (Some x) (Some r) e g h =
    record { first = x; rest = r; is = sym (the_same h); joint = joint_is v w x e; behind = g }

pub joins : (v : TypeWord) (s : List TypeWord) (w : TypeWord) (t c : List TypeWord)
    → composite (v ∷ s) (w ∷ t) ≡ Some c → Joins v s w t c
unfolding composite
joins v s w t c e = joins_by v s w t c (joint v w) (composite s t) refl refl e

pub composite_nothing : (c : List TypeWord) → composite [] [] ≡ Some c → c ≡ []
unfolding composite
composite_nothing c e = sym (the_same e)

pub none_first : (w : TypeWord) (t c : List TypeWord) (P : Type 0) → composite [] (w ∷ t) ≡ Some c → P
unfolding composite
none_first w t c P e = absurd cc

pub none_second : (v : TypeWord) (s c : List TypeWord) (P : Type 0) → composite (v ∷ s) [] ≡ Some c → P
unfolding composite
none_second v s c P e = absurd cc

-- the first word

abbrev Heads : (test : List TypeWord → Bool) → Type 0
Heads test = (v w : TypeWord) (s t c : List TypeWord) (x : TypeWord) → IsJoint v w x
    → (test (x ∷ c) ≡ test (v ∷ s)) × (test (x ∷ c) ≡ test (w ∷ t))

function_head : (v : TypeWord) (s t : List TypeWord) → is_function (unqualified s) ≡ is_function (unqualified t)
    → is_function (unqualified (v ∷ s)) ≡ is_function (unqualified (v ∷ t))
function_head word.Void s t h = refl
function_head (word.Integer i) s t h = refl
function_head (word.Enumeration k) s t h = refl
function_head word.Pointer s t h = refl
function_head (word.Array c b) s t h = refl
function_head word.OpenArray s t h = refl
function_head (word.Structure k) s t h = refl
function_head word.Const s t h = h
function_head word.Takes s t h = refl
function_head word.Gives s t h = refl

array_head : (v : TypeWord) (s t : List TypeWord) → is_array (v ∷ s) ≡ is_array (v ∷ t)
array_head word.Void s t = refl
array_head (word.Integer i) s t = refl
array_head (word.Enumeration k) s t = refl
array_head word.Pointer s t = refl
array_head (word.Array c b) s t = refl
array_head word.OpenArray s t = refl
array_head (word.Structure k) s t = refl
array_head word.Const s t = refl
array_head word.Takes s t = refl
array_head word.Gives s t = refl

joint_function : (v w x : TypeWord) (s c : List TypeWord) → IsJoint v w x
    → is_function (unqualified c) ≡ is_function (unqualified s)
    → is_function (unqualified (x ∷ c)) ≡ is_function (unqualified (v ∷ s))
joint_function v w x s c (alike e g) is = ap (λ z. is_function (unqualified (z ∷ c))) g ∙ function_head v c s is
joint_function v w x s c (first_sized n b e g h) is =
    ap (λ z. is_function (unqualified (z ∷ c))) h ∙ function_head v c s is
joint_function v w x s c (second_sized n b e g h) is =
    ap (λ z. is_function (unqualified (z ∷ c))) (h ∙ g) ∙ sym (ap (λ z. is_function (unqualified (z ∷ s))) e)

joint_array : (v w x : TypeWord) (s c : List TypeWord) → IsJoint v w x → is_array (x ∷ c) ≡ is_array (v ∷ s)
joint_array v w x s c (alike e g) = ap (λ z. is_array (z ∷ c)) g ∙ array_head v c s
joint_array v w x s c (first_sized n b e g h) = ap (λ z. is_array (z ∷ c)) h ∙ array_head v c s
joint_array v w x s c (second_sized n b e g h) =
    ap (λ z. is_array (z ∷ c)) (h ∙ g) ∙ sym (ap (λ z. is_array (z ∷ s)) e)

joint_still : (v w x : TypeWord) (n : ℕ) → IsJoint v w x → still x n ≡ still v n
joint_still v w x n (alike e g) = ap (λ z. still z n) g
joint_still v w x n (first_sized c b e g h) = ap (λ z. still z n) h
joint_still v w x n (second_sized c b e g h) = ap (λ z. still z n) (h ∙ g) ∙ sym (ap (λ z. still z n) e)

second_still : (v w : TypeWord) (x : TypeWord) (n : ℕ) → IsJoint v w x → still w n ≡ still v n
second_still v w x n (alike e g) = sym (ap (λ z. still z n) e)
second_still v w x n (first_sized c b e g h) = ap (λ z. still z n) g ∙ sym (ap (λ z. still z n) e)
second_still v w x n (second_sized c b e g h) = ap (λ z. still z n) g ∙ sym (ap (λ z. still z n) e)

pub composite_function : (s t c : List TypeWord) → composite s t ≡ Some c
    → is_function (unqualified c) ≡ is_function (unqualified s)
composite_function [] [] c e = ap (λ z. is_function (unqualified z)) (composite_nothing c e)
composite_function [] (w ∷ t) c e = none_first w t c _ e
composite_function (v ∷ s) [] c e = none_second v s c _ e
composite_function (v ∷ s) (w ∷ t) c e =
    let j = joins v s w t c e in
    ap (λ z. is_function (unqualified z)) j.is
    ∙ joint_function v w j.first s j.rest j.joint (composite_function s t j.rest j.behind)

pub composite_array : (s t c : List TypeWord) → composite s t ≡ Some c → is_array c ≡ is_array s
composite_array [] [] c e = ap is_array (composite_nothing c e)
composite_array [] (w ∷ t) c e = none_first w t c _ e
composite_array (v ∷ s) [] c e = none_second v s c _ e
composite_array (v ∷ s) (w ∷ t) c e =
    let j = joins v s w t c e in ap is_array j.is ∙ joint_array v w j.first s j.rest j.joint

-- extents: what is complete in one of both is so in the composite

no_open : (es : Structures) (s : List TypeWord) (x : TypeExtent) (P : Type 0)
    → extent_of es (word.OpenArray ∷ s) ≡ Some x → P
unfolding extent_of
no_open es s x P e = none_is x P e

-- behind the same word
pub extent_behind : (es : Structures) (v : TypeWord) (s c : List TypeWord)
    → ((y : TypeExtent) → extent_of es s ≡ Some y → extent_of es c ≡ Some y) → (x : TypeExtent)
    → extent_of es (v ∷ s) ≡ Some x → extent_of es (v ∷ c) ≡ Some x
unfolding extent_of
extent_behind es word.Void s c h x e = e
extent_behind es (word.Integer t) s c h x e = e
extent_behind es (word.Enumeration k) s c h x e = e
extent_behind es word.Pointer s c h x e = e
extent_behind es (word.Array n b) s c h x e = array_kept b (extent_of es s) (extent_of es c) x h e
extent_behind es word.OpenArray s c h x e = e
extent_behind es (word.Structure k) s c h x e = e
extent_behind es word.Const s c h x e = h x e
extent_behind es word.Takes s c h x e = e
extent_behind es word.Gives s c h x e = e

first_extent : (es : Structures) (v w x : TypeWord) (s c : List TypeWord) → IsJoint v w x
    → ((y : TypeExtent) → extent_of es s ≡ Some y → extent_of es c ≡ Some y) → (y : TypeExtent)
    → extent_of es (v ∷ s) ≡ Some y → extent_of es (x ∷ c) ≡ Some y
first_extent es v w x s c (alike e g) h y is = ap (λ z. extent_of es (z ∷ c)) g ∙ extent_behind es v s c h y is
first_extent es v w x s c (first_sized n b e g k) h y is =
    ap (λ z. extent_of es (z ∷ c)) k ∙ extent_behind es v s c h y is
first_extent es v w x s c (second_sized n b e g k) h y is =
    no_open es s y _ (sym (ap (λ z. extent_of es (z ∷ s)) e) ∙ is)

second_extent : (es : Structures) (v w x : TypeWord) (t c : List TypeWord) → IsJoint v w x
    → ((y : TypeExtent) → extent_of es t ≡ Some y → extent_of es c ≡ Some y) → (y : TypeExtent)
    → extent_of es (w ∷ t) ≡ Some y → extent_of es (x ∷ c) ≡ Some y
second_extent es v w x t c (alike e g) h y is =
    ap (λ z. extent_of es (z ∷ c)) (g ∙ e) ∙ extent_behind es w t c h y is
second_extent es v w x t c (first_sized n b e g k) h y is =
    no_open es t y _ (sym (ap (λ z. extent_of es (z ∷ t)) g) ∙ is)
second_extent es v w x t c (second_sized n b e g k) h y is =
    ap (λ z. extent_of es (z ∷ c)) k ∙ extent_behind es w t c h y is

pub composite_first : (es : Structures) (s t c : List TypeWord) → composite s t ≡ Some c → (y : TypeExtent)
    → extent_of es s ≡ Some y → extent_of es c ≡ Some y
composite_first es [] [] c e y is = ap (extent_of es) (composite_nothing c e) ∙ is
composite_first es [] (w ∷ t) c e y is = none_first w t c _ e
composite_first es (v ∷ s) [] c e y is = none_second v s c _ e
composite_first es (v ∷ s) (w ∷ t) c e y is =
    let j = joins v s w t c e in
    ap (extent_of es) j.is
    ∙ first_extent es v w j.first s j.rest j.joint (composite_first es s t j.rest j.behind) y is

pub composite_second : (es : Structures) (s t c : List TypeWord) → composite s t ≡ Some c → (y : TypeExtent)
    → extent_of es t ≡ Some y → extent_of es c ≡ Some y
composite_second es [] [] c e y is = ap (extent_of es) (composite_nothing c e) ∙ is
composite_second es [] (w ∷ t) c e y is = none_first w t c _ e
composite_second es (v ∷ s) [] c e y is = none_second v s c _ e
composite_second es (v ∷ s) (w ∷ t) c e y is =
    let j = joins v s w t c e in
    ap (extent_of es) j.is
    ∙ second_extent es v w j.first t j.rest j.joint (composite_second es s t j.rest j.behind) y is

-- what a word asks of those behind it

fits_behind : (es : Structures) (v : TypeWord) (s c : List TypeWord)
    → ((y : TypeExtent) → extent_of es s ≡ Some y → extent_of es c ≡ Some y) → is_array c ≡ is_array s
    → is_function (unqualified c) ≡ is_function (unqualified s) → fits es v s ≡ true → fits es v c ≡ true
fits_behind es word.Void s c h a f e = e
fits_behind es (word.Integer t) s c h a f e = e
fits_behind es (word.Enumeration k) s c h a f e = e
fits_behind es word.Pointer s c h a f e = e
fits_behind es (word.Array n b) s c h a f e = bytes_kept n b (extent_of es s) (extent_of es c) h e
fits_behind es word.OpenArray s c h a f e = e
fits_behind es (word.Structure k) s c h a f e = e
fits_behind es word.Const s c h a f e = ap not a ∙ e
fits_behind es word.Takes s c h a f e = e
fits_behind es word.Gives s c h a f e =
    ap (λ z. not z && not (is_array c)) f ∙ ap (λ z. not (is_function (unqualified s)) && not z) a ∙ e

fits_joint : (es : Structures) (v w x : TypeWord) (s t c : List TypeWord) → IsJoint v w x → composite s t ≡ Some c
    → fits es v s ≡ true → fits es w t ≡ true → fits es x c ≡ true
fits_joint es v w x s t c (alike e g) h p q =
    ap (λ z. fits es z c) g
    ∙ fits_behind es v s c (composite_first es s t c h) (composite_array s t c h) (composite_function s t c h) p
fits_joint es v w x s t c (first_sized n b e g k) h p q =
    ap (λ z. fits es z c) k
    ∙ fits_behind es v s c (composite_first es s t c h) (composite_array s t c h) (composite_function s t c h) p
fits_joint es v w x s t c (second_sized n b e g k) h p q =
    ap (λ z. fits es z c) (k ∙ g)
    ∙ bytes_kept n b (extent_of es t) (extent_of es c) (composite_second es s t c h)
    (sym (ap (λ z. fits es z t) g) ∙ q)

pub composite_spelled : (es : Structures) (n : ℕ) (s t c : List TypeWord) → composite s t ≡ Some c
    → is_spelled es n s ≡ true → is_spelled es n t ≡ true → is_spelled es n c ≡ true
composite_spelled es n [] [] c e p q = ap (is_spelled es n) (composite_nothing c e) ∙ p
composite_spelled es n [] (w ∷ t) c e p q = none_first w t c _ e
composite_spelled es n (v ∷ s) [] c e p q = none_second v s c _ e
composite_spelled es zero (v ∷ s) (w ∷ t) c e p q = absurd cc
composite_spelled es (suc n) (v ∷ s) (w ∷ t) c e p q =
    let j = joins v s w t c e in
    ap (is_spelled es (suc n)) j.is
    ∙ and_from (fits es j.first j.rest) (is_spelled es (still j.first n) j.rest)
    (fits_joint es v w j.first s t j.rest j.joint j.behind (left (fits es v s) _ p) (left (fits es w t) _ q))
    (ap (λ z. is_spelled es z j.rest) (joint_still v w j.first n j.joint)
    ∙ composite_spelled es (still v n) s t j.rest j.behind (right (fits es v s) _ p)
    (ap (λ z. is_spelled es z t) (sym (second_still v w j.first n j.joint)) ∙ right (fits es w t) _ q))

-- Tokens above a height of a vector.
use Rattle.std.proofs.Common.{◌≡◌, ℕ, zero, suc, ◌-◌, ◌≤◌, ◌<◌, List, [], ◌∷◌, ◌++◌, map, length}
use Rattle.std.proofs.Common.{take, drop, get_or, refl, sym, ap, ◌∙◌, append_assoc, length-drop, arith}
use Rattle.std.specs.List.{AllByRecursion}
use Rattle.c_pre.specs.declared.hide_set.HideSets.{HideSets}
use Rattle.c_pre.specs.declared.hiding.Hiding.{Hiding}
use Rattle.c_pre.specs.InnerFirst.{onto, inner_first}
use Rattle.c_pre.specs.Pending.{above, hiding, all_hiding, AreKnown}
use Rattle.c_pre.specs.SharedSets.{Grows}
use Rattle.c_pre.proofs.Sets.{still_known}
use Rattle.c_pre.proofs.Stacks.{length_inner}

drop_append : {A : Type 0} (n : ℕ) (xs ys : List A) → n ≤ length xs → drop n (xs ++ ys) ≡ drop n xs ++ ys
drop_append zero xs ys h = refl
drop_append (suc n) [] ys h = absurd (omega arith)
drop_append (suc n) (x ∷ xs) ys h = drop_append n xs ys (omega arith)

pub take_append : {A : Type 0} (n : ℕ) (xs ys : List A) → n ≤ length xs → take n (xs ++ ys) ≡ take n xs
take_append zero xs ys h = refl
take_append (suc n) [] ys h = absurd (omega arith)
take_append (suc n) (x ∷ xs) ys h = ap (λ l. x ∷ l) (take_append n xs ys (omega arith))

drop_all : {A : Type 0} (n : ℕ) (xs : List A) → length xs ≤ n → drop n xs ≡ []
drop_all zero [] h = refl
drop_all (suc n) [] h = refl
drop_all zero (x ∷ xs) h = absurd (omega arith)
drop_all (suc n) (x ∷ xs) h = drop_all n xs (omega arith)

pub take_all : {A : Type 0} (n : ℕ) (xs : List A) → length xs ≤ n → take n xs ≡ xs
take_all zero [] h = refl
take_all (suc n) [] h = refl
take_all zero (x ∷ xs) h = absurd (omega arith)
take_all (suc n) (x ∷ xs) h = ap (λ l. x ∷ l) (take_all n xs (omega arith))

pub take_and_drop : {A : Type 0} (n : ℕ) (xs : List A) → xs ≡ take n xs ++ drop n xs
take_and_drop zero xs = refl
take_and_drop (suc n) [] = refl
take_and_drop (suc n) (x ∷ xs) = ap (λ l. x ∷ l) (take_and_drop n xs)

pub take_take : {A : Type 0} (m n : ℕ) (xs : List A) → m ≤ n → take m (take n xs) ≡ take m xs
take_take zero n xs h = refl
take_take (suc m) zero xs h = absurd (omega arith)
take_take (suc m) (suc n) [] h = refl
take_take (suc m) (suc n) (x ∷ xs) h = ap (λ l. x ∷ l) (take_take m n xs (omega arith))

take_one : {A : Type 0} (n : ℕ) (xs : List A) (x : A) → x ≡ get_or xs n x → n < length xs
    → take (suc n) xs ≡ take n xs ++ x ∷ []
take_one n [] x e h = absurd (omega arith)
take_one zero (y ∷ xs) x e h = ap (λ z. z ∷ []) (sym e)
take_one (suc n) (y ∷ xs) x e h = ap (λ l. y ∷ l) (take_one n xs x e (omega arith))

pub drop_one : {A : Type 0} (n : ℕ) (xs : List A) (x : A) → x ≡ get_or xs n x → n < length xs
    → drop n xs ≡ x ∷ drop (suc n) xs
drop_one n [] x e h = absurd (omega arith)
drop_one zero (y ∷ xs) x e h = ap (λ z. z ∷ xs) (sym e)
drop_one (suc n) (y ∷ xs) x e h = drop_one n xs x e (omega arith)

length_take : {A : Type 0} (n : ℕ) (xs : List A) → n ≤ length xs → length (take n xs) ≡ n
length_take zero xs h = refl
length_take (suc n) [] h = absurd (omega arith)
length_take (suc n) (x ∷ xs) h = ap suc (length_take n xs (omega arith))

pub map_append : {A B : Type 0} (f : A → B) (xs ys : List A) → map f (xs ++ ys) ≡ map f xs ++ map f ys
map_append f [] ys = refl
map_append f (x ∷ xs) ys = ap (λ l. f x ∷ l) (map_append f xs ys)

pub drop_map : {A B : Type 0} (f : A → B) (n : ℕ) (xs : List A) → map f (drop n xs) ≡ drop n (map f xs)
drop_map f zero xs = refl
drop_map f (suc n) [] = refl
drop_map f (suc n) (x ∷ xs) = drop_map f n xs

onto_append : {A : Type 0} (xs ys done : List A) → onto (xs ++ ys) done ≡ onto ys (onto xs done)
onto_append [] ys done = refl
onto_append (x ∷ xs) ys done = onto_append xs ys (x ∷ done)

onto_behind : {A : Type 0} (xs done : List A) → onto xs done ≡ inner_first xs ++ done
onto_behind [] done = refl
onto_behind (x ∷ xs) done =
    onto_behind xs (x ∷ done) ∙ sym (append_assoc (inner_first xs) (x ∷ []) done)
    ∙ ap (λ l. l ++ done) (sym (onto_behind xs (x ∷ [])))

-- what stands behind in the vector is read first
pub inner_append : {A : Type 0} (xs ys : List A) → inner_first (xs ++ ys) ≡ inner_first ys ++ inner_first xs
inner_append xs ys = onto_append xs ys [] ∙ onto_behind ys (inner_first xs)

module _ (sets : HideSets) where
  pub above_none : (height : ℕ) (xs : List Hiding) → length xs ≤ height → above height sets xs ≡ []
  above_none height xs h = ap (λ l. inner_first (all_hiding sets l)) (drop_all height xs h)

  pub above_append : (height : ℕ) (xs ys : List Hiding) → height ≤ length xs
      → above height sets (xs ++ ys) ≡ inner_first (all_hiding sets ys) ++ above height sets xs
  above_append height xs ys h =
      ap (λ l. inner_first (all_hiding sets l)) (drop_append height xs ys h)
      ∙ ap inner_first (map_append (hiding sets) (drop height xs) ys)
      ∙ inner_append (all_hiding sets (drop height xs)) (all_hiding sets ys)

  pub above_push : (height : ℕ) (xs : List Hiding) (x : Hiding) → height ≤ length xs
      → above height sets (xs ++ x ∷ []) ≡ hiding sets x ∷ above height sets xs
  above_push height xs x h = above_append height xs (x ∷ []) h

  pub above_next : (height n : ℕ) (xs : List Hiding) (x : Hiding) → x ≡ get_or xs n x → n < length xs → height ≤ n
      → above height sets (take (suc n) xs) ≡ hiding sets x ∷ above height sets (take n xs)
  above_next height n xs x e h low =
      ap (above height sets) (take_one n xs x e h)
      ∙ above_push height (take n xs) x (omega (arith, length_take n xs (omega arith)))

  -- what stands between two heights, and what stands below
  pub above_two : (low high : ℕ) (xs : List Hiding) → low ≤ high → high ≤ length xs
      → above low sets xs ≡ above high sets xs ++ above low sets (take high xs)
  above_two low high xs a b =
      ap (above low sets) (take_and_drop high xs)
      ∙ above_append low (take high xs) (drop high xs) (omega (arith, length_take high xs b))

pub length_map : {A B : Type 0} (f : A → B) (xs : List A) → length (map f xs) ≡ length xs
length_map f [] = refl
length_map f (x ∷ xs) = ap suc (length_map f xs)

pub all_take : {A : Type 0} (P : A → Type 0) (n : ℕ) (xs : List A) → AllByRecursion P xs → AllByRecursion P (take n xs)
all_take P zero xs a = tt
all_take P (suc n) [] a = tt
all_take P (suc n) (x ∷ xs) a = (a.0, all_take P n xs a.1)

pub all_drop : {A : Type 0} (P : A → Type 0) (n : ℕ) (xs : List A) → AllByRecursion P xs → AllByRecursion P (drop n xs)
all_drop P zero xs a = a
all_drop P (suc n) [] a = tt
all_drop P (suc n) (x ∷ xs) a = all_drop P n xs a.1

pub all_both : {A : Type 0} (P : A → Type 0) (xs ys : List A) → AllByRecursion P xs → AllByRecursion P ys
    → AllByRecursion P (xs ++ ys)
all_both P [] ys a b = b
all_both P (x ∷ xs) ys a b = (a.0, all_both P xs ys a.1 b)

pub all_first : {A : Type 0} (P : A → Type 0) (xs ys : List A) → AllByRecursion P (xs ++ ys) → AllByRecursion P xs
all_first P [] ys a = tt
all_first P (x ∷ xs) ys a = (a.0, all_first P xs ys a.1)

pub all_second : {A : Type 0} (P : A → Type 0) (xs ys : List A) → AllByRecursion P (xs ++ ys) → AllByRecursion P ys
all_second P [] ys a = a
all_second P (x ∷ xs) ys a = all_second P xs ys a.1

pub all_weaker : {A : Type 0} (P Q : A → Type 0) → ((x : A) → P x → Q x) → (xs : List A) → AllByRecursion P xs
    → AllByRecursion Q xs
all_weaker P Q f [] a = tt
all_weaker P Q f (x ∷ xs) a = (f x a.0, all_weaker P Q f xs a.1)

-- more sets
module _ (old new : HideSets) (more : Grows old new) where
  pub same_hiding : (xs : List Hiding) → AreKnown old xs → all_hiding new xs ≡ all_hiding old xs
  same_hiding [] a = refl
  same_hiding (x ∷ xs) a =
      ap (λ (names : List (List ℕ)). record { token = x.token; hidden = names } ∷ all_hiding new xs)
      (more.same x.hidden a.0)
      ∙ ap (λ l. hiding old x ∷ l) (same_hiding xs a.1)

  pub still_are_known : (xs : List Hiding) → AreKnown old xs → AreKnown new xs
  still_are_known xs a = all_weaker _ _ (λ (x : Hiding) known. still_known old new x.hidden more known) xs a

  pub same_above : (height : ℕ) (xs : List Hiding) → AreKnown old xs → above height new xs ≡ above height old xs
  same_above height xs a =
      ap inner_first (same_hiding (drop height xs) (all_drop _ height xs a))

pub length_above : (sets : HideSets) (height : ℕ) (xs : List Hiding) → length (above height sets xs)
    ≡ length xs - height
length_above sets height xs =
    length_inner (all_hiding sets (drop height xs)) ∙ length_map (hiding sets) (drop height xs) ∙ length-drop height xs

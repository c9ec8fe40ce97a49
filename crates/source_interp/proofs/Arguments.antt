-- Values as arguments: those found last, the first one first.
use Rattle.std.proofs.Common.{◌≡◌, ℕ, ◌-◌, ◌<◌, ◌≤◌, sym, ap, ◌∙◌, List, [], ◌++◌, length, take, drop, ⊎_elim, arith}
use Rattle.std.specs.Prelude.{reverse}
use Rattle.std.proofs.lemmas.Bool.{cases_lt}
use Rattle.std.proofs.lemmas.List.{append-nil, drop-append-le, drop_all, length-drop, length-reverse, reverse-append}
use Rattle.std.proofs.lemmas.List.{reverse-reverse, take-append-drop, take-append-le, take_all}

module _ {A : Type 0} (items : List A) (n at : ℕ) (is : at ≡ length items - n) where
  abbrev before : List A
  before = take at items

  abbrev behind : List A
  behind = drop at items

  turned : reverse items ≡ reverse behind ++ reverse before
  turned = ap reverse (sym (take-append-drop at items)) ∙ reverse-append before behind

  -- as many as are asked for
  module _ (enough : n ≤ length items) where
    many : length (reverse behind) ≡ n
    many = length-reverse behind ∙ omega (arith, length-drop at items, is, enough)

    some_taken : take n (reverse items) ≡ reverse behind
    some_taken = ap (take n) turned ∙ take-append-le n (reverse behind) (reverse before) (omega (arith, many))
        ∙ take_all n (reverse behind) (omega (arith, many))

    some_left : drop n (reverse items) ≡ reverse before
    some_left = ap (drop n) turned ∙ drop-append-le n (reverse behind) (reverse before) (omega (arith, many))
        ∙ ap (λ xs. xs ++ reverse before) (drop_all n (reverse behind) (omega (arith, many)))

  -- fewer
  module _ (few : length items < n) where
    all_length : length (reverse items) ≤ n
    all_length = omega (arith, length-reverse items, few)

    start : at ≡ 0
    start = omega (arith, is, few)

    all_taken : reverse (take n (reverse items)) ≡ behind
    all_taken = ap reverse (take_all n (reverse items) all_length) ∙ reverse-reverse items
        ∙ sym (ap (λ k. drop k items) start)

    none_left : drop n (reverse items) ≡ reverse before
    none_left = drop_all n (reverse items) all_length ∙ sym (ap (λ k. reverse (take k items)) start)

  pub arguments_are : behind ≡ reverse (take n (reverse items))
  arguments_are = ⊎_elim
      (λ few. sym (all_taken few))
      (λ enough. sym (reverse-reverse behind) ∙ sym (ap reverse (some_taken enough)))
      (cases_lt (length items) n)

  pub others_are : reverse before ≡ drop n (reverse items)
  others_are = ⊎_elim (λ few. sym (none_left few)) (λ enough. sym (some_left enough)) (cases_lt (length items) n)

-- all behind a place, as a slice has them
pub all_behind : {A : Type 0} (xs items : List A) (n size at : ℕ) → xs ≡ items → size ≡ length items → at ≡ size - n
    → take (length xs - at) (drop at xs) ≡ reverse (take n (reverse items))
all_behind xs items n size at e k is =
    take_all (length xs - at) (drop at xs) (omega (arith, length-drop at xs))
    ∙ ap (drop at) e ∙ arguments_are items n at (is ∙ ap (λ m. m - n) k)

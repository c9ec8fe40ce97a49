-- The homes of registers that are named: within the activation record, and apart.
use Rattle.std.proofs.Common.{◌≡◌, ⊎_elim, ℕ, zero, suc, ◌+◌, ◌*◌, ◌<◌, ◌≤◌, refl, ap, ◌∙◌}
use Rattle.std.proofs.Common.{arith, List, [], ◌∷◌, ◌++◌, length, length-append, Some}
use Rattle.std.specs.Prelude.{slice_get}
use Rattle.std.proofs.lemmas.Bool.{cases_lt}
use Rattle.tac_ir.specs.declared.function.CodeFunction.{CodeFunction}
use Rattle.metadata_plan.specs.Registers.{words_in, all_variables, most_temporaries}
use Rattle.metadata_expansion.specs.Homes.{free_count, words_from, temporary_homes, homes}
use Rattle.metadata_expansion.specs.Numbers.{register_count}
use Rattle.image_laws.proofs.Plans.Roles.{Role, OfVariable, OfTemporary, Scratch}
use Rattle.image_laws.proofs.Plans.Places.{get_left, get_right}

-- ---- the list

words_length : (w n : ℕ) → length (words_from w n) ≡ n
words_length w zero = refl
words_length w (suc n) =
    let a = length-append (words_from w n) ((w + n) ∷ []) in
    let rest = words_length w n in
    omega (arith, a, rest)

temporaries_length : (w n : ℕ) → length (temporary_homes w n) ≡ 5 * n
temporaries_length w zero = refl
temporaries_length w (suc n) =
    let a = length-append (temporary_homes w n) ((w + n) ∷ 0 ∷ 0 ∷ 0 ∷ 0 ∷ []) in
    let rest = temporaries_length w n in
    omega (arith, a, rest)

words_at : (w n j : ℕ) → j < n → slice_get (words_from w n) j ≡ Some (w + j)
words_at w zero j lt = absurd (omega arith)
words_at w (suc n) j lt =
    ⊎_elim (λ low. get_left (words_from w n) ((w + n) ∷ []) j (w + j) (words_at w n j low))
    (λ le.
    let same : n ≡ j = omega arith in
    let long = words_length w n in
    let seam : j ≡ length (words_from w n) + 0 = omega (arith, long) in
    get_right (words_from w n) ((w + n) ∷ []) j 0 seam ∙ ap (λ k. Some (w + k)) same)
    (cases_lt j n)

temporaries_at : (w n z : ℕ) → z < n → slice_get (temporary_homes w n) (5 * z) ≡ Some (w + z)
temporaries_at w zero z lt = absurd (omega arith)
temporaries_at w (suc n) z lt =
    ⊎_elim
    (λ low. get_left (temporary_homes w n) ((w + n) ∷ 0 ∷ 0 ∷ 0 ∷ 0 ∷ []) (5 * z) (w + z) (temporaries_at w n z low))
    (λ le.
    let same : n ≡ z = omega arith in
    let long = temporaries_length w n in
    let seam : 5 * z ≡ length (temporary_homes w n) + 0 = omega (arith, long) in
    get_right (temporary_homes w n) ((w + n) ∷ 0 ∷ 0 ∷ 0 ∷ 0 ∷ []) (5 * z) 0 seam ∙ ap (λ k. Some (w + k)) same)
    (cases_lt z n)

module _ (c : CodeFunction) where
  abbrev variables : ℕ
  variables = words_in (all_variables c)

  abbrev count : ℕ
  count = most_temporaries c.code

  -- the homes of variables, of temporaries, and of the registers behind them
  abbrev front : List ℕ
  front = words_from (free_count c) variables

  abbrev middle : List ℕ
  middle = temporary_homes (free_count c + variables) count

  abbrev back : List ℕ
  back = words_from 0 (free_count c)

  pub homes_length : length (homes c) ≡ register_count c
  homes_length =
      let a = length-append front (middle ++ back) in
      let b = length-append middle back in
      let d = words_length (free_count c) variables in
      let e = temporaries_length (free_count c + variables) count in
      let f = words_length 0 (free_count c) in
      omega (arith, a, b, d, e, f)

  -- the word of a register by what it is for
  pub word : (y : ℕ) → Role c y → ℕ
  word y (OfVariable lt) = free_count c + y
  word y (OfTemporary z lt e) = free_count c + words_in (all_variables c) + z
  word y (Scratch j lt e) = j

  pub home_at : (y : ℕ) (r : Role c y) → slice_get (homes c) y ≡ Some (word y r)
  unfolding word
  home_at y (OfVariable lt) =
      get_left front (middle ++ back) y (free_count c + y) (words_at (free_count c) variables y lt)
  home_at y (OfTemporary z lt e) =
      let long = words_length (free_count c) variables in
      let seam : y ≡ length front + 5 * z = omega (arith, long, e) in
      get_right front (middle ++ back) y (5 * z) seam
      ∙ get_left middle back (5 * z) (free_count c + variables + z)
      (temporaries_at (free_count c + variables) count z lt)
  home_at y (Scratch j lt e) =
      let long = words_length (free_count c) variables in
      let long' = temporaries_length (free_count c + variables) count in
      let none : 0 + j ≡ j = omega arith in
      let seam : y ≡ length front + (5 * count + j) = omega (arith, long, e) in
      let seam' : 5 * count + j ≡ length middle + j = omega (arith, long') in
      get_right front (middle ++ back) y (5 * count + j) seam
      ∙ get_right middle back (5 * count + j) j seam'
      ∙ (words_at 0 (free_count c) j lt ∙ ap Some none)

  pub word_low : (y : ℕ) (r : Role c y) → word y r < words_in (all_variables c) + most_temporaries c.code + free_count c
  unfolding word
  word_low y (OfVariable lt) = omega (arith, lt)
  word_low y (OfTemporary z lt e) = omega (arith, lt)
  word_low y (Scratch j lt e) = omega (arith, lt)

  pub role_low : (y : ℕ) → Role c y → y < register_count c
  role_low y (OfVariable lt) = omega (arith, lt)
  role_low y (OfTemporary z lt e) = omega (arith, lt, e)
  role_low y (Scratch j lt e) = omega (arith, lt, e)

  pub words_differ : (x y : ℕ) (q : Role c x) (r : Role c y) → word x q ≡ word y r → x ≡ y
  unfolding word
  words_differ x y (OfVariable lt) (OfVariable lt') e = omega (arith, e)
  words_differ x y (OfVariable lt) (OfTemporary z lt' a) e = absurd (omega (arith, lt, e))
  words_differ x y (OfVariable lt) (Scratch j lt' a) e = absurd (omega (arith, lt', e))
  words_differ x y (OfTemporary z lt a) (OfVariable lt') e = absurd (omega (arith, lt', e))
  words_differ x y (OfTemporary z lt a) (OfTemporary z' lt' b) e = omega (arith, a, b, e)
  words_differ x y (OfTemporary z lt a) (Scratch j lt' b) e = absurd (omega (arith, lt', e))
  words_differ x y (Scratch j lt a) (OfVariable lt') e = absurd (omega (arith, lt, e))
  words_differ x y (Scratch j lt a) (OfTemporary z lt' b) e = absurd (omega (arith, lt, e))
  words_differ x y (Scratch j lt a) (Scratch j' lt' b) e = omega (arith, a, b, e)

  -- every home lies within the activation record
  abbrev pub HasRoom : Type 0
  HasRoom = 8 * (words_in (all_variables c) + most_temporaries c.code + free_count c) + 8 ≤ c.room

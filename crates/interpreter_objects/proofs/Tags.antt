-- The tags of a range that is moved are a part of the other list, put over those that are there.
use Rattle.std.proofs.Common.{◌≡◌, ℕ, ◌+◌, ◌-◌, ◌*◌, ◌/◌, ◌%◌, ◌<◌, ◌≤◌, ◌⊎◌, inl, inr, ⊎_elim, true, false}
use Rattle.std.proofs.Common.{if◌then◌else◌, List, length, take, drop, get_or, sym, ap, ◌∙◌, arith}
use Rattle.std.proofs.Common.{length-take, length-drop, subst}
use Rattle.std.proofs.lemmas.Bool.{cases_lt}
use Rattle.std.proofs.lemmas.Bool.Decides.{nat_tests}
use Rattle.std.proofs.lemmas.List.{ext_get_or, get_or-take, get_or-drop}
use Rattle.obj_memory.specs.declared.value.Tag.{Tag}
use Rattle.obj_memory.specs.declared.value.Tag.TheVariants.{Untagged}
use Rattle.obj_memory.specs.Access.{is_word_in, moved_tags, overwrite}
use Rattle.obj_memory.proofs.Listed.{length-overwrite, get_or-overwrite_in, get_or-overwrite_other}
use Rattle.obj_memory.proofs.Moving.{get_or-moved_tags}
use Rattle.obj_memory.proofs.Soundness.{length-moved_tags}

is_in : (start size word : ℕ) → start ≤ 8 * word → 8 * word + 8 ≤ start + size → is_word_in start size word ≡ true
is_in start size word h k = grind (arith, nat_tests)

is_out : (start size word : ℕ) → (8 * word < start) ⊎ (start + size < 8 * word + 8) → is_word_in start size word ≡ false
is_out start size word h = grind (arith, nat_tests)

-- Some whole words of both lists: those from `first` on, n of them, are in the range, and their tags stand in the other
-- list from `other` on.
module _ (size start source first other n : ℕ) (from ts : List Tag) (low : start ≤ 8 * first)
    (before : 8 * first < start + 8) (high : (k : ℕ) → k < n → 8 * (first + k) + 8 ≤ start + size)
    (behind : start + size < 8 * (first + n) + 8) (same : 8 * other + start ≡ 8 * first + source)
    (inside : first + n ≤ length ts) (there : other + n ≤ length from) where
  abbrev new : List Tag
  new = take n (drop other from)

  abbrev moved : List Tag
  moved = moved_tags size start source from 0 ts

  new_length : length new ≡ n
  new_length = omega (arith, length-take n (drop other from), length-drop other from, there)

  fits : first + length new ≤ length ts
  fits = omega (arith, new_length, inside)

  -- the tag of a word that is moved
  in_range : (k : ℕ) → k < n → get_or moved (first + k) Untagged ≡ get_or (overwrite first new ts) (first + k) Untagged
  in_range k lt =
      get_or-moved_tags size start source from 0 ts (first + k) (first + k) (omega arith) (omega (arith, lt, inside))
      ∙ ap (λ b. if b then get_or from ((8 * (first + k) - start + source) / 8) Untagged
      else get_or ts (first + k) Untagged)
      (is_in start size (first + k) (omega (arith, low)) (high k lt))
      ∙ ap (λ i. get_or from i Untagged) (omega (arith, same, low))
      ∙ sym (get_or-overwrite_in first new ts k Untagged fits (omega (arith, new_length, lt))
      ∙ get_or-take n (drop other from) k Untagged lt
      ∙ get_or-drop other from k Untagged)

  -- and of one that is not
  out_of_range : (k : ℕ) → k < length ts → (k < first) ⊎ (first + n ≤ k)
      → get_or moved k Untagged ≡ get_or (overwrite first new ts) k Untagged
  out_of_range k lt out =
      get_or-moved_tags size start source from 0 ts k k (omega arith) lt
      ∙ ap (λ b. if b then get_or from ((8 * k - start + source) / 8) Untagged else get_or ts k Untagged)
      (is_out start size k (⊎_elim (λ h. inl (omega (arith, h, before))) (λ h. inr (omega (arith, h, behind))) out))
      ∙ sym (get_or-overwrite_other first new ts k Untagged fits
      (⊎_elim (λ h. inl h) (λ h. inr (omega (arith, h, new_length))) out))

  elements : (k : ℕ) → k < length moved → get_or moved k Untagged ≡ get_or (overwrite first new ts) k Untagged
  elements k lt =
      let within : k < length ts = omega (arith, lt, length-moved_tags size start source from 0 ts) in
      ⊎_elim (λ h. out_of_range k within (inl h))
      (λ h. ⊎_elim
      (λ l. subst (λ i. get_or moved i Untagged ≡ get_or (overwrite first new ts) i Untagged)
      (omega (arith, h)) (in_range (k - first) (omega (arith, h, l))))
      (λ l. out_of_range k within (inr l))
      (cases_lt k (first + n)))
      (cases_lt k first)

  pub tags_overwritten : moved ≡ overwrite first new ts
  tags_overwritten = ext_get_or Untagged moved (overwrite first new ts)
      (length-moved_tags size start source from 0 ts ∙ sym (length-overwrite first new ts fits)) elements

-- no whole word is in the range
pub words_stay : (size start source : ℕ) (from ts : List Tag) → (start + size) / 8 ≤ (start + 7) / 8
    → ts ≡ moved_tags size start source from 0 ts
words_stay size start source from ts h = sym (ext_get_or Untagged (moved_tags size start source from 0 ts) ts
    (length-moved_tags size start source from 0 ts) elements)
  where
    elements : (k : ℕ) → k < length (moved_tags size start source from 0 ts)
        → get_or (moved_tags size start source from 0 ts) k Untagged ≡ get_or ts k Untagged
    elements k lt =
        get_or-moved_tags size start source from 0 ts k k (omega arith)
        (omega (arith, lt, length-moved_tags size start source from 0 ts))
        ∙ ap (λ b. if b then get_or from ((8 * k - start + source) / 8) Untagged else get_or ts k Untagged)
        (is_out start size k (⊎_elim (λ l. inl l) (λ l. inr (omega (arith, h, l))) (cases_lt (8 * k) start)))

-- some words are
pub words_moved : (size start source first other n : ℕ) (from ts : List Tag) → first ≡ (start + 7) / 8
    → other ≡ (source + 7) / 8 → n ≡ (start + size) / 8 - first → start % 8 ≡ source % 8
    → (start + size) / 8 ≤ length ts → (source + size) / 8 ≤ length from → first < (start + size) / 8
    → overwrite first (take n (drop other from)) ts ≡ moved_tags size start source from 0 ts
words_moved size start source first other n from ts first_is other_is n_is phase inside there some =
    sym (tags_overwritten size start source first other n from ts (omega (arith, first_is)) (omega (arith, first_is))
    (λ k lt. omega (arith, lt, n_is)) (omega (arith, some, n_is)) (omega (arith, phase, first_is, other_is))
    (omega (arith, inside, some, n_is)) (omega (arith, phase, there, some, first_is, other_is, n_is)))

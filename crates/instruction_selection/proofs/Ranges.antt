-- Ranges of bytes that the members of a path leave.
use Rattle.std.proofs.Common.{◌≡◌, ℕ, ◌+◌, ◌-◌, ◌<◌, List, ◌∷◌, drop, length, max, min, ap, ◌∙◌, sym, arith, Some}
use Rattle.std.specs.Prelude.{slice_get}
use Rattle.std.proofs.lemmas.List.{drop_more}
use Rattle.std.proofs.lemmas.Option.{get_or_from_slice_get}
use Rattle.tac_ir.specs.declared.key.Member.{Member}
use Rattle.metadata_relation.specs.Blocks.{meet, path_range}

-- the range by the members from one on, by that one and by those behind it
pub next_range : (size : ℕ) (path : List Member) (k : ℕ) (m : Member) → k < length path → slice_get path k ≡ Some m
    → path_range size (drop k path)
    ≡ meet (path_range size (drop (k + 1) path)) (record { start = m.constant; end = m.constant + m.size })
next_range size path k m low at =
    ap (path_range size) (drop_more path k m low ∙ ap (λ z. z ∷ drop (k + 1) path) (get_or_from_slice_get path k m m at))

-- from the last member on, one more at a time
pub one_more : (size : ℕ) (path : List Member) (behind k : ℕ) (m : Member) (start end : ℕ) → behind < length path
    → k ≡ length path - 1 - behind → slice_get path k ≡ Some m
    → start ≡ (path_range size (drop (length path - behind) path)).start
    → end ≡ (path_range size (drop (length path - behind) path)).end
    → (max start m.constant ≡ (path_range size (drop (length path - (behind + 1)) path)).start)
    × (min end (m.constant + m.size) ≡ (path_range size (drop (length path - (behind + 1)) path)).end)
one_more size path behind k m start end low place at begins ends =
    let here : length path - (behind + 1) ≡ k = omega (arith, low, place) in
    let next : length path - behind ≡ k + 1 = omega (arith, low, place) in
    let range = next_range size path k m (omega (arith, low, place)) at in (
      ap (λ n. max n m.constant) (begins ∙ ap (λ j. (path_range size (drop j path)).start) next)
          ∙ sym (ap (λ j. (path_range size (drop j path)).start) here ∙ ap (λ r. r.start) range),
      ap (λ n. min n (m.constant + m.size)) (ends ∙ ap (λ j. (path_range size (drop j path)).end) next)
          ∙ sym (ap (λ j. (path_range size (drop j path)).end) here ∙ ap (λ r. r.end) range),
    )

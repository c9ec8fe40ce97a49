-- The greatest numbers of a sorted list below another.
use Rattle.std.proofs.Common.{◌≡◌, ℕ, ◌-◌, ◌<◌, ◌≤◌, ⊎_elim, List, length, true, false, arith, get_or, ltb}
use Rattle.std.specs.List.Sorted.{IsNonDecreasing}
use Rattle.std.proofs.lemmas.Bool.{cases_lt, ltb-false, ltb-true}
use Rattle.std.proofs.lemmas.Option.{slice_get_within, get_or_from_slice_get}
use Rattle.data_flow.specs.Relations.{Has}

-- the greatest number below another in a sorted list
pub none_below : (xs : List ℕ) (n count : ℕ) → count ≡ 0
    → ((k d : ℕ) → count ≤ k → k < length xs → ltb (get_or xs k d) n ≡ false) → (k : ℕ) → Has xs k → k < n → ⊥
none_below xs n count e rest k h lt =
    let l = slice_get_within xs h.0 k h.1 in
    let f = rest h.0 0 (omega (arith, e)) l in
    let g : get_or xs h.0 0 ≡ k = get_or_from_slice_get xs h.0 k 0 h.1 in
    let i = ltb-false (get_or xs h.0 0) n f in
    omega (arith, i, g, lt)

pub last_is : (xs : List ℕ) (n count : ℕ) → IsNonDecreasing xs → 1 ≤ count → count ≤ length xs
    → ((k d : ℕ) → 0 ≤ k → k < count → ltb (get_or xs k d) n ≡ true)
    → ((k d : ℕ) → count ≤ k → k < length xs → ltb (get_or xs k d) n ≡ false)
    → (get_or xs (count - 1) 0 < n) × ((k : ℕ) → Has xs k → k < n → k ≤ get_or xs (count - 1) 0)
last_is xs n count sorted some within low high = (
  ltb-true (get_or xs (count - 1) 0) n (low (count - 1) 0 (omega arith) (omega arith)),
  λ k h lt.
      let l = slice_get_within xs h.0 k h.1 in
      let g : get_or xs h.0 0 ≡ k = get_or_from_slice_get xs h.0 k 0 h.1 in
      ⊎_elim
      (λ before. let s = sorted h.0 (count - 1) 0 (omega (arith, before)) (omega (arith, some, within)) in
      omega (arith, s, g))
      (λ behind. let i = ltb-false (get_or xs h.0 0) n (high h.0 0 behind l) in
      absurd (omega (arith, i, g, lt)))
      (cases_lt h.0 count),
)

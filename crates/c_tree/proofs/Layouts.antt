-- The layout of structures and unions, where no size passes the largest.
use Rattle.std.proofs.Common.{◌≡◌, ℕ, zero, suc, ◌+◌, ◌-◌, ◌*◌, ◌/◌, ◌%◌, ◌^◌, ◌<◌, ◌≤◌, List, [], ◌∷◌, length}
use Rattle.std.proofs.Common.{get_or, refl, ap, ◌∙◌, arith}
use Rattle.std.proofs.Math.Nat.{div-eq_of_lt, lt-div-mul-add, mul-mod_left}
use Rattle.std.proofs.lemmas.List.Elements.{All-head, All-tail}
use Rattle.std.specs.Prelude.{All}
use Rattle.c_tree.specs.Extents.{TypeExtent, IsExtent}
use Rattle.c_tree.specs.Layout.{aligned, behind_member, offsets_from, end_from, greatest_alignment, greatest_size}
use Rattle.c_tree.specs.Layout.{padded, member_offsets, structure_of, union_of}
use Rattle.c_tree.specs.Members.{size_at, alignment_at, AreLaidOut}
use Rattle.c_tree.proofs.Alignments.{one_at_least}

-- the next multiple
aligned_from : (a n : ℕ) → 1 ≤ a → n ≤ aligned a n
aligned_from a n some =
    let above = lt-div-mul-add {a = n + (a - 1)} {b = a} some in
    omega (arith, above)

aligned_whole : (a n : ℕ) → aligned a n % a ≡ 0
aligned_whole a n = mul-mod_left ((n + (a - 1)) / a) a

padded_from : (a n : ℕ) → 1 ≤ a → (padded a n).size ≤ 2 ^ 32 → n ≤ (padded a n).size
padded_from a n some fits = omega (arith, aligned_from a n some)

-- the place behind the members is not before the place where they begin
end_behind : (at : ℕ) (ms : List TypeExtent) → All IsExtent ms → at ≤ 2 ^ 32 + 1 → at ≤ end_from at ms
end_behind at [] h small = omega arith
end_behind at (m ∷ ms) h small =
    let from = aligned_from m.alignment at (All-head IsExtent m ms h).least in
    let rest = end_behind (behind_member at m) ms (All-tail IsExtent m ms h) (omega arith) in
    omega (arith, from, rest)

-- the first member, where what is behind it fits
record IsFirst (at : ℕ) (m : TypeExtent) (ms : List TypeExtent) : Type 0 where
  from : at ≤ aligned m.alignment at
  behind : behind_member at m ≡ aligned m.alignment at + m.size
  most : aligned m.alignment at + m.size ≤ end_from (behind_member at m) ms
  small : behind_member at m ≤ 2 ^ 32 + 1

first_of : (at : ℕ) (m : TypeExtent) (ms : List TypeExtent) → All IsExtent (m ∷ ms) → at ≤ 2 ^ 32 + 1
    → end_from (behind_member at m) ms ≤ 2 ^ 32 → IsFirst at m ms
first_of at m ms h small fits =
    let rest = end_behind (behind_member at m) ms (All-tail IsExtent m ms h) (omega arith) in
    record {
      from = aligned_from m.alignment at (All-head IsExtent m ms h).least;
      behind = omega (arith, rest, fits);
      most = omega (arith, rest, fits);
      small = omega arith;
    }

offsets_count : (at : ℕ) (ms : List TypeExtent) → length (offsets_from at ms) ≡ length ms
offsets_count at [] = refl
offsets_count at (m ∷ ms) = ap suc (offsets_count (behind_member at m) ms)

offsets_aligned : (at : ℕ) (ms : List TypeExtent) (k : ℕ) → k < length ms
    → get_or (offsets_from at ms) k 0 % alignment_at ms k ≡ 0
offsets_aligned at [] k h = absurd (omega arith)
offsets_aligned at (m ∷ ms) zero h = aligned_whole m.alignment at
offsets_aligned at (m ∷ ms) (suc k) h = offsets_aligned (behind_member at m) ms k (omega arith)

offsets_after : (at : ℕ) (ms : List TypeExtent) → All IsExtent ms → at ≤ 2 ^ 32 + 1 → end_from at ms ≤ 2 ^ 32
    → (k : ℕ) → k < length ms → at ≤ get_or (offsets_from at ms) k 0
offsets_after at [] h small fits k lt = absurd (omega arith)
offsets_after at (m ∷ ms) h small fits zero lt = aligned_from m.alignment at (All-head IsExtent m ms h).least
offsets_after at (m ∷ ms) h small fits (suc k) lt =
    let f = first_of at m ms h small fits in
    omega (
      arith,
      f.from,
      f.behind,
      offsets_after (behind_member at m) ms (All-tail IsExtent m ms h) f.small fits k
          (omega arith),
    )

offsets_inside : (at : ℕ) (ms : List TypeExtent) → All IsExtent ms → at ≤ 2 ^ 32 + 1 → end_from at ms ≤ 2 ^ 32
    → (k : ℕ) → k < length ms → get_or (offsets_from at ms) k 0 + size_at ms k ≤ end_from at ms
offsets_inside at [] h small fits k lt = absurd (omega arith)
offsets_inside at (m ∷ ms) h small fits zero lt = (first_of at m ms h small fits).most
offsets_inside at (m ∷ ms) h small fits (suc k) lt =
    offsets_inside (behind_member at m) ms (All-tail IsExtent m ms h) (first_of at m ms h small fits).small fits k
    (omega arith)

offsets_apart : (at : ℕ) (ms : List TypeExtent) → All IsExtent ms → at ≤ 2 ^ 32 + 1 → end_from at ms ≤ 2 ^ 32
    → (j k : ℕ) → j < k → k < length ms → get_or (offsets_from at ms) j 0 + size_at ms j ≤ get_or
    (offsets_from at ms) k 0
offsets_apart at [] h small fits j k lt le = absurd (omega arith)
offsets_apart at (m ∷ ms) h small fits j zero lt le = absurd (omega arith)
offsets_apart at (m ∷ ms) h small fits zero (suc k) lt le =
    let f = first_of at m ms h small fits in
    omega (
      arith,
      f.behind,
      offsets_after (behind_member at m) ms (All-tail IsExtent m ms h) f.small fits k
          (omega arith),
    )
offsets_apart at (m ∷ ms) h small fits (suc j) (suc k) lt le =
    offsets_apart (behind_member at m) ms (All-tail IsExtent m ms h) (first_of at m ms h small fits).small fits j k
    (omega arith) (omega arith)

first_offset : (ms : List TypeExtent) → All IsExtent ms → 0 < length ms → get_or (offsets_from 0 ms) 0 0 ≡ 0
first_offset [] h some = absurd (omega arith)
first_offset (m ∷ ms) h some =
    let least = (All-head IsExtent m ms h).least in
    let below : 0 + (m.alignment - 1) < m.alignment = omega arith in
    ap (λ n. n * m.alignment) (div-eq_of_lt below) ∙ omega arith

pub structure_laid_out : (ms : List TypeExtent) → All IsExtent ms → (structure_of ms).size ≤ 2 ^ 32
    → AreLaidOut ms (member_offsets ms) (structure_of ms).size
unfolding member_offsets structure_of
structure_laid_out ms h fits =
    let end = padded_from (greatest_alignment ms) (end_from 0 ms) (one_at_least ms) fits in
    let small : end_from 0 ms ≤ 2 ^ 32 = omega (arith, end, fits) in
    record {
      count = offsets_count 0 ms;
      first = first_offset ms h;
      aligned = offsets_aligned 0 ms;
      apart = offsets_apart 0 ms h (omega arith) small;
      inside = λ k lt. omega (arith, end, offsets_inside 0 ms h (omega arith) small k lt);
    }

greatest_size_from : (ms : List TypeExtent) (k : ℕ) → k < length ms → size_at ms k ≤ greatest_size ms
greatest_size_from [] k lt = absurd (omega arith)
greatest_size_from (m ∷ ms) zero lt = omega arith
greatest_size_from (m ∷ ms) (suc k) lt = omega (arith, greatest_size_from ms k (omega arith))

greatest_alignment_from : (ms : List TypeExtent) (k : ℕ) → k < length ms → alignment_at ms k ≤ greatest_alignment ms
greatest_alignment_from [] k lt = absurd (omega arith)
greatest_alignment_from (m ∷ ms) zero lt = omega arith
greatest_alignment_from (m ∷ ms) (suc k) lt = omega (arith, greatest_alignment_from ms k (omega arith))

pub union_inside : (ms : List TypeExtent) → (union_of ms).size ≤ 2 ^ 32 → (k : ℕ) → k < length ms
    → size_at ms k ≤ (union_of ms).size
unfolding union_of
union_inside ms fits k lt =
    omega (
      arith,
      greatest_size_from ms k lt,
      padded_from (greatest_alignment ms) (greatest_size ms)
          (one_at_least ms) fits,
    )

-- sizes are multiples of alignments, which are no less than any member's
padded_whole : (a n : ℕ) → (padded a n).size ≤ 2 ^ 32 → (padded a n).size % a ≡ 0
padded_whole a n fits =
    let same : (padded a n).size ≡ aligned a n = omega arith in
    ap (λ i. i % a) same ∙ aligned_whole a n

pub structure_whole : (ms : List TypeExtent) → (structure_of ms).size ≤ 2 ^ 32
    → (structure_of ms).size % (structure_of ms).alignment ≡ 0
unfolding structure_of
structure_whole ms fits = padded_whole (greatest_alignment ms) (end_from 0 ms) fits

pub union_whole : (ms : List TypeExtent) → (union_of ms).size ≤ 2 ^ 32
    → (union_of ms).size % (union_of ms).alignment ≡ 0
unfolding union_of
union_whole ms fits = padded_whole (greatest_alignment ms) (greatest_size ms) fits

pub structure_alignment : (ms : List TypeExtent) (k : ℕ) → k < length ms
    → alignment_at ms k ≤ (structure_of ms).alignment
unfolding structure_of
structure_alignment = greatest_alignment_from

pub union_alignment : (ms : List TypeExtent) (k : ℕ) → k < length ms → alignment_at ms k ≤ (union_of ms).alignment
unfolding union_of
union_alignment = greatest_alignment_from

-- Two segments overlap where an address lies in both.
use Rattle.std.proofs.Common.{◌≡◌, ℕ, ◌+◌, ◌-◌, ◌<◌, ◌≤◌, max, min, true, refl, ◌↔◌, nat_le, nat_lt, arith}
use Rattle.std.proofs.lemmas.Bool.{le-leb, lt-ltb, leb-true, ltb-true, and_parts}
use Rattle.elf_image.specs.Content.{SegmentContent}
use Rattle.elf_image.specs.Tests.{holds, meets}

-- an address of a segment
pub record Lies (a : ℕ) (s : SegmentContent) : Type 0 where
  pub from_start : s.address ≤ a
  pub below_end : a < s.address + s.size

lies : (a : ℕ) (s : SegmentContent) → holds a s ≡ true → Lies a s
lies a s h =
    let p = and_parts (nat_le s.address a) (nat_lt (a - s.address) s.size) h in
    let from_start = leb-true s.address a p.0 in
    let below = ltb-true (a - s.address) s.size p.1 in
    record { from_start = from_start; below_end = omega arith }

held : (a : ℕ) (s : SegmentContent) → Lies a s → holds a s ≡ true
held a s l = rw (le-leb s.address a l.from_start, lt-ltb (a - s.address) s.size (omega arith)) refl

pub overlap-shared : (s t : SegmentContent) → (meets s t ≡ true) ↔ ((a : ℕ) × ((holds a s ≡ true) × (holds a t ≡ true)))
overlap-shared s t =
    let later = max s.address t.address in
    let earlier = min (s.address + s.size) (t.address + t.size) in (
      λ h.
          let below = ltb-true later earlier h in
          let in_first : Lies later s = record { from_start = omega arith; below_end = omega arith } in
          let in_second : Lies later t = record { from_start = omega arith; below_end = omega arith } in
          (later, (held later s in_first, held later t in_second)),
      λ h.
          let in_first = lies h.0 s h.1.0 in
          let in_second = lies h.0 t h.1.1 in
          lt-ltb later earlier (omega arith),
    )

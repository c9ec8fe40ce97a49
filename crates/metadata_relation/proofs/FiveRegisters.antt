-- The five registers of a value: they differ, and all lie below what follows them.
use Rattle.std.proofs.Common.{◌≡◌, ◌≢◌, ◌⊎◌, inl, inr, ℕ, ◌+◌, ◌^◌, ◌<◌, ◌≤◌, Bool, true, false, List, [], ◌∷◌, arith}
use Rattle.std.specs.Prelude.{nat_eq, if◌then◌else◌}
use Rattle.words.specs.TwosComplement.{low_bits}
use Rattle.flat_code.specs.declared.instruction.FlatInstruction.{FlatInstruction}
use Rattle.flat_code.specs.declared.instruction.FlatInstruction.TheVariants.{Constant, Move}
use Rattle.flat_code.specs.Memory.{put}
use Rattle.flat_code.specs.State as flat
use Rattle.flat_code.specs.Words.{AreWords, IsOfWords}
use Rattle.flat_code.specs.Routines.Metadata.{held_registers}
use Rattle.flat_code.specs.Routines.Registers.{AreBelow, AreDistinct, IsNoneOf}
use Rattle.runtime_functions.specs.Library.{held_from}
use Rattle.metadata_relation.proofs.Assigning.{assigned}

lower : (x y : ℕ) → x < y → x ≢ y
lower x y lt e = absurd (omega arith)

-- a register beside them is none of them
pub none_of : (x r : ℕ) → (x < r) ⊎ (r + 5 ≤ x) → IsNoneOf x (held_registers (held_from r))
none_of x r out =
    (first, (other 1 (omega arith), (other 2 (omega arith), (other 3 (omega arith), (other 4 (omega arith), tt)))))
  where
    first : x ≢ r
    first e = by out e
      where
        by : (x < r) ⊎ (r + 5 ≤ x) → x ≡ r → ⊥
        by (inl below) same = absurd (omega arith)
        by (inr above) same = absurd (omega arith)

    other : (j : ℕ) → j < 5 → x ≢ r + j
    other j lt e = by out e
      where
        by : (x < r) ⊎ (r + 5 ≤ x) → x ≡ r + j → ⊥
        by (inl below) same = absurd (omega arith)
        by (inr above) same = absurd (omega arith)

pub distinct : (r : ℕ) → AreDistinct (held_registers (held_from r))
distinct r = (
  (
    lower r (r + 1) (omega arith),
    (
      lower r (r + 2) (omega arith),
      (
        lower r (r + 3) (omega arith),
        (lower r (r + 4) (omega arith), tt),
      ),
    ),
  ),
  (
    (
      lower (r + 1) (r + 2) (omega arith),
      (
        lower (r + 1) (r + 3) (omega arith),
        (lower (r + 1) (r + 4) (omega arith), tt),
      ),
    ),
    (
      (lower (r + 2) (r + 3) (omega arith), (lower (r + 2) (r + 4) (omega arith), tt)),
      ((lower (r + 3) (r + 4) (omega arith), tt), (tt, tt)),
    ),
  ),
)

pub below : (r free : ℕ) → r + 5 ≤ free → AreBelow free (held_registers (held_from r))
below r free le = (omega arith, (omega arith, (omega arith, (omega arith, (omega arith, tt)))))

-- ---- assignments leave words

put_words : (values : flat.Values) (x n : ℕ) → n < 2 ^ 64 → AreWords values → AreWords (put values x n)
unfolding put
put_words values x n fits h y = by (nat_eq y x)
  where
    by : (b : Bool) → (if b then n else values y) < 2 ^ 64
    by true = fits
    by false = h y

values_words : (list : List FlatInstruction) (values : flat.Values) → AreWords values → AreWords (assigned list values)
values_words [] values h = h
values_words (Constant x n ∷ is) values h =
    values_words is (put values x (low_bits 64 n)) (put_words values x (low_bits 64 n) (omega arith) h)
values_words (Move x y ∷ is) values h =
    values_words is (put values x (values y)) (put_words values x (values y) (h y) h)
values_words (i ∷ is) values h = values_words is values h

pub assigned_words : (list : List FlatInstruction) (v : flat.State) (work : ℕ) → IsOfWords v
    → IsOfWords (record v { values = assigned list v.values; work = work })
assigned_words list v work h = record { values = values_words list v.values h.values; memory = h.memory }

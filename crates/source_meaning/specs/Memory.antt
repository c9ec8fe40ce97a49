-- `memcpy`, `memmove`, `memset` and `memcmp` (C99 7.21.2, 7.21.4, 7.21.6). Their ranges are judged as one access each.
use Rattle.std.specs.Prelude.{ℕ, ◌+◌, ◌*◌, true, ◌==◌, if◌then◌else◌, List, [], ◌∷◌, replicate}
use Rattle.obj_memory.specs.declared.int_type.IntType.TheVariants.{UnsignedChar}
use Rattle.obj_memory.specs.declared.value.Value.{Value}
use Rattle.obj_memory.specs.Integers.{fit}
use Rattle.obj_memory.specs.Access.{bytes_at}
use Rattle.source_meaning.specs.State.{Run, ◌>>=◌, ◌>>◌, done, read_state, tally}
use Rattle.source_meaning.specs.Actions.{integer, located, move_bytes}
use Rattle.source_meaning.specs.Bytes.{unless_empty, set_bytes, order}

-- bytes and tags moved, the destination judged first; the ranges may overlap (7.21.2.2)
abbrev pub memmove : (destination source size : Value) → (line : ℕ) → Run Value
memmove d s size line = unless_empty size d (do
  destination ← located true size.word d line
  source ← located true size.word s line
  move_bytes size.word destination source
  done d)

-- C99 leaves open what it does with ranges that overlap: it moves them too (7.21.2.1)
abbrev pub memcpy : (destination source size : Value) → (line : ℕ) → Run Value
memcpy d s size line = memmove d s size line

-- bytes set to one value, converted to unsigned char (7.21.6.1)
abbrev pub memset : (destination byte size : Value) → (line : ℕ) → Run Value
memset d byte size line = unless_empty size d (do
  place ← located true size.word d line
  set_bytes (replicate size.word (fit UnsignedChar byte.word)) place
  done d)

-- how many pairs of bytes are compared: those up to the first that differ, and these
abbrev pub pairs_compared : List ℕ → List ℕ → ℕ
pairs_compared [] ys = 0
pairs_compared (x ∷ xs) [] = 0
pairs_compared (x ∷ xs) (y ∷ ys) = if x == y then 1 + pairs_compared xs ys else 1

-- how the first bytes that differ compare
abbrev pub order_of : List ℕ → List ℕ → Value
order_of [] ys = integer 0
order_of (x ∷ xs) [] = integer 0
order_of (x ∷ xs) (y ∷ ys) = if x == y then order_of xs ys else order x y

-- both ranges are judged whole before they are compared; each pair that is compared counts two (7.21.4.1)
abbrev pub memcmp : (left right size : Value) → (line : ℕ) → Run Value
memcmp a b size line = unless_empty size (integer 0) (do
  left ← located true size.word a line
  right ← located true size.word b line
  xs ← read_state (λ s. bytes_at size.word left s.objects)
  ys ← read_state (λ s. bytes_at size.word right s.objects)
  tally (2 * pairs_compared xs ys)
  done (order_of xs ys))

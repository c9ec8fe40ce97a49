-- One byte memory: the byte at each address. Numbers stand in it little endian.
use Rattle.std.specs.Prelude.{◌≡◌, ℕ, zero, suc, ◌+◌, ◌*◌, ◌/◌, ◌%◌, ◌<◌, ◌≤◌, ◌⊎◌, nat_eq, if◌then◌else◌}

abbrev pub Bytes : Type 0
Bytes = ℕ → ℕ

-- a function with another value at one place
unfoldable pub put : (ℕ → ℕ) → (place value : ℕ) → ℕ → ℕ
put f a v b = if nat_eq b a then v else f b

-- the number in so many bytes from an address on
unfoldable pub load : (size : ℕ) → Bytes → (address : ℕ) → ℕ
load zero m a = 0
load (suc n) m a = m a + 256 * load n m (suc a)

-- the memory after the low bytes of a number were put there
unfoldable pub store : (size : ℕ) → Bytes → (address number : ℕ) → Bytes
store zero m a v = m
store (suc n) m a v = store n (put m a (v % 256)) (suc a) (v / 256)

-- each byte is one
abbrev pub AreBytes : Bytes → Type 0
AreBytes m = (a : ℕ) → m a < 256

-- a place is not among so many from one on
abbrev pub Beside : (address size place : ℕ) → Type 0
Beside a n b = (b < a) ⊎ (a + n ≤ b)

-- all but so many bytes from an address on stay
abbrev pub KeepsBut : (address size : ℕ) → Bytes → Bytes → Type 0
KeepsBut a n m m' = (b : ℕ) → Beside a n b → m' b ≡ m b

-- so many bytes from an address on stay
abbrev pub Keeps : (address size : ℕ) → Bytes → Bytes → Type 0
Keeps a n m m' = (i : ℕ) → i < n → m' (a + i) ≡ m (a + i)

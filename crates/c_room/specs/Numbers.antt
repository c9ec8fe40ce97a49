-- Numbers that are there where they are below 2^64.
use Rattle.std.specs.Prelude.{ℕ, ◌+◌, ◌*◌, ◌^◌, max, nat_lt, if◌then◌else◌, List, [], ◌∷◌, Option, Some, None}
use Rattle.c_tree.specs.declared.expression.Kind.{Kind}
use Rattle.c_tree.specs.Room.{structure_bytes}

-- a number where it is below 2^64, and else none
unfoldable pub fitting : ℕ → Option ℕ
fitting n = if nat_lt n (2 ^ 64) then Some n else None

unfoldable pub plus : Option ℕ → Option ℕ → Option ℕ
plus None b = None
plus (Some m) None = None
plus (Some m) (Some n) = fitting (m + n)

unfoldable pub times : (factor : ℕ) → Option ℕ → Option ℕ
times k None = None
times k (Some n) = fitting (k * n)

unfoldable pub greater : Option ℕ → Option ℕ → Option ℕ
greater None b = None
greater (Some m) None = None
greater (Some m) (Some n) = Some (max m n)

-- bytes, with those of structures of some kinds
abbrev pub with_structures : Option ℕ → List Kind → Option ℕ
with_structures bytes [] = bytes
with_structures bytes (k ∷ ks) = with_structures (plus bytes (fitting (structure_bytes k))) ks

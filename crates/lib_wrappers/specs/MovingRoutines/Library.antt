-- `memmove`, `memcpy` and `memset` as actions.
use Rattle.std.specs.Prelude.{ℕ, List, [], ◌∷◌}
use Rattle.source_meaning.specs.Memory.{memmove, memcpy, memset}
use Rattle.source_meaning.specs.Library.{argument}
use Rattle.flat_code.specs.declared.instruction.FlatInstruction.{FlatInstruction}
use Rattle.flat_code.specs.declared.registers.Held.{Held}
use Rattle.flat_actions.specs.Actions.{Basis, Word, Pointer, IsAction}

-- `memmove`, within 66 steps and 16 for each byte
abbrev pub MovesObjects : Basis → (to from : Held) → (size : ℕ) → (into : Held) → (line scratch : ℕ)
    → List FlatInstruction → Type 0
MovesObjects basis to from n into line t =
    IsAction basis (λ vs. memmove (argument 0 vs) (argument 1 vs) (argument 2 vs) line)
    (Pointer to ∷ Pointer from ∷ Word n ∷ []) (Pointer into) t 66 16

-- `memcpy` does the same
abbrev pub CopiesObjects : Basis → (to from : Held) → (size : ℕ) → (into : Held) → (line scratch : ℕ)
    → List FlatInstruction → Type 0
CopiesObjects basis to from n into line t =
    IsAction basis (λ vs. memcpy (argument 0 vs) (argument 1 vs) (argument 2 vs) line)
    (Pointer to ∷ Pointer from ∷ Word n ∷ []) (Pointer into) t 66 16

-- `memset`, within 24 steps and 5 for each byte
abbrev pub SetsObjects : Basis → (to : Held) → (byte size : ℕ) → (into : Held) → (line scratch : ℕ)
    → List FlatInstruction → Type 0
SetsObjects basis to byte n into line t =
    IsAction basis (λ vs. memset (argument 0 vs) (argument 1 vs) (argument 2 vs) line)
    (Pointer to ∷ Word byte ∷ Word n ∷ []) (Pointer into) t 24 5

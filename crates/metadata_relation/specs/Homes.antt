-- The home of each virtual register of a function: a word of its own in its activation record.
use Rattle.std.specs.Prelude.{ℕ, zero, suc, ◌+◌, ◌*◌, ◌≤◌, max, List, [], ◌∷◌, ◌++◌, length}
use Rattle.tac_ir.specs.declared.function.CodeFunction.{CodeFunction}
use Rattle.metadata_plan.specs.Registers.{most_temporaries}
use Rattle.metadata_relation.specs.Registers.{moved_register, first_free}

-- so many registers a block has for itself, from the first free one on
abbrev pub scratch_count : ℕ
scratch_count = 16

abbrev pub register_count : CodeFunction → ℕ
register_count c = first_free c + scratch_count

-- consecutive words, for so many registers
abbrev pub words_from : (word count : ℕ) → List ℕ
words_from w zero = []
words_from w (suc n) = words_from w n ++ ((w + n) ∷ [])

-- Those that a block has for itself stand first, and behind them the arguments of calls: they are next to the return
-- address, so that one instruction reaches them however large the record is.
abbrev pub homes : CodeFunction → List ℕ
homes c =
    let moved = 5 * most_temporaries c.code in
    words_from (scratch_count + moved) (moved_register c 0)
    ++ (words_from scratch_count moved ++ words_from 0 scratch_count)

-- A call of a function is charged at least the bytes for its variables, for the values that are needed at once, and for
-- tags; and it has no more temporaries than such values, and one for its result.
pub record HasRoom (height : ℕ) (c : CodeFunction) : Type 0 where
  pub temporaries : most_temporaries c.code ≤ max 1 height
  pub room : 96 + 40 * ((length c.parameters + length c.variables) + height) + 32 * (1 + length c.parameters) ≤ c.room

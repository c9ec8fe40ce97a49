-- What the virtual registers of a function are for.
use Rattle.std.proofs.Common.{◌≡◌, ⊎_elim, ℕ, zero, suc, ◌+◌, ◌<◌, ◌≤◌, ◌∙◌, List}
use Rattle.std.proofs.Common.{[], ◌∷◌, arith, true, length, length-append}
use Rattle.std.proofs.lemmas.Bool.{cases_lt}
use Rattle.c_tree.specs.declared.program.Variable.{Variable}
use Rattle.tac_ir.specs.declared.function.CodeFunction.{CodeFunction}
use Rattle.metadata_plan.specs.Registers.{words_in, register_of, all_variables, most_temporaries}
use Rattle.metadata_plan.specs.Registers.{variable_register, temporary_register, first_free}
use Rattle.metadata_plan.specs.Part.{are_integers}
use Rattle.metadata_plan.proofs.Numbers.{integers_words}
use Rattle.metadata_expansion.specs.Homes.{free_count}

-- a register of a variable, the first of a temporary, or one behind them
pub data Role (c : CodeFunction) (y : ℕ) : Type 0 where
  OfVariable : y < words_in (all_variables c) → Role c y
  OfTemporary : (z : ℕ) → z < most_temporaries c.code → y ≡ temporary_register c z → Role c y
  Scratch : (j : ℕ) → j < free_count c → y ≡ first_free c + j → Role c y

register_low : (vs : List Variable) (x : ℕ) → register_of vs x ≤ words_in vs
register_low [] x = omega arith
register_low (v ∷ vs) zero = omega arith
register_low (v ∷ vs) (suc x) = omega (arith, register_low vs x)

-- what is no variable's number has the register of the first temporary
pub variable_role : (c : CodeFunction) (x : ℕ) → 0 < most_temporaries c.code → Role c (variable_register c x)
variable_role c x some =
    let low = register_low (all_variables c) x in
    ⊎_elim OfVariable (λ le. OfTemporary 0 some (omega arith))
    (cases_lt (variable_register c x) (words_in (all_variables c)))

pub temporary_role : (c : CodeFunction) (z : ℕ) → z < most_temporaries c.code → Role c (temporary_register c z)
temporary_role c z lt = OfTemporary z lt (omega arith)

pub scratch_role : (c : CodeFunction) (j y : ℕ) → j < 4 → y ≡ first_free c + j → Role c y
scratch_role c j y lt e = Scratch j (omega arith) e

-- an integer has one word
pub variable_count : (c : CodeFunction) → are_integers (all_variables c) ≡ true
    → words_in (all_variables c) ≡ length c.parameters + length c.variables
variable_count c e = integers_words (all_variables c) e ∙ length-append c.parameters c.variables

-- The registers that a function makes 0 before its routine begins.
use mathlib.Core.Path.{fun_ext}
use Rattle.std.proofs.Common.{◌≡◌, ℕ, zero, suc, ◌+◌, ◌-◌, ◌*◌, ◌<◌, ◌≤◌, ◌⊎◌, ⊎_elim, List, [], ◌∷◌, ◌++◌, refl, sym}
use Rattle.std.proofs.Common.{ap}
use Rattle.std.proofs.Common.{◌∙◌, subst, arith, append_assoc}
use Rattle.std.proofs.lemmas.Bool.{cases_eq}
use Rattle.flat_code.specs.declared.instruction.FlatInstruction.{FlatInstruction}
use Rattle.flat_code.specs.declared.instruction.FlatInstruction.TheVariants.{Constant}
use Rattle.flat_code.specs.Memory.{put}
use Rattle.flat_code.specs.State.{State, Values}
use Rattle.flat_code.specs.Meaning.{Context, Goes}
use Rattle.flat_code.proofs.Stored.{put_same, put_other}
use Rattle.flat_code.specs.Routines.Local.{local_run, act}
use Rattle.flat_code.specs.Routines.Routine.{HasAt}
use Rattle.flat_code.proofs.Routines.Steps.{run_zero, run_suc}
use Rattle.runtime_functions.specs.Functions.{zeros, cleared_registers}

-- a register that is 0 is made 0
put_zero : (values : Values) (d : ℕ) → values d ≡ 0 → put values d 0 ≡ values
put_zero values d none = fun_ext (λ x. ⊎_elim
    (λ e. subst (λ y. put values d 0 y ≡ values y) (sym e) (put_same values d 0 ∙ sym none))
    (λ ne. put_other values d 0 x ne)
    (cases_eq x d))

-- the state with so much more work
abbrev worked : ℕ → State → State
worked n s = record s { work = s.work + n }

-- registers that are 0 from one on stay so, and each instruction counts its weight
pub zeros_run : (c : Context) (code : List FlatInstruction) (n pc d : ℕ) (s : State) → HasAt code pc (zeros d n)
    → ((x : ℕ) → d ≤ x → s.values x ≡ 0)
    → local_run c code n (Goes pc s) ≡ Goes (pc + n) (record s { work = s.work + c.weight * n })
zeros_run c code zero pc d s has none =
    let same : pc ≡ pc + 0 = omega arith in
    let work : s.work ≡ s.work + c.weight * 0 = omega arith in
    run_zero c code (Goes pc s) ∙ ap (λ q. Goes q s) same ∙ ap (λ w. Goes (pc + 0) (record s { work = w })) work
zeros_run c code (suc n) pc d s has none =
    let place : pc + 1 + n ≡ pc + suc n = omega arith in
    let work : s.work + c.weight + c.weight * n ≡ s.work + c.weight * suc n = omega arith in
    run_suc c code n (Goes pc s) ∙ ap (λ o. local_run c code n (act c o pc s)) has.0
    ∙ ap (λ v. local_run c code n (Goes (pc + 1) (record (worked c.weight s) { values = v })))
    (put_zero s.values d (none d (omega arith)))
    ∙ zeros_run c code n (pc + 1) (d + 1) (worked c.weight s) has.1 (λ x l. none x (omega arith))
    ∙ ap (λ q. Goes q (record s { work = s.work + c.weight + c.weight * n })) place
    ∙ ap (λ w. Goes (pc + suc n) (record s { work = w })) work

-- ---- how they are put

-- the next of them
zeros_next : (d i : ℕ) → i < cleared_registers
    → zeros (d + i) (cleared_registers - i) ≡ Constant (d + i) 0 ∷ zeros (d + (i + 1)) (cleared_registers - (i + 1))
zeros_next d i l =
    let count : cleared_registers - i ≡ suc (cleared_registers - (i + 1)) = omega arith in
    let place : d + i + 1 ≡ d + (i + 1) = omega arith in
    ap (zeros (d + i)) count ∙ ap (λ q. Constant (d + i) 0 ∷ zeros q (cleared_registers - (i + 1))) place

-- it is put behind those before it
pub zeros_put : (before after all : List FlatInstruction) (d i : ℕ) → i < cleared_registers
    → after ≡ before ++ Constant (d + i) 0 ∷ [] → before ++ zeros (d + i) (cleared_registers - i) ≡ all
    → after ++ zeros (d + (i + 1)) (cleared_registers - (i + 1)) ≡ all
zeros_put before after all d i l put so_far =
    let rest = zeros (d + (i + 1)) (cleared_registers - (i + 1)) in
    ap (λ q. q ++ rest) put ∙ append_assoc before (Constant (d + i) 0 ∷ []) rest
    ∙ ap (λ q. before ++ q) (sym (zeros_next d i l)) ∙ so_far

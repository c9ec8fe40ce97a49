-- The most words that an instruction takes, or what propagation makes of it.
use Rattle.std.proofs.Common.{◌≡◌, ℕ, ◌+◌, ◌-◌, ◌^◌, ◌<◌, ◌≤◌, ◌==◌, max, Bool, true, List, [], ◌∷◌, Option, Some, None}
use Rattle.std.proofs.Common.{sym, subst}
use Rattle.std.proofs.Common.{arith}
use Rattle.std.specs.Prelude.{if◌then◌else◌}
use Rattle.words.specs.TwosComplement.{low_bits}
use Rattle.rv_isa.specs.declared.instruction.Instr.{Instr}
use Rattle.rv_isa.specs.declared.instruction.BranchOp.{BranchOp}
use Rattle.rv_isa.specs.declared.instruction.RegOp.{RegOp}
use Rattle.rv_isa.specs.declared.instruction.RegOp32.{RegOp32}
use Rattle.rv_isa.specs.declared.instruction.BranchOp.TheVariants.{Beq, Bne, Blt, Bge, Bltu, Bgeu}
use Rattle.flat_code.specs.declared.instruction.RightOperand.{RightOperand}
use Rattle.flat_code.specs.declared.instruction.RightOperand.TheVariants.{Register, Number}
use Rattle.flat_code.specs.declared.instruction.FlatInstruction.{FlatInstruction}
use Rattle.flat_code.specs.declared.instruction.FlatInstruction.TheVariants as flat
use Rattle.flat_code.specs.declared.function.FlatFunction.{FlatFunction}
use Rattle.flat_code.specs.declared.function.FlatProgram.{FlatProgram}
use Rattle.flat_code.specs.Calls.{record_bytes}
use Rattle.machine_laws.specs.Blocks.Blocks.{IsShort}
use Rattle.machine_laws.specs.Blocks.Immediates.{immediate_of, immediate32_of}
use Rattle.flat_propagation.specs.declared.fact.Fact.{Fact}
use Rattle.flat_propagation.specs.declared.fact.Fact.TheVariants.{Unknown, Same, Word, Difference, Condition}
use Rattle.flat_propagation.specs.Facts.{Facts, opposite}
use Rattle.flat_propagation.specs.Known.{source, source_but, register_or_zero, known_at}
use Rattle.flat_propagation.specs.Propagated.{is_short, takes, takes32, register_or_number, right_but, right_source}
use Rattle.flat_propagation.specs.Propagated.{unless_zero, if_zero, compared, compared_zero, branch_on, moved}
use Rattle.flat_propagation.specs.Propagated.{rewritten, rewritten_from}
use Rattle.flat_propagation.proofs.Holding.{either}
use Rattle.image_laws.specs.CodeSizes.Sizes.{constant_words, right_words, operator_words, passed_words}
use Rattle.image_laws.specs.CodeSizes.Sizes.{call_words, instruction_words, body_words}
use Rattle.image_laws.proofs.CodeSizes.Blocks.{home_most}
use Rattle.image_laws.proofs.Propagation.Fits.{RightFits, FactFits, known_fits}
use Rattle.image_laws.proofs.Propagation.Encodable.{word_short, takes_short, takes32_short}
use Rattle.image_laws.proofs.Sizes.Numbers.{constant_short, few_constant}

-- Three words reach the home of any register.
abbrev pub right_most : RightOperand → ℕ
right_most (Register z) = 3
right_most (Number n) = if n == 0 then 0 else constant_words (low_bits 64 n)

-- A branch that compares a value with 0 may compare two values.
abbrev pub instruction_most : FlatProgram → FlatFunction → FlatInstruction → ℕ
instruction_most p g (flat.Constant x n) = constant_words (low_bits 64 n) + 3
instruction_most p g (flat.Move x y) = 7
instruction_most p g (flat.Operate op x y z) = 7 + right_most z
instruction_most p g (flat.Operate32 op x y z) = 7 + right_most z
instruction_most p g (flat.Load op x y o) = 7
instruction_most p g (flat.Store op y o x) = 7
instruction_most p g (flat.Branch op y z past) = 6 + max 3 (right_most z)
instruction_most p g (flat.CallAddress y first n x k) = call_words (record_bytes g) 3 (passed_words g first n + passed_words g x k)
instruction_most p g (flat.Get x) = 12
instruction_most p g (flat.Put x) = 9
instruction_most p g (flat.Exit x) = 6
instruction_most p g (flat.Charged x) = 16
instruction_most p g i = instruction_words p g i

abbrev pub body_most : FlatProgram → FlatFunction → List FlatInstruction → ℕ
body_most p g [] = 0
body_most p g (i ∷ is) = instruction_most p g i + body_most p g is

-- ---- operands

right_few : (g : FlatFunction) (n : ℕ) → IsShort n → right_words g (Number n) ≤ 2
right_few g n short =
    either {A = ℕ} (λ w. w ≤ 2) (n == 0) 0 (constant_words (low_bits 64 n)) (λ e. omega arith)
    (λ e. constant_short n short)

number_few : (g : FlatFunction) (fits : ℕ → Bool) → ((n : ℕ) → fits n ≡ true → IsShort n) → (fact : Fact) (x : ℕ)
    → right_words g (register_or_number fits fact x) ≤ 3
number_few g fits short (Word n) x =
    either (λ z. right_words g z ≤ 3) (fits n) (Number n) (Register x)
    (λ e. let few = right_few g n (short n e) in omega (arith, few)) (λ e. home_most g x)
number_few g fits short _ x = home_most g x

operand_few : (g : FlatFunction) (d : ℕ) (fits : ℕ → Bool) → ((n : ℕ) → fits n ≡ true → IsShort n) → (k : Facts)
    (z : RightOperand) → right_words g (right_but d fits k z) ≤ right_most z
operand_few g d fits short k (Register x) = number_few g fits short (k x) (source_but d (k x) x)
operand_few g d fits short k (Number n) = omega arith

zero_few : (g : FlatFunction) (fact : Fact) (x : ℕ) → right_words g (register_or_zero fact x) ≤ 3
zero_few g (Word n) x =
    either (λ z. right_words g z ≤ 3) (n == 0) (Number 0) (Register x) (λ e. omega arith) (λ e. home_most g x)
zero_few g _ x = home_most g x

source_few : (g : FlatFunction) (k : Facts) (z : RightOperand) → right_words g (right_source k z) ≤ max 3 (right_most z)
source_few g k (Register x) = let few = zero_few g (k x) (source (k x) x) in omega (arith, few)
source_few g k (Number n) = omega arith

compared_few : (g : FlatFunction) (b : RightOperand) → RightFits b → right_words g b ≤ 3
compared_few g (Register x) h = home_most g x
compared_few g (Number n) h = subst (λ z. right_words g (Number z) ≤ 3) (sym h) (omega arith)

-- ---- instructions

operator_few : (g : FlatFunction) (x y : ℕ) (z : RightOperand) (short : Option Instr)
    → operator_words g x y z short ≤ 7 + right_words g z
operator_few g x y z (Some i) = omega (arith, home_most g x, home_most g y)
operator_few g x y z None = omega (arith, home_most g x, home_most g y)

module _ (p : FlatProgram) (g : FlatFunction) where
  compares : (op : BranchOp) (y past : ℕ) (b : RightOperand) (most : ℕ) → right_words g b ≤ most
      → instruction_words p g (flat.Branch op y b past) ≤ 6 + most
  compares op y past b most few = omega (arith, few, home_most g y)

  branch_few : (op : BranchOp) (fact : Fact) (y past : ℕ) (b : RightOperand) (most : ℕ) → FactFits fact → 3 ≤ most
      → right_words g b ≤ most → instruction_words p g (branch_on op fact y past b) ≤ 6 + most
  branch_few op fact y past (Register z) most fits three few = compares op (source fact y) past (Register z) most few
  branch_few op fact y past (Number n) most fits three few =
      either (λ i. instruction_words p g i ≤ 6 + most) (n == 0) (compared_zero op fact y past)
      (compared op fact y past (Number n)) (λ e. zeros op) (λ e. compares op (source fact y) past (Number n) most few)
    where
      none : right_words g (Number 0) ≤ most
      none = omega arith

      two : (b : RightOperand) → RightFits b → right_words g b ≤ most
      two b h = let few = compared_few g b h in omega (arith, few, three)

      unless : (fact : Fact) → FactFits fact → instruction_words p g (unless_zero fact y past) ≤ 6 + most
      unless Unknown h = compares Bne y past (Number 0) most none
      unless (Same z) h = compares Bne z past (Number 0) most none
      unless (Word w) h = compares Bne y past (Number 0) most none
      unless (Difference a b) h = compares Bne a past b most (two b h)
      unless (Condition q a b) h = compares q a past b most (two b h)

      ifs : (fact : Fact) → FactFits fact → instruction_words p g (if_zero fact y past) ≤ 6 + most
      ifs Unknown h = compares Beq y past (Number 0) most none
      ifs (Same z) h = compares Beq z past (Number 0) most none
      ifs (Word w) h = compares Beq y past (Number 0) most none
      ifs (Difference a b) h = compares Beq a past b most (two b h)
      ifs (Condition q a b) h = compares (opposite q) a past b most (two b h)

      zeros : (op : BranchOp) → instruction_words p g (compared_zero op fact y past) ≤ 6 + most
      zeros Bne = unless fact fits
      zeros Beq = ifs fact fits
      zeros Blt = compares Blt (source fact y) past (Number 0) most none
      zeros Bge = compares Bge (source fact y) past (Number 0) most none
      zeros Bltu = compares Bltu (source fact y) past (Number 0) most none
      zeros Bgeu = compares Bgeu (source fact y) past (Number 0) most none

  move_few : (x y : ℕ) → instruction_words p g (flat.Move x y) ≤ 7
  move_few x y = omega (arith, home_most g x, home_most g y)

  moved_few : (fact : Fact) (x y : ℕ) → instruction_words p g (moved fact x y) ≤ 7
  moved_few (Same z) x y = move_few x z
  moved_few (Word n) x y =
      either (λ i. instruction_words p g i ≤ 7) (is_short n) (flat.Constant x n) (flat.Move x y)
      (λ e. let few = constant_short n (word_short n e) in omega (arith, few, home_most g x)) (λ e. move_few x y)
  moved_few _ x y = move_few x y

  rewritten_few : (k : Facts) → ((y : ℕ) → FactFits (k y)) → (i : FlatInstruction)
      → instruction_words p g (rewritten k i) ≤ instruction_most p g i
  unfolding rewritten
  rewritten_few k fits (flat.Constant x n) = omega (arith, home_most g x)
  rewritten_few k fits (flat.Move x y) = moved_few (k y) x y
  rewritten_few k fits (flat.Operate op x y z) =
      let z' = right_but x (takes op) k z in
      let own = operator_few g x (source_but x (k y) y) z' (immediate_of op 0 0 z') in
      let right = operand_few g x (takes op) (takes_short op) k z in
      omega (arith, own, right)
  rewritten_few k fits (flat.Operate32 op x y z) =
      let z' = right_but x (takes32 op) k z in
      let own = operator_few g x (source_but x (k y) y) z' (immediate32_of op 0 0 z') in
      let right = operand_few g x (takes32 op) (takes32_short op) k z in
      omega (arith, own, right)
  rewritten_few k fits (flat.Load op x y o) = omega (arith, home_most g x, home_most g (source (k y) y))
  rewritten_few k fits (flat.Store op y o x) =
      omega (arith, home_most g (source (k x) x), home_most g (source (k y) y))
  rewritten_few k fits (flat.Branch op y z past) =
      branch_few op (k y) y past (right_source k z) (max 3 (right_most z)) (fits y) (omega arith) (source_few g k z)
  rewritten_few k fits (flat.JumpForward past) = omega arith
  rewritten_few k fits (flat.JumpBack back) = omega arith
  rewritten_few k fits flat.Turn = omega arith
  rewritten_few k fits (flat.Call f first x) = omega arith
  rewritten_few k fits (flat.CallAddress y first n x r) = omega (arith, home_most g (source (k y) y))
  rewritten_few k fits (flat.Return y) = omega arith
  rewritten_few k fits (flat.Get x) = omega (arith, home_most g x)
  rewritten_few k fits (flat.Put x) = omega (arith, home_most g (source (k x) x))
  rewritten_few k fits (flat.Exit x) = omega (arith, home_most g (source (k x) x))
  rewritten_few k fits (flat.End e) = omega arith
  rewritten_few k fits (flat.Charged x) = omega (arith, home_most g x)

  -- of a body
  pub rewritten_words : (body is : List FlatInstruction) (place : ℕ)
      → body_words p g (rewritten_from body place is) ≤ body_most p g is
  unfolding rewritten_from
  rewritten_words body [] place = omega arith
  rewritten_words body (i ∷ is) place =
      let here = rewritten_few (known_at body place) (known_fits body place) i in
      let rest = rewritten_words body is (place + 1) in
      omega (arith, here, rest)

  -- ---- with a number of 32 bits and its sign

  right_least : (n : ℕ) → n < 2 ^ 31 - 2 ^ 11 → right_most (Number n) ≤ 2
  right_least n lt =
      either {A = ℕ} (λ w. w ≤ 2) (n == 0) 0 (constant_words (low_bits 64 n)) (λ e. omega arith)
      (λ e. few_constant n lt)

  pub operate_most : (q : RegOp) (d x n : ℕ) → n < 2 ^ 31 - 2 ^ 11
      → instruction_most p g (flat.Operate q d x (Number n)) ≤ 9
  operate_most q d x n lt = let few = right_least n lt in omega (arith, few)

  pub operate32_most : (q : RegOp32) (d x n : ℕ) → n < 2 ^ 31 - 2 ^ 11
      → instruction_most p g (flat.Operate32 q d x (Number n)) ≤ 9
  operate32_most q d x n lt = let few = right_least n lt in omega (arith, few)

  pub branch_most : (q : BranchOp) (y n past : ℕ) → n < 2 ^ 31 - 2 ^ 11
      → instruction_most p g (flat.Branch q y (Number n) past) ≤ 9
  branch_most q y n past lt = let few = right_least n lt in omega (arith, few)

-- An instruction that has a number in itself makes what the operator gives of the register and the number.
use Rattle.std.proofs.Common.{◌≡◌, ℕ, ◌+◌, ◌-◌, ◌/◌, ◌%◌, ◌^◌, ◌<◌, ◌++◌, Bool, true, false, Option, Some, None, refl}
use Rattle.std.proofs.Common.{ap, ◌∙◌, ⊎_elim, subst, arith}
use Rattle.std.specs.Prelude.{nat_lt, nat_le, if◌then◌else◌}
use Rattle.std.proofs.lemmas.Bool.{ltb-true, leb-true, le-leb, or_cases}
use Rattle.words.specs.TwosComplement.{low_bits, negated}
use Rattle.words.specs.Operations.{shifted_left, shifted_right_signed}
use Rattle.rv_isa.specs.declared.instruction.ImmOp.{ImmOp}
use Rattle.rv_isa.specs.declared.instruction.ImmOp.TheVariants.{Addi, Slti, Sltiu, Xori, Ori, Andi}
use Rattle.rv_isa.specs.declared.instruction.ShiftOp.{ShiftOp}
use Rattle.rv_isa.specs.declared.instruction.ShiftOp.TheVariants.{Slli, Srli, Srai}
use Rattle.rv_isa.specs.declared.instruction.ShiftOp32.{ShiftOp32}
use Rattle.rv_isa.specs.declared.instruction.ShiftOp32.TheVariants.{Slliw, Srliw, Sraiw}
use Rattle.rv_isa.specs.declared.instruction.RegOp.{RegOp}
use Rattle.rv_isa.specs.declared.instruction.RegOp.TheVariants.{Add, Sub, Sll, Slt, Sltu, Xor, Srl, Sra, Or, And}
use Rattle.rv_isa.specs.declared.instruction.RegOp32.{RegOp32}
use Rattle.rv_isa.specs.declared.instruction.RegOp32.TheVariants.{Addw, Subw, Sllw, Srlw, Sraw}
use Rattle.rv_isa.specs.declared.instruction.Instr.{Instr}
use Rattle.rv_isa.specs.declared.instruction.Instr.TheVariants.{OpImm, ShiftImm, Addiw, ShiftImm32}
use Rattle.rv_isa.specs.Word.{sext}
use Rattle.rv_isa.specs.Results.{low_word, imm_result, shift_result, shift32_result, reg_result, reg32_result}
use Rattle.flat_code.specs.declared.instruction.RightOperand.{RightOperand}
use Rattle.flat_code.specs.declared.instruction.RightOperand.TheVariants as right
use Rattle.flat_code.specs.State.{Values}
use Rattle.flat_code.specs.Meaning.{right_value}
use Rattle.machine_laws.specs.View.Views.{View, gets, accesses_by, perform, GoesOn}
use Rattle.machine_laws.specs.Blocks.Immediates.{is_immediate, with_immediate, with_shift, with_immediate32}
use Rattle.machine_laws.specs.Blocks.Immediates.{with_shift32}
use Rattle.machine_laws.specs.Blocks.Immediates.{immediate, immediate32, immediate_of, immediate32_of}
use Rattle.machine_laws.proofs.Blocks.Pieces.{small_sext}

-- what the immediate's 12 bits give
sign_extended : (n : ℕ) → n < 2 ^ 64 → is_immediate n ≡ true → sext 12 (n % 2 ^ 12) ≡ n
sign_extended n small e = ⊎_elim
    (λ l. let less = ltb-true n (2 ^ 11) l in
    let same : n % 2 ^ 12 ≡ n = omega arith in ap (sext 12) same ∙ small_sext n less)
    (λ h. let least = leb-true (2 ^ 64 - 2 ^ 11) n h in
    let high : nat_le (2 ^ 11) (n % 2 ^ 12) ≡ true = le-leb (2 ^ 11) (n % 2 ^ 12) (omega arith) in
    rw high (omega arith))
    (or_cases (nat_lt n (2 ^ 11)) (nat_le (2 ^ 64 - 2 ^ 11) n) e)

pub gets_value : (w : View) (rd n n' : ℕ) → n ≡ n'
    → record (gets w rd n) { accesses = w.accesses ++ accesses_by w.pc None }
    ≡ record (gets w rd n') { accesses = w.accesses ++ accesses_by w.pc None }
gets_value w rd n n' e = ap (λ q. record (gets w rd q) { accesses = w.accesses ++ accesses_by w.pc None }) e

module _ (o s : ℕ) where
  -- an instruction puts a number into a register, makes no access, and goes on
  pub record Makes (i : Instr) (w : View) (rd n : ℕ) : Type 0 where
    pub go : GoesOn o s i w
    pub is : perform i w ≡ record (gets w rd n) { accesses = w.accesses ++ accesses_by w.pc None }

  abbrev pub MakesIfSome : Option Instr → View → (rd n : ℕ) → Type 0
  MakesIfSome None w rd n = Unit {0}
  MakesIfSome (Some i) w rd n = Makes i w rd n

  by_immediate : (op : ImmOp) (rd rs1 n value : ℕ) (w : View) → n < 2 ^ 64
      → imm_result op (w.registers rs1) n ≡ value → MakesIfSome (with_immediate op rd rs1 n) w rd value
  by_immediate op rd rs1 n value w small e = by (is_immediate n) refl
    where
      by : (b : Bool) → is_immediate n ≡ b
          → MakesIfSome (if b then Some (OpImm op rd rs1 (n % 2 ^ 12)) else None) w rd value
      by false q = tt
      by true q = record {
        go = tt;
        is = gets_value w rd (imm_result op (w.registers rs1) (sext 12 (n % 2 ^ 12))) value
            (ap (imm_result op (w.registers rs1)) (sign_extended n small q) ∙ e);
      }

  by_shift : (op : ShiftOp) (rd rs1 n value : ℕ) (w : View) → shift_result op (w.registers rs1) (n % 2 ^ 6) ≡ value
      → MakesIfSome (with_shift op rd rs1 n) w rd value
  by_shift op rd rs1 n value w e = by (nat_lt n 64)
    where
      by : (b : Bool) → MakesIfSome (if b then Some (ShiftImm op rd rs1 (n % 2 ^ 6)) else None) w rd value
      by false = tt
      by true = record { go = tt; is = gets_value w rd (shift_result op (w.registers rs1) (n % 2 ^ 6)) value e }

  by_immediate32 : (rd rs1 n value : ℕ) (w : View) → n < 2 ^ 64 → sext 32 (low_word (w.registers rs1 + n)) ≡ value
      → MakesIfSome (with_immediate32 rd rs1 n) w rd value
  by_immediate32 rd rs1 n value w small e = by (is_immediate n) refl
    where
      by : (b : Bool) → is_immediate n ≡ b
          → MakesIfSome (if b then Some (Addiw rd rs1 (n % 2 ^ 12)) else None) w rd value
      by false q = tt
      by true q = record {
        go = tt;
        is = gets_value w rd (sext 32 (low_word (w.registers rs1 + sext 12 (n % 2 ^ 12)))) value
            (ap (λ k. sext 32 (low_word (w.registers rs1 + k))) (sign_extended n small q) ∙ e);
      }

  by_shift32 : (op : ShiftOp32) (rd rs1 n value : ℕ) (w : View)
      → shift32_result op (low_word (w.registers rs1)) (n % 2 ^ 5) ≡ value
      → MakesIfSome (with_shift32 op rd rs1 n) w rd value
  by_shift32 op rd rs1 n value w e = by (nat_lt n 32)
    where
      by : (b : Bool) → MakesIfSome (if b then Some (ShiftImm32 op rd rs1 (n % 2 ^ 5)) else None) w rd value
      by false = tt
      by true = record {
        go = tt;
        is = gets_value w rd (shift32_result op (low_word (w.registers rs1)) (n % 2 ^ 5)) value e;
      }

  immediate_makes : (op : RegOp) (rd rs1 n : ℕ) (w : View) → n < 2 ^ 64
      → MakesIfSome (immediate op rd rs1 n) w rd (reg_result op (w.registers rs1) n)
  unfolding immediate imm_result shift_result reg_result
  immediate_makes Add rd rs1 n w small = by_immediate Addi rd rs1 n _ w small refl
  immediate_makes Sub rd rs1 n w small =
      by_immediate Addi rd rs1 (negated 64 n) ((w.registers rs1 + (2 ^ 64 - n)) % 2 ^ 64) w (omega arith) (omega arith)
  immediate_makes Slt rd rs1 n w small = by_immediate Slti rd rs1 n _ w small refl
  immediate_makes Sltu rd rs1 n w small = by_immediate Sltiu rd rs1 n _ w small refl
  immediate_makes Xor rd rs1 n w small = by_immediate Xori rd rs1 n _ w small refl
  immediate_makes Or rd rs1 n w small = by_immediate Ori rd rs1 n _ w small refl
  immediate_makes And rd rs1 n w small = by_immediate Andi rd rs1 n _ w small refl
  immediate_makes Sll rd rs1 n w small = by_shift Slli rd rs1 n _ w refl
  immediate_makes Srl rd rs1 n w small = by_shift Srli rd rs1 n _ w refl
  immediate_makes Sra rd rs1 n w small = by_shift Srai rd rs1 n _ w refl
  immediate_makes op rd rs1 n w small = tt

  immediate32_makes : (op : RegOp32) (rd rs1 n : ℕ) (w : View) → n < 2 ^ 64
      → MakesIfSome (immediate32 op rd rs1 n) w rd (reg32_result op (low_word (w.registers rs1)) (low_word n))
  unfolding immediate32 shift32_result reg32_result
  immediate32_makes Addw rd rs1 n w small = by_immediate32 rd rs1 n _ w small (ap (sext 32)
      (let e : (w.registers rs1 + n) % 2 ^ 32 ≡ (w.registers rs1 % 2 ^ 32 + n % 2 ^ 32) % 2 ^ 32 = omega arith in e))
  immediate32_makes Subw rd rs1 n w small = by_immediate32 rd rs1 (negated 64 n) _ w (omega arith) (ap (sext 32)
      (let e : (w.registers rs1 + (2 ^ 64 - n) % 2 ^ 64) % 2 ^ 32
      ≡ (w.registers rs1 % 2 ^ 32 + (2 ^ 32 - n % 2 ^ 32)) % 2 ^ 32 = omega arith in e))
  immediate32_makes Sllw rd rs1 n w small = by_shift32 Slliw rd rs1 n _ w
      (let e : n % 2 ^ 5 ≡ n % 2 ^ 32 % 32 = omega arith in
      ap (λ k. sext 32 (shifted_left 32 (low_word (w.registers rs1)) k)) e)
  immediate32_makes Srlw rd rs1 n w small = by_shift32 Srliw rd rs1 n _ w
      (let e : n % 2 ^ 5 ≡ n % 2 ^ 32 % 32 = omega arith in
      ap (λ k. sext 32 (low_word (w.registers rs1) / 2 ^ k)) e)
  immediate32_makes Sraw rd rs1 n w small = by_shift32 Sraiw rd rs1 n _ w
      (let e : n % 2 ^ 5 ≡ n % 2 ^ 32 % 32 = omega arith in
      ap (λ k. sext 32 (shifted_right_signed 32 (low_word (w.registers rs1)) k)) e)
  immediate32_makes op rd rs1 n w small = tt

  -- the same of a right operand, where the register has a value
  pub immediate_of_makes : (op : RegOp) (rd rs1 : ℕ) (z : RightOperand) (values : Values) (w : View) (a : ℕ)
      → w.registers rs1 ≡ a
      → MakesIfSome (immediate_of op rd rs1 z) w rd (reg_result op a (right_value z values))
  immediate_of_makes op rd rs1 (right.Register z) values w a e = tt
  immediate_of_makes op rd rs1 (right.Number n) values w a e = subst
      (λ q. MakesIfSome (immediate op rd rs1 (low_bits 64 n)) w rd (reg_result op q (low_bits 64 n))) e
      (immediate_makes op rd rs1 (low_bits 64 n) w (omega arith))

  pub immediate32_of_makes : (op : RegOp32) (rd rs1 : ℕ) (z : RightOperand) (values : Values) (w : View) (a : ℕ)
      → w.registers rs1 ≡ a
      → MakesIfSome (immediate32_of op rd rs1 z) w rd
      (reg32_result op (low_word a) (low_word (right_value z values)))
  immediate32_of_makes op rd rs1 (right.Register z) values w a e = tt
  immediate32_of_makes op rd rs1 (right.Number n) values w a e = subst
      (λ q. MakesIfSome (immediate32 op rd rs1 (low_bits 64 n)) w rd
      (reg32_result op (low_word q) (low_word (low_bits 64 n)))) e
      (immediate32_makes op rd rs1 (low_bits 64 n) w (omega arith))

-- What a word decodes to has that word: the table of instructions read backwards, and forwards again.
use Rattle.std.proofs.Common.{rules, ◌≡◌, ℕ, ◌+◌, ◌*◌, ◌^◌, ◌<◌, Bool, true, false, ◌==◌, refl, sym, arith}
use Rattle.std.specs.Prelude.{option_map, Option, Some, None, if◌then◌else◌}
use Rattle.rv_isa.specs.declared.instruction.Instr.{Instr}
use Rattle.rv_isa.specs.Table.{bits, r_word, i_word, s_word, b_word, u_word, j_word, word_of, IsOfTable}
use Rattle.rv_isa.specs.Table.{branch_code, load_code, store_code, imm_code, shift_code, shift32_code, reg_code}
use Rattle.rv_isa.specs.Table.{reg32_code}
use Rattle.rv_isa.specs.Decoding.{decoded, by_opcode, jalr_of, branch_of, load_of, store_of, shift_imm_of, imm_of}
use Rattle.rv_isa.specs.Decoding.{op_imm_of, op_imm32_of, op_of, op32_of, fence_of, system_of, branch_at, load_at}
use Rattle.rv_isa.specs.Decoding.{store_at, imm_at, shift_at, shift32_at, reg_at, reg32_at, rd_of, rs1_of, rs2_of}
use Rattle.rv_isa.specs.Decoding.{funct3_of, funct7_of, i_imm, s_imm, b_imm, u_imm, j_imm}

-- where there is something, it is as P says
abbrev pub IfFound : {A : Type 0} → (A → Type 0) → Option A → Type 0
IfFound P None = Unit {0}
IfFound P (Some x) = P x

-- a choice by a test of numbers
choice : {A : Type 0} (P : A → Type 0) (m n : ℕ) (x y : Option A) → (m ≡ n → IfFound P x) → IfFound P y
    → IfFound P (if m == n then x else y)
choice P m n x y f g = by (m == n) refl where
  by : (b : Bool) → (m == n) ≡ b → IfFound P (if b then x else y)
  by true e = f (search (rules, e))
  by false e = g

mapped : {A B : Type 0} (P : A → Type 0) (Q : B → Type 0) (f : A → B) (o : Option A) → ((x : A) → P x → Q (f x))
    → IfFound P o → IfFound Q (option_map f o)
mapped P Q f None h p = tt
mapped P Q f (Some x) h p = h x p

-- each table of operations, read backwards

branch_found : (n : ℕ) → IfFound (λ op. branch_code op ≡ n) (branch_at n)
unfolding branch_at branch_code
branch_found n =
    choice _ n 0b000 _ _ (λ e. sym e) (choice _ n 0b001 _ _ (λ e. sym e) (choice _ n 0b100 _ _ (λ e. sym e)
    (choice _ n 0b101 _ _ (λ e. sym e) (choice _ n 0b110 _ _ (λ e. sym e) (choice _ n 0b111 _ _ (λ e. sym e) tt)))))

load_found : (n : ℕ) → IfFound (λ op. load_code op ≡ n) (load_at n)
unfolding load_at load_code
load_found n =
    choice _ n 0b000 _ _ (λ e. sym e) (choice _ n 0b001 _ _ (λ e. sym e) (choice _ n 0b010 _ _ (λ e. sym e)
    (choice _ n 0b011 _ _ (λ e. sym e) (choice _ n 0b100 _ _ (λ e. sym e) (choice _ n 0b101 _ _ (λ e. sym e)
    (choice _ n 0b110 _ _ (λ e. sym e) tt))))))

store_found : (n : ℕ) → IfFound (λ op. store_code op ≡ n) (store_at n)
unfolding store_at store_code
store_found n =
    choice _ n 0b000 _ _ (λ e. sym e) (choice _ n 0b001 _ _ (λ e. sym e) (choice _ n 0b010 _ _ (λ e. sym e)
    (choice _ n 0b011 _ _ (λ e. sym e) tt)))

imm_found : (n : ℕ) → IfFound (λ op. imm_code op ≡ n) (imm_at n)
unfolding imm_at imm_code
imm_found n =
    choice _ n 0b000 _ _ (λ e. sym e) (choice _ n 0b010 _ _ (λ e. sym e) (choice _ n 0b011 _ _ (λ e. sym e)
    (choice _ n 0b100 _ _ (λ e. sym e) (choice _ n 0b110 _ _ (λ e. sym e) (choice _ n 0b111 _ _ (λ e. sym e) tt)))))

-- of two fields
abbrev IsCode : {A : Type 0} → (A → ℕ × ℕ) → ℕ → ℕ → A → Type 0
IsCode code m n op = (m ≡ (code op).0) × (n ≡ (code op).1)

shift_found : (m n : ℕ) → IfFound (IsCode shift_code m n) (shift_at m n)
unfolding shift_at shift_code
shift_found m n =
    choice _ m 0b000000 _ _ (λ d. choice _ n 0b001 _ _ (λ e. (d, e)) (choice _ n 0b101 _ _ (λ e. (d, e)) tt))
    (choice _ m 0b010000 _ _ (λ d. choice _ n 0b101 _ _ (λ e. (d, e)) tt) tt)

shift32_found : (m n : ℕ) → IfFound (IsCode shift32_code m n) (shift32_at m n)
unfolding shift32_at shift32_code
shift32_found m n =
    choice _ m 0b0000000 _ _ (λ d. choice _ n 0b001 _ _ (λ e. (d, e)) (choice _ n 0b101 _ _ (λ e. (d, e)) tt))
    (choice _ m 0b0100000 _ _ (λ d. choice _ n 0b101 _ _ (λ e. (d, e)) tt) tt)

reg_found : (m n : ℕ) → IfFound (IsCode reg_code m n) (reg_at m n)
unfolding reg_at reg_code
reg_found m n =
    choice _ m 0b0000000 _ _ (λ d. choice _ n 0b000 _ _ (λ e. (d, e)) (choice _ n 0b001 _ _ (λ e. (d, e))
    (choice _ n 0b010 _ _ (λ e. (d, e)) (choice _ n 0b011 _ _ (λ e. (d, e)) (choice _ n 0b100 _ _ (λ e. (d, e))
    (choice _ n 0b101 _ _ (λ e. (d, e)) (choice _ n 0b110 _ _ (λ e. (d, e)) (choice _ n 0b111 _ _ (λ e. (d, e)) tt))))))))
    (choice _ m 0b0100000 _ _ (λ d. choice _ n 0b000 _ _ (λ e. (d, e)) (choice _ n 0b101 _ _ (λ e. (d, e)) tt))
    (choice _ m 0b0000001 _ _ (λ d. choice _ n 0b000 _ _ (λ e. (d, e)) (choice _ n 0b001 _ _ (λ e. (d, e))
    (choice _ n 0b010 _ _ (λ e. (d, e)) (choice _ n 0b011 _ _ (λ e. (d, e)) (choice _ n 0b100 _ _ (λ e. (d, e))
    (choice _ n 0b101 _ _ (λ e. (d, e)) (choice _ n 0b110 _ _ (λ e. (d, e)) (choice _ n 0b111 _ _ (λ e. (d, e)) tt))))))))
    tt))

reg32_found : (m n : ℕ) → IfFound (IsCode reg32_code m n) (reg32_at m n)
unfolding reg32_at reg32_code
reg32_found m n =
    choice _ m 0b0000000 _ _ (λ d. choice _ n 0b000 _ _ (λ e. (d, e)) (choice _ n 0b001 _ _ (λ e. (d, e))
    (choice _ n 0b101 _ _ (λ e. (d, e)) tt)))
    (choice _ m 0b0100000 _ _ (λ d. choice _ n 0b000 _ _ (λ e. (d, e)) (choice _ n 0b101 _ _ (λ e. (d, e)) tt))
    (choice _ m 0b0000001 _ _ (λ d. choice _ n 0b000 _ _ (λ e. (d, e)) (choice _ n 0b100 _ _ (λ e. (d, e))
    (choice _ n 0b101 _ _ (λ e. (d, e)) (choice _ n 0b110 _ _ (λ e. (d, e)) (choice _ n 0b111 _ _ (λ e. (d, e)) tt)))))
    tt))

-- each format puts the fields of a word back

u_again : (w opcode : ℕ) → w < 2 ^ 32 → bits w 6 0 ≡ opcode → u_word opcode (rd_of w) (u_imm w) ≡ w
u_again w opcode lt e = omega (arith, lt, e)

j_again : (w opcode : ℕ) → w < 2 ^ 32 → bits w 6 0 ≡ opcode → j_word opcode (rd_of w) (j_imm w) ≡ w
j_again w opcode lt e = omega (arith, lt, e)

i_again : (w opcode code : ℕ) → w < 2 ^ 32 → bits w 6 0 ≡ opcode → code ≡ funct3_of w
    → i_word opcode code (rd_of w) (rs1_of w) (i_imm w) ≡ w
i_again w opcode code lt e f = omega (arith, lt, e, f)

b_again : (w opcode code : ℕ) → w < 2 ^ 32 → bits w 6 0 ≡ opcode → code ≡ funct3_of w
    → b_word opcode code (rs1_of w) (rs2_of w) (b_imm w) ≡ w
b_again w opcode code lt e f = omega (arith, lt, e, f)

s_again : (w opcode code : ℕ) → w < 2 ^ 32 → bits w 6 0 ≡ opcode → code ≡ funct3_of w
    → s_word opcode code (rs1_of w) (rs2_of w) (s_imm w) ≡ w
s_again w opcode code lt e f = omega (arith, lt, e, f)

r_again : (w opcode code7 code3 : ℕ) → w < 2 ^ 32 → bits w 6 0 ≡ opcode → funct7_of w ≡ code7 → funct3_of w ≡ code3
    → r_word opcode code7 code3 (rd_of w) (rs1_of w) (rs2_of w) ≡ w
r_again w opcode code7 code3 lt e f g = omega (arith, lt, e, f, g)

shift_again : (w opcode code6 code3 : ℕ) → w < 2 ^ 32 → bits w 6 0 ≡ opcode → bits w 31 26 ≡ code6
    → funct3_of w ≡ code3 → i_word opcode code3 (rd_of w) (rs1_of w) (code6 * 2 ^ 6 + bits w 25 20) ≡ w
shift_again w opcode code6 code3 lt e f g = omega (arith, lt, e, f, g)

-- the instruction of a word

abbrev pub HasWord : ℕ → Instr → Type 0
HasWord w i = IsOfTable i × (word_of i ≡ w)

jalr_again : (w : ℕ) → w < 2 ^ 32 → bits w 6 0 ≡ 0b1100111 → IfFound (HasWord w) (jalr_of w)
unfolding jalr_of word_of
jalr_again w lt e =
    choice (HasWord w) (funct3_of w) 0b000 _ _
    (λ f. ((omega arith, omega arith, omega arith), i_again w 0b1100111 0b000 lt e (sym f))) tt

branch_again : (w : ℕ) → w < 2 ^ 32 → bits w 6 0 ≡ 0b1100011 → IfFound (HasWord w) (branch_of w)
unfolding branch_of word_of
branch_again w lt e =
    mapped _ (HasWord w) _ (branch_at (funct3_of w))
    (λ op f. ((omega arith, omega arith, omega arith, omega arith), b_again w 0b1100011 (branch_code op) lt e f))
    (branch_found (funct3_of w))

load_again : (w : ℕ) → w < 2 ^ 32 → bits w 6 0 ≡ 0b0000011 → IfFound (HasWord w) (load_of w)
unfolding load_of word_of
load_again w lt e =
    mapped _ (HasWord w) _ (load_at (funct3_of w))
    (λ op f. ((omega arith, omega arith, omega arith), i_again w 0b0000011 (load_code op) lt e f))
    (load_found (funct3_of w))

store_again : (w : ℕ) → w < 2 ^ 32 → bits w 6 0 ≡ 0b0100011 → IfFound (HasWord w) (store_of w)
unfolding store_of word_of
store_again w lt e =
    mapped _ (HasWord w) _ (store_at (funct3_of w))
    (λ op f. ((omega arith, omega arith, omega arith), s_again w 0b0100011 (store_code op) lt e f))
    (store_found (funct3_of w))

shift_imm_again : (w : ℕ) → w < 2 ^ 32 → bits w 6 0 ≡ 0b0010011 → IfFound (HasWord w) (shift_imm_of w)
unfolding shift_imm_of word_of
shift_imm_again w lt e =
    mapped _ (HasWord w) _ (shift_at (bits w 31 26) (funct3_of w))
    (λ op f. ((omega arith, omega arith, omega arith), shift_again w 0b0010011 (shift_code op).0 (shift_code op).1 lt e f.0 f.1))
    (shift_found (bits w 31 26) (funct3_of w))

imm_again : (w : ℕ) → w < 2 ^ 32 → bits w 6 0 ≡ 0b0010011 → IfFound (HasWord w) (imm_of w)
unfolding imm_of word_of
imm_again w lt e =
    mapped _ (HasWord w) _ (imm_at (funct3_of w))
    (λ op f. ((omega arith, omega arith, omega arith), i_again w 0b0010011 (imm_code op) lt e f))
    (imm_found (funct3_of w))

op_imm_again : (w : ℕ) → w < 2 ^ 32 → bits w 6 0 ≡ 0b0010011 → IfFound (HasWord w) (op_imm_of w)
unfolding op_imm_of
op_imm_again w lt e =
    choice (HasWord w) (funct3_of w) 0b001 _ _ (λ f. shift_imm_again w lt e)
    (choice (HasWord w) (funct3_of w) 0b101 _ _ (λ f. shift_imm_again w lt e) (imm_again w lt e))

op_imm32_again : (w : ℕ) → w < 2 ^ 32 → bits w 6 0 ≡ 0b0011011 → IfFound (HasWord w) (op_imm32_of w)
unfolding op_imm32_of word_of
op_imm32_again w lt e =
    choice (HasWord w) (funct3_of w) 0b000 _ _
    (λ f. ((omega arith, omega arith, omega arith), i_again w 0b0011011 0b000 lt e (sym f)))
    (mapped _ (HasWord w) _ (shift32_at (funct7_of w) (funct3_of w))
    (λ op f. ((omega arith, omega arith, omega arith), r_again w 0b0011011 (shift32_code op).0 (shift32_code op).1 lt e f.0 f.1))
    (shift32_found (funct7_of w) (funct3_of w)))

op_again : (w : ℕ) → w < 2 ^ 32 → bits w 6 0 ≡ 0b0110011 → IfFound (HasWord w) (op_of w)
unfolding op_of word_of
op_again w lt e =
    mapped _ (HasWord w) _ (reg_at (funct7_of w) (funct3_of w))
    (λ op f. ((omega arith, omega arith, omega arith), r_again w 0b0110011 (reg_code op).0 (reg_code op).1 lt e f.0 f.1))
    (reg_found (funct7_of w) (funct3_of w))

op32_again : (w : ℕ) → w < 2 ^ 32 → bits w 6 0 ≡ 0b0111011 → IfFound (HasWord w) (op32_of w)
unfolding op32_of word_of
op32_again w lt e =
    mapped _ (HasWord w) _ (reg32_at (funct7_of w) (funct3_of w))
    (λ op f. ((omega arith, omega arith, omega arith), r_again w 0b0111011 (reg32_code op).0 (reg32_code op).1 lt e f.0 f.1))
    (reg32_found (funct7_of w) (funct3_of w))

fence_again : (w : ℕ) → w < 2 ^ 32 → bits w 6 0 ≡ 0b0001111 → IfFound (HasWord w) (fence_of w)
unfolding fence_of word_of
fence_again w lt e =
    choice (HasWord w) (funct3_of w) 0b000 _ _
    (λ f. ((omega arith, omega arith, omega arith), i_again w 0b0001111 0b000 lt e (sym f))) tt

system_again : (w : ℕ) → IfFound (HasWord w) (system_of w)
unfolding system_of word_of
system_again w =
    choice (HasWord w) w 0x00000073 _ _ (λ e. (tt, sym e)) (choice (HasWord w) w 0x00100073 _ _ (λ e. (tt, sym e)) tt)

pub decoded_again : (w : ℕ) → w < 2 ^ 32 → IfFound (HasWord w) (decoded w)
unfolding decoded by_opcode word_of
decoded_again w lt =
    let o = bits w 6 0 in
    choice (HasWord w) o 0b0110111 _ _ (λ e. ((omega arith, omega arith), u_again w 0b0110111 lt e))
    (choice (HasWord w) o 0b0010111 _ _ (λ e. ((omega arith, omega arith), u_again w 0b0010111 lt e))
    (choice (HasWord w) o 0b1101111 _ _ (λ e. ((omega arith, omega arith, omega arith), j_again w 0b1101111 lt e))
    (choice (HasWord w) o 0b1100111 _ _ (jalr_again w lt)
    (choice (HasWord w) o 0b1100011 _ _ (branch_again w lt)
    (choice (HasWord w) o 0b0000011 _ _ (load_again w lt)
    (choice (HasWord w) o 0b0100011 _ _ (store_again w lt)
    (choice (HasWord w) o 0b0010011 _ _ (op_imm_again w lt)
    (choice (HasWord w) o 0b0011011 _ _ (op_imm32_again w lt)
    (choice (HasWord w) o 0b0110011 _ _ (op_again w lt)
    (choice (HasWord w) o 0b0111011 _ _ (op32_again w lt)
    (choice (HasWord w) o 0b0001111 _ _ (fence_again w lt)
    (choice (HasWord w) o 0b1110011 _ _ (λ e. system_again w) tt))))))))))))

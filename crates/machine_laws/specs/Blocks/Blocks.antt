-- The machine's instructions for the instructions of flat code.
use Rattle.std.specs.Prelude.{ℕ, zero, suc, ◌+◌, ◌-◌, ◌/◌, ◌%◌, ◌^◌, ◌<◌, ◌≤◌, ◌⊎◌, nat_lt, nat_le, if◌then◌else◌, List}
use Rattle.std.specs.Prelude.{[], ◌∷◌, ◌++◌, ◌==◌, Option, Some, None, Bool, false}
use Rattle.words.specs.TwosComplement.{low_bits}
use Rattle.rv_isa.specs.declared.instruction.LoadOp.TheVariants.{Ld, Lbu}
use Rattle.rv_isa.specs.declared.instruction.StoreOp.TheVariants.{Sb, Sd}
use Rattle.rv_isa.specs.declared.instruction.ImmOp.TheVariants.{Addi}
use Rattle.rv_isa.specs.declared.instruction.ShiftOp.TheVariants.{Slli, Srli}
use Rattle.rv_isa.specs.declared.instruction.RegOp.{RegOp}
use Rattle.rv_isa.specs.declared.instruction.RegOp.TheVariants.{Add, Sub, Mul}
use Rattle.rv_isa.specs.declared.instruction.RegOp32.{RegOp32}
use Rattle.rv_isa.specs.declared.instruction.Instr.{Instr}
use Rattle.rv_isa.specs.declared.instruction.Instr.TheVariants.{Lui, Load, Store, OpImm, ShiftImm, Op, Op32, Ecall}
use Rattle.flat_code.specs.declared.instruction.RightOperand.{RightOperand}
use Rattle.flat_code.specs.declared.instruction.RightOperand.TheVariants as right
use Rattle.flat_code.specs.declared.instruction.FlatInstruction.{FlatInstruction}
use Rattle.flat_code.specs.declared.instruction.FlatInstruction.TheVariants as flat
use Rattle.machine_laws.specs.declared.location.Location.{Location}
use Rattle.machine_laws.specs.declared.location.Location.TheVariants.{Register, Frame}
use Rattle.machine_laws.specs.Blocks.Immediates.{immediate_of, immediate32_of}
use Rattle.machine_laws.specs.Blocks.Places.{program_frame, argument_words, left_scratch, right_scratch}
use Rattle.machine_laws.specs.Blocks.Places.{address_scratch}

-- ---- constants

-- what LUI has of an address, and what is left of it for a sign-extended immediate
abbrev pub upper : ℕ → ℕ
upper n = (n + 2 ^ 11) / 2 ^ 12 % 2 ^ 20

abbrev pub lower : ℕ → ℕ
lower n = n % 2 ^ 12

abbrev pub wide : (rd n : ℕ) → List Instr
wide rd n = Lui rd (upper n) ∷ OpImm Addi rd rd (lower n) ∷ []

-- eleven bits at a time, the highest first
unfoldable pub digits : (count rd n : ℕ) → List Instr
digits zero rd n = OpImm Addi rd 0 (n % 2 ^ 11) ∷ []
digits (suc k) rd n =
    if nat_lt n (2 ^ 11)
    then OpImm Addi rd 0 (n % 2 ^ 11) ∷ []
    else digits k rd (n / 2 ^ 11) ++ (ShiftImm Slli rd rd 11 ∷ OpImm Addi rd rd (n % 2 ^ 11) ∷ [])

-- a number in a register: one instruction for -2048 to 2047, two for -2 ^ 31 to 2 ^ 31 - 2 ^ 11 - 1, and else at most
-- eleven
unfoldable pub constant : (rd n : ℕ) → List Instr
constant rd n =
    if nat_lt n (2 ^ 11) then OpImm Addi rd 0 (n % 2 ^ 12) ∷ [] else (
    if nat_le (2 ^ 64 - 2 ^ 11) n then OpImm Addi rd 0 (n % 2 ^ 12) ∷ [] else (
    if nat_lt n (2 ^ 31 - 2 ^ 11) then wide rd n else (
    if nat_le (2 ^ 64 - 2 ^ 31) n then wide rd n else digits 5 rd n)))

-- a number of 32 bits with its sign, which LUI and ADDI make
abbrev pub IsShort : ℕ → Type 0
IsShort n = (n < 2 ^ 31 - 2 ^ 11) ⊎ ((2 ^ 64 - 2 ^ 31 ≤ n) × (n < 2 ^ 64))

abbrev pub RightIsShort : RightOperand → Type 0
RightIsShort (right.Register z) = Unit {0}
RightIsShort (right.Number n) = IsShort n

-- ---- words of memory

-- the word so many bytes behind the address in a register: within 2048 bytes by one instruction, else by three
unfoldable pub load_at : (rd base offset : ℕ) → List Instr
load_at rd base o =
    if nat_lt o (2 ^ 11)
    then Load Ld rd base (o % 2 ^ 12) ∷ []
    else Lui rd (upper o) ∷ Op Add rd rd base ∷ Load Ld rd rd (lower o) ∷ []

unfoldable pub store_at : (from base offset : ℕ) → List Instr
store_at from base o =
    if nat_lt o (2 ^ 11)
    then Store Sd base from (o % 2 ^ 12) ∷ []
    else Lui address_scratch (upper o) ∷ Op Add address_scratch address_scratch base
    ∷ Store Sd address_scratch from (lower o) ∷ []

-- ---- operands and results

-- a value in a register: in its own, or in a scratch register
abbrev pub used : Location → (scratch : ℕ) → ℕ
used (Register r) t = r
used (Frame o) t = t

abbrev pub fetch : Location → (base scratch : ℕ) → List Instr
fetch (Register r) base t = []
fetch (Frame o) base t = load_at t base o

abbrev pub keep : Location → (base scratch : ℕ) → List Instr
keep (Register r) base t = []
keep (Frame o) base t = store_at t base o

-- x0 has the number 0
abbrev pub used_right : (ℕ → Location) → RightOperand → ℕ
used_right place (right.Register z) = used (place z) right_scratch
used_right place (right.Number n) = if n == 0 then 0 else right_scratch

abbrev pub fetch_right : (ℕ → Location) → (base : ℕ) → RightOperand → List Instr
fetch_right place base (right.Register z) = fetch (place z) base right_scratch
fetch_right place base (right.Number n) = if n == 0 then [] else constant right_scratch (low_bits 64 n)

-- ---- instructions that stay in their function

-- whether two places are one
abbrev pub is_same : Location → Location → Bool
is_same (Register a) (Register b) = a == b
is_same (Register a) (Frame b) = false
is_same (Frame a) (Register b) = false
is_same (Frame a) (Frame b) = a == b

-- a copy from one place to another; where both are one, there is none
abbrev pub move_block : (into from : Location) → (base : ℕ) → List Instr
move_block x y base =
    if is_same x y then [] else
    fetch y base left_scratch ++ (OpImm Addi (used x left_scratch) (used y left_scratch) 0 ∷ keep x base left_scratch)

-- what is done to both operands, and then the result is kept
abbrev pub operands : (ℕ → Location) → (base left : ℕ) → RightOperand → List Instr
operands place base y z = fetch (place y) base left_scratch ++ fetch_right place base z

-- an operator whose result goes to its place: by an instruction that has its right operand in itself, where there is
-- one, and else by one on two registers
abbrev pub operator_block : (ℕ → Location) → (base : ℕ) → (into : Location) → (left : ℕ) → RightOperand
    → (immediate : Option Instr) → (plain : Instr) → List Instr
operator_block place base x y z (Some i) plain = fetch (place y) base left_scratch ++ (i ∷ keep x base left_scratch)
operator_block place base x y z None plain = operands place base y z ++ (plain ∷ keep x base left_scratch)

abbrev pub operate_block : (ℕ → Location) → (base : ℕ) → RegOp → (into : Location) → (left : ℕ) → RightOperand
    → List Instr
operate_block place base op x y z =
    operator_block place base x y z (immediate_of op (used x left_scratch) (used (place y) left_scratch) z)
    (Op op (used x left_scratch) (used (place y) left_scratch) (used_right place z))

abbrev pub operate32_block : (ℕ → Location) → (base : ℕ) → RegOp32 → (into : Location) → (left : ℕ) → RightOperand
    → List Instr
operate32_block place base op x y z =
    operator_block place base x y z (immediate32_of op (used x left_scratch) (used (place y) left_scratch) z)
    (Op32 op (used x left_scratch) (used (place y) left_scratch) (used_right place z))

-- the bytes of the budget that are charged: half of what the frame has gone up from an address
abbrev pub charged_block : (into : Location) → (base begin : ℕ) → List Instr
charged_block x base begin =
    constant right_scratch begin
    ++ (Op Sub left_scratch program_frame right_scratch
    ∷ ShiftImm Srli (used x left_scratch) left_scratch 1 ∷ keep x base left_scratch)

-- what is asked for so many bytes of the words of arguments, by an environment call of a number
abbrev pub asks : (number descriptor count : ℕ) → List Instr
asks number descriptor count =
    OpImm Addi 17 0 number ∷ OpImm Addi 10 0 descriptor ∷ OpImm Addi 11 argument_words 0 ∷ OpImm Addi 12 0 count
    ∷ Ecall ∷ []

-- read of one byte gives 1 and the byte, or 0: the byte times the answer, plus the answer, less one
abbrev pub received_block : (into : Location) → (base : ℕ) → List Instr
received_block x base =
    Load Lbu 5 argument_words 0 ∷ Op Mul 5 5 10 ∷ OpImm Addi 6 10 (2 ^ 12 - 1) ∷ Op Add (used x 5) 5 6 ∷ keep x base 5

abbrev pub sent_block : (from : Location) → (base : ℕ) → List Instr
sent_block y base = fetch y base left_scratch ++ (Store Sb argument_words (used y left_scratch) 0 ∷ asks 64 1 1)

abbrev pub exit_block : (status : Location) → (base : ℕ) → List Instr
exit_block y base =
    fetch y base left_scratch ++ (OpImm Addi 10 (used y left_scratch) 0 ∷ OpImm Addi 17 0 93 ∷ Ecall ∷ [])

-- the machine's instructions for an instruction that stays in its function, but for its jump or branch, and that does
-- not end the run: where values are kept, the register of its activation record, and the first address less twice what
-- a call of it is charged
abbrev pub local_block : (ℕ → Location) → (base begin : ℕ) → FlatInstruction → List Instr
local_block place base begin (flat.Constant x n) =
    constant (used (place x) left_scratch) (low_bits 64 n) ++ keep (place x) base left_scratch
local_block place base begin (flat.Move x y) = move_block (place x) (place y) base
local_block place base begin (flat.Operate op x y z) = operate_block place base op (place x) y z
local_block place base begin (flat.Operate32 op x y z) = operate32_block place base op (place x) y z
local_block place base begin (flat.Load op x y offset) =
    fetch (place y) base left_scratch
    ++ (Load op (used (place x) left_scratch) (used (place y) left_scratch) (offset % 2 ^ 12)
    ∷ keep (place x) base left_scratch)
local_block place base begin (flat.Store op y offset x) =
    operands place base y (right.Register x)
    ++ (Store op (used (place y) left_scratch) (used (place x) right_scratch) (offset % 2 ^ 12) ∷ [])
local_block place base begin (flat.Branch op y z past) = operands place base y z
local_block place base begin (flat.JumpForward past) = []
local_block place base begin (flat.JumpBack back) = []
local_block place base begin flat.Turn = OpImm Addi 0 0 0 ∷ []
local_block place base begin (flat.Call g first x) = []
local_block place base begin (flat.CallAddress y first n x r) = []
local_block place base begin (flat.Return y) = []
local_block place base begin (flat.Get x) = asks 63 0 1 ++ received_block (place x) base
local_block place base begin (flat.Put x) = sent_block (place x) base
local_block place base begin (flat.Exit x) = exit_block (place x) base
local_block place base begin (flat.End e) = []
local_block place base begin (flat.Charged x) = charged_block (place x) base begin

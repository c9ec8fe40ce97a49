-- How many instructions the blocks have at most.
use Rattle.std.proofs.Common.{◌≡◌, ℕ, zero, suc, ◌+◌, ◌-◌, ◌*◌, ◌/◌, ◌%◌, ◌^◌, ◌<◌, ◌≤◌, List, [], ◌∷◌, ◌++◌, length}
use Rattle.std.proofs.Common.{◌⊎◌, inl, inr, ⊎_elim, Bool, true, false, refl, sym, ◌∙◌, subst, arith, length-append}
use Rattle.std.proofs.lemmas.Bool.{lt-ltb, le-leb, leb-true, false≢true}
use Rattle.words.specs.TwosComplement.{low_bits}
use Rattle.std.specs.Prelude.{◌==◌, nat_lt, nat_le, if◌then◌else◌, Option, Some, None}
use Rattle.rv_isa.specs.declared.instruction.Instr.{Instr}
use Rattle.rv_isa.specs.declared.instruction.Instr.TheVariants.{ShiftImm, OpImm}
use Rattle.rv_isa.specs.declared.instruction.ImmOp.TheVariants.{Addi}
use Rattle.rv_isa.specs.declared.instruction.ShiftOp.TheVariants.{Slli}
use Rattle.flat_code.specs.declared.instruction.RightOperand.{RightOperand}
use Rattle.flat_code.specs.declared.instruction.RightOperand.TheVariants as right
use Rattle.machine_laws.specs.declared.location.Location.{Location}
use Rattle.machine_laws.specs.declared.location.Location.TheVariants.{Register, Frame}
use Rattle.machine_laws.specs.Blocks.Blocks.{wide, digits, constant, load_at, store_at, fetch, keep, fetch_right}
use Rattle.machine_laws.specs.Blocks.Blocks.{operands}
use Rattle.machine_laws.specs.Blocks.Blocks.{operator_block, IsShort, RightIsShort}
use Rattle.machine_laws.specs.Blocks.Effects.{IsIn, RightIsIn}

-- one of two lists
pub choice : (b : Bool) (is js : List Instr) (n : ℕ) → length is ≤ n → length js ≤ n → length (if b then is else js) ≤ n
choice true is js n h k = h
choice false is js n h k = k

digits_length : (k rd n : ℕ) → length (digits k rd n) ≤ 2 * k + 1
unfolding digits
digits_length zero rd n = omega arith
digits_length (suc k) rd n =
    let more = ShiftImm Slli rd rd 11 ∷ OpImm Addi rd rd (n % 2 ^ 11) ∷ [] in
    let r = digits_length k rd (n / 2 ^ 11) in
    let whole = length-append (digits k rd (n / 2 ^ 11)) more in
    choice (nat_lt n (2 ^ 11)) (OpImm Addi rd 0 (n % 2 ^ 11) ∷ []) (digits k rd (n / 2 ^ 11) ++ more) (2 * suc k + 1)
    (omega arith) (omega arith)

pub constant_length : (rd n : ℕ) → length (constant rd n) ≤ 11
unfolding constant
constant_length rd n =
    let d = digits_length 5 rd n in
    choice (nat_lt n (2 ^ 11)) _ _ 11 (omega arith)
    (choice (nat_le (2 ^ 64 - 2 ^ 11) n) _ _ 11 (omega arith)
    (choice (nat_lt n (2 ^ 31 - 2 ^ 11)) _ _ 11 (omega arith)
    (choice (nat_le (2 ^ 64 - 2 ^ 31) n) _ (digits 5 rd n) 11 (omega arith) (omega arith))))

-- a number of 32 bits with its sign takes two
pub short_constant_length : (rd n : ℕ) → IsShort n → length (constant rd n) ≤ 2
unfolding constant
short_constant_length rd n small = by (nat_lt n (2 ^ 31 - 2 ^ 11)) (nat_le (2 ^ 64 - 2 ^ 31) n) (⊎_elim
    (λ l. inl (lt-ltb n (2 ^ 31 - 2 ^ 11) l))
    (λ g. inr (le-leb (2 ^ 64 - 2 ^ 31) n g.0))
    small)
  where
    by : (b d : Bool) → (b ≡ true) ⊎ (d ≡ true)
        → length (if nat_lt n (2 ^ 11) then OpImm Addi rd 0 (n % 2 ^ 12) ∷ [] else (
        if nat_le (2 ^ 64 - 2 ^ 11) n then OpImm Addi rd 0 (n % 2 ^ 12) ∷ [] else (
        if b then wide rd n else (if d then wide rd n else digits 5 rd n)))) ≤ 2
    by true d e = choice (nat_lt n (2 ^ 11)) _ _ 2 (omega arith)
        (choice (nat_le (2 ^ 64 - 2 ^ 11) n) _ (wide rd n) 2 (omega arith) (omega arith))
    by false true e = choice (nat_lt n (2 ^ 11)) _ _ 2 (omega arith)
        (choice (nat_le (2 ^ 64 - 2 ^ 11) n) _ (wide rd n) 2 (omega arith) (omega arith))
    by false false e = ⊎_elim (λ f. absurd (false≢true f)) (λ f. absurd (false≢true f)) e

-- the same of the 64 bits of one
pub short_bits_length : (rd n : ℕ) → IsShort n → length (constant rd (low_bits 64 n)) ≤ 2
short_bits_length rd n small =
    let same : low_bits 64 n ≡ n = omega (arith, below) in
    subst (λ k. length (constant rd k) ≤ 2) (sym same) (short_constant_length rd n small)
  where
    below : n < 2 ^ 64
    below = ⊎_elim (λ l. omega (arith, l)) (λ g. g.1) small

pub load_length : (rd base o : ℕ) → length (load_at rd base o) ≤ 3
unfolding load_at
load_length rd base o = choice (nat_lt o (2 ^ 11)) _ _ 3 (omega arith) (omega arith)

pub store_length : (from base o : ℕ) → length (store_at from base o) ≤ 3
unfolding store_at
store_length from base o = choice (nat_lt o (2 ^ 11)) _ _ 3 (omega arith) (omega arith)

pub fetch_length : (x : Location) (base t : ℕ) → length (fetch x base t) ≤ 3
fetch_length (Register r) base t = omega arith
fetch_length (Frame o) base t = load_length t base o

pub keep_length : (x : Location) (base t : ℕ) → length (keep x base t) ≤ 3
keep_length (Register r) base t = omega arith
keep_length (Frame o) base t = store_length t base o

-- How many instructions reach a home in a record of so many bytes: one where the offsets of loads and stores do, of
-- which that of the last word is eight less than the bytes.
abbrev pub home_reach : (room : ℕ) → ℕ
home_reach room = if nat_le room (2 ^ 11) then 1 else 3

near_by : (b : Bool) (is js : List Instr) (room o : ℕ) → nat_lt o (2 ^ 11) ≡ b → o + 8 ≤ room → length is ≤ 1
    → length js ≤ 3 → length (if b then is else js) ≤ home_reach room
near_by b is js room o e le one three = by b (nat_le room (2 ^ 11)) e refl
  where
    by : (b c : Bool) → nat_lt o (2 ^ 11) ≡ b → nat_le room (2 ^ 11) ≡ c
        → length (if b then is else js) ≤ (if c then 1 else 3)
    by true true p q = one
    by true false p q = omega arith
    by false true p q =
        let l = leb-true room (2 ^ 11) q in
        absurd (false≢true (sym p ∙ lt-ltb o (2 ^ 11) (omega arith)))
    by false false p q = three

pub load_reach : (room rd base o : ℕ) → o + 8 ≤ room → length (load_at rd base o) ≤ home_reach room
unfolding load_at
load_reach room rd base o le = near_by (nat_lt o (2 ^ 11)) _ _ room o refl le (omega arith) (omega arith)

pub store_reach : (room from base o : ℕ) → o + 8 ≤ room → length (store_at from base o) ≤ home_reach room
unfolding store_at
store_reach room from base o le = near_by (nat_lt o (2 ^ 11)) _ _ room o refl le (omega arith) (omega arith)

pub fetch_reach : (room : ℕ) (x : Location) (base t : ℕ) → IsIn room x → length (fetch x base t) ≤ home_reach room
fetch_reach room (Register r) base t h = omega arith
fetch_reach room (Frame o) base t h = load_reach room t base o h.1

pub keep_reach : (room : ℕ) (x : Location) (base t : ℕ) → IsIn room x → length (keep x base t) ≤ home_reach room
keep_reach room (Register r) base t h = omega arith
keep_reach room (Frame o) base t h = store_reach room t base o h.1

some_reach : (room : ℕ) → 1 ≤ home_reach room
some_reach room = by (nat_le room (2 ^ 11))
  where
    by : (b : Bool) → 1 ≤ (if b then 1 else 3)
    by true = omega arith
    by false = omega arith

-- a right operand takes one instruction more where it is a number of 32 bits
pub fetch_right_reach : (room : ℕ) (place : ℕ → Location) (base : ℕ) (z : RightOperand) → RightIsIn room place z
    → RightIsShort z → length (fetch_right place base z) ≤ home_reach room + 1
fetch_right_reach room place base (right.Register z) inside short =
    let r = fetch_reach room (place z) base 6 inside in omega arith
fetch_right_reach room place base (right.Number n) inside short =
    let c = short_bits_length 6 n short in
    let r = some_reach room in
    choice (n == 0) [] (constant 6 (low_bits 64 n)) (home_reach room + 1) (omega arith) (omega arith)

pub operands_reach : (room : ℕ) (place : ℕ → Location) (base y : ℕ) (z : RightOperand) → IsIn room (place y)
    → RightIsIn room place z → RightIsShort z
    → length (operands place base y z) ≤ 2 * home_reach room + 1
operands_reach room place base y z left inside short =
    let a = fetch_reach room (place y) base 5 left in
    let b = fetch_right_reach room place base z inside short in
    let whole = length-append (fetch (place y) base 5) (fetch_right place base z) in
    omega arith

-- an operator, whether it has its right operand in itself or not
pub operator_reach : (room : ℕ) (place : ℕ → Location) (base : ℕ) (x : Location) (y : ℕ) (z : RightOperand)
    (short : Option Instr) (plain : Instr) → IsIn room x → IsIn room (place y) → RightIsIn room place z
    → RightIsShort z → length (operator_block place base x y z short plain) ≤ 3 * home_reach room + 2
operator_reach room place base x y z None plain hx hy hz short =
    let a = operands_reach room place base y z hy hz short in
    let b = keep_reach room x base 5 hx in
    let c = length-append (operands place base y z) (plain ∷ keep x base 5) in
    omega arith
operator_reach room place base x y z (Some i) plain hx hy hz short =
    let a = fetch_reach room (place y) base 5 hy in
    let b = keep_reach room x base 5 hx in
    let c = length-append (fetch (place y) base 5) (i ∷ keep x base 5) in
    omega arith

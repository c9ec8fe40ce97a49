-- What a branch that is taken, or not, says of its operands, and which operands have it taken.
use Rattle.std.proofs.Common.{◌≡◌, ◌≢◌, ℕ, ◌+◌, ◌%◌, ◌^◌, ◌<◌, ◌≤◌, true, false, not, ap, arith}
use Rattle.std.specs.Prelude.{◌==◌, nat_lt}
use Rattle.std.proofs.lemmas.Bool.{not-true, not-false, eq-eqb, ne_eqb, eqb-true, eqb-false, lt-ltb, le-ltb}
use Rattle.std.proofs.lemmas.Bool.{ltb-true, ltb-false}
use Rattle.rv_isa.specs.declared.instruction.BranchOp.TheVariants.{Beq, Bne, Bge, Bltu, Bgeu}
use Rattle.rv_isa.specs.Results.{branch_taken}

-- ---- Beq

-- what it says of its operands
pub if_equal : (a b : ℕ) → branch_taken Beq a b ≡ true → a ≡ b
unfolding branch_taken
if_equal a b e = eqb-true a b e

pub if_unequal : (a b : ℕ) → branch_taken Beq a b ≡ false → a ≢ b
unfolding branch_taken
if_unequal a b e = eqb-false a b e

-- and which operands have it taken, or not
pub are_equal : (a b : ℕ) → a ≡ b → branch_taken Beq a b ≡ true
unfolding branch_taken
are_equal a b e = eq-eqb a b e

pub are_not_equal : (a b : ℕ) → a ≢ b → branch_taken Beq a b ≡ false
unfolding branch_taken
are_not_equal a b ne = ne_eqb a b ne

-- ---- Bne

-- what it says of its operands
pub if_differ : (a b : ℕ) → branch_taken Bne a b ≡ true → (a == b) ≡ false
unfolding branch_taken
if_differ a b e = not-true (a == b) e

pub if_same : (a b : ℕ) → branch_taken Bne a b ≡ false → (a == b) ≡ true
unfolding branch_taken
if_same a b e = not-false (a == b) e

pub if_apart : (a b : ℕ) → branch_taken Bne a b ≡ true → a ≢ b
if_apart a b e = eqb-false a b (if_differ a b e)

pub if_alike : (a b : ℕ) → branch_taken Bne a b ≡ false → a ≡ b
if_alike a b e = eqb-true a b (if_same a b e)

-- and which operands have it taken, or not
pub differ : (a b : ℕ) → a ≢ b → branch_taken Bne a b ≡ true
unfolding branch_taken
differ a b ne = ap not (ne_eqb a b ne)

pub do_not_differ : (a b : ℕ) → a ≡ b → branch_taken Bne a b ≡ false
unfolding branch_taken
do_not_differ a b e = ap not (eq-eqb a b e)

-- ---- Bge, with 0

-- what it says of a word: whether it has no sign
pub if_not_negative : (a : ℕ) → a < 2 ^ 64 → branch_taken Bge a 0 ≡ true → a < 2 ^ 63
unfolding branch_taken
if_not_negative a l e =
    let h = ltb-false ((a + 2 ^ 63) % 2 ^ 64) ((0 + 2 ^ 63) % 2 ^ 64)
    (not-true (nat_lt ((a + 2 ^ 63) % 2 ^ 64) ((0 + 2 ^ 63) % 2 ^ 64)) e) in omega arith

pub if_negative : (a : ℕ) → a < 2 ^ 64 → branch_taken Bge a 0 ≡ false → 2 ^ 63 ≤ a
unfolding branch_taken
if_negative a l e =
    let h = ltb-true ((a + 2 ^ 63) % 2 ^ 64) ((0 + 2 ^ 63) % 2 ^ 64)
    (not-false (nat_lt ((a + 2 ^ 63) % 2 ^ 64) ((0 + 2 ^ 63) % 2 ^ 64)) e) in omega arith

-- ---- Bltu

-- what it says of its operands
pub if_less : (a b : ℕ) → branch_taken Bltu a b ≡ true → a < b
unfolding branch_taken
if_less a b e = ltb-true a b e

pub if_not_less : (a b : ℕ) → branch_taken Bltu a b ≡ false → b ≤ a
unfolding branch_taken
if_not_less a b e = ltb-false a b e

-- and which operands have it taken, or not
pub is_less : (a b : ℕ) → a < b → branch_taken Bltu a b ≡ true
unfolding branch_taken
is_less a b l = lt-ltb a b l

pub is_not_less : (a b : ℕ) → b ≤ a → branch_taken Bltu a b ≡ false
unfolding branch_taken
is_not_less a b l = le-ltb a b l

-- ---- Bgeu

-- what it says of its operands
pub if_not_below : (a b : ℕ) → branch_taken Bgeu a b ≡ true → b ≤ a
unfolding branch_taken
if_not_below a b e = ltb-false a b (not-true (nat_lt a b) e)

pub if_below : (a b : ℕ) → branch_taken Bgeu a b ≡ false → a < b
unfolding branch_taken
if_below a b e = ltb-true a b (not-false (nat_lt a b) e)

-- and which operands have it taken, or not
pub not_below : (a b : ℕ) → b ≤ a → branch_taken Bgeu a b ≡ true
unfolding branch_taken
not_below a b l = ap not (le-ltb a b l)

pub is_below : (a b : ℕ) → a < b → branch_taken Bgeu a b ≡ false
unfolding branch_taken
is_below a b l = ap not (lt-ltb a b l)

-- Registers of pointers below those that are free.
use Rattle.std.proofs.Common.{◌≡◌, ◌≢◌, ℕ, ◌+◌, ◌<◌, ◌≤◌, ◌∷◌, Bool, true, false, if◌then◌else◌, subst, sym, arith}
use Rattle.flat_code.specs.declared.instruction.RightOperand.{RightOperand}
use Rattle.flat_code.specs.declared.instruction.RightOperand.TheVariants.{Register, Number}
use Rattle.flat_code.specs.declared.registers.Held.{Held}
use Rattle.flat_code.specs.Routines.Registers.{AreBelow, AreDistinct}
use Rattle.flat_code.specs.Routines.Metadata.{held_registers}
use Rattle.flat_actions.specs.Judgement.Testing.{IsBelow}
use Rattle.flat_actions.specs.Narrowing.{CanNarrow, IsOther}
use Rattle.runtime_functions.specs.Library.{held_from}
use Rattle.obj_memory.specs.declared.value.Scalar.{Scalar}
use Rattle.obj_memory.specs.declared.value.Scalar.TheVariants.{Integer, Pointer}
use Rattle.flat_actions.specs.Actions.{registers_of}
use Rattle.lib_wrappers.specs.declared.accesses.held.HeldScalar.{HeldScalar}
use Rattle.lib_wrappers.specs.AccessRoutines.Holding.{holder_in}
use Rattle.metadata_relation.specs.Blocks.{held_scalar, is_short, number_operand}

pub are_below : (d s : ℕ) → d + 5 ≤ s → AreBelow s (held_registers (held_from d))
are_below d s below =
    (omega (arith, below), (omega (arith, below), (omega (arith, below), (omega (arith, below), (omega (arith, below), tt)))))

pub all_below : (h : Held) (d a s : ℕ) → h ≡ held_from d → d + 5 ≤ s → a < s → AreBelow s (a ∷ held_registers h)
all_below h d a s e below lt =
    (lt, subst (λ z. AreBelow s (held_registers z)) (sym e) (are_below d s below))

above : (x y : ℕ) → y < x → x ≢ y
above x y lt e = omega (arith, lt, e)

under : (x y : ℕ) → x < y → x ≢ y
under x y lt e = omega (arith, lt, e)

-- the five registers of a value differ
pub are_distinct : (d : ℕ) → AreDistinct (held_registers (held_from d))
are_distinct d =
    let next : (n m : ℕ) → n < m → d + n ≢ d + m = λ n m lt. under (d + n) (d + m) (omega (arith, lt)) in (
      (under d (d + 1) (omega arith), (under d (d + 2) (omega arith), (under d (d + 3) (omega arith), (under d (d + 4) (omega arith), tt)))),
      (
        (next 1 2 (omega arith), (next 1 3 (omega arith), (next 1 4 (omega arith), tt))),
        (
          (next 2 3 (omega arith), (next 2 4 (omega arith), tt)),
          (
            (next 3 4 (omega arith), tt),
            (tt, tt),
          ),
        ),
      ),
    )

-- and so does one above them
pub are_apart : (d s : ℕ) → d + 5 ≤ s → AreDistinct (s ∷ held_registers (held_from d))
are_apart d s below = (
  (
    above s d (omega (arith, below)),
    (
      above s (d + 1) (omega (arith, below)),
      (
        above s (d + 2) (omega (arith, below)),
        (
          above s (d + 3) (omega (arith, below)),
          (
            above s (d + 4) (omega (arith, below)),
            tt,
          ),
        ),
      ),
    ),
  ),
  are_distinct d,
)

pub all_apart : (h : Held) (d s : ℕ) → h ≡ held_from d → d + 5 ≤ s → AreDistinct (s ∷ held_registers h)
all_apart h d s e below = subst (λ z. AreDistinct (s ∷ held_registers z)) (sym e) (are_apart d s below)

is_below : (b : Bool) (n r s : ℕ) → r < s → IsBelow s (if b then Number n else Register r)
is_below true n r s lt = tt
is_below false n r s lt = lt

pub operand_below : (o : RightOperand) (n r s : ℕ) → o ≡ number_operand n r → r < s → IsBelow s o
operand_below o n r s e lt = subst (λ z. IsBelow s z) (sym e) (is_below (is_short n) n r s lt)

is_other : (b : Bool) (n d r s : ℕ) → d + 5 ≤ r → r < s → IsOther (held_from d) s (if b then Number n else Register r)
is_other true n d r s below lt = tt
is_other false n d r s below lt = (
  lt,
  (
    above r d (omega (arith, below)),
    (
      above r (d + 1) (omega (arith, below)),
      (
        above r (d + 2) (omega (arith, below)),
        tt,
      ),
    ),
  ),
)

pub can_narrow : (h : Held) (by many : RightOperand) (d s offset size : ℕ) → h ≡ held_from d
    → by ≡ number_operand offset s → many ≡ number_operand size (s + 1) → d + 5 ≤ s → CanNarrow h by many (s + 2)
can_narrow h by many d s offset size same first second below =
    subst (λ z. CanNarrow z by many (s + 2)) (sym same)
    (subst (λ z. CanNarrow (held_from d) z many (s + 2)) (sym first)
    (subst (λ z. CanNarrow (held_from d) (number_operand offset s) z (s + 2)) (sym second) (record {
      below = are_below d (s + 2) (omega (arith, below));
      apart = are_distinct d;
      offset_is_other = is_other (is_short offset) offset d s (s + 2) below (omega arith);
      size_is_other = is_other (is_short size) size d (s + 1) (s + 2) (omega (arith, below)) (omega arith);
    })))

one_below : (k : Scalar) (d a s : ℕ) → d + 5 ≤ s → a < s
    → AreBelow s (a ∷ registers_of (holder_in (held_scalar k d)))
one_below (Integer t) d a s below lt = (lt, (omega (arith, below), tt))
one_below Pointer d a s below lt = (lt, are_below d s below)

pub scalar_below : (h : HeldScalar) (k : Scalar) (d a s : ℕ) → h ≡ held_scalar k d → d + 5 ≤ s → a < s
    → AreBelow s (a ∷ registers_of (holder_in h))
scalar_below h k d a s e below lt =
    subst (λ z. AreBelow s (a ∷ registers_of (holder_in z))) (sym e) (one_below k d a s below lt)

-- a new address behind the registers of the old pointer, whose entry stays
pub moved_below : (h : Held) (a d : ℕ) → h ≡ record { value = d + 5; tag = (held_from d).tag } → a < d
    → AreBelow (d + 6) (a ∷ held_registers h)
moved_below h a d e below =
    subst (λ z. AreBelow (d + 6) (a ∷ held_registers z)) (sym e)
    (omega (arith, below), (omega arith, (omega arith, (omega arith, (omega arith, (omega arith, tt))))))

-- an address in a register below those of a value
pub below_apart : (h : Held) (d a : ℕ) → h ≡ held_from d → a < d → AreDistinct (a ∷ held_registers h)
below_apart h d a e below =
    subst (λ z. AreDistinct (a ∷ held_registers z)) (sym e) (
      (
        under a d below,
        (
          under a (d + 1) (omega (arith, below)),
          (
            under a (d + 2) (omega (arith, below)),
            (
              under a (d + 3) (omega (arith, below)),
              (
                under a (d + 4) (omega (arith, below)),
                tt,
              ),
            ),
          ),
        ),
      ),
      are_distinct d,
    )

pub held_below : (h : Held) (d s : ℕ) → h ≡ held_from d → d + 5 ≤ s → AreBelow s (held_registers h)
held_below h d s e below = subst (λ z. AreBelow s (held_registers z)) (sym e) (are_below d s below)

pub held_distinct : (h : Held) (d : ℕ) → h ≡ held_from d → AreDistinct (held_registers h)
held_distinct h d e = subst (λ z. AreDistinct (held_registers z)) (sym e) (are_distinct d)

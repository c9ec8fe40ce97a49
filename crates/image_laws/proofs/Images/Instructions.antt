-- The instructions that an expansion has are ones of the machine: their numbers are short, and their lines have 32
-- bits. They make no access of memory and call no address.
use Rattle.std.proofs.Common.{◌≡◌, inl, inr, ℕ, zero, suc, ◌-◌, ◌^◌, ◌<◌, Bool, true, false}
use Rattle.std.proofs.Common.{◌||◌, ◌==◌, nat_lt, nat_le, List, [], ◌∷◌, ◌++◌, Some, refl, subst}
use Rattle.std.proofs.Common.{arith}
use Rattle.std.specs.Prelude.{if◌then◌else◌, slice_get}
use Rattle.std.proofs.lemmas.Bool.{ltb-true, leb-true}
use Rattle.sb_base.specs.declared.ending.Ending.TheVariants as ending
use Rattle.sb_base.specs.Endings.{code_of}
use Rattle.machine_laws.specs.Blocks.Tails.{line_of}
use Rattle.obj_memory.specs.declared.int_type.IntType.{IntType}
use Rattle.obj_memory.specs.declared.int_type.IntType.TheVariants as type
use Rattle.obj_memory.specs.declared.operator.UnaryOperator.{UnaryOperator}
use Rattle.obj_memory.specs.declared.operator.UnaryOperator.TheVariants as unary
use Rattle.obj_memory.specs.declared.operator.BinaryOperator.{BinaryOperator}
use Rattle.obj_memory.specs.declared.operator.BinaryOperator.TheVariants as binary
use Rattle.obj_memory.specs.Integers.{is_signed, size_of}
use Rattle.rv_isa.specs.declared.instruction.RegOp.{RegOp}
use Rattle.rv_isa.specs.declared.instruction.RegOp.TheVariants as op
use Rattle.rv_isa.specs.declared.instruction.RegOp32.{RegOp32}
use Rattle.rv_isa.specs.declared.instruction.RegOp32.TheVariants.{Addw, Subw, Mulw}
use Rattle.flat_code.specs.declared.instruction.FlatInstruction.{FlatInstruction}
use Rattle.flat_code.specs.declared.instruction.FlatInstruction.TheVariants as flat
use Rattle.machine_laws.specs.Blocks.Blocks.{IsShort, RightIsShort}
use Rattle.flat_operators.specs.Operators.{medium_code, long_code, wide_code, constant_code, conversion_code}
use Rattle.flat_operators.specs.Operators.{converted, wrapping_code}
use Rattle.flat_operators.specs.Operators.{shift_left_code, shift_right_code, divided_code, unary_code, binary_code}

-- what is asked of one
abbrev pub IsFit : FlatInstruction → Type 0
IsFit (flat.Constant x n) = IsShort n
IsFit (flat.Operate op x y z) = RightIsShort z
IsFit (flat.Operate32 op x y z) = RightIsShort z
IsFit (flat.Branch op y z past) = RightIsShort z
IsFit (flat.Load op x y offset) = ⊥
IsFit (flat.Store op y offset x) = ⊥
IsFit (flat.CallAddress y first n x r) = ⊥
IsFit (flat.End e) = (line_of e < 2 ^ 32) × (code_of e < 256)
IsFit _ = Unit {0}

-- of each of a list
abbrev pub AreFit : List FlatInstruction → Type 0
AreFit [] = Unit {0}
AreFit (i ∷ is) = IsFit i × AreFit is

pub fit_append : (is js : List FlatInstruction) → AreFit is → AreFit js → AreFit (is ++ js)
fit_append [] js a b = b
fit_append (i ∷ is) js a b = (a.0, fit_append is js a.1 b)

pub fit_at : (is : List FlatInstruction) (k : ℕ) (i : FlatInstruction) → AreFit is → slice_get is k ≡ Some i → IsFit i
fit_at [] k i a e = cc
fit_at (x ∷ is) zero i a e = let same : x ≡ i = cc in subst IsFit same a.0
fit_at (x ∷ is) (suc k) i a e = fit_at is k i a.1 e

pub fit_if : (b : Bool) (is js : List FlatInstruction) → AreFit is → AreFit js → AreFit (if b then is else js)
fit_if true is js x y = x
fit_if false is js x y = y

-- ---- endings

pub stack_fit : (line : ℕ) → line < 2 ^ 32 → IsFit (flat.End (ending.Stack line))
stack_fit line low = (low, omega arith)

pub abort_fit : (line : ℕ) → line < 2 ^ 32 → IsFit (flat.End (ending.Abort line))
abort_fit line low = (low, omega arith)

divide_fit : (line : ℕ) → line < 2 ^ 32 → IsFit (flat.End (ending.Divide line))
divide_fit line low = (low, omega arith)

-- ---- operators

pub short : (n : ℕ) → n < 2 ^ 31 - 2 ^ 11 → IsShort n
short n lt = inl lt

long_fit : (x w : ℕ) → w < 2 ^ 64 → AreFit (long_code x w)
long_fit x w below = by (nat_lt w (2 ^ 33)) refl
  where
    by : (b : Bool) → nat_lt w (2 ^ 33) ≡ b → AreFit (if b then medium_code x w else wide_code x w)
    by true e =
        let low = ltb-true w (2 ^ 33) e in (inl (omega (arith, low)), (inl (omega arith), (inl (omega arith), tt)))
    by false e = (
      inl (omega arith),
      (inl (omega arith), (inl (omega arith), (inl (omega arith), (inl (omega arith), tt)))),
    )

pub constant_fit : (x w : ℕ) → w < 2 ^ 64 → AreFit (constant_code x w)
unfolding constant_code
constant_fit x w below = by (nat_lt w (2 ^ 31 - 2 ^ 11)) refl (nat_le (2 ^ 64 - 2 ^ 31) w) refl
  where
    by : (a : Bool) → nat_lt w (2 ^ 31 - 2 ^ 11) ≡ a → (b : Bool) → nat_le (2 ^ 64 - 2 ^ 31) w ≡ b
        → AreFit (if a || b then flat.Constant x w ∷ [] else long_code x w)
    by true e b h = (inl (ltb-true w (2 ^ 31 - 2 ^ 11) e), tt)
    by false e true h = (inr (leb-true (2 ^ 64 - 2 ^ 31) w h, below), tt)
    by false e false h = long_fit x w below

pub conversion_fit : (t : IntType) (x y : ℕ) → AreFit (conversion_code t x y)
unfolding conversion_code
conversion_fit type.Char x y = (short 56 (omega arith), (short 56 (omega arith), tt))
conversion_fit type.SignedChar x y = (short 56 (omega arith), (short 56 (omega arith), tt))
conversion_fit type.UnsignedChar x y = (short 56 (omega arith), (short 56 (omega arith), tt))
conversion_fit type.Short x y = (short 48 (omega arith), (short 48 (omega arith), tt))
conversion_fit type.UnsignedShort x y = (short 48 (omega arith), (short 48 (omega arith), tt))
conversion_fit type.Int x y = (short 0 (omega arith), tt)
conversion_fit type.UnsignedInt x y = (short 32 (omega arith), (short 32 (omega arith), tt))
conversion_fit type.Long x y = (tt, tt)
conversion_fit type.UnsignedLong x y = (tt, tt)
conversion_fit type.LongLong x y = (tt, tt)
conversion_fit type.UnsignedLongLong x y = (tt, tt)

converted_fit : (t : IntType) (x : ℕ) → AreFit (converted t x)
converted_fit t x = fit_if (size_of t == 8) [] (conversion_code t x x) tt (conversion_fit t x x)

wrapping_fit : (o : RegOp) (o32 : RegOp32) (t : IntType) (x a b : ℕ) → AreFit (wrapping_code o o32 t x a b)
unfolding wrapping_code
wrapping_fit o o32 type.Int x a b = (tt, tt)
wrapping_fit o o32 type.Char x a b = (tt, converted_fit type.Char x)
wrapping_fit o o32 type.SignedChar x a b = (tt, converted_fit type.SignedChar x)
wrapping_fit o o32 type.UnsignedChar x a b = (tt, converted_fit type.UnsignedChar x)
wrapping_fit o o32 type.Short x a b = (tt, converted_fit type.Short x)
wrapping_fit o o32 type.UnsignedShort x a b = (tt, converted_fit type.UnsignedShort x)
wrapping_fit o o32 type.UnsignedInt x a b = (tt, converted_fit type.UnsignedInt x)
wrapping_fit o o32 type.Long x a b = (tt, converted_fit type.Long x)
wrapping_fit o o32 type.UnsignedLong x a b = (tt, converted_fit type.UnsignedLong x)
wrapping_fit o o32 type.LongLong x a b = (tt, converted_fit type.LongLong x)
wrapping_fit o o32 type.UnsignedLongLong x a b = (tt, converted_fit type.UnsignedLongLong x)

shift_left_fit : (t : IntType) (x a b : ℕ) → AreFit (shift_left_code t x a b)
unfolding shift_left_code
shift_left_fit t x a b = fit_if (size_of t == 8) _ _ (tt, tt) (tt, conversion_fit t x x)

shift_right_fit : (t : IntType) (x a b n : ℕ) → AreFit (shift_right_code t x a b n)
unfolding shift_right_code
shift_right_fit t x a b n = fit_if (size_of t == 8) _ _ (tt, tt) (short 31 (omega arith), (tt, tt))

divided_fit : (o : RegOp) (t : IntType) (line x a b : ℕ) → line < 2 ^ 32 → AreFit (divided_code o t line x a b)
divided_fit o t line x a b low = (short 0 (omega arith), (divide_fit line low, (tt, converted_fit t x)))

pub unary_fit : (o : UnaryOperator) (t : IntType) (x y n : ℕ) → AreFit (unary_code o t x y n)
unfolding unary_code
unary_fit unary.Plus t x y n = conversion_fit t x y
unary_fit unary.Negate t x y n = (short 0 (omega arith), (tt, converted_fit t x))
unary_fit unary.Complement t x y n = (inr (omega arith, omega arith), (tt, converted_fit t x))
unary_fit unary.Not t x y n = (short 1 (omega arith), tt)

pub binary_fit : (o : BinaryOperator) (t : IntType) (line x a b n : ℕ) → line < 2 ^ 32
    → AreFit (binary_code o t line x a b n)
unfolding binary_code
binary_fit binary.Add t line x a b n low = wrapping_fit op.Add Addw t x a b
binary_fit binary.Subtract t line x a b n low = wrapping_fit op.Sub Subw t x a b
binary_fit binary.Multiply t line x a b n low = wrapping_fit op.Mul Mulw t x a b
binary_fit binary.Divide t line x a b n low = divided_fit (if is_signed t then op.Div else op.Divu) t line x a b low
binary_fit binary.Remainder t line x a b n low = divided_fit (if is_signed t then op.Rem else op.Remu) t line x a b low
binary_fit binary.ShiftLeft t line x a b n low = shift_left_fit t x a b
binary_fit binary.ShiftRight t line x a b n low = shift_right_fit t x a b n
binary_fit binary.BitAnd t line x a b n low = (tt, tt)
binary_fit binary.BitXor t line x a b n low = (tt, tt)
binary_fit binary.BitOr t line x a b n low = (tt, tt)
binary_fit binary.Less t line x a b n low = (tt, tt)
binary_fit binary.Greater t line x a b n low = (tt, tt)
binary_fit binary.LessOrEqual t line x a b n low = (tt, (short 1 (omega arith), tt))
binary_fit binary.GreaterOrEqual t line x a b n low = (tt, (short 1 (omega arith), tt))
binary_fit binary.Equal t line x a b n low = (tt, (short 1 (omega arith), tt))
binary_fit binary.NotEqual t line x a b n low = (tt, (short 1 (omega arith), (short 1 (omega arith), tt)))

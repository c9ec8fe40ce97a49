-- Lists of instructions that change registers alone: each does its weight of work.
use Rattle.std.proofs.Common.{◌≡◌, ℕ, suc, ◌+◌, ◌*◌, ◌^◌, Bool, true, false, List, [], ◌∷◌, length, refl}
use Rattle.std.proofs.Common.{ap, ◌∙◌, arith, if◌then◌else◌}
use Rattle.std.specs.Prelude.{◌==◌, nat_lt}
use Rattle.std.proofs.Math.Nat.{suc-mul}
use Rattle.rv_isa.specs.declared.instruction.RegOp.{RegOp}
use Rattle.rv_isa.specs.declared.instruction.RegOp.TheVariants as op
use Rattle.rv_isa.specs.declared.instruction.RegOp32.{RegOp32}
use Rattle.rv_isa.specs.declared.instruction.RegOp32.TheVariants.{Sllw}
use Rattle.obj_memory.specs.declared.int_type.IntType.{IntType}
use Rattle.obj_memory.specs.declared.int_type.IntType.TheVariants.{Char, SignedChar, UnsignedChar, Short}
use Rattle.obj_memory.specs.declared.int_type.IntType.TheVariants.{UnsignedShort, Int, UnsignedInt, Long}
use Rattle.obj_memory.specs.declared.int_type.IntType.TheVariants.{UnsignedLong, LongLong, UnsignedLongLong}
use Rattle.obj_memory.specs.declared.operator.UnaryOperator.{UnaryOperator}
use Rattle.obj_memory.specs.declared.operator.UnaryOperator.TheVariants.{Plus, Negate, Complement, Not}
use Rattle.obj_memory.specs.Integers.{is_signed, size_of}
use Rattle.flat_code.specs.declared.instruction.RightOperand.TheVariants.{Register, Number}
use Rattle.flat_code.specs.declared.instruction.FlatInstruction.{FlatInstruction}
use Rattle.flat_code.specs.declared.instruction.FlatInstruction.TheVariants.{Constant, Move, Operate, Operate32}
use Rattle.flat_code.specs.declared.instruction.FlatInstruction.TheVariants.{Load, Store, Branch, JumpForward}
use Rattle.flat_code.specs.declared.instruction.FlatInstruction.TheVariants.{JumpBack, Turn, Call, CallAddress}
use Rattle.flat_code.specs.declared.instruction.FlatInstruction.TheVariants.{Return, Get, Put, Exit, End, Charged}
use Rattle.flat_code.specs.State.{State}
use Rattle.flat_code.specs.Meaning.{Context}
use Rattle.flat_code.specs.Routines.Effects.{effect, effects}
use Rattle.flat_operators.specs.Operators.{is_short, medium_code, long_code, wide_code, constant_code}
use Rattle.flat_operators.specs.Operators.{conversion_code, converted}
use Rattle.flat_operators.specs.Operators.{wrapping_code, shift_left_code, shift_right_code, unary_code}

abbrev pub IsPlain : FlatInstruction → Type 0
IsPlain (Constant x n) = Unit {0}
IsPlain (Move x y) = Unit {0}
IsPlain (Operate o x y z) = Unit {0}
IsPlain (Operate32 o x y z) = Unit {0}
IsPlain i = ⊥

abbrev pub ArePlain : List FlatInstruction → Type 0
ArePlain [] = Unit {0}
ArePlain (i ∷ is) = IsPlain i × ArePlain is

-- only registers and the work change
module _ (c : Context) where
  one_effect : (i : FlatInstruction) (s : State) → IsPlain i
      → effect c i s ≡ record s { values = (effect c i s).values; work = s.work + c.weight }
  one_effect (Constant x n) s h = refl
  one_effect (Move x y) s h = refl
  one_effect (Operate o x y z) s h = refl
  one_effect (Operate32 o x y z) s h = refl
  one_effect (Load o x y z) s h = absurd h
  one_effect (Store o x y z) s h = absurd h
  one_effect (Branch o x y z) s h = absurd h
  one_effect (JumpForward x) s h = absurd h
  one_effect (JumpBack x) s h = absurd h
  one_effect Turn s h = absurd h
  one_effect (Call f x y) s h = absurd h
  one_effect (CallAddress y x n z k) s h = absurd h
  one_effect (Return y) s h = absurd h
  one_effect (Get x) s h = absurd h
  one_effect (Put x) s h = absurd h
  one_effect (Exit x) s h = absurd h
  one_effect (End e) s h = absurd h
  one_effect (Charged x) s h = absurd h

  pub plain_effects : (is : List FlatInstruction) (s : State) → ArePlain is
      → effects c is s ≡ record s { values = (effects c is s).values; work = s.work + length is * c.weight }
  plain_effects [] s h = ap (λ w. record s { work = w }) (omega arith)
  plain_effects (i ∷ is) s h =
      let s1 = effect c i s in
      let last = (effects c is s1).values in
      let sum : s.work + c.weight + length is * c.weight ≡ s.work + suc (length is) * c.weight =
      omega (arith, suc-mul (length is) c.weight) in
      plain_effects is s1 h.1
      ∙ ap (λ (z : State). record z { values = last; work = z.work + length is * c.weight }) (one_effect i s h.0)
      ∙ ap (λ w. record s { values = last; work = w }) sum

-- ---- the lists of operators

plain_if : (b : Bool) (xs ys : List FlatInstruction) → ArePlain xs → ArePlain ys → ArePlain (if b then xs else ys)
plain_if true xs ys h k = h
plain_if false xs ys h k = k

pub plain_conversion : (t : IntType) (d x : ℕ) → ArePlain (conversion_code t d x)
unfolding conversion_code
plain_conversion t d x = by t
  where
    by : (t : IntType) → ArePlain (conversion_code t d x)
    by Char = (tt, (tt, tt))
    by SignedChar = (tt, (tt, tt))
    by UnsignedChar = (tt, (tt, tt))
    by Short = (tt, (tt, tt))
    by UnsignedShort = (tt, (tt, tt))
    by Int = (tt, tt)
    by UnsignedInt = (tt, (tt, tt))
    by Long = (tt, tt)
    by UnsignedLong = (tt, tt)
    by LongLong = (tt, tt)
    by UnsignedLongLong = (tt, tt)

pub plain_converted : (t : IntType) (d : ℕ) → ArePlain (converted t d)
plain_converted t d = plain_if (size_of t == 8) [] (conversion_code t d d) tt (plain_conversion t d d)

pub plain_constant : (d w : ℕ) → ArePlain (constant_code d w)
unfolding constant_code
plain_constant d w =
    plain_if (is_short w) (Constant d w ∷ []) (long_code d w) (tt, tt)
    (plain_if (nat_lt w (2 ^ 33)) (medium_code d w) (wide_code d w) (tt, (tt, (tt, tt)))
    (tt, (tt, (tt, (tt, (tt, tt))))))

pub plain_wrapping : (o : RegOp) (o32 : RegOp32) (t : IntType) (d a b : ℕ) → ArePlain (wrapping_code o o32 t d a b)
unfolding wrapping_code
plain_wrapping o o32 t d a b = by t
  where
    rest : (t : IntType) → ArePlain (Operate o d a (Register b) ∷ converted t d)
    rest t = (tt, plain_converted t d)

    by : (t : IntType) → ArePlain (wrapping_code o o32 t d a b)
    by Char = rest Char
    by SignedChar = rest SignedChar
    by UnsignedChar = rest UnsignedChar
    by Short = rest Short
    by UnsignedShort = rest UnsignedShort
    by Int = (tt, tt)
    by UnsignedInt = rest UnsignedInt
    by Long = rest Long
    by UnsignedLong = rest UnsignedLong
    by LongLong = rest LongLong
    by UnsignedLongLong = rest UnsignedLongLong

pub plain_left : (t : IntType) (d a b : ℕ) → ArePlain (shift_left_code t d a b)
unfolding shift_left_code
plain_left t d a b =
    plain_if (size_of t == 8) (Operate op.Sll d a (Register b) ∷ [])
    (Operate32 Sllw d a (Register b) ∷ conversion_code t d d) (tt, tt) (tt, plain_conversion t d d)

pub plain_right : (t : IntType) (d a b n : ℕ) → ArePlain (shift_right_code t d a b n)
unfolding shift_right_code
plain_right t d a b n =
    plain_if (size_of t == 8) (Operate (if is_signed t then op.Sra else op.Srl) d a (Register b) ∷ [])
    (Operate op.And n b (Number 31) ∷ Operate (if is_signed t then op.Sra else op.Srl) d a (Register n) ∷ []) (tt, tt)
    (tt, (tt, tt))

pub plain_unary : (o : UnaryOperator) (t : IntType) (d x n : ℕ) → ArePlain (unary_code o t d x n)
unfolding unary_code
plain_unary Plus t d x n = plain_conversion t d x
plain_unary Negate t d x n = (tt, (tt, plain_converted t d))
plain_unary Complement t d x n = (tt, (tt, plain_converted t d))
plain_unary Not t d x n = (tt, tt)

-- What the lists of constants and of pointers are made of.
use Rattle.std.proofs.Common.{◌≡◌, ℕ, ◌+◌, ◌-◌, ◌/◌, ◌%◌, ◌^◌, ◌<◌, Bool, true, false, ◌&&◌, ◌||◌, List, [], ◌∷◌, ◌++◌}
use Rattle.std.proofs.Common.{Option, Some, None}
use Rattle.std.proofs.Common.{refl, arith}
use Rattle.std.specs.Prelude.{nat_lt, nat_le, if◌then◌else◌, ◌==◌}
use Rattle.std.proofs.lemmas.Bool.{lt-ltb, ltb-true}
use Rattle.rv_isa.specs.declared.instruction.RegOp.{RegOp}
use Rattle.rv_isa.specs.declared.instruction.RegOp.TheVariants as op
use Rattle.flat_code.specs.declared.instruction.RightOperand.TheVariants.{Register, Number}
use Rattle.flat_code.specs.declared.instruction.FlatInstruction.{FlatInstruction}
use Rattle.flat_code.specs.declared.instruction.FlatInstruction.TheVariants.{Constant, Operate}
use Rattle.flat_code.specs.Routines.InputOutput.{IsWithoutInputOutput}
use Rattle.flat_code.specs.Routines.Shape.{is_short as holds, HasShape}
use Rattle.flat_code.proofs.Routines.InputOutput.{computes}
use Rattle.flat_code.proofs.Routines.Shape.{shaped, both, short_below, at_most, shaped_append}
use Rattle.flat_operators.specs.Operators.{is_short, appended, wide_code, medium_code, long_code, constant_code}
use Rattle.flat_operators.specs.Pointers.{shift_of, scaled_by, offset_code, difference_code}
use Rattle.flat_operators.specs.Results.{AreOperands}

-- ---- a choice has what both sides have

either : (P : List FlatInstruction → Type 0) (b : Bool) (xs ys : List FlatInstruction) → P xs → P ys
    → P (if b then xs else ys)
either P true xs ys x y = x
either P false xs ys x y = y

-- ---- constants

appended_shape : (count d k m : ℕ) → count < 64 → d < m → k < 2 ^ 20 → HasShape (appended count d k) 2 m
appended_shape count d k m shift l few =
    let x = lt-ltb d m l in
    shaped (appended count d k) 2 m (omega arith)
    (both _ _ (both _ _ x (both _ _ x (short_below count (omega (arith, shift)))))
    (both _ _ (both _ _ x (both _ _ x (short_below k (omega arith)))) refl))

wide_shape : (d w m : ℕ) → d < m → w < 2 ^ 64 → HasShape (wide_code d w) 5 m
wide_shape d w m l low =
    shaped_append (Constant d (w / 2 ^ 40) ∷ [])
    (appended 20 d (w / 2 ^ 20 % 2 ^ 20) ++ appended 20 d (w % 2 ^ 20)) 1 4 m
    (shaped (Constant d (w / 2 ^ 40) ∷ []) 1 m (omega arith)
    (both _ _ (both _ _ (lt-ltb d m l) (short_below (w / 2 ^ 40) (omega (arith, low)))) refl))
    (shaped_append (appended 20 d (w / 2 ^ 20 % 2 ^ 20)) (appended 20 d (w % 2 ^ 20)) 2 2 m
    (appended_shape 20 d (w / 2 ^ 20 % 2 ^ 20) m (omega arith) l (omega arith))
    (appended_shape 20 d (w % 2 ^ 20) m (omega arith) l (omega arith)))

medium_shape : (d w m : ℕ) → d < m → w < 2 ^ 33 → HasShape (medium_code d w) 3 m
medium_shape d w m l low =
    shaped_append (Constant d (w / 8) ∷ []) (appended 3 d (w % 8)) 1 2 m
    (shaped (Constant d (w / 8) ∷ []) 1 m (omega arith)
    (both _ _ (both _ _ (lt-ltb d m l) (short_below (w / 8) (omega (arith, low)))) refl))
    (appended_shape 3 d (w % 8) m (omega arith) l (omega arith))

-- a short word is one that an instruction holds
short_holds : (w : ℕ) → w < 2 ^ 64 → is_short w ≡ true → holds w ≡ true
short_holds w low e = by (nat_lt w (2 ^ 31 - 2 ^ 11)) (nat_le (2 ^ 64 - 2 ^ 31) w) (nat_lt w (2 ^ 64)) (lt-ltb w (2 ^ 64) low) e
  where
    by : (a b c : Bool) → c ≡ true → (a || b) ≡ true → (a || (b && c)) ≡ true
    by true b c f e = refl
    by false true c f e = f
    by false false c f e = absurd cc

short_shape : (d w n : ℕ) → d < n → w < 2 ^ 64 → is_short w ≡ true → HasShape (Constant d w ∷ []) 1 n
short_shape d w n l low e =
    shaped (Constant d w ∷ []) 1 n (omega arith) (both _ _ (both _ _ (lt-ltb d n l) (short_holds w low e)) refl)

long_shape : (d w n : ℕ) → d < n → w < 2 ^ 64 → HasShape (long_code d w) 5 n
long_shape d w n l low = by (nat_lt w (2 ^ 33)) refl
  where
    by : (b : Bool) → nat_lt w (2 ^ 33) ≡ b → HasShape (if b then medium_code d w else wide_code d w) 5 n
    by true e = at_most 3 5 (omega arith) (medium_shape d w n l (ltb-true w (2 ^ 33) e))
    by false e = wide_shape d w n l low

pub constant_shape : (d n w : ℕ) → d < n → w < 2 ^ 64 → HasShape (constant_code d w) 5 n
unfolding constant_code
constant_shape d n w l low = by (is_short w) refl
  where
    by : (b : Bool) → is_short w ≡ b → HasShape (if b then Constant d w ∷ [] else long_code d w) 5 n
    by true e = at_most 1 5 (omega arith) (short_shape d w n l low e)
    by false e = long_shape d w n l low

pub few_shape : (d n w : ℕ) → d < n → w < 2 ^ 33 → HasShape (constant_code d w) 3 n
unfolding constant_code
few_shape d n w l low = by (is_short w) refl
  where
    long : (b : Bool) → b ≡ true → HasShape (if b then medium_code d w else wide_code d w) 3 n
    long true e = medium_shape d w n l low
    long false e = cc

    by : (b : Bool) → is_short w ≡ b → HasShape (if b then Constant d w ∷ [] else long_code d w) 3 n
    by true e = at_most 1 3 (omega arith) (short_shape d w n l (omega (arith, low)) e)
    by false e = long (nat_lt w (2 ^ 33)) (lt-ltb w (2 ^ 33) low)

-- ---- pointers

operate_shape : (o : RegOp) (d a b m : ℕ) → d < m → a < m → b < m → HasShape (Operate o d a (Register b) ∷ []) 1 m
operate_shape o d a b m ld la lb =
    shaped (Operate o d a (Register b) ∷ []) 1 m (omega arith)
    (both _ _ (both _ _ (lt-ltb d m ld) (both _ _ (lt-ltb a m la) (lt-ltb b m lb))) refl)

-- shifts are by fewer bits than a word has
small_shift : (size : ℕ) → (bits : ℕ) → shift_of size ≡ Some bits → bits < 64
small_shift size bits e = by (size == 2) (size == 4) (size == 8) e
  where
    by : (a b c : Bool) → (if a then Some 1 else if b then Some 2 else if c then Some 3 else None) ≡ Some bits → bits < 64
    by true b c e = let h : 1 ≡ bits = cc in omega (arith, h)
    by false true c e = let h : 2 ≡ bits = cc in omega (arith, h)
    by false false true e = let h : 3 ≡ bits = cc in omega (arith, h)
    by false false false e = absurd cc

scaled_shape : (size i n : ℕ) → size < 2 ^ 64 → i < n → HasShape (scaled_by (shift_of size) i size n) 6 (n + 1)
scaled_shape size i n low l = by (shift_of size) refl
  where
    by : (shift : Option ℕ) → shift_of size ≡ shift → HasShape (scaled_by shift i size n) 6 (n + 1)
    by (Some bits) e =
        shaped (Operate op.Sll n i (Number bits) ∷ []) 6 (n + 1) (omega arith)
        (both _ _ (both _ _ (lt-ltb n (n + 1) (omega arith)) (both _ _ (lt-ltb i (n + 1) (omega arith))
        (short_below bits (let h = small_shift size bits e in omega (arith, h))))) refl)
    by None e =
        shaped_append (constant_code n size) (Operate op.Mul n i (Register n) ∷ []) 5 1 (n + 1)
        (constant_shape n (n + 1) size (omega arith) low)
        (operate_shape op.Mul n i n (n + 1) (omega arith) (omega arith) (omega arith))

pub offset_shape : (o : RegOp) (size d a i n : ℕ) → size < 2 ^ 64 → AreOperands d a i n
    → HasShape (offset_code o size d a i n) 7 (n + 1)
unfolding offset_code
offset_shape o size d a i n low h =
    let x = h.into_below in let y = h.left_below in let z = h.right_below in
    either (λ l. HasShape l 7 (n + 1)) (size == 1) (Operate o d a (Register i) ∷ [])
    (scaled_by (shift_of size) i size n ++ Operate o d a (Register n) ∷ [])
    (at_most 1 7 (omega arith) (operate_shape o d a i (n + 1) (omega arith) (omega arith) (omega arith)))
    (shaped_append (scaled_by (shift_of size) i size n) (Operate o d a (Register n) ∷ []) 6 1 (n + 1)
    (scaled_shape size i n low z) (operate_shape o d a n (n + 1) (omega arith) (omega arith) (omega arith)))

pub difference_shape : (size d a b n : ℕ) → size < 2 ^ 64 → AreOperands d a b n
    → HasShape (difference_code size d a b n) 7 (n + 1)
unfolding difference_code
difference_shape size d a b n low h =
    let x = h.into_below in let y = h.left_below in let z = h.right_below in
    shaped_append (constant_code n size) (Operate op.Sub d a (Register b) ∷ Operate op.Div d d (Register n) ∷ []) 5 2 (n + 1)
    (constant_shape n (n + 1) size (omega arith) low)
    (shaped_append (Operate op.Sub d a (Register b) ∷ []) (Operate op.Div d d (Register n) ∷ []) 1 1 (n + 1)
    (operate_shape op.Sub d a b (n + 1) (omega arith) (omega arith) (omega arith))
    (operate_shape op.Div d d n (n + 1) (omega arith) (omega arith) (omega arith)))

-- ---- they take no input and put no output

pub constant_computes : (d w : ℕ) → IsWithoutInputOutput (constant_code d w)
unfolding constant_code
constant_computes d w =
    either IsWithoutInputOutput (is_short w) (Constant d w ∷ []) (long_code d w) (computes (Constant d w ∷ []) refl)
    (either IsWithoutInputOutput (nat_lt w (2 ^ 33)) (medium_code d w) (wide_code d w)
    (computes (medium_code d w) refl) (computes (wide_code d w) refl))

-- what stands behind a constant
behind_constant : (d w : ℕ) (rest : List FlatInstruction) → IsWithoutInputOutput rest
    → IsWithoutInputOutput (constant_code d w ++ rest)
unfolding constant_code
behind_constant d w rest h = by (is_short w) (nat_lt w (2 ^ 33))
  where
    by : (a b : Bool) → IsWithoutInputOutput
        ((if a then Constant d w ∷ [] else if b then medium_code d w else wide_code d w) ++ rest)
    by true b = computes (Constant d w ∷ rest) h.none
    by false true = computes (medium_code d w ++ rest) h.none
    by false false = computes (wide_code d w ++ rest) h.none

pub offset_computes : (o : RegOp) (size d a i n : ℕ) → IsWithoutInputOutput (offset_code o size d a i n)
unfolding offset_code constant_code
offset_computes o size d a i n = by (size == 1) (shift_of size)
  where
    last : List FlatInstruction
    last = Operate o d a (Register n) ∷ []

    -- the product of a constant
    product : (short medium : Bool) → IsWithoutInputOutput (((if short then Constant n size ∷ []
        else if medium then medium_code n size else wide_code n size)
        ++ Operate op.Mul n i (Register n) ∷ []) ++ last)
    product true medium = computes _ refl
    product false true = computes _ refl
    product false false = computes _ refl

    by : (one : Bool) (shift : Option ℕ)
        → IsWithoutInputOutput (if one then Operate o d a (Register i) ∷ [] else scaled_by shift i size n ++ last)
    by true shift = computes (Operate o d a (Register i) ∷ []) refl
    by false (Some bits) = computes (scaled_by (Some bits) i size n ++ last) refl
    by false None = product (is_short size) (nat_lt size (2 ^ 33))

pub difference_computes : (size d a b n : ℕ) → IsWithoutInputOutput (difference_code size d a b n)
unfolding difference_code
difference_computes size d a b n =
    behind_constant n size (Operate op.Sub d a (Register b) ∷ Operate op.Div d d (Register n) ∷ [])
    (computes (Operate op.Sub d a (Register b) ∷ Operate op.Div d d (Register n) ∷ []) refl)

-- What the judgement of an access is made of, and a pointer that is given.
use Rattle.std.proofs.Common.{◌≡◌, ℕ, ◌+◌, ◌<◌, [], ◌∷◌, ◌++◌, refl, arith, List, true}
use Rattle.std.specs.Prelude.{nat_lt}
use Rattle.std.proofs.lemmas.Bool.{lt-ltb, ltb-true}
use Rattle.rv_isa.specs.declared.instruction.BranchOp.TheVariants.{Beq}
use Rattle.flat_code.specs.declared.instruction.RightOperand.{RightOperand}
use Rattle.flat_code.specs.declared.instruction.RightOperand.TheVariants.{Register, Number}
use Rattle.flat_code.specs.declared.instruction.FlatInstruction.{FlatInstruction}
use Rattle.flat_code.specs.declared.registers.Held.{Held}
use Rattle.flat_code.specs.Routines.Registers.{AreBelow}
use Rattle.flat_code.specs.Routines.Metadata.{held_registers}
use Rattle.flat_code.specs.Routines.Shape.{HasShape, has_right}
use Rattle.flat_code.proofs.Routines.Distinct.{below_more}
use Rattle.flat_code.proofs.Routines.Shape.{shaped, both, piece, below_both, shaped_append, shaped_unless}
use Rattle.flat_actions.specs.Lists.{give_code, guarded_code}
use Rattle.flat_actions.specs.Judgement.Code.{spatial_code, temporal_code, judge_code}
use Rattle.flat_actions.specs.Narrowing.{narrow_code}

-- a pointer in five registers from one on
abbrev pub pointer_from : ℕ → Held
pointer_from r = record { value = r; tag = record { base = r + 1; bound = r + 2; key = r + 3; lock = r + 4 } }

pub judge_shape : (h : Held) (n line t : ℕ) → AreBelow t (n ∷ held_registers h)
    → HasShape (judge_code h n line t) 10 (t + 1)
judge_shape h n line t below =
    piece (t + 1) ((n ∷ held_registers h) ++ t ∷ []) (judge_code (pointer_from 1) 0 line 6) 10
    (below_both (t + 1) (n ∷ held_registers h) (t ∷ []) (below_more t (t + 1) (n ∷ held_registers h) (omega arith) below) (omega arith, tt))
    refl refl

pub give_shape : (m : ℕ) (a b : Held) → AreBelow m (held_registers a) → AreBelow m (held_registers b)
    → HasShape (give_code a b) 5 m
give_shape m a b below into =
    piece m (held_registers a ++ held_registers b) (give_code (pointer_from 0) (pointer_from 5)) 5
    (below_both m (held_registers a) (held_registers b) below into) refl refl

pub guarded_shape : (m n : ℕ) (a b : Held) (act : List FlatInstruction) (k : ℕ) → n < m
    → AreBelow m (held_registers a) → AreBelow m (held_registers b) → HasShape act k m
    → HasShape (guarded_code n a b act) (k + 1 + 5) m
guarded_shape m n a b act k l below into h =
    shaped_append _ _ (k + 1) 5 m (shaped_unless Beq n (Number 0) act k m l refl h) (give_shape m a b below into)

-- ---- lists that stand inline

-- a register of a list that is below a number
lower : (x t : ℕ) → x < t → nat_lt x (t + 1) ≡ true
lower x t l = lt-ltb x (t + 1) (omega arith)

right_lower : (t : ℕ) (z : RightOperand) → has_right t z ≡ true → has_right (t + 1) z ≡ true
right_lower t (Register x) e = lower x t (ltb-true x t e)
right_lower t (Number n) e = e

pub temporal_shape : (h : Held) (line t : ℕ) → AreBelow t (held_registers h)
    → HasShape (temporal_code h line t) 3 (t + 1)
temporal_shape h line t below =
    piece (t + 1) (held_registers h ++ t ∷ []) (temporal_code (pointer_from 0) line 5) 3
    (below_both (t + 1) (held_registers h) (t ∷ []) (below_more t (t + 1) (held_registers h) (omega arith) below)
    (omega arith, tt)) refl refl

pub spatial_shape : (h : Held) (size : RightOperand) (line t : ℕ) → AreBelow t (held_registers h)
    → has_right t size ≡ true → HasShape (spatial_code h size line t) 7 (t + 1)
spatial_shape h size line t below e =
    let v = lower h.value t below.0 in
    let b = lower h.tag.base t below.1.0 in
    let d = lower h.tag.bound t below.1.1.0 in
    let own = lt-ltb t (t + 1) (omega arith) in
    shaped (spatial_code h size line t) 7 (t + 1) (omega arith)
    (both _ _ (both _ _ v b) (both _ _ (both _ _ d v) (both _ _ (both _ _ own (both _ _ d v))
    (both _ _ (both _ _ own (right_lower t size e)) refl))))

pub narrow_shape : (h : Held) (offset size : RightOperand) (t : ℕ) → AreBelow t (held_registers h)
    → has_right t offset ≡ true → has_right t size ≡ true → HasShape (narrow_code h offset size t) 8 (t + 1)
narrow_shape h offset size t below o s =
    let v = lower h.value t below.0 in
    let b = lower h.tag.base t below.1.0 in
    let d = lower h.tag.bound t below.1.1.0 in
    let l = lower h.tag.lock t below.1.1.1.1.0 in
    let own = lt-ltb t (t + 1) (omega arith) in
    let by = right_lower t offset o in
    let many = right_lower t size s in
    shaped (narrow_code h offset size t) 8 (t + 1) (omega arith)
    (both _ _ (both _ _ v (both _ _ v by)) (both _ _ (both _ _ l refl) (both _ _ (both _ _ b v) (both _ _ (both _ _ b v)
    (both _ _ (both _ _ d v) (both _ _ (both _ _ own (both _ _ d v)) (both _ _ (both _ _ own many)
    (both _ _ (both _ _ d (both _ _ v many)) refl))))))))

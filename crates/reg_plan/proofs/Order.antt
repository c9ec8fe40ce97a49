-- Live ranges whose intervals stand in order.
use Rattle.std.proofs.Common.{◌≡◌, ℕ, ◌<◌, ◌≤◌, ⊎_elim, List, [], length, Some, None, true, false}
use Rattle.std.proofs.Common.{sym, ap, ◌∙◌, subst, arith}
use Rattle.std.specs.Prelude.{slice_get, nat_le, Vec}
use Rattle.std.specs.Global.{Global}
use Rattle.std.specs.List.{AllWithin, AllAdjacentBelow}
use Rattle.std.proofs.lemmas.Bool.{cases_lt, cases_Bool, leb-true, leb-false, le-leb, lt-leb}
use Rattle.std.proofs.lemmas.Option.{slice_get_within, slice_get_cases, get_or_from_slice_get}
use Rattle.std.proofs.lemmas.List.Sorted.{IsNonDecreasingBy-from_all_adjacent}
use Rattle.reg_plan.specs.declared.plan.LiveInterval.{LiveInterval}
use Rattle.reg_plan.specs.Accepted.{covers, intervals_of}
use Rattle.reg_plan.specs.Colours.{range_of}
use Rattle.reg_plan.specs.Order.{IsInOrder, AreInOrder}
use Rattle.reg_plan.specs.Occupied.{AreParted}
use Rattle.reg_plan.proofs.GivingOut.{covers_at, covers_by, holds_low, holds_high, holds_between}

pub parted : (range : List LiveInterval) (pc k : ℕ) → AllWithin (λ i. nat_le i.end pc ≡ true) range 0 k
    → AllWithin (λ i. nat_le i.end pc ≡ false) range k (length range) → AreParted range pc k
parted range pc k low high = record {
  before = λ j i h lt. leb-true i.end pc
      (subst (λ (x : LiveInterval). nat_le x.end pc ≡ true) (get_or_from_slice_get range j i i h)
      (low j i (omega arith) lt));
  behind = λ j i h le. leb-false i.end pc
      (subst (λ (x : LiveInterval). nat_le x.end pc ≡ false) (get_or_from_slice_get range j i i h)
      (high j i le (slice_get_within range j i h)));
}

pub uncovered : (range : List LiveInterval) (pc : ℕ)
    → ((j : ℕ) (i : LiveInterval) → slice_get range j ≡ Some i → i.start ≤ pc → pc < i.end → ⊥)
    → covers range pc ≡ false
uncovered range pc none = ⊎_elim
    (λ yes. let o = covers_by range pc yes in
    absurd (none o.0 o.1 o.2 (holds_low o.1 pc o.3) (holds_high o.1 pc o.3)))
    (λ no. no)
    (cases_Bool (covers range pc))

-- what the first interval that ends behind an instruction says of the live range
pub first_covers : (range : List LiveInterval) (pc k : ℕ) (i : LiveInterval) → IsInOrder range
    → AllWithin (λ i. nat_le i.end pc ≡ true) range 0 k → AllWithin (λ i. nat_le i.end pc ≡ false) range k (length range)
    → slice_get range k ≡ Some i → nat_le i.start pc ≡ covers range pc
first_covers range pc k i order low high h =
    let p = parted range pc k low high in
    ⊎_elim
    (λ behind. lt-leb i.start pc behind ∙ sym (uncovered range pc (λ j x at begins ends. ⊎_elim
    (λ first. let e = p.before j x at first in omega (arith, e, ends))
    (λ later. let up = order.starts k j i later (slice_get_within range j x at) in
    let a = get_or_from_slice_get range k i i h in
    let b = get_or_from_slice_get range j x i at in
    omega (arith, up, ap (λ (y : LiveInterval). y.start) a, ap (λ (y : LiveInterval). y.start) b, begins, behind))
    (cases_lt j k))))
    (λ begins. le-leb i.start pc begins
    ∙ sym (covers_at range k pc i h (holds_between i pc begins (p.behind k i h (omega arith)))))
    (cases_lt pc i.start)

pub none_covers : (range : List LiveInterval) (pc k : ℕ)
    → AllWithin (λ i. nat_le i.end pc ≡ true) range 0 k → AllWithin (λ i. nat_le i.end pc ≡ false) range k (length range)
    → slice_get range k ≡ None → false ≡ covers range pc
none_covers range pc k low high h =
    let p = parted range pc k low high in
    sym (uncovered range pc (λ j x at begins ends. ⊎_elim
    (λ first. let e = p.before j x at first in omega (arith, e, ends))
    (λ later. ⊎_elim
    (λ inside. let q : Some inside.0 ≡ None = sym inside.2 ∙ h in cc)
    (λ past. let l = slice_get_within range j x at in let o = past.0 in omega (arith, l, later, o))
    (slice_get_cases range k).1)
    (cases_lt j k)))

-- intervals of which each neither begins nor ends before the one in front of it
pub ordered : (range : List LiveInterval) → AllAdjacentBelow (λ i j. i.start ≤ j.start) range (length range)
    → AllAdjacentBelow (λ i j. i.end ≤ j.end) range (length range) → IsInOrder range
ordered range starts ends = record {
  starts = IsNonDecreasingBy-from_all_adjacent (λ i. i.start) range starts;
  ends = IsNonDecreasingBy-from_all_adjacent (λ i. i.end) range ends;
}

empty_ordered : IsInOrder []
empty_ordered = record {
  starts = λ i j d le lt. absurd (omega arith);
  ends = λ i j d le lt. absurd (omega arith);
}

pub all_ordered : (ranges : List (Vec LiveInterval Global)) → ((y : ℕ) → y < length ranges → IsInOrder (range_of ranges y))
    → AreInOrder ranges
all_ordered ranges each y = ⊎_elim
    (λ inside. each y inside.1)
    (λ past. subst (λ r. IsInOrder (intervals_of r)) (sym past.1) empty_ordered)
    (slice_get_cases ranges y).1

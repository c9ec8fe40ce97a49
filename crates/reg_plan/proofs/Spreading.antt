-- Intervals that stand in order, of which none overlap.
use Rattle.std.proofs.Common.{◌≡◌, ◌≢◌, ℕ, zero, suc, ◌+◌, ◌<◌, ◌≤◌, ◌⊎◌, inl, inr, ⊎_elim, List, [], ◌∷◌, ◌++◌, length}
use Rattle.std.proofs.Common.{Some, Bool, true, false, ◌||◌, refl, sym, ap, ◌∙◌, subst, arith, true≢false, get_or}
use Rattle.std.specs.Prelude.{slice_get}
use Rattle.std.specs.List.Sorted.{IsNonDecreasingBy}
use Rattle.std.specs.List.{insert}
use Rattle.std.proofs.lemmas.Bool.{cases_eq, cases_lt, le-leb, lt-leb, lt-ltb, le-ltb}
use Rattle.std.proofs.lemmas.Option.{slice_get_within, get_or_from_slice_get}
use Rattle.reg_plan.specs.declared.plan.LiveInterval.{LiveInterval}
use Rattle.reg_plan.specs.Accepted.{holds, covers}
use Rattle.reg_plan.specs.Occupied.{IsSpreadFrom, AreSpread, AreParted, one_place}
use Rattle.reg_plan.proofs.GivingOut.{covers_at, holds_low, holds_high, holds_between}
use Rattle.reg_plan.proofs.Order.{uncovered}

some_at : {A : Type 0} (xs : List A) (k : ℕ) → k < length xs → (x : A) × (slice_get xs k ≡ Some x)
some_at [] k lt = absurd (omega arith)
some_at (x ∷ xs) zero lt = (x, refl)
some_at (x ∷ xs) (suc k) lt = some_at xs k (omega arith)

pub spread_at : (from : ℕ) (l : List LiveInterval) (k : ℕ) (i : LiveInterval) → IsSpreadFrom from l
    → slice_get l k ≡ Some i → (from ≤ i.start) × (i.start < i.end)
spread_at from [] k i s h = cc
spread_at from (x ∷ xs) zero i s h =
    let e : x ≡ i = cc in subst (λ (z : LiveInterval). (from ≤ z.start) × (z.start < z.end)) e (s.0, s.1)
spread_at from (x ∷ xs) (suc k) i s h = let r = spread_at x.end xs k i s.2 h in (omega (arith, s.0, s.1, r.0), r.1)

pub spread_order : (from : ℕ) (l : List LiveInterval) (j k : ℕ) (a b : LiveInterval) → IsSpreadFrom from l → j < k
    → slice_get l j ≡ Some a → slice_get l k ≡ Some b → a.end ≤ b.start
spread_order from [] j k a b s lt h g = cc
spread_order from (x ∷ xs) j zero a b s lt h g = absurd (omega arith)
spread_order from (x ∷ xs) zero (suc k) a b s lt h g =
    let e : x ≡ a = cc in
    let r = spread_at x.end xs k b s.2 g in
    subst (λ (z : LiveInterval). z.end ≤ b.start) e r.0
spread_order from (x ∷ xs) (suc j) (suc k) a b s lt h g = spread_order x.end xs j k a b s.2 (omega arith) h g

pub ends_ascend : (l : List LiveInterval) → AreSpread l → IsNonDecreasingBy (λ i. i.end) l
ends_ascend l s = λ i j d le lt.
    let a = some_at l i (omega arith) in
    let b = some_at l j lt in
    let ga = ap (λ (y : LiveInterval). y.end) (get_or_from_slice_get l i a.0 d a.1) in
    let gb = ap (λ (y : LiveInterval). y.end) (get_or_from_slice_get l j b.0 d b.1) in
    ⊎_elim
    (λ below. let o = spread_order 0 l i j a.0 b.0 s below a.1 b.1 in
    let r = spread_at 0 l j b.0 s b.1 in omega (arith, o, r.1, ga, gb))
    (λ from. let e : i ≡ j = omega (arith, from, le) in omega (arith, ap (λ k. (get_or l k d).end) e))
    (cases_lt i j)

-- where the first that ends behind the first instruction of an interval begins behind its last, none has one of them
pub free_by : (l : List LiveInterval) (i : LiveInterval) (k : ℕ) → AreSpread l → AreParted l i.start k
    → ((next : LiveInterval) → slice_get l k ≡ Some next → i.end ≤ next.start) → (pc : ℕ) → holds i pc ≡ true
    → covers l pc ≡ false
free_by l i k s p ahead pc h =
    let low = holds_low i pc h in
    let high = holds_high i pc h in
    uncovered l pc (λ j x at begins ends. ⊎_elim
    (λ first. let e = p.before j x at first in omega (arith, e, ends, low))
    (λ later. ⊎_elim
    (λ same. let a = ahead x (ap (slice_get l) same ∙ at) in omega (arith, a, begins, high))
    (λ ne.
    let inside = slice_get_within l j x at in
    let o = some_at l k (omega arith) in
    let a = ahead o.0 o.1 in
    let q = spread_order 0 l k j o.0 x s (omega arith) o.1 at in
    let r = spread_at 0 l k o.0 s o.1 in
    omega (arith, a, q, r.1, begins, high))
    (cases_eq k j))
    (cases_lt j k))

-- and else it has one of them
pub taken_by : (l : List LiveInterval) (i : LiveInterval) (k : ℕ) (next : LiveInterval) → AreSpread l
    → AreParted l i.start k → i.start < i.end → slice_get l k ≡ Some next → next.start < i.end
    → (pc : ℕ) × (holds i pc ≡ true) × (covers l pc ≡ true)
taken_by l i k next s p some at begins =
    let ends = p.behind k next at (omega arith) in
    let r = spread_at 0 l k next s at in
    ⊎_elim
    (λ low. (
      next.start,
      holds_between i next.start (omega (arith, low)) begins,
      covers_at l k next.start next at (holds_between next next.start (omega arith) r.1),
    ))
    (λ high. (
      i.start,
      holds_between i i.start (omega arith) some,
      covers_at l k i.start next at (holds_between next i.start high ends),
    ))
    (cases_lt i.start next.start)

-- ---- one more

or_swap : (a b : Bool) → (a || b) ≡ (b || a)
or_swap true true = refl
or_swap true false = refl
or_swap false true = refl
or_swap false false = refl

or_group : (a b c : Bool) → (a || (b || c)) ≡ ((a || b) || c)
or_group true b c = refl
or_group false b c = refl

pub covers_insert : (l : List LiveInterval) (k : ℕ) (i : LiveInterval) (pc : ℕ) → k ≤ length l
    → covers (insert l k i) pc ≡ (covers l pc || holds i pc)
covers_insert [] zero i pc le = or_swap (holds i pc) false
covers_insert (x ∷ xs) zero i pc le = or_swap (holds i pc) (holds x pc || covers xs pc)
covers_insert [] (suc k) i pc le = absurd (omega arith)
covers_insert (x ∷ xs) (suc k) i pc le =
    ap (λ b. holds x pc || b) (covers_insert xs k i pc (omega arith)) ∙ or_group (holds x pc) (covers xs pc) (holds i pc)

insert_spread : (from : ℕ) (l : List LiveInterval) (k : ℕ) (i : LiveInterval) → IsSpreadFrom from l → k ≤ length l
    → from ≤ i.start → i.start < i.end
    → ((j : ℕ) (x : LiveInterval) → slice_get l j ≡ Some x → j < k → x.end ≤ i.start)
    → ((j : ℕ) (x : LiveInterval) → slice_get l j ≡ Some x → k ≤ j → i.end ≤ x.start) → IsSpreadFrom from (insert l k i)
insert_spread from [] zero i s le a b below above = (a, b, tt)
insert_spread from (x ∷ xs) zero i s le a b below above = (a, b, (above 0 x refl (omega arith), s.1, s.2))
insert_spread from [] (suc k) i s le a b below above = absurd (omega arith)
insert_spread from (x ∷ xs) (suc k) i s le a b below above = (
  s.0,
  s.1,
  insert_spread x.end xs k i s.2 (omega arith) (below 0 x refl (omega arith)) b
      (λ j y h lt. below (suc j) y h (omega arith)) (λ j y h from. above (suc j) y h (omega arith)),
)

pub spread_more : (l : List LiveInterval) (k : ℕ) (i : LiveInterval) → AreSpread l → i.start < i.end
    → k ≤ length l → AreParted l i.start k → ((pc : ℕ) → holds i pc ≡ true → covers l pc ≡ false)
    → AreSpread (insert l k i)
spread_more l k i s some le p free =
    insert_spread 0 l k i s le (omega arith) some p.before (λ j x at from. ⊎_elim
    (λ early. let ends = p.behind j x at from in ⊎_elim
    (λ low. absurd (true≢false (sym (covers_at l j i.start x at (holds_between x i.start low ends))
    ∙ free i.start (holds_between i i.start (omega arith) some))))
    (λ high. let r = spread_at 0 l j x s at in
    absurd (true≢false (sym (covers_at l j x.start x at (holds_between x x.start (omega arith) r.1))
    ∙ free x.start (holds_between i x.start (omega (arith, high)) early))))
    (by x.start i.start))
    (λ late. late)
    (cases_lt x.start i.end))
  where
    by : (a b : ℕ) → (a ≤ b) ⊎ (b ≤ a)
    by a b = ⊎_elim (λ lt. inl (omega (arith, lt))) (λ ge. inr ge) (cases_lt a b)

-- an interval that holds nothing
pub holds_none : (i : LiveInterval) (pc : ℕ) → i.end ≤ i.start → holds i pc ≡ false
holds_none i pc le = ⊎_elim
    (λ low. rw (lt-leb i.start pc low) refl)
    (λ high. rw (le-leb i.start pc high, le-ltb pc i.end (omega (arith, high, le))) refl)
    (cases_lt pc i.start)

pub or_none : (a : Bool) (b : Bool) → b ≡ false → a ≡ (a || b)
or_none true b e = refl
or_none false b e = sym e

-- an instruction that is there
pub has_place : (l : List LiveInterval) (place pc : ℕ) → covers l place ≡ true
    → covers l pc ≡ (covers l pc || holds (one_place place) pc)
has_place l place pc h = ⊎_elim
    (λ e. let there : covers l pc ≡ true = ap (covers l) e ∙ h in rw there refl)
    (λ ne. or_none (covers l pc) (holds (one_place place) pc) (other ne))
    (cases_eq pc place)
  where
    other : pc ≢ place → holds (one_place place) pc ≡ false
    other ne = ⊎_elim
        (λ low. rw (lt-leb place pc low) refl)
        (λ high. rw (le-leb place pc high, le-ltb pc (place + 1) (omega (arith, high, ne))) refl)
        (cases_lt pc place)

pub place_is : (place pc : ℕ) → holds (one_place place) pc ≡ true → pc ≡ place
place_is place pc h =
    let low = holds_low (one_place place) pc h in let high = holds_high (one_place place) pc h in omega (arith, low, high)

-- so many instructions of an interval, and one more
abbrev pub so_far : (start end : ℕ) → LiveInterval
so_far a b = record { start = a; end = b }

pub none_so_far : (a : Bool) (start pc : ℕ) → a ≡ (a || holds (so_far start start) pc)
none_so_far a start pc = or_none a (holds (so_far start start) pc) (holds_none (so_far start start) pc (omega arith))

pub one_more : (a : Bool) (start end pc : ℕ) → start ≤ end
    → ((a || holds (so_far start end) pc) || holds (one_place end) pc) ≡ (a || holds (so_far start (end + 1)) pc)
one_more a start end pc le = sym (or_group a (holds (so_far start end) pc) (holds (one_place end) pc))
    ∙ ap (λ b. a || b) (⊎_elim
    (λ before. rw (lt-leb start pc before, lt-leb end pc (omega (arith, before, le))) refl)
    (λ behind. ⊎_elim
    (λ low. rw (le-leb start pc behind, lt-ltb pc end low, lt-ltb pc (end + 1) (omega (arith, low))) refl)
    (λ high. rw (le-leb start pc behind, le-ltb pc end high, le-leb end pc high) refl)
    (cases_lt pc end))
    (cases_lt pc start))

-- so many intervals of a live range, and one more
pub covers_more : (a : Bool) (l : List LiveInterval) (i : LiveInterval) (pc : ℕ)
    → ((a || covers l pc) || holds i pc) ≡ (a || covers (l ++ i ∷ []) pc)
covers_more a l i pc = sym (or_group a (covers l pc) (holds i pc)) ∙ ap (λ b. a || b) (by l)
  where
    by : (l : List LiveInterval) → (covers l pc || holds i pc) ≡ covers (l ++ i ∷ []) pc
    by [] = or_swap false (holds i pc)
    by (x ∷ xs) = sym (or_group (holds x pc) (covers xs pc) (holds i pc)) ∙ ap (λ b. holds x pc || b) (by xs)

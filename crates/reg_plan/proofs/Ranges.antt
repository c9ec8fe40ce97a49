-- Intervals against lists of places, and the live ranges of all virtual registers.
use Rattle.std.proofs.Common.{◌≡◌, ℕ, zero, suc, ◌+◌, ◌<◌, ◌≤◌, ◌⊎◌, inl, inr, ⊎_elim, List, [], ◌∷◌, ◌++◌, length}
use Rattle.std.proofs.Common.{Some, None, true, ◌||◌, ◌&&◌, refl, sym, ap, ◌∙◌, subst, arith, true≢false}
use Rattle.std.specs.Prelude.{slice_get, nat_le, nat_lt, Vec}
use Rattle.std.specs.Global.{Global}
use Rattle.std.specs.List.Sorted.{IsPermutation}
use Rattle.std.proofs.lemmas.List.Sorted.{Contains-permutation, IsPermutation-sym}
use Rattle.std.proofs.lemmas.Bool.{cases_eq, cases_lt, le-leb, lt-leb, le-ltb, lt-ltb}
use Rattle.std.proofs.lemmas.Option.{slice_get_within, slice_get_read, get_or_from_slice_get}
use Rattle.data_flow.specs.declared.relation.Relation.{Relation}
use Rattle.data_flow.specs.declared.runs.Run.{Run}
use Rattle.data_flow.specs.Relations.{Has, IsRelated}
use Rattle.data_flow.specs.Reached.{IsReached, Begins, Flows}
use Rattle.flat_code.specs.declared.instruction.FlatInstruction.{FlatInstruction}
use Rattle.flat_code.specs.declared.function.FlatProgram.{FlatProgram}
use Rattle.reg_plan.specs.declared.plan.LiveInterval.{LiveInterval}
use Rattle.reg_plan.specs.declared.flow.Problem.{Problem}
use Rattle.reg_plan.specs.Needs.{IsNeeded, Read, Made, Before}
use Rattle.reg_plan.specs.Flow.{Represents, AreSmall}
use Rattle.reg_plan.specs.Accepted.{covers, intervals_of}

-- an interval and a run that begins within it or at its end
pub join_same : (start end first last n : ℕ) → start ≤ first → first ≤ end → end ≤ n → last + 1 ≤ n
    → (end < n → n ≤ last + 1) → (pc : ℕ)
    → (nat_le start pc && nat_lt pc n) ≡ ((nat_le start pc && nat_lt pc end) || (nat_le first pc && nat_le pc last))
join_same start end first last n begins joins more all most pc = ⊎_elim
    (λ low. rw (lt-leb start pc low, lt-leb first pc (omega (arith, low, begins))) refl)
    (λ high. ⊎_elim
    (λ inside. rw (le-leb start pc high, lt-ltb pc end inside, lt-ltb pc n (omega (arith, inside, more))) refl)
    (λ behind. rw (le-leb start pc high, le-ltb pc end behind, le-leb first pc (omega (arith, behind, joins)))
    (by behind (cases_lt pc n)))
    (cases_lt pc end))
    (cases_lt pc start)
  where
    by : end ≤ pc → (pc < n) ⊎ (n ≤ pc) → nat_lt pc n ≡ nat_le pc last
    by behind (inl low) = let m = most (omega (arith, behind, low)) in
        lt-ltb pc n low ∙ sym (le-leb pc last (omega (arith, low, m)))
    by behind (inr high) = le-ltb pc n high ∙ sym (lt-leb pc last (omega (arith, high, all)))

pub whole_same : (first last pc : ℕ) → (nat_le first pc && nat_lt pc (last + 1)) ≡ (nat_le first pc && nat_le pc last)
whole_same first last pc = ap (λ b. nat_le first pc && b) (⊎_elim
    (λ low. lt-ltb pc (last + 1) low ∙ sym (le-leb pc last (omega (arith, low))))
    (λ high. le-ltb pc (last + 1) high ∙ sym (lt-leb pc last (omega (arith, high))))
    (cases_lt pc (last + 1)))

pub small_permuted : (xs ys : List Run) → IsPermutation xs ys → AreSmall xs → AreSmall ys
small_permuted xs ys p small k r h =
    let o = Contains-permutation ys xs r (IsPermutation-sym xs ys p)
    (k, slice_get_within ys k r h, get_or_from_slice_get ys k r r h) in
    small o.0 r (slice_get_read xs (length xs) o.0 r refl o.1 (sym o.2))

-- facts are killed by the same nodes in any order
pub reached_as : (edges : Relation) (generated killed killed' : List ℕ) → ((x : ℕ) → Has killed' x → Has killed x)
    → (v : ℕ) → IsReached edges generated killed v → IsReached edges generated killed' v
reached_as edges generated killed killed' has _ (Begins v h) = Begins v h
reached_as edges generated killed killed' has _ (Flows u v r e n) =
    Flows u v (reached_as edges generated killed killed' has u r) e (λ k. n (has v k))

-- a list in another order has the same numbers
pub has_permuted : (xs ys : List ℕ) → IsPermutation xs ys → (x : ℕ) → Has xs x → Has ys x
has_permuted xs ys p x h =
    let o = Contains-permutation xs ys x p (h.0, slice_get_within xs h.0 x h.1, get_or_from_slice_get xs h.0 x x h.1) in
    (o.0, slice_get_read ys (length ys) o.0 x refl o.1 (sym o.2))

pub has_sorted : (xs ys : List ℕ) → IsPermutation xs ys → (x : ℕ) → Has ys x → Has xs x
has_sorted xs ys p = has_permuted ys xs (IsPermutation-sym xs ys p)

-- where the edges and facts of a problem lie
pub edges_within : (p : FlatProgram) (f : ℕ) (body : List FlatInstruction) (problem : Problem)
    → Represents p f body (length body) problem → (u v : ℕ) → IsRelated problem.edges u v → v < length body
edges_within p f body problem r u v h = let l = r.edges_only u v h in slice_get_within body v l.0 l.1

pub generated_within : (p : FlatProgram) (f : ℕ) (body : List FlatInstruction) (problem : Problem)
    → Represents p f body (length body) problem → (y v : ℕ) → IsRelated problem.generated y v → v < length body
generated_within p f body problem r y v h = ⊎_elim (λ q. slice_get_within body v q.0 q.1) (λ q. let l = q.1 in l.3)
    (r.generated_only y v h)

pub killed_within : (p : FlatProgram) (f : ℕ) (body : List FlatInstruction) (problem : Problem)
    → Represents p f body (length body) problem → (y v : ℕ) → IsRelated problem.killed y v → v < length body
killed_within p f body problem r y v h = let m = r.killed_only y v h in slice_get_within body v m.0 m.1

-- a value is needed at instructions of the function alone
pub needed_within : (p : FlatProgram) (f : ℕ) (body : List FlatInstruction) (pc y : ℕ) → IsNeeded p f body pc y
    → pc < length body
needed_within p f body _ _ (Read pc y h) = slice_get_within body pc h.0 h.1
needed_within p f body _ _ (Made pc q y l m) = l.3
needed_within p f body _ _ (Before pc q y l n not_made) = slice_get_within body pc l.0 l.1

-- the live ranges of a list to which one is added
pub range_at : (ranges : List (Vec LiveInterval Global)) (range : Vec LiveInterval Global) (y : ℕ) → y < length ranges
    → slice_get (ranges ++ range ∷ []) y ≡ slice_get ranges y
range_at [] range y lt = absurd (omega arith)
range_at (x ∷ xs) range zero lt = refl
range_at (x ∷ xs) range (suc y) lt = range_at xs range y (omega arith)

pub range_at_end : (ranges : List (Vec LiveInterval Global)) (range : Vec LiveInterval Global)
    → slice_get (ranges ++ range ∷ []) (length ranges) ≡ Some range
range_at_end [] range = refl
range_at_end (x ∷ xs) range = range_at_end xs range

pub range_past : (ranges : List (Vec LiveInterval Global)) (range : Vec LiveInterval Global) (y : ℕ) → length ranges < y
    → slice_get (ranges ++ range ∷ []) y ≡ None
range_past [] range zero lt = absurd (omega arith)
range_past [] range (suc y) lt = refl
range_past (x ∷ xs) range zero lt = absurd (omega arith)
range_past (x ∷ xs) range (suc y) lt = range_past xs range y (omega arith)

-- one virtual register more
pub needed_more : (p : FlatProgram) (f : ℕ) (body : List FlatInstruction) (ranges : List (Vec LiveInterval Global))
    (range : Vec LiveInterval Global) (n : ℕ) → length ranges ≡ n
    → ((pc y : ℕ) → y < n → IsNeeded p f body pc y → covers (intervals_of (slice_get ranges y)) pc ≡ true)
    → ((pc : ℕ) → IsNeeded p f body pc n → covers range.items pc ≡ true) → (pc y : ℕ) → y < n + 1
    → IsNeeded p f body pc y → covers (intervals_of (slice_get (ranges ++ range ∷ []) y)) pc ≡ true
needed_more p f body ranges range n e old new pc y lt h = ⊎_elim
    (λ low. ap (λ o. covers (intervals_of o) pc) (range_at ranges range y (omega arith)) ∙ old pc y low h)
    (λ high. let same : y ≡ length ranges = omega arith in
    ap (λ z. covers (intervals_of (slice_get (ranges ++ range ∷ []) z)) pc) same
    ∙ ap (λ o. covers (intervals_of o) pc) (range_at_end ranges range)
    ∙ new pc (subst (IsNeeded p f body pc) (same ∙ e) h))
    (cases_lt y n)

pub only_needed_more : (p : FlatProgram) (f : ℕ) (body : List FlatInstruction) (ranges : List (Vec LiveInterval Global))
    (range : Vec LiveInterval Global) (n : ℕ) → length ranges ≡ n
    → ((pc y : ℕ) → covers (intervals_of (slice_get ranges y)) pc ≡ true → IsNeeded p f body pc y)
    → ((pc : ℕ) → covers range.items pc ≡ true → IsNeeded p f body pc n) → (pc y : ℕ)
    → covers (intervals_of (slice_get (ranges ++ range ∷ []) y)) pc ≡ true → IsNeeded p f body pc y
only_needed_more p f body ranges range n e old new pc y h = ⊎_elim
    (λ low. old pc y (ap (λ o. covers (intervals_of o) pc) (sym (range_at ranges range y (omega arith))) ∙ h))
    (λ high. ⊎_elim
    (λ same. subst (IsNeeded p f body pc) (sym same)
    (new pc (ap (λ o. covers (intervals_of o) pc) (sym (range_at_end ranges range))
    ∙ ap (λ z. covers (intervals_of (slice_get (ranges ++ range ∷ []) z)) pc) (e ∙ sym same) ∙ h)))
    (λ ne. absurd (true≢false (sym h ∙ ap (λ o. covers (intervals_of o) pc) (range_past ranges range y (omega arith)))))
    (cases_eq y n))
    (cases_lt y n)

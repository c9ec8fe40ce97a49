-- Where the checks of a function stand, and that bodies of counted loops stay closed by them.
use Rattle.std.proofs.Common.{◌≡◌, ◌≤◌, ◌<◌, ℕ, suc, zero, ◌+◌, false, List, [], ◌∷◌, length, Option, Some}
use Rattle.std.proofs.Common.{None, refl, sym, ap, ◌∙◌, subst, arith, length-append}
use Rattle.std.proofs.lemmas.Option.{same_Some, slice_get-map, slice_get_within}
use Rattle.std.specs.Prelude.{◌⊎◌, slice_get, map, take, get_or, option_map, ◌++◌}
use mathlib.Core.Logic.{inl, inr}
use Rattle.c_tree.specs.declared.expression.Kind.TheVariants.{Void, Scalar as OfScalar, Structure, Array}
use Rattle.tac_ir.specs.declared.instruction.Mode.TheVariants.{Named, Unchecked, Judged}
use Rattle.tac_ir.specs.declared.instruction.Test.TheVariants.{Temporal}
use Rattle.tac_ir.specs.declared.instruction.Instruction.{Instruction}
use Rattle.tac_ir.specs.declared.instruction.Instruction.TheVariants.{Read, Write, Update, Judge}
use Rattle.tac_ir.specs.declared.function.CountedLoop.{CountedLoop}
use Rattle.tac_ir.specs.declared.function.CodeFunction.{CodeFunction}
use Rattle.tac_ir.specs.declared.function.Tac.{Tac}
use Rattle.tac_ir.specs.Edges.{successors, LeadsTo, IsAmong}
use Rattle.tac_ir.specs.Bodies.{IsIn, IsInBody, IsTurnOf, assigns_plain, IsClosedBody, HasClosedBodies}
use Rattle.tac_ir.specs.Bodies.{HaveClosedBodies, HasNoneAdded, HaveNoneAdded}
use Rattle.tac_ir.specs.Bodies.{KeepsVariable, KeepVariables}
use Rattle.check_insert.specs.declared.access.Access.{Access}
use Rattle.check_insert.specs.Counting.{checks_needed, sum_over}
use Rattle.check_insert.specs.Inserted.{Has}
use Rattle.check_insert.specs.Building.{access_of, front, back, behind, fronts, backs, places, with_checks, place_after}
use Rattle.check_insert.specs.Building.{with_added, with_added_at, checked_function}
use Rattle.check_insert.proofs.Nodes.{back_length, front_length, backs_length}

-- where the checks of so many instructions end

abbrev needed : List Instruction → (count : ℕ) → ℕ
needed is k = sum_over checks_needed (take k is)

behind_by : (next : ℕ) (a : Option Access) → behind next a ≡ next + length (back next a)
behind_by next None = omega arith
behind_by next (Some a) = omega arith

behind_is : (next : ℕ) (i : Instruction) → behind next (access_of i) ≡ next + checks_needed i
behind_is next i = omega (arith, behind_by next (access_of i), back_length next i)

needed_all : (is : List Instruction) (k : ℕ) → needed is k ≤ sum_over checks_needed is
needed_all is zero = omega arith
needed_all [] (suc k) = omega arith
needed_all (i ∷ is) (suc k) = omega (arith, needed_all is k)

needed_more : (is : List Instruction) (k m : ℕ) → k ≤ m → needed is k ≤ needed is m
needed_more is zero m le = omega arith
needed_more is (suc k) zero le = absurd (omega (arith, le))
needed_more [] (suc k) (suc m) le = omega arith
needed_more (i ∷ is) (suc k) (suc m) le = omega (arith, needed_more is k m (omega (arith, le)))

needed_with : (is : List Instruction) (p : ℕ) (i : Instruction) → Has is p i → needed is (suc p)
    ≡ needed is p + checks_needed i
needed_with [] p i h = cc
needed_with (j ∷ is) zero i h = omega (arith, ap checks_needed (same_Some j i h))
needed_with (j ∷ is) (suc p) i h = omega (arith, needed_with is p i h)

-- the places of all instructions, and the end
placed : (is : List Instruction) (next k : ℕ) → get_or (places next is) k (next + sum_over checks_needed is)
    ≡ next + needed is k
placed [] next zero = omega arith
placed [] next (suc k) = omega arith
placed (i ∷ is) next zero = omega arith
placed (i ∷ is) next (suc k) =
    let on = behind_is next i in
    let end : next + (checks_needed i + sum_over checks_needed is)
    ≡ behind next (access_of i) + sum_over checks_needed is = omega (arith, on) in
    ap (get_or (places (behind next (access_of i)) is) k) end
    ∙ (placed is (behind next (access_of i)) k ∙ omega (arith, on))

checked_length : (code : List Instruction) → length (with_checks code) ≡ length code + sum_over checks_needed code
checked_length code =
    let next = length code in
    omega (arith, length-append (fronts next code) (backs next code), front_length next code, backs_length next code)

-- an access: its checks, and what leads on behind them

record GetsChecks (i : Instruction) (a : Access) : Type 0 where
  needs : checks_needed i ≡ 2
  leads : successors a.judged ≡ successors i
  keeps : (x : ℕ) → assigns_plain a.judged x ≡ false
  turns : (number : ℕ) → IsTurnOf number i → ⊥

gets_checks : (i : Instruction) (a : Access) → access_of i ≡ Some a → GetsChecks i a
gets_checks (Read (OfScalar k) Unchecked line key d b m) a e = subst (GetsChecks _) (same_Some _ a e)
    (record { needs = refl; leads = refl; keeps = λ x. refl; turns = λ n h. h })
gets_checks (Read (Structure k) Unchecked line key d b m) a e = subst (GetsChecks _) (same_Some _ a e)
    (record { needs = refl; leads = refl; keeps = λ x. refl; turns = λ n h. h })
gets_checks (Write (OfScalar k) Unchecked line key d b v m) a e = subst (GetsChecks _) (same_Some _ a e)
    (record { needs = refl; leads = refl; keeps = λ x. refl; turns = λ n h. h })
gets_checks (Write (Structure k) Unchecked line key d b v m) a e = subst (GetsChecks _) (same_Some _ a e)
    (record { needs = refl; leads = refl; keeps = λ x. refl; turns = λ n h. h })
gets_checks (Update u k f Unchecked line at key d b v m) a e = subst (GetsChecks _) (same_Some _ a e)
    (record { needs = refl; leads = refl; keeps = λ x. refl; turns = λ n h. h })
gets_checks (Read kind Named line key d b m) a e = absurd (cc)
gets_checks (Read kind Judged line key d b m) a e = absurd (cc)
gets_checks (Read Void Unchecked line key d b m) a e = absurd (cc)
gets_checks (Read (Array k) Unchecked line key d b m) a e = absurd (cc)
gets_checks (Write kind Named line key d b v m) a e = absurd (cc)
gets_checks (Write kind Judged line key d b v m) a e = absurd (cc)
gets_checks (Write Void Unchecked line key d b v m) a e = absurd (cc)
gets_checks (Write (Array k) Unchecked line key d b v m) a e = absurd (cc)
gets_checks (Update u k f Named line at key d b v m) a e = absurd (cc)
gets_checks (Update u k f Judged line at key d b v m) a e = absurd (cc)
gets_checks i a e = absurd (cc)

-- what stands behind all nodes for an access whose checks begin at a place
abbrev IsBehind : (place n : ℕ) → Access → Instruction → Type 0
IsBehind place n a j =
    ((n ≡ place) × (j ≡ Judge Temporal a.size a.line a.key a.pointer (place + 1)))
    ⊎ ((n ≡ place + 1) × (j ≡ a.judged))

-- the instruction for which one stands among the nodes, or behind them

record InFront (is : List Instruction) (next k : ℕ) (j : Instruction) : Type 0 where
  pub at : Instruction
  pub has : Has is k at
  pub is_front : j ≡ front (next + needed is k) (access_of at) at

in_front : (next : ℕ) (is : List Instruction) (k : ℕ) (j : Instruction) → Has (fronts next is) k j
    → InFront is next k j
in_front next [] k j h = cc
in_front next (i ∷ is) zero j h =
    let at : next ≡ next + 0 = omega arith in record {
      at = i;
      has = refl;
      is_front = sym (same_Some _ j h) ∙ ap (λ n. front n (access_of i) i) at;
    }
in_front next (i ∷ is) (suc k) j h =
    let f = in_front (behind next (access_of i)) is k j h in
    let at : behind next (access_of i) + needed is k ≡ next + (checks_needed i + needed is k) =
    omega (arith, behind_is next i) in record {
      at = f.at;
      has = f.has;
      is_front = f.is_front ∙ ap (λ n. front n (access_of f.at) f.at) at;
    }

record Behind (is : List Instruction) (next n : ℕ) (j : Instruction) : Type 0 where
  pub node : ℕ
  pub at : Instruction
  pub has : Has is node at
  pub access : Access
  pub gets : access_of at ≡ Some access
  pub stands : IsBehind (next + needed is node) n access j

behind_more : (i : Instruction) (is : List Instruction) (next n : ℕ) (j : Instruction)
    → Behind is (behind next (access_of i)) n j → Behind (i ∷ is) next n j
behind_more i is next n j b =
    let at : behind next (access_of i) + needed is b.node ≡ next + (checks_needed i + needed is b.node) =
    omega (arith, behind_is next i) in record {
      node = suc b.node;
      at = b.at;
      has = b.has;
      access = b.access;
      gets = b.gets;
      stands = subst (λ p. IsBehind p n b.access j) at b.stands;
    }

back_by : (next : ℕ) (i : Instruction) (is : List Instruction)
    → ((m k : ℕ) (j : Instruction) → Has (backs m is) k j → Behind is m (m + k) j) → (a : Option Access)
    → access_of i ≡ a → (k : ℕ) (j : Instruction) → Has (back next a ++ backs (behind next a) is) k j
    → Behind (i ∷ is) next (next + k) j
back_by next i is more None e k j h =
    let on : next ≡ behind next (access_of i) = ap (behind next) (sym e) in
    behind_more i is next (next + k) j (subst (λ m. Behind is m (next + k) j) on (more next k j h))
back_by next i is more (Some a) e zero j h = record {
  node = 0;
  at = i;
  has = refl;
  access = a;
  gets = e;
  stands = inl (refl, sym (same_Some _ j h) ∙ ap (λ m. Judge Temporal a.size a.line a.key a.pointer (m + 1)) at);
}
  where
    at : next ≡ next + 0
    at = omega arith
back_by next i is more (Some a) e (suc zero) j h = record {
  node = 0;
  at = i;
  has = refl;
  access = a;
  gets = e;
  stands = inr (omega arith, sym (same_Some _ j h));
}
back_by next i is more (Some a) e (suc (suc k)) j h =
    let on : next + 2 ≡ behind next (access_of i) = ap (behind next) (sym e) in
    let at : next + 2 + k ≡ next + suc (suc k) = omega arith in
    behind_more i is next (next + suc (suc k)) j
    (subst (λ m. Behind is m (next + suc (suc k)) j) on
    (subst (λ m. Behind is (next + 2) m j) at (more (next + 2) k j h)))

in_back : (next : ℕ) (is : List Instruction) (k : ℕ) (j : Instruction) → Has (backs next is) k j
    → Behind is next (next + k) j
in_back next [] k j h = cc
in_back next (i ∷ is) k j h = back_by next i is (λ m k j h. in_back m is k j h) (access_of i) refl k j h

-- an instruction of checked code
data Stands (code : List Instruction) (n : ℕ) (j : Instruction) : Type 0 where
  Front : InFront code (length code) n j → Stands code n j
  After : Behind code (length code) n j → Stands code n j

stands_in : (xs ys : List Instruction) (n : ℕ) (j : Instruction) → Has (xs ++ ys) n j
    → Has xs n j ⊎ ((k : ℕ) × (n ≡ length xs + k) × Has ys k j)
stands_in [] ys n j h = inr (n, omega arith, h)
stands_in (x ∷ xs) ys zero j h = inl h
stands_in (x ∷ xs) ys (suc n) j h = by (stands_in xs ys n j h)
  where
    by : (Has xs n j ⊎ ((k : ℕ) × (n ≡ length xs + k) × Has ys k j))
        → Has (x ∷ xs) (suc n) j ⊎ ((k : ℕ) × (suc n ≡ suc (length xs) + k) × Has ys k j)
    by (inl f) = inl f
    by (inr f) = inr (f.0, omega (arith, f.1), f.2)

stands : (code : List Instruction) (n : ℕ) (j : Instruction) → Has (with_checks code) n j → Stands code n j
stands code n j h = by (stands_in (fronts (length code) code) (backs (length code) code) n j h)
  where
    by : (Has (fronts (length code) code) n j
        ⊎ ((k : ℕ) × (n ≡ length (fronts (length code) code) + k) × Has (backs (length code) code) k j))
        → Stands code n j
    by (inl f) = Front (in_front (length code) code n j f)
    by (inr f) =
        let at : length code + f.0 ≡ n = omega (arith, f.1, front_length (length code) code) in
        After (subst (λ m. Behind code (length code) m j) at (in_back (length code) code f.0 j f.2))

-- the places that code gets are those of its spans
places_all : (code : List Instruction) (end : ℕ) → end ≡ length (with_checks code) → (ls : List CountedLoop)
    → map (with_added_at (places (length code) code) end) ls ≡ map (with_added code) ls
places_all code end e [] = refl
places_all code end e (l ∷ ls) =
    let at : (k : ℕ) → get_or (places (length code) code) k end ≡ place_after code k =
    λ k. ap (get_or (places (length code) code) k) (e ∙ checked_length code) ∙ placed code (length code) k in
    ap (λ n. record l { added = record { start = n; end = get_or (places (length code) code) l.body.end end } }
    ∷ map (with_added_at (places (length code) code) end) ls) (at l.body.start)
    ∙ (ap (λ n. record l { added = record { start = place_after code l.body.start; end = n } }
    ∷ map (with_added_at (places (length code) code) end) ls) (at l.body.end)
    ∙ ap (λ m. with_added code l ∷ m) (places_all code end e ls))

pub function_of_parts : (c : CodeFunction) (code : List Instruction) (loops : List CountedLoop) (ps : List ℕ) (end : ℕ)
    → code ≡ with_checks c.code → ps ≡ places (length c.code) c.code → end ≡ length code
    → loops ≡ map (with_added_at ps end) c.loops → record c { code = code; loops = loops } ≡ checked_function c
function_of_parts c code loops ps end ec ep ee el =
    ap (λ is. record c { code = is; loops = loops }) ec
    ∙ ap (λ ls. record c { code = with_checks c.code; loops = ls })
    (el ∙ (ap (λ qs. map (with_added_at qs end) c.loops) ep ∙ places_all c.code end (ee ∙ ap length ec) c.loops))

-- bodies stay closed

at_most : (x y : ℕ) → x ≤ y ⊎ (suc y ≤ x)
at_most zero y = inl (omega arith)
at_most (suc x) zero = inr (omega arith)
at_most (suc x) (suc y) = by (at_most x y)
  where
    by : (x ≤ y ⊎ (suc y ≤ x)) → suc x ≤ suc y ⊎ (suc (suc y) ≤ suc x)
    by (inl h) = inl (omega (arith, h))
    by (inr h) = inr (omega (arith, h))

-- the nodes behind all others of an instruction are in what is added to a span just where it is in the span
module _ (code : List Instruction) (p : ℕ) (i : Instruction) (a : Access) (has : Has code p i)
    (e : access_of i ≡ Some a) where
  abbrev place : ℕ
  place = length code + needed code p

  next_place : needed code (suc p) ≡ needed code p + 2
  next_place = needed_with code p i has ∙ ap (λ k. needed code p + k) (gets_checks i a e).needs

  from_start : (x n : ℕ) → n ≤ place + 1 → place_after code x ≤ n → x ≤ p
  from_start x n le h = by (at_most x p)
    where
      by : (x ≤ p ⊎ (suc p ≤ x)) → x ≤ p
      by (inl q) = q
      by (inr q) = absurd (omega (arith, needed_more code (suc p) x q, next_place, h, le))

  to_end : (x n : ℕ) → place ≤ n → n < place_after code x → p < x
  to_end x n le h = by (at_most x p)
    where
      by : (x ≤ p ⊎ (suc p ≤ x)) → p < x
      by (inl q) = absurd (omega (arith, needed_more code x p q, h, le))
      by (inr q) = omega (arith, q)

  span_in : (l : CountedLoop) (n : ℕ) → place ≤ n → n ≤ place + 1 → IsIn (with_added code l).added n → IsIn l.body p
  span_in l n ge le h = (from_start l.body.start n le h.0, to_end l.body.end n ge h.1)

  span_out : (l : CountedLoop) (n : ℕ) → place ≤ n → n ≤ place + 1 → IsIn l.body p → IsIn (with_added code l).added n
  span_out l n ge le h = (
    omega (arith, needed_more code l.body.start p h.0, ge),
    omega (arith, needed_more code (suc p) l.body.end (omega (arith, h.1)), next_place, le),
  )

module _ (c : CodeFunction) (closed : HasClosedBodies c) (none : HasNoneAdded c) where
  -- an edge of the code with checks: from the check before an access to the one behind, on to the access, or as before
  data Edge (n m : ℕ) (j : Instruction) : Type 0 where
    Checks : (p : ℕ) (i : Instruction) (a : Access) → Has c.code p i → access_of i ≡ Some a
        → (n ≡ p) ⊎ (length c.code + needed c.code p ≤ n) × (n ≤ length c.code + needed c.code p + 1)
        → length c.code + needed c.code p ≤ m → m ≤ length c.code + needed c.code p + 1 → Edge n m j
    Leaves : (p : ℕ) (i : Instruction) (a : Access) → Has c.code p i → access_of i ≡ Some a
        → n ≡ length c.code + needed c.code p + 1 → LeadsTo i m → Edge n m j
    Stays : Has c.code n j → LeadsTo j m → Edge n m j

  edge_front : (n m : ℕ) (j i : Instruction) (a : Option Access) → Has c.code n i → access_of i ≡ a
      → j ≡ front (length c.code + needed c.code n) a i → LeadsTo j m → Edge n m j
  edge_front n m j i None has e is to = Stays (has ∙ ap Some (sym is)) to
  edge_front n m j i (Some a) has e is to = by (subst (λ x. LeadsTo x m) is to)
    where
      by : (m ≡ length c.code + needed c.code n) ⊎ ⊥ → Edge n m j
      by (inl q) = Checks n i a has e (inl refl) (omega (arith, q)) (omega (arith, q))
      by (inr q) = absurd q

  edge_behind : (n m : ℕ) (j : Instruction) (b : Behind c.code (length c.code) n j) → LeadsTo j m → Edge n m j
  edge_behind n m j b to = by b.stands
    where
      next : (m ≡ length c.code + needed c.code b.node + 1) ⊎ ⊥ → n ≡ length c.code + needed c.code b.node → Edge n m j
      next (inl q) at = Checks b.node b.at b.access b.has b.gets (inr (omega (arith, at), omega (arith, at)))
          (omega (arith, q)) (omega (arith, q))
      next (inr q) at = absurd q

      by : IsBehind (length c.code + needed c.code b.node) n b.access j → Edge n m j
      by (inl q) = next (subst (λ x. LeadsTo x m) q.1 to) q.0
      by (inr q) = Leaves b.node b.at b.access b.has b.gets q.0
          (subst (IsAmong m) (gets_checks b.at b.access b.gets).leads (subst (λ x. LeadsTo x m) q.1 to))

  edge : (n m : ℕ) (j : Instruction) → Has (with_checks c.code) n j → LeadsTo j m → Edge n m j
  edge n m j h to = by (stands c.code n j h)
    where
      by : Stands c.code n j → Edge n m j
      by (Front f) = edge_front n m j f.at (access_of f.at) f.has refl f.is_front to
      by (After b) = edge_behind n m j b to

  short : (n : ℕ) → n < length c.code → n < length (with_checks c.code)
  short n lt = omega (arith, lt, checked_length c.code)

  led : (n m : ℕ) (j : Instruction) → Edge n m j → m < length (with_checks c.code)
  led n m j (Checks p i a has e from ge le) =
      omega (arith, le, next_place c.code p i a has e, needed_all c.code (suc p), checked_length c.code)
  led n m j (Leaves p i a has e at to) = short m (closed.leads p m i has to)
  led n m j (Stays has to) = short m (closed.leads n m j has to)

  module _ (number : ℕ) (l : CountedLoop) (is : slice_get c.loops number ≡ Some l) where
    abbrev now : CountedLoop
    now = with_added c.code l

    abbrev old : IsClosedBody c number l
    old = closed.bodies number l is

    was_in : (n : ℕ) → IsInBody l n → IsIn l.body n
    was_in n (inl h) = h
    was_in n (inr h) = absurd
        (omega (arith, h.0, h.1, ap (λ s. s.start) (none.by number l is), ap (λ s. s.end) (none.by number l is)))

    first_in : (n : ℕ) → n < length c.code → IsInBody now n → IsIn l.body n
    first_in n lt (inl h) = h
    first_in n lt (inr h) = absurd (omega (arith, lt, h.0))

    later_in : (n : ℕ) → length c.code ≤ n → IsInBody now n → IsIn now.added n
    later_in n le (inl h) = absurd (omega (arith, le, old.within n (inl h)))
    later_in n le (inr h) = h

    from_inside : (n m : ℕ) (j : Instruction) → Edge n m j → IsInBody now m → IsInBody now n ⊎ IsTurnOf number j
    from_inside n m j (Checks p i a has e from ge le) h = inl (by from)
      where
        body : IsIn l.body p
        body = span_in c.code p i a has e l m ge le (later_in m (omega (arith, ge)) h)

        by : ((n ≡ p) ⊎ (length c.code + needed c.code p ≤ n) × (n ≤ length c.code + needed c.code p + 1))
            → IsInBody now n
        by (inl q) = inl (subst (IsIn l.body) (sym q) body)
        by (inr q) = inr (span_out c.code p i a has e l n q.0 q.1 body)
    from_inside n m j (Leaves p i a has e at to) h = inl (by
        (old.enters p m i has to (inl (first_in m (closed.leads p m i has to) h))))
      where
        by : IsInBody l p ⊎ IsTurnOf number i → IsInBody now n
        by (inl q) = inr (span_out c.code p i a has e l n (omega (arith, at)) (omega (arith, at)) (was_in p q))
        by (inr q) = absurd ((gets_checks i a e).turns number q)
    from_inside n m j (Stays has to) h = by (old.enters n m j has to (inl (first_in m (closed.leads n m j has to) h)))
      where
        by : IsInBody l n ⊎ IsTurnOf number j → IsInBody now n ⊎ IsTurnOf number j
        by (inl q) = inl (inl (was_in n q))
        by (inr q) = inr q

    keeps_front : KeepsVariable c l → (n : ℕ) (j i : Instruction) (a : Option Access) → Has c.code n i
        → access_of i ≡ a → j ≡ front (length c.code + needed c.code n) a i → IsIn l.body n
        → assigns_plain j l.variable ≡ false
    keeps_front keep n j i None has e q h =
        ap (λ x. assigns_plain x l.variable) q ∙ keep.by n i has (inl h)
    keeps_front keep n j i (Some a) has e q h = ap (λ x. assigns_plain x l.variable) q

    keeps_all : KeepsVariable c l → (n : ℕ) (j : Instruction) → Stands c.code n j → IsInBody now n
        → assigns_plain j l.variable ≡ false
    keeps_all keep n j (Front f) h = keeps_front keep n j f.at (access_of f.at) f.has refl f.is_front
        (first_in n (slice_get_within c.code n f.at f.has) h)
    keeps_all keep n j (After b) h = by b.stands
      where
        by : IsBehind (length c.code + needed c.code b.node) n b.access j → assigns_plain j l.variable ≡ false
        by (inl q) = ap (λ x. assigns_plain x l.variable) q.1
        by (inr q) = ap (λ x. assigns_plain x l.variable) q.1
            ∙ (gets_checks b.at b.access b.gets).keeps l.variable

    still_keeps : KeepsVariable c l → KeepsVariable (checked_function c) now
    still_keeps keep = record { by = λ n j h inside. keeps_all keep n j (stands c.code n j h) inside }

    in_code : (n : ℕ) → IsInBody now n → n < length (with_checks c.code)
    in_code n (inl h) = short n (old.within n (inl h))
    in_code n (inr h) = omega (arith, h.1, needed_all c.code l.body.end, checked_length c.code)

    still_closed : IsClosedBody (checked_function c) number now
    still_closed = record {
      within = in_code;
      begins = λ h. old.begins (inl (first_in c.entry closed.begins h));
      enters = λ n m j h to inside. from_inside n m j (edge n m j h to) inside;
    }

  loop_of : (number : ℕ) (k : CountedLoop) (o : Option CountedLoop) → slice_get c.loops number ≡ o
      → option_map (with_added c.code) o ≡ Some k → IsClosedBody (checked_function c) number k
  loop_of number k None e h = cc
  loop_of number k (Some l) e h = subst (IsClosedBody (checked_function c) number) (same_Some _ k h)
      (still_closed number l e)

  kept_of : ((number : ℕ) (l : CountedLoop) → slice_get c.loops number ≡ Some l → KeepsVariable c l) → (number : ℕ)
      (k : CountedLoop) (o : Option CountedLoop) → slice_get c.loops number ≡ o
      → option_map (with_added c.code) o ≡ Some k → KeepsVariable (checked_function c) k
  kept_of keep number k None e h = cc
  kept_of keep number k (Some l) e h = subst (KeepsVariable (checked_function c)) (same_Some _ k h)
      (still_keeps number l e (keep number l e))

  pub function_keeps : ((number : ℕ) (l : CountedLoop) → slice_get c.loops number ≡ Some l → KeepsVariable c l)
      → (number : ℕ) (k : CountedLoop) → slice_get (checked_function c).loops number ≡ Some k
      → KeepsVariable (checked_function c) k
  function_keeps keep number k h = kept_of keep number k (slice_get c.loops number) refl
      (sym (slice_get-map (with_added c.code) c.loops number) ∙ h)

  pub function_closed : HasClosedBodies (checked_function c)
  function_closed = record {
    begins = short c.entry closed.begins;
    leads = λ n m j h to. led n m j (edge n m j h to);
    bodies = λ number k h. loop_of number k (slice_get c.loops number) refl
        (sym (slice_get-map (with_added c.code) c.loops number) ∙ h);
  }

-- a program

pub program_closed : (t r : Tac) → r.functions ≡ map checked_function t.functions → HaveNoneAdded t
    → HaveClosedBodies t → HaveClosedBodies r
program_closed t r e none closed = record {
  by = λ u f h. by u f (slice_get t.functions u) refl
      (sym (slice_get-map checked_function t.functions u) ∙ ap (λ fs. slice_get fs u) (sym e) ∙ h);
}
  where
    by : (u : ℕ) (f : CodeFunction) (o : Option CodeFunction) → slice_get t.functions u ≡ o
        → option_map checked_function o ≡ Some f → HasClosedBodies f
    by u f None e h = cc
    by u f (Some c) e h = subst HasClosedBodies (same_Some _ f h) (function_closed c (closed.by u c e) (none.by u c e))

pub program_keeps : (t r : Tac) → r.functions ≡ map checked_function t.functions → HaveNoneAdded t
    → HaveClosedBodies t → KeepVariables t → KeepVariables r
program_keeps t r e none closed keep = record {
  by = λ u f h. by u f (slice_get t.functions u) refl
      (sym (slice_get-map checked_function t.functions u) ∙ ap (λ fs. slice_get fs u) (sym e) ∙ h);
}
  where
    by : (u : ℕ) (f : CodeFunction) (o : Option CodeFunction) → slice_get t.functions u ≡ o
        → option_map checked_function o ≡ Some f → (number : ℕ) (k : CountedLoop) → slice_get f.loops number ≡ Some k
        → KeepsVariable f k
    by u f None e h number k is = cc
    by u f (Some c) e h number k is =
        subst (λ z. KeepsVariable z k) (same_Some _ f h)
        (function_keeps c (closed.by u c e) (none.by u c e) (keep.by u c e) number k
        (subst (λ z. slice_get z.loops number ≡ Some k) (sym (same_Some _ f h)) is))

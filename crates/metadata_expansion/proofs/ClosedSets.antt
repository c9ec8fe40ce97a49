-- When sets of temporaries are closed.
use Rattle.std.proofs.Common.{◌≡◌, ◌≢◌, inl, inr, ℕ, zero, suc, Bool, true, false, not, ◌&&◌, ◌||◌, ◌==◌, List, [], ◌∷◌, refl, sym, ap}
use Rattle.std.proofs.Common.{◌∙◌, subst, Option, Some, None, ◌+◌, ◌<◌, ◌≤◌, ◌++◌, length, arith}
use Rattle.std.specs.Prelude.{slice_get, set, nat_le, nat_lt}
use Rattle.std.proofs.lemmas.Bool.{eqb-true, eq-eqb, ne_eqb, false≢true, ltb-true, ltb-false, lt-ltb, le-leb, le-ltb}
use Rattle.std.proofs.lemmas.Option.{same_Some, none-some}
use Rattle.tac_ir.specs.declared.instruction.Instruction.TheVariants as tac
use Rattle.tac_ir.specs.Temporaries.{temporaries}
use Rattle.metadata_plan.specs.Registers.{most_temporaries}
use Rattle.metadata_plan.specs.Entries.{is_among}
use Rattle.metadata_expansion.specs.declared.temporary_set.TemporarySet.{TemporarySet}
use Rattle.metadata_expansion.specs.TemporarySets.{is_in, room}
use Rattle.tac_ir.specs.declared.instruction.Instruction.{Instruction}
use Rattle.tac_ir.specs.declared.function.CodeFunction.{CodeFunction}
use Rattle.tac_ir.specs.Edges.{successors, IsAmong}
use Rattle.metadata_plan.specs.Entries.{Entries, IsOther, given}
use Rattle.metadata_expansion.specs.ClosedSets.{HaveRoom, in_sets, is_in_some}
use Rattle.metadata_expansion.specs.ClosedSets.{Reads, Source, has_at, is_passed_on, needs, IsClosedUnder, ReadsNone, AreNone}

either_left : (a b : Bool) → a ≡ true → (a || b) ≡ true
either_left true b e = refl
either_left false b e = absurd (false≢true e)

either_right : (a b : Bool) → b ≡ true → (a || b) ≡ true
either_right true b e = refl
either_right false b e = e

-- at one of the nodes is at some of them
at_one : (e : Entries) (ms : List ℕ) (m y : ℕ) → IsAmong m ms → e m y ≡ true → has_at e ms y ≡ true
at_one e [] m y there h = elim there [ ]
at_one e (x ∷ ms) m y (inl is) h = either_left _ _ (ap (λ k. e k y) (sym is) ∙ h)
at_one e (x ∷ ms) m y (inr in_) h = either_right _ _ (at_one e ms m y in_ h)

-- a temporary that gets no value is passed on, and so is the source of the result's entry
passed : (f : ℕ → Bool) (d a : Option ℕ) (y : ℕ) → IsOther d y → f y ≡ true → is_passed_on f d a y ≡ true
passed f None a y other h = either_left _ _ (ap (λ b. b && true) h)
passed f (Some d) a y other h = either_left _ _ (ap (λ b. b && not (y == d)) h ∙ ap not (ne_eqb y d other))

made_of : (f : ℕ → Bool) (d : Option ℕ) (s : Option ℕ) (x a : ℕ) → d ≡ Some x → s ≡ Some a → f x ≡ true
    → is_passed_on f d s a ≡ true
made_of f d s x a is source h =
    subst (λ z. is_passed_on f z s a ≡ true) (sym is) (subst (λ z. is_passed_on f (Some x) z a ≡ true) (sym source)
    (either_right _ _ (ap (λ b. b && a == a) h ∙ eq-eqb a a refl)))

-- a set is closed that has what each instruction needs
pub closed_by_needs : (reads : Reads) (source : Source) (c : CodeFunction) (e : Entries)
    → ((n y : ℕ) (i : Instruction) → slice_get c.code n ≡ Some i → needs reads source e i y ≡ true → e n y ≡ true)
    → IsClosedUnder reads source c e
closed_by_needs reads source c e has = record {
  read = λ n y i is at. has n y i is (either_right (is_passed_on (has_at e (successors i)) (given i) (source i) y)
      (reads i y) at);
  kept = λ n m y i is leads other at_m. has n y i is
      (either_left (is_passed_on (has_at e (successors i)) (given i) (source i) y) (reads i y)
      (passed (has_at e (successors i)) (given i) (source i) y other (at_one e (successors i) m y leads at_m)));
  made = λ n m d a i is leads gives of at_m. has n a i is
      (either_left (is_passed_on (has_at e (successors i)) (given i) (source i) a) (reads i a)
      (made_of (has_at e (successors i)) (given i) (source i) d a gives of
      (at_one e (successors i) m d leads at_m)));
}

-- where none is in the set and none is read, none is wanted
none_at : (e : Entries) (ms : List ℕ) (y : ℕ) → AreNone e → has_at e ms y ≡ false
none_at e [] y none = refl
none_at e (m ∷ ms) y none = ap (λ b. b || has_at e ms y) (none.by m y) ∙ none_at e ms y none

none_passed : (f : ℕ → Bool) (d a : Option ℕ) (y : ℕ) → ((x : ℕ) → f x ≡ false) → is_passed_on f d a y ≡ false
none_passed f None a y none = ap (λ b. (b && true) || false) (none y)
none_passed f (Some d) None y none = ap (λ b. (b && not (y == d)) || false) (none y)
none_passed f (Some d) (Some a) y none =
    ap (λ b. (b && not (y == d)) || (f d && y == a)) (none y) ∙ ap (λ b. b && y == a) (none d)

pub none_needed : (reads : Reads) (source : Source) (c : CodeFunction) (e : Entries) (n y : ℕ) (i : Instruction)
    → ReadsNone reads c → AreNone e → slice_get c.code n ≡ Some i → needs reads source e i y ≡ false
none_needed reads source c e n y i unread none is =
    ap (λ b. b || reads i y) (none_passed _ (given i) (source i) y (λ x. none_at e (successors i) x none))
    ∙ unread.by n y i is

-- ---- temporaries of an instruction

abbrev pub IsBelow : Option ℕ → ℕ → Type 0
IsBelow None n = Unit {0}
IsBelow (Some d) n = d < n

pub below_some : (o : Option ℕ) (n d : ℕ) → IsBelow o n → o ≡ Some d → d < n
below_some o n d h e = subst (λ z. IsBelow z n) e h

given_below : (i : Instruction) → IsBelow (given i) (temporaries i)
given_below tac.Reserved = tt
given_below (tac.Skip m) = tt
given_below (tac.SetPlain x a m) = tt
given_below (tac.Judge test size line key a m) = tt
given_below (tac.Zero x m) = tt
given_below (tac.StorePart kind line x offset a m) = tt
given_below (tac.StoreText n x offset m) = tt
given_below (tac.Branch a x y) = tt
given_below (tac.Case a w x y) = tt
given_below (tac.Turn counted m) = tt
given_below (tac.EnterBlock b line m) = tt
given_below (tac.LeaveBlock b m) = tt
given_below (tac.Return a) = tt
given_below i = omega arith

pub given_low : (i : Instruction) (n d : ℕ) → temporaries i ≤ n → given i ≡ Some d → d < n
given_low i n d most is = let low = below_some (given i) (temporaries i) d (given_below i) is in omega (arith, most, low)

pub temporaries_at : (is : List Instruction) (n most : ℕ) (i : Instruction) → most_temporaries is ≤ most
    → slice_get is n ≡ Some i → temporaries i ≤ most
temporaries_at [] n most i low h = absurd (none-some _ h)
temporaries_at (j ∷ is) zero most i low h =
    let e : temporaries j ≡ temporaries i = ap temporaries (same_Some _ _ h) in
    omega (arith, low, e)
temporaries_at (j ∷ is) (suc n) most i low h = temporaries_at is n most i (omega (arith, low)) h

-- ---- sets

pub or_among : (a b c : Bool) → ((a || b) || c) ≡ (a || (b || c))
or_among true b c = refl
or_among false b c = refl

pub among_more : (d i y : ℕ) → (is_among d i y || (y == d + i && true)) ≡ is_among d (i + 1) y
among_more d i y = by (nat_lt y (d + i)) (y == d + i) (nat_le d y) refl refl refl
  where
    by : (a b c : Bool) → nat_lt y (d + i) ≡ a → (y == d + i) ≡ b → nat_le d y ≡ c
        → ((c && a) || (b && true)) ≡ (c && nat_lt y (d + (i + 1)))
    by true b true low same first =
        let l = ltb-true y (d + i) low in sym (lt-ltb y (d + (i + 1)) (omega (arith, l)))
    by true true false low same first =
        let l = ltb-true y (d + i) low in
        let e = eqb-true y (d + i) same in
        absurd (omega (arith, l, e))
    by true false false low same first = refl
    by false true true low same first =
        let e = eqb-true y (d + i) same in sym (lt-ltb y (d + (i + 1)) (omega (arith, e)))
    by false true false low same first =
        let e = eqb-true y (d + i) same in
        absurd (false≢true (sym first ∙ le-leb d y (omega (arith, e))))
    by false false true low same first =
        let l = ltb-false y (d + i) low in
        let other : y ≢ d + i = λ e. false≢true (sym same ∙ eq-eqb y (d + i) e) in
        sym (le-ltb y (d + (i + 1)) (omega (arith, l, other)))
    by false false false low same first = refl

pub among_step : (b : Bool) (d i y : ℕ)
    → ((b || is_among d i y) || (y == d + i && true)) ≡ (b || is_among d (i + 1) y)
among_step b d i y = or_among b (is_among d i y) (y == d + i && true) ∙ ap (λ z. b || z) (among_more d i y)

pub passed_same : (f g : ℕ → Bool) (d a : Option ℕ) (y : ℕ) → ((x : ℕ) → f x ≡ g x)
    → is_passed_on f d a y ≡ is_passed_on g d a y
passed_same f g None a y same = ap (λ b. (b && true) || false) (same y)
passed_same f g (Some d) None y same = ap (λ b. (b && not (y == d)) || false) (same y)
passed_same f g (Some d) (Some a) y same =
    ap (λ b. (b && not (y == d)) || (f d && y == a)) (same y)
    ∙ ap (λ b. (g y && not (y == d)) || (b && y == a)) (same d)

-- ---- lists of sets

pub room_more : (n : ℕ) (sets : List TemporarySet) (s : TemporarySet) → HaveRoom n sets → room s ≡ n
    → HaveRoom n (sets ++ s ∷ [])
room_more n sets s old new = record { by = at sets old.by }
  where
    at : (sets : List TemporarySet) → ((k : ℕ) (r : TemporarySet) → slice_get sets k ≡ Some r → room r ≡ n) → (k : ℕ)
        (r : TemporarySet) → slice_get (sets ++ s ∷ []) k ≡ Some r → room r ≡ n
    at [] old zero r h = ap room (sym (same_Some _ _ h)) ∙ new
    at [] old (suc k) r h = absurd (none-some _ h)
    at (x ∷ xs) old zero r h = old zero r h
    at (x ∷ xs) old (suc k) r h = at xs (λ m. old (suc m)) k r h

pub none_more : (sets : List TemporarySet) (s : TemporarySet) → AreNone (in_sets sets)
    → ((y : ℕ) → is_in s y ≡ false) → AreNone (in_sets (sets ++ s ∷ []))
none_more sets s old new = record { by = at sets old.by }
  where
    at : (sets : List TemporarySet) → ((n y : ℕ) → in_sets sets n y ≡ false) → (n y : ℕ)
        → in_sets (sets ++ s ∷ []) n y ≡ false
    at [] old zero y = new y
    at [] old (suc n) y = refl
    at (x ∷ xs) old zero y = old zero y
    at (x ∷ xs) old (suc n) y = at xs (λ m. old (suc m)) n y

pub room_set : (n node : ℕ) (sets : List TemporarySet) (s : TemporarySet) → HaveRoom n sets → room s ≡ n
    → HaveRoom n (set sets node s)
room_set n node sets s old new = record { by = at node sets old.by }
  where
    at : (node : ℕ) (sets : List TemporarySet) → ((k : ℕ) (r : TemporarySet) → slice_get sets k ≡ Some r → room r ≡ n)
        → (k : ℕ) (r : TemporarySet) → slice_get (set sets node s) k ≡ Some r → room r ≡ n
    at node [] old k r h = absurd (none-some _ h)
    at zero (x ∷ xs) old zero r h = ap room (sym (same_Some _ _ h)) ∙ new
    at zero (x ∷ xs) old (suc k) r h = old (suc k) r h
    at (suc m) (x ∷ xs) old zero r h = old zero r h
    at (suc m) (x ∷ xs) old (suc k) r h = at m xs (λ i. old (suc i)) k r h

pub none_set : (node : ℕ) (sets : List TemporarySet) (s : TemporarySet) → AreNone (in_sets sets)
    → ((y : ℕ) → is_in s y ≡ false) → AreNone (in_sets (set sets node s))
none_set node sets s old new = record { by = at node sets old.by }
  where
    at : (node : ℕ) (sets : List TemporarySet) → ((n y : ℕ) → in_sets sets n y ≡ false) → (n y : ℕ)
        → in_sets (set sets node s) n y ≡ false
    at node [] old n y = refl
    at zero (x ∷ xs) old zero y = new y
    at zero (x ∷ xs) old (suc n) y = old (suc n) y
    at (suc m) (x ∷ xs) old zero y = old zero y
    at (suc m) (x ∷ xs) old (suc n) y = at m xs (λ i. old (suc i)) n y

pub no_sets : (n : ℕ) → HaveRoom n []
no_sets n = record { by = λ k s h. absurd (none-some _ h) }

pub no_entries : AreNone (in_sets [])
no_entries = record { by = λ n y. refl }

-- ---- all nodes

pub length_more : {A : Type 0} (xs : List A) (x : A) (n : ℕ) → length xs ≡ n → length (xs ++ x ∷ []) ≡ n + 1
length_more [] x n e = omega (arith, e)
length_more (y ∷ xs) x zero e = absurd (omega (arith, e))
length_more (y ∷ xs) x (suc n) e = let rest = length_more xs x n (omega (arith, e)) in omega (arith, rest)

pub there_below : {A : Type 0} (xs : List A) (n : ℕ) (x : A) → slice_get xs n ≡ Some x → n < length xs
there_below [] n x h = absurd (none-some _ h)
there_below (y ∷ xs) zero x h = omega arith
there_below (y ∷ xs) (suc n) x h = let rest = there_below xs n x h in omega (arith, rest)

pub covers_more : (reads : Reads) (source : Source) (c : CodeFunction) (sets : List TemporarySet) (node : ℕ) (at set : TemporarySet)
    (j : Instruction)
    → ((n y : ℕ) (i : Instruction) → n < node → slice_get c.code n ≡ Some i → needs reads source (in_sets sets) i y ≡ true
    → in_sets sets n y ≡ true)
    → slice_get c.code node ≡ Some j → slice_get sets node ≡ Some at
    → ((y : ℕ) → is_in set y ≡ needs reads source (in_sets sets) j y)
    → ((y : ℕ) → is_in set y ≡ true → is_in at y ≡ true)
    → (n y : ℕ) (i : Instruction) → n < node + 1 → slice_get c.code n ≡ Some i
    → needs reads source (in_sets sets) i y ≡ true → in_sets sets n y ≡ true
covers_more reads source c sets node at set j before here there exact within n y i low is need = by (nat_lt n node) refl
  where
    by : (b : Bool) → nat_lt n node ≡ b → in_sets sets n y ≡ true
    by true e = before n y i (ltb-true n node e) is need
    by false e =
        let past = ltb-false n node e in
        let same : n ≡ node = omega (arith, past, low) in
        let own : i ≡ j = same_Some _ _ (sym is ∙ ap (slice_get c.code) same ∙ here) in
        ap (λ k. is_in_some (slice_get sets k) y) same ∙ ap (λ o. is_in_some o y) there
        ∙ within y (exact y ∙ ap (λ k. needs reads source (in_sets sets) k y) (sym own) ∙ need)

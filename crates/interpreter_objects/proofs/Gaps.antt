-- The first gap of the live blocks is where a new block is placed.
use Rattle.std.proofs.Common.{◌≡◌, ℕ, zero, suc, ◌+◌, ◌-◌, ◌*◌, ◌/◌, ◌%◌, ◌<◌, ◌≤◌, ◌⊎◌, inl, inr, ⊎_elim, Bool}
use Rattle.std.proofs.Common.{true, false, ◌||◌, nat_le, if◌then◌else◌, List, [], ◌∷◌, refl, sym, ap, ◌∙◌, arith, subst}
use Rattle.std.proofs.Common.{Option, Some, None}
use Rattle.std.proofs.lemmas.Bool.{cases_lt, le-leb, leb-true}
use Rattle.obj_memory.specs.Heap.{block_room, has_room, is_live_block, least_place}
use Rattle.obj_memory.specs.Objects.{Objects, object_at, with_new}
use Rattle.obj_memory.specs.Sound.{IsClearOf}
use Rattle.obj_memory.proofs.Placing.{has_room_tells, least_place_by, least_place_found, room_whole}
use Rattle.obj_memory.specs.declared.object.Storage.TheVariants.{Allocated}
use Rattle.std.specs.List.{insert, remove}
use Rattle.interpreter_objects.specs.declared.blocks.Block.{Block}
use Rattle.interpreter_objects.specs.Blocks.{AreInOrder, AreLive, block_from, block_of, first_gap, gap_in}
use Rattle.interpreter_objects.specs.Blocks.{gap_index, has_gap, index_of, is_same, live_weight, weight, with_block}
use Rattle.interpreter_objects.specs.Blocks.{with_gap_filled, without}
use Rattle.interpreter_objects.proofs.Weights.{made_live}

-- a weight of one for each block that a range meets
abbrev unless : Bool → ℕ
unless true = 0
unless false = 1

abbrev met : (start room : ℕ) → Block → ℕ
met start room b = unless (nat_le (start + room) b.start || nat_le b.end start)

not_met : (start room : ℕ) (b : Block) → (start + room ≤ b.start) ⊎ (b.end ≤ start) → met start room b ≡ 0
not_met start room b (inl h) =
    ap (λ x. unless (x || nat_le b.end start)) (le-leb (start + room) b.start h)
not_met start room b (inr h) =
    ap (λ x. unless (nat_le (start + room) b.start || x)) (le-leb b.end start h)
    ∙ by (nat_le (start + room) b.start)
  where
    by : (x : Bool) → unless (x || true) ≡ 0
    by true = refl
    by false = refl

not_met_tells : (start room : ℕ) (b : Block) → met start room b ≡ 0
    → (start + room ≤ b.start) ⊎ (b.end ≤ start)
not_met_tells start room b h = by (nat_le (start + room) b.start) (nat_le b.end start) refl refl h
  where
    by : (x y : Bool) → nat_le (start + room) b.start ≡ x → nat_le b.end start ≡ y → unless (x || y) ≡ 0
        → (start + room ≤ b.start) ⊎ (b.end ≤ start)
    by true y e g h = inl (leb-true (start + room) b.start e)
    by false true e g h = inr (leb-true b.end start g)
    by false false e g h = absurd (omega (arith, h))

-- the first gap

gap_here : (low room : ℕ) (b : Block) (bs : List Block) → low + room ≤ b.start → first_gap low room (b ∷ bs) ≡ low
unfolding first_gap
gap_here low room b bs h = ap (λ x. if x then low else first_gap b.end room bs) (le-leb (low + room) b.start h)

gap_behind : (low room : ℕ) (b : Block) (bs : List Block) → b.start < low + room
    → first_gap low room (b ∷ bs) ≡ first_gap b.end room bs
unfolding first_gap
gap_behind low room b bs h =
    ap (λ x. if x then low else first_gap b.end room bs) (not_le (nat_le (low + room) b.start) refl)
  where
    not_le : (x : Bool) → nat_le (low + room) b.start ≡ x → nat_le (low + room) b.start ≡ false
    not_le true e = absurd (let l = leb-true (low + room) b.start e in omega arith)
    not_le false e = e

-- it begins at the first address or behind it, at a multiple of 16
gap_most : (low high room : ℕ) (bs : List Block) → AreInOrder low high bs → low ≤ first_gap low room bs
unfolding first_gap
gap_most low high room [] h = omega arith
gap_most low high room (b ∷ bs) h = ⊎_elim
    (λ less. let g = gap_behind low room b bs less in
    let m = gap_most b.end high room bs h.4 in
    let a = h.0 in let c = h.1 in omega (arith, g, m, a, c))
    (λ le. let g = gap_here low room b bs le in omega (arith, g))
    (cases_lt b.start (low + room))

gap_aligned : (low high room : ℕ) (bs : List Block) → AreInOrder low high bs → low % 16 ≡ 0
    → first_gap low room bs % 16 ≡ 0
unfolding first_gap
gap_aligned low high room [] h a = a
gap_aligned low high room (b ∷ bs) h a = ⊎_elim
    (λ less. ap (λ n. n % 16) (gap_behind low room b bs less) ∙ gap_aligned b.end high room bs h.4 h.3)
    (λ le. ap (λ n. n % 16) (gap_here low room b bs le) ∙ a)
    (cases_lt b.start (low + room))

-- it meets no block
all_behind : (start room low high : ℕ) (bs : List Block) → AreInOrder low high bs → start + room ≤ low
    → weight (met start room) bs ≡ 0
unfolding weight
all_behind start room low high [] h le = refl
all_behind start room low high (b ∷ bs) h le =
    let a = h.0 in let c = h.1 in
    let here = not_met start room b (inl (omega (arith, le, a))) in
    let rest = all_behind start room b.end high bs h.4 (omega (arith, le, a, c)) in
    omega (arith, here, rest)

gap_clear : (low high room : ℕ) (bs : List Block) → AreInOrder low high bs
    → weight (met (first_gap low room bs) room) bs ≡ 0
unfolding weight
gap_clear low high room [] h = refl
gap_clear low high room (b ∷ bs) h = ⊎_elim
    (λ less. subst (λ p. met p room b + weight (met p room) bs ≡ 0) (sym (gap_behind low room b bs less))
    (let here = not_met (first_gap b.end room bs) room b (inr (gap_most b.end high room bs h.4)) in
    let rest = gap_clear b.end high room bs h.4 in omega (arith, here, rest)))
    (λ le. subst (λ p. met p room b + weight (met p room) bs ≡ 0) (sym (gap_here low room b bs le))
    (all_behind low room b.start high (b ∷ bs) (omega arith, h.1, h.2, h.3, h.4) le))
    (cases_lt b.start (low + room))

-- each address below it meets one
below_met : (low room q : ℕ) (bs : List Block) → low ≤ q → q < first_gap low room bs → 1 ≤ weight (met q room) bs
unfolding weight first_gap
below_met low room q [] lo hi = absurd (omega arith)
below_met low room q (b ∷ bs) lo hi = ⊎_elim
    (λ less. ⊎_elim
    (λ before. let one = is_met (met q room b) refl less before in omega (arith, one))
    (λ from. let g = gap_behind low room b bs less in
    let rest = below_met b.end room q bs from (omega (arith, g, hi)) in omega (arith, rest))
    (cases_lt q b.end))
    (λ le. absurd (let g = gap_here low room b bs le in omega (arith, g, hi, lo)))
    (cases_lt b.start (low + room))
  where
    is_met : (n : ℕ) → met q room b ≡ n → b.start < low + room → q < b.end → 1 ≤ n
    is_met (suc n) e less before = omega arith
    is_met zero e less before = absurd (⊎_elim (λ l. omega (arith, l, less, lo)) (λ l. omega (arith, l, before))
        (not_met_tells q room b e))

-- live blocks that weigh nothing, and weigh something

light : (f : Block → ℕ) (objects : Objects) (j : ℕ) → live_weight f objects ≡ 0
    → is_live_block (object_at objects j) ≡ true → f (block_of (object_at objects j)) ≡ 0
unfolding live_weight
light f [] j h live = absurd (let e : false ≡ true = live in cc)
light f (o ∷ os) zero h live =
    let e = ap (λ b. (if b then f (block_of o) else 0) + live_weight f os) live in omega (arith, h, e)
light f (o ∷ os) (suc j) h live = light f os j (omega (arith, h)) live

all_light : (f : Block → ℕ) (objects : Objects)
    → ((j : ℕ) → is_live_block (object_at objects j) ≡ true → f (block_of (object_at objects j)) ≡ 0)
    → live_weight f objects ≡ 0
unfolding live_weight
all_light f [] h = refl
all_light f (o ∷ os) h =
    let rest = all_light f os (λ j. h (suc j)) in
    let one = by (is_live_block o) refl in
    omega (arith, rest, one)
  where
    by : (b : Bool) → is_live_block o ≡ b → (if is_live_block o then f (block_of o) else 0) ≡ 0
    by true e = ap (λ b. if b then f (block_of o) else 0) e ∙ h 0 e
    by false e = ap (λ b. if b then f (block_of o) else 0) e

module _ (objects : Objects) (bs : List Block) (first last size : ℕ) (live : AreLive objects bs)
    (order : AreInOrder first (last + 1) bs) (aligned : first % 16 ≡ 0) where
  abbrev room : ℕ
  room = block_room size

  abbrev gap : ℕ
  gap = first_gap first room bs

  clear : (j : ℕ) → is_live_block (object_at objects j) ≡ true → IsClearOf gap room (object_at objects j)
  clear j l =
      not_met_tells gap room (block_of (object_at objects j))
      (light (met gap room) objects j (sym (live.same (met gap room)) ∙ gap_clear first (last + 1) room bs order) l)

  meets : (q : ℕ) → first ≤ q → q < gap
      → ((j : ℕ) → is_live_block (object_at objects j) ≡ true → IsClearOf q room (object_at objects j)) → ⊥
  meets q lo hi none =
      let some = below_met first room q bs lo hi in
      let same = live.same (met q room) in
      let nothing = all_light (met q room) objects
      (λ j l. not_met q room (block_of (object_at objects j)) (none j l)) in
      omega (arith, some, same, nothing)

  no_room_below : (q : ℕ) → first ≤ q → q < gap → (b : Bool) → has_room last room objects q ≡ b
      → has_room last room objects q ≡ false
  no_room_below q lo hi true e = absurd (meets q lo hi (has_room_tells last room objects q e).clear)
  no_room_below q lo hi false e = e

  fits : gap + room ≤ last + 1 → least_place first last size objects ≡ Some gap
  fits within =
      let most = gap_most first (last + 1) room bs order in
      let whole = gap_aligned first (last + 1) room bs order aligned in
      let step : gap ≡ first + 16 * ((gap - first) / 16) = omega (arith, most, whole, aligned) in
      least_place_by first last size objects gap (record {
        step = (gap - first) / 16;
        is_step = step;
        in_heap = within;
        clear = clear;
        least = λ i l. no_room_below (first + 16 * i) (omega arith) (omega (arith, l, most))
            (has_room last room objects (first + 16 * i)) refl;
      })

  none_fits : last + 1 < gap + room → least_place first last size objects ≡ None
  none_fits high = by (least_place first last size objects) refl
    where
      by : (o : Option ℕ) → least_place first last size objects ≡ o → least_place first last size objects ≡ None
      by None e = e
      by (Some q) e =
          let p = least_place_found first last size objects q e in
          let at = p.is_step in let inside = p.in_heap in
          ⊎_elim (λ below. absurd (meets q (omega (arith, at)) below p.clear))
          (λ from. absurd (omega (arith, from, inside, high))) (cases_lt q gap)

  pub gap_is_place : gap_in first last room bs ≡ least_place first last size objects
  unfolding gap_in
  gap_is_place = ⊎_elim
      (λ high. ap (λ b. if b then Some gap else None) (past (nat_le (gap + room) (last + 1)) refl high)
      ∙ sym (none_fits high))
      (λ within. ap (λ b. if b then Some gap else None) (le-leb (gap + room) (last + 1) within) ∙ sym (fits within))
      (cases_lt (last + 1) (gap + room))
    where
      past : (b : Bool) → nat_le (gap + room) (last + 1) ≡ b → last + 1 < gap + room
          → nat_le (gap + room) (last + 1) ≡ false
      past true e high = absurd (let l = leb-true (gap + room) (last + 1) e in omega (arith, l, high))
      past false e high = e

-- a block in the gap

pub filled_live : (first last size p : ℕ) (objects : Objects) (bs : List Block)
    → gap_in first last (block_room size) bs ≡ Some p → AreLive objects bs
    → AreLive (with_new Allocated p size objects) (with_gap_filled first last (block_room size) bs)
unfolding gap_in with_gap_filled
filled_live first last size p objects bs found live = by (has_gap first last (block_room size) bs) found
  where
    by : (b : Bool) → (if b then Some (first_gap first (block_room size) bs) else None) ≡ Some p
        → AreLive (with_new Allocated p size objects) (if b then with_block first (block_room size) bs else bs)
    by true e = subst (λ q. AreLive (with_new Allocated q size objects) (with_block first (block_room size) bs)) (cc)
        (made_live objects bs first size live)
    by false e = absurd (cc)

pub not_filled : (first last room : ℕ) (bs : List Block) → gap_in first last room bs ≡ None
    → with_gap_filled first last room bs ≡ bs
unfolding gap_in with_gap_filled
not_filled first last room bs none = by (has_gap first last room bs) none
  where
    by : (b : Bool) → (if b then Some (first_gap first room bs) else None) ≡ None
        → (if b then with_block first room bs else bs) ≡ bs
    by true e = absurd (cc)
    by false e = refl

-- the order stays

order_with : (low high room : ℕ) (bs : List Block) → AreInOrder low high bs → low % 16 ≡ 0 → room % 16 ≡ 0
    → first_gap low room bs + room ≤ high → AreInOrder low high (with_block low room bs)
unfolding first_gap gap_index
order_with low high room [] h a w fits =
    (omega arith, omega arith, a, omega (arith, a, w), fits)
order_with low high room (b ∷ bs) h a w fits =
    by (order_with b.end high room bs h.4 h.3 w) (nat_le (low + room) b.start) refl fits
  where
    by : (first_gap b.end room bs + room ≤ high → AreInOrder b.end high (with_block b.end room bs))
        → (c : Bool) → nat_le (low + room) b.start ≡ c → (if c then low else first_gap b.end room bs) + room ≤ high
        → AreInOrder low high (insert (b ∷ bs) (if c then 0 else suc (gap_index b.end room bs))
        (block_from (if c then low else first_gap b.end room bs) room))
    by others true e f =
        (omega arith, omega arith, a, omega (arith, a, w), (leb-true (low + room) b.start e, h.1, h.2, h.3, h.4))
    by others false e f = (h.0, h.1, h.2, h.3, others f)

pub order_filled : (first last size : ℕ) (bs : List Block) → AreInOrder first (last + 1) bs → first % 16 ≡ 0
    → AreInOrder first (last + 1) (with_gap_filled first last (block_room size) bs)
unfolding with_gap_filled
order_filled first last size bs h a = by (has_gap first last (block_room size) bs) refl
  where
    by : (b : Bool) → has_gap first last (block_room size) bs ≡ b
        → AreInOrder first (last + 1) (if b then with_block first (block_room size) bs else bs)
    by true e = order_with first (last + 1) (block_room size) bs h a (room_whole size) (leb-true _ _ e)
    by false e = h

lower : (low higher high : ℕ) (bs : List Block) → low ≤ higher → AreInOrder higher high bs → AreInOrder low high bs
lower low higher high [] le h = omega (arith, le, h)
lower low higher high (b ∷ bs) le h = (let a = h.0 in omega (arith, le, a), h.1, h.2, h.3, h.4)

pub order_without : (x : Block) (low high : ℕ) (bs : List Block) → AreInOrder low high bs
    → AreInOrder low high (without x bs)
unfolding without index_of
order_without x low high [] h = h
order_without x low high (b ∷ bs) h = by (order_without x b.end high bs h.4) (is_same x b)
  where
    by : AreInOrder b.end high (remove bs (index_of x bs)) → (c : Bool)
        → AreInOrder low high (remove (b ∷ bs) (if c then 0 else suc (index_of x bs)))
    by others true = lower low b.end high bs (let a = h.0 in let c = h.1 in omega (arith, a, c)) h.4
    by others false = (h.0, h.1, h.2, h.3, others)

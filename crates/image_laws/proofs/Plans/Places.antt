-- Which instruction stands at a place of a function's code, and where its jumps lead.
use Rattle.std.proofs.Common.{◌≡◌, ◌⊎◌, inl, inr, ⊎_elim, ℕ, zero, suc, ◌+◌, ◌-◌, ◌<◌, ◌≤◌, refl, sym, ap, ◌∙◌, subst}
use Rattle.std.proofs.Common.{arith, Bool, true, false, List, [], ◌∷◌, ◌++◌, length, drop, Some}
use Rattle.std.specs.Prelude.{slice_get, nat_lt, ◌==◌, not, if◌then◌else◌}
use Rattle.std.proofs.lemmas.Bool.{ltb-true, ltb-false, lt-ltb, eq-eqb, and_parts, cases_eq, both_ways, false≢true}
use Rattle.std.proofs.lemmas.Option.{same_Some, none-some, slice_get-get_or}
use Rattle.tac_ir.specs.declared.instruction.Instruction.{Instruction}
use Rattle.tac_ir.specs.declared.function.CodeFunction.{CodeFunction}
use Rattle.tac_ir.specs.Edges.{successors}
use Rattle.flat_code.specs.declared.instruction.FlatInstruction.{FlatInstruction}
use Rattle.flat_code.specs.declared.instruction.FlatInstruction.TheVariants.{JumpForward, JumpBack}
use Rattle.flat_code.specs.declared.function.FlatProgram.{FlatProgram}
use Rattle.flat_code.specs.Routines.Routine.{HasAt}
use Rattle.metadata_plan.specs.Laid.{jump, jump_unless, times_in, edges_to, ways_to, is_join, falls, jumps}
use Rattle.metadata_plan.specs.Laid.{size_at, size_from, place_of, laid_from, begin_code, body_of}
use Rattle.metadata_plan.proofs.Laying.{part_of, part_length, laid_length, begin_length, place_is, part_stands}
use Rattle.reg_plan.specs.Effects.{read_by, is_read, made_by, is_among, Leads}
use Rattle.image_laws.proofs.Plans.Flow.{none_has, reads_nothing}

-- ---- what stands in lists

pub get_append : {A : Type 0} (a b : List A) (k : ℕ) (x : A) → slice_get (a ++ b) k ≡ Some x
    → (slice_get a k ≡ Some x) ⊎ ((j : ℕ) × (k ≡ length a + j) × (slice_get b j ≡ Some x))
get_append [] b k x e = inr (k, omega arith, e)
get_append (y ∷ a) b zero x e = inl e
get_append (y ∷ a) b (suc k) x e =
    ⊎_elim inl (λ h. inr (h.0, omega (arith, h.1), h.2)) (get_append a b k x e)

pub get_left : {A : Type 0} (a b : List A) (k : ℕ) (x : A) → slice_get a k ≡ Some x → slice_get (a ++ b) k ≡ Some x
get_left [] b k x e = absurd (none-some x e)
get_left (y ∷ a) b zero x e = e
get_left (y ∷ a) b (suc k) x e = get_left a b k x e

pub get_right : {A : Type 0} (a b : List A) (k j : ℕ) → k ≡ length a + j → slice_get (a ++ b) k ≡ slice_get b j
get_right [] b k j e = ap (slice_get b) (let h : k ≡ j = omega (arith, e) in h)
get_right (y ∷ a) b zero j e = absurd (omega arith)
get_right (y ∷ a) b (suc k) j e = get_right a b k j (omega (arith, e))

pub has_get : (body is : List FlatInstruction) (pc r : ℕ) (x : FlatInstruction) → HasAt body pc is
    → slice_get is r ≡ Some x → slice_get body (pc + r) ≡ Some x
has_get body [] pc r x h e = absurd (none-some x e)
has_get body (i ∷ is) pc zero x h e = let z : pc + 0 ≡ pc = omega arith in ap (slice_get body) z ∙ h.0 ∙ e
has_get body (i ∷ is) pc (suc r) x h e =
    let z : pc + suc r ≡ pc + 1 + r = omega arith in
    ap (slice_get body) z ∙ has_get body is (pc + 1) r x h.1 e

-- ---- jumps

pub jump_onward : (a b q : ℕ) → Leads (jump a b) a q → q ≡ b
jump_onward a b q l = by (nat_lt a b) refl l
  where
    by : (t : Bool) → nat_lt a b ≡ t → Leads (if t then JumpForward (b - (a + 1)) else JumpBack (a - b)) a q → q ≡ b
    by true e (inl h) = let lt = ltb-true a b e in let same = same_Some (a + 1 + (b - (a + 1))) q h in omega arith
    by false e (inl h) = let le = ltb-false a b e in let same = same_Some (a - (a - b)) q h in omega arith
    by true e (inr h) = absurd (none-some q h)
    by false e (inr h) = absurd (none-some q h)

pub jump_makes : (p : FlatProgram) (a b y : ℕ) → is_among (made_by p (jump a b)) y ≡ true → ⊥
jump_makes p a b y m = by (nat_lt a b) m
  where
    by : (t : Bool) → is_among (made_by p (if t then JumpForward (b - (a + 1)) else JumpBack (a - b))) y ≡ true → ⊥
    by true h = none_has y h
    by false h = none_has y h

pub jump_reads : (p : FlatProgram) (f a b y : ℕ) → is_read (read_by p f (jump a b)) y ≡ true → ⊥
jump_reads p f a b y m = by (nat_lt a b) m
  where
    by : (t : Bool) → is_read (read_by p f (if t then JumpForward (b - (a + 1)) else JumpBack (a - b))) y ≡ true → ⊥
    by true h = reads_nothing y h
    by false h = reads_nothing y h

-- a way of a node along which its code does not fall
pub record IsWay (c : CodeFunction) (node : ℕ) (nodes : List ℕ) (next : ℕ) : Type 0 where
  pub is : 1 ≤ times_in next nodes
  pub unfallen : nodes ≡ next ∷ [] → falls c node next ≡ false

abbrev one_if : Bool → ℕ
one_if b = if b then 1 else 0

once : (w v : ℕ) (ms : List ℕ) → v ≡ w → 1 ≤ times_in w (v ∷ ms)
once w v ms e = let h : one_if (v == w) ≡ 1 = ap one_if (eq-eqb v w e) in omega (arith, h)

further : (w v : ℕ) (ms : List ℕ) → 1 ≤ times_in w ms → 1 ≤ times_in w (v ∷ ms)
further w v ms h = omega (arith, h)

unless_at : (fallen : Bool) (a b j : ℕ) (x : FlatInstruction) → slice_get (jump_unless fallen a b) j ≡ Some x
    → (fallen ≡ false) × (j ≡ 0) × (x ≡ jump a b)
unless_at true a b j x e = absurd (none-some x e)
unless_at false a b zero x e = (refl, refl, sym (same_Some (jump a b) x e))
unless_at false a b (suc j) x e = absurd (none-some x e)

pub jumps_at : (c : CodeFunction) (address : ℕ → ℕ) (n pc : ℕ) (ns : List ℕ) (j : ℕ) (x : FlatInstruction)
    → slice_get (jumps c address n pc ns) j ≡ Some x → (w : ℕ) × (x ≡ jump (pc + j) (address w)) × IsWay c n ns w
jumps_at c address n pc [] j x e = absurd (none-some x e)
jumps_at c address n pc (v ∷ []) j x e =
    let h = unless_at (falls c n v) pc (address v) j x e in
    let z : pc ≡ pc + j = omega (arith, h.1) in
    (v, h.2 ∙ ap (λ k. jump k (address v)) z, record { is = once v v [] refl; unfallen = λ s. h.0 })
jumps_at c address n pc (v ∷ w ∷ ms) zero x e =
    let z : pc ≡ pc + 0 = omega arith in (
      w,
      sym (same_Some (jump pc (address w)) x e) ∙ ap (λ k. jump k (address w)) z,
      record {
        is = further w v (w ∷ ms) (once w w ms refl);
        unfallen = λ s. absurd (let l = ap length s in omega arith);
      },
    )
jumps_at c address n pc (v ∷ w ∷ ms) (suc j) x e =
    let h = unless_at (falls c n v) (pc + 1) (address v) j x e in
    let z : pc + 1 ≡ pc + suc j = omega (arith, h.1) in (
      v,
      h.2 ∙ ap (λ k. jump k (address v)) z,
      record { is = once v v (w ∷ ms) refl; unfallen = λ s. absurd (let l = ap length s in omega arith) },
    )

-- ---- the ways to a node

pub edges_one : (is : List Instruction) (n w : ℕ) (i : Instruction) → slice_get is n ≡ Some i
    → 1 ≤ times_in w (successors i) → 1 ≤ edges_to is w
edges_one [] n w i e h = absurd (none-some i e)
edges_one (x ∷ is) zero w i e h =
    let same = ap (λ z. times_in w (successors z)) (same_Some x i e) in
    omega (arith, same, h)
edges_one (x ∷ is) (suc n) w i e h = omega (arith, edges_one is n w i e h)

pub edges_two : (is : List Instruction) (n k w : ℕ) (i j : Instruction) → (n ≡ k → ⊥) → slice_get is n ≡ Some i
    → slice_get is k ≡ Some j → 1 ≤ times_in w (successors i) → 1 ≤ times_in w (successors j) → 2 ≤ edges_to is w
edges_two [] n k w i j ne e e' h h' = absurd (none-some i e)
edges_two (x ∷ is) zero zero w i j ne e e' h h' = absurd (ne refl)
edges_two (x ∷ is) zero (suc k) w i j ne e e' h h' =
    let same = ap (λ z. times_in w (successors z)) (same_Some x i e) in
    omega (arith, same, h, edges_one is k w j e' h')
edges_two (x ∷ is) (suc n) zero w i j ne e e' h h' =
    let same = ap (λ z. times_in w (successors z)) (same_Some x j e') in
    omega (arith, same, h', edges_one is n w i e h)
edges_two (x ∷ is) (suc n) (suc k) w i j ne e e' h h' =
    let rest = edges_two is n k w i j (λ s. ne (ap suc s)) e e' h h' in
    omega (arith, rest)

pub falls_alone : (c : CodeFunction) (n w : ℕ) → 2 ≤ ways_to c w → falls c n w ≡ true → ⊥
unfolding falls
falls_alone c n w two e =
    let h = and_parts (w + 1 == n) (not (is_join c w)) e in
    let join : is_join c w ≡ true = lt-ltb 1 (ways_to c w) (omega (arith, two)) in
    false≢true (sym (ap not join) ∙ h.1)

-- a node to which a jump leads: the node before does not fall into it
abbrev pub IsJumped : CodeFunction → (node : ℕ) → Type 0
IsJumped c w =
    (i : Instruction) → slice_get c.code (suc w) ≡ Some i → successors i ≡ w ∷ [] → falls c (suc w) w ≡ true → ⊥

pub entry_jumped : (c : CodeFunction) → IsJumped c c.entry
entry_jumped c i at one fallen =
    let w = c.entry in
    let way : 1 ≤ times_in w (successors i) = subst (λ z. 1 ≤ times_in w z) (sym one) (once w w [] refl) in
    let a = edges_one c.code (suc w) w i at way in
    let b = once w w [] refl in
    falls_alone c (suc w) w (omega (arith, a, b)) fallen

pub way_jumped : (c : CodeFunction) (n w : ℕ) (i : Instruction) → slice_get c.code n ≡ Some i
    → IsWay c n (successors i) w → IsJumped c w
way_jumped c n w i at way j at' one fallen =
    ⊎_elim
    (λ same.
    let instruction : i ≡ j =
    same_Some i j (sym at ∙ ap (slice_get c.code) same ∙ at') in
    let unfallen = way.unfallen (ap successors instruction ∙ one) in
    both_ways (falls c (suc w) w) (ap (λ z. falls c z w) (sym same) ∙ unfallen) fallen)
    (λ other.
    let again : 1 ≤ times_in w (successors j) = subst (λ z. 1 ≤ times_in w z) (sym one) (once w w [] refl) in
    let two = edges_two c.code n (suc w) w i j other at at' way.is again in
    falls_alone c (suc w) w (omega (arith, two)) fallen)
    (cases_eq n (suc w))

-- ---- the node of a place

module _ (put : Instruction → List FlatInstruction) (begin : List FlatInstruction) (c : CodeFunction) where
  -- an instruction is one of those of a node
  pub record IsOfNode (place : ℕ) (x : FlatInstruction) : Type 0 where
    pub node : ℕ
    pub instruction : Instruction
    pub there : slice_get c.code node ≡ Some instruction
    pub offset : ℕ
    pub at : slice_get (part_of put begin c node instruction) offset ≡ Some x
    pub place_is : place ≡ place_of put begin c node + offset

  record IsLaid (first : ℕ) (is : List Instruction) (k : ℕ) (x : FlatInstruction) : Type 0 where
    node : ℕ
    instruction : Instruction
    there : slice_get is node ≡ Some instruction
    offset : ℕ
    at : slice_get (part_of put begin c (first + node) instruction) offset ≡ Some x
    place_is : k ≡ size_from put begin c (suc (first + node)) (drop (suc node) is) + offset

  laid_at : (first : ℕ) (is : List Instruction) (k : ℕ) (x : FlatInstruction)
      → slice_get (laid_from put begin c first is) k ≡ Some x → IsLaid first is k x
  laid_at first [] k x e = absurd (none-some x e)
  laid_at first (i ∷ is) k x e =
      ⊎_elim
      (λ front.
      let h = laid_at (suc first) is k x front in
      let same : suc first + h.node ≡ first + suc h.node = omega arith in
      record {
        node = suc h.node;
        instruction = h.instruction;
        there = h.there;
        offset = h.offset;
        at = subst (λ z. slice_get (part_of put begin c z h.instruction) h.offset ≡ Some x) same h.at;
        place_is =
            subst (λ z. k ≡ size_from put begin c (suc z) (drop (suc h.node) is) + h.offset) same h.place_is;
      })
      (λ back.
      let same : first ≡ first + 0 = omega arith in
      let long = laid_length put begin c (suc first) is in
      let place : k ≡ size_from put begin c (suc first) is + back.0 = omega (arith, back.1, long) in
      record {
        node = 0;
        instruction = i;
        there = refl;
        offset = back.0;
        at = subst (λ z. slice_get (part_of put begin c z i) back.0 ≡ Some x) same back.2;
        place_is = subst (λ z. k ≡ size_from put begin c (suc z) is + back.0) same place;
      })
      (get_append (laid_from put begin c (suc first) is) (part_of put begin c first i) k x e)

  pub body_at : (pc : ℕ) (x : FlatInstruction) → slice_get (body_of put begin c) pc ≡ Some x
      → (slice_get (begin_code put begin c) pc ≡ Some x) ⊎ IsOfNode pc x
  body_at pc x e =
      ⊎_elim inl
      (λ back.
      let h = laid_at 0 c.code back.0 x back.2 in
      let same : 0 + h.node ≡ h.node = omega arith in
      let begins = begin_length put begin c in
      let laid : back.0 ≡ size_from put begin c (suc h.node) (drop (suc h.node) c.code) + h.offset =
      subst (λ z. back.0 ≡ size_from put begin c (suc z) (drop (suc h.node) c.code) + h.offset) same h.place_is in
      inr (record {
        node = h.node;
        instruction = h.instruction;
        there = h.there;
        offset = h.offset;
        at = subst (λ z. slice_get (part_of put begin c z h.instruction) h.offset ≡ Some x) same h.at;
        place_is = omega (arith, back.1, begins, laid, place_is put begin c h.node);
      }))
      (get_append (begin_code put begin c) (laid_from put begin c 0 c.code) pc x e)

  -- each place of a node has an instruction
  pub part_has : (n : ℕ) (i : Instruction) (r : ℕ) → slice_get c.code n ≡ Some i → r < size_at put begin c n i
      → (z : FlatInstruction) × (slice_get (part_of put begin c n i) r ≡ Some z)
      × (slice_get (body_of put begin c) (place_of put begin c n + r) ≡ Some z)
  part_has n i r e lt = by (part_of put begin c n i) refl
    where
      at_place : (is : List FlatInstruction) → r < length is → (z : FlatInstruction) × (slice_get is r ≡ Some z)
      at_place [] lt = absurd (omega arith)
      at_place (x ∷ is) lt = (_, slice_get-get_or (x ∷ is) r x lt)

      by : (is : List FlatInstruction) → part_of put begin c n i ≡ is
          → (z : FlatInstruction) × (slice_get (part_of put begin c n i) r ≡ Some z)
          × (slice_get (body_of put begin c) (place_of put begin c n + r) ≡ Some z)
      by is same =
          let long = part_length put begin c n i in
          let z = at_place (part_of put begin c n i) (omega (arith, long, lt)) in (
            z.0,
            z.1,
            has_get (body_of put begin c) (part_of put begin c n i) (place_of put begin c n) r z.0
                (part_stands put begin c n i e) z.1,
          )

  -- ---- an instruction of a node: one of its block, or a jump behind it

  abbrev address : ℕ → ℕ
  address = place_of put begin c

  pub data Stands (n : ℕ) (i : Instruction) (r pc : ℕ) (x : FlatInstruction) : Type 0 where
    InBlock : slice_get (put i) r ≡ Some x → Stands n i r pc x
    Jumps : length (put i) ≤ r → (w : ℕ) → x ≡ jump pc (address w) → IsWay c n (successors i) w → Stands n i r pc x

  pub stands_at : (n : ℕ) (i : Instruction) (r pc : ℕ) (x : FlatInstruction) → pc ≡ address n + r
      → slice_get (part_of put begin c n i) r ≡ Some x → Stands n i r pc x
  stands_at n i r pc x place e =
      ⊎_elim InBlock
      (λ h.
      let w = jumps_at c address n (address n + length (put i)) (successors i) h.0 x h.2 in
      let z : address n + length (put i) + h.0 ≡ pc = omega (arith, h.1, place) in
      Jumps (omega (arith, h.1)) w.0 (w.1 ∙ ap (λ k. jump k (address w.0)) z) w.2)
      (get_append (put i) (jumps c address n (address n + length (put i)) (successors i)) r x e)

  -- what the function begins with, and behind it a jump to the entry
  pub data IsOfBegin (pc : ℕ) (x : FlatInstruction) : Type 0 where
    InBegin : slice_get begin pc ≡ Some x → IsOfBegin pc x
    Jumped : x ≡ jump pc (address c.entry) → IsOfBegin pc x

  pub begin_at : (pc : ℕ) (x : FlatInstruction) → slice_get (begin_code put begin c) pc ≡ Some x → IsOfBegin pc x
  begin_at pc x e =
      ⊎_elim InBegin (λ h. by (c.entry + 1 == length c.code) h.0 h.1 h.2)
      (get_append begin
      (if c.entry + 1 == length c.code then [] else jump (length begin) (address c.entry) ∷ []) pc x e)
    where
      by : (b : Bool) (j : ℕ) → pc ≡ length begin + j
          → slice_get (if b then [] else jump (length begin) (address c.entry) ∷ []) j ≡ Some x → IsOfBegin pc x
      by true j at e = absurd (none-some x e)
      by false zero at e =
          let z : length begin ≡ pc = omega (arith, at) in
          Jumped (sym (same_Some _ x e) ∙ ap (λ k. jump k (address c.entry)) z)
      by false (suc j) at e = absurd (none-some x e)

  -- it stands at the front
  pub begin_front : (pc : ℕ) (x : FlatInstruction) → slice_get begin pc ≡ Some x
      → slice_get (body_of put begin c) pc ≡ Some x
  begin_front pc x e =
      get_left (begin_code put begin c) (laid_from put begin c 0 c.code) pc x
      (get_left begin
      (if c.entry + 1 == length c.code then [] else jump (length begin) (address c.entry) ∷ []) pc x e)

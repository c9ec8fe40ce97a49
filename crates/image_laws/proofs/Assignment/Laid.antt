-- A function of laid blocks that assign what they read can be planned.
use Rattle.std.proofs.Common.{◌≡◌, ◌⊎◌, inl, inr, ⊎_elim, ℕ, zero, suc, ◌+◌, ◌<◌, ◌≤◌, ◌^◌, refl, sym, ap, ◌∙◌, subst}
use Rattle.std.proofs.Common.{arith, Bool, true, false, List, [], ◌∷◌, length, Some, None}
use Rattle.std.specs.Prelude.{slice_get, ◌==◌, if◌then◌else◌}
use Rattle.std.proofs.lemmas.Bool.{cases_eq, cases_lt, eqb-true}
use Rattle.std.proofs.lemmas.List.{drop_all}
use Rattle.std.proofs.lemmas.Option.{same_Some, none-some, slice_get_within}
use Rattle.tac_ir.specs.declared.instruction.Instruction.{Instruction}
use Rattle.tac_ir.specs.declared.function.CodeFunction.{CodeFunction}
use Rattle.tac_ir.specs.Edges.{successors, LeadsTo, IsAmong}
use Rattle.flat_code.specs.declared.instruction.FlatInstruction.{FlatInstruction}
use Rattle.flat_code.specs.declared.function.FlatFunction.{FlatFunction}
use Rattle.flat_code.specs.declared.function.FlatProgram.{FlatProgram}
use Rattle.metadata_plan.specs.Laid.{jump, times_in, falls, jump_count, size_at, size_from, begin_size}
use Rattle.metadata_plan.specs.Laid.{place_of, begin_code, body_of}
use Rattle.metadata_plan.proofs.Laying.{part_of, part_length, begin_length, place_is, next_place}
use Rattle.metadata_plan.proofs.Laying.{falls_to_next}
use Rattle.reg_plan.specs.Effects.{read_by, is_read, made_by, makes_only, is_among, Leads}
use Rattle.reg_plan.specs.Needs.{ReadsAt, MakesAt, AlwaysMakesAt, IsNeeded, Read, Made, Before}
use Rattle.reg_plan.specs.Planned.{IsPlannable}
use Rattle.check_elim.specs.Paths.{Path, Start, On}
use Rattle.image_laws.specs.Plans.Assignment.{Registers, IsOneOf, Begins, Goes, IsAssigned}
use Rattle.image_laws.specs.Plans.Assignment.{IsMadeBefore, IsAssignedAt, IsBegun, passed_over, Assigns, AssignsAll}
use Rattle.image_laws.specs.Plans.Assignment.{NamesBelow, HasOwnHomes}
use Rattle.image_laws.proofs.Plans.Places.{get_append, jump_onward, jump_makes, jump_reads, IsOfNode, body_at, Stands}
use Rattle.image_laws.proofs.Plans.Places.{InBlock}
use Rattle.image_laws.proofs.Plans.Places.{Jumps, stands_at}
use Rattle.image_laws.proofs.Assignment.Leading.{LeadsFrom, leads_from}
use Rattle.image_laws.proofs.Assignment.Nodes.{there, one_node, behind_begin, falls_only, falls_within}

-- ---- one of some registers or not

pub is_one_of : (ms : List ℕ) (y : ℕ) → IsOneOf ms y ⊎ (IsOneOf ms y → ⊥)
is_one_of [] y = inr (λ h. h)
is_one_of (m ∷ ms) y =
    ⊎_elim (λ e. inl (inl e))
    (λ other. ⊎_elim (λ h. inl (inr h)) (λ none. inr (λ h. ⊎_elim other none h)) (is_one_of ms y))
    (cases_eq y m)

abbrev one_if : Bool → ℕ
one_if b = if b then 1 else 0

abbrev one_unless : Bool → ℕ
one_unless b = if b then 0 else 1

times_among : (m : ℕ) (ns : List ℕ) → 1 ≤ times_in m ns → IsAmong m ns
times_among m [] le = absurd (omega arith)
times_among m (n ∷ ns) le = by (n == m) refl (times_among m ns)
  where
    by : (b : Bool) → (n == m) ≡ b → (1 ≤ times_in m ns → IsAmong m ns) → IsAmong m (n ∷ ns)
    by true e rest = inl (sym (eqb-true n m e))
    by false e rest =
        let none : one_if (n == m) ≡ 0 = ap one_if e in
        inr (rest (omega (arith, le, none)))

module _ (p : FlatProgram) (u parameters : ℕ) (put : Instruction → List FlatInstruction)
    (begin : List FlatInstruction) (c : CodeFunction) (begins : List ℕ) (made : Instruction → List ℕ)
    (h : AssignsAll p u parameters put begin c begins made) where
  abbrev body : List FlatInstruction
  body = body_of put begin c

  abbrev place : ℕ → ℕ
  place = place_of put begin c

  abbrev size : (n : ℕ) → Instruction → ℕ
  size = size_at put begin c

  -- what is assigned at a node, and within its code
  abbrev AtNode : (n : ℕ) → Registers
  AtNode n = IsAssignedAt (IsBegun parameters begins) c made n

  abbrev Within : (n : ℕ) → Instruction → (r : ℕ) → Registers
  Within n i r y = IsAssigned p (AtNode n) (put i) r y

  abbrev InFront : (r : ℕ) → Registers
  InFront r y = IsAssigned p (λ z. z < parameters) begin r y

  -- what is assigned at a place of the function
  data At (pc y : ℕ) : Type 0 where
    OfBegin : pc < begin_size put begin c → InFront pc y → At pc y
    OfNode : (n : ℕ) (i : Instruction) (r : ℕ) → slice_get c.code n ≡ Some i → pc ≡ place n + r → r < size n i
        → Within n i r y → At pc y

  -- ---- the registers at a node

  onward : (n m y : ℕ) (i : Instruction) → slice_get c.code n ≡ Some i → LeadsTo i m → AtNode m y
      → AtNode n y ⊎ IsOneOf (made i) y
  onward n m y i at to g =
      ⊎_elim inr
      (λ none. inl (λ path. ⊎_elim inl (λ m. ⊎_elim (λ one. absurd (none one)) inr m) (g (On n m i path at to))))
      (is_one_of (made i) y)

  -- behind the code of a node
  behind : (n m r y : ℕ) (i : Instruction) → slice_get c.code n ≡ Some i → LeadsTo i m → length (put i) ≤ r
      → AtNode m y → Within n i r y
  behind n m r y i at to le g =
      ⊎_elim (λ k way. inl k) (λ one. (h.assigns n i at).made_behind r y le one) (onward n m y i at to g)

  -- where code falls into the next node
  fallen : (n m y : ℕ) (i : Instruction) → slice_get c.code n ≡ Some i → LeadsTo i m → falls c n m ≡ true
      → AtNode n y ⊎ IsOneOf (made i) y → AtNode m y
  fallen n m y i at to fall g path = by m to fall path
    where
      by : (m : ℕ) → LeadsTo i m → falls c n m ≡ true → (path : Path c m)
          → IsBegun parameters begins y ⊎ IsMadeBefore c made y m path
      by _ to fall Start = absurd (falls_within c n i at to fall)
      by _ to fall (On k m j path at' to') =
          let same = falls_only c n k m i j at at' to to' fall in
          let instruction : i ≡ j =
          same_Some i j (sym at ∙ ap (slice_get c.code) (sym same) ∙ at') in
          ⊎_elim
          (λ all. ⊎_elim inl (λ b. inr (inr b)) (subst (λ z. AtNode z y) (sym same) all path))
          (λ one. inr (inl (subst (λ z. IsOneOf (made z) y) instruction one))) g

  -- ---- where a node's code leads

  -- further on in the node, or to the next one, into which it falls
  data LeadsOn (n : ℕ) (i : Instruction) (r : ℕ) : Type 0 where
    Inside : r < size n i → LeadsOn n i r
    Falls : (m : ℕ) → LeadsTo i m → falls c n m ≡ true → place n + r ≡ place m → length (put i) ≤ r → LeadsOn n i r

  leads_on : (n r : ℕ) (i : Instruction) → slice_get c.code n ≡ Some i
      → r ≤ length (put i) + passed_over (successors i) → (successors i ≡ [] → r < length (put i)) → LeadsOn n i r
  leads_on n r i at le stops =
      ⊎_elim Inside (λ over. by (successors i) refl over) (cases_lt r (size n i))
    where
      next : (m : ℕ) → falls c n m ≡ true → place m ≡ place n + size n i
      next m fall = next_place put begin c n i at m (falls_to_next c n m fall)

      by : (ns : List ℕ) → successors i ≡ ns → size n i ≤ r → LeadsOn n i r
      by [] e over =
          let lt = stops e in
          absurd (omega (arith, lt, over))
      by (m ∷ []) e over = one (falls c n m) refl
        where
          count : jump_count c n (successors i) ≡ one_unless (falls c n m)
          count = ap (jump_count c n) e

          passed : passed_over (successors i) ≡ 0
          passed = ap passed_over e

          one : (b : Bool) → falls c n m ≡ b → LeadsOn n i r
          one true fall =
              let none : one_unless (falls c n m) ≡ 0 = ap one_unless fall in
              Falls m (subst (IsAmong m) (sym e) (inl refl)) fall
              (let s = next m fall in omega (arith, s, count, none, over, le, passed))
              (omega (arith, over))
          one false fall =
              let some : one_unless (falls c n m) ≡ 1 = ap one_unless fall in
              absurd (omega (arith, count, some, over, le, passed))
      by (x ∷ z ∷ ns) e over = two (falls c n x) refl
        where
          count : jump_count c n (successors i) ≡ 1 + one_unless (falls c n x)
          count = ap (jump_count c n) e

          passed : passed_over (successors i) ≡ 1
          passed = ap passed_over e

          two : (b : Bool) → falls c n x ≡ b → LeadsOn n i r
          two true fall =
              let none : one_unless (falls c n x) ≡ 0 = ap one_unless fall in
              Falls x (subst (IsAmong x) (sym e) (inl refl)) fall
              (let s = next x fall in omega (arith, s, count, none, over, le, passed))
              (omega (arith, over))
          two false fall =
              let some : one_unless (falls c n x) ≡ 1 = ap one_unless fall in
              absurd (omega (arith, count, some, over, le, passed))

  -- ---- from places to nodes

  at_within : (n r y : ℕ) (i : Instruction) → slice_get c.code n ≡ Some i → r < size n i → At (place n + r) y
      → Within n i r y
  at_within n r y i at lt g = by (place n + r) refl g
    where
      by : (pc : ℕ) → pc ≡ place n + r → At pc y → Within n i r y
      by _ e (OfBegin lt' g) = absurd (let b = behind_begin put begin c n in omega (arith, b, lt', e))
      by _ e (OfNode k j s at' e' lt' g) =
          let same = one_node put begin c n k r s i j at at' lt lt' (sym e ∙ e') in
          let instruction : j ≡ i =
          same_Some j i (sym at' ∙ ap (slice_get c.code) (sym same.node) ∙ at) in
          subst (λ z. Within n i z y) (sym same.offset)
          (subst (λ z. Within n z s y) instruction
          (subst (λ z. Within z j s y) (sym same.node) g))

  -- at the place of a node; one without instructions falls into the next
  at_node_by : (n y : ℕ) (i : Instruction) → slice_get c.code n ≡ Some i
      → ((m : ℕ) → m + 1 ≡ n → At (place m) y → AtNode m y) → At (place n) y → AtNode n y
  at_node_by n y i at lower g = by (leads_on n 0 i at (omega arith) (λ e. h.some n i at e))
    where
      first : Within n i 0 y → AtNode n y
      first k path = ⊎_elim (λ a. a path) absurd (k Begins)

      by : LeadsOn n i 0 → AtNode n y
      by (Inside lt) =
          let e : place n ≡ place n + 0 = omega arith in
          first (at_within n 0 y i at lt (subst (λ z. At z y) e g))
      by (Falls m to fall e le) =
          let same : place n ≡ place m = omega (arith, e) in
          first (behind n m 0 y i at to le (lower m (falls_to_next c n m fall) (subst (λ z. At z y) same g)))

  at_node : (n y : ℕ) → n < length c.code → At (place n) y → AtNode n y
  at_node zero y lt g =
      let i = there put begin c zero lt in
      at_node_by zero y i.0 i.1 (λ m e. absurd (omega (arith, e))) g
  at_node (suc n) y lt g =
      let i = there put begin c (suc n) lt in
      at_node_by (suc n) y i.0 i.1
      (λ m e. let same : n ≡ m = omega (arith, e) in
      subst (λ z. At (place z) y → AtNode z y) same (at_node n y (omega (arith, lt)))) g

  -- and from a node to its place
  node_at_by : (n y : ℕ) (i : Instruction) → slice_get c.code n ≡ Some i
      → ((m : ℕ) → m + 1 ≡ n → AtNode m y → At (place m) y) → AtNode n y → At (place n) y
  node_at_by n y i at lower g = by (leads_on n 0 i at (omega arith) (λ e. h.some n i at e))
    where
      by : LeadsOn n i 0 → At (place n) y
      by (Inside lt) = OfNode n i 0 at (omega arith) lt (λ way. inl g)
      by (Falls m to fall e le) =
          let same : place m ≡ place n = omega (arith, e) in
          subst (λ z. At z y) same (lower m (falls_to_next c n m fall) (fallen n m y i at to fall (inl g)))

  node_at : (n y : ℕ) → n < length c.code → AtNode n y → At (place n) y
  node_at zero y lt g =
      let i = there put begin c zero lt in
      node_at_by zero y i.0 i.1 (λ m e. absurd (omega (arith, e))) g
  node_at (suc n) y lt g =
      let i = there put begin c (suc n) lt in
      node_at_by (suc n) y i.0 i.1
      (λ m e. let same : n ≡ m = omega (arith, e) in
      subst (λ z. AtNode z y → At (place z) y) same (node_at n y (omega (arith, lt)))) g

  -- ---- the instruction at a place

  abbrev begin_jump : List FlatInstruction
  begin_jump = if c.entry + 1 == length c.code then [] else jump (length begin) (place c.entry) ∷ []

  data StandsAt (pc : ℕ) (x : FlatInstruction) : Type 0 where
    Front : slice_get begin pc ≡ Some x → StandsAt pc x
    FrontJump : pc ≡ length begin → pc < begin_size put begin c → x ≡ jump pc (place c.entry) → StandsAt pc x
    Code : (n : ℕ) (i : Instruction) (r : ℕ) → slice_get c.code n ≡ Some i → pc ≡ place n + r → r < size n i
        → slice_get (put i) r ≡ Some x → StandsAt pc x
    CodeJump : (n : ℕ) (i : Instruction) (r w : ℕ) → slice_get c.code n ≡ Some i → pc ≡ place n + r → r < size n i
        → length (put i) ≤ r → LeadsTo i w → x ≡ jump pc (place w) → StandsAt pc x

  front_at : (pc : ℕ) (x : FlatInstruction) → slice_get (begin_code put begin c) pc ≡ Some x → StandsAt pc x
  front_at pc x e =
      let within = slice_get_within (begin_code put begin c) pc x e in
      let long = begin_length put begin c in
      ⊎_elim Front (λ b. by (c.entry + 1 == length c.code) b.0 b.1 (omega (arith, within, long)) b.2)
      (get_append begin begin_jump pc x e)
    where
      by : (b : Bool) (j : ℕ) → pc ≡ length begin + j → pc < begin_size put begin c
          → slice_get (if b then [] else jump (length begin) (place c.entry) ∷ []) j ≡ Some x → StandsAt pc x
      by true j at lt e = absurd (none-some x e)
      by false zero at lt e =
          let z : length begin ≡ pc = omega (arith, at) in
          FrontJump (sym z) lt (sym (same_Some _ x e) ∙ ap (λ k. jump k (place c.entry)) z)
      by false (suc j) at lt e = absurd (none-some x e)

  node_at_place : (pc : ℕ) (x : FlatInstruction) → IsOfNode put begin c pc x → StandsAt pc x
  node_at_place pc x o =
      let within = slice_get_within (part_of put begin c o.node o.instruction) o.offset x o.at in
      let long = part_length put begin c o.node o.instruction in
      by (omega (arith, within, long))
      (stands_at put begin c o.node o.instruction o.offset pc x o.place_is o.at)
    where
      by : o.offset < size o.node o.instruction → Stands put begin c o.node o.instruction o.offset pc x
          → StandsAt pc x
      by lt (InBlock e) = Code o.node o.instruction o.offset o.there o.place_is lt e
      by lt (Jumps le w is way) =
          CodeJump o.node o.instruction o.offset w o.there o.place_is lt le
          (times_among w (successors o.instruction) way.is) is

  stands : (pc : ℕ) (x : FlatInstruction) → slice_get body pc ≡ Some x → StandsAt pc x
  stands pc x e = ⊎_elim (front_at pc x) (node_at_place pc x) (body_at put begin c pc x e)

  -- ---- the front

  -- without a jump the entry stands right behind it
  entry_behind : begin_size put begin c ≤ length begin → place c.entry ≡ length begin
  entry_behind le = by (c.entry + 1 == length c.code) refl
    where
      count : (b : Bool) → (c.entry + 1 == length c.code) ≡ b
          → begin_size put begin c ≡ length begin + one_unless b
      count b e = ap (λ z. length begin + one_unless z) e

      by : (b : Bool) → (c.entry + 1 == length c.code) ≡ b → place c.entry ≡ length begin
      by true e =
          let last = eqb-true (c.entry + 1) (length c.code) e in
          let none = drop_all (suc c.entry) c.code (omega (arith, last)) in
          let rest = ap (size_from put begin c (suc c.entry)) none in
          let first = place_is put begin c c.entry in
          omega (arith, rest, first, count true e)
      by false e = absurd (omega (arith, count false e, le))

  in_front : (q y : ℕ) → q < begin_size put begin c → At q y → InFront q y
  in_front q y lt (OfBegin lt' k) = k
  in_front _ y lt (OfNode n i r at e lt' k) = absurd (let b = behind_begin put begin c n in omega (arith, b, e, lt))

  entry_front : (r y : ℕ) → length begin ≤ r → AtNode c.entry y → InFront r y
  entry_front r y le g =
      ⊎_elim (λ b. ⊎_elim (λ k way. inl k) (λ one. h.begin_assigns.made_behind r y le one) b) absurd (g Start)

  front_entry : (y : ℕ) → IsBegun parameters begins y → AtNode c.entry y
  front_entry y b path = inl b

  begun_front : (r y : ℕ) → length begin ≤ r → IsBegun parameters begins y → InFront r y
  begun_front r y le b = ⊎_elim (λ k way. inl k) (λ one. h.begin_assigns.made_behind r y le one) b

  -- one instruction back
  back : (code : List FlatInstruction) (given : Registers) (pc q y : ℕ) (x : FlatInstruction) → slice_get code pc ≡ Some x
      → Leads x pc q → (is_among (made_by p x) y ≡ true → ⊥) → IsAssigned p given code q y → IsAssigned p given code pc y
  back code given pc q y x at to none k way =
      ⊎_elim inl (λ m. ⊎_elim (λ e. absurd (none e)) inr m) (k (Goes pc q x way at to))

  front_step : (pc q y : ℕ) (x : FlatInstruction) → slice_get begin pc ≡ Some x → LeadsFrom x 0 pc q (length begin + 0)
      → (is_among (made_by p x) y ≡ true → ⊥) → At q y → At pc y
  front_step pc q y x at l none g =
      let within = slice_get_within begin pc x at in
      OfBegin (omega (arith, within))
      (back begin (λ z. z < parameters) pc l.to y x at l.leads none
      (⊎_elim
      (λ lt. in_front l.to y lt (subst (λ z. At z y) (omega (arith, l.is)) g))
      (λ le.
      let entry = entry_behind (omega (arith, le, l.within)) in
      let same : q ≡ place c.entry = omega (arith, entry, l.is, l.within, le) in
      entry_front l.to y (omega (arith, le)) (at_node c.entry y h.entry (subst (λ z. At z y) same g)))
      (cases_lt l.to (begin_size put begin c))))

  front_made : (pc q y : ℕ) (x : FlatInstruction) → slice_get begin pc ≡ Some x → LeadsFrom x 0 pc q (length begin + 0)
      → AlwaysMakesAt p begin pc y → At q y
  front_made pc q y x at l always =
      let same : l.to ≡ q = omega (arith, l.is) in
      ⊎_elim
      (λ lt. subst (λ z. At z y) same
      (OfBegin (omega (arith, lt)) (h.begin_assigns.makes pc l.to y x at l.leads always lt)))
      (λ le.
      let b = h.begin_assigns.ends pc l.to y x at l.leads always le in
      ⊎_elim
      (λ lt. subst (λ z. At z y) same (OfBegin lt (begun_front l.to y le b)))
      (λ le'.
      let entry = entry_behind (omega (arith, le', l.within)) in
      let here : place c.entry ≡ q = omega (arith, entry, l.is, l.within, le) in
      subst (λ z. At z y) here (node_at c.entry y h.entry (front_entry y b)))
      (cases_lt l.to (begin_size put begin c)))
      (cases_lt l.to (length begin))

  -- ---- the code of a node

  module _ (n : ℕ) (i : Instruction) (r : ℕ) (there : slice_get c.code n ≡ Some i) (lt : r < size n i)
      (x : FlatInstruction) (at : slice_get (put i) r ≡ Some x) (q : ℕ)
      (l : LeadsFrom x (place n) r q (length (put i) + passed_over (successors i))) where
    onto : LeadsOn n i l.to
    onto = leads_on n l.to i there l.within (λ e. h.stops n i there e r l.to x at l.leads)

    code_step : (y : ℕ) → (is_among (made_by p x) y ≡ true → ⊥) → At q y → Within n i r y
    code_step y none g = back (put i) (AtNode n) r l.to y x at l.leads none (by onto)
      where
        by : LeadsOn n i l.to → Within n i l.to y
        by (Inside lt') = at_within n l.to y i there lt' (subst (λ z. At z y) l.is g)
        by (Falls m to fall e le) =
            behind n m l.to y i there to le
            (at_node m y (h.nodes n m i there to) (subst (λ z. At z y) (l.is ∙ e) g))

    code_made : (y : ℕ) → AlwaysMakesAt p (put i) r y → At q y
    code_made y always = by onto
      where
        a : Assigns p u (AtNode n) (put i) (passed_over (successors i)) (made i)
        a = h.assigns n i there

        by : LeadsOn n i l.to → At q y
        by (Inside lt') =
            OfNode n i l.to there l.is lt'
            (⊎_elim (λ low. a.makes r l.to y x at l.leads always low)
            (λ le. ⊎_elim (λ k way. inl k) (λ one. a.made_behind l.to y le one)
            (a.ends r l.to y x at l.leads always le))
            (cases_lt l.to (length (put i))))
        by (Falls m to fall e le) =
            subst (λ z. At z y) (sym (l.is ∙ e))
            (node_at m y (h.nodes n m i there to)
            (fallen n m y i there to fall (a.ends r l.to y x at l.leads always le)))

  -- ---- all instructions

  from_front : (pc q : ℕ) (x : FlatInstruction) → slice_get begin pc ≡ Some x → Leads x pc q
      → LeadsFrom x 0 pc q (length begin + 0)
  from_front pc q x at to =
      let within = slice_get_within begin pc x at in
      let same : pc ≡ 0 + pc = omega arith in
      leads_from x 0 pc q (length begin + 0) (h.begin_assigns.stays pc x at) (omega (arith, within))
      (subst (λ z. Leads x z q) same to)

  from_code : (n r pc q : ℕ) (i : Instruction) (x : FlatInstruction) → slice_get c.code n ≡ Some i
      → slice_get (put i) r ≡ Some x → pc ≡ place n + r → Leads x pc q
      → LeadsFrom x (place n) r q (length (put i) + passed_over (successors i))
  from_code n r pc q i x there at same to =
      let within = slice_get_within (put i) r x at in
      leads_from x (place n) r q (length (put i) + passed_over (successors i)) ((h.assigns n i there).stays r x at)
      (omega (arith, within)) (subst (λ z. Leads x z q) same to)

  step : (pc q y : ℕ) (x : FlatInstruction) → slice_get body pc ≡ Some x → Leads x pc q
      → (is_among (made_by p x) y ≡ true → ⊥) → At q y → At pc y
  step pc q y x e to none g = by (stands pc x e)
    where
      by : StandsAt pc x → At pc y
      by (Front at) = front_step pc q y x at (from_front pc q x at to) none g
      by (FrontJump same lt is) =
          let target = jump_onward pc (place c.entry) q (subst (λ z. Leads z pc q) is to) in
          OfBegin lt (entry_front pc y (omega (arith, same))
          (at_node c.entry y h.entry (subst (λ z. At z y) target g)))
      by (Code n i r there same lt at) =
          OfNode n i r there same lt (code_step n i r there lt x at q (from_code n r pc q i x there at same to) y none g)
      by (CodeJump n i r w there same lt le leads is) =
          let target = jump_onward pc (place w) q (subst (λ z. Leads z pc q) is to) in
          OfNode n i r there same lt
          (behind n w r y i there leads le (at_node w y (h.nodes n w i there leads) (subst (λ z. At z y) target g)))

  always_made : (pc q y : ℕ) (x : FlatInstruction) → slice_get body pc ≡ Some x → Leads x pc q
      → is_among (made_by p x) y ≡ true → makes_only x ≡ None → At q y
  always_made pc q y x e to makes only = by (stands pc x e)
    where
      by : StandsAt pc x → At q y
      by (Front at) = front_made pc q y x at (from_front pc q x at to) (x, at, makes, only)
      by (FrontJump same lt is) =
          absurd (jump_makes p pc (place c.entry) y (subst (λ z. is_among (made_by p z) y ≡ true) is makes))
      by (Code n i r there same lt at) =
          code_made n i r there lt x at q (from_code n r pc q i x there at same to) y (x, at, makes, only)
      by (CodeJump n i r w there same lt le leads is) =
          absurd (jump_makes p pc (place w) y (subst (λ z. is_among (made_by p z) y ≡ true) is makes))

  read : (pc y : ℕ) (x : FlatInstruction) → slice_get body pc ≡ Some x → is_read (read_by p u x) y ≡ true → At pc y
  read pc y x e reads = by (stands pc x e)
    where
      by : StandsAt pc x → At pc y
      by (Front at) =
          let within = slice_get_within begin pc x at in
          OfBegin (omega (arith, within)) (h.begin_assigns.reads pc y (x, at, reads))
      by (FrontJump same lt is) =
          absurd (jump_reads p u pc (place c.entry) y (subst (λ z. is_read (read_by p u z) y ≡ true) is reads))
      by (Code n i r there same lt at) = OfNode n i r there same lt ((h.assigns n i there).reads r y (x, at, reads))
      by (CodeJump n i r w there same lt le leads is) =
          absurd (jump_reads p u pc (place w) y (subst (λ z. is_read (read_by p u z) y ≡ true) is reads))

  -- ---- what is needed is assigned

  needed_at : (pc y : ℕ) → IsNeeded p u body pc y → At pc y
  needed_at _ _ (Read pc y r) = read pc y r.0 r.1 r.2
  needed_at _ _ (Made pc q y l r) =
      let same = same_Some r.0 l.0 (sym r.1 ∙ l.1) in
      always_made pc q y l.0 l.1 l.2 (subst (λ z. is_among (made_by p z) y ≡ true) same r.2)
      (subst (λ z. makes_only z ≡ None) same r.3)
  needed_at _ _ (Before pc q y l n not_made) =
      step pc q y l.0 l.1 l.2 (λ m. not_made (l.0, l.1, m)) (needed_at q y n)

  pub none_but_parameters : (y : ℕ) → IsNeeded p u body 0 y → y < parameters
  none_but_parameters y n = ⊎_elim early late (cases_lt 0 (begin_size put begin c))
    where
      begun : InFront 0 y → y < parameters
      begun k = ⊎_elim (λ lt. lt) absurd (k Begins)

      early : 0 < begin_size put begin c → y < parameters
      early lt = begun (in_front 0 y lt (needed_at 0 y n))

      late : begin_size put begin c ≤ 0 → y < parameters
      late le =
          let entry = entry_behind (omega (arith, le)) in
          let same : 0 ≡ place c.entry = omega (arith, entry, le) in
          begun (entry_front 0 y (omega (arith, le))
          (at_node c.entry y h.entry (subst (λ z. At z y) same (needed_at 0 y n))))

  -- ---- names

  module _ (count : ℕ) (names : NamesBelow p u put begin c count) where
    pub named_read : (pc y : ℕ) → ReadsAt p u body pc y → y < count
    named_read pc y r = by (stands pc r.0 r.1)
      where
        by : StandsAt pc r.0 → y < count
        by (Front at) = names.begin_names.read pc y (r.0, at, r.2)
        by (FrontJump same lt is) =
            absurd (jump_reads p u pc (place c.entry) y (subst (λ z. is_read (read_by p u z) y ≡ true) is r.2))
        by (Code n i k there same lt at) = (names.names n i there).read k y (r.0, at, r.2)
        by (CodeJump n i k w there same lt le leads is) =
            absurd (jump_reads p u pc (place w) y (subst (λ z. is_read (read_by p u z) y ≡ true) is r.2))

    pub named_made : (pc y : ℕ) → MakesAt p body pc y → y < count
    named_made pc y r = by (stands pc r.0 r.1)
      where
        by : StandsAt pc r.0 → y < count
        by (Front at) = names.begin_names.made pc y (r.0, at, r.2)
        by (FrontJump same lt is) =
            absurd (jump_makes p pc (place c.entry) y (subst (λ z. is_among (made_by p z) y ≡ true) is r.2))
        by (Code n i k there same lt at) = (names.names n i there).made k y (r.0, at, r.2)
        by (CodeJump n i k w there same lt le leads is) =
            absurd (jump_makes p pc (place w) y (subst (λ z. is_among (made_by p z) y ≡ true) is r.2))

    pub named : (pc y : ℕ) → IsNeeded p u body pc y → y < count
    named _ _ (Read pc y r) = named_read pc y r
    named _ _ (Made pc q y l r) = named_made pc y (r.0, r.1, r.2)
    named _ _ (Before pc q y l n not_made) = named q y n

pub plannable : (p : FlatProgram) (u count : ℕ) (put : Instruction → List FlatInstruction)
    (begin : List FlatInstruction) (c : CodeFunction) (begins : List ℕ) (made : Instruction → List ℕ) (f : FlatFunction)
    → f.body ≡ body_of put begin c → length f.body < 2 ^ 32
    → AssignsAll p u f.parameters put begin c begins made → NamesBelow p u put begin c count → HasOwnHomes f count
    → IsPlannable p u f
plannable p u count put begin c begins made f same small assigns names homes =
    let here : (pc y : ℕ) → IsNeeded p u f.body pc y → IsNeeded p u (body_of put begin c) pc y =
    λ pc y n. subst (λ b. IsNeeded p u b pc y) same n in
    let low : (pc y : ℕ) → IsNeeded p u f.body pc y → y < count =
    λ pc y n. named p u f.parameters put begin c begins made assigns count names pc y (here pc y n) in
    record {
      count = small;
      named = record {
        read = λ pc y r.
            let z = named_read p u f.parameters put begin c begins made assigns count names pc y
            (subst (λ b. ReadsAt p u b pc y) same r) in
            omega (arith, z, homes.few);
        made = λ pc y r.
            let z = named_made p u f.parameters put begin c begins made assigns count names pc y
            (subst (λ b. MakesAt p b pc y) same r) in
            omega (arith, z, homes.few);
      };
      inside = λ pc y n. homes.inside y (low pc y n);
      apart = λ pc x y w nx ny ex ey. homes.apart x y w (low pc x nx) (low pc y ny) ex ey;
      entry = λ y n. none_but_parameters p u f.parameters put begin c begins made assigns y (here 0 y n);
    }

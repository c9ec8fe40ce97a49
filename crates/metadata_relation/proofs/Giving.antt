-- An instruction that gives a temporary a value, and nothing else but registers changes.
use Rattle.std.proofs.Common.{◌≡◌, ◌⊎◌, inl, inr, ℕ, ◌+◌, ◌*◌, ◌<◌, ◌≤◌, Bool, true, false, List, length, Some}
use Rattle.std.proofs.Common.{refl, ◌∙◌, subst, arith}
use Rattle.obj_memory.specs.declared.value.Value.{Value}
use Rattle.source_meaning.specs.State.{State}
use Rattle.source_meaning.specs.Actions.{integer}
use Rattle.source_meaning.specs.Structures.{rvalue}
use Rattle.tac_ir.specs.declared.instruction.Instruction.{Instruction}
use Rattle.tac_ir.specs.Edges.{LeadsTo}
use Rattle.tac_ir.specs.Stage.{Temps, with_temp, Frame, Stands}
use Rattle.flat_code.specs.declared.instruction.FlatInstruction.{FlatInstruction}
use Rattle.flat_code.specs.Memory.{Bytes}
use Rattle.flat_code.specs.State as flat
use Rattle.flat_code.specs.Calls.{function_in}
use Rattle.flat_code.specs.Meaning.{body_of}
use Rattle.flat_code.specs.Routines.Routine.{HasAt}
use Rattle.metadata_plan.specs.Registers.{most_temporaries}
use Rattle.metadata_plan.specs.Entries.{given}
use Rattle.metadata_plan.specs.Expanded.{Leads}
use Rattle.metadata_relation.specs.Registers.{temporary_register, first_free}
use Rattle.metadata_relation.specs.Blocks.{untagged}
use Rattle.metadata_relation.specs.Holding.{IsHeldAt}
use Rattle.metadata_relation.specs.Stages.{factor, Compiled, map_of, views, names, world, activation, IsAt}
use Rattle.metadata_relation.specs.Steps.{IsCompiled}
use Rattle.metadata_plan.proofs.Flat.{Comes, next_comes}
use Rattle.metadata_plan.proofs.Holding.{IsSet}
use Rattle.metadata_relation.proofs.Assigning.{assigned, assigns, IsCleared, cleared}
use Rattle.metadata_relation.proofs.Holding.{same_world, gives_temporary}
use Rattle.metadata_relation.proofs.Registers.{temporary_free}
use Rattle.metadata_relation.proofs.Standing.{good_counted, IsNode, fewer, arrives, leads_on, Result}

-- a register has a value, where an entry is kept that of no pointer stands behind it, and all others below the free ones
-- are as they were
pub record IsInteger (free register value : ℕ) (with_entry : Bool) (values after : flat.Values) : Type 0 where
  pub gives : after register ≡ value
  pub entry : with_entry ≡ true → IsCleared register after after
  pub others : (y : ℕ) → y < free → (y < register) ⊎ (register + 5 ≤ y) → after y ≡ values y

module _ (c : Compiled) (IsGood : Bytes → Type 0) (right : IsCompiled c IsGood) (u n : ℕ) (temps : Temps)
    (ws : List Frame) (s : State) (v : flat.State) (xs : List flat.Frame)
    (h : IsAt c IsGood u n temps ws s u (c.layout.address u n) v xs) where
  abbrev ComesTo : (place : ℕ) → (after : flat.State) → (most : ℕ) → Type 0
  ComesTo = Comes (map_of c) c.layout.program u (c.layout.address u n) v xs

  abbrev body : List FlatInstruction
  body = body_of (function_in c.layout.program u)

  abbrev pub register : (temporary : ℕ) → ℕ
  register d = temporary_register h.code d

  -- all registers of the function stay but those of a temporary
  abbrev pub OthersStay : (temporary : ℕ) → (after : flat.Values) → Type 0
  OthersStay d after = (y : ℕ) → y < first_free h.code → (y < temporary_register h.code d)
      ⊎ (temporary_register h.code d + 5 ≤ y) → after y ≡ v.values y

  -- a temporary gets a value without contents
  pub gives_value : (i : Instruction) → IsNode c u n h.code i → (d next : ℕ) (value : Value) (values : flat.Values)
      (most work : ℕ) → given i ≡ Some d → LeadsTo i next → d < most_temporaries h.code.code
      → ComesTo (c.layout.address u next) (record v { values = values }) most → OthersStay d values
      → IsHeldAt (world c h.keys s v) (c.layout.expansion.entries u next d) value (temporary_register h.code d) values
      → most + factor * s.work ≤ factor * work
      → Result c IsGood (Stands u next (with_temp temps d (rvalue value)) ws (record s { work = work }))
      (flat.Stands u (c.layout.address u n) v xs)
  gives_value i k d next value values most work gives leads low comes others held cost =
      let shown = h.stands.for.shown in
      arrives c IsGood right u n temps ws s v xs h next (with_temp temps d (rvalue value)) s.plain s.input s.output s.taken
      s.turns work values v.input v.output v.taken v.turns most comes
      (shown.input, shown.output, shown.taken, h.stands.turns)
      (good_counted (names c) u ws s s.input s.output s.taken s.turns work h.steady.good)
      (gives_temporary (views c) h.keys h.keys s.objects s.objects v.memory v.memory
      (same_world (views c) h.keys s.objects v.memory) (activation c h.code u n s) (c.layout.expansion.entries u next)
      (c.layout.expansion.contents u next) (λ i. false) temps s.plain s.frame v.values values d (rvalue value) low
      (fewer c IsGood right u n temps ws s v xs h i k d next gives leads) (λ x o home live held. live) others
      (record { by = held; none = λ e. refl }) h.holds)
      (λ r from to. others r (omega arith) (inl (omega arith))) cost

  -- an entry of no pointer behind what made an integer
  untagged_behind : (b : Bool) (r q value most : ℕ) (between : flat.Values) → HasAt body q (untagged b r)
      → r + 5 ≤ first_free h.code
      → ComesTo q (record v { values = between }) most → IsSet (first_free h.code) r value v.values between
      → (values : flat.Values) × ComesTo (q + length (untagged b r)) (record v { values = values }) (most + 8)
      × IsInteger (first_free h.code) r value b v.values values
  untagged_behind false r q value most between has low comes is = (
    between,
    (let e : q ≡ q + 0 = omega arith in
        subst (λ z. ComesTo z (record v { values = between }) (most + 8)) e
        (record { steps = comes.steps; work = comes.work; few = (let f = comes.few in omega arith); comes = comes.comes })),
    record {
      gives = is.gives;
      entry = λ e. cc;
      others = λ y lt out. is.others y lt (λ e. beside y e out);
    },
  )
    where
      beside : (y : ℕ) → y ≡ r → (y < r) ⊎ (r + 5 ≤ y) → ⊥
      beside y e (inl below) = absurd (omega arith)
      beside y e (inr above) = absurd (omega arith)
  untagged_behind true r q value most between has low comes is =
      let behind = assigned (untagged true r) between in
      let z = cleared r between in (
        behind,
        next_comes (map_of c) c.layout.program u (c.layout.address u n) v xs q (q + 4) (record v { values = between })
            (record v { values = behind }) most 8 comes
            (λ w. (let a = assigns (map_of c) c.layout.program u xs (untagged true r) refl q
            (record v { values = between; work = w }) has in
            record { steps = a.steps; work = a.work; few = a.few; comes = a.comes })),
        record {
          gives = z.others r (inl (omega arith)) ∙ is.gives;
          entry = λ e. record { entry = z.entry; others = λ y out. refl };
          others = λ y lt out. z.others y (wider y out) ∙ is.others y lt (λ e. beside y e out);
        },
      )
    where
      beside : (y : ℕ) → y ≡ r → (y < r) ⊎ (r + 5 ≤ y) → ⊥
      beside y e (inl below) = absurd (omega arith)
      beside y e (inr above) = absurd (omega arith)

      wider : (y : ℕ) → (y < r) ⊎ (r + 5 ≤ y) → (y < r + 1) ⊎ (r + 5 ≤ y)
      wider y (inl below) = inl (omega arith)
      wider y (inr above) = inr above

  -- A temporary gets an integer: its word is made by a list that leaves all other registers, and behind it stands the entry
  -- of no pointer where one is kept.
  pub gives_integer : (i : Instruction) → IsNode c u n h.code i → (d next q value : ℕ) (between : flat.Values)
      (most work : ℕ) → given i ≡ Some d → LeadsTo i next → d < most_temporaries h.code.code
      → ComesTo q (record v { values = between }) most
      → IsSet (first_free h.code) (temporary_register h.code d) value v.values between
      → HasAt body q (untagged (c.layout.expansion.entries u next d) (temporary_register h.code d))
      → Leads body (q + length (untagged (c.layout.expansion.entries u next d) (temporary_register h.code d)))
      (c.layout.address u next)
      → most + 10 + factor * s.work ≤ factor * work
      → Result c IsGood (Stands u next (with_temp temps d (rvalue (integer value))) ws (record s { work = work }))
      (flat.Stands u (c.layout.address u n) v xs)
  gives_integer i k d next q value between most work gives leads low comes is has on cost =
      let b = c.layout.expansion.entries u next d in
      let r = temporary_register h.code d in
      let made = untagged_behind b r q value most between has (temporary_free h.code d low) comes is in
      gives_value i k d next (integer value) made.0 (most + 8 + 2) work gives leads low
      (leads_on c IsGood right u n temps ws s v xs h (q + length (untagged b r)) (c.layout.address u next)
      (record v { values = made.0 }) (most + 8) made.1 on)
      made.2.others
      (record {
        word = made.2.gives;
        entry = λ e. record { word = made.2.gives; tag = (made.2.entry e).entry };
        sound = tt;
      })
      (omega (arith, cost))

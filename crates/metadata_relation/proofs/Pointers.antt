-- Instructions that make a pointer of a home or of another pointer: its word is computed, and its entry goes along where it
-- is kept.
use Rattle.std.proofs.Common.{◌≡◌, ◌≢◌, ◌⊎◌, inl, inr, ℕ, ◌+◌, ◌-◌, ◌*◌, ◌%◌, ◌^◌, ◌<◌, ◌≤◌, Bool, true, false, List}
use Rattle.std.proofs.Common.{◌++◌, length, length-append, get_or, Some, refl, sym, ap, ap₂, ◌∙◌, subst, arith}
use Rattle.std.specs.Prelude.{slice_get, ◌==◌, ◌||◌}
use Rattle.std.proofs.lemmas.Bool.{eq-eqb, eqb-true, eqb-false, false≢true}
use Rattle.obj_memory.specs.declared.value.Value.{Value}
use Rattle.obj_memory.specs.Objects.{object_at, pointer_to}
use Rattle.obj_memory.specs.Judgement.{moved}
use Rattle.obj_memory.specs.Sound.{IsSoundTag}
use Rattle.obj_memory.proofs.Judging.{sound_pointer}
use Rattle.c_tree.specs.declared.expression.OffsetForm.{OffsetForm}
use Rattle.c_tree.specs.declared.expression.OffsetForm.TheVariants.{PointerPlusIndex, IndexPlusPointer}
use Rattle.c_tree.specs.declared.expression.OffsetForm.TheVariants.{PointerMinusIndex}
use Rattle.source_meaning.specs.State.{State, Home, NoObject, InObject}
use Rattle.source_meaning.specs.Actions.{offset_value, home_value}
use Rattle.source_meaning.specs.Structures.{rvalue}
use Rattle.tac_ir.specs.declared.instruction.Instruction.{Instruction}
use Rattle.tac_ir.specs.declared.instruction.Instruction.TheVariants as tac
use Rattle.tac_ir.specs.Accesses.{is_home}
use Rattle.tac_ir.specs.Edges.{LeadsTo}
use Rattle.tac_ir.specs.Stage.{Temps, with_temp, Frame, Stage, Stands}
use Rattle.tac_ir.specs.Costs.{spent}
use Rattle.tac_ir.specs.Meaning.{effect}
use Rattle.flat_code.specs.declared.instruction.FlatInstruction.{FlatInstruction}
use Rattle.flat_code.specs.Memory.{Bytes, put}
use Rattle.flat_code.specs.State as flat
use Rattle.flat_code.specs.Calls.{function_in}
use Rattle.flat_code.specs.Meaning.{body_of, context}
use Rattle.flat_code.specs.Words.{IsOfWords}
use Rattle.flat_code.proofs.Stored.{put_same, put_other}
use Rattle.flat_operators.specs.Pointers.{address_forward, address_back}
use Rattle.flat_code.specs.declared.registers.Entry.{Entry}
use Rattle.flat_code.specs.Routines.InputOutput.{IsWithoutInputOutput}
use Rattle.flat_code.specs.Routines.Metadata.{metadata_in}
use Rattle.flat_code.specs.Routines.Objects.StandsFor.{spell}
use Rattle.flat_code.specs.Routines.Routine.{HasAt}
use Rattle.flat_code.proofs.Routines.Objects.Changing.{live_is_made}
use Rattle.flat_code.proofs.Routines.Regions.{laid_out}
use Rattle.flat_code.proofs.Routines.Steps.{has_front, has_back}
use Rattle.flat_code.proofs.Routines.Words.{same_metadata}
use Rattle.runtime_functions.specs.Library.{held_from}
use Rattle.metadata_plan.specs.Registers.{all_variables, most_temporaries}
use Rattle.metadata_plan.specs.Entries.{given, entry_source, pointer_of}
use Rattle.metadata_plan.specs.Expanded.{Leads}
use Rattle.metadata_plan.specs.Operators.{Computes, IsHere}
use Rattle.metadata_relation.specs.Contents.{takes_word}
use Rattle.metadata_relation.specs.Registers.{temporary_register, first_free, home_register, home_entry}
use Rattle.metadata_relation.specs.Blocks.{move_entry, move_entry_if, offset_code}
use Rattle.metadata_relation.specs.InlineCode.{Leaves as LeavesAddress}
use Rattle.metadata_relation.proofs.Inline.{inline_computes}
use Rattle.metadata_relation.specs.Holding.{World, IsHeldAt, IsHome, is_object_in}
use Rattle.metadata_relation.specs.Stages.{factor, Compiled, map_of, views, world, expansion_of, IsAt}
use Rattle.metadata_relation.specs.Steps.{IsCompiled}
use Rattle.metadata_plan.proofs.Flat.{Comes, next_comes, move_comes}
use Rattle.metadata_plan.proofs.Holding.{IsSet}
use Rattle.metadata_relation.proofs.Assigning.{assigned, assigns}
use Rattle.metadata_relation.proofs.Giving.{gives_value}
use Rattle.metadata_relation.proofs.Moving.{held_of}
use Rattle.metadata_relation.proofs.Registers.{temporary_free, home_low}
use Rattle.metadata_relation.proofs.Simple.{position, computed, computed_set}
use Rattle.metadata_relation.proofs.Standing.{IsNode, node, leads_on, Result}

-- ---- an entry goes to another place

-- An entry can be moved behind a register, word after word: none that is yet to be read is written before.
pub record IsReadFirst (register : ℕ) (e : Entry) : Type 0 where
  pub bound : e.bound ≢ register + 1
  pub key_first : e.key ≢ register + 1
  pub key_second : e.key ≢ register + 2
  pub lock_first : e.lock ≢ register + 1
  pub lock_second : e.lock ≢ register + 2
  pub lock_third : e.lock ≢ register + 3

pub record IsEntryMoved (register : ℕ) (with_entry : Bool) (e : Entry) (values after : flat.Values) : Type 0 where
  pub entry : with_entry ≡ true → metadata_in after (held_from register).tag ≡ metadata_in values e
  pub others : (y : ℕ) → (y < register + 1) ⊎ (register + 5 ≤ y) → after y ≡ values y

away : (y r j : ℕ) → (y < r + 1) ⊎ (r + 5 ≤ y) → 1 ≤ j → j < 5 → y ≢ r + j
away y r j (inl below) from to e = absurd (omega arith)
away y r j (inr above) from to e = absurd (omega arith)

pub entry_moved : (r : ℕ) (e : Entry) (values : flat.Values) → IsReadFirst r e
    → IsEntryMoved r true e values (assigned (move_entry (held_from r).tag e) values)
entry_moved r e values h =
    let v1 : flat.Values = put values (r + 1) (values e.base) in
    let v2 : flat.Values = put v1 (r + 2) (v1 e.bound) in
    let v3 : flat.Values = put v2 (r + 3) (v2 e.key) in
    record {
      entry = λ with_entry. same_metadata (metadata_in (put v3 (r + 4) (v3 e.lock)) (held_from r).tag)
          (metadata_in values e)
          (put_other v3 (r + 4) _ (r + 1) (λ q. omega arith) ∙ put_other v2 (r + 3) _ (r + 1) (λ q. omega arith)
          ∙ put_other v1 (r + 2) _ (r + 1) (λ q. omega arith) ∙ put_same values (r + 1) (values e.base))
          (put_other v3 (r + 4) _ (r + 2) (λ q. omega arith) ∙ put_other v2 (r + 3) _ (r + 2) (λ q. omega arith)
          ∙ put_same v1 (r + 2) (v1 e.bound) ∙ put_other values (r + 1) _ e.bound h.bound)
          (put_other v3 (r + 4) _ (r + 3) (λ q. omega arith) ∙ put_same v2 (r + 3) (v2 e.key)
          ∙ put_other v1 (r + 2) _ e.key h.key_second ∙ put_other values (r + 1) _ e.key h.key_first)
          (put_same v3 (r + 4) (v3 e.lock) ∙ put_other v2 (r + 3) _ e.lock h.lock_third
          ∙ put_other v1 (r + 2) _ e.lock h.lock_second ∙ put_other values (r + 1) _ e.lock h.lock_first);
      others = λ y out.
          put_other v3 (r + 4) _ y (away y r 4 out (omega arith) (omega arith))
          ∙ put_other v2 (r + 3) _ y (away y r 3 out (omega arith) (omega arith))
          ∙ put_other v1 (r + 2) _ y (away y r 2 out (omega arith) (omega arith))
          ∙ put_other values (r + 1) _ y (away y r 1 out (omega arith) (omega arith));
    }

-- the base in a home is the address of its object
pub home_word : (w : World) (o r : ℕ) (values : flat.Values) → IsHome w o r values
    → values r ≡ (pointer_to o w.objects).word
unfolding pointer_to
home_word w o r values home = ap (λ m. m.base) home.entry

module _ (c : Compiled) (IsGood : Bytes → Type 0) (right : IsCompiled c IsGood) (u n : ℕ) (temps : Temps)
    (ws : List Frame) (s : State) (v : flat.State) (xs : List flat.Frame)
    (h : IsAt c IsGood u n temps ws s u (c.layout.address u n) v xs) (words : IsOfWords v) where
  abbrev pc : ℕ
  pc = c.layout.address u n

  abbrev T : (temporary : ℕ) → ℕ
  T i = temporary_register h.code i

  abbrev free : ℕ
  free = first_free h.code

  abbrev E : (next temporary : ℕ) → Bool
  E next i = c.layout.expansion.entries u next i

  abbrev Gives : Stage → Type 0
  Gives a = Result c IsGood a (flat.Stands u (c.layout.address u n) v xs)

  abbrev ComesTo : (place : ℕ) → (after : flat.State) → (most : ℕ) → Type 0
  ComesTo = Comes (map_of c) c.layout.program u (c.layout.address u n) v xs

  abbrev body : List FlatInstruction
  body = body_of (function_in c.layout.program u)

  entry_along : (b : Bool) (q r most : ℕ) (e : Entry) (between : flat.Values)
      → HasAt body q (move_entry_if b (held_from r).tag e) → IsReadFirst r e
      → ComesTo q (record v { values = between }) most
      → (values : flat.Values)
      × ComesTo (q + length (move_entry_if b (held_from r).tag e)) (record v { values = values }) (most + 8)
      × IsEntryMoved r b e between values
  entry_along false q r most e between has first comes = (
    between,
    (let p : q ≡ q + 0 = omega arith in
        subst (λ z. ComesTo z (record v { values = between }) (most + 8)) p
        (record { steps = comes.steps; work = comes.work; few = (let f = comes.few in omega arith); comes = comes.comes })),
    record { entry = λ p. cc; others = λ y out. refl },
  )
  entry_along true q r most e between has first comes =
      let list = move_entry (held_from r).tag e in
      let behind = assigned list between in (
        behind,
        next_comes (map_of c) c.layout.program u (c.layout.address u n) v xs q (q + 4) (record v { values = between })
            (record v { values = behind }) most 8 comes
            (λ w. (let a = assigns (map_of c) c.layout.program u xs list refl q (record v { values = between; work = w }) has in
            record { steps = a.steps; work = a.work; few = a.few; comes = a.comes })),
        entry_moved r e between first,
      )

  -- A temporary gets a pointer: its word is made by a list that leaves all other registers, and its entry comes from where
  -- it is held.
  pub gives_pointer : (i : Instruction) → IsNode c u n h.code i → (d next q most work : ℕ) (value : Value) (e : Entry)
      (between : flat.Values) → given i ≡ Some d → LeadsTo i next → d < most_temporaries h.code.code
      → IsReadFirst (temporary_register h.code d) e → ComesTo q (record v { values = between }) most
      → IsSet (first_free h.code) (temporary_register h.code d) value.word v.values between
      → (c.layout.expansion.entries u next d ≡ true → metadata_in between e ≡ spell (views c) h.keys value.tag)
      → IsSoundTag (views c).functions s.objects value.tag
      → HasAt body q (move_entry_if (c.layout.expansion.entries u next d) (held_from (temporary_register h.code d)).tag e)
      → Leads body (q + length (move_entry_if (c.layout.expansion.entries u next d)
      (held_from (temporary_register h.code d)).tag e)) (c.layout.address u next)
      → most + 10 + factor * s.work ≤ factor * work
      → Result c IsGood (Stands u next (with_temp temps d (rvalue value)) ws (record s { work = work }))
      (flat.Stands u (c.layout.address u n) v xs)
  gives_pointer i k d next q most work value e between gives leads low first comes is spelled sound has on cost =
      let r = temporary_register h.code d in
      let b = c.layout.expansion.entries u next d in
      let made = entry_along b q r most e between has first comes in
      let own : made.0 r ≡ value.word = made.2.others r (inl (omega arith)) ∙ is.gives in
      gives_value c IsGood right u n temps ws s v xs h i k d next value made.0 (most + 8 + 2) work gives leads low
      (leads_on c IsGood right u n temps ws s v xs h (q + length (move_entry_if b (held_from r).tag e))
      (c.layout.address u next) (record v { values = made.0 }) (most + 8) made.1 on)
      (λ y lt out. made.2.others y (wider y out) ∙ is.others y lt (λ p. beside y p out))
      (record {
        word = own;
        entry = λ p. record { word = own; tag = made.2.entry p ∙ spelled p };
        sound = sound;
      })
      (omega (arith, cost))
    where
      beside : (y : ℕ) → y ≡ temporary_register h.code d → (y < temporary_register h.code d)
          ⊎ (temporary_register h.code d + 5 ≤ y) → ⊥
      beside y p (inl below) = absurd (omega arith)
      beside y p (inr above) = absurd (omega arith)

      wider : (y : ℕ) → (y < temporary_register h.code d) ⊎ (temporary_register h.code d + 5 ≤ y)
          → (y < temporary_register h.code d + 1) ⊎ (temporary_register h.code d + 5 ≤ y)
      wider y (inl below) = inl (omega arith)
      wider y (inr above) = inr above

  -- ---- homes

  pub home_pointer : (d x next : ℕ) → slice_get h.code.code n ≡ Some (tac.HomePointer d x next)
      → is_home (get_or s.frame x NoObject) s.objects ≡ true
      → Gives (effect c.setting (expansion_of c).code (tac.HomePointer d x next) u temps ws (spent 1 s))
  home_pointer d x next at fits = by (get_or s.frame x NoObject) refl fits
    where
      by : (o : Home) → get_or s.frame x NoObject ≡ o → is_home o s.objects ≡ true
          → Gives (Stands u next (with_temp temps d (rvalue (home_value o s.objects))) ws (spent 1 s))
      by NoObject is there = absurd (false≢true there)
      by (InObject o) is there =
          home_of (node c IsGood right u n temps ws s v xs h (tac.HomePointer d x next) at) (h.holds.homes.homes x o is)
          (h.holds.homes.declared x o is)
        where
          room : (object_at s.objects o).is_live ≡ true
              → (object_at s.objects o).address + (object_at s.objects o).size < 2 ^ 64
          room live =
              let placed = (h.stands.for.objects.placed o live).last in
              let small = (laid_out (map_of c) right.mapped).small in
              omega (arith, placed, small)

          home_of : IsNode c u n h.code (tac.HomePointer d x next)
              → IsHome (world c h.keys s v) o (home_register h.code x) v.values
              → is_object_in (all_variables h.code) x ≡ true
              → Gives (Stands u next (with_temp temps d (rvalue (pointer_to o s.objects))) ws (spent 1 s))
          home_of k home declared =
              let i = tac.HomePointer d x next in
              let low : d < most_temporaries h.code.code = k.temporaries_low in
              let r = T d in
              let from = home_register h.code x in
              let b = E next d in
              let before = home_low h.code x declared in
              let moved : flat.Values = put v.values r (v.values from) in
              let comes : ComesTo (pc + 1) (record v { values = moved }) 2 =
              move_comes (map_of c) c.layout.program u pc v xs r from k.put.has.0 in
              let kept : (y : ℕ) → y ≢ r → moved y ≡ v.values y = λ y ne. put_other v.values r (v.values from) y ne in
              let rest = move_entry_if b (held_from r).tag (home_entry h.code x) in
              gives_pointer i k d next (pc + 1) 2 (s.work + 1) (pointer_to o s.objects) (home_entry h.code x) moved refl
              (inl refl) low
              (record {
                bound = λ e. omega (arith, before, e);
                key_first = λ e. omega (arith, before, e);
                key_second = λ e. omega (arith, before, e);
                lock_first = λ e. omega (arith, before, e);
                lock_second = λ e. omega (arith, before, e);
                lock_third = λ e. omega (arith, before, e);
              })
              comes
              (record {
                gives = put_same v.values r (v.values from) ∙ home_word (world c h.keys s v) o from v.values home;
                others = λ y lt ne. kept y ne;
              })
              (λ e. same_metadata (metadata_in moved (home_entry h.code x)) (metadata_in v.values (home_entry h.code x))
              (kept from (λ p. omega (arith, before, p))) (kept (from + 1) (λ p. omega (arith, before, p)))
              (kept (from + 2) (λ p. omega (arith, before, p))) (kept (from + 3) (λ p. omega (arith, before, p)))
              ∙ home.entry)
              (sound_pointer (views c).functions o s.objects (live_is_made s.objects o home.live) (room home.live))
              k.put.has.1
              (subst (λ z. Leads body z (c.layout.address u next)) (omega arith) k.put.leads) (omega arith)

  -- ---- pointers that move

  -- the entry of another temporary, or of the same, can be moved
  pub apart_first : (d a : ℕ) → IsReadFirst (T d) (held_from (T a)).tag
  apart_first d a = by (d == a) refl
    where
      by : (b : Bool) → (d == a) ≡ b
          → IsReadFirst (temporary_register h.code d) (held_from (temporary_register h.code a)).tag
      by true e = (let same = eqb-true d a e in record {
        bound = λ p. omega (arith, same, p);
        key_first = λ p. omega (arith, same, p);
        key_second = λ p. omega (arith, same, p);
        lock_first = λ p. omega (arith, same, p);
        lock_second = λ p. omega (arith, same, p);
        lock_third = λ p. omega (arith, same, p);
      })
      by false e = (let other = eqb-false d a e in record {
        bound = λ p. other (omega (arith, p));
        key_first = λ p. other (omega (arith, p));
        key_second = λ p. other (omega (arith, p));
        lock_first = λ p. other (omega (arith, p));
        lock_second = λ p. other (omega (arith, p));
        lock_third = λ p. other (omega (arith, p));
      })

  -- the value of a temporary that an instruction takes
  pub operand : (i : Instruction) → IsNode c u n h.code i → (a : ℕ) → takes_word i a ≡ true
      → a < most_temporaries h.code.code
      → IsHeldAt (world c h.keys s v) (c.layout.expansion.entries u n a) (temps a).value (temporary_register h.code a)
      v.values
  operand i k a takes low =
      let t = h.holds.temporaries a low refl in
      let none = k.kept.words n a i k.at takes in
      held_of (world c h.keys s v) (c.layout.expansion.entries u n a) (temps a) _ _ (temporary_register h.code a) v.values
      (record { by = t.by; none = λ e. t.none none })

  -- a list computes an address, which goes with the entry of a temporary
  moved_pointer : (i : Instruction) → IsNode c u n h.code i → (d a next most : ℕ) (value : Value) (list : List FlatInstruction)
      → given i ≡ Some d → entry_source i ≡ Some a → LeadsTo i next → takes_word i a ≡ true
      → d < most_temporaries h.code.code → a < most_temporaries h.code.code → value.tag ≡ (temps a).value.tag
      → HasAt body pc (list ++ move_entry_if (c.layout.expansion.entries u next d)
      (held_from (temporary_register h.code d)).tag (held_from (temporary_register h.code a)).tag)
      → Leads body (pc + length (list ++ move_entry_if (c.layout.expansion.entries u next d)
      (held_from (temporary_register h.code d)).tag (held_from (temporary_register h.code a)).tag))
      (c.layout.address u next)
      → Computes (map_of c) c.layout.program (position c IsGood right u n temps ws s v xs h words) (pc + length list)
      (temporary_register h.code d) value.word free most
      → most ≤ 16 → Gives (Stands u next (with_temp temps d (rvalue value)) ws (spent 2 s))
  moved_pointer i k d a next most value list gives source leads takes low from tag has on made few =
      let held = operand i k a takes from in
      let b = E next d in
      let rest = move_entry_if b (held_from (T d)).tag (held_from (T a)).tag in
      let end : pc + length (list ++ rest) ≡ pc + length list + length rest = omega (arith, length-append list rest) in
      let is = computed_set c IsGood right u n temps ws s v xs h words (pc + length list) (T d) value.word free most made
      (omega arith) in
      let room = temporary_free h.code a from in
      let apart = apart_first d a in
      gives_pointer i k d next (pc + length list) (most * 2) (s.work + 2) value (held_from (T a)).tag made.after gives leads low
      apart (computed c IsGood right u n temps ws s v xs h words (pc + length list) (T d) value.word free most made) is
      (λ e. same_metadata (metadata_in made.after (held_from (T a)).tag) (metadata_in v.values (held_from (T a)).tag)
      (is.others (T a + 1) (omega (arith, room)) (next_ne d a 1 (omega arith) (omega arith)))
      (is.others (T a + 2) (omega (arith, room)) (next_ne d a 2 (omega arith) (omega arith)))
      (is.others (T a + 3) (omega (arith, room)) (next_ne d a 3 (omega arith) (omega arith)))
      (is.others (T a + 4) (omega (arith, room)) (next_ne d a 4 (omega arith) (omega arith)))
      ∙ (held.entry (k.closed.made n next d a i k.at leads gives source e)).tag
      ∙ ap (spell (views c) h.keys) (sym tag))
      (subst (IsSoundTag (views c).functions s.objects) (sym tag) held.sound)
      (has_back body pc list rest has) (subst (λ z. Leads body z (c.layout.address u next)) end on) (omega (arith, few))
    where
      next_ne : (d a j : ℕ) → 1 ≤ j → j < 5 → temporary_register h.code a + j ≢ temporary_register h.code d
      next_ne d a j from to e = absurd (omega (arith, from, to, e))

  -- what an instruction that takes the words of two temporaries knows of the second
  second : (x y : Bool) → y ≡ true → (x || y) ≡ true
  second true y e = refl
  second false y e = e

  -- a list on the words of two temporaries computes an address
  address : (code : (size into left right scratch : ℕ) → List FlatInstruction) (value : (size left right : ℕ) → ℕ)
      → LeavesAddress code value 0
      → ((size into left right scratch : ℕ) → IsWithoutInputOutput (code size into left right scratch))
      → (size d a b : ℕ) → size < 2 ^ 64 → d < most_temporaries h.code.code → a < most_temporaries h.code.code
      → b < most_temporaries h.code.code
      → IsHere c.layout.program (position c IsGood right u n temps ws s v xs h words)
      (code size (temporary_register h.code d) (temporary_register h.code a) (temporary_register h.code b)
      (first_free h.code))
      → Computes (map_of c) c.layout.program (position c IsGood right u n temps ws s v xs h words)
      (c.layout.address u n + length (code size (temporary_register h.code d) (temporary_register h.code a)
      (temporary_register h.code b) (first_free h.code))) (temporary_register h.code d)
      (value size (v.values (temporary_register h.code a)) (v.values (temporary_register h.code b)))
      (first_free h.code) 7
  address code value leaves alone size d a b small low left other here =
      inline_computes (map_of c) c.layout.program (position c IsGood right u n temps ws s v xs h words)
      (code size (T d) (T a) (T b) free) 1 (T d) free 7 (λ z. value size (z.values (T a)) (z.values (T b)))
      (alone size (T d) (T a) (T b) free)
      (leaves (context (map_of c) c.layout.program u xs) 1 size (T d) (T a) (T b) free (omega arith) small
      (record {
        into_below = (let r = temporary_free h.code d low in omega (arith, r));
        left_below = (let r = temporary_free h.code a left in omega (arith, r));
        right_below = (let r = temporary_free h.code b other in omega (arith, r));
      }))
      here

  -- an address that an index is added to or taken from
  module _ (f : OffsetForm) (size d a b next : ℕ)
      (at : slice_get h.code.code n ≡ Some (tac.Offset f size d a b next)) where
    label : IsNode c u n h.code (tac.Offset f size d a b next)
    label = node c IsGood right u n temps ws s v xs h (tac.Offset f size d a b next) at

    low : d < most_temporaries h.code.code
    low = omega (arith, label.temporaries_low)

    left_low : a < most_temporaries h.code.code
    left_low = omega (arith, label.temporaries_low)

    right_low : b < most_temporaries h.code.code
    right_low = omega (arith, label.temporaries_low)

    takes_left : takes_word (tac.Offset f size d a b next) a ≡ true
    takes_left = ap (λ z. z || (a == b)) (eq-eqb a a refl)

    takes_right : takes_word (tac.Offset f size d a b next) b ≡ true
    takes_right = second (b == a) (b == b) (eq-eqb b b refl)

    left_is : v.values (temporary_register h.code a) ≡ (temps a).value.word
    left_is = (operand (tac.Offset f size d a b next) label a takes_left left_low).word

    right_is : v.values (temporary_register h.code b) ≡ (temps b).value.word
    right_is = (operand (tac.Offset f size d a b next) label b takes_right right_low).word

    abbrev list : List FlatInstruction
    list = offset_code c.layout.expansion.inline f size (temporary_register h.code d) (temporary_register h.code a)
        (temporary_register h.code b) (first_free h.code)

    here : IsHere c.layout.program (position c IsGood right u n temps ws s v xs h words)
        (offset_code c.layout.expansion.inline f size (temporary_register h.code d) (temporary_register h.code a)
        (temporary_register h.code b) (first_free h.code))
    here = record {
      has = has_front body pc list (move_entry_if (E next d) (held_from (T d)).tag
          (held_from (T (pointer_of f a b))).tag) label.put.has;
      words = words;
    }

    -- the pointer is the left operand or the right one
    gives_moved : (p : ℕ) → pointer_of f a b ≡ p → takes_word (tac.Offset f size d a b next) p ≡ true
        → p < most_temporaries h.code.code
        → (offset_value f size (temps a).value (temps b).value).tag ≡ (temps p).value.tag
        → Computes (map_of c) c.layout.program (position c IsGood right u n temps ws s v xs h words)
        (c.layout.address u n + length (offset_code c.layout.expansion.inline f size (temporary_register h.code d)
        (temporary_register h.code a) (temporary_register h.code b) (first_free h.code))) (temporary_register h.code d)
        (offset_value f size (temps a).value (temps b).value).word (first_free h.code) 7
        → Gives (effect c.setting (expansion_of c).code (tac.Offset f size d a b next) u temps ws (spent 2 s))
    gives_moved p is takes from tag made =
        moved_pointer (tac.Offset f size d a b next) label d p next 7 (offset_value f size (temps a).value (temps b).value)
        list refl (ap Some is) (inl refl) takes low from tag
        (subst (λ z. HasAt body pc (list ++ move_entry_if (E next d) (held_from (T d)).tag (held_from (T z)).tag)) is
        label.put.has)
        (subst (λ z. Leads body (pc + length (list ++ move_entry_if (E next d) (held_from (T d)).tag (held_from (T z)).tag))
        (c.layout.address u next)) is label.put.leads)
        made (omega arith)

  pub offset : (f : OffsetForm) (size d a b next : ℕ) → size < 2 ^ 64
      → slice_get h.code.code n ≡ Some (tac.Offset f size d a b next)
      → Gives (effect c.setting (expansion_of c).code (tac.Offset f size d a b next) u temps ws (spent 2 s))
  unfolding moved
  offset PointerPlusIndex size d a b next small at =
      gives_moved PointerPlusIndex size d a b next at a refl (takes_left PointerPlusIndex size d a b next at)
      (left_low PointerPlusIndex size d a b next at) refl
      (subst (λ z. Computes (map_of c) c.layout.program (position c IsGood right u n temps ws s v xs h words)
      (pc + length (c.layout.expansion.inline.forward size (T d) (T a) (T b) free)) (T d) z free 7)
      (ap₂ (λ x y. (x + y * size) % 2 ^ 64) (left_is PointerPlusIndex size d a b next at)
      (right_is PointerPlusIndex size d a b next at))
      (address c.layout.expansion.inline.forward address_forward right.inline.forward right.inline.computes.forward size
      d a b small (low PointerPlusIndex size d a b next at) (left_low PointerPlusIndex size d a b next at)
      (right_low PointerPlusIndex size d a b next at) (here PointerPlusIndex size d a b next at)))
  offset IndexPlusPointer size d a b next small at =
      gives_moved IndexPlusPointer size d a b next at b refl (takes_right IndexPlusPointer size d a b next at)
      (right_low IndexPlusPointer size d a b next at) refl
      (subst (λ z. Computes (map_of c) c.layout.program (position c IsGood right u n temps ws s v xs h words)
      (pc + length (c.layout.expansion.inline.forward size (T d) (T b) (T a) free)) (T d) z free 7)
      (ap₂ (λ x y. (x + y * size) % 2 ^ 64) (right_is IndexPlusPointer size d a b next at)
      (left_is IndexPlusPointer size d a b next at))
      (address c.layout.expansion.inline.forward address_forward right.inline.forward right.inline.computes.forward size
      d b a small (low IndexPlusPointer size d a b next at) (right_low IndexPlusPointer size d a b next at)
      (left_low IndexPlusPointer size d a b next at) (here IndexPlusPointer size d a b next at)))
  offset PointerMinusIndex size d a b next small at =
      gives_moved PointerMinusIndex size d a b next at a refl (takes_left PointerMinusIndex size d a b next at)
      (left_low PointerMinusIndex size d a b next at) refl
      (subst (λ z. Computes (map_of c) c.layout.program (position c IsGood right u n temps ws s v xs h words)
      (pc + length (c.layout.expansion.inline.back size (T d) (T a) (T b) free)) (T d) z free 7)
      (ap₂ (λ x y. (x + (2 ^ 64 - y * size % 2 ^ 64)) % 2 ^ 64) (left_is PointerMinusIndex size d a b next at)
      (right_is PointerMinusIndex size d a b next at))
      (address c.layout.expansion.inline.back address_back right.inline.back right.inline.computes.back size d a b small
      (low PointerMinusIndex size d a b next at) (left_low PointerMinusIndex size d a b next at)
      (right_low PointerMinusIndex size d a b next at) (here PointerMinusIndex size d a b next at)))

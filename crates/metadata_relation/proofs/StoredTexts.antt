-- The bytes of a literal that an initializer stores: one by one from the home of a variable on, an access each.
use Rattle.std.proofs.Common.{◌≡◌, inl, ℕ, suc, ◌+◌, ◌-◌, ◌*◌, ◌^◌, ◌<◌, ◌≤◌, true, false, List, []}
use Rattle.std.proofs.Common.{◌∷◌, ◌++◌, length, get_or, Some, refl, sym, ap, ◌∙◌, subst, arith}
use Rattle.std.specs.Prelude.{slice_get, ◌&&◌, nat_le}
use Rattle.std.proofs.lemmas.Bool.{and_parts, leb-true, lt-ltb}
use Rattle.rv_isa.specs.declared.instruction.RegOp.TheVariants.{Add}
use Rattle.rv_isa.specs.declared.instruction.StoreOp.TheVariants.{Sb}
use Rattle.rv_isa.specs.Results.{reg_result}
use Rattle.words.specs.TwosComplement.{low_bits}
use Rattle.obj_memory.specs.declared.int_type.IntType.TheVariants.{Char}
use Rattle.obj_memory.specs.declared.value.Place.{Place}
use Rattle.obj_memory.specs.declared.value.Scalar.TheVariants.{Integer}
use Rattle.obj_memory.specs.declared.value.Value.{Value}
use Rattle.obj_memory.specs.Access.{scalar_size, write_bytes, write_value}
use Rattle.obj_memory.specs.Integers.{size_of}
use Rattle.obj_memory.specs.Judgement.{narrowed, place_in}
use Rattle.obj_memory.specs.Objects.{Objects, object_at, pointer_to}
use Rattle.obj_memory.specs.Sound.{IsSoundTag}
use Rattle.obj_memory.proofs.Judging.{sound_narrowed, sound_pointer}
use Rattle.obj_memory.proofs.Soundness.{sound_tag_continues}
use Rattle.source_meaning.specs.State.{State, Home, NoObject, InObject, Gives, done, on, tally, ◌>>◌}
use Rattle.source_meaning.specs.Actions.{home_value, integer, store}
use Rattle.source_meaning.specs.Initializers.{store_bytes as stores_of_text}
use Rattle.source_meaning.specs.Keeping.{IsDirect}
use Rattle.source_meaning.specs.Library.{argument}
use Rattle.tac_ir.specs.declared.instruction.Instruction.{Instruction}
use Rattle.tac_ir.specs.declared.instruction.Instruction.TheVariants as tac
use Rattle.tac_ir.specs.Accesses.{is_live_at, only_if}
use Rattle.tac_ir.specs.Costs.{fourfold, heavier, spent}
use Rattle.tac_ir.specs.Meaning.{effect, text_in}
use Rattle.tac_ir.specs.Stage.{came, Frame, Stage, Stands, Stuck, Temps}
use Rattle.tac_ir.proofs.Fits.{only_true}
use Rattle.flat_code.specs.declared.instruction.FlatInstruction.{FlatInstruction}
use Rattle.flat_code.specs.declared.instruction.FlatInstruction.TheVariants.{Constant, Operate, Store}
use Rattle.flat_code.specs.declared.instruction.RightOperand.TheVariants.{Number}
use Rattle.flat_code.specs.Calls.{function_in}
use Rattle.flat_code.specs.Meaning.{body_of}
use Rattle.flat_code.specs.Memory.{Bytes, put}
use Rattle.flat_code.specs.State as flat
use Rattle.flat_code.specs.Words.{HasWords}
use Rattle.flat_code.proofs.Stored.{put_other, put_same}
use Rattle.flat_code.specs.Routines.Objects.StandsFor.{Keys}
use Rattle.flat_code.specs.Routines.Registers.{AreBelow}
use Rattle.flat_code.specs.Routines.Routine.{HasAt}
use Rattle.flat_code.proofs.Routines.Objects.Changing.{live_is_made}
use Rattle.flat_actions.specs.Actions.{HasGiven, Nowhere, Word}
use Rattle.lib_wrappers.specs.declared.accesses.held.HeldScalar.TheVariants.{Integer as HeldInteger}
use Rattle.lib_wrappers.specs.AccessRoutines.Accessing.{IsToAccess}
use Rattle.metadata_plan.specs.Expanded.{Leads}
use Rattle.metadata_plan.proofs.Flat.{Comes, constant_comes, operate_comes}
use Rattle.metadata_relation.specs.Blocks.{is_short, store_bytes}
use Rattle.metadata_relation.specs.Holding.{IsHome}
use Rattle.metadata_relation.specs.Registers.{first_free, home_register}
use Rattle.metadata_relation.specs.Stages.{Compiled, expansion_of, IsAt, map_of, names, views, world}
use Rattle.metadata_relation.specs.Steps.{IsCompiled}
use Rattle.metadata_relation.proofs.Accesses.{behind_write, stored}
use Rattle.metadata_relation.proofs.Acting.{acts_alone, behind_action, HasActed, Reached, reached_by, reached_next}
use Rattle.metadata_relation.proofs.Acting.{reached_then}
use Rattle.metadata_relation.proofs.Acting.{reached_words}
use Rattle.metadata_relation.proofs.Finishing.{acted_as, acted_then, acted_worked, ends_with, nothing_done}
use Rattle.metadata_relation.proofs.Routines.{action_passes, Passes}
use Rattle.metadata_relation.proofs.Standing.{good_now, IsNode, node, Result}
use Rattle.metadata_relation.proofs.StoredParts.{home_address, part_bounds, part_code, part_tag, part_word, sum_is}
use Rattle.metadata_relation.proofs.Writing.{leaves_write}

-- ---- in the source

-- a byte is stored of a word as of any number
byte_written : (b : ℕ) (q : Place) (objects : Objects)
    → write_value (Integer Char) (integer (low_bits 64 b)) q objects ≡ write_value (Integer Char) (integer b) q objects
unfolding write_value size_of
byte_written b q objects = ap (λ n. write_bytes (n ∷ []) q objects) (omega arith)

byte_direct : (objects : Objects) (v : Value) → IsDirect objects v 1 → IsDirect objects v (scalar_size (Integer Char))
unfolding size_of
byte_direct objects v d = d

-- an object has bytes from its address on
record IsWhole (o size : ℕ) (objects : Objects) : Type 0 where
  live : (object_at objects o).is_live ≡ true
  inside : size ≤ (object_at objects o).size

whole_is : (o size : ℕ) (objects : Objects) → is_live_at size (pointer_to o objects) objects ≡ true
    → IsWhole o size objects
unfolding pointer_to
whole_is o size objects e =
    let a = (object_at objects o).address in
    let p = and_parts (object_at objects o).is_live
    (nat_le a a && nat_le (a + size) (a + (object_at objects o).size)) e in
    let q = and_parts (nat_le a a) (nat_le (a + size) (a + (object_at objects o).size)) p.1 in
    let last = leb-true (a + size) (a + (object_at objects o).size) q.1 in
    record { live = p.0; inside = omega arith }

module _ (c : Compiled) (IsGood : Bytes → Type 0) (right : IsCompiled c IsGood) (u n : ℕ) (temps : Temps)
    (ws : List Frame) (s : State) (v : flat.State) (xs : List flat.Frame)
    (h : IsAt c IsGood u n temps ws s u (c.layout.address u n) v xs)
    (words : HasWords (flat.Stands u (c.layout.address u n) v xs)) where
  abbrev pc : ℕ
  pc = c.layout.address u n

  abbrev free : ℕ
  free = first_free h.code

  abbrev Follows : Stage → Type 0
  Follows a = Result c IsGood a (flat.Stands u (c.layout.address u n) v xs)

  abbrev body : List FlatInstruction
  body = body_of (function_in c.layout.program u)

  module _ (x o : ℕ) (home : get_or s.frame x NoObject ≡ InObject o) (live : (object_at s.objects o).is_live ≡ true) where
    abbrev start : ℕ
    start = (object_at s.objects o).address

    abbrev size : ℕ
    size = (object_at s.objects o).size

    home_is : IsHome (world c h.keys s v) o (home_register h.code x) v.values
    home_is = h.holds.homes.homes x o home

    object_low : (object_at s.objects o).address + (object_at s.objects o).size ≤ 1610612736
    object_low = (good_now (names c) u ws s h.steady.good).low o

    -- so many bytes were stored
    record AreStored (z : State) (keys : Keys) (y : flat.State) (place offset most : ℕ) : Type 0 where
      acted : HasActed c IsGood right u n temps ws s v xs h (behind_action s z) keys y
      reached : Reached (map_of c) c.layout.program u (c.layout.address u n) v xs place y most
      address : y.values (first_free h.code) ≡ (object_at s.objects o).address + offset
      same : (r : ℕ) → r < first_free h.code → y.values r ≡ v.values r

    record Stored (z : State) (offset : ℕ) (bytes : List ℕ) (place most : ℕ) : Type 0 where
      state : State
      keys : Keys
      flat_state : flat.State
      run_is : stores_of_text (pointer_to o s.objects) offset bytes (behind_action s z)
          ≡ Gives tt (behind_action s state)
      work_is : state.work ≡ z.work
      are : AreStored state keys flat_state place (offset + length bytes) most

    -- the next byte
    module _ (z : State) (keys : Keys) (y : flat.State) (place offset most b : ℕ)
        (k : AreStored z keys y place offset most) (room : offset + 1 ≤ (object_at s.objects o).size)
        (has : HasAt body place (Constant (free + 1) b ∷ Store Sb free 0 (free + 1) ∷ Operate Add free free (Number 1)
        ∷ [])) where
      abbrev q : Value
      q = narrowed offset 1 (pointer_to o s.objects)

      made : o < length s.objects
      made = live_is_made s.objects o live

      still_live : (object_at z.objects o).is_live ≡ true
      still_live = k.acted.leaves.lives.live o made home_is.held live

      byte_there : IsDirect z.objects (narrowed offset 1 (pointer_to o s.objects)) (scalar_size (Integer Char))
      byte_there =
          let w = part_word offset 1 o s.objects in
          let low = object_low in
          let a = k.acted.goes.continues.address o made in
          let e = k.acted.goes.continues.size o made in
          let longer = k.acted.goes.continues.longer in
          byte_direct z.objects q (record {
            object = o;
            bounds = part_bounds offset 1 o s.objects;
            tag = part_tag offset 1 o s.objects;
            made = omega (arith, made);
            live = still_live;
            start = omega arith;
            end = omega arith;
          })

      abbrev byte_place : Place
      byte_place = place_in z.objects byte_there.object q.word

      abbrev next_state : State
      next_state = behind_write (Integer Char) q byte_place (integer (low_bits 64 b)) (behind_action s z)

      -- it goes to a register
      byte_made : Comes (map_of c) c.layout.program u place y xs (place + 1)
          (record y { values = put y.values (first_free h.code + 1) (low_bits 64 b) }) 2
      byte_made = constant_comes (map_of c) c.layout.program u place y xs (free + 1) b has.0

      abbrev y1 : flat.State
      y1 = record y { values = put y.values (first_free h.code + 1) (low_bits 64 b); work = y.work + byte_made.work }

      byte_reached : Reached (map_of c) c.layout.program u (c.layout.address u n) v xs (place + 1) y1 (most + 2)
      byte_reached = reached_next (map_of c) c.layout.program u xs pc place (place + 1) v y
          (record y { values = put y.values (free + 1) (low_bits 64 b) }) most 2 k.reached byte_made

      begun : HasActed c IsGood right u n temps ws s v xs h (behind_action s z) keys y1
      begun = acted_as c IsGood right u n temps ws s v xs h (behind_action s z) keys y y1.values y1.work k.acted

      stays_below : (r : ℕ) → r < first_free h.code + 1 → y1.values r ≡ y.values r
      stays_below r lt = put_other y.values (free + 1) (low_bits 64 b) r (λ e. omega arith)

      -- it is stored
      byte_passed : Passes (map_of c) c.layout.program
          (record { function = u; place = place + 1; state = y1; frames = xs }) (place + 1 + 1) 2
          (λ e. HasGiven (views c) keys IsGood Nowhere (free + 2) (behind_action s z) y1 (integer 0) next_state e)
      byte_passed =
          let from = HeldInteger Char (free + 1) in
          let under : AreBelow (free + 2) (free ∷ (free + 1) ∷ []) = (omega arith, (omega arith, tt)) in
          let w = part_word offset 1 o s.objects in
          let low = object_low in
          let there = k.address in
          let kept = stays_below free (omega arith) in
          action_passes c IsGood right u h.code h.there xs (IsToAccess from)
          (λ vs. store (Integer Char) false (argument 0 vs) 0 (argument 1 vs) >> done (integer 0))
          (Word free ∷ Word (free + 1) ∷ []) Nowhere (free + 2) 1 (Store Sb free 0 (free + 1) ∷ [])
          (right.inline.byte free (free + 1) (free + 2) under 0) (record { none = refl }) (place + 1) y1
          (record {
            has = (has.1.0, tt);
            words = reached_words (map_of c) c.layout.program u xs pc (place + 1) v y1 (most + 2) words byte_reached;
          })
          keys (behind_action s z) (q ∷ integer (low_bits 64 b) ∷ []) begun.stands.for
          (omega arith, (put_same y.values (free + 1) (low_bits 64 b), tt)) byte_there (integer 0) next_state
          (ap (λ e. on e (λ _. done (integer 0)))
          (stored (Integer Char) q (integer (low_bits 64 b)) 0 (behind_action s z) byte_there))

      byte_sound : IsSoundTag (views c).functions z.objects (narrowed offset 1 (pointer_to o s.objects)).tag
      byte_sound =
          let low = object_low in
          sound_tag_continues (views c).functions s.objects z.objects k.acted.goes.continues q.tag
          (sound_narrowed (views c).functions s.objects offset 1 (pointer_to o s.objects)
          (sound_pointer (views c).functions o s.objects made (omega arith)))

      byte_acted : HasActed c IsGood right u n temps ws s v xs h (behind_action s next_state) byte_passed.holds.keys
          byte_passed.after
      byte_acted = acted_then c IsGood right u n temps ws s v xs h Nowhere (free + 2) z.work (integer 0) z next_state keys
          y1 byte_passed.after begun byte_passed.holds
          (leaves_write c IsGood right u n temps ws s v xs h (behind_action s z) 0 z.work (Integer Char) q
          (integer (low_bits 64 b)) byte_there k.acted.leaves.good byte_sound tt) k.acted.keys_few

      -- and the address goes on
      sum_made : Comes (map_of c) c.layout.program u (place + 1 + 1) byte_passed.after xs (place + 1 + 1 + 1)
          (record byte_passed.after {
            values = put byte_passed.after.values free
                (reg_result Add (byte_passed.after.values free) (low_bits 64 1));
          }) 2
      sum_made = operate_comes (map_of c) c.layout.program u (place + 1 + 1) byte_passed.after xs Add free free (Number 1)
          has.1.1.0

      abbrev y3 : flat.State
      y3 = record byte_passed.after {
        values = put byte_passed.after.values (first_free h.code)
            (reg_result Add (byte_passed.after.values (first_free h.code)) (low_bits 64 1));
        work = byte_passed.after.work + sum_made.work;
      }

      byte_stored : AreStored next_state byte_passed.holds.keys y3 (place + 1 + 1 + 1) (offset + 1) (most + 2 + 2 + 2)
      byte_stored =
          let l = byte_passed.holds in
          let y2 = byte_passed.after in
          let low = object_low in
          let there : y2.values free ≡ start + offset =
          l.others free (omega arith) tt ∙ stays_below free (omega arith) ∙ k.address in
          record {
            acted = acted_as c IsGood right u n temps ws s v xs h (behind_action s next_state) l.keys y2 y3.values y3.work
                byte_acted;
            reached = reached_next (map_of c) c.layout.program u xs pc (place + 1 + 1) (place + 1 + 1 + 1) v y2
                (record y2 { values = put y2.values free (reg_result Add (y2.values free) (low_bits 64 1)) })
                (most + 2 + 2) 2
                (reached_then (map_of c) c.layout.program u xs pc (place + 1) (place + 1 + 1) v y1 y2 (most + 2) 2
                byte_reached byte_passed.reached) sum_made;
            address = put_same y2.values free (reg_result Add (y2.values free) (low_bits 64 1))
                ∙ ap (λ e. reg_result Add e (low_bits 64 1)) there ∙ sum_is (start + offset) 1 (omega arith)
                ∙ omega arith;
            same = λ r lt. put_other y2.values free _ r (λ e. omega arith) ∙ l.others r (omega arith) tt
                ∙ stays_below r (omega arith) ∙ k.same r lt;
          }

      -- as in the source
      byte_run : store (Integer Char) false (narrowed offset 1 (pointer_to o s.objects)) 0 (integer b) (behind_action s z)
          ≡ Gives tt (behind_action s next_state)
      byte_run =
          stored (Integer Char) q (integer b) 0 (behind_action s z) byte_there
          ∙ ap (λ e. Gives tt (record (behind_write (Integer Char) q byte_place (integer b) (behind_action s z))
          { objects = e })) (sym (byte_written b byte_place z.objects))

    stores : (bytes : List ℕ) (z : State) (keys : Keys) (y : flat.State) (place offset most : ℕ)
        → AreStored z keys y place offset most → offset + length bytes ≤ (object_at s.objects o).size
        → HasAt body place (store_bytes bytes free (free + 1))
        → Stored z offset bytes (place + length (store_bytes bytes free (free + 1))) (most + 6 * length bytes)
    stores [] z keys y place offset most k room has =
        let there : place ≡ place + 0 = omega arith in
        let far : offset ≡ offset + 0 = omega arith in
        record {
          state = z;
          keys = keys;
          flat_state = y;
          run_is = refl;
          work_is = refl;
          are = record {
            acted = k.acted;
            reached = subst (λ e. Reached (map_of c) c.layout.program u (c.layout.address u n) v xs e y (most + 6 * 0)) there
                (record {
                  steps = k.reached.steps;
                  comes = k.reached.comes;
                  few = (let few = k.reached.few in omega arith);
                });
            address = k.address ∙ ap (λ e. start + e) far;
            same = k.same;
          };
        }
    stores (b ∷ bs) z keys y place offset most k room has =
        let p = pointer_to o s.objects in
        let one : offset + 1 ≤ size = omega arith in
        let first : HasAt body place (Constant (free + 1) b ∷ Store Sb free 0 (free + 1) ∷ Operate Add free free (Number 1)
        ∷ []) = (has.0, (has.1.0, (has.1.1.0, tt))) in
        let r = stores bs (next_state z keys y place offset most b k one first)
        (byte_passed z keys y place offset most b k one first).holds.keys (y3 z keys y place offset most b k one first)
        (place + 1 + 1 + 1) (offset + 1) (most + 2 + 2 + 2) (byte_stored z keys y place offset most b k one first) (omega arith)
        has.1.1.1 in
        let list = store_bytes bs free (free + 1) in
        record {
          state = r.state;
          keys = r.keys;
          flat_state = r.flat_state;
          run_is = ap (λ e. on e (λ _. stores_of_text p (offset + 1) bs))
              (byte_run z keys y place offset most b k one first) ∙ r.run_is;
          work_is = r.work_is;
          are = record {
            acted = r.are.acted;
            reached = subst (λ e. Reached (map_of c) c.layout.program u (c.layout.address u n) v xs e r.flat_state
                (most + 6 * suc (length bs))) (omega arith)
                (record {
                  steps = r.are.reached.steps;
                  comes = r.are.reached.comes;
                  few = (let few = r.are.reached.few in omega arith);
                });
            address = r.are.address ∙ omega arith;
            same = r.are.same;
          };
        }

  -- ---- the step

  module _ (text x offset next : ℕ) (at : slice_get h.code.code n ≡ Some (tac.StoreText text x offset next)) where
    abbrev label : Instruction
    label = tac.StoreText text x offset next

    nd : IsNode c u n h.code (tac.StoreText text x offset next)
    nd = node c IsGood right u n temps ws s v xs h (tac.StoreText text x offset next) at

    abbrev paid : State
    paid = spent 1 s

    abbrev bytes : List ℕ
    bytes = text_in c.layout.expansion.code text

    abbrev H : ℕ
    H = home_register h.code x

    abbrev Behind : Home → Stage
    Behind m = came (heavier (tally (length bytes) >> stores_of_text (home_value m s.objects) offset bytes) paid)
        (λ _ z. Stands u next temps ws z)

    abbrev Effect : Home → Stage
    Effect m = only_if (is_live_at (offset + length bytes) (home_value m s.objects) s.objects) (Behind m)

    module _ (o : ℕ) (home : get_or s.frame x NoObject ≡ InObject o) (live : (object_at s.objects o).is_live ≡ true)
        (inside : offset + length (text_in c.layout.expansion.code text) ≤ (object_at s.objects o).size) where
      abbrev tallied : State
      tallied = record s { work = paid.work + length bytes }

      text_stored : HasAt body pc (Operate Add free H (Number offset) ∷ store_bytes bytes free (free + 1))
          → Leads body (pc + suc (length (store_bytes bytes free (free + 1)))) (c.layout.address u next)
          → Follows (Behind (InObject o))
      text_stored has on =
          let m = map_of c in
          let p = c.layout.program in
          let low = object_low x o home live in
          let list = store_bytes bytes free (free + 1) in
          let sum = reg_result Add (v.values H) (low_bits 64 offset) in
          let first = operate_comes m p u pc v xs Add free H (Number offset) has.0 in
          let v1 : flat.State = record v { values = put v.values free sum; work = v.work + first.work } in
          let begun = acted_as c IsGood right u n temps ws s v xs h (behind_action s tallied) h.keys v v1.values v1.work
          (acted_worked c IsGood right u n temps ws s v xs h s h.keys v tallied.work
          (nothing_done c IsGood right u n temps ws s v xs h)) in
          let r = stores x o home live bytes tallied h.keys v1 (pc + 1) offset 2 (record {
            acted = begun;
            reached = reached_by m p u xs pc (pc + 1) v (record v { values = put v.values free sum }) 2 first;
            address = put_same v.values free sum
                ∙ ap (λ e. reg_result Add e (low_bits 64 offset))
                (home_address (world c h.keys s v) o H v.values (home_is x o home live))
                ∙ sum_is (object_at s.objects o).address offset (omega arith);
            same = λ e lt. put_other v.values free sum e (λ q. omega arith);
          }) inside has.1 in
          let y = r.flat_state in
          let z = record r.state { work = r.state.work + 3 * (r.state.work - paid.work) } in
          let e = ends_with c IsGood right u n temps ws s v xs h (pc + 1 + length list) (2 + 6 * length bytes) 0 next y []
          r.are.reached (record { assign = refl; few = omega arith }) tt
          (subst (λ q. Leads body q (c.layout.address u next)) (omega arith) on) in
          let same_work = r.work_is in
          subst Follows (sym (ap (λ q. came (fourfold paid.work q) (λ _ z. Stands u next temps ws z)) r.run_is))
          (acts_alone c IsGood right u n temps ws s v xs h label nd next z r.keys
          (record y { values = y.values; work = e.0 }) (2 + 6 * length bytes + 2 * 0 + 2) refl (inl refl) e.1
          (acted_as c IsGood right u n temps ws s v xs h (behind_action s z) r.keys y y.values e.0
          (acted_worked c IsGood right u n temps ws s v xs h (behind_action s r.state) r.keys y z.work r.are.acted))
          (λ q lt. r.are.same q lt) (omega arith))

      short : is_short offset ≡ true
      short =
          let low = object_low x o home live in
          lt-ltb offset (2 ^ 31 - 2 ^ 11) (omega arith)

      pub text_step : Follows (Behind (InObject o))
      text_step =
          let stores = store_bytes bytes free (free + 1) in
          let list = part_code c.layout.expansion.inline.operators H offset free short in
          text_stored (subst (λ z. HasAt body pc (z ++ stores)) list nd.put.has)
          (subst (λ z. Leads body (pc + length (z ++ stores)) (c.layout.address u next)) list nd.put.leads)

    by_home : (m : Home) → get_or s.frame x NoObject ≡ m → (Effect m ≡ Stuck → ⊥) → Follows (Effect m)
    by_home NoObject home fine = absurd (fine refl)
    by_home (InObject o) home fine =
        let t = only_true (is_live_at (offset + length bytes) (pointer_to o s.objects) s.objects) (Behind (InObject o)) fine in
        let whole = whole_is o (offset + length bytes) s.objects t.0 in
        subst Follows (sym t.1) (text_step o home whole.live whole.inside)

    pub store_text : (effect c.setting (expansion_of c).code label u temps ws paid ≡ Stuck → ⊥)
        → Follows (effect c.setting (expansion_of c).code label u temps ws paid)
    store_text fine = by_home (get_or s.frame x NoObject) refl fine

-- A new block takes the place of an old one: bytes and tags are moved, and the old block dies.
use Rattle.std.proofs.Common.{◌≡◌, ◌≢◌, ℕ, suc, ◌+◌, ◌-◌, ◌*◌, ◌<◌, ◌≤◌, ◌⊎◌, inl, inr, ⊎_elim, List, [], ◌∷◌}
use Rattle.std.proofs.Common.{◌++◌, true, length, refl, sym, ap, ◌∙◌, subst, arith}
use Rattle.std.proofs.lemmas.Bool.{cases_eq, cases_lt}
use Rattle.addr_map.specs.Places.{MapSizes, AreMapped, spaces_begin}
use Rattle.rv_isa.specs.declared.instruction.BranchOp.TheVariants.{Bgeu}
use Rattle.obj_memory.specs.declared.object.Storage.TheVariants.{Allocated}
use Rattle.obj_memory.specs.declared.value.Place.{Place}
use Rattle.obj_memory.specs.Objects.{ObjectState, object_at, new_object}
use Rattle.obj_memory.specs.Heap.{block_count}
use Rattle.obj_memory.specs.Judgement.{place_in}
use Rattle.obj_memory.specs.Sound.{IsPlace, KeepsObjects}
use Rattle.obj_memory.proofs.Making.{new_last, new_other, dead_other}
use Rattle.obj_memory.proofs.Keeping.{keeps_moved}
use Rattle.source_meaning.specs.State.{State as Source}
use Rattle.source_meaning.proofs.Holding.{length-new}
use Rattle.flat_code.specs.declared.instruction.RightOperand.TheVariants.{Register}
use Rattle.flat_code.specs.declared.instruction.FlatInstruction.{FlatInstruction}
use Rattle.flat_code.specs.declared.instruction.FlatInstruction.TheVariants.{Move}
use Rattle.flat_code.specs.Memory.{Bytes, put}
use Rattle.flat_code.specs.State.{State}
use Rattle.flat_code.specs.Words.{IsOfWords}
use Rattle.flat_code.specs.Meaning.{Context, Goes}
use Rattle.flat_code.specs.declared.registers.Held.{Held}
use Rattle.flat_code.specs.Routines.Registers.{AreBelow, OthersStay}
use Rattle.flat_code.specs.Routines.Routine.{HasAt, Outcome, Continues, Reaches, Never}
use Rattle.flat_code.specs.Routines.Effects.{worked}
use Rattle.flat_code.specs.Routines.Metadata.{View, held_registers, ShowsNothing}
use Rattle.flat_code.proofs.Routines.Steps.{has_front, has_back}
use Rattle.flat_code.proofs.Routines.Rules.{next, weaken, arrived}
use Rattle.flat_code.proofs.Routines.Distinct.{AreRegisters}
use Rattle.flat_code.proofs.Routines.Regions.{laid_out}
use Rattle.flat_code.proofs.Routines.Branches.{not_below, is_below}
use Rattle.flat_code.proofs.Routines.Showing.{shows_both}
use Rattle.flat_code.proofs.Routines.Words.{IsLocal}
use Rattle.flat_code.specs.Routines.Objects.StandsFor.{Views, Keys, IsHere}
use Rattle.flat_code.specs.Routines.Objects.Changes.{IsMoved}
use Rattle.flat_code.proofs.Routines.Objects.Changing.{live_is_made}
use Rattle.flat_code.proofs.Routines.Objects.Moves.{move_stands}
use Rattle.shadow_space.proofs.Entries.{context_of, agrees_shows, agrees_memory}
use Rattle.lock_space.specs.Routines.{IsReleaseRoutine}
use Rattle.heap_space.specs.Table.{block_total}
use Rattle.heap_space.specs.Routines.{IsReleaseRoutine as IsUnlistRoutine}
use Rattle.flat_actions.specs.Actions.{IsFor, Pointer, HasGiven, StaysElsewhere, views_of}
use Rattle.flat_actions.specs.Ranges.{IsToMove, HasMovedTagged, IsTaggedMoveRoutine}
use Rattle.flat_actions.proofs.Standing.{good_still, shown_still, spells_still, none_of_none}
use Rattle.lib_wrappers.specs.AllocatingRoutines.Reallocating.{lesser_code, replace_code}
use Rattle.flat_code.proofs.Routines.Spaces.Quiet.{shows_worked}
use Rattle.lib_wrappers.proofs.AllocatingRoutines.Stretches.{IsDone, stretch_on, goes_past, goes_into}
use Rattle.flat_code.proofs.Routines.Spaces.Quiet.{worked_words}
use Rattle.lib_wrappers.proofs.AllocatingRoutines.Allocates.{rows_are_blocks}
use Rattle.lib_wrappers.proofs.AllocatingRoutines.BlockBirth.{LiesInHeap}
use Rattle.lib_wrappers.proofs.AllocatingRoutines.BlockEnds.{HasEndedBlock, ends_block}
use Rattle.lib_wrappers.proofs.AllocatingRoutines.SourceBlocks.{made_in}
use Rattle.lib_wrappers.proofs.AllocatingRoutines.SourceFrees.{ended_in}
use Rattle.lib_wrappers.proofs.AllocatingRoutines.SourceReallocs.{new_pointer, lesser_of, moved_in}

-- the new block, as an object
unfolding_new : (p z : ℕ) → ((new_object Allocated p z).address ≡ p) × ((new_object Allocated p z).size ≡ z)
    × ((new_object Allocated p z).is_live ≡ true)
unfolding new_object
unfolding_new p z = (refl, refl, refl)

module _ (map : MapSizes) (mapped : AreMapped map) (entry : View) (IsGood : Bytes → Type 0)
    (local : IsLocal map entry IsGood) (old : Held) (size : ℕ) (into : Held) (t : ℕ)
    (old_below : AreBelow t (held_registers old)) (size_below : size < t)
    (into_below : AreBelow t (held_registers into))
    (move unlist unlock : List FlatInstruction)
    (moves : IsTaggedMoveRoutine map entry IsGood into.value old.value (t + 1) (t + 4) move)
    (unlists : IsUnlistRoutine map old.value (t + 4) unlist)
    (unlocks : IsReleaseRoutine map old.tag.lock (t + 4) unlock)
    (functions : ℕ) (types : ℕ → ℕ) (k : Keys) (x : Source) (n z p : ℕ)
    (live : (object_at x.objects n).is_live ≡ true) (block : (object_at x.objects n).storage ≡ Allocated)
    (lies : LiesInHeap map p z) (charge weight : ℕ) (s2 : State)
    (f2 : IsFor (views_of map functions types entry) k IsGood x s2) (s3 : State)
    (h3 : HasGiven (views_of map functions types entry) k IsGood (Pointer into) (t + 4) x s2
    (new_pointer x.objects p z) (made_in p z x) s3)
    (value_there : s3.values old.value ≡ (object_at x.objects n).address)
    (lock_there : s3.values old.tag.lock ≡ (k.held n).lock)
    (old_size : s3.values (t + 1) ≡ (object_at x.objects n).size) (new_size : s3.values size ≡ z) where
  abbrev c : Context
  c = context_of map true charge weight

  abbrev g : Views
  g = views_of map functions types entry

  abbrev k1 : Keys
  k1 = h3.keys

  abbrev x1 : Source
  x1 = made_in p z x

  abbrev d : Place
  d = place_in x1.objects (length x.objects) p

  abbrev from : Place
  from = record { object = n; offset = 0 }

  abbrev l : ℕ
  l = lesser_of n z x1.objects

  abbrev x2 : Source
  x2 = moved_in n z d x1

  made : n < length x.objects
  made = live_is_made x.objects n live

  same1 : object_at x1.objects n ≡ object_at x.objects n
  same1 = new_other Allocated p z n x.objects made

  live1 : (object_at x1.objects n).is_live ≡ true
  live1 = ap (λ o. o.is_live) same1 ∙ live

  new1 : object_at x1.objects (length x.objects) ≡ new_object Allocated p z
  new1 = new_last Allocated p z x.objects

  new_address : (object_at x1.objects (length x.objects)).address ≡ p
  new_address = ap (λ o. o.address) new1 ∙ (unfolding_new p z).0

  new_bytes : (object_at x1.objects (length x.objects)).size ≡ z
  new_bytes = ap (λ o. o.size) new1 ∙ (unfolding_new p z).1

  new_live : (object_at x1.objects (length x.objects)).is_live ≡ true
  new_live = ap (λ o. o.is_live) new1 ∙ (unfolding_new p z).2

  size1 : (object_at x1.objects n).size ≡ (object_at x.objects n).size
  size1 = ap (λ o. o.size) same1

  -- ---- the lesser size

  record IsLesser (s4 : State) : Type 0 where
    value : s4.values (t + 1) ≡ l
    memory : s4.memory ≡ s3.memory
    shows : ShowsNothing s3 s4
    others : OthersStay [] t s3 s4

  lesser_registers : AreRegisters (size ∷ []) [] ((t + 1) ∷ []) t
  lesser_registers = record {
    none = (tt, tt);
    distinct = tt;
    ins_below = (size_below, tt);
    res_below = tt;
    from = (omega arith, tt);
    own_distinct = (tt, tt);
  }

  moved_lesser : (object_at x.objects n).size ≤ z → IsLesser (worked c s3)
  moved_lesser le = record {
    value = (let a = old_size in let b = size1 in omega arith);
    memory = refl;
    shows = shows_worked c s3 s3 (record { input = refl; output = refl; taken = refl; accesses = refl; turns = refl });
    others = λ r m none. refl;
  }

  other_lesser : z < (object_at x.objects n).size → (s4 : State)
      → IsDone c (size ∷ []) [] ((t + 1) ∷ []) t lesser_registers (Move 1 0 ∷ []) refl (worked c s3) s4 → IsLesser s4
  unfolding put
  other_lesser less s4 q = record {
    value = (let a = new_size in let b = size1 in sym (q.agrees.values 1 (omega arith)) ∙ omega arith);
    memory = agrees_memory 2 _ _ s4 q.agrees;
    shows = agrees_shows 2 _ _ s3 s4 q.agrees
        (record { input = refl; output = refl; taken = refl; accesses = refl; turns = refl });
    others = q.others;
  }

  lessens : (code : List FlatInstruction) (bound pc end : ℕ) (R : Outcome → Type 0) → IsOfWords s3
      → HasAt code pc (lesser_code size (t + 1))
      → ((s4 : State) → IsOfWords s4 → IsLesser s4 → Reaches c code bound (Goes (pc + 2) s4) end R)
      → Reaches c code (suc (1 + bound)) (Goes pc s3) end R
  lessens code bound pc end R w has on = ⊎_elim
      (λ (less : z < (object_at x.objects n).size).
      goes_into c code (1 + bound) pc s3 Bgeu size (Register (t + 1)) 1 end R has.0
      (is_below (s3.values size) (s3.values (t + 1)) (let a = old_size in let b = new_size in omega arith))
      (stretch_on c (size ∷ []) [] ((t + 1) ∷ []) t lesser_registers (Move 1 0 ∷ []) refl code bound (pc + 1)
      (worked c s3) end R (worked_words c s3 w) (has.1.0, tt) (tt, tt)
      (λ s4 w4 q. (let e : pc + 2 ≡ pc + 1 + 1 = omega arith in
      subst (λ i. Reaches c code bound (Goes i s4) end R) e (on s4 w4 (other_lesser less s4 q))))))
      (λ (le : (object_at x.objects n).size ≤ z).
      goes_past c code (1 + bound) pc (pc + 2) s3 Bgeu size (Register (t + 1)) 1 end R has.0 (omega arith)
      (not_below (s3.values size) (s3.values (t + 1)) (let a = old_size in let b = new_size in omega arith))
      (weaken c code bound (1 + bound) (Goes (pc + 2) (worked c s3)) end R R (omega arith) (λ y q. q)
      (on (worked c s3) (worked_words c s3 w) (moved_lesser le))))
      (cases_lt z (object_at x.objects n).size)

  -- ---- the move

  module _ (s4 : State) (q4 : IsLesser s4) where
    to4 : s4.values into.value ≡ p
    to4 = q4.others into.value into_below.0 tt ∙ h3.given.word

    from4 : s4.values old.value ≡ (object_at x.objects n).address
    from4 = q4.others old.value old_below.0 tt ∙ value_there

    to_move : IsToMove map into.value old.value (t + 1) l s4
    to_move =
        let a = to4 in let b = from4 in let first = lies.begins in let last = lies.last in let holds = lies.holds in
        let there = f2.objects.placed n live in let lo = there.first in let hi = there.last in let e = size1 in
        record {
          size_is = q4.value;
          to_range = record { first = omega arith; last = omega arith };
          from_range = record { first = omega arith; last = omega arith };
        }

    module _ (s5 : State) (q5 : HasMovedTagged map entry IsGood into.value old.value l (t + 4) s4 s5) where
      at_new : p ≡ (object_at x1.objects d.object).address + d.offset
      at_new = let a = new_address in omega arith

      at_old : (object_at x.objects n).address ≡ (object_at x1.objects from.object).address + from.offset
      at_old = let a = ap (λ o. o.address) same1 in omega arith

      is_moved : IsMoved g l ((object_at x1.objects d.object).address + d.offset)
          ((object_at x1.objects from.object).address + from.offset) s3.memory s5.memory
      is_moved =
          subst (λ a. IsMoved g l a ((object_at x1.objects from.object).address + from.offset) s3.memory s5.memory)
          (to4 ∙ at_new)
          (subst (λ b. IsMoved g l (s4.values into.value) b s3.memory s5.memory) (from4 ∙ at_old)
          (subst (λ m. IsMoved g l (s4.values into.value) (s4.values old.value) m s5.memory) q4.memory
          (q5.moved functions types)))

      fits_new : IsPlace x1.objects d l
      fits_new =
          let e = length-new Allocated p z x.objects in let a = new_address in let b = new_bytes in
          record { made = omega arith; room = omega arith }

      fits_old : IsPlace x1.objects from l
      fits_old =
          let e = length-new Allocated p z x.objects in let m = made in
          record { made = omega arith; room = omega arith }

      shown5 : ShowsNothing s3 s5
      shown5 = shows_both s3 s4 s5 q4.shows q5.shows

      stands5 : IsFor g k1 IsGood x2 s5
      stands5 = record {
        objects = move_stands g k1 mapped (laid_out map mapped) x1.objects s3.memory s5.memory h3.stands.objects l d
            from
            new_live live1 fits_new fits_old is_moved;
        spaces = q5.good;
        keys = h3.stands.keys;
        shown = (let y = shown_still x1 s3 s5 shown5 h3.stands.shown in record {
          input = y.input;
          output = y.output;
          taken = y.taken;
          accesses = y.accesses;
        });
      }

      keeps : KeepsObjects x1.objects x2.objects
      keeps = keeps_moved l d from x1.objects

      live2 : (object_at x2.objects n).is_live ≡ true
      live2 = (keeps.at n).live ∙ live1

      block2 : (object_at x2.objects n).storage ≡ Allocated
      block2 = (keeps.at n).storage ∙ ap (λ o. o.storage) same1 ∙ block

      start5 : s5.values old.value ≡ (object_at x2.objects n).address
      start5 = q5.others old.value (let a = old_below.0 in omega arith) tt ∙ from4 ∙ ap (λ o. o.address) (sym same1)
          ∙ sym (keeps.at n).address

      lock5 : s5.values old.tag.lock ≡ (k1.held n).lock
      lock5 = q5.others old.tag.lock (let a = old_below.1.1.1.1.0 in omega arith) tt
          ∙ q4.others old.tag.lock old_below.1.1.1.1.0 tt ∙ lock_there ∙ ap (λ y. y.lock) (sym (h3.held.held n made))

      -- ---- the old block dies

      abbrev Ended6 : State → Type 0
      Ended6 = HasEndedBlock map mapped entry IsGood local old.value old.tag.lock t
          (old_below.0, (old_below.1.1.1.1.0, tt)) unlist unlock unlists unlocks functions types k1 x2 n live2 block2
          charge
          weight s5 stands5 start5 lock5

      module _ (s6 : State) (q6 : Ended6 s6) where
        abbrev final : Source
        final = ended_in n x2

        -- what lives before and is not the old block lives then, where it was
        lives_on : (j : ℕ) → j ≢ n → (object_at x1.objects j).is_live ≡ true
            → ((object_at final.objects j).is_live ≡ true)
            × ((object_at final.objects j).address ≡ (object_at x1.objects j).address)
            × ((object_at final.objects j).size ≡ (object_at x1.objects j).size)
        lives_on j ne lj =
            let other = dead_other n j x2.objects ne in (
              ap (λ o. o.is_live) other ∙ (keeps.at j).live ∙ lj,
              ap (λ o. o.address) other ∙ (keeps.at j).address,
              ap (λ o. o.size) other ∙ (keeps.at j).size,
            )

        not_new : length x.objects ≢ n
        not_new e = let m = made in omega arith

        low_before : (a : ℕ) → a < spaces_begin
            → ((j : ℕ) → (object_at final.objects j).is_live ≡ true → (a < (object_at final.objects j).address)
            ⊎ ((object_at final.objects j).address + (object_at final.objects j).size ≤ a))
            → s3.memory a ≡ s2.memory a
        low_before a la out = ⊎_elim
            (λ (before : a < (object_at x.objects n).address). beyond (inl before))
            (λ (lo : (object_at x.objects n).address ≤ a). ⊎_elim
            (λ (hi : a < (object_at x.objects n).address + (object_at x.objects n).size). inside lo hi)
            (λ (behind : (object_at x.objects n).address + (object_at x.objects n).size ≤ a). beyond (inr behind))
            (cases_lt a ((object_at x.objects n).address + (object_at x.objects n).size)))
            (cases_lt a (object_at x.objects n).address)
          where
            inside : (object_at x.objects n).address ≤ a
                → a < (object_at x.objects n).address + (object_at x.objects n).size → s3.memory a ≡ s2.memory a
            inside lo hi =
                let o = object_at x.objects n in
                let here1 = subst (λ (y : ObjectState). IsHere g k1 s3.memory y) same1
                (h3.stands.objects.here n live1) in
                let here = f2.objects.here n live in
                let i = a - o.address in
                let at : o.address + i ≡ a = omega arith in
                subst (λ b. s3.memory b ≡ s2.memory b) at
                (here1.bytes i (omega arith) ∙ sym (here.bytes i (omega arith)))

            beyond : (a < (object_at x.objects n).address)
                ⊎ ((object_at x.objects n).address + (object_at x.objects n).size ≤ a) → s3.memory a ≡ s2.memory a
            beyond off = h3.elsewhere.low a la (λ j lj. ⊎_elim
                (λ (e : j ≡ n). (let same : object_at x1.objects j ≡ object_at x.objects n = ap (object_at x1.objects)
                e ∙ same1 in
                subst (λ (o : ObjectState). (a < o.address) ⊎ (o.address + o.size ≤ a)) (sym same) off))
                (λ (ne : j ≢ n). (let q = lives_on j ne lj in let at = q.1 in let bytes = q.2 in
                ⊎_elim (λ y. inl (omega arith)) (λ y. inr (omega arith)) (out j q.0)))
                (cases_eq j n))

        elsewhere6 : StaysElsewhere map final.objects s2.memory s6.memory
        elsewhere6 = record {
          low = λ a la out. (let q = lives_on (length x.objects) not_new new_live in
              let at = q.1 in let bytes = q.2 in let b = new_address in let e = new_bytes in let here = at_new in
              q6.low a la
              ∙ is_moved.beside a la (⊎_elim (λ y. inl (omega arith)) (λ y. inr (omega arith))
              (out (length x.objects) q.0))
              ∙ low_before a la out);
          behind = λ a la. q6.behind a la ∙ q5.behind a la ∙ ap (λ m. m a) q4.memory ∙ h3.elsewhere.behind a la;
        }

        others6 : OthersStay [] t s3 s6
        others6 r m none = q6.others r m tt ∙ q5.others r (omega arith) tt ∙ q4.others r m tt

        given6 : HasGiven g k IsGood (Pointer into) t x s2 (new_pointer x.objects p z) final s6
        given6 = record {
          keys = k1;
          held = h3.held;
          stands = q6.stands;
          given = spells_still g k1 (new_pointer x.objects p z) into [] t s3 s6 others6 into_below
              (none_of_none (held_registers into)) h3.given;
          turns = q6.shows.turns ∙ shown5.turns ∙ h3.turns;
          elsewhere = elsewhere6;
          others = λ r m none. others6 r m tt ∙ h3.others r (omega arith) none;
        }

  -- ---- all of it

  pub replaces_reached : (code : List FlatInstruction) (pc end : ℕ) (R : Outcome → Type 0) → IsOfWords s3
      → HasAt code pc (replace_code move unlist unlock size (t + 1))
      → pc + 2 + length move + length unlist + length unlock ≡ end
      → ((s6 : State) → HasGiven g k IsGood (Pointer into) t x s2 (new_pointer x.objects p z) (ended_in n x2) s6
      → R (Continues s6))
      → Reaches c code (suc (1 + ((40 + 16 * l) + ((16 + 16 * block_count x2.objects) + (11 + 0))))) (Goes pc s3) end R
  replaces_reached code pc end R w has at_end on =
      let two = has_back code pc (lesser_code size (t + 1)) (move ++ (unlist ++ unlock)) has in
      let three = has_back code (pc + 2) move (unlist ++ unlock) two in
      let count = block_count x2.objects in
      lessens code ((40 + 16 * l) + ((16 + 16 * count) + (11 + 0))) pc end R w
      (has_front code pc (lesser_code size (t + 1)) (move ++ (unlist ++ unlock)) has)
      (λ s4 w4 q4.
      next c code (40 + 16 * l) ((16 + 16 * count) + (11 + 0)) (Goes (pc + 2) s4) (pc + 2 + length move) end
      (HasMovedTagged map entry IsGood into.value old.value l (t + 4) s4) Never R w4
      ((moves l charge weight).from code (pc + 2) s4 (has_front code (pc + 2) move (unlist ++ unlock) two) w4
      (to_move s4 q4, good_still map IsGood s3.memory s4.memory q4.memory h3.stands.spaces))
      (λ s5 w5 q5.
      let stands = stands5 s4 q4 s5 q5 in
      let same = rows_are_blocks map k1 x2.objects s5.memory stands.objects.table stands.objects.disjoint in
      weaken c code ((16 + 16 * block_total map s5.memory) + (11 + 0)) ((16 + 16 * count) + (11 + 0))
      (Goes (pc + 2 + length move) s5) end R R (omega arith) (λ y q. q)
      (ends_block map mapped entry IsGood local old.value old.tag.lock t (old_below.0, (old_below.1.1.1.1.0, tt)) unlist
      unlock unlists unlocks functions types k1 x2 n (live2 s4 q4 s5 q5) (block2 s4 q4 s5 q5) charge weight s5 stands
      (start5 s4 q4 s5 q5) (lock5 s4 q4 s5 q5) code 0 (pc + 2 + length move) end R w5
      (has_front code (pc + 2 + length move) unlist unlock three)
      (has_back code (pc + 2 + length move) unlist unlock three)
      (λ s6 w6 q6.
      arrived c code 0 s6 (pc + 2 + length move + length unlist + length unlock) end R at_end
      (on s6 (given6 s4 q4 s5 q5 s6 q6)))))
      (λ status report s' never. absurd never))

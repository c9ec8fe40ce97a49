-- Blocks of the heap.
use Rattle.std.proofs.Common.{◌≡◌, ℕ, ◌+◌, ◌%◌, sym, ap, subst, refl, ◌∙◌, Ok, Err, Bool, true, false, nat_lt, length}
use Rattle.std.proofs.Common.{Some, None, if◌then◌else◌}
use Rattle.std.specs.Prelude.{Result, Option, IfOk, min, ◌&&◌, ◌==◌}
use Rattle.sb_base.specs.declared.ending.Ending.TheVariants.{BadFree, Temporal}
use Rattle.obj_memory.specs.declared.object.Storage.TheVariants.{Allocated}
use Rattle.obj_memory.specs.declared.value.Tag.{Tag}
use Rattle.obj_memory.specs.declared.value.Value.{Value}
use Rattle.obj_memory.specs.Heap.{block_count, block_room, is_allocated, least_place}
use Rattle.obj_memory.specs.Objects.{object_at, with_new}
use Rattle.source_meaning.specs.State.{State, ◌>>◌, Setting, change, choose, done, read_state, stop, tally}
use Rattle.source_meaning.specs.Places.{heap_first, heap_last}
use Rattle.source_meaning.specs.Actions.{integer, is_zero}
use Rattle.source_meaning.specs.Heap.{allocate, bad_free, block_place, free, freed, freed_by, is_block_start}
use Rattle.source_meaning.specs.Heap.{realloc, tally_blocks}
use Rattle.interpreter_objects.specs.Blocks.{AreInOrder, AreLive, gap_in, with_gap_filled}
use Rattle.interpreter_objects.proofs.Gaps.{filled_live, gap_is_place, order_filled}
use Rattle.interpreter_objects.proofs.Keeping.{address_at, kept_new, life_at, size_at, storage_at}
use Rattle.interpreter_objects.proofs.Weights.{blocks_counted}
use Rattle.source_interp.specs.declared.limits.Limits.{Limits}
use Rattle.source_interp.specs.declared.machine.Machine.{Machine}
use Rattle.source_interp.specs.declared.stop.Cause.TheVariants as cause
use Rattle.source_interp.specs.declared.stop.Stop.{Stop}
use Rattle.source_interp.specs.declared.stop.Stop.TheVariants as stopped_by
use Rattle.source_interp.specs.Heaping.{IsFirstGap, add_block, find_freed, free_some, freed_at, resize}
use Rattle.source_interp.specs.Limits.{AreLimits}
use Rattle.source_interp.specs.Outside.{Outside}
use Rattle.source_interp.specs.Performing.{Fails}
use Rattle.source_interp.specs.Standing.{Acts, Does, Stands}
use Rattle.source_interp.proofs.Acting.{done_acts, reads_then, same_acts, then_acts}
use Rattle.source_interp.proofs.Accesses.{alters_blocks}
use Rattle.source_interp.proofs.Least.{reads}
use Rattle.source_interp.proofs.Stacked.{length_kept}

module _ (g : Setting) (o : Outside) where
  pub tallies_blocks : (old new : Machine) (count work : ℕ) → count ≡ length old.blocks → work ≡ 1 + count
      → Acts g old new o o (Ok tt) (tally work) → Acts g old new o o (Ok tt) tally_blocks
  tallies_blocks old new count work e e' a =
      reads_then g old new o o count (Ok tt) (λ s. block_count s.objects) (λ n. tally (1 + n))
      (λ start s st. sym (blocks_counted s.objects old.blocks st.blocks_live) ∙ sym e)
      (subst (λ n. Acts g old new o o (Ok tt) (tally n)) e' a)

  -- where there is no such block
  pub frees_badly : (old new : Machine) (line : ℕ) (u : Unit {0}) (r : Result (Unit {0}) Stop) → r ≡ Ok u
      → Acts g old new o o r tally_blocks
      → Acts {A = ℕ} g old new o o (Err (stopped_by.Ended cause.BadFree line)) (bad_free line)
  frees_badly old new line u r is a =
      then_acts g old new new o o o r u (Err (stopped_by.Ended cause.BadFree line)) tally_blocks
      (λ _. stop (BadFree line)) is a (record { by = λ start s st. record { state = s; holds = st; comes = refl } })

-- the place of a new block

module _ (g : Setting) (o : Outside) (l : Limits) (m : Machine) (size count : ℕ) (limits : AreLimits l g)
    (is : count ≡ length m.blocks) where
  abbrev placed : State → Option ℕ
  placed s = least_place (heap_first g) (heap_last g) size s.objects

  place_is : (start : Outside) (s : State) → Stands g start m o s → (b : Bool) → nat_lt count l.blocks ≡ b
      → block_place g size s.objects ≡ (if b then placed s else None)
  place_is start s st b e = ap (λ x. if x then placed s else None)
      (ap (λ n. nat_lt n g.sizes.budgets.blocks) (sym (blocks_counted s.objects m.blocks st.blocks_live) ∙ sym is)
      ∙ ap (nat_lt count) (sym limits.blocks) ∙ e)

  pub has_no_place : nat_lt count l.blocks ≡ false
      → Acts g m m o o (Ok None) (read_state (λ s. block_place g size s.objects))
  has_no_place e = reads g o m None (λ s. block_place g size s.objects) (λ start s st. place_is start s st false e)

  pub has_place : (r : Result (Option ℕ) Stop) → nat_lt count l.blocks ≡ true
      → IfOk r (λ place. IsFirstGap l size m.blocks place) → Fails r
      → Acts g m m o o r (read_state (λ s. block_place g size s.objects))
  has_place (Ok place) e h f = reads g o m place (λ s. block_place g size s.objects) (λ start s st.
      place_is start s st true e
      ∙ sym (gap_is_place s.objects m.blocks (heap_first g) (heap_last g) size st.blocks_live st.in_order
      (ap (λ n. n % 16) (sym limits.heap_first) ∙ h.whole))
      ∙ ap (λ x. gap_in x (heap_last g) (block_room size) m.blocks) (sym limits.heap_first)
      ∙ ap (λ x. gap_in l.heap_first x (block_room size) m.blocks) (sym limits.heap_last) ∙ sym h.is_first)
  has_place (Err (stopped_by.Exited status)) e h f = absurd f
  has_place (Err (stopped_by.Ended k line)) e h f = absurd f
  has_place (Err stopped_by.Paused) e h f = absurd f
  has_place (Err (stopped_by.Failed x)) e h f = record { by = λ start s st. tt }

-- a block more

pub adds_block : (g : Setting) (o : Outside) (l : Limits) (old new : Machine) (address size n : ℕ)
    (place : Option ℕ) → AreLimits l g → l.heap_first % 16 ≡ 0
    → place ≡ gap_in l.heap_first l.heap_last (block_room size) old.blocks → place ≡ Some address
    → new.blocks ≡ with_gap_filled l.heap_first l.heap_last (block_room size) old.blocks → n ≡ length old.store
    → new.store ≡ with_new Allocated address size old.store
    → new ≡ record old { store = new.store; blocks = new.blocks }
    → Acts g old new o o (Ok n) (add_block address size)
adds_block g o l old new address size n place limits whole found is filled count added same =
    let more : State → State = λ s. record s { objects = with_new Allocated address size s.objects } in
    let gap : gap_in (heap_first g) (heap_last g) (block_room size) old.blocks ≡ Some address =
    ap (λ x. gap_in x (heap_last g) (block_room size) old.blocks) (sym limits.heap_first)
    ∙ ap (λ x. gap_in l.heap_first x (block_room size) old.blocks) (sym limits.heap_last) ∙ sym found ∙ is in
    let blocks : new.blocks ≡ with_gap_filled (heap_first g) (heap_last g) (block_room size) old.blocks =
    filled ∙ ap (λ x. with_gap_filled x l.heap_last (block_room size) old.blocks) limits.heap_first
    ∙ ap (λ x. with_gap_filled (heap_first g) x (block_room size) old.blocks) limits.heap_last in
    then_acts g old old new o o o (Ok n) n (Ok n) (read_state (λ s. length s.objects))
    (λ number. change more >> done number) refl
    (reads g o old n (λ s. length s.objects)
    (λ start s st. sym (length_kept s.objects) ∙ sym (ap length st.objects_are) ∙ sym count))
    (then_acts g old new new o o o (Ok tt) tt (Ok n) (change more) (λ _. done n) refl
    (alters_blocks g o old new (with_new Allocated address size) same
    (λ objects e. added ∙ ap (with_new Allocated address size) e ∙ sym (kept_new Allocated address size objects))
    (λ objects e live. subst (λ bs. AreLive (with_new Allocated address size objects) bs) (sym blocks)
    (filled_live (heap_first g) (heap_last g) size address objects old.blocks gap live))
    (λ order. subst (λ bs. AreInOrder (heap_first g) (heap_last g + 1) bs) (sym blocks)
    (order_filled (heap_first g) (heap_last g) size old.blocks order (ap (λ n. n % 16) (sym limits.heap_first) ∙
    whole))))
    (done_acts g new o n))

-- what a pointer frees

module _ (g : Setting) (old new : Machine) (o : Outside) (number address line : ℕ) (r : Result ℕ Stop) where
  by_freed : (live start : Bool) → live ≡ (object_at old.store number).is_live
      → start ≡ is_block_start (object_at old.store number) address
      → Acts g old new o o r (choose live (freed_at number start line) (stop (Temporal line)))
      → Acts g old new o o r (find_freed number address line)
  by_freed live start e e' a = record {
    by = λ begun s st.
        let one = object_at s.objects number in
        let storage : one.storage ≡ (object_at old.store number).storage =
        sym (storage_at s.objects number) ∙ ap (λ os. (object_at os number).storage) (sym st.objects_are) in
        let place : one.address ≡ (object_at old.store number).address =
        sym (address_at s.objects number) ∙ ap (λ os. (object_at os number).address) (sym st.objects_are) in
        let life : one.is_live ≡ live =
        sym (life_at s.objects number) ∙ ap (λ os. (object_at os number).is_live) (sym st.objects_are) ∙ sym e in
        let starts : is_block_start one address ≡ start =
        ap (λ x. is_allocated x && (address == one.address)) storage
        ∙ ap (λ x. is_allocated (object_at old.store number).storage && (address == x)) place ∙ sym e' in
        subst (λ x. Does r x (Stands g begun new o))
        (sym (ap (λ b. choose b (freed_at number (is_block_start one address) line) (stop (Temporal line)) s) life
        ∙ ap (λ b. choose live (freed_at number b line) (stop (Temporal line)) s) starts))
        (a.by begun s st);
  }

  pub frees_live : (live start : Bool) → live ≡ (object_at old.store number).is_live
      → start ≡ is_block_start (object_at old.store number) address → live ≡ true
      → Acts g old new o o r (freed_at number start line) → Acts g old new o o r (find_freed number address line)
  frees_live live start e e' is a = by_freed live start e e' (same_acts g old new o o r (freed_at number start line) _
      (ap (λ b. choose b (freed_at number start line) (stop (Temporal line))) is) a)

pub frees_dead : (g : Setting) (m : Machine) (o : Outside) (number address line : ℕ) (live : Bool)
    → live ≡ (object_at m.store number).is_live → live ≡ false
    → Acts {A = ℕ} g m m o o (Err (stopped_by.Ended cause.Temporal line)) (find_freed number address line)
frees_dead g m o number address line live e is =
    by_freed g m m o number address line (Err (stopped_by.Ended cause.Temporal line)) live
    (is_block_start (object_at m.store number) address) e refl
    (same_acts g m m o o (Err (stopped_by.Ended cause.Temporal line)) (stop (Temporal line)) _
    (ap (λ b. choose b (freed_at number (is_block_start (object_at m.store number) address) line)
    (stop (Temporal line))) is)
    (record { by = λ start s st. record { state = s; holds = st; comes = refl } }))

-- by the tag of the pointer
pub frees_by : (g : Setting) (old new : Machine) (o : Outside) (p : Value) (line : ℕ) (t : Tag) (r : Result ℕ Stop)
    → p.tag ≡ t → Acts g old new o o r (freed_by t p.word line) → Acts g old new o o r (freed p line)
frees_by g old new o p line t r e a =
    same_acts g old new o o r (freed_by t p.word line) _ (ap (λ x. freed_by x p.word line) e) a

-- by whether it is null
module _ (g : Setting) (o : Outside) (p : Value) (line : ℕ) where
  pub frees_nothing : (m : Machine) (v : Value) → is_zero p ≡ true → v ≡ integer 0
      → Acts g m m o o (Ok v) (free p line)
  frees_nothing m v e same = same_acts g m m o o (Ok v) (done v) _
      (ap (λ b. choose b (done (integer 0)) (free_some p line)) e ∙ ap (λ x. done x) (sym same)) (done_acts g m o v)

  pub frees_something : (old new : Machine) (r : Result Value Stop) → is_zero p ≡ false
      → Acts g old new o o r (free_some p line) → Acts g old new o o r (free p line)
  frees_something old new r e a = same_acts g old new o o r (free_some p line) _
      (ap (λ b. choose b (done (integer 0)) (free_some p line)) e) a

-- a block of another size

pub reads_least : (g : Setting) (m : Machine) (o : Outside) (n size room lesser : ℕ) → room ≡ (object_at m.store n).size
    → lesser ≡ min size room
    → Acts g m m o o (Ok lesser) (read_state (λ s. min size (object_at s.objects n).size))
reads_least g m o n size room lesser e e' = reads g o m lesser (λ s. min size (object_at s.objects n).size)
    (λ start s st. ap (min size) (sym (size_at s.objects n) ∙ ap (λ os. (object_at os n).size) (sym st.objects_are)
    ∙ sym e) ∙ sym e')

module _ (g : Setting) (old new : Machine) (o : Outside) (p size : Value) (line : ℕ) (r : Result Value Stop) where
  pub resizes_null : is_zero p ≡ true → Acts g old new o o r (allocate g size.word line)
      → Acts g old new o o r (realloc g p size line)
  resizes_null e a = same_acts g old new o o r (allocate g size.word line) _
      (ap (λ b. choose b (allocate g size.word line) (resize g p size.word line)) e) a

  pub resizes_block : is_zero p ≡ false → Acts g old new o o r (resize g p size.word line)
      → Acts g old new o o r (realloc g p size line)
  resizes_block e a = same_acts g old new o o r (resize g p size.word line) _
      (ap (λ b. choose b (allocate g size.word line) (resize g p size.word line)) e) a

-- The routines of the library keep objects sound.
use Rattle.source_meaning.specs.Good.{function_count, After, Any, AreGiven, IsGiven, IsWord, Context, IsGood, IsTagged}
use Rattle.source_meaning.specs.Good.{Leaves, OnValue, Sure}
use Rattle.std.proofs.Common.{◌≡◌, ℕ, ◌+◌, ◌*◌, ◌%◌, ◌^◌, ◌≤◌, ◌<◌, List, [], ◌∷◌, Bool, true, false, ◌&&◌, Option}
use Rattle.std.proofs.Common.{Some, None, length, min, if◌then◌else◌, refl, sym, ap, ◌∙◌, subst, arith, nat_lt}
use Rattle.std.proofs.lemmas.Bool.{ltb-true, ltb-false}
use Rattle.addr_map.specs.Places.{MapSizes, AreMapped, region_start, region_end}
use Rattle.addr_map.specs.declared.region.Region.TheVariants.{Heap as HeapRegion}
use Rattle.addr_map.proofs.Order.{ends_low, starts_whole}
use Rattle.sb_base.specs.declared.ending.Ending.TheVariants.{BadFree}
use Rattle.obj_memory.specs.declared.int_type.IntType.TheVariants.{Char, Int}
use Rattle.obj_memory.specs.declared.value.Scalar.TheVariants.{Integer, Pointer}
use Rattle.c_tree.specs.declared.expression.Kind.{Kind}
use Rattle.c_tree.specs.declared.expression.Kind.TheVariants.{Void, Scalar as OfScalar}
use Rattle.c_tree.specs.Kinds.{routine_signature}
use Rattle.obj_memory.specs.declared.value.Place.{Place}
use Rattle.obj_memory.specs.declared.value.Tag.{Tag}
use Rattle.obj_memory.specs.declared.value.Tag.TheVariants.{Untagged, OfFunction, OfObject}
use Rattle.obj_memory.specs.declared.value.Value.{Value}
use Rattle.obj_memory.specs.declared.object.Storage.{Storage}
use Rattle.obj_memory.specs.declared.object.Storage.TheVariants.{Static, Automatic, Allocated}
use Rattle.obj_memory.specs.Objects.{ObjectState, Objects, object_at, with_new, with_dead, pointer_to}
use Rattle.obj_memory.specs.Integers.{fit}
use Rattle.obj_memory.specs.Access.{move_range}
use Rattle.obj_memory.specs.Heap.{is_allocated, block_room, object_room, block_count, least_place}
use Rattle.obj_memory.specs.Sound.{IsPlace, IsBlockPlace, DoNotMeet, IsClearOf}
use Rattle.obj_memory.proofs.Soundness.{sound_new, sound_dead, sound_moved}
use Rattle.obj_memory.proofs.Keeping.{keeps_moved}
use Rattle.obj_memory.proofs.Continuing.{continues_moved}
use Rattle.obj_memory.proofs.Making.{new_last}
use Rattle.obj_memory.proofs.Placing.{least_place_found}
use Rattle.obj_memory.proofs.Judging.{sound_pointer}
use Rattle.c_tree.specs.declared.expression.Routine.{Routine}
use Rattle.c_tree.specs.declared.expression.Routine.TheVariants.{Malloc, Calloc, Free, Realloc, Memcpy, Memmove, Memset}
use Rattle.c_tree.specs.declared.expression.Routine.TheVariants.{Memcmp, Strlen, Strcmp, Strcpy, Strncpy, Strcat}
use Rattle.c_tree.specs.declared.expression.Routine.TheVariants.{Strchr, Putchar, Getchar, Puts, Exit, Abort}
use Rattle.source_meaning.specs.State.{State, Run, ◌>>=◌, ◌>>◌, done, choose, read_state, change, Setting}
use Rattle.source_meaning.specs.Places.{heap_first, heap_last}
use Rattle.source_meaning.specs.Actions.{integer, is_zero, make_object}
use Rattle.source_meaning.specs.Heap.{tally_blocks, block_place, make_block, allocate, bad_free, is_block_start}
use Rattle.source_meaning.specs.Heap.{freed_object, freed_by, freed, release, free, calloc, move_block, replace_block}
use Rattle.source_meaning.specs.Heap.{realloc}
use Rattle.source_meaning.specs.Library.{putchar, next_byte, argument, routine}
use Rattle.source_meaning.specs.Strings.{reach}
use Rattle.source_meaning.specs.Keeping.{IsDirect}
use Rattle.source_meaning.proofs.Holding.{beyond, length-new, length-dead, lives_same, lives_kept, lives_new}
use Rattle.source_meaning.proofs.Holding.{lives_dead_block}
use Rattle.source_meaning.proofs.Sure.{IsStable, sure_frame, sure_beside, sure_objects, stable_tag, stable_tagged}
use Rattle.source_meaning.proofs.Sure.{sure_on, sure_weak, sure_any, sure_post, sure_done, sure_stop, sure_read}
use Rattle.source_meaning.proofs.Sure.{sure_tally, sure_choose, good_on}
use Rattle.source_meaning.proofs.SureActions.{stable_beside, sure_located, sure_put_bytes, sure_take_key}
use Rattle.source_meaning.proofs.SureBytes.{minus_one_is, sure_memmove, sure_memset, sure_memcmp, sure_strlen}
use Rattle.source_meaning.proofs.SureBytes.{sure_compare_within, sure_strcpy, sure_strncpy, sure_strcat}
use Rattle.source_meaning.proofs.SureBytes.{sure_seek_within, sure_puts}
use Rattle.source_meaning.proofs.Laying.{low_word, fresh_live, fresh_size, low_new, low_dead}
use Rattle.source_meaning.proofs.Separating.{separate_dead, separate_block, ends_same, ends_as_many, ends_block}

-- objects that are made and that die

-- where a block may be placed: in the heap, and clear of other blocks with their room
pub record IsAt (sizes : MapSizes) (address size : ℕ) (o : Objects) : Type 0 where
  pub mapped : AreMapped sizes
  pub aligned : address % 16 ≡ 0
  pub low : address + size ≤ 1610612736
  pub start : region_start sizes HeapRegion ≤ address
  pub end : address + block_room size ≤ region_end sizes HeapRegion
  pub clear : (n : ℕ) → (object_at o n).is_live ≡ true → is_allocated (object_at o n).storage ≡ true
      → DoNotMeet address (block_room size) (object_at o n).address
      (object_room (object_at o n).storage (object_at o n).size)

with_block : {sc : Context} (address size : ℕ) (s : State) → IsGood sc s → IsAt sc.sizes address size s.objects
    → Leaves sc s (record s { objects = with_new Allocated address size s.objects })
with_block {sc = sc} address size s good p =
    let lives = lives_new Allocated address size s.objects in
    record {
      good = good_on sc s (with_new Allocated address size s.objects) good lives
          (sound_new Allocated address size s.objects good.kept.sound p.aligned)
          (low_new Allocated address size s.objects p.low good.low)
          (separate_block sc.sizes s.stacked address size s.objects p.mapped good.separate p.start p.end p.clear);
      lives = lives;
      frame = refl;
      ended = ends_block address size s.objects;
    }

-- a new object of some size
pub record IsFresh (count n : ℕ) (objects : Objects) : Type 0 where
  pub made : n < length objects
  pub live : (object_at objects n).is_live ≡ true
  pub size : (object_at objects n).size ≡ count

fresh_new : (storage : Storage) (address size : ℕ) (objects : Objects)
    → IsFresh size (length objects) (with_new storage address size objects)
fresh_new storage address size objects =
    let last = new_last storage address size objects in
    record {
      made = omega (arith, length-new storage address size objects);
      live = ap (λ (o : ObjectState). o.is_live) last ∙ fresh_live storage address size;
      size = ap (λ (o : ObjectState). o.size) last ∙ fresh_size storage address size;
    }

-- a null pointer, or one to some bytes of a live object
abbrev pub IsPointerTo : (functions : ℕ) (size : ℕ) → Value → Objects → Type 0
IsPointerTo functions size v o = IsTagged functions v o × (is_zero v ≡ false → IsDirect o v size)
    × IsWord functions v.word

pointer_word : (functions n : ℕ) (objects : Objects)
    → (object_at objects n).address + (object_at objects n).size < 2 ^ 64 → IsWord functions (pointer_to n objects).word
unfolding pointer_to
pointer_word functions n objects low = λ _. omega (arith, low)

fresh_direct : (size n : ℕ) (objects : Objects) → IsFresh size n objects → IsDirect objects (pointer_to n objects) size
unfolding pointer_to
fresh_direct size n objects h = record {
  object = n;
  bounds = _;
  tag = refl;
  made = h.made;
  live = h.live;
  start = omega arith;
  end = omega (arith, h.size);
}

-- a state with one more block of the heap
abbrev with_block_at : (address size : ℕ) → State → State
with_block_at address size s = record s { objects = with_new Allocated address size s.objects }

made : {sc : Context} (address size : ℕ)
    → Sure sc (IsAt sc.sizes address size)
    (do number ← read_state (λ s. length s.objects); change (with_block_at address size); done number) (IsFresh size)
made address size = record
    { by = λ s good p. (with_block address size s good p, fresh_new Allocated address size s.objects) }

pub sure_make_object : {sc : Context} (address size : ℕ)
    → Sure sc (IsAt sc.sizes address size) (make_object Allocated address size) (IsFresh size)
sure_make_object address size = sure_on (sure_tally (1 + size)) (λ _. made address size)

pub sure_dead : {sc : Context} (n : ℕ)
    → Sure sc (λ o. is_allocated (object_at o n).storage ≡ true)
    (change (λ s. record s { objects = with_dead n s.objects })) (λ _. Any)
sure_dead {sc = sc} n = record {
  by = λ s good p.
      let lives = lives_dead_block n s.objects p in (
        record {
          good = good_on sc s (with_dead n s.objects) good lives (sound_dead n s.objects good.kept.sound)
              (low_dead n s.objects good.low)
              (separate_dead sc.sizes s.stacked n s.objects good.separate);
          lives = lives;
          frame = refl;
          ended = ends_as_many s.objects (with_dead n s.objects) (length-dead n s.objects);
        },
        tt,
      );
}

sure_tally_blocks : {sc : Context} {P : Objects → Type 0} → Sure sc P tally_blocks (λ _. P)
sure_tally_blocks {P = P} = sure_on (sure_read {Q = λ _. P} {f = λ s. block_count s.objects} (λ s good p. p))
    (λ count. sure_tally (1 + count))

-- allocation

size_fits : (size : ℕ) → size ≤ block_room size
size_fits size = omega arith

room_is_some : (size : ℕ) → 16 ≤ block_room size
room_is_some size = omega arith

room_of_block : (storage : Storage) (size : ℕ) → is_allocated storage ≡ true
    → object_room storage size ≡ block_room size
room_of_block Static size e = absurd (cc)
room_of_block Automatic size e = absurd (cc)
room_of_block Allocated size e = refl

both_hold : (a b : Bool) → a ≡ true → b ≡ true → (a && b) ≡ true
both_hold true true e f = refl
both_hold true false e f = f
both_hold false b e f = e

module _ (g : Setting) (mapped : AreMapped g.sizes) where
  clear_apart : (address size : ℕ) (o : ObjectState) → is_allocated o.storage ≡ true
      → IsClearOf address (block_room size) o
      → DoNotMeet address (block_room size) o.address (object_room o.storage o.size)
  clear_apart address size o block h = subst (λ room. DoNotMeet address (block_room size) o.address room)
      (sym (room_of_block o.storage o.size block)) h

  placed_at : (sizes : MapSizes) → g.sizes ≡ sizes → (size : ℕ) (o : Objects) (address : ℕ)
      → IsBlockPlace (heap_first g) (heap_last g) size o address → IsAt sizes address size o
  placed_at sizes same size o address h =
      let first = starts_whole g.sizes mapped HeapRegion in
      let low = ends_low g.sizes mapped HeapRegion in
      let some = room_is_some size in
      let fits = size_fits size in
      subst (λ m. IsAt m address size o) same (record {
        mapped = mapped;
        aligned = omega (arith, h.is_step, first);
        low = omega (arith, h.in_heap, low, fits);
        start = omega (arith, h.is_step);
        end = omega (arith, h.in_heap, h.is_step, some);
        clear = λ n live block. clear_apart address size (object_at o n) block
            (h.clear n (both_hold (is_allocated (object_at o n).storage) (object_at o n).is_live block live));
      })

  place_of : (b : Bool) (p : Option ℕ) (address : ℕ) → (if b then p else None) ≡ Some address → p ≡ Some address
  place_of true p address e = e
  place_of false p address e = absurd (cc)

  sure_make_block : {sc : Context} → g.sizes ≡ sc.sizes → (size line : ℕ) (place : Option ℕ)
      → Sure sc (λ o. block_place g size o ≡ place) (make_block g size line place)
      (IsPointerTo (function_count sc) size)
  sure_make_block least size line None = sure_done {a = integer 0}
      (λ o p. (tt, (λ (e : true ≡ false). absurd cc), λ _. omega arith))
  sure_make_block {sc = sc} least size line (Some address) =
      sure_on (sure_weak {P = IsAt sc.sizes address size}
      (λ o e. placed_at sc.sizes least size o address
      (least_place_found (heap_first g) (heap_last g) size o address
      (place_of (nat_lt (block_count o) g.sizes.budgets.blocks) (least_place (heap_first g) (heap_last g) size o)
      address e)))
      (sure_take_key g line)) (λ _.
      sure_on (sure_make_object address size) (λ n.
      sure_read {f = λ s. pointer_to n s.objects}
      (λ s good p. (
        sound_pointer _ n s.objects p.made (low_word s.objects n good.low),
        (λ _. fresh_direct size n s.objects p),
        pointer_word _ n s.objects (low_word s.objects n good.low),
      ))))

  pub sure_allocate : {sc : Context} → g.sizes ≡ sc.sizes → (size line : ℕ)
      → Sure sc Any (allocate g size line) (IsPointerTo (function_count sc) size)
  sure_allocate least size line =
      sure_on sure_tally_blocks (λ _.
      sure_on (sure_read {Q = λ place o. block_place g size o ≡ place} {f = λ s. block_place g size s.objects}
      (λ s good p. refl)) (λ place. sure_make_block least size line place))

-- release

sure_bad_free : {A : Type 0} {sc : Context} {P : Objects → Type 0} {Q : A → Objects → Type 0} (line : ℕ)
    → Sure sc P (bad_free {A = A} line) Q
sure_bad_free {P = P} line = sure_on (sure_tally_blocks {P = P}) (λ _. sure_stop {e = BadFree line})

-- the block that is freed
abbrev pub IsBlock : (n : ℕ) → Objects → Type 0
IsBlock n o = is_allocated (object_at o n).storage ≡ true

both_true : (a b : Bool) → (a && b) ≡ true → a ≡ true
both_true true b e = refl
both_true false b e = e

start_by : {sc : Context} (n : ℕ) (o : ObjectState) (line : ℕ) (b : Bool) → (b ≡ true → is_allocated o.storage ≡ true)
    → Sure sc (λ objects. object_at objects n ≡ o) (choose b (done n) (bad_free line)) IsBlock
start_by n o line true w = sure_done (λ objects e. ap (λ x. is_allocated x.storage) e ∙ w refl)
start_by n o line false w = sure_bad_free line

sure_freed_object : {sc : Context} (n : ℕ) (o : ObjectState) (address line : ℕ)
    → Sure sc (λ objects. object_at objects n ≡ o) (freed_object n o address line) IsBlock
sure_freed_object n o address line = sure_choose o.is_live
    (start_by n o line (is_block_start o address) (both_true (is_allocated o.storage) _)) sure_stop

sure_freed_by : {sc : Context} (t : Tag) (address line : ℕ) → Sure sc Any (freed_by t address line) IsBlock
sure_freed_by Untagged address line = sure_bad_free line
sure_freed_by (OfFunction f) address line = sure_bad_free line
sure_freed_by (OfObject n b) address line =
    sure_on (sure_read {Q = λ o objects. object_at objects n ≡ o} {f = λ s. object_at s.objects n} (λ s good p. refl))
    (λ o. sure_freed_object n o address line)

pub sure_freed : {sc : Context} (p : Value) (line : ℕ) → Sure sc Any (freed p line) IsBlock
sure_freed p line = sure_freed_by p.tag p.word line

pub sure_release : {sc : Context} (n : ℕ) → Sure sc (IsBlock n) (release n) (λ _. Any)
sure_release n = sure_on (sure_tally_blocks {P = IsBlock n}) (λ _. sure_dead n)

sure_free : {sc : Context} (p : Value) (line : ℕ) → Sure sc Any (free p line) (IsGiven (function_count sc) Void)
sure_free p line =
    sure_choose (is_zero p) (sure_done (λ o h. (tt, λ _. omega arith)))
    (sure_on (sure_freed p line)
    (λ n. sure_on (sure_release n) (λ _. sure_done {a = integer 0} (λ o h. (tt, λ _. omega arith)))))

-- a block in place of another

pub sure_choose_by : {A : Type 0} {sc : Context} {P : Objects → Type 0} {Q : A → Objects → Type 0} (b : Bool)
    {r q : Run A}
    → Sure sc P r Q → (b ≡ false → Sure sc P q Q) → Sure sc P (choose b r q) Q
sure_choose_by true h g = h
sure_choose_by false h g = g refl

block_made : (n : ℕ) (o : Objects) → IsBlock n o → n < length o
block_made n o h = by (nat_lt n (length o)) refl
  where
    by : (b : Bool) → nat_lt n (length o) ≡ b → n < length o
    by true e = ltb-true n (length o) e
    by false e = absurd (let none : is_allocated (object_at o n).storage
        ≡ false = ap (λ (x : ObjectState). is_allocated x.storage) (beyond o n (ltb-false n (length o) e)) in let both :
        true ≡ false = sym h ∙ none in cc)

stable_block : (n : ℕ) → IsStable (IsBlock n)
stable_block n old new l h = ap is_allocated (l.continues.storage n (block_made n old h)) ∙ h

stable_place : (p : Place) (size : ℕ) → IsStable (λ o. IsPlace o p size)
stable_place p size old new l h = record {
  made = omega (arith, h.made, l.continues.longer);
  room = let z = l.continues.size p.object h.made in omega (arith, z, h.room);
}

-- the start of a block
abbrev start_of : ℕ → Place
start_of n = record { object = n; offset = 0 }

block_place_less : (n size : ℕ) (o : Objects) → IsBlock n o → IsPlace o (start_of n) (min size (object_at o n).size)
block_place_less n size o h = record { made = block_made n o h; room = omega arith }

place_less : (p : Place) (n m : ℕ) (o : Objects) → m ≤ n → IsPlace o p n → IsPlace o p m
place_less p n m o le h = record { made = h.made; room = omega (arith, le, h.room) }

sure_move_block : {sc : Context} (n : ℕ) (new : Value) (size line : ℕ)
    → Sure sc (λ o. IsBlock n o × (IsTagged (function_count sc) new o × IsDirect o new size))
    (move_block n new size line) (λ _ o. IsBlock n o × IsTagged (function_count sc) new o)
sure_move_block {sc = sc} n new size line =
    sure_on (sure_weak (λ o x. ((x.0, x.1.0), x.1))
    (sure_located {P = λ o. IsBlock n o × IsTagged (function_count sc) new o} OnValue size new line)) (λ place.
    sure_on (sure_read {Q = λ lesser o. (IsPlace o place lesser × IsPlace o (start_of n) lesser)
    × (IsBlock n o × IsTagged (function_count sc) new o)} {f = λ s. min size (object_at s.objects n).size}
    (λ s good x. (
      (
        place_less place size (min size (object_at s.objects n).size) s.objects (omega arith) x.1.0.place,
        block_place_less n size s.objects x.0.0,
      ),
      x.0,
    ))) (λ lesser.
    sure_on (sure_tally lesser) (λ _.
    sure_objects (move_range lesser place (start_of n)) (keeps_moved lesser place (start_of n))
    (continues_moved lesser place (start_of n))
    (λ o x sound. sound_moved lesser place (start_of n) o sound x.0.0 x.0.1)
    (λ o x. let l = lives_kept o (move_range lesser place (start_of n) o) (continues_moved lesser place (start_of n) o)
    (keeps_moved lesser place (start_of n) o) in (
      stable_block n o (move_range lesser place (start_of n) o) l x.1.0,
      stable_tag _ new o
          (move_range lesser place (start_of n) o) l x.1.1,
    )))))

-- input and output

-- a byte is an int
byte_is : (x : ℕ) → fit Int (x % 256) ≡ x % 256
unfolding fit
byte_is x = grind arith

sure_putchar : {sc : Context} {P : Objects → Type 0} (c : Value)
    → Sure sc P (putchar c) (IsGiven (function_count sc) (OfScalar (Integer Int)))
sure_putchar {P = P} c = sure_on (sure_put_bytes {P = P} (c.word % 256 ∷ []))
    (λ _. sure_done {a = integer (c.word % 256)} (λ o h. (tt, (refl, byte_is c.word))))

byte_by : (sc : Context) (bytes : List ℕ) (s : State) → IsGood sc s
    → After sc s (IsGiven (function_count sc) (OfScalar (Integer Int))) (next_byte bytes s)
byte_by sc [] s good = (
  record { good = good; lives = lives_same s.objects; frame = refl; ended = ends_same s.objects },
  (tt, (refl, minus_one_is)),
)
byte_by sc (b ∷ bs) s good = (
  record { good = good; lives = lives_same s.objects; frame = refl; ended = ends_same s.objects },
  (tt, (refl, byte_is b)),
)

module _ (g : Setting) (mapped : AreMapped g.sizes) {sc : Context} (least : g.sizes ≡ sc.sizes) where
  sure_malloc : (size line : ℕ) → Sure sc Any (allocate g size line) (IsGiven (function_count sc) (OfScalar Pointer))
  sure_malloc size line = sure_post (λ v o x. (x.0, x.2)) (sure_allocate g mapped least size line)

  sure_calloc : (count size : Value) (line : ℕ)
      → Sure sc Any (calloc g count size line) (IsGiven (function_count sc) (OfScalar Pointer))
  sure_calloc count size line = sure_choose _ (sure_malloc (count.word * size.word) line)
      (sure_done {a = integer 0} (λ o h. (tt, λ _. omega arith)))

  sure_replace_block : (n size line : ℕ)
      → Sure sc (IsBlock n) (replace_block g n size line) (IsGiven (function_count sc) (OfScalar Pointer))
  sure_replace_block n size line =
      sure_on (sure_beside (stable_block n) (sure_allocate g mapped least size line)) (λ new.
      sure_choose_by (is_zero new) (sure_done {a = new} (λ o x. (x.1.0, x.1.2))) (λ e.
      sure_on (sure_weak (λ o x. (x.1.2, (x.0, (x.1.0, x.1.1 e))))
      (sure_frame {P0 = λ o. IsWord (function_count sc) new.word} (λ old later l x. x)
      (sure_move_block n new size line))) (λ _.
      sure_on (sure_weak (λ o x. ((x.1.1, x.0), x.1.0))
      (sure_frame (stable_beside {A = IsWord (function_count sc) new.word} _ new) (sure_release n)))
      (λ _. sure_done {a = new} (λ o x. x.0)))))

  sure_realloc : (old size : Value) (line : ℕ)
      → Sure sc Any (realloc g old size line) (IsGiven (function_count sc) (OfScalar Pointer))
  sure_realloc old size line = sure_choose (is_zero old) (sure_malloc size.word line)
      (sure_on (sure_freed old line) (λ n. sure_replace_block n size.word line))

-- every routine

-- what is known of the arguments stays known
stable_given : (functions : ℕ) (kinds : List Kind) (vs : List Value) → IsStable (AreGiven functions kinds vs)
stable_given functions kinds vs old new l h = (stable_tagged functions vs old new l h.0, h.1)

module _ (g : Setting) (mapped : AreMapped g.sizes) {sc : Context} (least : g.sizes ≡ sc.sizes) where
  pub sure_routine : (r : Routine) (vs : List Value) (line : ℕ)
      → Sure sc (AreGiven (function_count sc) (routine_signature r).parameters vs) (routine g r vs line)
      (IsGiven (function_count sc) (routine_signature r).result)
  sure_routine Malloc vs line = sure_any (sure_malloc g mapped least (argument 0 vs).word line)
  sure_routine Calloc vs line = sure_any (sure_calloc g mapped least (argument 0 vs) (argument 1 vs) line)
  sure_routine Free vs line = sure_any (sure_free (argument 0 vs) line)
  sure_routine Realloc vs line = sure_any (sure_realloc g mapped least (argument 0 vs) (argument 1 vs) line)
  sure_routine Memcpy vs line = sure_memmove (stable_given (function_count sc) (routine_signature Memcpy).parameters vs)
      (argument 0 vs) (argument 1 vs) (argument 2 vs) line (λ o h. h.0 0) (λ o h. h.1 0) (λ o h. h.0 1)
  sure_routine Memmove vs line = sure_memmove
      (stable_given (function_count sc) (routine_signature Memmove).parameters vs) (argument 0 vs) (argument 1 vs)
      (argument 2 vs) line (λ o h. h.0 0) (λ o h. h.1 0) (λ o h. h.0 1)
  sure_routine Memset vs line = sure_memset (stable_given (function_count sc) (routine_signature Memset).parameters vs)
      (argument 0 vs) (argument 1 vs) (argument 2 vs) line (λ o h. h.0 0) (λ o h. h.1 0)
  sure_routine Memcmp vs line = sure_memcmp (argument 0 vs) (argument 1 vs) (argument 2 vs) line (λ o h. h.0 0)
      (λ o h. h.0 1)
  sure_routine Strlen vs line = sure_strlen (argument 0 vs) line (λ o h. h.0 0)
  sure_routine Strcmp vs line = sure_compare_within (reach (argument 0 vs)) (argument 0 vs) (argument 1 vs) line
      (λ o h. h.0 0) (λ o h. h.0 1)
  sure_routine Strcpy vs line = sure_strcpy (stable_given (function_count sc) (routine_signature Strcpy).parameters vs)
      (argument 0 vs) (argument 1 vs) line (λ o h. h.0 0) (λ o h. h.1 0) (λ o h. h.0 1)
  sure_routine Strncpy vs line = sure_strncpy
      (stable_given (function_count sc) (routine_signature Strncpy).parameters vs) (argument 0 vs) (argument 1 vs)
      (argument 2 vs) line (λ o h. h.0 0) (λ o h. h.1 0) (λ o h. h.0 1)
  sure_routine Strcat vs line = sure_strcat (stable_given (function_count sc) (routine_signature Strcat).parameters vs)
      (argument 0 vs) (argument 1 vs) line (λ o h. h.0 0) (λ o h. h.1 0) (λ o h. h.0 1)
  sure_routine Strchr vs line = sure_seek_within (reach (argument 0 vs)) (fit Char (argument 1 vs).word) (argument 0 vs)
      line (λ o h. h.0 0) (λ o h. h.1 0)
  sure_routine Putchar vs line = sure_putchar (argument 0 vs)
  sure_routine Getchar vs line = record { by = λ s good p. byte_by sc s.input s good }
  sure_routine Puts vs line = sure_puts (argument 0 vs) line (λ o h. h.0 0)
  sure_routine Exit vs line = sure_stop
  sure_routine Abort vs line = sure_stop

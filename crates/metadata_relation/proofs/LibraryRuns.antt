-- What the routines of the library leave of their caller's state, and with which endings they end.
use Rattle.std.proofs.Common.{◌≡◌, ◌⊎◌, inl, inr, ℕ, zero, suc, ◌+◌, ◌*◌, ◌≤◌, ◌==◌, Bool, true, false, List, []}
use Rattle.std.proofs.Common.{◌∷◌, length, Option, Some, None, refl, ◌∙◌, arith, ltb-true}
use Rattle.std.specs.Prelude.{nat_lt}
use Rattle.sb_base.specs.declared.ending.Ending.{Ending}
use Rattle.sb_base.specs.declared.ending.Ending.TheVariants as ending
use Rattle.obj_memory.specs.declared.int_type.IntType.TheVariants.{Char}
use Rattle.obj_memory.specs.declared.judgement.Verdict.{Verdict}
use Rattle.obj_memory.specs.declared.judgement.Verdict.TheVariants.{Outside, Dead, Inside}
use Rattle.obj_memory.specs.declared.object.Storage.{Storage}
use Rattle.obj_memory.specs.declared.object.Storage.TheVariants.{Allocated}
use Rattle.obj_memory.specs.declared.value.Place.{Place}
use Rattle.obj_memory.specs.declared.value.Tag.{Tag}
use Rattle.obj_memory.specs.declared.value.Tag.TheVariants.{Untagged, OfFunction, OfObject}
use Rattle.obj_memory.specs.declared.value.Value.{Value}
use Rattle.obj_memory.specs.Heap.{block_count}
use Rattle.obj_memory.specs.Integers.{fit}
use Rattle.obj_memory.specs.Judgement.{moved, named}
use Rattle.obj_memory.specs.Objects.{ObjectState, Objects, pointer_to}
use Rattle.source_meaning.specs.State.{State, Outcome, Gives, Ended, Paused, Run, on, ◌>>=◌, ◌>>◌, done, stop, choose}
use Rattle.source_meaning.specs.State.{read_state, change, tally, Setting}
use Rattle.source_meaning.specs.Actions.{integer, is_zero, located, place_or_stop, take_key, make_object, move_bytes}
use Rattle.source_meaning.specs.Actions.{put_bytes}
use Rattle.source_meaning.specs.Bytes.{look, set_bytes}
use Rattle.source_meaning.specs.Heap.{tally_blocks, make_block, allocate, bad_free, freed_object, freed_by, freed}
use Rattle.source_meaning.specs.Heap.{is_block_start, release, free, calloc, move_block, replace_block, realloc, block_place}
use Rattle.source_meaning.specs.Library.{argument, routine}
use Rattle.source_meaning.specs.Memory.{memmove, memset, memcmp}
use Rattle.source_meaning.specs.Printing.{puts}
use Rattle.source_meaning.specs.Strings.{reach, scan_within, scan, strlen, compare_within, write_string, strcpy, strncpy}
use Rattle.source_meaning.specs.Strings.{strcat, seek_within}
use Rattle.source_meaning.specs.Working.{CountsBy, Counts}
use Rattle.runtime_functions.specs.declared.library.LibraryFunction.{LibraryFunction}
use Rattle.runtime_functions.specs.declared.library.LibraryFunction.TheVariants as library
use Rattle.runtime_functions.specs.declared.status.ReturnStatus.{ReturnStatus}
use Rattle.runtime_functions.specs.Library.{routine_of}
use Rattle.runtime_functions.specs.Status.{ending_at}
use Rattle.metadata_relation.specs.Blocks.{statuses_of}

-- ---- what a run does

-- one of some statuses tells an ending at a line
abbrev pub IsToldBy : List ReturnStatus → (line : ℕ) → Ending → Type 0
IsToldBy [] line e = ⊥
IsToldBy (k ∷ ks) line e = (ending_at k line ≡ Some e) ⊎ IsToldBy ks line e

-- variables, homes, the charge of calls and the object stack stay, no work is taken back, and no more keys were made than
-- may be
pub record KeepsCaller (budget : ℕ) (before after : State) : Type 0 where
  pub plain : after.plain ≡ before.plain
  pub frame : after.frame ≡ before.frame
  pub charged : after.charged ≡ before.charged
  pub stacked : after.stacked ≡ before.stacked
  pub turns : after.turns ≡ before.turns
  pub work : before.work ≤ after.work
  pub keys : before.keys ≤ budget → after.keys ≤ budget

abbrev pub ServesBy : {A : Type 0} → (budget line : ℕ) → List ReturnStatus → State → Outcome A → Type 0
ServesBy b l ks s (Gives a s') = KeepsCaller b s s'
ServesBy b l ks s (Ended e s') = IsToldBy ks l e × KeepsCaller b s s'
ServesBy b l ks s (Paused s') = ⊥

pub record Serves {A : Type 0} (budget line : ℕ) (statuses : List ReturnStatus) (run : Run A) : Type 0 where
  pub by : (s : State) → ServesBy budget line statuses s (run s)

-- what is given is so
abbrev pub GivesBy : {A : Type 0} → (A → Type 0) → Outcome A → Type 0
GivesBy Q (Gives a s') = Q a
GivesBy Q (Ended e s') = Unit {0}
GivesBy Q (Paused s') = Unit {0}

pub record GivesOnly {A : Type 0} (Q : A → Type 0) (run : Run A) : Type 0 where
  pub by : (s : State) → GivesBy Q (run s)

-- ---- one run after another

keeps_then : (b : ℕ) (s s1 s2 : State) → KeepsCaller b s s1 → KeepsCaller b s1 s2 → KeepsCaller b s s2
keeps_then b s s1 s2 p q =
    let first = p.work in
    let second = q.work in
    record {
      plain = q.plain ∙ p.plain;
      frame = q.frame ∙ p.frame;
      charged = q.charged ∙ p.charged;
      stacked = q.stacked ∙ p.stacked;
      turns = q.turns ∙ p.turns;
      work = omega arith;
      keys = λ le. q.keys (p.keys le);
    }

keeps_with : (b : ℕ) (s : State) (objects : Objects) (output : List ℕ) (n : ℕ)
    → KeepsCaller b s (record s { objects = objects; output = output; work = s.work + n })
keeps_with b s objects output n = record {
  plain = refl;
  frame = refl;
  charged = refl;
  stacked = refl;
  turns = refl;
  work = omega arith;
  keys = λ le. le;
}

keeps_objects : (b : ℕ) (s : State) (objects : Objects) → KeepsCaller b s (record s { objects = objects })
keeps_objects b s objects = record {
  plain = refl;
  frame = refl;
  charged = refl;
  stacked = refl;
  turns = refl;
  work = omega arith;
  keys = λ le. le;
}

keeps_output : (b : ℕ) (s : State) (output : List ℕ) → KeepsCaller b s (record s { output = output })
keeps_output b s output = record {
  plain = refl;
  frame = refl;
  charged = refl;
  stacked = refl;
  turns = refl;
  work = omega arith;
  keys = λ le. le;
}

keeps_same : (b : ℕ) (s : State) → KeepsCaller b s s
keeps_same b s = keeps_objects b s s.objects

serves_from : {A : Type 0} (b l : ℕ) (ks : List ReturnStatus) (s s1 : State) (o : Outcome A) → KeepsCaller b s s1
    → ServesBy b l ks s1 o → ServesBy b l ks s o
serves_from b l ks s s1 (Gives a s') p q = keeps_then b s s1 s' p q
serves_from b l ks s s1 (Ended e s') p q = (q.0, keeps_then b s s1 s' p q.1)
serves_from b l ks s s1 (Paused s') p q = q

serves_on_by : {A B : Type 0} (b l : ℕ) (ks : List ReturnStatus) (Q : A → Type 0) (s : State) (o : Outcome A)
    (f : A → Run B) → ServesBy b l ks s o → GivesBy Q o → ((a : A) → Q a → Serves b l ks (f a))
    → ServesBy b l ks s (on o f)
serves_on_by b l ks Q s (Gives a s') f p i g = serves_from b l ks s s' (f a s') p ((g a i).by s')
serves_on_by b l ks Q s (Ended e s') f p i g = p
serves_on_by b l ks Q s (Paused s') f p i g = p

gives_any : {A : Type 0} (o : Outcome A) → GivesBy (λ a. Unit {0}) o
gives_any (Gives a s) = tt
gives_any (Ended e s) = tt
gives_any (Paused s) = tt

serves_on : {A B : Type 0} {b l : ℕ} {ks : List ReturnStatus} {r : Run A} {f : A → Run B} → Serves b l ks r
    → ((a : A) → Serves b l ks (f a)) → Serves b l ks (r >>= f)
serves_on {b = b} {l = l} {ks = ks} {r = r} {f = f} h g =
    record { by = λ s. serves_on_by b l ks (λ a. Unit {0}) s (r s) f (h.by s) (gives_any (r s)) (λ a i. g a) }

serves_on_given : {A B : Type 0} {b l : ℕ} {ks : List ReturnStatus} {r : Run A} {f : A → Run B} (Q : A → Type 0)
    → Serves b l ks r → GivesOnly Q r → ((a : A) → Q a → Serves b l ks (f a)) → Serves b l ks (r >>= f)
serves_on_given {b = b} {l = l} {ks = ks} {r = r} {f = f} Q h i g =
    record { by = λ s. serves_on_by b l ks Q s (r s) f (h.by s) (i.by s) g }

serves_then : {A B : Type 0} {b l : ℕ} {ks : List ReturnStatus} {r : Run A} {q : Run B} → Serves b l ks r
    → Serves b l ks q → Serves b l ks (r >> q)
serves_then {b = b} {l = l} {ks = ks} {r = r} {q = q} h g =
    record { by = λ s. serves_on_by b l ks (λ a. Unit {0}) s (r s) (λ _. q) (h.by s) (gives_any (r s)) (λ a i. g) }

serves_done : {A : Type 0} {b l : ℕ} {ks : List ReturnStatus} {a : A} → Serves b l ks (done a)
serves_done {b = b} = record { by = λ s. keeps_same b s }

serves_stop : {A : Type 0} {b l : ℕ} {ks : List ReturnStatus} {e : Ending} → IsToldBy ks l e
    → Serves b l ks (stop {A = A} e)
serves_stop {b = b} told = record { by = λ s. (told, keeps_same b s) }

serves_read : {A : Type 0} {b l : ℕ} {ks : List ReturnStatus} {f : State → A} → Serves b l ks (read_state f)
serves_read {b = b} = record { by = λ s. keeps_same b s }

serves_change : {b l : ℕ} {ks : List ReturnStatus} {f : State → State} → ((s : State) → KeepsCaller b s (f s))
    → Serves b l ks (change f)
serves_change h = record { by = λ s. h s }

serves_tally : {b l : ℕ} {ks : List ReturnStatus} (n : ℕ) → Serves b l ks (tally n)
serves_tally {b = b} n = record { by = λ s. keeps_with b s s.objects s.output n }

serves_choose : {A : Type 0} {b l : ℕ} {ks : List ReturnStatus} (c : Bool) {r q : Run A} → Serves b l ks r
    → Serves b l ks q → Serves b l ks (choose c r q)
serves_choose true h g = h
serves_choose false h g = g

ruleset serves_basic = (
  serves_on,
  serves_then,
  serves_done,
  serves_read,
  serves_tally,
  serves_choose,
  serves_change,
  keeps_objects,
  keeps_output,
)

-- the same of what is given
gives_on_by : {A B : Type 0} (Q : B → Type 0) (o : Outcome A) (f : A → Run B) → ((a : A) → GivesOnly Q (f a))
    → GivesBy Q (on o f)
gives_on_by Q (Gives a s') f g = (g a).by s'
gives_on_by Q (Ended e s') f g = tt
gives_on_by Q (Paused s') f g = tt

gives_on : {A B : Type 0} {Q : B → Type 0} (r : Run A) {f : A → Run B} → ((a : A) → GivesOnly Q (f a))
    → GivesOnly Q (r >>= f)
gives_on {Q = Q} r {f = f} g = record { by = λ s. gives_on_by Q (r s) f g }

gives_then : {A B : Type 0} {Q : B → Type 0} (r : Run A) {q : Run B} → GivesOnly Q q → GivesOnly Q (r >> q)
gives_then {Q = Q} r {q = q} g = record { by = λ s. gives_on_by Q (r s) (λ _. q) (λ _. g) }

gives_done : {A : Type 0} {Q : A → Type 0} {a : A} → Q a → GivesOnly Q (done a)
gives_done h = record { by = λ s. h }

gives_choose : {A : Type 0} {Q : A → Type 0} (c : Bool) {r q : Run A} → GivesOnly Q r → GivesOnly Q q
    → GivesOnly Q (choose c r q)
gives_choose true h g = h
gives_choose false h g = g

-- ---- objects and bytes

serves_move : {b l : ℕ} {ks : List ReturnStatus} (size : ℕ) (d s : Place) → Serves b l ks (move_bytes size d s)
serves_move size d s = search serves_basic

serves_set : {b l : ℕ} {ks : List ReturnStatus} (bytes : List ℕ) (p : Place) → Serves b l ks (set_bytes bytes p)
serves_set bytes p = search serves_basic

serves_put : {b l : ℕ} {ks : List ReturnStatus} (bytes : List ℕ) → Serves b l ks (put_bytes bytes)
serves_put bytes = search serves_basic

module _ (b l : ℕ) (ks : List ReturnStatus) (out : IsToldBy ks l (ending.Spatial l))
    (dead : IsToldBy ks l (ending.Temporal l)) where
  place_serves : (v : Verdict) → Serves b l ks (place_or_stop v l)
  place_serves Outside = serves_stop out
  place_serves Dead = serves_stop dead
  place_serves (Inside p) = serves_done

  located_serves : (j : Bool) (size : ℕ) (v : Value) → Serves b l ks (located j size v l)
  located_serves j size v = serves_on serves_read (λ w. place_serves w)

  memmove_serves : (d s n : Value) → Serves b l ks (memmove d s n l)
  memmove_serves d s n =
      serves_choose (is_zero n) serves_done
      (serves_on (located_serves true n.word d)
      (λ to. serves_on (located_serves true n.word s)
      (λ from. serves_then (serves_move n.word to from) serves_done)))

  memset_serves : (d byte n : Value) → Serves b l ks (memset d byte n l)
  memset_serves d byte n =
      serves_choose (is_zero n) serves_done
      (serves_on (located_serves true n.word d) (λ p. serves_then (serves_set _ p) serves_done))

  memcmp_serves : (x y n : Value) → Serves b l ks (memcmp x y n l)
  memcmp_serves x y n = search (serves_basic, located_serves) depth 9

  -- ---- strings

  look_serves : (p : Value) → Serves b l ks (look p l)
  look_serves p = search (serves_basic, located_serves)

  scan_within_serves : (k : ℕ) (behind : Run (List ℕ)) → Serves b l ks behind → (p : Value)
      → Serves b l ks (scan_within k behind p l)
  scan_within_serves zero behind h p = h
  scan_within_serves (suc k) behind h p =
      serves_on (look_serves p) (λ byte. serves_choose (byte == 0) serves_done
      (serves_on (scan_within_serves k behind h (moved 1 p)) (λ bytes. serves_done)))

  scan_serves : (p : Value) → Serves b l ks (scan p l)
  scan_serves p = scan_within_serves (reach p) (stop (ending.Spatial l)) (serves_stop out) p

  compare_serves : (k : ℕ) (x y : Value) → Serves b l ks (compare_within k x y l)
  compare_serves zero x y = serves_stop out
  compare_serves (suc k) x y =
      serves_on (look_serves x) (λ p. serves_on (look_serves y)
      (λ q. serves_choose _ (compare_serves k (moved 1 x) (moved 1 y)) serves_done))

  seek_serves : (k c : ℕ) (p : Value) → Serves b l ks (seek_within k c p l)
  seek_serves zero c p = serves_stop out
  seek_serves (suc k) c p =
      serves_on (look_serves p) (λ byte. serves_choose (byte == c) (serves_done {a = p})
      (serves_choose (byte == 0) (serves_done {a = integer 0}) (seek_serves k c (moved 1 p))))

  write_string_serves : (d : Value) (bytes : List ℕ) → Serves b l ks (write_string d bytes l)
  write_string_serves d bytes = serves_on (located_serves true (length bytes + 1) d) (λ p. serves_set _ p)

  strlen_serves : (p : Value) → Serves b l ks (strlen p l)
  strlen_serves p = serves_on (scan_serves p) (λ bytes. serves_done)

  strcpy_serves : (d p : Value) → Serves b l ks (strcpy d p l)
  strcpy_serves d p = serves_on (scan_serves p) (λ bytes. serves_then (write_string_serves d bytes) serves_done)

  strncpy_serves : (d p n : Value) → Serves b l ks (strncpy d p n l)
  strncpy_serves d p n =
      serves_choose (is_zero n) serves_done (serves_on (scan_within_serves n.word (done []) serves_done p)
      (λ bytes. serves_on (located_serves true n.word d) (λ place. serves_then (serves_set _ place) serves_done)))

  strcat_serves : (d p : Value) → Serves b l ks (strcat d p l)
  strcat_serves d p =
      serves_on (scan_serves d) (λ before. serves_on (scan_serves p)
      (λ bytes. serves_then (write_string_serves (moved (length before) d) bytes) serves_done))

  puts_serves : (p : Value) → Serves b l ks (puts p l)
  puts_serves p = serves_on (scan_serves p) (λ bytes. serves_then (serves_put _) serves_done)

-- ---- the heap

serves_blocks : {b l : ℕ} {ks : List ReturnStatus} → Serves b l ks tally_blocks
serves_blocks = serves_on serves_read (λ count. serves_tally (1 + count))

serves_release : {b l : ℕ} {ks : List ReturnStatus} (n : ℕ) → Serves b l ks (release n)
serves_release n = search (serves_basic, serves_blocks)

serves_object : {b l : ℕ} {ks : List ReturnStatus} (storage : Storage) (address size : ℕ)
    → Serves b l ks (make_object storage address size)
serves_object storage address size = search serves_basic

module _ (g : Setting) (l : ℕ) (ks : List ReturnStatus) (spent : IsToldBy ks l (ending.Keys l)) where
  key_serves : Serves g.sizes.budgets.keys l ks (take_key g l)
  key_serves = record { by = λ s. at s (nat_lt s.keys g.sizes.budgets.keys) refl }
    where
      at : (s : State) (c : Bool) → nat_lt s.keys g.sizes.budgets.keys ≡ c
          → ServesBy g.sizes.budgets.keys l ks s
          (choose c (change (λ s. record s { keys = s.keys + 1 })) (stop (ending.Keys l)) s)
      at s true e =
          let left = ltb-true s.keys g.sizes.budgets.keys e in
          record {
            plain = refl;
            frame = refl;
            charged = refl;
            stacked = refl;
            turns = refl;
            work = omega arith;
            keys = λ le. omega arith;
          }
      at s false e = (spent, keeps_same g.sizes.budgets.keys s)

  make_block_serves : (size : ℕ) (place : Option ℕ) → Serves g.sizes.budgets.keys l ks (make_block g size l place)
  make_block_serves size None = serves_done
  make_block_serves size (Some address) = search (serves_basic, key_serves, serves_object)

  allocate_serves : (size : ℕ) → Serves g.sizes.budgets.keys l ks (allocate g size l)
  allocate_serves size = search (serves_basic, serves_blocks, make_block_serves)

  calloc_serves : (count size : Value) → Serves g.sizes.budgets.keys l ks (calloc g count size l)
  calloc_serves count size = serves_choose _ (allocate_serves (count.word * size.word)) serves_done

module _ (b l : ℕ) (ks : List ReturnStatus) (dead : IsToldBy ks l (ending.Temporal l))
    (not_freed : IsToldBy ks l (ending.BadFree l)) where
  bad_free_serves : {A : Type 0} → Serves b l ks (bad_free {A = A} l)
  bad_free_serves = serves_then serves_blocks (serves_stop not_freed)

  freed_object_serves : (n : ℕ) (o : ObjectState) (a : ℕ) → Serves b l ks (freed_object n o a l)
  freed_object_serves n o a =
      serves_choose o.is_live (serves_choose (is_block_start o a) serves_done bad_free_serves) (serves_stop dead)

  freed_by_serves : (t : Tag) (a : ℕ) → Serves b l ks (freed_by t a l)
  freed_by_serves Untagged a = bad_free_serves
  freed_by_serves (OfFunction f) a = bad_free_serves
  freed_by_serves (OfObject n bounds) a = search (serves_basic, freed_object_serves)

  free_serves : (p : Value) → Serves b l ks (free p l)
  free_serves p =
      serves_choose (is_zero p) serves_done
      (serves_on (freed_by_serves p.tag p.word) (λ n. serves_then (serves_release n) serves_done))

-- a null pointer, or one of an object
abbrev IsNullOrObject : Value → Type 0
IsNullOrObject v = (is_zero v ≡ true) ⊎ ((objects : Objects) → (p : Place) × (named v objects ≡ Inside p))

named_object : (n : ℕ) (o objects : Objects) → (p : Place) × (named (pointer_to n o) objects ≡ Inside p)
unfolding named pointer_to
named_object n o objects = (_, refl)

make_block_gives : (g : Setting) (size l : ℕ) (place : Option ℕ) → GivesOnly IsNullOrObject (make_block g size l place)
make_block_gives g size l None = gives_done (inl refl)
make_block_gives g size l (Some address) =
    gives_then (take_key g l) (gives_on (make_object Allocated address size)
    {f = λ n. read_state (λ s. pointer_to n s.objects)} (λ n. record { by = λ s. inr (named_object n s.objects) }))

allocate_gives : (g : Setting) (size l : ℕ) → GivesOnly IsNullOrObject (allocate g size l)
allocate_gives g size l = gives_then tally_blocks
    (gives_on (read_state (λ s. block_place g size s.objects)) (λ place. make_block_gives g size l place))

module _ (g : Setting) (l : ℕ) (ks : List ReturnStatus) (dead : IsToldBy ks l (ending.Temporal l))
    (not_freed : IsToldBy ks l (ending.BadFree l)) (spent : IsToldBy ks l (ending.Keys l)) where
  -- a place that is named is there
  named_serves : (size : ℕ) (v : Value) → ((objects : Objects) → (p : Place) × (named v objects ≡ Inside p))
      → Serves g.sizes.budgets.keys l ks (located false size v l)
  named_serves size v h = record { by = λ s. at s (named v s.objects) (h s.objects).0 (h s.objects).1 }
    where
      at : (s : State) (w : Verdict) (p : Place) → w ≡ Inside p
          → ServesBy g.sizes.budgets.keys l ks s (place_or_stop w l s)
      at s Outside p e = cc
      at s Dead p e = cc
      at s (Inside q) p e = keeps_same g.sizes.budgets.keys s

  move_block_serves : (n size : ℕ) (v : Value) → ((objects : Objects) → (p : Place) × (named v objects ≡ Inside p))
      → Serves g.sizes.budgets.keys l ks (move_block n v size l)
  move_block_serves n size v h =
      serves_on (named_serves size v h)
      (λ to. serves_on {f = λ lesser. move_bytes lesser to (record { object = n; offset = 0 })} serves_read
      (λ lesser. serves_move lesser to (record { object = n; offset = 0 })))

  replaced_serves : (n size : ℕ) (v : Value) (c : Bool) → is_zero v ≡ c → IsNullOrObject v
      → Serves g.sizes.budgets.keys l ks
      (choose c (done v) (move_block n v size l >> (release n >> done v)))
  replaced_serves n size v true e i = serves_done
  replaced_serves n size v false e (inl null) = cc
  replaced_serves n size v false e (inr h) =
      serves_then (move_block_serves n size v h) (serves_then (serves_release n) serves_done)

  replace_serves : (n size : ℕ) → Serves g.sizes.budgets.keys l ks (replace_block g n size l)
  replace_serves n size =
      serves_on_given IsNullOrObject (allocate_serves g l ks spent size) (allocate_gives g size l)
      (λ v i. replaced_serves n size v (is_zero v) refl i)

  realloc_serves : (old size : Value) → Serves g.sizes.budgets.keys l ks (realloc g old size l)
  realloc_serves old size =
      serves_choose (is_zero old) (allocate_serves g l ks spent size.word)
      (serves_on (freed_by_serves g.sizes.budgets.keys l ks dead not_freed old.tag old.word)
      (λ n. replace_serves n size.word))

-- ---- the routines

abbrev access : (line : ℕ) → IsToldBy (statuses_of library.Memcpy) line (ending.Spatial line)
access line = inl refl

abbrev dead_access : (line : ℕ) → IsToldBy (statuses_of library.Memcpy) line (ending.Temporal line)
dead_access line = inr (inl refl)

pub routine_serves : (g : Setting) (f : LibraryFunction) (vs : List Value) (line : ℕ)
    → Serves g.sizes.budgets.keys line (statuses_of f) (routine g (routine_of f) vs line)
routine_serves g library.Malloc vs line = allocate_serves g line _ (inl refl) (argument 0 vs).word
routine_serves g library.Calloc vs line = calloc_serves g line _ (inl refl) (argument 0 vs) (argument 1 vs)
routine_serves g library.Free vs line =
    free_serves g.sizes.budgets.keys line _ (inl refl) (inr (inl refl)) (argument 0 vs)
routine_serves g library.Realloc vs line =
    realloc_serves g line _ (inl refl) (inr (inl refl)) (inr (inr (inl refl))) (argument 0 vs) (argument 1 vs)
routine_serves g library.Memcpy vs line =
    memmove_serves _ line _ (access line) (dead_access line) (argument 0 vs) (argument 1 vs) (argument 2 vs)
routine_serves g library.Memmove vs line =
    memmove_serves _ line _ (access line) (dead_access line) (argument 0 vs) (argument 1 vs) (argument 2 vs)
routine_serves g library.Memset vs line =
    memset_serves _ line _ (access line) (dead_access line) (argument 0 vs) (argument 1 vs) (argument 2 vs)
routine_serves g library.Memcmp vs line =
    memcmp_serves _ line _ (access line) (dead_access line) (argument 0 vs) (argument 1 vs) (argument 2 vs)
routine_serves g library.Strlen vs line =
    strlen_serves _ line _ (access line) (dead_access line) (argument 0 vs)
routine_serves g library.Strcmp vs line =
    compare_serves _ line _ (access line) (dead_access line) (reach (argument 0 vs)) (argument 0 vs) (argument 1 vs)
routine_serves g library.Strcpy vs line =
    strcpy_serves _ line _ (access line) (dead_access line) (argument 0 vs) (argument 1 vs)
routine_serves g library.Strncpy vs line =
    strncpy_serves _ line _ (access line) (dead_access line) (argument 0 vs) (argument 1 vs) (argument 2 vs)
routine_serves g library.Strcat vs line =
    strcat_serves _ line _ (access line) (dead_access line) (argument 0 vs) (argument 1 vs)
routine_serves g library.Strchr vs line =
    seek_serves _ line _ (access line) (dead_access line) (reach (argument 0 vs)) (fit Char (argument 1 vs).word)
    (argument 0 vs)
routine_serves g library.Puts vs line =
    puts_serves _ line _ (access line) (dead_access line) (argument 0 vs)

-- `free` gives nothing
pub free_gives : (g : Setting) (vs : List Value) (line : ℕ)
    → GivesOnly (λ v. v ≡ integer 0) (routine g (routine_of library.Free) vs line)
free_gives g vs line =
    gives_choose (is_zero (argument 0 vs)) (gives_done refl)
    (gives_on (freed (argument 0 vs) line) (λ n. gives_then (release n) (gives_done refl)))

-- ---- what is counted

counts_from : {A : Type 0} (b l : ℕ) (ks : List ReturnStatus) (s s1 : State) (o : Outcome A) → s.work + 1 ≤ s1.work
    → ServesBy b l ks s1 o → CountsBy 1 s o
counts_from b l ks s s1 (Gives a s') le h = let more = h.work in omega arith
counts_from b l ks s s1 (Ended e s') le h = tt
counts_from b l ks s s1 (Paused s') le h = tt

counts_behind : {A B : Type 0} (b l : ℕ) (ks : List ReturnStatus) (Q : A → Type 0) (s : State) (o : Outcome A)
    (f : A → Run B) → CountsBy 1 s o → GivesBy Q o → ((a : A) → Q a → Serves b l ks (f a)) → CountsBy 1 s (on o f)
counts_behind b l ks Q s (Gives a s') f h i g = counts_from b l ks s s' (f a s') h ((g a i).by s')
counts_behind b l ks Q s (Ended e s') f h i g = tt
counts_behind b l ks Q s (Paused s') f h i g = tt

counts_more : {A : Type 0} (s s1 : State) (o : Outcome A) → s.work ≤ s1.work → CountsBy 1 s1 o → CountsBy 1 s o
counts_more s s1 (Gives a s') le h = omega arith
counts_more s s1 (Ended e s') le h = tt
counts_more s s1 (Paused s') le h = tt

counts_then : {A B : Type 0} (b l : ℕ) (ks : List ReturnStatus) (s : State) (o : Outcome A) (f : A → Run B)
    → ServesBy b l ks s o → ((a : A) → Counts 1 (f a)) → CountsBy 1 s (on o f)
counts_then b l ks s (Gives a s') f h g = counts_more s s' (f a s') h.work ((g a).counts s')
counts_then b l ks s (Ended e s') f h g = tt
counts_then b l ks s (Paused s') f h g = tt

counts_choose : {A : Type 0} (units : ℕ) (c : Bool) {r q : Run A} → Counts units r → Counts units q
    → Counts units (choose c r q)
counts_choose units true h g = h
counts_choose units false h g = g

module _ (g : Setting) (l : ℕ) where
  allocate_counts : (size : ℕ) → Counts 1 (allocate g size l)
  allocate_counts size = record {
    counts = λ s.
        (let sought : State = record s { work = s.work + (1 + block_count s.objects) } in
        counts_from g.sizes.budgets.keys l (statuses_of library.Malloc) s sought
        (make_block g size l (block_place g size s.objects) sought) (omega arith)
        ((make_block_serves g l (statuses_of library.Malloc) (inl refl) size (block_place g size s.objects)).by sought));
  }

  replace_counts : (n size : ℕ) → Counts 1 (replace_block g n size l)
  replace_counts n size = record {
    counts = λ s. counts_behind g.sizes.budgets.keys l (statuses_of library.Realloc) IsNullOrObject s (allocate g size l s)
        (λ v. choose (is_zero v) (done v) (move_block n v size l >> (release n >> done v)))
        ((allocate_counts size).counts s) ((allocate_gives g size l).by s)
        (λ v i. replaced_serves g l (statuses_of library.Realloc) (inl refl) (inr (inl refl)) (inr (inr (inl refl))) n size v
        (is_zero v) refl i);
  }

  realloc_counts : (old size : Value) → Counts 1 (realloc g old size l)
  realloc_counts old size =
      counts_choose 1 (is_zero old) (allocate_counts size.word)
      (record {
        counts = λ s. counts_then g.sizes.budgets.keys l (statuses_of library.Realloc) s (freed old l s)
            (λ n. replace_block g n size.word l)
            ((freed_by_serves g.sizes.budgets.keys l (statuses_of library.Realloc) (inl refl) (inr (inl refl)) old.tag
            old.word).by s)
            (λ n. replace_counts n size.word);
      })

-- what a routine counts at least
abbrev pub least_count : LibraryFunction → ℕ
least_count library.Realloc = 1
least_count f = 0

counts_none : {A : Type 0} (b l : ℕ) (ks : List ReturnStatus) (s : State) (o : Outcome A) → ServesBy b l ks s o
    → CountsBy 0 s o
counts_none b l ks s (Gives a s') h = let more = h.work in omega arith
counts_none b l ks s (Ended e s') h = tt
counts_none b l ks s (Paused s') h = tt

nothing_counted : (g : Setting) (f : LibraryFunction) (vs : List Value) (line : ℕ)
    → Counts 0 (routine g (routine_of f) vs line)
nothing_counted g f vs line = record {
  counts = λ s. counts_none g.sizes.budgets.keys line (statuses_of f) s (routine g (routine_of f) vs line s)
      ((routine_serves g f vs line).by s);
}

pub routine_counts : (g : Setting) (f : LibraryFunction) (vs : List Value) (line : ℕ)
    → Counts (least_count f) (routine g (routine_of f) vs line)
routine_counts g library.Realloc vs line = realloc_counts g line (argument 0 vs) (argument 1 vs)
routine_counts g f vs line = nothing_counted g f vs line

-- `realloc` in the source, by the block that is freed and by what is allocated.
use Rattle.std.proofs.Common.{◌≡◌, ◌≢◌, ℕ, ◌+◌, Bool, Option, Some, None, length, min, refl, ap}
use Rattle.std.proofs.Common.{◌∙◌, ⊎_elim}
use Rattle.std.proofs.lemmas.Bool.{eq-eqb, ne_eqb, cases_lt, lt-ltb, le-ltb}
use Rattle.sb_base.specs.declared.ending.Ending.TheVariants.{Keys as KeysSpent}
use Rattle.addr_map.specs.Places.{MapSizes, AreMapped}
use Rattle.obj_memory.specs.declared.value.Tag.TheVariants.{OfObject}
use Rattle.obj_memory.specs.declared.value.Value.{Value}
use Rattle.obj_memory.specs.declared.value.Place.{Place}
use Rattle.obj_memory.specs.declared.judgement.Verdict.{Verdict}
use Rattle.obj_memory.specs.declared.judgement.Verdict.TheVariants.{Inside}
use Rattle.obj_memory.specs.Objects.{Objects, object_at}
use Rattle.obj_memory.specs.Judgement.{place_in, named}
use Rattle.obj_memory.specs.Access.{move_range}
use Rattle.source_meaning.specs.State.{State as Source, Outcome as Completed, Gives, Ended, on, choose, done, Setting}
use Rattle.source_meaning.specs.State.{read_state, ◌>>=◌, ◌>>◌}
use Rattle.source_meaning.specs.Actions.{integer, is_zero, place_or_stop, move_bytes}
use Rattle.source_meaning.specs.Heap.{block_place, allocate, freed, release, move_block, replace_block, realloc}
use Rattle.lib_wrappers.proofs.AllocatingRoutines.SourceBlocks.{sought_in, made_in, no_place, no_key, makes_block}
use Rattle.lib_wrappers.proofs.AllocatingRoutines.SourceFrees.{ended_in}
use Rattle.lib_wrappers.proofs.AllocatingRoutines.BlockBirth.{LiesInHeap, place_lies}
use Rattle.lib_wrappers.proofs.AllocatingRoutines.Allocates.{least_is, pointer_is}

-- ---- what is allocated

-- a pointer to a new block
abbrev pub new_pointer : Objects → (place size : ℕ) → Value
new_pointer objects p z = record { word = p; tag = OfObject (length objects) (record { base = p; bound = p + z }) }

pub data IsAllocated (map : MapSizes) (set : Setting) (z line : ℕ) (x : Source) : Type 0 where
  NoPlace : allocate set z line x ≡ Gives (integer 0) (sought_in x) → IsAllocated map set z line x
  NoKey : allocate set z line x ≡ Ended (KeysSpent line) (sought_in x) → IsAllocated map set z line x
  Made : (p : ℕ) → allocate set z line x ≡ Gives (new_pointer x.objects p z) (made_in p z x) → LiesInHeap map p z
      → IsAllocated map set z line x

pub allocated : (map : MapSizes) → AreMapped map → (set : Setting) → set.sizes ≡ map → (z line : ℕ) (x : Source)
    → IsAllocated map set z line x
allocated map mapped set same z line x = by (block_place set z x.objects) refl
  where
    by : (o : Option ℕ) → block_place set z x.objects ≡ o → IsAllocated map set z line x
    by None e = NoPlace (no_place set z line x e)
    by (Some p) e = ⊎_elim
        (λ less. Made p (makes_block set z line p x e (lt-ltb x.keys set.sizes.budgets.keys less)
        ∙ ap (λ v. Gives v (made_in p z x)) (pointer_is x.objects p z))
        (place_lies map mapped x.objects p z (least_is map set same x.objects z p e)))
        (λ spent. NoKey (no_key set z line p x e (le-ltb x.keys set.sizes.budgets.keys spent)))
        (cases_lt x.keys set.sizes.budgets.keys)

-- ---- by the old pointer

abbrev by_null : Bool → Setting → (old : Value) → (z line : ℕ) → Source → Completed Value
by_null b set old z line x =
    choose b (allocate set z line) (λ y. on (freed old line y) (λ n. replace_block set n z line)) x

pub reallocs_null : (set : Setting) (old size : Value) (line : ℕ) (x : Source) → old.word ≡ 0
    → realloc set old size line x ≡ allocate set size.word line x
reallocs_null set old size line x e = ap (λ b. by_null b set old size.word line x) (eq-eqb old.word 0 e)

pub reallocs_by : (set : Setting) (old size : Value) (line : ℕ) (x : Source) → old.word ≢ 0
    → realloc set old size line x ≡ on (freed old line x) (λ n. replace_block set n size.word line)
reallocs_by set old size line x ne = ap (λ b. by_null b set old size.word line x) (ne_eqb old.word 0 ne)

-- ---- a block in place of an old one

-- what both have room for
abbrev pub lesser_of : (n size : ℕ) → Objects → ℕ
lesser_of n z objects = min z (object_at objects n).size

-- the state with the bytes moved
abbrev pub moved_in : (n size : ℕ) → Place → Source → Source
moved_in n z d y = record y {
  work = y.work + lesser_of n z y.objects;
  objects = move_range (lesser_of n z y.objects) d (record { object = n; offset = 0 }) y.objects;
}

-- what follows a new block
abbrev pub replaced : (n size line : ℕ) → Completed Value → Completed Value
replaced n z line o = on o (λ new. choose (is_zero new) (done new) (do
  move_block n new z line
  release n
  done new))

pub replaces : (set : Setting) (n z line : ℕ) (x : Source)
    → replace_block set n z line x ≡ replaced n z line (allocate set z line x)
replaces set n z line x = refl

abbrev if_new : Bool → (new : Value) → (n size line : ℕ) → Source → Completed Value
if_new b new n z line y = choose b (done new) (do
  move_block n new z line
  release n
  done new) y

abbrev by_verdict : Verdict → (new : Value) → (n size line : ℕ) → Source → Completed Value
by_verdict verdict new n z line y =
    on (on (place_or_stop verdict line y) (λ d. read_state (λ s. min z (object_at s.objects n).size)
    >>= (λ l. move_bytes l d (record { object = n; offset = 0 }))))
    (λ _. release n >> done new)

named_place : (objects : Objects) (p z : ℕ) (y : Objects)
    → named (new_pointer objects p z) y ≡ Inside (place_in y (length objects) p)
unfolding named
named_place objects p z y = refl

pub replaced_by : (objects : Objects) (p z n line : ℕ) (y : Source) → p ≢ 0
    → replaced n z line (Gives (new_pointer objects p z) y)
    ≡ Gives (new_pointer objects p z) (ended_in n (moved_in n z (place_in y.objects (length objects) p) y))
replaced_by objects p z n line y ne =
    ap (λ b. if_new b (new_pointer objects p z) n z line y) (ne_eqb p 0 ne)
    ∙ ap (λ verdict. by_verdict verdict (new_pointer objects p z) n z line y) (named_place objects p z y.objects)

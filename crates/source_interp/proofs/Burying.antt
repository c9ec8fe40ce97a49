-- Objects that die.
use Rattle.std.proofs.Common.{◌≡◌, ℕ, ◌+◌, ◌<◌, sym, ap, subst, refl, ◌∙◌, Ok, Err, true, false, Some, None, List}
use Rattle.std.proofs.Common.{[], ◌∷◌, length, drop}
use Rattle.std.specs.Prelude.{Result, Option, ◌&&◌, get_or}
use Rattle.std.proofs.lemmas.List.{drop_more}
use Rattle.obj_memory.specs.Heap.{is_allocated, is_live_block}
use Rattle.obj_memory.specs.Objects.{Objects, object_at, with_dead}
use Rattle.source_meaning.specs.State.{State, Home, NoObject, InObject, Gives, Run, Setting, change, done, on}
use Rattle.source_meaning.specs.Places.{heap_first, heap_last}
use Rattle.source_meaning.specs.Blocks.{without_homes}
use Rattle.interpreter_objects.specs.declared.blocks.Block.{Block}
use Rattle.interpreter_objects.specs.Blocks.{AreInOrder, AreLive, block_of, without}
use Rattle.interpreter_objects.specs.Kept.{kept, with_buried}
use Rattle.interpreter_objects.proofs.Gaps.{order_without}
use Rattle.interpreter_objects.proofs.Keeping.{address_at, kept_dead, life_at, size_at, storage_at}
use Rattle.interpreter_objects.proofs.Weights.{dead_live, dead_other}
use Rattle.source_interp.specs.declared.machine.Machine.{Machine}
use Rattle.source_interp.specs.declared.stop.Stop.{Stop}
use Rattle.source_interp.specs.Homes.{home_of, homes_of}
use Rattle.source_interp.specs.Outside.{Outside}
use Rattle.source_interp.specs.Standing.{Acts}
use Rattle.source_interp.proofs.Acting.{Continues, alike_acts, done_acts, goes_no_further, goes_on}
use Rattle.source_interp.proofs.Acting.{goes_to_end}
use Rattle.source_interp.proofs.Accesses.{alters, alters_blocks}

-- blocks among the objects that are kept

live_kept_block : (store objects : Objects) (n : ℕ) → store ≡ kept objects
    → is_live_block (object_at objects n) ≡ is_live_block (object_at store n)
live_kept_block store objects n e =
    ap (λ x. is_allocated x && (object_at objects n).is_live) (sym (storage_at objects n))
    ∙ ap (λ x. is_allocated (object_at (kept objects) n).storage && x) (sym (life_at objects n))
    ∙ ap (λ os. is_live_block (object_at os n)) (sym e)

block_kept : (store objects : Objects) (n : ℕ) → store ≡ kept objects
    → block_of (object_at objects n) ≡ block_of (object_at store n)
block_kept store objects n e =
    ap (λ x. block_of (record (object_at objects n) { address = x })) (sym (address_at objects n))
    ∙ ap (λ x. block_of (record (object_at objects n) { address = (object_at (kept objects) n).address; size = x }))
    (sym (size_at objects n))
    ∙ ap (λ os. block_of (object_at os n)) (sym e)

-- one object

abbrev pub burying : (n : ℕ) → State → State
burying n = λ s. record s { objects = with_dead n s.objects }

module _ (g : Setting) (o : Outside) (old new : Machine) (n : ℕ) where
  buried_there : new.store ≡ with_buried n old.store → (objects : Objects) → old.store ≡ kept objects
      → new.store ≡ kept (with_dead n objects)
  buried_there e objects same = e ∙ ap (with_buried n) same ∙ sym (kept_dead n objects)

  pub buries_other : is_live_block (object_at old.store n) ≡ false → new.store ≡ with_buried n old.store
      → new ≡ record old { store = new.store } → Acts g old new o o (Ok tt) (change (burying n))
  buries_other other e same = alters g o old new (with_dead n) same (buried_there e)
      (λ objects k live. dead_other objects old.blocks n (live_kept_block old.store objects n k ∙ other) live)

  pub buries_block : (b : Block) → is_live_block (object_at old.store n) ≡ true
      → b ≡ block_of (object_at old.store n) → new.blocks ≡ without b old.blocks
      → new.store ≡ with_buried n old.store → new ≡ record old { store = new.store; blocks = new.blocks }
      → Acts g old new o o (Ok tt) (change (burying n))
  buries_block b is e removed e' same = alters_blocks g o old new (with_dead n) same (buried_there e')
      (λ objects k live. subst (λ bs. AreLive (with_dead n objects) bs)
      (sym (removed ∙ ap (λ x. without x old.blocks) (e ∙ sym (block_kept old.store objects n k))))
      (dead_live objects old.blocks n (live_kept_block old.store objects n k ∙ is) live))
      (λ order. subst (λ bs. AreInOrder (heap_first g) (heap_last g + 1) bs) (sym removed)
      (order_without b (heap_first g) (heap_last g + 1) old.blocks order))

pub ruleset burying_one = (buries_other)

pub ruleset burying_block = (buries_block)

-- those of homes, one after another

pub buries_none : (g : Setting) (o : Outside) (m : Machine) (home : Option ℕ) → home ≡ None
    → Acts g m m o o (Ok tt) (change (λ s. record s { objects = without_homes (home_of home ∷ []) s.objects }))
buries_none g o m home e =
    alike_acts g m m o o (Ok tt) (done tt) _
    (λ s. ap (λ h. Gives tt (record s { objects = without_homes (home_of h ∷ []) s.objects })) e)
    (done_acts g m o tt)

pub buries_some : (g : Setting) (o : Outside) (old new : Machine) (home : Option ℕ) (n : ℕ)
    (r : Result (Unit {0}) Stop) → home ≡ Some n → Acts g old new o o r (change (burying n))
    → Acts g old new o o r (change (λ s. record s { objects = without_homes (home_of home ∷ []) s.objects }))
buries_some g o old new home n r e a =
    alike_acts g old new o o r (change (burying n)) _
    (λ s. ap (λ h. Gives tt (record s { objects = without_homes (home_of h ∷ []) s.objects })) e) a

abbrev pub without_all : List (Option ℕ) → Run (Unit {0})
without_all homes = change (λ s. record s { objects = without_homes (homes_of homes) s.objects })

one_of : (h : Home) (hs : List Home) (objects : Objects)
    → without_homes (h ∷ hs) objects ≡ without_homes hs (without_homes (h ∷ []) objects)
one_of NoObject hs objects = refl
one_of (InObject n) hs objects = refl

one_first : (homes : List (Option ℕ)) (i : ℕ) (home : Option ℕ) → i < length homes → home ≡ get_or homes i home
    → (s : State) → without_all (drop i homes) s
    ≡ on (without_all (home ∷ []) s) (λ _. without_all (drop (i + 1) homes))
one_first homes i home h e s =
    ap (λ hs. without_all hs s) (drop_more homes i home h ∙ ap (λ x. x ∷ drop (i + 1) homes) (sym e))
    ∙ ap (λ os. Gives tt (record s { objects = os }))
    (one_of (home_of home) (homes_of (drop (i + 1) homes)) s.objects)

module _ (g : Setting) (o : Outside) (first now next : Machine) (homes : List (Option ℕ)) (i : ℕ)
    (home : Option ℕ) (so_far : Continues g first now o o (without_all homes) (without_all (drop i homes)))
    (within : i < length homes) (is : home ≡ get_or homes i home) where
  pub one_buried : (u : Unit {0}) (r : Result (Unit {0}) Stop) → r ≡ Ok u
      → Acts g now next o o r (without_all (home ∷ []))
      → Continues g first next o o (without_all homes) (without_all (drop (i + 1) homes))
  one_buried u r e a = goes_on g first now next o o o (without_all homes) (without_all (drop i homes))
      (without_all (home ∷ [])) (λ _. without_all (drop (i + 1) homes)) r u so_far
      (one_first homes i home within is) e a

  pub none_buried : (e : Stop) (r r' : Result (Unit {0}) Stop) → r ≡ Err e → r' ≡ Err e
      → Acts g now next o o r (without_all (home ∷ [])) → Acts g first next o o r' (without_all homes)
  none_buried e r r' is' is'' a = goes_no_further g first now next o o o (without_all homes)
      (without_all (drop i homes)) (without_all (home ∷ [])) (λ _. without_all (drop (i + 1) homes)) r r' e so_far
      (one_first homes i home within is) is' is'' a

pub all_buried : (g : Setting) (o : Outside) (first now : Machine) (homes left : List (Option ℕ))
    → left ≡ [] → Continues g first now o o (without_all homes) (without_all left)
    → Acts g first now o o (Ok tt) (without_all homes)
all_buried g o first now homes left e so_far =
    goes_to_end g first now o o (without_all homes) (without_all left) tt so_far (λ s. ap (λ hs. without_all hs s) e)

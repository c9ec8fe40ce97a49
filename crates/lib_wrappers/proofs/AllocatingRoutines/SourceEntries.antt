-- Blocks that are entered, in the source: which objects stand where.
use Rattle.std.proofs.Common.{inl, inr, ◌≡◌, ℕ, ◌+◌, ◌*◌, ◌%◌, ◌<◌, ◌≤◌, ⊎_elim, List, []}
use Rattle.std.proofs.Common.{◌∷◌, Bool, true, false, ◌||◌, if◌then◌else◌, length, refl, sym, ap, ◌∙◌, arith}
use Rattle.std.specs.Prelude.{nat_le, nat_lt}
use Rattle.std.proofs.lemmas.Bool.{cases_eq, cases_lt}
use Rattle.sb_base.specs.declared.ending.Ending.TheVariants.{Stack as StackSpent, Keys as KeysSpent}
use Rattle.addr_map.specs.declared.region.Region.TheVariants.{Stack}
use Rattle.addr_map.specs.Places.{MapSizes, AreMapped, region_end}
use Rattle.obj_memory.specs.declared.object.Storage.TheVariants.{Automatic}
use Rattle.obj_memory.specs.Objects.{ObjectState, Objects, object_at, new_object, with_new}
use Rattle.obj_memory.specs.Heap.{rounded_up}
use Rattle.obj_memory.specs.Sound.{IsSound}
use Rattle.obj_memory.proofs.Making.{new_last, new_other}
use Rattle.obj_memory.proofs.Soundness.{sound_new}
use Rattle.c_tree.specs.declared.program.Variable.{Variable}
use Rattle.c_tree.specs.Kinds.{size_of_kind}
use Rattle.source_meaning.specs.State.{State as Source, Outcome as Completed, Gives, Ended, Home, NoObject, InObject}
use Rattle.source_meaning.specs.State.{Setting}
use Rattle.source_meaning.specs.State.{on, choose, done, change, stop, skip, ◌>>◌}
use Rattle.source_meaning.specs.Actions.{take_key}
use Rattle.source_meaning.specs.Blocks.{pass_or_stop, objects_end, has_objects, test_keys, place_object}
use Rattle.source_meaning.specs.Blocks.{place_variables}
use Rattle.source_meaning.specs.Blocks.{homes_over, Block, place_block, enter_block}
use Rattle.source_meaning.specs.Keeping.{AreSeparate}
use Rattle.source_meaning.specs.Places.{stack_end}
use Rattle.source_meaning.proofs.Holding.{length-new}
use Rattle.source_meaning.proofs.Separating.{separate_automatic}
use Rattle.lib_wrappers.specs.AllocatingRoutines.Entering.{AreSized, block_bytes, IsHomeOf}

-- ---- the objects of a block

abbrev pub next_top : Variable → (top : ℕ) → ℕ
next_top v top = if v.is_object then rounded_up 16 top + size_of_kind v.kind else top

abbrev pub with_variable : Variable → (top : ℕ) → Objects → Objects
with_variable v top objects =
    if v.is_object then with_new Automatic (rounded_up 16 top) (size_of_kind v.kind) objects else objects

abbrev pub placed_objects : List Variable → (top : ℕ) → Objects → Objects
placed_objects [] top objects = objects
placed_objects (v ∷ vs) top objects = placed_objects vs (next_top v top) (with_variable v top objects)

abbrev pub placing_work : List Variable → ℕ
placing_work [] = 0
placing_work (v ∷ vs) = (if v.is_object then 1 + size_of_kind v.kind else 0) + placing_work vs

abbrev pub home_at : Variable → (number : ℕ) → Home
home_at v n = if v.is_object then InObject n else NoObject

abbrev pub homes_from : List Variable → (number : ℕ) → List Home
homes_from [] n = []
homes_from (v ∷ vs) n = home_at v n ∷ homes_from vs (if v.is_object then n + 1 else n)

-- the state with them
abbrev pub placed_in : List Variable → Source → Source
placed_in vs x = record x {
  objects = placed_objects vs x.stacked x.objects;
  stacked = objects_end vs x.stacked;
  work = x.work + placing_work vs;
}

abbrev rest_of : Home → Completed (List Home) → Completed (List Home)
rest_of home o = on o (λ homes. done (home ∷ homes))

pub variables_placed : (vs : List Variable) (x : Source)
    → place_variables vs x ≡ Gives (homes_from vs (length x.objects)) (placed_in vs x)
variables_placed [] x = let e : x.work + 0 ≡ x.work = omega arith in ap (λ w. Gives [] (record x { work = w })) (sym e)
variables_placed (v ∷ vs) x = by (λ y. variables_placed vs y) v.is_object refl
  where
    by : ((y : Source) → place_variables vs y ≡ Gives (homes_from vs (length y.objects)) (placed_in vs y)) → (b : Bool)
        → v.is_object ≡ b
        → on (choose v.is_object (place_object (size_of_kind v.kind)) (done NoObject) x)
        (λ home y. rest_of home (place_variables vs y))
        ≡ Gives (homes_from (v ∷ vs) (length x.objects)) (placed_in (v ∷ vs) x)
    by again true e =
        let y : Source = record x {
          stacked = rounded_up 16 x.stacked + size_of_kind v.kind;
          work = x.work + (1 + size_of_kind v.kind);
          objects = with_new Automatic (rounded_up 16 x.stacked) (size_of_kind v.kind) x.objects;
        } in
        let many = length-new Automatic (rounded_up 16 x.stacked) (size_of_kind v.kind) x.objects in
        let work : x.work + (1 + size_of_kind v.kind) + placing_work vs ≡ x.work +
        (1 + size_of_kind v.kind + placing_work vs) = omega arith in
        ap (λ b. on (choose b (place_object (size_of_kind v.kind)) (done NoObject) x)
        (λ home y. rest_of home (place_variables vs y))) e
        ∙ ap (rest_of (InObject (length x.objects))) (again y)
        ∙ ap (λ n. Gives (InObject (length x.objects) ∷ homes_from vs n) (placed_in vs y)) many
        ∙ ap (λ w. Gives (InObject (length x.objects) ∷ homes_from vs (length x.objects + 1))
        (record (placed_in vs y) { work = w })) work
        ∙ ap (λ b. Gives ((if b then InObject (length x.objects) else NoObject)
        ∷ homes_from vs (if b then length x.objects + 1 else length x.objects))
        (record x {
          objects = placed_objects vs (if b then rounded_up 16 x.stacked + size_of_kind v.kind else x.stacked)
              (if b then with_new Automatic (rounded_up 16 x.stacked) (size_of_kind v.kind) x.objects else x.objects);
          stacked = objects_end vs (if b then rounded_up 16 x.stacked + size_of_kind v.kind else x.stacked);
          work = x.work + ((if b then 1 + size_of_kind v.kind else 0) + placing_work vs);
        })) (sym e)
    by again false e =
        let work : x.work + placing_work vs ≡ x.work + (0 + placing_work vs) = omega arith in
        ap (λ b. on (choose b (place_object (size_of_kind v.kind)) (done NoObject) x)
        (λ home y. rest_of home (place_variables vs y))) e
        ∙ ap (rest_of NoObject) (again x)
        ∙ ap (λ w. Gives (NoObject ∷ homes_from vs (length x.objects)) (record (placed_in vs x) { work = w })) work
        ∙ ap (λ b. Gives ((if b then InObject (length x.objects) else NoObject)
        ∷ homes_from vs (if b then length x.objects + 1 else length x.objects))
        (record x {
          objects = placed_objects vs (if b then rounded_up 16 x.stacked + size_of_kind v.kind else x.stacked)
              (if b then with_new Automatic (rounded_up 16 x.stacked) (size_of_kind v.kind) x.objects else x.objects);
          stacked = objects_end vs (if b then rounded_up 16 x.stacked + size_of_kind v.kind else x.stacked);
          work = x.work + ((if b then 1 + size_of_kind v.kind else 0) + placing_work vs);
        })) (sym e)

-- ---- the tests before them

-- the state of an entered block
abbrev pub entered_in : List Variable → Source → Source
entered_in vs x = record (placed_in vs (record x { keys = x.keys + 1 })) {
  frame = homes_over x.frame (homes_from vs (length x.objects));
}

abbrev pub block_of : List Variable → Source → Block
block_of vs x = record { homes = homes_from vs (length x.objects); frame = x.frame; stacked = x.stacked }

abbrev after_space : Bool → Setting → List Variable → (line : ℕ) → Source → Completed Block
after_space b g vs line x = on (pass_or_stop b (StackSpent line) x) (λ _. test_keys g vs line >> place_block vs)

abbrev after_some : Bool → Setting → List Variable → (line : ℕ) → Source → Completed Block
after_some b g vs line x = on (choose b (take_key g line) skip x) (λ _. place_block vs)

abbrev after_keys : Bool → List Variable → (line : ℕ) → Source → Completed Block
after_keys b vs line x =
    on (choose b (change (λ s. record s { keys = s.keys + 1 })) (stop (KeysSpent line)) x) (λ _. place_block vs)

abbrev after_placed : List Variable → Source → Completed (List Home) → Completed Block
after_placed vs x o = on o (λ homes. change (λ s. record s { frame = homes_over x.frame homes })
    >> done (record { homes = homes; frame = x.frame; stacked = x.stacked }))

pub no_space : (g : Setting) (vs : List Variable) (line : ℕ) (x : Source)
    → nat_le (objects_end vs x.stacked) (stack_end g) ≡ false → enter_block g vs line x ≡ Ended (StackSpent line) x
no_space g vs line x e = ap (λ b. after_space b g vs line x) e

pub no_more_keys : (g : Setting) (vs : List Variable) (line : ℕ) (x : Source)
    → nat_le (objects_end vs x.stacked) (stack_end g) ≡ true → has_objects vs ≡ true
    → nat_lt x.keys g.sizes.budgets.keys ≡ false → enter_block g vs line x ≡ Ended (KeysSpent line) x
no_more_keys g vs line x e some d =
    ap (λ b. after_space b g vs line x) e ∙ ap (λ b. after_some b g vs line x) some
    ∙ ap (λ b. after_keys b vs line x) d

pub enters_block : (g : Setting) (vs : List Variable) (line : ℕ) (x : Source)
    → nat_le (objects_end vs x.stacked) (stack_end g) ≡ true → has_objects vs ≡ true
    → nat_lt x.keys g.sizes.budgets.keys ≡ true
    → enter_block g vs line x ≡ Gives (block_of vs x) (entered_in vs x)
enters_block g vs line x e some d =
    let y : Source = record x { keys = x.keys + 1 } in
    ap (λ b. after_space b g vs line x) e ∙ ap (λ b. after_some b g vs line x) some
    ∙ ap (λ b. after_keys b vs line x) d
    ∙ ap (after_placed vs y) (variables_placed vs y)

-- ---- the bytes of a block

-- the object stack only grows
pub grows : (vs : List Variable) (top : ℕ) → top ≤ objects_end vs top
grows [] top = omega arith
grows (v ∷ vs) top = by (λ o. grows vs o) v.is_object
  where
    by : ((o : ℕ) → o ≤ objects_end vs o) → (b : Bool)
        → top ≤ objects_end vs (if b then rounded_up 16 top + size_of_kind v.kind else top)
    by again true = let l = again (rounded_up 16 top + size_of_kind v.kind) in omega arith
    by again false = again top

-- from a multiple of 16 on, the objects take as much room as from 0 on
end_from : (vs : List Variable) (a o : ℕ) → a % 16 ≡ 0 → objects_end vs (a + o) ≡ a + objects_end vs o
end_from [] a o e = refl
end_from (v ∷ vs) a o e = by (λ i. end_from vs a i e) v.is_object
  where
    by : ((i : ℕ) → objects_end vs (a + i) ≡ a + objects_end vs i) → (b : Bool)
        → objects_end vs (if b then rounded_up 16 (a + o) + size_of_kind v.kind else a + o)
        ≡ a + objects_end vs (if b then rounded_up 16 o + size_of_kind v.kind else o)
    by again true =
        let same : rounded_up 16 (a + o) + size_of_kind v.kind ≡ a + (rounded_up 16 o + size_of_kind v.kind) =
        omega (arith, e) in
        ap (objects_end vs) same ∙ again (rounded_up 16 o + size_of_kind v.kind)
    by again false = again o

-- the first object stands at a multiple of 16
end_rounded : (vs : List Variable) (top : ℕ) → has_objects vs ≡ true
    → objects_end vs top ≡ objects_end vs (rounded_up 16 top)
end_rounded [] top e = absurd cc
end_rounded (v ∷ vs) top e = by (λ h. end_rounded vs top h) v.is_object e
  where
    by : (has_objects vs ≡ true → objects_end vs top ≡ objects_end vs (rounded_up 16 top)) → (b : Bool)
        → (b || has_objects vs) ≡ true
        → objects_end vs (if b then rounded_up 16 top + size_of_kind v.kind else top)
        ≡ objects_end vs (if b then rounded_up 16 (rounded_up 16 top) + size_of_kind v.kind else rounded_up 16 top)
    by again true h =
        let same : rounded_up 16 top + size_of_kind v.kind
        ≡ rounded_up 16 (rounded_up 16 top) + size_of_kind v.kind = omega arith in
        ap (objects_end vs) same
    by again false h = again h

pub end_by_bytes : (vs : List Variable) (top : ℕ) → has_objects vs ≡ true
    → objects_end vs top ≡ rounded_up 16 top + block_bytes vs
end_by_bytes vs top e =
    let zero_more : rounded_up 16 top ≡ rounded_up 16 top + 0 = omega arith in
    end_rounded vs top e ∙ ap (objects_end vs) zero_more ∙ end_from vs (rounded_up 16 top) 0 (omega arith)

pub some_bytes : (vs : List Variable) (top : ℕ) → has_objects vs ≡ true → AreSized vs → top < objects_end vs top
some_bytes [] top e sized = absurd cc
some_bytes (v ∷ vs) top e sized = by (λ h. some_bytes vs top h sized.1) v.is_object e sized.0
  where
    by : (has_objects vs ≡ true → top < objects_end vs top) → (b : Bool) → (b || has_objects vs) ≡ true
        → (b ≡ true → 1 ≤ size_of_kind v.kind)
        → top < objects_end vs (if b then rounded_up 16 top + size_of_kind v.kind else top)
    by again true h some =
        let l = grows vs (rounded_up 16 top + size_of_kind v.kind) in let o = some refl in omega arith
    by again false h some = again h

-- at most 8 bytes for each unit of work
pub few_bytes : (vs : List Variable) (top : ℕ) → AreSized vs → objects_end vs top ≤ top + 8 * placing_work vs
few_bytes [] top sized = omega arith
few_bytes (v ∷ vs) top sized = by (λ o. few_bytes vs o sized.1) v.is_object sized.0
  where
    by : ((o : ℕ) → objects_end vs o ≤ o + 8 * placing_work vs) → (b : Bool) → (b ≡ true → 1 ≤ size_of_kind v.kind)
        → objects_end vs (if b then rounded_up 16 top + size_of_kind v.kind else top)
        ≤ top + 8 * ((if b then 1 + size_of_kind v.kind else 0) + placing_work vs)
    by again true some =
        let l = again (rounded_up 16 top + size_of_kind v.kind) in let o = some refl in omega arith
    by again false some = let l = again top in omega arith

-- ---- the objects

-- an object is new, and stands between two addresses
abbrev pub IsNewIn : (low high : ℕ) → ObjectState → Type 0
IsNewIn low high o = (a : ℕ) × (z : ℕ) × (o ≡ new_object Automatic a z) × (low ≤ a) × (a % 16 ≡ 0) × (a + z ≤ high)

pub record ArePlacedFrom (low high : ℕ) (old new : Objects) : Type 0 where
  pub longer : length old ≤ length new
  pub same : (n : ℕ) → n < length old → object_at new n ≡ object_at old n
  pub fresh : (n : ℕ) → length old ≤ n → n < length new → IsNewIn low high (object_at new n)

pub placed_from : (vs : List Variable) (top : ℕ) (objects : Objects)
    → ArePlacedFrom top (objects_end vs top) objects (placed_objects vs top objects)
placed_from [] top objects = record {
  longer = omega arith;
  same = λ n l. refl;
  fresh = λ n l h. absurd (omega arith);
}
placed_from (v ∷ vs) top objects = by (λ o os. placed_from vs o os) v.is_object
  where
    by : ((o : ℕ) (os : Objects) → ArePlacedFrom o (objects_end vs o) os (placed_objects vs o os)) → (b : Bool)
        → ArePlacedFrom top (objects_end vs (if b then rounded_up 16 top + size_of_kind v.kind else top)) objects
        (placed_objects vs (if b then rounded_up 16 top + size_of_kind v.kind else top)
        (if b then with_new Automatic (rounded_up 16 top) (size_of_kind v.kind) objects else objects))
    by again false = again top objects
    by again true =
        let a = rounded_up 16 top in let z = size_of_kind v.kind in
        let mid = with_new Automatic a z objects in
        let many = length-new Automatic a z objects in
        let r = again (a + z) mid in
        let more = r.longer in
        let end = grows vs (a + z) in
        record {
          longer = omega arith;
          same = λ n l. r.same n (omega arith) ∙ new_other Automatic a z n objects l;
          fresh = λ n l h. ⊎_elim
              (λ (first : n < length mid). (let here : length objects ≡ n = omega arith in (
                a,
                z,
                r.same n first ∙ ap (object_at mid) (sym here) ∙ new_last Automatic a z objects,
                omega arith,
                omega arith,
                end,
              )))
              (λ (later : length mid ≤ n). (let q = r.fresh n later h in let lo = q.3 in
              (q.0, q.1, q.2, omega arith, q.4, q.5)))
              (cases_lt n (length mid));
        }

pub some_placed : (vs : List Variable) (top : ℕ) (objects : Objects) → has_objects vs ≡ true
    → length objects < length (placed_objects vs top objects)
some_placed [] top objects e = absurd cc
some_placed (v ∷ vs) top objects e = by (λ h. some_placed vs top objects h) v.is_object e
  where
    by : (has_objects vs ≡ true → length objects < length (placed_objects vs top objects)) → (b : Bool)
        → (b || has_objects vs) ≡ true
        → length objects
        < length (placed_objects vs (if b then rounded_up 16 top + size_of_kind v.kind else top)
        (if b then with_new Automatic (rounded_up 16 top) (size_of_kind v.kind) objects else objects))
    by again false h = again h
    by again true h =
        let many = length-new Automatic (rounded_up 16 top) (size_of_kind v.kind) objects in
        let more = (placed_from vs (rounded_up 16 top + size_of_kind v.kind)
        (with_new Automatic (rounded_up 16 top) (size_of_kind v.kind) objects)).longer in omega arith

pub placed_sound : (functions : ℕ) (vs : List Variable) (top : ℕ) (objects : Objects) → IsSound functions objects
    → IsSound functions (placed_objects vs top objects)
placed_sound functions [] top objects h = h
placed_sound functions (v ∷ vs) top objects h = by (λ o os q. placed_sound functions vs o os q) v.is_object
  where
    by : ((o : ℕ) (os : Objects) → IsSound functions os → IsSound functions (placed_objects vs o os)) → (b : Bool)
        → IsSound functions (placed_objects vs (if b then rounded_up 16 top + size_of_kind v.kind else top)
        (if b then with_new Automatic (rounded_up 16 top) (size_of_kind v.kind) objects else objects))
    by again false = again top objects h
    by again true = again (rounded_up 16 top + size_of_kind v.kind)
        (with_new Automatic (rounded_up 16 top) (size_of_kind v.kind) objects)
        (sound_new Automatic (rounded_up 16 top) (size_of_kind v.kind) objects h (omega arith))

pub placed_separate : (sizes : MapSizes) → AreMapped sizes → (vs : List Variable) (top : ℕ) (objects : Objects)
    → AreSeparate sizes top objects → objects_end vs top ≤ region_end sizes Stack
    → AreSeparate sizes (objects_end vs top) (placed_objects vs top objects)
placed_separate sizes mapped [] top objects h l = h
placed_separate sizes mapped (v ∷ vs) top objects h l =
    by (λ o os q m. placed_separate sizes mapped vs o os q m) v.is_object l
  where
    by : ((o : ℕ) (os : Objects) → AreSeparate sizes o os → objects_end vs o ≤ region_end sizes Stack
        → AreSeparate sizes (objects_end vs o) (placed_objects vs o os)) → (b : Bool)
        → objects_end vs (if b then rounded_up 16 top + size_of_kind v.kind else top) ≤ region_end sizes Stack
        → AreSeparate sizes (objects_end vs (if b then rounded_up 16 top + size_of_kind v.kind else top))
        (placed_objects vs (if b then rounded_up 16 top + size_of_kind v.kind else top)
        (if b then with_new Automatic (rounded_up 16 top) (size_of_kind v.kind) objects else objects))
    by again false m = again top objects h m
    by again true m =
        let a = rounded_up 16 top in let z = size_of_kind v.kind in
        let end = grows vs (a + z) in
        again (a + z) (with_new Automatic a z objects)
        (separate_automatic sizes top a z objects mapped h (omega arith) (omega arith)) m

-- ---- the homes

-- how many objects the block has
abbrev pub object_count : List Variable → ℕ
object_count [] = 0
object_count (v ∷ vs) = (if v.is_object then 1 else 0) + object_count vs

pub placed_count : (vs : List Variable) (top : ℕ) (objects : Objects)
    → length (placed_objects vs top objects) ≡ length objects + object_count vs
placed_count [] top objects = omega arith
placed_count (v ∷ vs) top objects = by (λ o os. placed_count vs o os) v.is_object
  where
    by : ((o : ℕ) (os : Objects) → length (placed_objects vs o os) ≡ length os + object_count vs) → (b : Bool)
        → length (placed_objects vs (if b then rounded_up 16 top + size_of_kind v.kind else top)
        (if b then with_new Automatic (rounded_up 16 top) (size_of_kind v.kind) objects else objects))
        ≡ length objects + ((if b then 1 else 0) + object_count vs)
    by again false = let e = again top objects in omega arith
    by again true =
        let many = length-new Automatic (rounded_up 16 top) (size_of_kind v.kind) objects in
        let e = again (rounded_up 16 top + size_of_kind v.kind)
        (with_new Automatic (rounded_up 16 top) (size_of_kind v.kind) objects) in
        omega arith

-- they are the numbers from one on
pub home_between : (vs : List Variable) (k n : ℕ) → IsHomeOf n (homes_from vs k) → (k ≤ n) × (n < k + object_count vs)
home_between [] k n h = absurd h
home_between (v ∷ vs) k n h = by (λ i q. home_between vs i n q) v.is_object h
  where
    by : ((i : ℕ) → IsHomeOf n (homes_from vs i) → (i ≤ n) × (n < i + object_count vs)) → (b : Bool)
        → IsHomeOf n ((if b then InObject k else NoObject) ∷ homes_from vs (if b then k + 1 else k))
        → (k ≤ n) × (n < k + ((if b then 1 else 0) + object_count vs))
    by again true q = ⊎_elim
        (λ e. (omega arith, omega arith))
        (λ r. (let x = again (k + 1) r in let lo = x.0 in let hi = x.1 in (omega arith, omega arith)))
        q
    by again false q = let x = again k q in let lo = x.0 in let hi = x.1 in (omega arith, omega arith)

pub between_home : (vs : List Variable) (k n : ℕ) → k ≤ n → n < k + object_count vs → IsHomeOf n (homes_from vs k)
between_home [] k n lo hi = absurd (omega arith)
between_home (v ∷ vs) k n lo hi = by (λ i l h. between_home vs i n l h) v.is_object hi
  where
    by : ((i : ℕ) → i ≤ n → n < i + object_count vs → IsHomeOf n (homes_from vs i)) → (b : Bool)
        → n < k + ((if b then 1 else 0) + object_count vs)
        → IsHomeOf n ((if b then InObject k else NoObject) ∷ homes_from vs (if b then k + 1 else k))
    by again true h = ⊎_elim
        (λ (e : n ≡ k). inl e)
        (λ ne. inr (again (k + 1) (omega (arith, ne)) (omega arith)))
        (cases_eq n k)
    by again false h = again k lo (omega arith)

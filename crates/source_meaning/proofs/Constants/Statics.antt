-- The static objects of a program whose initializers are constant.
use Rattle.std.proofs.Common.{◌≡◌, ℕ, zero, suc, ◌+◌, ◌/◌, ◌<◌, ◌≤◌, ◌^◌, List, [], ◌∷◌, length, replicate, Bool, true}
use Rattle.std.proofs.Common.{false, Some, Ok, refl, ap, sym, subst, ◌∙◌, arith}
use Rattle.std.specs.Prelude.{slice_get}
use Rattle.std.proofs.lemmas.List.{length-replicate}
use Rattle.addr_map.specs.Places.{AreMapped, region_start}
use Rattle.sb_base.specs.Budgets.{BudgetSizes}
use Rattle.obj_memory.specs.declared.object.Storage.TheVariants.{Static}
use Rattle.obj_memory.specs.declared.value.Tag.TheVariants.{Untagged}
use Rattle.obj_memory.specs.Heap.{rounded_up}
use Rattle.obj_memory.specs.Objects.{ObjectState, Objects, object_at, new_object, pointer_to}
use Rattle.c_tree.specs.Kinds.{size_of_kind}
use Rattle.c_tree.specs.Programs.{StaticObject, Program}
use Rattle.c_tree.specs.ValidProgram.{name_variables}
use Rattle.c_const.specs.Addresses.{Pointers}
use Rattle.c_const.specs.Contents.{Contents, zero_contents, with_parts, initial_contents}
use Rattle.source_meaning.specs.State.{Env, State, Run, Gives, on, choose, skip}
use Rattle.source_meaning.specs.Initializers.{store_parts}
use Rattle.source_meaning.specs.Places.{statics_first}
use Rattle.source_meaning.specs.Meaning.{placed_statics, statics_end, setting_of, fresh, static_env, store_statics}
use Rattle.source_meaning.specs.Meaning.{objects_after, initial_objects}
use Rattle.source_meaning.specs.Constants.Finding.{PointTo}
use Rattle.source_meaning.specs.Constants.Leaving.{IsConstant, AreConstant}
use Rattle.source_meaning.specs.Constants.Leaving.{filled, filled_all}
use Rattle.source_meaning.proofs.Constants.Changes.{contents_of, Changed}
use Rattle.source_meaning.proofs.Constants.Naming.{parts_unnamed}
use Rattle.source_meaning.proofs.Constants.Storing.{Leaves, parts_leave, pointers_stay}

-- an object that was just placed
record IsPlaced (o : StaticObject) (placed : ObjectState) : Type 0 where
  bytes : placed.bytes ≡ replicate (size_of_kind o.kind) 0
  tags : placed.tags ≡ replicate (size_of_kind o.kind / 8) Untagged
  low : placed.address + size_of_kind o.kind ≤ 2 ^ 64

-- the objects from a number on
abbrev ArePlaced : (n : ℕ) → List StaticObject → Objects → Type 0
ArePlaced n [] objects = Unit {0}
ArePlaced n (o ∷ os) objects = IsPlaced o (object_at objects n) × ArePlaced (suc n) os objects

starts_zero : (o : StaticObject) (s : ObjectState) → IsPlaced o s → contents_of s ≡ zero_contents (size_of_kind o.kind)
starts_zero o s h =
    let bytes = h.bytes in
    let tags = h.tags in
    cc

chosen : (b : Bool) (r : Run (Unit {0})) (n : ℕ) (c : Contents) (s : State) → b ≡ false → Leaves r n c s
    → Leaves (choose b skip r) n c s
chosen true r n c s e h = absurd cc
chosen false r n c s e h = h

leaves_of : (ps : Pointers) (o : StaticObject) (c : Contents) → initial_contents ps o ≡ Ok c
    → with_parts ps o.parts (zero_contents (size_of_kind o.kind)) ≡ Ok c
unfolding initial_contents
leaves_of ps o c e = e

-- one object
object_leaves : (ps : Pointers) (env : Env) (n : ℕ) (o : StaticObject) (c : Contents) (s : State) → IsConstant ps o c
    → IsPlaced o (object_at s.objects n) → n < length s.objects → PointTo ps s.objects
    → Leaves (choose (name_variables o.parts) skip (store_parts env (pointer_to n s.objects) o.parts)) n c s
object_leaves ps env n o c s h placed made at =
    let size : size_of_kind o.kind ≡ length (object_at s.objects n).bytes =
    sym (ap length placed.bytes ∙ length-replicate (size_of_kind o.kind) 0) in
    let low = placed.low in
    let starts : with_parts ps o.parts (contents_of (object_at s.objects n)) ≡ Ok c =
    ap (with_parts ps o.parts) (starts_zero o (object_at s.objects n) placed) ∙ leaves_of ps o c h.leaves in
    chosen (name_variables o.parts) _ n c s (parts_unnamed ps o.parts (contents_of (object_at s.objects n)) c starts)
    (parts_leave ps env n (pointer_to n s.objects) (size_of_kind o.kind) o.parts s c refl
    (record { made = made; low = omega (arith, low, size); pointers = at }) h.bytes size h.inside starts)

-- what is left of all objects from a number on: those before it stay, and each has its contents
record AllLeft (r : Run (Unit {0})) (n : ℕ) (cs : List Contents) (s : State) : Type 0 where
  after : State
  gives : r s ≡ Gives tt after
  before : (m : ℕ) → m < n → object_at after.objects m ≡ object_at s.objects m
  own : (k : ℕ) (c : Contents) → slice_get cs k ≡ Some c
      → object_at after.objects (n + k) ≡ filled c (object_at s.objects (n + k))
  count : length after.objects ≡ length s.objects

still_placed : (first n : ℕ) (os : List StaticObject) (c : Contents) (old new : Objects) → n < first
    → Changed n c old new
    → ArePlaced first os old → ArePlaced first os new
still_placed first n [] c old new lt h placed = tt
still_placed first n (o ∷ os) c old new lt h placed =
    let same = h.others first (λ e. absurd (omega (arith, e, lt))) in
    (subst (IsPlaced o) (sym same) placed.0, still_placed (suc first) n os c old new (omega (arith, lt)) h placed.1)

some_same : (c d : Contents) → Some c ≡ Some d → c ≡ d
some_same c d e = cc

statics_leave : (ps : Pointers) (env : Env) (n : ℕ) (os : List StaticObject) (cs : List Contents) (s : State)
    → AreConstant ps os cs
    → ArePlaced n os s.objects → n + length os ≤ length s.objects → PointTo ps s.objects
    → AllLeft (store_statics env n os) n cs s
statics_leave ps env n [] [] s h placed made at = record {
  after = s;
  gives = refl;
  before = λ m lt. refl;
  own = λ k c e. absurd (none k c e);
  count = refl;
}
  where
    none : (k : ℕ) (c : Contents) → slice_get (let xs : List Contents = [] in xs) k ≡ Some c → ⊥
    none zero c e = absurd cc
    none (suc k) c e = absurd cc
statics_leave ps env n [] (c ∷ cs) s h placed made at = absurd h
statics_leave ps env n (o ∷ os) [] s h placed made at = absurd h
statics_leave ps env n (o ∷ os) (c ∷ cs) s h placed made at =
    let first = object_leaves ps env n o c s h.0 placed.0 (omega (arith, made)) at in
    let count = first.changed.count in
    let next : n + 1 ≡ suc n = omega arith in
    let rest : AllLeft (store_statics env (n + 1) os) (n + 1) cs first.after =
    statics_leave ps env (n + 1) os cs first.after h.1
    (subst (λ i. ArePlaced i os first.after.objects) (sym next)
    (still_placed (suc n) n os c s.objects first.after.objects (omega arith) first.changed placed.1))
    (omega (arith, made, count)) (pointers_stay first.changed at) in
    record {
      after = rest.after;
      gives = ap (λ o'. on o' (λ _. store_statics env (n + 1) os)) first.gives ∙ rest.gives;
      before = λ m lt. rest.before m (omega (arith, lt)) ∙ first.changed.others m (λ e. absurd (omega (arith, e, lt)));
      own = own_of first rest;
      count = rest.count ∙ count;
    }
  where
    own_of : (first : Leaves (choose (name_variables o.parts) skip (store_parts env (pointer_to n s.objects) o.parts)) n
        c s)
        → (rest : AllLeft (store_statics env (n + 1) os) (n + 1) cs first.after)
        → (k : ℕ) (d : Contents) → slice_get (c ∷ cs) k ≡ Some d
        → object_at rest.after.objects (n + k) ≡ filled d (object_at s.objects (n + k))
    own_of first rest zero d e =
        let same : n + 0 ≡ n = omega arith in
        ap (object_at rest.after.objects) same ∙ rest.before n (omega arith) ∙ first.changed.own
        ∙ ap (λ x. filled x (object_at s.objects n)) (some_same c d e)
        ∙ ap (λ i. filled d (object_at s.objects i)) (sym same)
    own_of first rest (suc k) d e =
        let same : n + suc k ≡ n + 1 + k = omega arith in
        ap (object_at rest.after.objects) same ∙ rest.own k d e
        ∙ ap (filled d) (first.changed.others (n + 1 + k) (λ q. absurd (omega (arith, q))))
        ∙ ap (λ i. filled d (object_at s.objects i)) (sym same)

-- the objects of a program

-- static objects end no earlier than they begin
pub ends : (os : List StaticObject) (offset : ℕ) → offset ≤ statics_end os offset
ends [] offset = omega arith
ends (o ∷ os) offset = let rest = ends os (rounded_up 16 offset + size_of_kind o.kind) in omega (arith, rest)

is_new : (o : StaticObject) (address : ℕ) → address + size_of_kind o.kind ≤ 2 ^ 64
    → IsPlaced o (new_object Static address (size_of_kind o.kind))
unfolding new_object
is_new o address low = record { bytes = refl; tags = refl; low = low }

-- objects behind some others
are_behind : (first : ℕ) (os : List StaticObject) (offset n : ℕ) (all : Objects)
    → ((k : ℕ) → object_at all (n + k) ≡ object_at (placed_statics first os offset) k)
    → first + statics_end os offset ≤ 2 ^ 64 → ArePlaced n os all
are_behind first [] offset n all at low = tt
are_behind first (o ∷ os) offset n all at low =
    let end = ends os (rounded_up 16 offset + size_of_kind o.kind) in
    let same : n ≡ n + 0 = omega arith in
    let own = ap (object_at all) same ∙ at 0 in (
      subst (IsPlaced o) (sym own) (is_new o (first + rounded_up 16 offset) (omega (arith, end, low))),
      are_behind first os (rounded_up 16 offset + size_of_kind o.kind) (suc n) all
          (λ k. let next : suc n + k ≡ n + suc k = omega arith in ap (object_at all) next ∙ at (suc k)) low,
    )

count_placed : (first : ℕ) (os : List StaticObject) (offset : ℕ) → length (placed_statics first os offset) ≡ length os
count_placed first [] offset = refl
count_placed first (o ∷ os) offset =
    let rest = count_placed first os (rounded_up 16 offset + size_of_kind o.kind) in omega (arith, rest)

statics_low : (p : Program) (budgets : BudgetSizes) → statics_end p.statics 0 ≤ 0x400000
    → statics_first (setting_of p budgets) + statics_end p.statics 0 ≤ 2 ^ 64
unfolding region_start
statics_low p budgets small = omega (arith, small)

abbrev pub placed_of : Program → BudgetSizes → Objects
placed_of p budgets = placed_statics (statics_first (setting_of p budgets)) p.statics 0

-- what is left of all of them, where they take no more than 4 MiB
all_left : (p : Program) (budgets : BudgetSizes) (ps : Pointers) (cs : List Contents)
    → statics_end p.statics 0 ≤ 0x400000
    → PointTo ps (placed_of p budgets) → AreConstant ps p.statics cs
    → AllLeft (store_statics (static_env (setting_of p budgets)) 0 p.statics) 0 cs
    (fresh (setting_of p budgets) (placed_of p budgets) [])
all_left p budgets ps cs small at constant =
    let g = setting_of p budgets in
    let placed = placed_of p budgets in
    let count = count_placed (statics_first g) p.statics 0 in
    statics_leave ps (static_env g) 0 p.statics cs (fresh g placed []) constant
    (are_behind (statics_first g) p.statics 0 0 placed
    (λ k. let same : 0 + k ≡ k = omega arith in ap (object_at placed) same) (statics_low p budgets small))
    (omega (arith, count)) at

-- each object has its contents, and is else as it was placed
pub initial_object_is : (p : Program) (budgets : BudgetSizes) (ps : Pointers) (cs : List Contents)
    → statics_end p.statics 0 ≤ 0x400000
    → PointTo ps (placed_of p budgets) → AreConstant ps p.statics cs → (n : ℕ) (c : Contents) → slice_get cs n ≡ Some c
    → object_at (initial_objects p (setting_of p budgets)) n ≡ filled c (object_at (placed_of p budgets) n)
initial_object_is p budgets ps cs small at constant n c e =
    let placed = placed_of p budgets in
    let left = all_left p budgets ps cs small at constant in
    let same : n ≡ 0 + n = omega arith in
    ap (λ o. object_at (objects_after placed o) n) left.gives
    ∙ ap (object_at left.after.objects) same ∙ left.own n c e ∙ ap (λ i. filled c (object_at placed i)) (sym same)

pub initial_contents_are : (p : Program) (budgets : BudgetSizes) (ps : Pointers) (cs : List Contents)
    → AreMapped (setting_of p budgets).sizes
    → PointTo ps (placed_of p budgets) → AreConstant ps p.statics cs → (n : ℕ) (c : Contents) → slice_get cs n ≡ Some c
    → contents_of (object_at (initial_objects p (setting_of p budgets)) n) ≡ c
initial_contents_are p budgets ps cs mapped at constant n c e =
    ap contents_of (initial_object_is p budgets ps cs mapped.globals at constant n c e)

-- all of them

same_lists : (xs ys : Objects) → length xs ≡ length ys → ((k : ℕ) → k < length xs → object_at xs k ≡ object_at ys k)
    → xs ≡ ys
same_lists [] [] e h = refl
same_lists [] (y ∷ ys) e h = absurd (omega (arith, e))
same_lists (x ∷ xs) [] e h = absurd (omega (arith, e))
same_lists (x ∷ xs) (y ∷ ys) e h =
    ap (λ z. z ∷ xs) (h 0 (omega arith))
    ∙ ap (λ zs. y ∷ zs) (same_lists xs ys (omega (arith, e)) (λ k lt. h (suc k) (omega (arith, lt))))

count_filled : (cs : List Contents) (os : Objects) → length cs ≡ length os → length (filled_all cs os) ≡ length os
count_filled [] [] e = refl
count_filled [] (o ∷ os) e = absurd (omega (arith, e))
count_filled (c ∷ cs) [] e = absurd (omega (arith, e))
count_filled (c ∷ cs) (o ∷ os) e = omega (arith, count_filled cs os (omega (arith, e)))

filled_at : (cs : List Contents) (os : Objects) (k : ℕ) → length cs ≡ length os → k < length os
    → (c : Contents) × (slice_get cs k ≡ Some c) × (object_at (filled_all cs os) k ≡ filled c (object_at os k))
filled_at [] [] k e lt = absurd (omega (arith, lt))
filled_at [] (o ∷ os) k e lt = absurd (omega (arith, e))
filled_at (c ∷ cs) [] k e lt = absurd (omega (arith, e))
filled_at (c ∷ cs) (o ∷ os) zero e lt = (c, refl, refl)
filled_at (c ∷ cs) (o ∷ os) (suc k) e lt = filled_at cs os k (omega (arith, e)) (omega (arith, lt))

count_constant : (ps : Pointers) (os : List StaticObject) (cs : List Contents) → AreConstant ps os cs
    → length cs ≡ length os
count_constant ps [] [] h = refl
count_constant ps [] (c ∷ cs) h = absurd h
count_constant ps (o ∷ os) [] h = absurd h
count_constant ps (o ∷ os) (c ∷ cs) h = omega (arith, count_constant ps os cs h.1)

pub initial_objects_are : (p : Program) (budgets : BudgetSizes) (ps : Pointers) (cs : List Contents)
    → statics_end p.statics 0 ≤ 0x400000 → PointTo ps (placed_of p budgets) → AreConstant ps p.statics cs
    → initial_objects p (setting_of p budgets) ≡ filled_all cs (placed_of p budgets)
initial_objects_are p budgets ps cs small at constant =
    let g = setting_of p budgets in
    let placed = placed_of p budgets in
    let left = all_left p budgets ps cs small at constant in
    let known : initial_objects p g ≡ left.after.objects = ap (objects_after placed) left.gives in
    let count = count_placed (statics_first g) p.statics 0 in
    let same : length cs ≡ length placed = omega (arith, count, count_constant ps p.statics cs constant) in
    same_lists (initial_objects p g) (filled_all cs placed)
    (ap length known ∙ left.count ∙ sym (count_filled cs placed same))
    (λ k lt.
    let c = filled_at cs placed k same (omega (arith, lt, ap length known, left.count)) in
    initial_object_is p budgets ps cs small at constant k c.0 c.1 ∙ sym c.2)

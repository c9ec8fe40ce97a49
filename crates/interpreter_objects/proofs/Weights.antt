-- Blocks that weigh what the live blocks of objects weigh, and what changes both.
use Rattle.std.proofs.Common.{◌≡◌, ℕ, zero, suc, ◌+◌, ◌≤◌, Bool, true, false, ◌&&◌, ◌==◌, if◌then◌else◌, List, [], ◌∷◌}
use Rattle.std.proofs.Common.{◌++◌, length, take, drop, refl, sym, ap, ◌∙◌, arith}
use Rattle.std.proofs.lemmas.Bool.{eqb-true, eq-eqb}
use Rattle.std.proofs.lemmas.List.{take-append-drop}
use Rattle.std.specs.List.{insert, remove}
use Rattle.obj_memory.specs.declared.object.Storage.{Storage}
use Rattle.obj_memory.specs.declared.object.Storage.TheVariants.{Allocated}
use Rattle.obj_memory.specs.Heap.{block_count, block_room, is_allocated, is_live_block}
use Rattle.obj_memory.specs.Objects.{ObjectState, Objects, new_object, object_at, with_dead, with_new}
use Rattle.obj_memory.specs.Sound.{IsSameBut, KeepsObjects}
use Rattle.interpreter_objects.specs.declared.blocks.Block.{Block}
use Rattle.interpreter_objects.specs.Blocks.{AreLive, block_from, block_of, first_gap, gap_index, index_of, is_same}
use Rattle.interpreter_objects.specs.Blocks.{live_weight, weight, with_block, without}

weight_append : (f : Block → ℕ) (xs ys : List Block) → weight f (xs ++ ys) ≡ weight f xs + weight f ys
unfolding weight
weight_append f [] ys = omega arith
weight_append f (b ∷ bs) ys = let h = weight_append f bs ys in omega arith

weight_insert : (f : Block → ℕ) (bs : List Block) (i : ℕ) (x : Block) → weight f (insert bs i x) ≡ f x + weight f bs
unfolding weight
weight_insert f bs i x =
    let whole : weight f (take i bs) + weight f (drop i bs) ≡ weight f bs
    = sym (weight_append f (take i bs) (drop i bs)) ∙ ap (weight f) (take-append-drop i bs) in
    weight_append f (take i bs) (x ∷ drop i bs) ∙ omega (arith, whole)

-- a weight of one for each block that is the same as another
abbrev pub one_for : Block → Block → ℕ
one_for x b = if is_same x b then 1 else 0

first_of : (x y : Bool) → (x && y) ≡ true → x ≡ true
first_of true y h = refl
first_of false y h = h

second_of : (x y : Bool) → (x && y) ≡ true → y ≡ true
second_of true y h = h
second_of false y h = absurd (let e : false ≡ true = h in cc)

same_block : (x b : Block) → is_same x b ≡ true → b ≡ x
same_block x b h =
    ap (λ s. record { start = s; end = b.end }) (eqb-true b.start x.start (first_of _ _ h))
    ∙ ap (λ e. record { start = x.start; end = e }) (eqb-true b.end x.end (second_of (b.start == x.start) _ h))

is_itself : (x : Block) → is_same x x ≡ true
is_itself x = ap (λ b. b && (x.end == x.end)) (eq-eqb x.start x.start refl) ∙ eq-eqb x.end x.end refl

-- without a block that is there, the others weigh that much less
removed : (x : Block) (f : Block → ℕ) (bs : List Block) → 1 ≤ weight (one_for x) bs
    → weight f bs ≡ f x + weight f (without x bs)
unfolding weight without index_of
removed x f [] h = absurd (omega arith)
removed x f (b ∷ bs) h = by (removed x f bs) (is_same x b) refl
  where
    by : (1 ≤ weight (one_for x) bs → weight f bs ≡ f x + weight f (remove bs (index_of x bs))) → (c : Bool)
        → is_same x b ≡ c
        → f b + weight f bs ≡ f x + weight f (remove (b ∷ bs) (if c then 0 else suc (index_of x bs)))
    by others true e = ap (λ y. f y + weight f bs) (same_block x b e)
    by others false e =
        let there : 1 ≤ weight (one_for x) bs
        = let less = ap (λ c. (if c then 1 else 0) + weight (one_for x) bs) e in omega arith in
        let rest = others there in
        omega (arith, rest)

-- the live blocks of objects

live_append : (f : Block → ℕ) (objects : Objects) (o : ObjectState)
    → live_weight f (objects ++ (o ∷ [])) ≡ live_weight f objects + (if is_live_block o then f (block_of o) else 0)
unfolding live_weight
live_append f [] o = omega arith
live_append f (x ∷ xs) o = let h = live_append f xs o in omega arith

pub none_live : AreLive [] []
unfolding weight live_weight
none_live = record { same = λ f. refl }

new_live : (f : Block → ℕ) (address size : ℕ) (objects : Objects)
    → live_weight f (with_new Allocated address size objects)
    ≡ live_weight f objects + f (block_from address (block_room size))
unfolding with_new new_object
new_live f address size objects = live_append f objects (new_object Allocated address size)

pub made_live : (objects : Objects) (bs : List Block) (first size : ℕ) → AreLive objects bs
    → AreLive (with_new Allocated (first_gap first (block_room size) bs) size objects)
    (with_block first (block_room size) bs)
made_live objects bs first size h = record {
  same = λ f.
      let address = first_gap first (block_room size) bs in
      let more = weight_insert f bs (gap_index first (block_room size) bs) (block_from address (block_room size)) in
      let same = h.same f in
      let live = new_live f address size objects in
      more ∙ ap (λ n. f (block_from address (block_room size)) + n) same ∙ omega arith ∙ sym live;
}

-- an object that is no block
pub made_other : (storage : Storage) (address size : ℕ) (objects : Objects) (bs : List Block)
    → is_allocated storage ≡ false → AreLive objects bs → AreLive (with_new storage address size objects) bs
unfolding with_new new_object
made_other storage address size objects bs e h = record {
  same = λ f.
      h.same f
      ∙ sym (live_append f objects (new_object storage address size)
      ∙ ap (λ b. live_weight f objects + (if b && true then f (block_from address (block_room size)) else 0)) e
      ∙ omega arith);
}

-- a block that dies

not_live : (o : ObjectState) → is_live_block (record o { is_live = false }) ≡ false
not_live o = by (is_allocated o.storage)
  where
    by : (b : Bool) → (b && false) ≡ false
    by true = refl
    by false = refl

dead_less : (f : Block → ℕ) (objects : Objects) (n : ℕ) → is_live_block (object_at objects n) ≡ true
    → live_weight f objects ≡ f (block_of (object_at objects n)) + live_weight f (with_dead n objects)
unfolding live_weight with_dead
dead_less f [] n h = absurd (let e : false ≡ true = h in cc)
dead_less f (o ∷ os) zero h =
    ap (λ b. (if b then f (block_of o) else 0) + live_weight f os) h
    ∙ ap (λ n. f (block_of o) + n) (omega arith
    ∙ sym (ap (λ b. (if b then f (block_of o) else 0) + live_weight f os) (not_live o)))
dead_less f (o ∷ os) (suc n) h = let rest = dead_less f os n h in omega (arith, rest)

pub dead_live : (objects : Objects) (bs : List Block) (n : ℕ) → is_live_block (object_at objects n) ≡ true
    → AreLive objects bs → AreLive (with_dead n objects) (without (block_of (object_at objects n)) bs)
dead_live objects bs n live h = record {
  same = λ f.
      let x = block_of (object_at objects n) in
      let one : one_for x x ≡ 1 = ap (λ b. if b then 1 else 0) (is_itself x) in
      let counted = h.same (one_for x) in
      let there = dead_less (one_for x) objects n live in
      let less = removed x f bs (omega (arith, one, counted, there)) in
      let same = h.same f in
      let dead = dead_less f objects n live in
      omega (arith, less, same, dead);
}

-- any other object that dies
other_same : (f : Block → ℕ) (objects : Objects) (n : ℕ) → is_live_block (object_at objects n) ≡ false
    → live_weight f (with_dead n objects) ≡ live_weight f objects
unfolding live_weight with_dead
other_same f [] n h = refl
other_same f (o ∷ os) zero h =
    ap (λ b. (if b then f (block_of o) else 0) + live_weight f os) (not_live o)
    ∙ sym (ap (λ b. (if b then f (block_of o) else 0) + live_weight f os) h)
other_same f (o ∷ os) (suc n) h =
    ap (λ w. (if is_live_block o then f (block_of o) else 0) + w) (other_same f os n h)

pub dead_other : (objects : Objects) (bs : List Block) (n : ℕ) → is_live_block (object_at objects n) ≡ false
    → AreLive objects bs → AreLive (with_dead n objects) bs
dead_other objects bs n e h = record { same = λ f. h.same f ∙ sym (other_same f objects n e) }

-- what keeps objects keeps the blocks

later : (o x : ObjectState) (os xs : Objects) → KeepsObjects (o ∷ os) (x ∷ xs) → KeepsObjects os xs
later o x os xs k = record { count = omega (arith, k.count); at = λ n. k.at (suc n) }

one_kept : (f : Block → ℕ) (o x : ObjectState) → IsSameBut o x
    → (if is_live_block x then f (block_of x) else 0) ≡ (if is_live_block o then f (block_of o) else 0)
one_kept f o x s = rw (s.storage, s.live, s.address, s.size)

all_kept : (f : Block → ℕ) (old new : Objects) → KeepsObjects old new → live_weight f new ≡ live_weight f old
unfolding live_weight
all_kept f [] [] k = refl
all_kept f [] (x ∷ xs) k = absurd (let e = k.count in omega (arith, e))
all_kept f (o ∷ os) [] k = absurd (let e = k.count in omega (arith, e))
all_kept f (o ∷ os) (x ∷ xs) k =
    ap (λ w. w + live_weight f xs) (one_kept f o x (k.at 0))
    ∙ ap (λ w. (if is_live_block o then f (block_of o) else 0) + w) (all_kept f os xs (later o x os xs k))

pub kept_live : (old new : Objects) (bs : List Block) → KeepsObjects old new → AreLive old bs → AreLive new bs
kept_live old new bs k h = record { same = λ f. h.same f ∙ sym (all_kept f old new k) }

-- how many there are

count_weight : (bs : List Block) → weight (λ b. 1) bs ≡ length bs
unfolding weight
count_weight [] = refl
count_weight (b ∷ bs) = let h = count_weight bs in omega arith

live_count : (objects : Objects) → live_weight (λ b. 1) objects ≡ block_count objects
unfolding live_weight block_count
live_count [] = refl
live_count (o ∷ os) = ap (λ n. (if is_live_block o then 1 else 0) + n) (live_count os)

pub blocks_counted : (objects : Objects) (bs : List Block) → AreLive objects bs → length bs ≡ block_count objects
blocks_counted objects bs h = sym (count_weight bs) ∙ h.same (λ b. 1) ∙ live_count objects

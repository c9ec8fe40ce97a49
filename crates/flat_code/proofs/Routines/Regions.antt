-- How the spaces lie, in the form in which proofs of routines use it.
use Rattle.std.proofs.Common.{◌≡◌, ℕ, ◌+◌, ◌*◌, ◌%◌, ◌≤◌, true, false, not, ◌&&◌, ◌||◌, if◌then◌else◌, List}
use Rattle.std.proofs.Common.{[], ◌∷◌, ◌++◌}
use Rattle.std.proofs.Common.{refl, ap, ◌∙◌, arith}
use Rattle.std.specs.Prelude.{nat_le}
use Rattle.std.proofs.lemmas.Bool.{le-leb, lt-leb, and_from}
use Rattle.std.proofs.Math.Bool.{and-false, or-true}
use Rattle.behaviours.specs.Shown.{Access, AccessKind}
use Rattle.addr_map.specs.declared.region.Region.TheVariants.{Heap, Shadow, Locks, Blocks, Cells, StructureValues}
use Rattle.addr_map.specs.Places.{MapSizes, AreMapped, objects_begin, spaces_begin, region_size, region_start}
use Rattle.addr_map.specs.Places.{region_end}
use Rattle.flat_code.specs.Spaces.{is_of_objects, is_of_runtime, is_allowed}
use Rattle.flat_code.specs.Meaning.{Context}
use Rattle.flat_code.specs.Routines.Effects.{with_shown}

-- object space ends far below the spaces of the runtime, and the shadow space has 32 bytes for each of its words
pub record IsLaidOut (m : MapSizes) : Type 0 where
  pub some : objects_begin ≤ region_end m Heap
  pub small : region_end m Heap ≤ objects_begin + 25165824
  pub whole : region_end m Heap % 8 ≡ 0
  pub room : 4 * region_end m Heap ≤ spaces_begin + region_size m Shadow
  pub few : region_size m Shadow ≤ 134217728
  pub cells : spaces_begin + region_size m Shadow ≤ region_end m Cells

pub laid_out : (m : MapSizes) → AreMapped m → IsLaidOut m
unfolding region_size region_start
laid_out m h = record {
  some = omega arith;
  small = omega (arith, h.globals, h.budgets.stack.greatest, h.budgets.heap.greatest);
  whole = omega (arith, h.budgets.stack.whole, h.budgets.heap.whole);
  room = omega (arith, h.budgets.stack.whole, h.budgets.heap.whole);
  few = omega (arith, h.globals, h.budgets.stack.greatest, h.budgets.heap.greatest);
  cells = omega arith;
}

-- how the spaces of the runtime follow one another
pub record DoSpacesFollow (m : MapSizes) : Type 0 where
  pub shadow : region_start m Locks ≡ spaces_begin + region_size m Shadow
  pub locks : region_start m Locks ≤ region_start m Blocks
  pub table : region_start m Blocks + region_size m Blocks ≡ region_start m StructureValues

pub spaces_follow : (m : MapSizes) → DoSpacesFollow m
unfolding region_start
spaces_follow m = record { shadow = refl; locks = omega arith; table = refl }

-- an access of object space is allowed, at a place that is known by an equation
pub object_allowed : (m : MapSizes) (a b n : ℕ) → a ≡ b → objects_begin ≤ b → b + n ≤ region_end m Heap
    → is_allowed m a n ≡ true
object_allowed m a b n e lo hi =
    ap (λ x. is_allowed m x n) e
    ∙ ap (λ x. x || is_of_runtime m b n)
    (and_from (nat_le objects_begin b) (nat_le (b + n) (region_end m Heap)) (le-leb objects_begin b lo)
    (le-leb (b + n) (region_end m Heap) hi))

-- an access of the shadow space is allowed, and none of object space
pub shadow_allowed : (m : MapSizes) (a n : ℕ) → IsLaidOut m → spaces_begin ≤ a
    → a + n ≤ spaces_begin + region_size m Shadow → is_allowed m a n ≡ true
shadow_allowed m a n ok lo hi =
    let c = ok.cells in
    let one : nat_le spaces_begin a ≡ true = le-leb spaces_begin a lo in
    let two : nat_le (a + n) (region_end m Cells) ≡ true = le-leb (a + n) (region_end m Cells) (omega arith) in
    ap (λ b. is_of_objects m a n || (b && nat_le (a + n) (region_end m Cells))) one
    ∙ ap (λ b. is_of_objects m a n || b) two
    ∙ or-true (is_of_objects m a n)

pub shadow_not_shown : (c : Context) (a n : ℕ) (kind : AccessKind) (accesses : List Access) → IsLaidOut c.sizes
    → spaces_begin ≤ a → with_shown c a n kind accesses ≡ accesses
shadow_not_shown c a n kind accesses ok lo =
    let s = ok.small in
    let beyond : nat_le (a + n) (region_end c.sizes Heap) ≡ false =
    lt-leb (a + n) (region_end c.sizes Heap) (omega arith) in
    let none : is_of_objects c.sizes a n ≡ false =
    ap (λ b. nat_le objects_begin a && b) beyond ∙ and-false (nat_le objects_begin a) in
    let off : (not c.is_runtime && is_of_objects c.sizes a n) ≡ false =
    ap (λ b. not c.is_runtime && b) none ∙ and-false (not c.is_runtime) in
    ap (λ b. if b then accesses ++ record { address = a; size = n; kind = kind } ∷ [] else accesses) off

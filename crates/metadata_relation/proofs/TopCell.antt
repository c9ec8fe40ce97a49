-- The cell that has the end of the object stack is written, and nothing else of memory.
use Rattle.std.proofs.Common.{◌≡◌, ◌≢◌, ℕ, ◌+◌, ◌%◌, ◌^◌, ◌<◌, ◌≤◌, false, not, ◌&&◌, if◌then◌else◌, List, [], ◌∷◌}
use Rattle.std.proofs.Common.{◌++◌}
use Rattle.std.proofs.Common.{Some, sym, ap, ◌∙◌, arith}
use Rattle.std.specs.Prelude.{nat_le}
use Rattle.std.proofs.lemmas.Bool.{lt-leb}
use Rattle.std.proofs.Math.Bool.{and-false}
use Rattle.behaviours.specs.Shown.{Read, Write}
use Rattle.addr_map.specs.declared.region.Region.TheVariants.{Cells, Heap, Stack, StructureValues}
use Rattle.addr_map.specs.Places.{AreMapped, MapSizes, objects_begin, region_end, region_size, region_start}
use Rattle.addr_map.specs.Places.{spaces_begin}
use Rattle.rv_isa.specs.declared.instruction.LoadOp.TheVariants.{Ld}
use Rattle.rv_isa.specs.declared.instruction.StoreOp.TheVariants.{Sd}
use Rattle.rv_isa.specs.Results.{extended}
use Rattle.flat_code.specs.declared.instruction.FlatInstruction.TheVariants.{Load, Store}
use Rattle.flat_code.specs.declared.function.FlatProgram.{FlatProgram}
use Rattle.flat_code.specs.Calls.{function_in}
use Rattle.flat_code.specs.Meaning.{address_in, at_instruction, body_of, context, Fails, Goes, goes_to, instruction_at}
use Rattle.flat_code.specs.Meaning.{weight_of, with_access, with_register}
use Rattle.flat_code.specs.Memory.{load, put, store}
use Rattle.flat_code.specs.Spaces.{is_allowed, is_of_objects}
use Rattle.flat_code.specs.State as flat
use Rattle.flat_code.proofs.Stored.{put_other, put_same}
use Rattle.flat_code.specs.Routines.Routine.{HasAt}
use Rattle.flat_code.proofs.Routines.Spaces.Quiet.{space_allowed}
use Rattle.heap_space.proofs.Regions.{table_laid_out}
use Rattle.metadata_plan.proofs.Flat.{Comes, constant_comes, then_comes, weight_small}
use Rattle.metadata_relation.specs.Blocks.{read_top, top_cell, write_top}

-- where the cell lies
pub record IsCellPlace (m : MapSizes) : Type 0 where
  pub first : spaces_begin ≤ top_cell m
  pub behind : region_end m StructureValues ≤ top_cell m
  pub spaces : region_start m StructureValues ≤ top_cell m
  pub last : top_cell m + 8 ≤ region_end m Cells
  pub heap : region_end m Heap < top_cell m
  pub small : top_cell m < 2 ^ 64

pub cell_place : (m : MapSizes) → AreMapped m → IsCellPlace m
unfolding region_size region_start
cell_place m h = record {
  first = omega arith;
  behind = omega arith;
  spaces = omega arith;
  last = omega arith;
  heap = omega (arith, h.globals, h.budgets.stack.greatest, h.budgets.heap.greatest);
  small = (let small = (table_laid_out m h).small in omega arith);
}

-- the object stack ends low
pub stack_low : (m : MapSizes) → AreMapped m → region_end m Stack ≤ 1610612736
unfolding region_size region_start
stack_low m h = omega (arith, h.globals, h.budgets.stack.greatest)

module _ (m : MapSizes) (mapped : AreMapped m) (p : FlatProgram) (u : ℕ) (xs : List flat.Frame) where
  -- it is no byte of an object, and may be used
  none_of_objects : (a : ℕ) → region_end m Heap < a → is_of_objects m a 8 ≡ false
  none_of_objects a above =
      ap (λ b. nat_le objects_begin a && b) (lt-leb (a + 8) (region_end m Heap) (omega (arith, above)))
      ∙ and-false (nat_le objects_begin a)

  not_of_objects : is_of_objects m (top_cell m) 8 ≡ false
  not_of_objects = none_of_objects (top_cell m) (cell_place m mapped).heap

  pub cell_stored : (pc r x : ℕ) (v : flat.State) → instruction_at p u pc ≡ Some (Store Sd r 0 x)
      → v.values r ≡ top_cell m
      → Comes m p u pc v xs (pc + 1) (record v { memory = store 8 v.memory (top_cell m) (v.values x) }) 2
  cell_stored pc r x v e is =
      let place = cell_place m mapped in
      let small = place.small in
      let w = weight_of (function_in p u) in
      let at : address_in v r 0 ≡ top_cell m = omega arith in
      let c = context m p u xs in
      let t : ℕ → flat.State = λ a. record v { memory = store 8 v.memory a (v.values x); work = v.work + w } in
      record {
        steps = 1;
        work = w;
        few = weight_small (function_in p u);
        comes = ap (λ o. at_instruction m p o u pc v xs) e
            ∙ ap (λ a. goes_to m p (Store Sd r 0 x) u pc (record v { work = v.work + w }) xs
            (if is_allowed m a 8 then Goes (pc + 1) (with_access c a 8 Write (t a)) else Fails)) at
            ∙ ap (λ b. goes_to m p (Store Sd r 0 x) u pc (record v { work = v.work + w }) xs
            (if b then Goes (pc + 1) (with_access c (top_cell m) 8 Write (t (top_cell m))) else Fails))
            (space_allowed m (top_cell m) 8 place.first place.last)
            ∙ ap (λ b. flat.Stands u (pc + 1) (if not c.is_runtime && b
            then record (t (top_cell m)) {
              accesses = v.accesses ++ record { address = top_cell m; size = 8; kind = Write } ∷ [];
            } else t (top_cell m)) xs) not_of_objects
            ∙ ap (λ b. flat.Stands u (pc + 1) (if b
            then record (t (top_cell m)) {
              accesses = v.accesses ++ record { address = top_cell m; size = 8; kind = Write } ∷ [];
            } else t (top_cell m)) xs) (and-false (not c.is_runtime));
      }

  -- the cell gets what a register has
  pub top_written : (pc r x : ℕ) (v : flat.State) → HasAt (body_of (function_in p u)) pc (write_top m x r) → r ≢ x
      → Comes m p u pc v xs (pc + 2) (record v {
        values = put v.values r (top_cell m);
        memory = store 8 v.memory (top_cell m) (v.values x);
      }) 4
  top_written pc r x v has other =
      let place = cell_place m mapped in
      let small = place.small in
      let is : top_cell m % 2 ^ 64 ≡ top_cell m = omega arith in
      let one = constant_comes m p u pc v xs r (top_cell m) has.0 in
      let between : flat.State = record v { values = put v.values r (top_cell m % 2 ^ 64); work = v.work + one.work } in
      let two = cell_stored (pc + 1) r x between has.1.0 (put_same v.values r (top_cell m % 2 ^ 64) ∙ is) in
      let both = then_comes m p u pc v xs (pc + 1) (pc + 1 + 1) (record v { values = put v.values r (top_cell m % 2 ^ 64) })
      (record between { memory = store 8 v.memory (top_cell m) (put v.values r (top_cell m % 2 ^ 64) x) }) 2 2 one two in
      let place_is : pc + 1 + 1 ≡ pc + 2 = omega arith in
      record {
        steps = both.steps;
        work = both.work;
        few = both.few;
        comes = both.comes
            ∙ ap (λ z. flat.Stands u z (record v {
              values = put v.values r (top_cell m % 2 ^ 64);
              memory = store 8 v.memory (top_cell m) (put v.values r (top_cell m % 2 ^ 64) x);
              work = v.work + both.work;
            }) xs) place_is
            ∙ ap (λ z. flat.Stands u (pc + 2) (record v {
              values = put v.values r (top_cell m % 2 ^ 64);
              memory = store 8 v.memory (top_cell m) z;
              work = v.work + both.work;
            }) xs) (put_other v.values r (top_cell m % 2 ^ 64) x (λ e. other (sym e)))
            ∙ ap (λ z. flat.Stands u (pc + 2) (record v {
              values = put v.values r z;
              memory = store 8 v.memory (top_cell m) (v.values x);
              work = v.work + both.work;
            }) xs) is;
      }

  -- a register gets a word of the runtime's spaces
  pub space_loaded : (pc r y a : ℕ) (v : flat.State) → instruction_at p u pc ≡ Some (Load Ld r y 0)
      → v.values y ≡ a → region_end m Heap < a → spaces_begin ≤ a → a + 8 ≤ region_end m Cells → a < 2 ^ 64
      → Comes m p u pc v xs (pc + 1) (record v { values = put v.values r (load 8 v.memory a) }) 2
  unfolding extended
  space_loaded pc r y a v e is heap first last small =
      let w = weight_of (function_in p u) in
      let at : address_in v y 0 ≡ a = omega (arith, is, small) in
      let c = context m p u xs in
      let t : flat.State = record v { work = v.work + w } in
      let n = load 8 v.memory a in
      record {
        steps = 1;
        work = w;
        few = weight_small (function_in p u);
        comes = ap (λ o. at_instruction m p o u pc v xs) e
            ∙ ap (λ a. goes_to m p (Load Ld r y 0) u pc t xs (if is_allowed m a 8
            then Goes (pc + 1) (with_register r (load 8 v.memory a) (with_access c a 8 Read t)) else Fails)) at
            ∙ ap (λ b. goes_to m p (Load Ld r y 0) u pc t xs (if b
            then Goes (pc + 1) (with_register r n (with_access c a 8 Read t)) else Fails))
            (space_allowed m a 8 first last)
            ∙ ap (λ b. flat.Stands u (pc + 1) (with_register r n (if not c.is_runtime && b
            then record t { accesses = v.accesses ++ record { address = a; size = 8; kind = Read } ∷ [] }
            else t)) xs) (none_of_objects a heap)
            ∙ ap (λ b. flat.Stands u (pc + 1) (with_register r n (if b
            then record t { accesses = v.accesses ++ record { address = a; size = 8; kind = Read } ∷ [] }
            else t)) xs) (and-false (not c.is_runtime));
      }

  pub cell_loaded : (pc r y : ℕ) (v : flat.State) → instruction_at p u pc ≡ Some (Load Ld r y 0)
      → v.values y ≡ top_cell m
      → Comes m p u pc v xs (pc + 1) (record v { values = put v.values r (load 8 v.memory (top_cell m)) }) 2
  cell_loaded pc r y v e is =
      let place = cell_place m mapped in
      space_loaded pc r y (top_cell m) v e is place.heap place.first place.last place.small

  -- a register gets what the cell has
  pub top_read : (pc r : ℕ) (v : flat.State) → HasAt (body_of (function_in p u)) pc (read_top m r)
      → Comes m p u pc v xs (pc + 2) (record v {
        values = put (put v.values r (top_cell m)) r (load 8 v.memory (top_cell m));
      }) 4
  top_read pc r v has =
      let place = cell_place m mapped in
      let small = place.small in
      let is : top_cell m % 2 ^ 64 ≡ top_cell m = omega arith in
      let n = load 8 v.memory (top_cell m) in
      let one = constant_comes m p u pc v xs r (top_cell m) has.0 in
      let between : flat.State = record v { values = put v.values r (top_cell m % 2 ^ 64); work = v.work + one.work } in
      let two = cell_loaded (pc + 1) r r between has.1.0 (put_same v.values r (top_cell m % 2 ^ 64) ∙ is) in
      let both = then_comes m p u pc v xs (pc + 1) (pc + 1 + 1) (record v { values = put v.values r (top_cell m % 2 ^ 64) })
      (record between { values = put (put v.values r (top_cell m % 2 ^ 64)) r n }) 2 2 one two in
      let place_is : pc + 1 + 1 ≡ pc + 2 = omega arith in
      record {
        steps = both.steps;
        work = both.work;
        few = both.few;
        comes = both.comes
            ∙ ap (λ z. flat.Stands u z (record v {
              values = put (put v.values r (top_cell m % 2 ^ 64)) r n;
              work = v.work + both.work;
            }) xs) place_is
            ∙ ap (λ z. flat.Stands u (pc + 2) (record v {
              values = put (put v.values r z) r n;
              work = v.work + both.work;
            }) xs) is;
      }

-- The lists of both forms of the shadow space, and the places of a map, are numbers that the machine has.
use Rattle.std.proofs.Common.{inl, ℕ, ◌+◌, ◌-◌, ◌^◌, ◌<◌, ◌≤◌, arith, ◌∷◌, ◌++◌}
use Rattle.addr_map.specs.declared.region.Region.{Region}
use Rattle.addr_map.specs.declared.region.Region.TheVariants.{Stack, Locks, FreeLocks, Cells, StructureValues}
use Rattle.addr_map.specs.Places.{MapSizes, AreMapped, object_space, region_end}
use Rattle.rv_isa.specs.declared.instruction.RegOp.TheVariants.{Add}
use Rattle.rv_isa.specs.declared.instruction.BranchOp.TheVariants.{Beq, Bne}
use Rattle.flat_code.specs.declared.instruction.RightOperand.TheVariants.{Register, Number}
use Rattle.flat_code.specs.declared.instruction.FlatInstruction.TheVariants.{Constant, Operate, Branch}
use Rattle.flat_code.specs.declared.registers.Entry.{Entry}
use Rattle.flat_code.specs.Routines.Routine.{unless_code}
use Rattle.shadow_space.specs.Direct.{direct_read, direct_write, load_entry, store_entry}
use Rattle.shadow_space.specs.TwoLevel.Code.{look_up, take_table, two_level_read_behind, two_level_write_behind}
use Rattle.shadow_space.specs.TwoLevel.Tables.{first_table}
use Rattle.image_laws.specs.Encoding.Fitting.{AreFit, FitEntries, HasShortPlaces}
use Rattle.image_laws.proofs.Encoding.Parts.{fit_append, short}

-- every region ends below 0x60000000
pub short_places : (m : MapSizes) → AreMapped m → ((r : Region) → region_end m r < 0x60000000) → HasShortPlaces m
short_places m mapped low =
    let locks = low Locks in
    let free_locks = low FreeLocks in
    let cells = low Cells in
    let stack = low Stack in
    let values = low StructureValues in
    let calls = mapped.budgets.calls.greatest in
    let keys = mapped.budgets.keys in
    record {
      locks = omega (arith, locks);
      free_locks = omega (arith, free_locks);
      cells = omega (arith, cells);
      stack = omega (arith, stack);
      stack_end = omega (arith, stack);
      calls = omega (arith, calls);
      keys = omega (arith, keys);
      values = omega (arith, values);
    }

load_fits : (t : ℕ) (e : Entry) → AreFit (load_entry t e)
load_fits t e = (omega arith, (omega arith, (omega arith, (omega arith, tt))))

store_fits : (t : ℕ) (e : Entry) → AreFit (store_entry t e)
store_fits t e = (omega arith, (omega arith, (omega arith, (omega arith, tt))))

pub direct_fits : (m : MapSizes) → FitEntries (λ map. direct_read) (λ map. direct_write) m
direct_fits m = record {
  reads = λ at into t. (short 2 (omega arith), load_fits t into);
  writes = λ at from t. (short 2 (omega arith), store_fits t from);
}

look_fits : (a t f u : ℕ) → AreFit (look_up a t f u)
look_fits a t f u = (
  short 12 (omega arith),
  (
    short 52 (omega arith),
    (short 50 (omega arith), (short 3 (omega arith), (inl (omega arith), (omega arith, tt)))),
  ),
)

table_low : (m : MapSizes) → AreMapped m → first_table m < 2 ^ 31 - 2 ^ 11
table_low m mapped =
    let globals = mapped.globals in
    let stack = mapped.budgets.stack.greatest in
    let heap = mapped.budgets.heap.greatest in
    let space : object_space m ≤ 2 ^ 26 = omega (arith, globals, stack, heap) in
    omega (arith, space)

taken_fits : (m : MapSizes) → AreMapped m → (t : ℕ) → AreFit (take_table m t (t + 1) (t + 3) (t + 4))
taken_fits m mapped t = (
  inl (omega arith),
  (
    omega arith,
    (inl (omega arith), (omega arith, (inl (table_low m mapped), (omega arith, tt)))),
  ),
)

-- what stands behind the cell of the page
read_fits : (t u : ℕ) (e : Entry)
    → AreFit (Constant e.base 0 ∷ Constant e.bound 0 ∷ Constant e.key 0 ∷ Constant e.lock 0
    ∷ unless_code Beq t (Number 0) (Operate Add t t (Register u) ∷ load_entry t e))
read_fits t u e = (
  short 0 (omega arith),
  (
    short 0 (omega arith),
    (short 0 (omega arith), (short 0 (omega arith), (short 0 (omega arith), (tt, load_fits t e)))),
  ),
)

write_fits : (m : MapSizes) → AreMapped m → (t : ℕ) (e : Entry)
    → AreFit (Branch Bne t (Number 0) 10
    ∷ Branch Bne e.base (Number 0) 3
    ∷ Branch Bne e.bound (Number 0) 2
    ∷ Branch Bne e.key (Number 0) 1
    ∷ Branch Beq e.lock (Number 0) 11
    ∷ (take_table m t (t + 1) (t + 3) (t + 4) ++ Operate Add t t (Register (t + 2)) ∷ store_entry t e))
write_fits m mapped t e = (
  short 0 (omega arith),
  (
    short 0 (omega arith),
    (
      short 0 (omega arith),
      (
        short 0 (omega arith),
        (
          short 0 (omega arith),
          fit_append (take_table m t (t + 1) (t + 3) (t + 4)) (Operate Add t t (Register (t + 2)) ∷ store_entry t e)
              (taken_fits m mapped t) (tt, store_fits t e),
        ),
      ),
    ),
  ),
)

pub two_level_fits : (m : MapSizes) → AreMapped m → FitEntries two_level_read_behind two_level_write_behind m
two_level_fits m mapped = record {
  reads = λ at into t.
      fit_append (look_up at t (t + 1) (t + 2))
      (Constant into.base 0 ∷ Constant into.bound 0 ∷ Constant into.key 0 ∷ Constant into.lock 0
      ∷ unless_code Beq t (Number 0) (Operate Add t t (Register (t + 2)) ∷ load_entry t into))
      (look_fits at t (t + 1) (t + 2)) (read_fits t (t + 2) into);
  writes = λ at from t.
      fit_append (look_up at t (t + 1) (t + 2))
      (Branch Bne t (Number 0) 10
      ∷ Branch Bne from.base (Number 0) 3
      ∷ Branch Bne from.bound (Number 0) 2
      ∷ Branch Bne from.key (Number 0) 1
      ∷ Branch Beq from.lock (Number 0) 11
      ∷ (take_table m t (t + 1) (t + 3) (t + 4) ++ Operate Add t t (Register (t + 2)) ∷ store_entry t from))
      (look_fits at t (t + 1) (t + 2)) (write_fits m mapped t from);
}

-- The tests of a call whose callee's body has objects: the run goes on behind them, or ends with `Stack` or `Keys`.
use Rattle.std.proofs.Common.{◌≡◌, ◌≢◌, ℕ, ◌+◌, ◌-◌, ◌*◌, ◌/◌, ◌%◌, ◌^◌, ◌<◌, ◌≤◌, Bool, true, false, not, List}
use Rattle.std.proofs.Common.{◌∷◌, ◌++◌, length, Some, refl, ap, ap₂, ◌∙◌, arith, subst}
use Rattle.std.proofs.Common.{inl, inr, sym, lt-ltb, le-ltb, le-leb, true≢false, []}
use Rattle.std.proofs.Math.Nat.{le-min, min-le_left}
use Rattle.std.specs.Prelude.{◌==◌, ◌||◌, if◌then◌else◌, min, nat_le, nat_lt}
use Rattle.std.proofs.lemmas.Bool.Decides.{leb_tells}
use Rattle.std.proofs.lemmas.Nat.{and_mask}
use Rattle.std.proofs.lemmas.Bool.{lt-leb}
use Rattle.sb_base.specs.declared.ending.Ending.{Ending}
use Rattle.sb_base.specs.declared.ending.Ending.TheVariants.{Keys, Stack}
use Rattle.addr_map.specs.declared.region.Region.TheVariants.{Cells, Heap, Stack as StackRegion}
use Rattle.addr_map.specs.Places.{AreMapped, MapSizes, region_end, region_size, region_start, spaces_begin}
use Rattle.obj_memory.specs.Heap.{rounded_up}
use Rattle.c_tree.specs.declared.program.Variable.{Variable}
use Rattle.c_tree.specs.Kinds.{size_of_kind}
use Rattle.source_meaning.specs.State.{Ended, Header, Outcome, Rvalue, Setting, State}
use Rattle.source_meaning.specs.Calls.{body_objects, set_up}
use Rattle.source_meaning.specs.Places.{stack_end}
use Rattle.source_meaning.specs.Blocks.{has_objects, objects_end}
use Rattle.tac_ir.specs.Stage.{came, Frame, Over, Stage, Temps}
use Rattle.tac_ir.specs.declared.function.CodeFunction.{CodeFunction}
use Rattle.tac_ir.specs.Costs.{fourfold, spent}
use Rattle.tac_ir.specs.Meaning.{begun}
use Rattle.words.specs.Operations.{shifted_left, sum}
use Rattle.rv_isa.specs.declared.instruction.RegOp.{RegOp}
use Rattle.rv_isa.specs.declared.instruction.RegOp.TheVariants.{Add, And, Sll, Sltu, Srl}
use Rattle.rv_isa.specs.declared.instruction.BranchOp.TheVariants.{Beq, Bltu, Bne}
use Rattle.rv_isa.specs.Results.{bit_of, reg_result}
use Rattle.flat_code.specs.declared.instruction.RightOperand.{RightOperand}
use Rattle.flat_code.specs.declared.instruction.RightOperand.TheVariants.{Register, Number}
use Rattle.flat_code.specs.declared.instruction.FlatInstruction.{FlatInstruction}
use Rattle.flat_code.specs.declared.instruction.FlatInstruction.TheVariants.{Branch, Constant, End, Operate}
use Rattle.flat_code.specs.declared.function.FlatProgram.{FlatProgram}
use Rattle.flat_code.specs.Memory.{Bytes, load, put}
use Rattle.flat_code.specs.State as flat
use Rattle.flat_code.specs.Calls.{function_in}
use Rattle.flat_code.specs.Meaning.{body_of, instruction_at, right_value}
use Rattle.flat_code.proofs.Stored.{put_same, put_other}
use Rattle.flat_operators.specs.Operators.{wide_code}
use Rattle.flat_code.specs.Routines.Objects.StandsFor.{Keys as ObjectKeys}
use Rattle.flat_code.specs.Routines.Routine.{HasAt}
use Rattle.flat_code.proofs.Routines.Steps.{has_front}
use Rattle.lock_space.specs.Locks.{key_counter, keys_cell}
use Rattle.lib_wrappers.specs.AllocatingRoutines.Allocating.{keys_code, key_test}
use Rattle.lib_wrappers.specs.AllocatingRoutines.Entering.{block_bytes, round_code}
use Rattle.lib_wrappers.proofs.AllocatingRoutines.FreeLocks.{stack_laid_out}
use Rattle.lib_wrappers.proofs.AllocatingRoutines.SourceEntries.{end_by_bytes}
use Rattle.metadata_plan.specs.Expanded.{Falls}
use Rattle.metadata_plan.proofs.Calling.{below}
use Rattle.metadata_plan.proofs.Flat.{Comes, branch_passed_comes, branch_taken_comes, constant_comes, next_comes}
use Rattle.metadata_plan.proofs.Flat.{at_place, leads_comes, operate_comes, then_comes, weaker}
use Rattle.metadata_relation.specs.Blocks.{object_tests, objects_of_body, space_test, top_cell, units_tests}
use Rattle.metadata_relation.specs.Blocks.{unknown_object_tests}
use Rattle.metadata_relation.specs.FunctionTypes.{object_units}
use Rattle.metadata_relation.specs.Registers.{first_free}
use Rattle.metadata_relation.specs.Stages.{Compiled, factor, IsAt, map_of, names, StandsIn}
use Rattle.metadata_relation.specs.Steps.{IsCompiled}
use Rattle.metadata_relation.proofs.CalleeTests.{differs, equal, masked, shifted}
use Rattle.metadata_relation.proofs.Ranges.{Told}
use Rattle.metadata_relation.proofs.RoomTests.{added}
use Rattle.metadata_relation.proofs.Standing.{ends_where, good_now, Result}
use Rattle.metadata_relation.proofs.TopCell.{space_loaded, stack_low, top_read}

shifted_up : (x n : ℕ) → reg_result Sll x n ≡ shifted_left 64 x (n % 64)
unfolding reg_result
shifted_up x n = refl

compared : (x y : ℕ) → reg_result Sltu x y ≡ bit_of (nat_lt x y)
unfolding reg_result
compared x y = refl

-- where the counter of keys lies
record IsCounterPlace (m : MapSizes) : Type 0 where
  heap : region_end m Heap < keys_cell m
  first : spaces_begin ≤ keys_cell m
  last : keys_cell m + 8 ≤ region_end m Cells
  small : keys_cell m < 2 ^ 64

counter_place : (m : MapSizes) → AreMapped m → IsCounterPlace m
unfolding region_size region_start
counter_place m h = record {
  heap = omega (arith, h.globals, h.budgets.stack.greatest, h.budgets.heap.greatest);
  first = omega arith;
  last = omega arith;
  small = omega (arith, h.globals, h.budgets.stack.greatest, h.budgets.heap.greatest, h.budgets.blocks);
}

module _ (m : MapSizes) (mapped : AreMapped m) (p : FlatProgram) (u pc : ℕ) (v : flat.State) (xs : List flat.Frame) where
  abbrev body : List FlatInstruction
  body = body_of (function_in p u)

  abbrev ComesTo : (place : ℕ) → (values : flat.Values) → (most : ℕ) → Type 0
  ComesTo place values most = Comes m p u pc v xs place (record v { values = values }) most

  -- ---- one instruction more

  operated : (q most : ℕ) (a : flat.Values) (op : RegOp) (x y : ℕ) (z : RightOperand) → ComesTo q a most
      → instruction_at p u q ≡ Some (Operate op x y z)
      → ComesTo (q + 1) (put a x (reg_result op (a y) (right_value z a))) (most + 2)
  operated q most a op x y z k e =
      next_comes m p u pc v xs q (q + 1) (record v { values = a })
      (record v { values = put a x (reg_result op (a y) (right_value z a)) }) most 2 k
      (λ w. (let b = operate_comes m p u q (record v { values = a; work = w }) xs op x y z e in
      record { steps = b.steps; work = b.work; few = b.few; comes = b.comes }))

  put_in : (q most : ℕ) (a : flat.Values) (x n : ℕ) → ComesTo q a most → instruction_at p u q ≡ Some (Constant x n)
      → ComesTo (q + 1) (put a x (n % 2 ^ 64)) (most + 2)
  put_in q most a x n k e =
      next_comes m p u pc v xs q (q + 1) (record v { values = a }) (record v { values = put a x (n % 2 ^ 64) }) most 2 k
      (λ w. (let b = constant_comes m p u q (record v { values = a; work = w }) xs x n e in
      record { steps = b.steps; work = b.work; few = b.few; comes = b.comes }))

  -- a register has a number, and the others are as they were
  record IsAfter (a : flat.Values) (place most x n : ℕ) : Type 0 where
    values : flat.Values
    comes : ComesTo place values most
    gives : values x ≡ n
    others : (y : ℕ) → y ≢ x → values y ≡ a y

  rounds : (q most : ℕ) (a : flat.Values) (s n : ℕ) → ComesTo q a most → HasAt body q (round_code s s) → a s ≡ n
      → n < 2 ^ 32 → IsAfter a (q + 1 + 1 + 1) (most + 2 + 2 + 2) s (rounded_up 16 n)
  rounds q most a s n k has is low =
      let b = put a s (reg_result Add (a s) (15 % 2 ^ 64)) in
      let d = put b s (reg_result Srl (b s) (4 % 2 ^ 64)) in
      let k1 = operated q most a Add s s (Number 15) k has.0 in
      let k2 = operated (q + 1) (most + 2) b Srl s s (Number 4) k1 has.1.0 in
      let b_is : b s ≡ (n + 15) % 2 ^ 64 = put_same a s _ ∙ added (a s) (15 % 2 ^ 64) ∙ ap (λ z. sum 64 z 15) is in
      let d_is : d s ≡ b s / 2 ^ 4 = put_same b s _ ∙ shifted (b s) (4 % 2 ^ 64) in
      record {
        values = put d s (reg_result Sll (d s) (4 % 2 ^ 64));
        comes = operated (q + 1 + 1) (most + 2 + 2) d Sll s s (Number 4) k2 has.1.1.0;
        gives =
            let e : put d s (reg_result Sll (d s) (4 % 2 ^ 64)) s ≡ (d s * 2 ^ 4) % 2 ^ 64 =
            put_same d s _ ∙ shifted_up (d s) (4 % 2 ^ 64) in
            omega (arith, e, d_is, b_is, low);
        others = λ y ne. put_other d s _ y ne ∙ put_other b s _ y ne ∙ put_other a s _ y ne;
      }

  -- twenty bits more of a number
  appends : (q most : ℕ) (a : flat.Values) (x n w : ℕ) → ComesTo q a most
      → instruction_at p u q ≡ Some (Operate Sll x x (Number 20))
      → instruction_at p u (q + 1) ≡ Some (Operate Add x x (Number n)) → a x ≡ w → w < 2 ^ 43 → n < 2 ^ 20
      → IsAfter a (q + 1 + 1) (most + 2 + 2) x (w * 2 ^ 20 + n)
  appends q most a x n w k first second is low few =
      let b = put a x (reg_result Sll (a x) (20 % 2 ^ 64)) in
      let k1 = operated q most a Sll x x (Number 20) k first in
      let b_is : b x ≡ (w * 2 ^ 20) % 2 ^ 64 =
      put_same a x _ ∙ shifted_up (a x) (20 % 2 ^ 64) ∙ ap (λ z. shifted_left 64 z 20) is in
      record {
        values = put b x (reg_result Add (b x) (n % 2 ^ 64));
        comes = operated (q + 1) (most + 2) b Add x x (Number n) k1 second;
        gives =
            let e : put b x (reg_result Add (b x) (n % 2 ^ 64)) x ≡ (b x + n % 2 ^ 64) % 2 ^ 64 =
            put_same b x _ ∙ added (b x) (n % 2 ^ 64) in
            omega (arith, e, b_is, low, few);
        others = λ y ne. put_other b x _ y ne ∙ put_other a x _ y ne;
      }

  wide : (q most : ℕ) (a : flat.Values) (x w : ℕ) → ComesTo q a most → HasAt body q (wide_code x w) → w ≤ 2 ^ 62
      → IsAfter a (q + 1 + 1 + 1 + 1 + 1) (most + 2 + 2 + 2 + 2 + 2) x w
  wide q most a x w k has low =
      let b = put a x ((w / 2 ^ 40) % 2 ^ 64) in
      let k1 = put_in q most a x (w / 2 ^ 40) k has.0 in
      let b_is : b x ≡ w / 2 ^ 40 = (let e = put_same a x ((w / 2 ^ 40) % 2 ^ 64) in omega (arith, e, low)) in
      let one = appends (q + 1) (most + 2) b x (w / 2 ^ 20 % 2 ^ 20) (w / 2 ^ 40) k1 has.1.0 has.1.1.0 b_is
      (omega (arith, low)) (omega arith) in
      let one_is : one.values x ≡ w / 2 ^ 20 = (let e = one.gives in omega (arith, e)) in
      let two = appends (q + 1 + 1 + 1) (most + 2 + 2 + 2) one.values x (w % 2 ^ 20) (w / 2 ^ 20) one.comes has.1.1.1.0
      has.1.1.1.1.0 one_is (omega (arith, low)) (omega arith) in
      record {
        values = two.values;
        comes = two.comes;
        gives = (let e = two.gives in omega (arith, e));
        others = λ y ne. two.others y ne ∙ one.others y ne ∙ put_other a x _ y ne;
      }

  -- ---- whether a key is left

  -- registers below are as they were, and one tells by 0 or 1
  record IsCounted (a : flat.Values) (place most s n : ℕ) : Type 0 where
    values : flat.Values
    comes : ComesTo place values most
    gives : values s ≡ n
    others : (y : ℕ) → y < s → values y ≡ a y

  counts : (q most : ℕ) (a : flat.Values) (s made : ℕ) → ComesTo q a most → HasAt body q (keys_code m s (s + 1))
      → load 8 v.memory (keys_cell m) ≡ made
      → IsCounted a (q + 1 + 1 + 1 + 1 + 1 + 1 + 1 + 1 + 1) (most + 18) s (bit_of (nat_lt made m.budgets.keys))
  counts q most a s made k has is =
      let place = counter_place m mapped in
      let small = place.small in
      let low : m.budgets.keys ≤ 2 ^ 62 = mapped.budgets.keys in
      let cell = keys_cell m in
      let b = put a (s + 1) (cell % 2 ^ 64) in
      let at : b (s + 1) ≡ cell = (let e = put_same a (s + 1) (cell % 2 ^ 64) in omega (arith, e, small)) in
      let k1 = put_in q most a (s + 1) cell k has.0 in
      let d = put b (s + 1) (load 8 v.memory cell) in
      let k2 = next_comes m p u pc v xs (q + 1) (q + 1 + 1) (record v { values = b }) (record v { values = d }) (most + 2) 2
      k1
      (λ w. (let l = space_loaded m mapped p u xs (q + 1) (s + 1) (s + 1) cell (record v { values = b; work = w })
      has.1.0 at place.heap place.first place.last small in
      record { steps = l.steps; work = l.work; few = l.few; comes = l.comes })) in
      let one = wide (q + 1 + 1) (most + 2 + 2) d s m.budgets.keys k2 (
        has.1.1.0,
        (
          has.1.1.1.0,
          (
            has.1.1.1.1.0,
            (has.1.1.1.1.1.0, (has.1.1.1.1.1.1.0, tt)),
          ),
        ),
      ) low in
      let here = q + 1 + 1 + 1 + 1 + 1 + 1 + 1 in
      let f = put one.values s (reg_result Sltu (one.values (s + 1)) (one.values s)) in
      let k3 = operated here (most + 2 + 2 + 2 + 2 + 2 + 2 + 2) one.values Sltu s (s + 1) (Register s) one.comes
      has.1.1.1.1.1.1.1.0 in
      let k4 = operated (here + 1) (most + 2 + 2 + 2 + 2 + 2 + 2 + 2 + 2) f Add (s + 1) (s + 1) (Number 2) k3
      has.1.1.1.1.1.1.1.1.0 in
      let made_is : one.values (s + 1) ≡ made =
      one.others (s + 1) (λ e. omega (arith, e)) ∙ put_same b (s + 1) (load 8 v.memory cell) ∙ is in
      let few : most + 2 + 2 + 2 + 2 + 2 + 2 + 2 + 2 + 2 ≡ most + 18 = omega arith in
      record {
        values = put f (s + 1) (reg_result Add (f (s + 1)) (2 % 2 ^ 64));
        comes = subst (λ z. ComesTo (here + 1 + 1) (put f (s + 1) (reg_result Add (f (s + 1)) (2 % 2 ^ 64))) z) few k4;
        gives = put_other f (s + 1) _ s (λ e. omega (arith, e)) ∙ put_same one.values s _
            ∙ compared (one.values (s + 1)) (one.values s) ∙ ap₂ (λ x y. bit_of (nat_lt x y)) made_is one.gives;
        others = λ y lt. put_other f (s + 1) _ y (λ e. omega (arith, lt, e))
            ∙ put_other one.values s _ y (λ e. omega (arith, lt, e)) ∙ one.others y (λ e. omega (arith, lt, e))
            ∙ put_other b (s + 1) _ y (λ e. omega (arith, lt, e)) ∙ put_other a (s + 1) _ y (λ e. omega (arith, lt, e));
      }

  -- ---- the tests of the room and of the keys

  branched : (q r most : ℕ) (a : flat.Values) → ComesTo q a most
      → ((w : ℕ) → Comes m p u q (record v { values = a; work = w }) xs r (record v { values = a; work = w }) 2)
      → ComesTo r a (most + 2)
  branched q r most a k next =
      next_comes m p u pc v xs q r (record v { values = a }) (record v { values = a }) most 2 k
      (λ w. (let b = next w in record { steps = b.steps; work = b.work; few = b.few; comes = b.comes }))

  -- the run comes behind the tests, or to an ending: room is tested first
  pub record IsObjectTested (line s behind_tests most : ℕ) (room key : Bool) : Type 0 where
    pub values : flat.Values
    pub others : (y : ℕ) → y < s → values y ≡ v.values y
    pub place : ℕ
    pub comes : ComesTo place values most
    pub behind : room ≡ true → key ≡ true → place ≡ behind_tests
    pub no_room : room ≡ false → instruction_at p u place ≡ Some (End (Stack line))
    pub no_key : room ≡ true → key ≡ false → instruction_at p u place ≡ Some (End (Keys line))

  abbrev room_and_key : (line s : ℕ) → List FlatInstruction
  room_and_key line s =
      Branch Bltu s (Register (s + 1)) 1 ∷ End (Stack line) ∷ (keys_code m s (s + 1) ++ key_test s line)

  module _ (line s q most made : ℕ) (a : flat.Values) (k : ComesTo q a most) (has : HasAt body q (room_and_key line s))
      (counted : load 8 v.memory (keys_cell m) ≡ made) (kept : (y : ℕ) → y < s → a y ≡ v.values y) where
    counted_at : ComesTo (q + 1 + 1) a (most + 2)
        → IsCounted a (q + 1 + 1 + 1 + 1 + 1 + 1 + 1 + 1 + 1 + 1 + 1) (most + 2 + 18) s (bit_of (nat_lt made m.budgets.keys))
    counted_at k1 =
        counts (q + 1 + 1) (most + 2) a s made k1 (has_front body (q + 1 + 1) (keys_code m s (s + 1)) (key_test s line)
        has.1.1) counted

    by_key : (b : Bool) → nat_lt made m.budgets.keys ≡ b → ComesTo (q + 1 + 1) a (most + 2)
        → IsObjectTested line s (q + 13) (most + 22) true b
    by_key true e k1 =
        let c = counted_at k1 in
        let here = q + 1 + 1 + 1 + 1 + 1 + 1 + 1 + 1 + 1 + 1 + 1 in
        let one : c.values s ≡ 1 = c.gives ∙ ap bit_of e in
        record {
          values = c.values;
          others = λ y lt. c.others y lt ∙ kept y lt;
          place = here + 1 + 1;
          comes = weaker m p u pc v xs (here + 1 + 1) (record v { values = c.values }) (most + 2 + 18 + 2) (most + 22)
              (branched here (here + 1 + 1) (most + 2 + 18) c.values c.comes
              (λ w. branch_taken_comes m p u here (record v { values = c.values; work = w }) xs Bne s (Number 0) 1
              has.1.1.1.1.1.1.1.1.1.1.1.0 (differs (c.values s) (0 % 2 ^ 64) true (ap (λ n. not (n == 0)) one))))
              (omega arith);
          behind = λ r t. omega arith;
          no_room = λ no. cc;
          no_key = λ r no. cc;
        }
    by_key false e k1 =
        let c = counted_at k1 in
        let here = q + 1 + 1 + 1 + 1 + 1 + 1 + 1 + 1 + 1 + 1 + 1 in
        let none : c.values s ≡ 0 = c.gives ∙ ap bit_of e in
        record {
          values = c.values;
          others = λ y lt. c.others y lt ∙ kept y lt;
          place = here + 1;
          comes = weaker m p u pc v xs (here + 1) (record v { values = c.values }) (most + 2 + 18 + 2) (most + 22)
              (branched here (here + 1) (most + 2 + 18) c.values c.comes
              (λ w. branch_passed_comes m p u here (record v { values = c.values; work = w }) xs Bne s (Number 0) 1
              has.1.1.1.1.1.1.1.1.1.1.1.0 (differs (c.values s) (0 % 2 ^ 64) false (ap (λ n. not (n == 0)) none))))
              (omega arith);
          behind = λ r no. cc;
          no_room = λ no. cc;
          no_key = λ r is. has.1.1.1.1.1.1.1.1.1.1.1.1.0;
        }

    by_room : (r b : Bool) → nat_lt (a s) (a (s + 1)) ≡ r → nat_lt made m.budgets.keys ≡ b
        → IsObjectTested line s (q + 13) (most + 22) r b
    by_room true b e f =
        by_key b f
        (branched q (q + 1 + 1) most a k
        (λ w. branch_taken_comes m p u q (record v { values = a; work = w }) xs Bltu s (Register (s + 1)) 1 has.0
        (below (a s) (a (s + 1)) true e)))
    by_room false b e f = record {
      values = a;
      others = kept;
      place = q + 1;
      comes = weaker m p u pc v xs (q + 1) (record v { values = a }) (most + 2) (most + 22)
          (branched q (q + 1) most a k
          (λ w. branch_passed_comes m p u q (record v { values = a; work = w }) xs Bltu s (Register (s + 1)) 1 has.0
          (below (a s) (a (s + 1)) false e)))
          (omega arith);
      behind = λ no t. cc;
      no_room = λ is. has.1.0;
      no_key = λ no t. cc;
    }

  -- ---- the lists

  abbrev stack : ℕ
  stack = region_end m StackRegion

  -- where a sum fits a number is below what is left
  fits_below : (base bytes : ℕ) (r : Bool) → nat_le (base + bytes) stack ≡ r → nat_lt base (stack + 1 - bytes) ≡ r
  fits_below base bytes r e = by (leb_tells (base + bytes) stack)
    where
      by : Told (base + bytes) stack → nat_lt base (stack + 1 - bytes) ≡ r
      by (inl p) = lt-ltb base (stack + 1 - bytes) (let z = p.1 in omega (arith, z)) ∙ sym p.0 ∙ e
      by (inr p) = le-ltb base (stack + 1 - bytes) (let z = p.1 in omega (arith, z)) ∙ sym p.0 ∙ e

  module _ (line s stacked made : ℕ) (top : load 8 v.memory (top_cell m) ≡ stacked) (inside : stacked ≤ stack)
      (counted : load 8 v.memory (keys_cell m) ≡ made) where
    -- objects of so many bytes, which are known
    pub space_tested : (bytes : ℕ)
        → HasAt body pc (space_test m bytes line s ++ (keys_code m s (s + 1) ++ key_test s line))
        → (r b : Bool) → nat_le (rounded_up 16 stacked + bytes) stack ≡ r → nat_lt made m.budgets.keys ≡ b
        → IsObjectTested line s (pc + 19) 34 r b
    space_tested bytes has r b e f =
        let low = stack_low m mapped in
        let a0 = put (put v.values s (top_cell m)) s (load 8 v.memory (top_cell m)) in
        let k0 = at_place m p u pc v xs (pc + 2) (pc + 1 + 1) (record v { values = a0 }) 4
        (top_read m mapped p u xs pc s v (has.0, (has.1.0, tt))) (omega arith) in
        let q = pc + 1 + 1 + 1 + 1 + 1 in
        let one = rounds (pc + 1 + 1) 4 a0 s stacked k0 (has.1.1.0, (has.1.1.1.0, (has.1.1.1.1.0, tt)))
        (put_same (put v.values s (top_cell m)) s _ ∙ top) (omega (arith, low, inside)) in
        let limit = stack + 1 - bytes in
        let a = put one.values (s + 1) (limit % 2 ^ 64) in
        let k1 = put_in q 10 one.values (s + 1) limit one.comes has.1.1.1.1.1.0 in
        let limit_is : a (s + 1) ≡ limit =
        (let z = put_same one.values (s + 1) (limit % 2 ^ 64) in omega (arith, z, low)) in
        let base_is : a s ≡ rounded_up 16 stacked =
        put_other one.values (s + 1) _ s (λ e. omega (arith, e)) ∙ one.gives in
        let t = by_room line s (q + 1) 12 made a k1 has.1.1.1.1.1.1 counted
        (λ y lt. put_other one.values (s + 1) _ y (λ e. omega (arith, lt, e)) ∙ one.others y (λ e. omega (arith, lt, e))
        ∙ put_other (put v.values s (top_cell m)) s _ y (λ e. omega (arith, lt, e))
        ∙ put_other v.values s _ y (λ e. omega (arith, lt, e)))
        r b (ap₂ nat_lt base_is limit_is ∙ fits_below (rounded_up 16 stacked) bytes r e) f in
        let there : q + 1 + 13 ≡ pc + 19 = omega arith in
        record {
          values = t.values;
          others = t.others;
          place = t.place;
          comes = t.comes;
          behind = λ x y. t.behind x y ∙ there;
          no_room = t.no_room;
          no_key = t.no_key;
        }

    -- objects of so many units of 16 bytes, which a register has
    pub units_tested : (units : ℕ) → v.values (s + 1) ≡ units → units < 2 ^ 32 → HasAt body pc (units_tests m line s)
        → (r b : Bool) → nat_le (rounded_up 16 stacked + 16 * units) stack ≡ r → nat_lt made m.budgets.keys ≡ b
        → IsObjectTested line s (pc + 21) 38 r b
    units_tested units is few has r b e f =
        let low = stack_low m mapped in
        let cell = top_cell m in
        let c = put v.values (s + 1) (reg_result Sll (v.values (s + 1)) (4 % 2 ^ 64)) in
        let kc = operate_comes m p u pc v xs Sll (s + 1) (s + 1) (Number 4) has.0 in
        let c_is : c (s + 1) ≡ (units * 2 ^ 4) % 2 ^ 64 =
        put_same v.values (s + 1) _ ∙ shifted_up (v.values (s + 1)) (4 % 2 ^ 64) ∙ ap (λ z. shifted_left 64 z 4) is in
        let a0 = put (put c s cell) s (load 8 v.memory cell) in
        let k0 = next_comes m p u pc v xs (pc + 1) (pc + 1 + 1 + 1) (record v { values = c }) (record v { values = a0 }) 2 4
        kc
        (λ w. (let z = at_place m p u (pc + 1) (record v { values = c; work = w }) xs (pc + 1 + 2) (pc + 1 + 1 + 1)
        (record v { values = a0; work = w }) 4
        (top_read m mapped p u xs (pc + 1) s (record v { values = c; work = w }) (has.1.0, (has.1.1.0, tt)))
        (omega arith) in
        record { steps = z.steps; work = z.work; few = z.few; comes = z.comes })) in
        let q = pc + 1 + 1 + 1 + 1 + 1 + 1 in
        let one = rounds (pc + 1 + 1 + 1) 6 a0 s stacked k0 (has.1.1.1.0, (has.1.1.1.1.0, (has.1.1.1.1.1.0, tt)))
        (put_same (put c s cell) s _ ∙ top) (omega (arith, low, inside)) in
        let d = put one.values s (reg_result Add (one.values s) (one.values (s + 1))) in
        let k1 = operated q 12 one.values Add s s (Register (s + 1)) one.comes has.1.1.1.1.1.1.0 in
        let units_are : one.values (s + 1) ≡ (units * 2 ^ 4) % 2 ^ 64 =
        one.others (s + 1) (λ e. omega (arith, e)) ∙ put_other (put c s cell) s _ (s + 1) (λ e. omega (arith, e))
        ∙ put_other c s cell (s + 1) (λ e. omega (arith, e)) ∙ c_is in
        let d_is : d s ≡ rounded_up 16 stacked + 16 * units =
        (let z = put_same one.values s _ ∙ added (one.values s) (one.values (s + 1)) in
        let g = one.gives in omega (arith, z, g, units_are, few, low, inside)) in
        let a = put d (s + 1) ((stack + 1) % 2 ^ 64) in
        let k2 = put_in (q + 1) 14 d (s + 1) (stack + 1) k1 has.1.1.1.1.1.1.1.0 in
        let limit_is : a (s + 1) ≡ stack + 1 - 0 =
        (let z = put_same d (s + 1) ((stack + 1) % 2 ^ 64) in omega (arith, z, low)) in
        let base_is : a s ≡ rounded_up 16 stacked + 16 * units =
        put_other d (s + 1) _ s (λ e. omega (arith, e)) ∙ d_is in
        let sum_is : rounded_up 16 stacked + 16 * units + 0 ≡ rounded_up 16 stacked + 16 * units = omega arith in
        let t = by_room line s (q + 1 + 1) 16 made a k2 has.1.1.1.1.1.1.1.1 counted
        (λ y lt. put_other d (s + 1) _ y (λ e. omega (arith, lt, e))
        ∙ put_other one.values s _ y (λ e. omega (arith, lt, e)) ∙ one.others y (λ e. omega (arith, lt, e))
        ∙ put_other (put c s cell) s _ y (λ e. omega (arith, lt, e)) ∙ put_other c s cell y (λ e. omega (arith, lt, e))
        ∙ put_other v.values (s + 1) _ y (λ e. omega (arith, lt, e)))
        r b
        (ap₂ nat_lt base_is limit_is
        ∙ fits_below (rounded_up 16 stacked + 16 * units) 0 r (ap (λ z. nat_le z stack) sum_is ∙ e)) f in
        let there : q + 1 + 1 + 13 ≡ pc + 21 = omega arith in
        record {
          values = t.values;
          others = t.others;
          place = t.place;
          comes = t.comes;
          behind = λ x y. t.behind x y ∙ there;
          no_room = t.no_room;
          no_key = t.no_key;
        }

-- ---- a callee that a pointer names

module _ (m : MapSizes) (mapped : AreMapped m) (p : FlatProgram) (u pc : ℕ) (v : flat.State) (xs : List flat.Frame)
    (r line s stacked made units : ℕ) (apart : r + 5 ≤ s) (top : load 8 v.memory (top_cell m) ≡ stacked)
    (inside : stacked ≤ region_end m StackRegion) (counted : load 8 v.memory (keys_cell m) ≡ made)
    (told : v.values (r + 3) / 2 ^ 12 % 2 ^ 19 ≡ units)
    (has : HasAt (body_of (function_in p u)) pc (unknown_object_tests m (r + 3) line s)) where
  -- it has objects, with their units in its key
  pub some_units_tested : (units == 0) ≡ false
      → (room b : Bool) → nat_le (rounded_up 16 stacked + 16 * units) (region_end m StackRegion) ≡ room
      → nat_lt made m.budgets.keys ≡ b
      → IsObjectTested m mapped p u pc v xs line s (pc + 24) 44 room b
  some_units_tested some room b e f =
      let key = v.values (r + 3) in
      let a = put v.values (s + 1) (reg_result Srl key (12 % 2 ^ 64)) in
      let d = put a (s + 1) (reg_result And (a (s + 1)) ((2 ^ 19 - 1) % 2 ^ 64)) in
      let is : d (s + 1) ≡ units = put_same a (s + 1) _
      ∙ ap (λ z. reg_result And z ((2 ^ 19 - 1) % 2 ^ 64)) (put_same v.values (s + 1) _ ∙ shifted key (12 % 2 ^ 64))
      ∙ masked (key / 2 ^ 12) ((2 ^ 19 - 1) % 2 ^ 64) ∙ and_mask (key / 2 ^ 12) 19 ∙ told in
      let k1 = operated m mapped p u pc v xs (pc + 1) 2 a And (s + 1) (s + 1) (Number (2 ^ 19 - 1))
      (operate_comes m p u pc v xs Srl (s + 1) (r + 3) (Number 12) has.0) has.1.0 in
      let k2 = branched m mapped p u pc v xs (pc + 1 + 1) (pc + 1 + 1 + 1) 4 d k1
      (λ w. branch_passed_comes m p u (pc + 1 + 1) (record v { values = d; work = w }) xs Beq (s + 1) (Number 0)
      (length (units_tests m line s)) has.1.1.0
      (equal (d (s + 1)) (0 % 2 ^ 64) false (ap (λ n. n == 0) is ∙ some))) in
      let w : flat.State = record v { values = d; work = v.work + k2.work } in
      let few : units < 2 ^ 32 = omega (arith, told) in
      let t = units_tested m mapped p u (pc + 1 + 1 + 1) w xs line s stacked made top inside counted units is few
      has.1.1.1 room b e f in
      let j = t.comes in
      record {
        values = t.values;
        others = λ y lt. t.others y lt ∙ put_other a (s + 1) _ y (λ e. omega (arith, lt, e))
            ∙ put_other v.values (s + 1) _ y (λ e. omega (arith, lt, e));
        place = t.place;
        comes = then_comes m p u pc v xs (pc + 1 + 1 + 1) t.place (record v { values = d })
            (record v { values = t.values }) 6 38 k2
            (record { steps = j.steps; work = j.work; few = j.few; comes = j.comes });
        behind = λ x y. (let z = t.behind x y in omega (arith, z));
        no_room = t.no_room;
        no_key = t.no_key;
      }

-- Units tell what bytes do, since the object stack ends at a whole unit, and it never has as many as the most that are
-- told.
module _ (m : MapSizes) (mapped : AreMapped m) (stacked : ℕ) (bottom : region_start m StackRegion ≤ stacked) where
  abbrev first : ℕ
  first = rounded_up 16 stacked

  abbrev end : ℕ
  end = region_end m StackRegion

  units_of : (bytes : ℕ) → nat_le (first + 16 * min (rounded_up 16 bytes / 16) (2 ^ 18 + 1)) end ≡ nat_le (first + bytes) end
  units_of bytes = by (leb_tells (first + bytes) end)
    where
      by : Told (first + bytes) end
          → nat_le (first + 16 * min (rounded_up 16 bytes / 16) (2 ^ 18 + 1)) end ≡ nat_le (first + bytes) end
      by (inl p) =
          let lie = stack_laid_out m mapped in
          let start = lie.aligned in
          let size = lie.whole in
          let ends = lie.ends in
          let le = p.1 in
          let most = min-le_left (rounded_up 16 bytes / 16) (2 ^ 18 + 1) in
          le-leb (first + 16 * min (rounded_up 16 bytes / 16) (2 ^ 18 + 1)) end
          (omega (arith, most, le, start, size, ends)) ∙ sym p.0
      by (inr p) =
          let lie = stack_laid_out m mapped in
          let ends = lie.ends in
          let more = p.1 in
          let stack = mapped.budgets.stack.greatest in
          let low = bottom in
          let least : end + 1 - first ≤ 16 * min (rounded_up 16 bytes / 16) (2 ^ 18 + 1) =
          (let z : (end + 1 - first + 15) / 16 ≤ min (rounded_up 16 bytes / 16) (2 ^ 18 + 1) =
          le-min (omega (arith, more)) (omega (arith, ends, stack, low)) in omega (arith, z)) in
          lt-leb (first + 16 * min (rounded_up 16 bytes / 16) (2 ^ 18 + 1)) end (omega (arith, least)) ∙ sym p.0

  pub units_fit : (k : CodeFunction) → has_objects (objects_of_body k) ≡ true
      → nat_le (rounded_up 16 stacked + 16 * object_units k) (region_end m StackRegion)
      ≡ nat_le (rounded_up 16 stacked + block_bytes (objects_of_body k)) (region_end m StackRegion)
  units_fit k some =
      ap (λ b. nat_le (first + 16 * (if b then min (rounded_up 16 (block_bytes (objects_of_body k)) / 16) (2 ^ 18 + 1)
      else 0)) end) some ∙ units_of (block_bytes (objects_of_body k))

-- ---- how the source's meaning ends

-- the objects of the body do not fit on the object stack
pub space_spent : (g : Setting) (f : Header) (vs : List Rvalue) (line : ℕ) (s : State)
    → nat_le (s.charged + f.room) g.sizes.budgets.calls ≡ true
    → nat_le (objects_end (body_objects f) s.stacked) (stack_end g) ≡ false
    → set_up g f vs line s ≡ Ended (Stack line) (record s { work = s.work + 1 })
space_spent g f vs line s fits space = rw (fits, space) refl

-- no key is left for them
pub keys_spent : (g : Setting) (f : Header) (vs : List Rvalue) (line : ℕ) (s : State)
    → nat_le (s.charged + f.room) g.sizes.budgets.calls ≡ true
    → nat_le (objects_end (body_objects f) s.stacked) (stack_end g) ≡ true
    → has_objects (body_objects f) ≡ true → nat_lt s.keys g.sizes.budgets.keys ≡ false
    → set_up g f vs line s ≡ Ended (Keys line) (record s { work = s.work + 1 })
keys_spent g f vs line s fits space some none = rw (fits, space, some, none) refl

module _ (c : Compiled) (IsGood : Bytes → Type 0) (u n : ℕ) (temps : Temps) (ws : List Frame) (s : State)
    (v : flat.State) (xs : List flat.Frame) (h : IsAt c IsGood u n temps ws s u (c.layout.address u n) v xs) where
  -- the run ends where a test has failed
  pub ends_at : (e : Ending) (s' : State) (q most turns : ℕ) (values : flat.Values)
      → Comes (map_of c) c.layout.program u (c.layout.address u n) v xs q
      (record v { turns = turns; values = values }) most
      → instruction_at c.layout.program u q ≡ Some (End e)
      → (s'.input ≡ s.input) × (s'.output ≡ s.output) × (s'.taken ≡ s.taken) × (s'.accesses ≡ s.accesses)
      → s'.turns ≤ turns → most + 2 + factor * s.work ≤ factor * s'.work
      → Result c IsGood (Over e s') (flat.Stands u (c.layout.address u n) v xs)
  ends_at = ends_where c IsGood u (c.layout.address u n) s v xs h.stands.for.shown h.work

-- ---- before a call at a node, where nothing of memory was written

-- without objects the object stack ends where it did
pub end_same : (vs : List Variable) (top : ℕ) → has_objects vs ≡ false → objects_end vs top ≡ top
end_same [] top none = refl
end_same (x ∷ vs) top none = by x.is_object refl (λ e. end_same vs top e)
  where
    by : (b : Bool) → x.is_object ≡ b → (has_objects vs ≡ false → objects_end vs top ≡ top)
        → objects_end (x ∷ vs) top ≡ top
    by true is rest = absurd (true≢false (sym (ap (λ z. z || has_objects vs) is) ∙ none))
    by false is rest =
        ap (λ z. objects_end vs (if z then rounded_up 16 top + size_of_kind x.kind else top)) is
        ∙ rest (sym (ap (λ z. z || has_objects vs) is) ∙ none)

module _ (c : Compiled) (IsGood : Bytes → Type 0) (right : IsCompiled c IsGood) (u : ℕ) (xs : List flat.Frame)
    (keys : ObjectKeys) (s : State) (v : flat.State) (stands : StandsIn c IsGood keys s v)
    (inside : s.stacked ≤ region_end (map_of c) StackRegion) (q : ℕ) (w : flat.State) (same : w.memory ≡ v.memory)
    (line scratch : ℕ) where
  abbrev pub Tested : (behind_tests most : ℕ) → (room key : Bool) → Type 0
  Tested there most room key =
      IsObjectTested (map_of c) right.mapped c.layout.program u q w xs line scratch there most room key

  abbrev pub has_room : List Variable → Bool
  has_room vs = nat_le (objects_end vs s.stacked) (stack_end c.setting)

  abbrev pub has_key : Bool
  has_key = nat_lt s.keys c.setting.sizes.budgets.keys

  pub top_is : load 8 w.memory (top_cell (map_of c)) ≡ s.stacked
  top_is = ap (λ z. load 8 z (top_cell (map_of c))) same ∙ stands.top

  pub counted_is : load 8 w.memory (keys_cell (map_of c)) ≡ s.keys
  counted_is =
      let counter : key_counter (map_of c) v.memory ≡ 2 + keys.made = stands.for.objects.counted in
      let made = stands.for.keys in
      ap (λ z. load 8 z (keys_cell (map_of c))) same ∙ omega (arith, counter, made)

  pub key_same : nat_lt s.keys (map_of c).budgets.keys ≡ has_key
  key_same = sym (ap (λ (z : MapSizes). nat_lt s.keys z.budgets.keys) right.sizes)

  -- no objects always fit
  pub none_fit : (vs : List Variable) → has_objects vs ≡ false → has_room vs ≡ true
  none_fit vs none =
      ap (λ z. nat_le (objects_end vs s.stacked) (region_end z StackRegion)) right.sizes
      ∙ ap (λ z. nat_le z (region_end (map_of c) StackRegion)) (end_same vs s.stacked none)
      ∙ le-leb s.stacked (region_end (map_of c) StackRegion) inside

  -- the room that objects have by their bytes
  pub room_same : (vs : List Variable) → has_objects vs ≡ true
      → nat_le (rounded_up 16 s.stacked + block_bytes vs) (region_end (map_of c) StackRegion) ≡ has_room vs
  room_same vs some =
      ap (λ z. nat_le z (region_end (map_of c) StackRegion)) (sym (end_by_bytes vs s.stacked some))
      ∙ sym (ap (λ z. nat_le (objects_end vs s.stacked) (region_end z StackRegion)) right.sizes)

  -- The run is behind the tests just where those of the source's meaning pass.
  pub objects_tested : (vs : List Variable)
      → HasAt (body_of (function_in c.layout.program u)) q (object_tests (map_of c) vs line scratch)
      → Tested (q + length (object_tests (map_of c) vs line scratch)) 34 (has_room vs)
      (not (has_objects vs) || has_key)
  objects_tested vs = by (has_objects vs) refl
    where
      by : (b : Bool) → has_objects vs ≡ b
          → HasAt (body_of (function_in c.layout.program u)) q (if b
          then space_test (map_of c) (block_bytes vs) line scratch
          ++ (keys_code (map_of c) scratch (scratch + 1) ++ key_test scratch line)
          else [])
          → Tested (q + length (if b
          then space_test (map_of c) (block_bytes vs) line scratch
          ++ (keys_code (map_of c) scratch (scratch + 1) ++ key_test scratch line)
          else [])) 34 (has_room vs) (not b || has_key)
      by true some has =
          space_tested (map_of c) right.mapped c.layout.program u q w xs line scratch s.stacked s.keys top_is
          inside counted_is (block_bytes vs) has (has_room vs) has_key (room_same vs some) key_same
      by false none has =
          let space = none_fit vs none in
          record {
            values = w.values;
            others = λ y lt. refl;
            place = q;
            comes = weaker (map_of c) c.layout.program u q w xs q w 2 34
                (leads_comes (map_of c) c.layout.program u q w xs q (Falls refl)) (omega arith);
            behind = λ x y. omega arith;
            no_room = λ no. absurd (true≢false (sym space ∙ no));
            no_key = λ x no. cc;
          }

-- ---- the run ends at a call by name

module _ (c : Compiled) (IsGood : Bytes → Type 0) (right : IsCompiled c IsGood) (u n : ℕ) (temps : Temps)
    (ws : List Frame) (s : State) (v : flat.State) (xs : List flat.Frame)
    (h : IsAt c IsGood u n temps ws s u (c.layout.address u n) v xs) (f : Header) (arguments : List Rvalue)
    (line paid : ℕ) (next : Unit {0} → State → Stage) where
  -- where the callee would go on
  abbrev pub GivesCall : Outcome (Unit {0}) → Type 0
  GivesCall o =
      Result c IsGood (came (fourfold (s.work + paid) o) next) (flat.Stands u (c.layout.address u n) v xs)

  abbrev pub call_set_up : Outcome (Unit {0})
  call_set_up = set_up c.setting f arguments line (begun (spent paid s))

  pub stops_at : (e : Ending) → call_set_up ≡ Ended e (record (begun (spent paid s)) { work = s.work + paid + 1 })
      → (q most : ℕ) (values : flat.Values)
      → Comes (map_of c) c.layout.program u (c.layout.address u n) v xs q
      (record v { turns = v.turns + 1; values = values }) most
      → instruction_at c.layout.program u q ≡ Some (End e) → most ≤ 82 → GivesCall call_set_up
  stops_at e is q most values k at few =
      let z : State = record (begun (spent paid s)) { work = s.work + paid + 1 } in
      let turned = h.stands.turns in
      subst GivesCall (sym is)
      (ends_at c IsGood u n temps ws s v xs h e (spent (3 * (z.work - (s.work + paid))) z) q most (v.turns + 1) values k at
      (refl, refl, refl, refl) (omega (arith, turned)) (omega (arith, few)))

  module _ (q most : ℕ) (a : flat.Values)
      (k : Comes (map_of c) c.layout.program u (c.layout.address u n) v xs q
      (record v { turns = v.turns + 1; values = a }) most)
      (has : HasAt (body_of (function_in c.layout.program u)) q
      (object_tests (map_of c) (body_objects f) line (first_free h.code)))
      (fits : nat_le (s.charged + f.room) c.setting.sizes.budgets.calls ≡ true) (few : most ≤ 48) where
    abbrev w : flat.State
    w = record v { turns = v.turns + 1; values = a; work = v.work + k.work }

    abbrev pub there : ℕ
    there = q + length (object_tests (map_of c) (body_objects f) line (first_free h.code))

    -- the run from the node on, where the room and the keys are tested so
    pub record IsTestedHere (room key : Bool) : Type 0 where
      pub values : flat.Values
      pub others : (y : ℕ) → y < first_free h.code → values y ≡ a y
      pub place : ℕ
      pub comes : Comes (map_of c) c.layout.program u (c.layout.address u n) v xs place
          (record v { turns = v.turns + 1; values = values }) (most + 34)
      pub behind : room ≡ true → key ≡ true → place ≡ there
      pub no_room : room ≡ false → instruction_at c.layout.program u place ≡ Some (End (Stack line))
      pub no_key : room ≡ true → key ≡ false → instruction_at c.layout.program u place ≡ Some (End (Keys line))

    pub tested_here : IsTestedHere (nat_le (objects_end (body_objects f) s.stacked) (stack_end c.setting))
        (not (has_objects (body_objects f)) || nat_lt s.keys c.setting.sizes.budgets.keys)
    tested_here =
        let t = objects_tested c IsGood right u xs h.keys s v h.stands (good_now (names c) u ws s h.steady.good).separate.top q w
        refl line (first_free h.code) (body_objects f) has in
        let j = t.comes in
        record {
          values = t.values;
          others = t.others;
          place = t.place;
          comes = then_comes (map_of c) c.layout.program u (c.layout.address u n) v xs q t.place
              (record v { turns = v.turns + 1; values = a }) (record v { turns = v.turns + 1; values = t.values }) most 34 k
              (record { steps = j.steps; work = j.work; few = j.few; comes = j.comes });
          behind = t.behind;
          no_room = t.no_room;
          no_key = t.no_key;
        }

    pub no_room_stops : nat_le (objects_end (body_objects f) s.stacked) (stack_end c.setting) ≡ false
        → GivesCall call_set_up
    no_room_stops none =
        let t = tested_here in
        stops_at (Stack line) (space_spent c.setting f arguments line (begun (spent paid s)) fits none) t.place (most + 34)
        t.values t.comes (t.no_room none) (omega (arith, few))

    pub no_key_stops : nat_le (objects_end (body_objects f) s.stacked) (stack_end c.setting) ≡ true
        → has_objects (body_objects f) ≡ true → nat_lt s.keys c.setting.sizes.budgets.keys ≡ false
        → GivesCall call_set_up
    no_key_stops space some none =
        let t = tested_here in
        stops_at (Keys line) (keys_spent c.setting f arguments line (begun (spent paid s)) fits space some none) t.place
        (most + 34) t.values t.comes
        (t.no_key space (ap (λ b. not b || nat_lt s.keys c.setting.sizes.budgets.keys) some ∙ none)) (omega (arith, few))

-- The tests of the room of a callee that a pointer names: the numbers come out of the key.
use Rattle.std.proofs.Common.{◌≡◌, ℕ, ◌+◌, ◌-◌, ◌/◌, ◌%◌, ◌^◌, ◌<◌, ◌≤◌, Bool, true, false, List}
use Rattle.std.proofs.Common.{length, Some, refl, ap, ap₂, ◌∙◌, arith, mod-eq_of_lt}
use Rattle.std.specs.Prelude.{◌==◌, nat_lt}
use Rattle.std.proofs.lemmas.Nat.{and_mask}
use Rattle.addr_map.specs.Places.{MapSizes}
use Rattle.sb_base.specs.declared.ending.Ending.TheVariants.{Stack}
use Rattle.rv_isa.specs.declared.instruction.RegOp.TheVariants.{Add, And, Srl}
use Rattle.rv_isa.specs.declared.instruction.BranchOp.TheVariants.{Beq, Bltu}
use Rattle.rv_isa.specs.Results.{branch_taken, reg_result, wrap}
use Rattle.words.specs.Operations.{sum}
use Rattle.flat_code.specs.declared.instruction.RightOperand.TheVariants.{Register, Number}
use Rattle.flat_code.specs.declared.instruction.FlatInstruction.TheVariants.{End}
use Rattle.flat_code.specs.declared.function.FlatProgram.{FlatProgram}
use Rattle.flat_code.specs.Memory.{put}
use Rattle.flat_code.specs.State as flat
use Rattle.flat_code.specs.Calls.{function_in, charged}
use Rattle.flat_code.specs.Meaning.{body_of, instruction_at}
use Rattle.flat_code.proofs.Stored.{put_same, put_other}
use Rattle.flat_code.specs.Routines.Routine.{HasAt}
use Rattle.metadata_plan.proofs.Calling.{below}
use Rattle.metadata_plan.proofs.Flat.{Comes, next_comes, turn_comes, charged_comes, operate_comes, branch_taken_comes}
use Rattle.metadata_plan.proofs.Flat.{branch_passed_comes, at_place}
use Rattle.metadata_relation.specs.Blocks.{room_tests, unknown_object_tests, units_tests}
use Rattle.metadata_relation.proofs.CalleeTests.{shifted, masked, equal}

pub added : (x y : ℕ) → reg_result Add x y ≡ sum 64 x y
unfolding reg_result
added x y = refl

module _ (m : MapSizes) (p : FlatProgram) (u pc : ℕ) (v : flat.State) (xs : List flat.Frame) (r line s : ℕ)
    (apart : r + 5 ≤ s) where
  abbrev key : ℕ
  key = v.values (r + 3)

  -- ---- the charge

  module _ (has : HasAt (body_of (function_in p u)) pc (room_tests m (r + 3) line s)) (low : m.budgets.calls < 2 ^ 63)
      (fits : charged p u xs ≤ m.budgets.calls) where
    abbrev pub room_passes : Bool
    room_passes = nat_lt (charged p u xs + v.values (r + 3) / 2 ^ 31 % 2 ^ 25) (m.budgets.calls + 1)

    abbrev v1 : flat.Values
    v1 = put v.values s (wrap (charged p u xs))

    abbrev v2 : flat.Values
    v2 = put v1 (s + 1) (reg_result Srl (v1 (r + 3)) (31 % 2 ^ 64))

    abbrev v3 : flat.Values
    v3 = put v2 (s + 1) (reg_result And (v2 (s + 1)) ((2 ^ 25 - 1) % 2 ^ 64))

    abbrev v4 : flat.Values
    v4 = put v3 s (reg_result Add (v3 s) (v3 (s + 1)))

    abbrev At : flat.Values → flat.State
    At values = record v { turns = v.turns + 1; values = values }

    abbrev ComesTo : (place : ℕ) → (values : flat.Values) → (most : ℕ) → Type 0
    ComesTo place values most =
        Comes m p u pc v xs place (record v { turns = v.turns + 1; values = values }) most

    stays : (y : ℕ) → y < s → v4 y ≡ v.values y
    stays y lt =
        put_other v3 s _ y (λ e. omega (arith, lt, e)) ∙ put_other v2 (s + 1) _ y (λ e. omega (arith, lt, e))
        ∙ put_other v1 (s + 1) _ y (λ e. omega (arith, lt, e)) ∙ put_other v.values s _ y (λ e. omega (arith, lt, e))

    to_four : ComesTo (pc + 1 + 1 + 1 + 1 + 1) v4 10
    to_four =
        let c1 = turn_comes m p u pc v xs has.0 in
        let c2 = next_comes m p u pc v xs (pc + 1) (pc + 1 + 1) (At v.values) (At v1) 2 2 c1
        (λ w. (let b = charged_comes m p u (pc + 1) (record (At v.values) { work = w }) xs s has.1.0 in
        record { steps = b.steps; work = b.work; few = b.few; comes = b.comes })) in
        let c3 = next_comes m p u pc v xs (pc + 1 + 1) (pc + 1 + 1 + 1) (At v1) (At v2) 4 2 c2
        (λ w. (let b = operate_comes m p u (pc + 1 + 1) (record (At v1) { work = w }) xs Srl (s + 1) (r + 3) (Number 31)
        has.1.1.0 in
        record { steps = b.steps; work = b.work; few = b.few; comes = b.comes })) in
        let c4 = next_comes m p u pc v xs (pc + 1 + 1 + 1) (pc + 1 + 1 + 1 + 1) (At v2) (At v3) 6 2 c3
        (λ w. (let b = operate_comes m p u (pc + 1 + 1 + 1) (record (At v2) { work = w }) xs And (s + 1) (s + 1)
        (Number (2 ^ 25 - 1)) has.1.1.1.0 in
        record { steps = b.steps; work = b.work; few = b.few; comes = b.comes })) in
        next_comes m p u pc v xs (pc + 1 + 1 + 1 + 1) (pc + 1 + 1 + 1 + 1 + 1) (At v3) (At v4) 8 2 c4
        (λ w. (let b = operate_comes m p u (pc + 1 + 1 + 1 + 1) (record (At v3) { work = w }) xs Add s s
        (Register (s + 1)) has.1.1.1.1.0 in
        record { steps = b.steps; work = b.work; few = b.few; comes = b.comes }))

    -- the room of the callee
    room_there : v3 (s + 1) ≡ v.values (r + 3) / 2 ^ 31 % 2 ^ 25
    room_there =
        put_same v2 (s + 1) _
        ∙ ap (λ z. reg_result And z ((2 ^ 25 - 1) % 2 ^ 64)) (put_same v1 (s + 1) _ ∙ shifted (v1 (r + 3)) (31 % 2 ^ 64))
        ∙ masked (v1 (r + 3) / 2 ^ 31) ((2 ^ 25 - 1) % 2 ^ 64) ∙ and_mask (v1 (r + 3) / 2 ^ 31) 25
        ∙ ap (λ z. z / 2 ^ 31 % 2 ^ 25) (put_other v.values s _ (r + 3) (λ e. omega (arith, e)))

    charge_there : v3 s ≡ charged p u xs
    charge_there =
        put_other v2 (s + 1) _ s (λ e. omega (arith, e)) ∙ put_other v1 (s + 1) _ s (λ e. omega (arith, e))
        ∙ put_same v.values s _ ∙ mod-eq_of_lt (omega (arith, fits, low))

    sum_there : v4 s ≡ charged p u xs + v.values (r + 3) / 2 ^ 31 % 2 ^ 25
    sum_there =
        put_same v3 s _ ∙ added (v3 s) (v3 (s + 1)) ∙ ap₂ (sum 64) charge_there room_there
        ∙ mod-eq_of_lt (omega (arith, fits, low))

    taken : (b : Bool) → room_passes ≡ b → branch_taken Bltu (v4 s) ((m.budgets.calls + 1) % 2 ^ 64) ≡ b
    taken b e =
        below (v4 s) ((m.budgets.calls + 1) % 2 ^ 64) b
        (ap₂ nat_lt sum_there (mod-eq_of_lt (omega (arith, low))) ∙ e)

    -- the run comes behind the tests, or to an ending
    pub record IsRoomTested (passed : Bool) : Type 0 where
      pub values : flat.Values
      pub others : (y : ℕ) → y < s → values y ≡ v.values y
      pub place : ℕ
      pub comes : Comes m p u pc v xs place (record v { turns = v.turns + 1; values = values }) 12
      pub behind : passed ≡ true → place ≡ pc + 7
      pub ends : passed ≡ false → instruction_at p u place ≡ Some (End (Stack line))

    pub room_tested : (b : Bool) → room_passes ≡ b → IsRoomTested b
    room_tested true e = record {
      values = v4;
      others = stays;
      place = pc + 1 + 1 + 1 + 1 + 1 + 1 + 1;
      comes = next_comes m p u pc v xs (pc + 1 + 1 + 1 + 1 + 1) (pc + 1 + 1 + 1 + 1 + 1 + 1 + 1) (At v4) (At v4) 10 2
          to_four
          (λ w. (let b = branch_taken_comes m p u (pc + 1 + 1 + 1 + 1 + 1) (record (At v4) { work = w }) xs Bltu s
          (Number (m.budgets.calls + 1)) 1 has.1.1.1.1.1.0 (taken true e) in
          record { steps = b.steps; work = b.work; few = b.few; comes = b.comes }));
      behind = λ is. omega arith;
      ends = λ no. cc;
    }
    room_tested false e = record {
      values = v4;
      others = stays;
      place = pc + 1 + 1 + 1 + 1 + 1 + 1;
      comes = next_comes m p u pc v xs (pc + 1 + 1 + 1 + 1 + 1) (pc + 1 + 1 + 1 + 1 + 1 + 1) (At v4) (At v4) 10 2
          to_four
          (λ w. (let b = branch_passed_comes m p u (pc + 1 + 1 + 1 + 1 + 1) (record (At v4) { work = w }) xs Bltu s
          (Number (m.budgets.calls + 1)) 1 has.1.1.1.1.1.0 (taken false e) in
          record { steps = b.steps; work = b.work; few = b.few; comes = b.comes }));
      behind = λ no. cc;
      ends = λ is. has.1.1.1.1.1.1.0;
    }

  -- ---- objects

  -- where the callee has none, the run comes behind the tests of objects
  pub record HasNoUnits : Type 0 where
    pub values : flat.Values
    pub others : (y : ℕ) → y < s → values y ≡ v.values y
    pub comes : Comes m p u pc v xs (pc + length (unknown_object_tests m (r + 3) line s)) (record v { values = values }) 6

  pub no_units : HasAt (body_of (function_in p u)) pc (unknown_object_tests m (r + 3) line s)
      → v.values (r + 3) / 2 ^ 12 % 2 ^ 19 ≡ 0 → HasNoUnits
  no_units has none =
      let a = put v.values (s + 1) (reg_result Srl (v.values (r + 3)) (12 % 2 ^ 64)) in
      let b = put a (s + 1) (reg_result And (a (s + 1)) ((2 ^ 19 - 1) % 2 ^ 64)) in
      let long = length (units_tests m line s) in
      let is : b (s + 1) ≡ 0 = put_same a (s + 1) _
      ∙ ap (λ z. reg_result And z ((2 ^ 19 - 1) % 2 ^ 64)) (put_same v.values (s + 1) _ ∙ shifted key (12 % 2 ^ 64))
      ∙ masked (key / 2 ^ 12) ((2 ^ 19 - 1) % 2 ^ 64) ∙ and_mask (key / 2 ^ 12) 19 ∙ none in
      let c1 = operate_comes m p u pc v xs Srl (s + 1) (r + 3) (Number 12) has.0 in
      let c2 = next_comes m p u pc v xs (pc + 1) (pc + 1 + 1) (record v { values = a }) (record v { values = b }) 2 2 c1
      (λ w. (let q = operate_comes m p u (pc + 1) (record v { values = a; work = w }) xs And (s + 1) (s + 1)
      (Number (2 ^ 19 - 1)) has.1.0 in
      record { steps = q.steps; work = q.work; few = q.few; comes = q.comes })) in
      let c3 : Comes m p u pc v xs (pc + 1 + 1 + 1 + long) (record v { values = b }) 6 =
      next_comes m p u pc v xs (pc + 1 + 1) (pc + 1 + 1 + 1 + long) (record v { values = b })
      (record v { values = b }) 4 2 c2
      (λ w. (let q = branch_taken_comes m p u (pc + 1 + 1) (record v { values = b; work = w }) xs Beq (s + 1) (Number 0)
      long has.1.1.0 (equal (b (s + 1)) (0 % 2 ^ 64) true (ap (λ n. n == 0) is)) in
      record { steps = q.steps; work = q.work; few = q.few; comes = q.comes })) in
      record {
        values = b;
        others = λ y lt. put_other a (s + 1) _ y (λ e. omega (arith, lt, e))
            ∙ put_other v.values (s + 1) _ y (λ e. omega (arith, lt, e));
        comes = at_place m p u pc v xs (pc + 1 + 1 + 1 + long) (pc + length (unknown_object_tests m (r + 3) line s))
            (record v { values = b }) 6 c3 (omega arith);
      }

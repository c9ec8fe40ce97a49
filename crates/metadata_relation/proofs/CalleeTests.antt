-- The tests of a callee that a pointer names: the run goes on behind them, or ends with `BadCall`.
use Rattle.std.proofs.Common.{◌≡◌, inl, inr, ℕ, ◌+◌, ◌-◌, ◌/◌, ◌%◌, ◌^◌, ◌<◌, ◌≤◌, Bool, true, false, not, List}
use Rattle.std.proofs.Common.{Some, refl, sym, ap, ap₂, ◌∙◌, arith, mod-eq_of_lt}
use Rattle.std.specs.Prelude.{◌==◌, ◌&&◌, nat_le, bit_and}
use Rattle.std.proofs.lemmas.Bool.{eqb-true}
use Rattle.std.proofs.lemmas.Bool.Decides.{leb_tells}
use Rattle.std.proofs.lemmas.Nat.{and_mask}
use Rattle.addr_map.specs.Places.{MapSizes}
use Rattle.sb_base.specs.declared.ending.Ending.TheVariants.{BadCall}
use Rattle.rv_isa.specs.declared.instruction.RegOp.TheVariants.{And, Srl}
use Rattle.rv_isa.specs.declared.instruction.BranchOp.TheVariants.{Beq, Bne}
use Rattle.rv_isa.specs.Results.{branch_taken, reg_result}
use Rattle.flat_code.specs.declared.instruction.RightOperand.TheVariants.{Register, Number}
use Rattle.flat_code.specs.declared.instruction.FlatInstruction.TheVariants.{End}
use Rattle.flat_code.specs.declared.function.FlatProgram.{FlatProgram}
use Rattle.flat_code.specs.Memory.{put}
use Rattle.flat_code.specs.State as flat
use Rattle.flat_code.specs.Calls.{function_in}
use Rattle.flat_code.specs.Meaning.{body_of, instruction_at}
use Rattle.flat_code.proofs.Stored.{put_same, put_other}
use Rattle.flat_code.specs.Routines.Routine.{HasAt}
use Rattle.metadata_plan.proofs.Flat.{Comes, next_comes, operate_comes, branch_taken_comes, branch_passed_comes}
use Rattle.metadata_relation.specs.Blocks.{callee_tests}
use Rattle.metadata_relation.proofs.FunctionTypes.{is_callee}
use Rattle.metadata_relation.proofs.Ranges.{Told}

pub shifted : (x n : ℕ) → reg_result Srl x n ≡ x / 2 ^ (n % 64)
unfolding reg_result
shifted x n = refl

pub masked : (x n : ℕ) → reg_result And x n ≡ bit_and x n
unfolding reg_result
masked x n = refl

pub equal : (x y : ℕ) (b : Bool) → (x == y) ≡ b → branch_taken Beq x y ≡ b
unfolding branch_taken
equal x y b e = e

pub differs : (x y : ℕ) (b : Bool) → not (x == y) ≡ b → branch_taken Bne x y ≡ b
unfolding branch_taken
differs x y b e = e

-- the highest bit of a word is set where the word is not below it
high_bit : (x : ℕ) (b : Bool) → nat_le (2 ^ 63) x ≡ b → not (x / 2 ^ 63 == 0) ≡ b
high_bit x b e = by (leb_tells (2 ^ 63) x)
  where
    some : (c : Bool) → (x / 2 ^ 63 == 0) ≡ c → 2 ^ 63 ≤ x → not c ≡ true
    some true is le = (let z = eqb-true (x / 2 ^ 63) 0 is in absurd (omega (arith, le, z)))
    some false is le = refl

    by : Told (2 ^ 63) x → not (x / 2 ^ 63 == 0) ≡ b
    by (inl p) = some (x / 2 ^ 63 == 0) refl p.1 ∙ sym p.0 ∙ e
    by (inr p) =
        let none : x / 2 ^ 63 ≡ 0 = (let z = p.1 in omega (arith, z)) in
        ap (λ n. not (n == 0)) none ∙ sym p.0 ∙ e

module _ (m : MapSizes) (p : FlatProgram) (u pc : ℕ) (v : flat.State) (xs : List flat.Frame) (kind line r s : ℕ)
    (apart : r + 5 ≤ s) (low : kind < 2 ^ 12)
    (has : HasAt (body_of (function_in p u)) pc (callee_tests kind line r s)) where
  abbrev key : ℕ
  key = v.values (r + 3)

  abbrev base : ℕ
  base = v.values (r + 1)

  abbrev word : ℕ
  word = v.values r

  abbrev ComesTo : (place : ℕ) → (values : flat.Values) → (most : ℕ) → Type 0
  ComesTo place values most = Comes m p u pc v xs place (record v { values = values }) most

  -- the run comes behind the tests, or to an ending
  pub record IsTested (passed : Bool) : Type 0 where
    pub values : flat.Values
    pub others : (y : ℕ) → y < s → values y ≡ v.values y
    pub place : ℕ
    pub comes : Comes m p u pc v xs place (record v { values = values }) 10
    pub behind : passed ≡ true → place ≡ pc + 8
    pub ends : passed ≡ false → instruction_at p u place ≡ Some (End (BadCall line))

  abbrev one : flat.Values
  one = put v.values s (reg_result Srl (v.values (r + 3)) (63 % 2 ^ 64))

  abbrev two : flat.Values
  two = put one s (reg_result And (one (r + 3)) ((2 ^ 12 - 1) % 2 ^ 64))

  one_stays : (y : ℕ) → y < s → one y ≡ v.values y
  one_stays y lt = put_other v.values s _ y (λ e. omega (arith, lt, e))

  two_stays : (y : ℕ) → y < s → two y ≡ v.values y
  two_stays y lt = put_other one s _ y (λ e. omega (arith, lt, e)) ∙ one_stays y lt

  high : (b : Bool) → nat_le (2 ^ 63) key ≡ b → branch_taken Bne (one s) (0 % 2 ^ 64) ≡ b
  high b e = differs (one s) (0 % 2 ^ 64) b
      (ap (λ n. not (n == 0)) (put_same v.values s _ ∙ shifted key (63 % 2 ^ 64)) ∙ high_bit key b e)

  kind_is : (b : Bool) → (key % 2 ^ 12 == kind) ≡ b → branch_taken Beq (two s) (kind % 2 ^ 64) ≡ b
  kind_is b e =
      let fits : kind % 2 ^ 64 ≡ kind = mod-eq_of_lt (omega (arith, low)) in
      equal (two s) (kind % 2 ^ 64) b
      (ap₂ (λ x y. x == y)
      (put_same one s _ ∙ ap (λ z. reg_result And z ((2 ^ 12 - 1) % 2 ^ 64)) (one_stays (r + 3) (omega arith))
      ∙ masked key ((2 ^ 12 - 1) % 2 ^ 64) ∙ and_mask key 12) fits ∙ e)

  word_is : (b : Bool) → (word == base) ≡ b → branch_taken Beq (two r) (two (r + 1)) ≡ b
  word_is b e = equal (two r) (two (r + 1)) b
      (ap₂ (λ x y. x == y) (two_stays r (omega arith)) (two_stays (r + 1) (omega arith)) ∙ e)

  to_one : ComesTo (pc + 1) one 2
  to_one = operate_comes m p u pc v xs Srl s (r + 3) (Number 63) has.0

  past_one : nat_le (2 ^ 63) key ≡ true → ComesTo (pc + 1 + 1 + 1) one 4
  past_one e = next_comes m p u pc v xs (pc + 1) (pc + 1 + 1 + 1) (record v { values = one })
      (record v { values = one }) 2 2 to_one
      (λ w. (let b = branch_taken_comes m p u (pc + 1) (record v { values = one; work = w }) xs Bne s (Number 0) 1 has.1.0
      (high true e) in
      record { steps = b.steps; work = b.work; few = b.few; comes = b.comes }))

  to_two : nat_le (2 ^ 63) key ≡ true → ComesTo (pc + 1 + 1 + 1 + 1) two 6
  to_two e = next_comes m p u pc v xs (pc + 1 + 1 + 1) (pc + 1 + 1 + 1 + 1) (record v { values = one })
      (record v { values = two }) 4 2 (past_one e)
      (λ w. (let b = operate_comes m p u (pc + 1 + 1 + 1) (record v { values = one; work = w }) xs And s (r + 3)
      (Number (2 ^ 12 - 1)) has.1.1.1.0 in
      record { steps = b.steps; work = b.work; few = b.few; comes = b.comes }))

  past_two : nat_le (2 ^ 63) key ≡ true → (key % 2 ^ 12 == kind) ≡ true → ComesTo (pc + 1 + 1 + 1 + 1 + 1 + 1) two 8
  past_two e f = next_comes m p u pc v xs (pc + 1 + 1 + 1 + 1) (pc + 1 + 1 + 1 + 1 + 1 + 1) (record v { values = two })
      (record v { values = two }) 6 2 (to_two e)
      (λ w. (let b = branch_taken_comes m p u (pc + 1 + 1 + 1 + 1) (record v { values = two; work = w }) xs Beq s
      (Number kind) 1 has.1.1.1.1.0 (kind_is true f) in
      record { steps = b.steps; work = b.work; few = b.few; comes = b.comes }))

  by_high : (a : Bool) → nat_le (2 ^ 63) key ≡ a → IsTested (a && ((key % 2 ^ 12 == kind) && (word == base)))
  by_high false e = record {
    values = one;
    others = one_stays;
    place = pc + 1 + 1;
    comes = next_comes m p u pc v xs (pc + 1) (pc + 1 + 1) (record v { values = one })
        (record v { values = one }) 2 8 to_one
        (λ w. (let b = branch_passed_comes m p u (pc + 1) (record v { values = one; work = w }) xs Bne s (Number 0) 1
        has.1.0 (high false e) in
        let few = b.few in
        record { steps = b.steps; work = b.work; few = omega (arith, few); comes = b.comes }));
    behind = λ no. cc;
    ends = λ is. has.1.1.0;
  }
  by_high true e = by_kind (key % 2 ^ 12 == kind) refl
    where
      by_word : (c : Bool) → (word == base) ≡ c → (key % 2 ^ 12 == kind) ≡ true → IsTested c
      by_word false g f = record {
        values = two;
        others = two_stays;
        place = pc + 1 + 1 + 1 + 1 + 1 + 1 + 1;
        comes = next_comes m p u pc v xs (pc + 1 + 1 + 1 + 1 + 1 + 1) (pc + 1 + 1 + 1 + 1 + 1 + 1 + 1)
            (record v { values = two }) (record v { values = two }) 8 2 (past_two e f)
            (λ w. (let b = branch_passed_comes m p u (pc + 1 + 1 + 1 + 1 + 1 + 1) (record v { values = two; work = w }) xs
            Beq r (Register (r + 1)) 1 has.1.1.1.1.1.1.0 (word_is false g) in
            record { steps = b.steps; work = b.work; few = b.few; comes = b.comes }));
        behind = λ no. cc;
        ends = λ is. has.1.1.1.1.1.1.1.0;
      }
      by_word true g f = record {
        values = two;
        others = two_stays;
        place = pc + 1 + 1 + 1 + 1 + 1 + 1 + 1 + 1;
        comes = next_comes m p u pc v xs (pc + 1 + 1 + 1 + 1 + 1 + 1) (pc + 1 + 1 + 1 + 1 + 1 + 1 + 1 + 1)
            (record v { values = two }) (record v { values = two }) 8 2 (past_two e f)
            (λ w. (let b = branch_taken_comes m p u (pc + 1 + 1 + 1 + 1 + 1 + 1) (record v { values = two; work = w }) xs
            Beq r (Register (r + 1)) 1 has.1.1.1.1.1.1.0 (word_is true g) in
            record { steps = b.steps; work = b.work; few = b.few; comes = b.comes }));
        behind = λ is. omega arith;
        ends = λ no. cc;
      }

      by_kind : (b : Bool) → (key % 2 ^ 12 == kind) ≡ b → IsTested (true && (b && (word == base)))
      by_kind true f = by_word (word == base) refl f
      by_kind false f = record {
        values = two;
        others = two_stays;
        place = pc + 1 + 1 + 1 + 1 + 1;
        comes = next_comes m p u pc v xs (pc + 1 + 1 + 1 + 1) (pc + 1 + 1 + 1 + 1 + 1) (record v { values = two })
            (record v { values = two }) 6 4 (to_two e)
            (λ w. (let b = branch_passed_comes m p u (pc + 1 + 1 + 1 + 1) (record v { values = two; work = w }) xs Beq s
            (Number kind) 1 has.1.1.1.1.0 (kind_is false f) in
            let few = b.few in
            record { steps = b.steps; work = b.work; few = omega (arith, few); comes = b.comes }));
        behind = λ no. cc;
        ends = λ is. has.1.1.1.1.1.0;
      }

  -- The run is behind the tests just where the callee is of the type.
  pub tested : IsTested (is_callee (v.values (r + 3)) (v.values (r + 1)) (v.values r) kind)
  tested = by_high (nat_le (2 ^ 63) key) refl

-- Steps of flat code, one after another.
use Rattle.std.proofs.Common.{◌≡◌, ℕ, zero, suc, ◌+◌, ◌*◌, ◌%◌, ◌^◌, ◌≤◌, refl, ap, ◌∙◌, subst, arith}
use Rattle.std.proofs.Common.{Bool, true, false, List, [], ◌∷◌, ◌++◌, Option, Some, None, length}
use Rattle.std.specs.Prelude.{slice_get, if◌then◌else◌, nat_le}
use Rattle.words.specs.TwosComplement.{low_bits}
use Rattle.behaviours.specs.Steps.{run}
use Rattle.behaviours.proofs.Running.{run_add}
use Rattle.addr_map.specs.Places.{MapSizes}
use Rattle.sb_base.specs.declared.ending.Ending.{Ending}
use Rattle.sb_base.specs.Endings.{code_of, report_of}
use Rattle.rv_isa.specs.declared.instruction.BranchOp.{BranchOp}
use Rattle.rv_isa.specs.declared.instruction.RegOp.{RegOp}
use Rattle.rv_isa.specs.Results.{wrap, branch_taken, reg_result}
use Rattle.flat_code.specs.declared.instruction.RightOperand.{RightOperand}
use Rattle.flat_code.specs.declared.instruction.FlatInstruction.{FlatInstruction}
use Rattle.flat_code.specs.declared.instruction.FlatInstruction.TheVariants as flat
use Rattle.flat_code.specs.declared.function.FlatFunction.{FlatFunction}
use Rattle.flat_code.specs.declared.function.FlatProgram.{FlatProgram}
use Rattle.flat_code.specs.Memory.{put}
use Rattle.flat_code.specs.State.{State, Frame, Stage, Stands, Over}
use Rattle.flat_code.specs.Calls.{function_in, record_bytes, charged}
use Rattle.flat_code.specs.Meaning.{instruction_at, at_instruction, body_of, weight_of, step, right_value, received}
use Rattle.flat_code.specs.Words.{HasWords}
use Rattle.flat_code.proofs.Words.{step_fits}
use Rattle.metadata_plan.specs.Expanded.{Leads, Falls, Forward, Back}

pub weight_small : (o : Option FlatFunction) → weight_of o ≤ 2
weight_small None = omega arith
weight_small (Some f) = by (nat_le (record_bytes f) (2 ^ 11))
  where
    by : (b : Bool) → (if b then 1 else 2) ≤ 2
    by true = omega arith
    by false = omega arith

module _ (m : MapSizes) (p : FlatProgram) where
  -- the run comes to a place of its function, with at most so much work
  pub record Comes (u pc : ℕ) (v : State) (xs : List Frame) (place : ℕ) (after : State) (most : ℕ) : Type 0 where
    pub steps : ℕ
    pub work : ℕ
    pub few : work ≤ most
    pub comes : run (step m p) steps (Stands u pc v xs) ≡ Stands u place (record after { work = v.work + work }) xs

  pub words_kept : (n : ℕ) (x : Stage) → HasWords x → HasWords (run (step m p) n x)
  words_kept zero x h = h
  words_kept (suc n) x h = words_kept n (step m p x) (step_fits m p x h)

  pub then_comes : (u pc : ℕ) (v : State) (xs : List Frame) (q r : ℕ) (after last : State) (a b : ℕ)
      → (h : Comes u pc v xs q after a) → Comes u q (record after { work = v.work + h.work }) xs r last b
      → Comes u pc v xs r last (a + b)
  then_comes u pc v xs q r after last a b h k = record {
    steps = h.steps + k.steps;
    work = h.work + k.work;
    few = omega (arith, h.few, k.few);
    comes =
        let sum : v.work + h.work + k.work ≡ v.work + (h.work + k.work) = omega arith in
        run_add (step m p) h.steps k.steps (Stands u pc v xs) ∙ ap (run (step m p) k.steps) h.comes ∙ k.comes
        ∙ ap (λ w. Stands u r (record last { work = w }) xs) sum;
  }

  -- the same of what only changes in its work
  pub next_comes : (u pc : ℕ) (v : State) (xs : List Frame) (q r : ℕ) (after last : State) (a b : ℕ)
      → Comes u pc v xs q after a → ((w : ℕ) → Comes u q (record after { work = w }) xs r last b)
      → Comes u pc v xs r last (a + b)
  next_comes u pc v xs q r after last a b h k = then_comes u pc v xs q r after last a b h (k (v.work + h.work))

  pub weaker : (u pc : ℕ) (v : State) (xs : List Frame) (q : ℕ) (after : State) (a b : ℕ) → Comes u pc v xs q after a
      → a ≤ b → Comes u pc v xs q after b
  weaker u pc v xs q after a b h le =
      record { steps = h.steps; work = h.work; few = omega (arith, h.few); comes = h.comes }

  pub at_place : (u pc : ℕ) (v : State) (xs : List Frame) (q r : ℕ) (after : State) (a : ℕ)
      → Comes u pc v xs q after a → q ≡ r → Comes u pc v xs r after a
  at_place u pc v xs q r after a h e = subst (λ z. Comes u pc v xs z after a) e h

  module _ (u pc : ℕ) (v : State) (xs : List Frame) where
    -- the step of an instruction that stands there
    pub one : (i : FlatInstruction) → instruction_at p u pc ≡ Some i
        → step m p (Stands u pc v xs) ≡ at_instruction m p (Some i) u pc v xs
    one i e = ap (λ o. at_instruction m p o u pc v xs) e

    abbrev weight : ℕ
    weight = weight_of (function_in p u)

    few : weight ≤ 2
    few = weight_small (function_in p u)

    pub constant_comes : (x n : ℕ) → instruction_at p u pc ≡ Some (flat.Constant x n)
        → Comes u pc v xs (pc + 1) (record v { values = put v.values x (low_bits 64 n) }) 2
    constant_comes x n e = record { steps = 1; work = weight; few = few; comes = one (flat.Constant x n) e }

    pub move_comes : (x y : ℕ) → instruction_at p u pc ≡ Some (flat.Move x y)
        → Comes u pc v xs (pc + 1) (record v { values = put v.values x (v.values y) }) 2
    move_comes x y e = record { steps = 1; work = weight; few = few; comes = one (flat.Move x y) e }

    pub operate_comes : (op : RegOp) (x y : ℕ) (z : RightOperand) → instruction_at p u pc ≡ Some (flat.Operate op x y z)
        → Comes u pc v xs (pc + 1)
        (record v { values = put v.values x (reg_result op (v.values y) (right_value z v.values)) }) 2
    operate_comes op x y z e =
        record { steps = 1; work = weight; few = few; comes = one (flat.Operate op x y z) e }

    pub turn_comes : instruction_at p u pc ≡ Some flat.Turn
        → Comes u pc v xs (pc + 1) (record v { turns = v.turns + 1 }) 2
    turn_comes e = record { steps = 1; work = weight; few = few; comes = one flat.Turn e }

    pub charged_comes : (x : ℕ) → instruction_at p u pc ≡ Some (flat.Charged x)
        → Comes u pc v xs (pc + 1) (record v { values = put v.values x (wrap (charged p u xs)) }) 2
    charged_comes x e = record { steps = 1; work = weight; few = few; comes = one (flat.Charged x) e }

    pub put_comes : (x : ℕ) → instruction_at p u pc ≡ Some (flat.Put x)
        → Comes u pc v xs (pc + 1) (record v { output = v.output ++ v.values x % 256 ∷ [] }) 4
    put_comes x e = record {
      steps = 1;
      work = 2 * weight;
      few = omega (arith, few);
      comes = one (flat.Put x) e;
    }

    pub get_comes : (x : ℕ) → instruction_at p u pc ≡ Some (flat.Get x)
        → Comes u pc v xs (pc + 1) (received x (slice_get v.input 0) v) 4
    get_comes x e = record {
      steps = 1;
      work = 2 * weight;
      few = omega (arith, few);
      comes = one (flat.Get x) e ∙ by (slice_get v.input 0);
    }
      where
        by : (o : Option ℕ) → Stands u (pc + 1) (received x o (record v { work = v.work + 2 * weight })) xs
            ≡ Stands u (pc + 1) (record (received x o v) { work = v.work + 2 * weight }) xs
        by None = refl
        by (Some byte) = refl

    branch_to : (op : BranchOp) (y : ℕ) (z : RightOperand) (past : ℕ)
        → instruction_at p u pc ≡ Some (flat.Branch op y z past) → (b : Bool)
        → branch_taken op (v.values y) (right_value z v.values) ≡ b
        → Comes u pc v xs (if b then pc + 1 + past else pc + 1) v 2
    branch_to op y z past e b taken = record {
      steps = 1;
      work = weight;
      few = few;
      comes = one (flat.Branch op y z past) e
          ∙ ap (λ c. Stands u (if c then pc + 1 + past else pc + 1) (record v { work = v.work + weight }) xs) taken;
    }

    pub branch_taken_comes : (op : BranchOp) (y : ℕ) (z : RightOperand) (past : ℕ)
        → instruction_at p u pc ≡ Some (flat.Branch op y z past)
        → branch_taken op (v.values y) (right_value z v.values) ≡ true → Comes u pc v xs (pc + 1 + past) v 2
    branch_taken_comes op y z past e taken = branch_to op y z past e true taken

    pub branch_passed_comes : (op : BranchOp) (y : ℕ) (z : RightOperand) (past : ℕ)
        → instruction_at p u pc ≡ Some (flat.Branch op y z past)
        → branch_taken op (v.values y) (right_value z v.values) ≡ false → Comes u pc v xs (pc + 1) v 2
    branch_passed_comes op y z past e taken = branch_to op y z past e false taken

    pub leads_comes : (q : ℕ) → Leads (body_of (function_in p u)) pc q → Comes u pc v xs q v 2
    leads_comes q (Falls e) = record {
      steps = 0;
      work = 0;
      few = omega arith;
      comes =
          let same : v.work ≡ v.work + 0 = omega arith in
          ap (λ z. Stands u z v xs) e ∙ ap (λ w. Stands u q (record v { work = w }) xs) same;
    }
    leads_comes q (Forward past at e) = record {
      steps = 1;
      work = weight;
      few = few;
      comes = one (flat.JumpForward past) at ∙ ap (λ z. Stands u z (record v { work = v.work + weight }) xs) e;
    }
    leads_comes q (Back back at e) = record {
      steps = 1;
      work = weight;
      few = few;
      comes = one (flat.JumpBack back) at ∙ ap (λ z. Stands u z (record v { work = v.work + weight }) xs) e;
    }

    -- the run ends
    pub end_step : (e : Ending) → instruction_at p u pc ≡ Some (flat.End e)
        → step m p (Stands u pc v xs)
        ≡ Over (code_of e) (report_of e) (record v { work = v.work + weight * (1 + length (report_of e)) })
    end_step e at = one (flat.End e) at

    pub exit_step : (x : ℕ) → instruction_at p u pc ≡ Some (flat.Exit x)
        → step m p (Stands u pc v xs) ≡ Over (v.values x % 256) [] (record v { work = v.work + weight })
    exit_step x at = one (flat.Exit x) at

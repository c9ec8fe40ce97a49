-- A program of three functions: three times it calls a function that gives a byte more than its argument, and sends the
-- result to the output. That function calls a third, so that two records wait at once. The first and the third keep
-- their values in the same two registers, so that the count must wait in its home at each call; the record of the
-- second is longer than the offsets of loads and stores reach, and one of its values is kept at the end of it. Its code
-- is longer than the offset of a branch reaches: the run goes past it by a branch of two words, and back over it by a
-- jump.
use Rattle.std.specs.Prelude.{◌≡◌, ℕ, ◌+◌, ◌-◌, List, [], ◌∷◌, ◌++◌, replicate, false, Some, slice_get}
use Rattle.sb_base.specs.Budgets.{default_sizes}
use Rattle.addr_map.specs.Places.{MapSizes, AreMapped}
use Rattle.behaviours.specs.Steps.{run}
use Rattle.rv_isa.specs.declared.instruction.RegOp.TheVariants.{Add, Sub}
use Rattle.rv_isa.specs.declared.instruction.BranchOp.TheVariants.{Beq, Bne}
use Rattle.rv_asm.specs.declared.form.Form.{Form}
use Rattle.rv_asm.specs.declared.form.Form.TheVariants.{Near}
use Rattle.rv_asm.specs.declared.item.Item.{Item}
use Rattle.rv_asm.specs.Items.{target_of}
use Rattle.rv_asm.specs.Forms.{forms_of}
use Rattle.flat_code.specs.declared.instruction.RightOperand.TheVariants.{Register, Number}
use Rattle.flat_code.specs.declared.instruction.FlatInstruction.TheVariants as flat
use Rattle.flat_code.specs.declared.function.FlatFunction.{FlatFunction}
use Rattle.flat_code.specs.declared.function.FlatProgram.{FlatProgram}
use Rattle.flat_code.specs.Memory.{Bytes}
use Rattle.flat_code.specs.State.{State, Frame, Stage, Stands, Over, Stuck}
use Rattle.flat_code.specs.Meaning.{step, started}
use Rattle.reg_plan.specs.declared.plan.FunctionPlan.{FunctionPlan}
use Rattle.reg_plan.specs.Tests.{AreAccepted}
use Rattle.machine_laws.specs.Following.Code.{IsEncodable}
use Rattle.machine_laws.specs.Following.Start.{IsStartable}
use Rattle.machine_laws.specs.Layout.Lists.{items_of, index_of}
use Rattle.machine_laws.specs.Segments.Segments.{FitsSegments}

-- a map with the budgets that are taken where none are asked for
abbrev pub sizes : MapSizes
sizes = record { budgets = default_sizes; global_bytes = 0 }

-- virtual register 0 has the byte, and 1 how many are left
abbrev pub main : FlatFunction
main = record {
  parameters = 0;
  results = 0;
  room = 24;
  is_runtime = false;
  homes = 0 ∷ 1 ∷ [];
  body =
      flat.Turn
      ∷ flat.Turn
      ∷ flat.Turn
      ∷ flat.Constant 0 65
      ∷ flat.Constant 1 3
      ∷ flat.Turn
      ∷ flat.Call 1 0 0
      ∷ flat.Put 0
      ∷ flat.Operate Sub 1 1 (Number 1)
      ∷ flat.Branch Beq 1 (Number 0) 1
      ∷ flat.JumpBack 5
      ∷ flat.Exit 1
      ∷ [];
}

-- how many times the second function doubles what it adds
abbrev pub doublings : ℕ
doublings = 110

-- Virtual register 0 has the byte, and 1 what is added to it: 1, or for a byte of 0 what 1 doubled so many times has in
-- 64 bits, which is 0. Each doubling has ten words, for the value is kept at the end of the record. The addition and
-- the return stand before the branch that goes past the doublings, so that the jump behind these goes back over them.
abbrev pub next : FlatFunction
next = record {
  parameters = 1;
  results = 1;
  room = 2048;
  is_runtime = false;
  homes = 0 ∷ 510 ∷ [];
  body =
      flat.Constant 1 1
      ∷ flat.Call 2 0 0
      ∷ flat.JumpForward 2
      ∷ flat.Operate Add 0 0 (Register 1)
      ∷ flat.Return 0
      ∷ flat.Branch Bne 0 (Number 0) doublings
      ∷ (replicate doublings (flat.Operate Add 1 1 (Register 1)) ++ (flat.JumpBack (doublings + 3) ∷ []));
}

abbrev pub same : FlatFunction
same = record {
  parameters = 1;
  results = 1;
  room = 24;
  is_runtime = false;
  homes = 0 ∷ 1 ∷ [];
  body = flat.Move 1 0 ∷ flat.Return 1 ∷ [];
}

abbrev pub program : FlatProgram
program = record { functions = main ∷ next ∷ same ∷ []; entry = 0 }

-- All that the theorems of the back end ask of a program and its plans: the map is one, the plans are accepted, every
-- instruction can be encoded, the run can begin and is never stuck, and the code fits its segments.
pub record MeetsPremises (plans : List FunctionPlan) : Type 0 where
  pub mapped : AreMapped sizes
  pub accepted : AreAccepted program plans
  pub encodable : IsEncodable program
  pub startable : IsStartable sizes program
  pub fits : FitsSegments sizes program plans
  pub never_stuck : (memory : Bytes) (input : List ℕ) (k : ℕ)
      → run (step sizes program) k (started program memory input) ≡ Stuck → ⊥

-- the last item of an instruction, its branch or its jump, goes to a label, and the assembler gives it a form
pub record HasForm (plans : List FunctionPlan) (function pc label : ℕ) (form : Form) : Type 0 where
  pub item : Item
  pub stands : slice_get (items_of sizes program plans function) (index_of sizes program plans function (pc + 1) - 1)
      ≡ Some item
  pub goes : target_of item ≡ Some label
  pub is : slice_get (forms_of (items_of sizes program plans function))
      (index_of sizes program plans function (pc + 1) - 1) ≡ Some form

-- the branch past the doublings, to the jump behind them, and this jump, back to the addition, are too far for the
-- shortest form
pub record HasNearForms (plans : List FunctionPlan) : Type 0 where
  pub branch : HasForm plans 1 5 (doublings + 6) Near
  pub jump : HasForm plans 1 (doublings + 6) 3 Near

-- a stage of the run stands before an instruction of a function
pub record StandsBefore (function pc : ℕ) (stage : Stage) : Type 0 where
  pub state : State
  pub frames : List Frame
  pub is : stage ≡ Stands function pc state frames

-- the run ends with status 0, after the output of three bytes, whatever the input is
pub record Ends (memory : Bytes) (input : List ℕ) (last : Stage) : Type 0 where
  pub state : State
  pub is : last ≡ Over 0 [] state
  pub output : state.output ≡ 66 ∷ 67 ∷ 68 ∷ []

-- How a function keeps its values under its plan, and what stands for its instructions.
use Rattle.std.specs.Prelude.{ℕ, ◌<◌, ◌^◌, List, ◌∷◌, [], ◌++◌, Some, if◌then◌else◌}
use Rattle.flat_code.specs.declared.instruction.FlatInstruction.{FlatInstruction}
use Rattle.flat_code.specs.declared.instruction.FlatInstruction.TheVariants as flat
use Rattle.flat_code.specs.declared.function.FlatFunction.{FlatFunction}
use Rattle.flat_code.specs.declared.function.FlatProgram.{FlatProgram}
use Rattle.reg_plan.specs.declared.plan.FunctionPlan.{FunctionPlan}
use Rattle.reg_plan.specs.Effects.{makes_only}
use Rattle.rv_isa.specs.declared.instruction.Instr.{Instr}
use Rattle.rv_isa.specs.declared.instruction.Instr.TheVariants.{Jalr}
use Rattle.machine_laws.specs.declared.location.Location.{Location}
use Rattle.machine_laws.specs.declared.location.Location.TheVariants.{Register, Frame}
use Rattle.machine_laws.specs.Blocks.Blocks.{local_block}
use Rattle.machine_laws.specs.Blocks.Tails.{end_block}
use Rattle.machine_laws.specs.Calls.Calls.{Keeping, return_block}
use Rattle.machine_laws.specs.Calls.Table.{tails_address}
use Rattle.machine_laws.specs.Following.Code.{keeping_of, shape_of, shaped_block, is_unneeded}

abbrev pub kept_by : FlatFunction → FunctionPlan → Keeping
kept_by f plan = keeping_of (Some f) (Some plan)

-- a call with so many arguments and results, whose callee's address comes to a register
abbrev pub call_of : Keeping → (pc first count into results : ℕ) → (aim : List Instr) → (target : ℕ) → List Instr
call_of k pc first n into m aim target = shaped_block k pc (Some (record {
  first = first;
  count = n;
  into = into;
  results = m;
  aim = aim;
  target = target;
}))

-- all instructions but a jump or a branch, where the charge is counted from an address
abbrev pub block_of : FlatProgram → FlatFunction → FunctionPlan → (begin pc : ℕ) → FlatInstruction → List Instr
block_of p f plan begin pc (flat.Call g first x) =
    shaped_block (kept_by f plan) pc (shape_of p (kept_by f plan) (flat.Call g first x))
block_of p f plan begin pc (flat.CallAddress y first n x r) =
    shaped_block (kept_by f plan) pc (shape_of p (kept_by f plan) (flat.CallAddress y first n x r))
block_of p f plan begin pc (flat.Return y) = return_block (kept_by f plan) y f.results ++ (Jalr 0 1 0 ∷ [])
block_of p f plan begin pc (flat.End e) = end_block (tails_address p) e
block_of p f plan begin pc i =
    if is_unneeded (kept_by f plan) pc (makes_only i)
    then []
    else local_block (kept_by f plan).place (kept_by f plan).base begin i

-- a place whose numbers fit an instruction's operands, or are computed with
abbrev pub IsSmall : Location → Type 0
IsSmall (Register r) = r < 2 ^ 5
IsSmall (Frame o) = o < 2 ^ 63

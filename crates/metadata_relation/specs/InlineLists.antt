-- The lists that compiled code has inline, under a form of the shadow space that reads and writes entries by these
-- instructions.
use Rattle.rv_isa.specs.declared.instruction.RegOp.TheVariants.{Add, Sub}
use Rattle.addr_map.specs.Places.{MapSizes}
use Rattle.flat_operators.specs.Pointers.{offset_code, difference_code}
use Rattle.shadow_space.specs.Form.{EntryCode}
use Rattle.flat_actions.specs.Judgement.Code.{spatial_code, temporal_code}
use Rattle.flat_actions.specs.Narrowing.{narrow_code}
use Rattle.lib_wrappers.specs.AccessRoutines.Accessing.{load_code, store_code}
use Rattle.lib_wrappers.specs.AllocatingRoutines.Entering.{leave_code}
use Rattle.metadata_plan.specs.OperatorLists.Operators.{operators}
use Rattle.metadata_relation.specs.InlineCode.{InlineCode}

abbrev pub inline_lists : (read write : EntryCode) → MapSizes → InlineCode
inline_lists read write map = record {
  operators = operators;
  forward = λ size d a i s. offset_code Add size d a i s;
  back = λ size d a i s. offset_code Sub size d a i s;
  difference = λ size d a b s. difference_code size d a b s;
  load = λ a into s. load_code read map a into s;
  store = λ a from s. store_code write map a from s;
  spatial_check = λ h size line s. spatial_code h size line s;
  temporal_check = λ h line s. temporal_code h line s;
  narrow = λ h offset size s. narrow_code h offset size s;
  leave = λ lock s. leave_code map lock s;
}

-- What stands between a program of objects and pointers and its image: the expansion of its checked code, the functions of
-- the runtime, and what the data of the file is.
use Rattle.std.specs.Prelude.{◌≡◌, ℕ, ◌+◌, ◌<◌, ◌≤◌, ◌^◌, List, length, Some, slice_get}
use Rattle.std.specs.List.{All}
use Rattle.addr_map.specs.declared.region.Region.TheVariants.{Shadow}
use Rattle.addr_map.specs.Places.{MapSizes, objects_begin, region_size}
use Rattle.c_tree.specs.Programs.{Program}
use Rattle.tac_ir.specs.declared.function.CodeFunction.{CodeFunction}
use Rattle.tac_ir.specs.declared.function.Tac.{Tac}
use Rattle.tac_ir.specs.Meaning.{setting_of_code}
use Rattle.flat_code.specs.declared.function.FlatFunction.{FlatFunction}
use Rattle.flat_code.specs.declared.function.FlatProgram.{FlatProgram}
use Rattle.flat_code.specs.Memory.{Bytes}
use Rattle.flat_code.specs.Routines.Metadata.{View}
use Rattle.flat_code.specs.Routines.Objects.StandsFor.{global_lock}
use Rattle.shadow_space.specs.declared.start.StartEntry.{StartEntry}
use Rattle.shadow_space.specs.Form.{EntryCode}
use Rattle.shadow_space.specs.Start.{StartsShadow}
use Rattle.runtime_functions.specs.Runtime.{runtime_list, AreOfRuntime}
use Rattle.metadata_plan.specs.Entries.{AreAllClosed}
use Rattle.metadata_relation.specs.Blocks.{Expansion}
use Rattle.metadata_relation.specs.Contents.{AreKept}
use Rattle.metadata_relation.specs.FunctionTypes.{HaveTypeKeys}
use Rattle.metadata_relation.specs.InlineLists.{inline_lists}
use Rattle.metadata_relation.specs.Homes.{homes}
use Rattle.metadata_relation.specs.Laid.{function_of, program_of, layout_of}
use Rattle.metadata_relation.specs.Stages.{Compiled}
use Rattle.metadata_relation.specs.StartData.{entries_of_statics, bytes_of_statics}
use Rattle.metadata_relation.specs.Steps.{AreAllCovered}
use Rattle.metadata_relation.specs.Structures.{HaveAreas}
use Rattle.flat_propagation.specs.Propagated.{propagated}
use Rattle.reg_plan.specs.declared.plan.FunctionPlan.{FunctionPlan}
use Rattle.reg_plan.specs.Planned.{IsPlannable}
use Rattle.reg_plan.specs.Tests.{AreAccepted}
use Rattle.machine_laws.specs.Following.Code.{IsEncodable}
use Rattle.machine_laws.specs.Following.Start.{IsStartable}
use Rattle.rv_codegen.specs.MachineImages.Image.{IsImage}
use Rattle.image_laws.specs.Plans.Instructions.{IsWhole}

-- An expansion under a form of the shadow space that reads and writes entries by these lists: its keys of functions tell
-- their types, what has an entry or may have contents is closed, and functions have room for their structures by value.
pub record IsExpansion (read write : EntryCode) (map : MapSizes) (expansion : Expansion) : Type 0 where
  pub inline : expansion.inline ≡ inline_lists read write map
  pub map_is : expansion.map ≡ map
  pub types : HaveTypeKeys expansion.code.functions expansion.types
  pub low : (f : ℕ) → expansion.types f < 2 ^ 63
  pub entries : AreAllClosed expansion.code expansion.entries
  pub contents : (u : ℕ) (c : CodeFunction) → slice_get expansion.code.functions u ≡ Some c
      → AreKept expansion.code c (expansion.contents u)
  pub areas : HaveAreas expansion.code

-- an expansion that is laid, with homes of virtual registers and the functions of the runtime
pub record Laid : Type 0 where
  pub expansion : Expansion
  pub homes : CodeFunction → List ℕ
  pub runtime : List FlatFunction

-- its flat code, in which values are carried to where they are used
abbrev pub code_of : Laid → FlatProgram
code_of l = propagated (program_of l.expansion l.homes l.runtime)

-- what the relation stands on
abbrev pub compiled_of : Program → View → Laid → Compiled
compiled_of p entry l = record {
  typed = p;
  setting = setting_of_code l.expansion.code l.expansion.map.budgets;
  entry = entry;
  layout = layout_of l.expansion l.homes l.runtime;
}

-- the entries of the pointers that static objects hold
abbrev pub start_entries : MapSizes → Laid → List StartEntry
start_entries m l =
    entries_of_statics l.expansion.types (global_lock m) objects_begin l.expansion.code.statics 0

-- The bytes with which the runtime's spaces begin: the shadow space with these entries, and no more than it takes.
pub record AreStartSpaces (map : MapSizes) (entry : View) (IsGood : Bytes → Type 0) (l : Laid) (spaces : List ℕ)
    : Type 0 where
  pub starts : StartsShadow map entry IsGood (start_entries map l) spaces
  pub fit : length spaces ≤ region_size map Shadow
  pub short : length spaces ≤ 2 ^ 25
  pub bytes : All (λ b. b < 256) spaces

-- a laid expansion of code, all of whose instructions are covered, whatever typed program they are of
pub record IsLaidExpansion (read write : EntryCode) (entry : View) (IsGood : Bytes → Type 0) (map : MapSizes)
    (code : Tac) (l : Laid) : Type 0 where
  pub code_is : l.expansion.code ≡ code
  pub is_expansion : IsExpansion read write map l.expansion
  pub of_runtime : AreOfRuntime map entry IsGood runtime_list l.runtime
  pub covered : (typed : Program) → AreAllCovered (compiled_of typed entry l)

-- The image of a laid expansion of code whose flat code the machine has instructions for, under accepted plans: its data
-- are the static objects with the entries of their pointers.
pub record IsExpandedImage (read write : EntryCode) (entry : View) (IsGood : Bytes → Type 0) (map : MapSizes)
    (code : Tac) (file : List ℕ) : Type 0 where
  pub laid : Laid
  pub is_laid : IsLaidExpansion read write entry IsGood map code laid
  pub encodable : IsEncodable (code_of laid)
  pub startable : IsStartable map (code_of laid)
  pub plans : List FunctionPlan
  pub accepted : AreAccepted (code_of laid) plans
  pub spaces : List ℕ
  pub starts : AreStartSpaces map entry IsGood laid spaces
  pub image : IsImage map (code_of laid) plans (bytes_of_statics laid.expansion.code.statics 0) spaces file

-- What the plan of a laid expansion rests on beside: its code is whole, no body has 2^32 instructions, and the functions of
-- the runtime can be planned.
pub record HasPlannableParts (l : Laid) : Type 0 where
  pub whole : (u : ℕ) (c : CodeFunction) → slice_get l.expansion.code.functions u ≡ Some c → IsWhole l.expansion.code c
  pub short : (u : ℕ) (c : CodeFunction) → slice_get l.expansion.code.functions u ≡ Some c
      → length (function_of l.expansion u c (homes c)).body < 2 ^ 32
  pub runtime : (k : ℕ) (f : FlatFunction) → slice_get l.runtime k ≡ Some f
      → IsPlannable (program_of l.expansion homes l.runtime) (length l.expansion.code.functions + k) f

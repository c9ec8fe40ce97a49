-- Expanded programs can be planned, where their functions are definite and those of the runtime can be planned.
use Rattle.std.proofs.Common.{◌≡◌, ℕ, ◌+◌, ◌≤◌, List, length, Some}
use Rattle.std.specs.Prelude.{slice_get}
use Rattle.tac_ir.specs.declared.function.CodeFunction.{CodeFunction}
use Rattle.flat_code.specs.declared.function.FlatFunction.{FlatFunction}
use Rattle.flat_code.specs.declared.function.FlatProgram.{FlatProgram}
use Rattle.flat_code.specs.Calls.{function_in}
use Rattle.flat_code.specs.Meaning.{parameters_of, results_of}
use Rattle.shadow_space.specs.Form.{EntryCode}
use Rattle.metadata_plan.specs.Entries.{AreAllClosed}
use Rattle.metadata_relation.specs.InlineLists.{inline_lists}
use Rattle.metadata_relation.specs.Laid.{program_of}
use Rattle.metadata_relation.specs.Blocks.{Expansion}
use Rattle.reg_plan.specs.Planned.{IsPlannable, ArePlannable}
use Rattle.image_laws.specs.Plans.EntryLists.{AssignEntries}
use Rattle.image_laws.specs.Plans.Instructions.{HasCallees, HasDefiniteFunctions}
use Rattle.image_laws.proofs.Plans.Expansions.{of_each}
use Rattle.image_laws.proofs.Assignment.Expanded.{expanded_plannable}
use Rattle.image_laws.proofs.Assignment.Alone.{entry_plannable}

module _ (e : Expansion) (homes : CodeFunction → List ℕ) (runtime : List FlatFunction) (read write : EntryCode)
    (entries : AssignEntries read write) (callees : HasCallees (program_of e homes runtime) e.code)
    (same : e.inline ≡ inline_lists read write e.map) (closed : AreAllClosed e.code e.entries)
    (definite : HasDefiniteFunctions e homes)
    (others : (k : ℕ) (f : FlatFunction) → slice_get runtime k ≡ Some f
    → IsPlannable (program_of e homes runtime) (length e.code.functions + k) f)
    (takes : parameters_of (function_in (program_of e homes runtime) e.code.main) ≡ 0)
    (gives : results_of (function_in (program_of e homes runtime) e.code.main) ≤ 2) where
  abbrev p : FlatProgram
  p = program_of e homes runtime

  pub program_plannable : ArePlannable p
  program_plannable =
      of_each e homes runtime (IsPlannable p)
      (λ u c at.
      let d = definite.each u c at in
      expanded_plannable p e u c (homes c) read write entries callees same (closed.by u c at) d.0 d.1 d.2) others
      (λ u. entry_plannable p u e.map e.code takes gives)

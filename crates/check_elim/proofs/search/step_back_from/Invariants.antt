use Rattle.std.proofs.Common.{◌≡◌, ◌<◌, ℕ, Some}
use Rattle.std.specs.Prelude.{slice_get}
use Rattle.data_flow.specs.Relations.{images}
use Rattle.tac_ir.specs.declared.instruction.Instruction.{Instruction}
use Rattle.check_elim.specs.Searches.{IsSearching, IsSeen}
use Rattle.check_elim.specs.Seeking.{fact_of}
use Rattle.check_elim.specs.Worklists.{Grows}
use Rattle.check_elim.proofs.search.step_back_from.Given as goal

abbrev pub invariant-loop-other : goal.invariant-loop-other
invariant-loop-other l = record {
  items : l.other-items ≡ images l.before l.from;
  searching : IsSearching l.sought.function.now (fact_of l.sought) l.node l.visited;
  grows : Grows l.initial.visited l.visited;
  seen : (k u : ℕ) → k < l.other-index → slice_get (images l.before l.from) k ≡ Some u → (i : Instruction)
      → slice_get l.sought.function.now.code u ≡ Some i
      → IsSeen l.sought.function.now (fact_of l.sought) l.visited u i;
}

use Rattle.std.proofs.Common.{drop}
use Rattle.runtime_functions.proofs.Listed.{Completes}
use Rattle.runtime_functions.proofs.runtime.functions_of.Given as goal

abbrev pub invariant-loop-function : goal.invariant-loop-function
invariant-loop-function g l =
    Completes l.map g.S.ShadowForm.entry (g.S.ShadowForm.IsGood l.map) l.list (drop l.function-index l.list)
    l.functions.items

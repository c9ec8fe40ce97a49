use Rattle.std.proofs.lemmas.Result.{IfOk-weaker}
use Rattle.runtime_functions.proofs.LibraryCalls.{function_of_list}
use Rattle.runtime_functions.proofs.runtime.runtime_function_of.Goals as goal

pub returns : goal.returns
returns g c =
    let a = c.args in
    IfOk-weaker _ _ _
    (λ f h. function_of_list a.map.now g.S.ShadowForm.entry (g.S.ShadowForm.IsGood a.map.now) a.function f
    c.in_ok-routine.routine.items _ _ _ _ c.deref.ensures.value c.parameters.ensures c.results.ensures c.first.ensures
    c.in_ok-routine.ensures.code c.in_ok-routine.ensures.shape h) c.runtime_function.ensures.function

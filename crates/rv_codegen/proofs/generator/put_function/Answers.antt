use Rattle.std.proofs.Common.{sym, ◌∙◌}
use Rattle.rv_codegen.proofs.Below.{runtime_below, compiled_below}
use Rattle.rv_codegen.proofs.generator.put_function.Goals as goal

pub returns-then-runtime : goal.returns-then-runtime
returns-then-runtime c =
    runtime_below c.args.map.now c.args.program.now c.args.plans.now c.args.number c.index-functions-number.result
    c.as_slice-functions.result.now c.as_slice-functions.ensures c.requires.function c.index-functions-number.is
    _ _ _ _ _ _ c.as_slice-words.result.now c.requires.below
    (c.as_slice-words.ensures.value ∙ c.in_ok-code.ensures.0) c.in_ok-code.ensures.1
    (sym c.is_of_runtime-runtime.ensures ∙ c.if-runtime.true) c.in_ok-put_runtime.ensures.rows
    c.in_ok-put_runtime.ensures.runtime c.in_ok-put_runtime.ensures.compiled

pub returns : goal.returns
returns c =
    compiled_below c.args.map.now c.args.program.now c.args.plans.now c.args.number c.index-functions-number.result
    c.as_slice-functions.result.now c.as_slice-functions.ensures c.requires.function c.index-functions-number.is
    _ _ _ _ _ _ c.as_slice-words.result.now c.requires.below
    (c.as_slice-words.ensures.value ∙ c.in_ok-code.ensures.0) c.in_ok-code.ensures.1
    (sym c.is_of_runtime-runtime.ensures ∙ c.if-runtime.false) c.in_ok-put_compiled.ensures.rows
    c.in_ok-put_compiled.ensures.runtime c.in_ok-put_compiled.ensures.compiled

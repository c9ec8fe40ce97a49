use Rattle.std.proofs.Common.{◌≡◌, ◌++◌}
use Rattle.machine_laws.specs.Calls.Calls.{give}
use Rattle.rv_codegen.specs.EmittedCode.Kept.{kept_by}
use Rattle.rv_codegen.proofs.emission.calls.put_give.Given as goal

abbrev pub invariant-loop-word : goal.invariant-loop-word
invariant-loop-word l =
    l.code.items ≡ l.initial.code.items ++ give (kept_by l.function l.plan) l.first l.word

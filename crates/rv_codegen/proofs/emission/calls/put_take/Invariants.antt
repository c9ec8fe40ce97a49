use Rattle.std.proofs.Common.{◌≡◌, ◌++◌}
use Rattle.machine_laws.specs.Calls.Calls.{take}
use Rattle.rv_codegen.specs.EmittedCode.Kept.{kept_by}
use Rattle.rv_codegen.proofs.emission.calls.put_take.Given as goal

abbrev pub invariant-loop-word : goal.invariant-loop-word
invariant-loop-word l =
    l.code.items ≡ l.initial.code.items ++ take (kept_by l.function l.plan) l.place l.first l.word

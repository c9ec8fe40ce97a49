use Rattle.std.proofs.Common.{◌≡◌, ◌++◌, drop}
use Rattle.std.specs.List.{flat_map}
use Rattle.rv_codegen.specs.EmittedCode.Kept.{kept_by}
use Rattle.rv_codegen.specs.EmittedCode.Saving.{save_unless}
use Rattle.rv_codegen.proofs.emission.calls.put_saves.Given as goal

abbrev pub invariant-loop-register : goal.invariant-loop-register
invariant-loop-register l =
    l.code.items
    ++ flat_map (save_unless (kept_by l.function l.plan) l.results.into l.results.count) (drop l.register-index l.saved)
    ≡ l.initial.code.items
    ++ flat_map (save_unless (kept_by l.function l.plan) l.results.into l.results.count) l.saved

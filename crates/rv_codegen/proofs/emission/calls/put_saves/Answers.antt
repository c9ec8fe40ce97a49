use Rattle.std.proofs.Common.{◌++◌, ◌∙◌, ap, length}
use Rattle.std.specs.List.{flat_map}
use Rattle.rv_codegen.specs.EmittedCode.Kept.{kept_by}
use Rattle.rv_codegen.specs.EmittedCode.Saving.{save_unless}
use Rattle.rv_codegen.proofs.EmittedCode.Saving.{saved_all, all_put}
use Rattle.rv_codegen.proofs.emission.calls.put_saves.Goals as goal

pub returns : goal.returns
returns c =
    let f = c.args.function.now in
    let plan = c.args.plan.now in
    let put = save_unless (kept_by f plan) c.args.results.into c.args.results.count in
    all_put put c.loop-register.code.items c.args.code.now.items c.args.saved.now c.loop-register.register-index
    c.loop-register-test.false c.loop-register.invariant
    ∙ ap (λ xs. c.args.code.now.items ++ flat_map put xs) c.requires
    ∙ ap (λ is. c.args.code.now.items ++ is)
    (saved_all f plan c.args.place c.args.results.into c.args.results.count (length plan.live.items))

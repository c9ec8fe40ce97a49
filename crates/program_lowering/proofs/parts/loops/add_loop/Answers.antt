use Rattle.std.proofs.Common.{◌≡◌, length, Some, None, refl, sym, subst}
use Rattle.program_lowering.specs.StatementParts.Counting.{parts_with}
use Rattle.program_lowering.specs.StatementParts.Loops.{LoopAdded}
use Rattle.program_lowering.proofs.StatementParts.LoopParts.{no_loop, some_loop}
use Rattle.program_lowering.proofs.parts.loops.add_loop.Goals as goal

pub returns-in_ok-push-in-Some : goal.returns-in_ok-push-in-Some
returns-in_ok-push-in-Some c =
    let after = record c.args.code.now { loops = c.push.new.self } in
    let at : c.len-number.result ≡ length c.args.code.now.loops.items = search in
    subst (λ r. LoopAdded c.args.code.now after (parts_with r) c.args.setting c.args.h c.args.body
    (Some c.len-number.result))
    (sym c.in-Some.is)
    (some_loop c.args.code.now after c.in-Some.range c.len-number.result c.args.setting c.args.h c.args.body
    refl refl refl c.in_ok-push-in-Some.ensures.items refl refl at)

pub returns-in-None : goal.returns-in-None
returns-in-None c =
    subst (λ r. LoopAdded c.args.code.now c.args.code.now (parts_with r) c.args.setting c.args.h c.args.body None)
    (sym c.in-None.is) no_loop

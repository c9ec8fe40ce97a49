use Rattle.std.proofs.Common.{◌≡◌, ◌++◌, ◌∷◌, [], ◌+◌, ◌∙◌, ap, arith}
use Rattle.rv_asm.specs.declared.item.Item.TheVariants as item
use Rattle.machine_laws.specs.Following.Code.{keeping}
use Rattle.machine_laws.specs.Layout.Lists.{label_for}
use Rattle.rv_codegen.proofs.EmittedCode.Lists.{jump_to_next, jump_further}
use Rattle.rv_codegen.proofs.listing.put_forward.Goals as goal

pub returns-then-past-eq0 : goal.returns-then-past-eq0
returns-then-past-eq0 c =
    let planned = c.args.planned.now in
    jump_to_next (keeping planned.program.now planned.plans.now planned.number) c.args.count c.args.place c.args.past
    c.args.list.now c.if-past-eq0.true

pub returns : goal.returns
returns c =
    let planned = c.args.planned.now in
    let target : c.from.result + 1 + c.from-2.result ≡ c.args.place + 1 + c.args.past =
    omega (arith, c.from.ensures, c.from-2.ensures) in
    jump_further (keeping planned.program.now planned.plans.now planned.number) c.args.count c.args.place c.args.past
    c.args.list.now _ (omega (arith, c.if-past-eq0.false))
    (c.in_ok-put_jump.ensures ∙ ap (λ n. c.args.list.now ++ item.Jump n ∷ []) c.label_for.ensures
    ∙ ap (λ q. c.args.list.now ++ item.Jump (label_for c.args.count q) ∷ []) target)

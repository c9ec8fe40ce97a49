use Rattle.std.proofs.Common.{ap, ◌∙◌, arith}
use Rattle.c_pre.specs.declared.arguments.Ends.{Ends}
use Rattle.c_pre.specs.ArgumentEnds.{roles, ends_of}
use Rattle.c_pre.proofs.ArgumentEnds.{argument_ends, no_argument_ends}
use Rattle.c_pre.proofs.Heights.{take_all}
use Rattle.c_pre.proofs.unread.Unread.argument_end.Goals as goal

pub returns-then-height-end : goal.returns-then-height-end
returns-then-height-end c =
    let u = c.args.self.now in
    let all = c.ends_at-height.ensures ∙ ap (λ ts. ends_of (roles ts)) (take_all c.len.result u.tokens.items
    (omega (arith, c.len.ensures))) in
    argument_ends u c.args.end c.ends_at-height.result.argument (ap (λ (e : Ends). e.argument) all)
    (omega (arith, c.if-height-end.true))

pub returns-else-height-end : goal.returns-else-height-end
returns-else-height-end c =
    let u = c.args.self.now in
    let all = c.ends_at-height.ensures ∙ ap (λ ts. ends_of (roles ts)) (take_all c.len.result u.tokens.items
    (omega (arith, c.len.ensures))) in
    no_argument_ends u c.args.end c.ends_at-height.result.argument (ap (λ (e : Ends). e.argument) all)
    (omega (arith, c.if-height-end.false))

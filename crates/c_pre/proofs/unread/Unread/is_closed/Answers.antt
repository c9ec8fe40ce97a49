use Rattle.std.proofs.Common.{nat_lt, ap, ◌∙◌, arith}
use Rattle.c_pre.specs.declared.arguments.Ends.{Ends}
use Rattle.c_pre.specs.ArgumentEnds.{roles, ends_of}
use Rattle.c_pre.proofs.ArgumentEnds.{call_closed}
use Rattle.c_pre.proofs.Heights.{take_all}
use Rattle.c_pre.proofs.unread.Unread.is_closed.Goals as goal

pub returns : goal.returns
returns c =
    let u = c.args.self.now in
    ap (λ (e : Ends). nat_lt c.args.end e.call) (c.ends_at.ensures ∙ ap (λ ts. ends_of (roles ts))
    (take_all c.len.result u.tokens.items (omega (arith, c.len.ensures))))
    ∙ call_closed u c.args.end

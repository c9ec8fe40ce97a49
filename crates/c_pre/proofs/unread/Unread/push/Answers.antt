use Rattle.std.proofs.Common.{[], ap, sym, ◌∙◌}
use Rattle.c_pre.specs.ArgumentEnds.{each_ends}
use Rattle.c_pre.proofs.ArgumentEnds.{ends_pushed}
use Rattle.c_pre.proofs.unread.Unread.push.Goals as goal

pub invariant_of-self-in-Ok : goal.invariant_of-self-in-Ok
invariant_of-self-in-Ok c =
    let u = c.args.self.now in
    record {
      ends_are = c.in_ok-push.ensures.items
          ∙ ends_pushed u.tokens.items u.ends.items c.args.x c.ends_before-ends.result u.ends_are
          c.ends_before-ends.ensures
          ∙ ap (each_ends []) (sym c.in-Ok.ensures.items);
    }

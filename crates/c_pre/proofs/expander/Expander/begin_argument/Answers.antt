use Rattle.std.proofs.Common.{◌≡◌, List, ◌∷◌, sym, ap, subst, ◌∙◌}
use Rattle.c_pre.specs.declared.expander.Call as declared
use Rattle.c_pre.specs.InnerFirst.{inner_first}
use Rattle.c_pre.specs.Pending.{left_in, comes_to, SoundIn}
use Rattle.c_pre.specs.Ends.{EndIs}
use Rattle.c_pre.proofs.Stacks.{last_is_inner}
use Rattle.c_pre.proofs.Calling.{other_argument, sound_call}
use Rattle.c_pre.proofs.expander.Expander.begin_argument.Goals as goal

pub returns : goal.returns
returns c =
    let u = c.args.self.now.unread in
    let outer = inner_first c.args.self.now.calls.items in
    let end = c.in-Some.end in
    let call : declared.Call = record c.args.call { end = end } in
    let is_end = subst (λ low. EndIs u low c.argument_end.result) c.end-outer.ensures c.argument_end.ensures in
    let here = rw c.in-Some.is at is_end in
    let new : inner_first c.push.new.self.items ≡ call ∷ outer =
    ap inner_first c.in_ok-push.ensures.items ∙ last_is_inner c.args.self.now.calls.items call in
    record {
      same = λ macros. other_argument u.sets outer u.tokens.items call here.0.0 here.0.1 here.0.2 here.1
          c.requires.closed macros u.room c.requires.given
          ∙ ap (λ cs. comes_to macros (left_in u.sets cs u.tokens.items u.room)) (sym new);
      sound = subst (λ (cs : List declared.Call). SoundIn u.sets cs u.tokens.items) (sym new)
          (sound_call u.sets outer u.tokens.items call here.0.0 here.0.1 here.0.2 here.1 c.requires.closed
          (record { hidden = c.requires.call.hidden; done = c.requires.call.done; given = c.requires.call.given })
          c.requires.sound);
    }

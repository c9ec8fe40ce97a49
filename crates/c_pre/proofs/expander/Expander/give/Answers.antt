use Rattle.std.proofs.Common.{◌≡◌, List, [], ◌∷◌, refl, sym, ap, subst, ◌∙◌, arith}
use Rattle.c_pre.specs.declared.expander.Call as declared
use Rattle.c_pre.specs.Expansion.{gives_first, expansion, trace_of}
use Rattle.c_pre.specs.InnerFirst.{inner_first}
use Rattle.c_pre.specs.Pending.{left_in, hiding, resumed, comes_to, SoundIn}
use Rattle.c_pre.specs.Progress.{staying}
use Rattle.c_pre.specs.Trace.{after, gives, ◌>>=◌}
use Rattle.c_pre.proofs.Stacks.{last_is_inner}
use Rattle.c_pre.proofs.Proceeding.{empty_list, text_goes, argument_given, argument_given_sound}
use Rattle.c_pre.proofs.expander.Expander.give.Goals as goal

pub returns-then-depth-eq0 : goal.returns-then-depth-eq0
returns-then-depth-eq0 c =
    let u = c.args.self.now.unread in
    let x = c.args.x in
    let old : inner_first c.args.self.now.calls.items ≡ [] =
    ap inner_first (empty_list c.args.self.now.calls.items (omega (arith, c.len-depth.ensures, c.if-depth-eq0.true))) in
    text_goes (λ macros. staying macros c.args.self.now x)
    (λ macros. comes_to macros (left_in u.sets (inner_first c.args.self.now.calls.items) u.tokens.items u.room)) _
    c.args.out.now.items c.give.new.out.items x.token c.give.result c.give.ensures
    (λ macros. subst (λ (cs : List declared.Call). trace_of
    (resumed (expansion macros) (left_in u.sets cs u.tokens.items u.room).frames
    (gives_first (hiding u.sets x) (expansion macros (left_in u.sets cs u.tokens.items u.room).line u.room
    (left_in u.sets cs u.tokens.items u.room).tokens)))
    ≡ (gives x.token >>= λ _. trace_of (comes_to macros (left_in u.sets cs u.tokens.items u.room)))) (sym old) refl)
    (λ macros. refl)
    c.requires.sound

pub returns : goal.returns
returns c =
    let u = c.args.self.now.unread in
    let x = c.args.x in
    let call = c.in-Some.call in
    let given = c.push.new.self in
    let outer = inner_first c.pop.new.self.items in
    let old : inner_first c.args.self.now.calls.items ≡ call ∷ outer =
    ap inner_first c.in-Some.ensures.items ∙ last_is_inner c.pop.new.self.items call in
    let after_call : declared.Call = record call { given = given } in
    let new : inner_first c.push-2.new.self.items ≡ after_call ∷ outer =
    ap inner_first c.in_ok-push-2.ensures.items ∙ last_is_inner c.pop.new.self.items after_call in
    record {
      same = λ macros. ap (λ t. after c.args.out.now.items (trace_of t))
          (ap (λ cs. resumed (expansion macros) (left_in u.sets cs u.tokens.items u.room).frames
          (gives_first (hiding u.sets x) (expansion macros (left_in u.sets cs u.tokens.items u.room).line u.room
          (left_in u.sets cs u.tokens.items u.room).tokens))) old
          ∙ argument_given macros u.sets call given outer x u.tokens.items u.room c.in_ok-push.ensures.items
          ∙ ap (λ cs. comes_to macros (left_in u.sets cs u.tokens.items u.room)) (sym new));
      sound = subst (λ (cs : List declared.Call). SoundIn u.sets cs u.tokens.items) (sym new)
          (argument_given_sound u.sets call given outer x u.tokens.items c.in_ok-push.ensures.items c.requires.set
          (subst (λ (cs : List declared.Call). SoundIn u.sets cs u.tokens.items) old c.requires.sound));
      few = c.requires.few;
    }

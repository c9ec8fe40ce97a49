use Rattle.std.proofs.Common.{◌≡◌, List, ◌∷◌, ℕ, zero, is_some, true, false, nat_eq, sym, ap, subst, ◌∙◌, arith}
use Rattle.std.specs.List.{AllByRecursion}
use Rattle.c_pre.specs.declared.expander.Call as declared
use Rattle.c_pre.specs.declared.fault.PreFaultKind.TheVariants.{BadCall}
use Rattle.c_pre.specs.Arguments.{taken}
use Rattle.c_pre.specs.Directives.{names_among}
use Rattle.c_pre.specs.Ends.{EndIs}
use Rattle.c_pre.specs.Expansion.{Expansion, expansion, stops, with_call}
use Rattle.c_pre.specs.InnerFirst.{inner_first}
use Rattle.c_pre.specs.Names.{Macros}
use Rattle.c_pre.specs.Pending.{left, left_in, above, resumed, comes_to, AreKnown, SoundIn}
use Rattle.c_pre.specs.Progress.{used}
use Rattle.c_pre.specs.SharedSets.{names_of}
use Rattle.c_pre.specs.Trace.{fault_at}
use Rattle.c_pre.proofs.Calling.{first_argument, same_empty, sound_call}
use Rattle.c_pre.proofs.Splitting.{none_of}
use Rattle.c_pre.proofs.Stacks.{last_is_inner}
use Rattle.c_pre.proofs.Steps.{resumed_stops}
use Rattle.c_pre.proofs.expander.Expander.begin_call.Goals as goal

pub returns-then-not-is_closed : goal.returns-then-not-is_closed
returns-then-not-is_closed c = λ macros.
    let l = left c.args.self.now in
    let u = c.args.self.now.unread in
    let is_used = used c.args.self.now c.args.x c.args.name c.args.list.now in
    let none = none_of (taken zero l.tokens)
    (subst (λ low. is_some (taken zero (above low u.sets u.tokens.items)) ≡ false) c.end-outer.ensures
    (sym c.if-not-is_closed.ensures)) in
    rw c.bad_call.ensures
    (ap (λ o. resumed (expansion macros) l.frames (with_call (expansion macros) l.line is_used
    (names_among c.args.parameters.now) l.room o)) none
    ∙ resumed_stops (expansion macros) l.frames (fault_at is_used.line BadCall)
    ∙ ap (λ n. stops (fault_at n BadCall)) (sym c.line-line.ensures))

pub returns : goal.returns
returns c =
    let u = c.args.self.now.unread in
    let l = left c.args.self.now in
    let outer = inner_first c.args.self.now.calls.items in
    let end = c.in-Some.end in
    let call : declared.Call = record {
      name = c.args.name;
      hidden = c.args.x.hidden;
      line = c.line-line.result;
      parameters = c.args.parameters;
      list = c.args.list;
      is_empty = nat_eq end c.len.result;
      end = end;
      done = c.new.result;
      given = c.new-2.result;
    } in
    let is_end = subst (λ low. EndIs u low c.argument_end.result) c.end-outer.ensures c.argument_end.ensures in
    let here = rw c.in-Some.is at is_end in
    let closed = subst (λ low. is_some (taken zero (above low u.sets u.tokens.items)) ≡ true) c.end-outer.ensures
    (sym c.if-not-is_closed.ensures) in
    let new : inner_first c.push.new.self.items ≡ call ∷ outer =
    ap inner_first c.in_ok-push.ensures.items ∙ last_is_inner c.args.self.now.calls.items call in
    let empty : nat_eq end c.len.result ≡ nat_eq here.0.0 0 =
    same_empty end here.0.0 c.len.result (omega (arith, here.0.1, c.len.ensures)) in
    let with_line : Macros → ℕ → Expansion = λ macros n. resumed (expansion macros) l.frames
    (with_call (expansion macros) l.line (record {
      name = c.args.name;
      hidden = names_of u.sets c.args.x.hidden;
      line = n;
      list = c.args.list.now;
    }) (names_among c.args.parameters.now) l.room (taken zero l.tokens)) in
    record {
      same = λ macros. ap (with_line macros) (sym c.line-line.ensures)
          ∙ first_argument u.sets outer u.tokens.items call here.0.0 here.0.1 here.0.2 here.1 closed macros u.room
          c.new.ensures.items c.new-2.ensures.items empty
          ∙ ap (λ cs. comes_to macros (left_in u.sets cs u.tokens.items u.room)) (sym new);
      sound = subst (λ (cs : List declared.Call). SoundIn u.sets cs u.tokens.items) (sym new)
          (sound_call u.sets outer u.tokens.items call here.0.0 here.0.1 here.0.2 here.1 closed
          (record {
            hidden = c.requires.set;
            done = subst (λ items. AllByRecursion (λ v. AreKnown u.sets v.items) items) (sym c.new.ensures.items) tt;
            given = subst (λ items. AreKnown u.sets items) (sym c.new-2.ensures.items) tt;
          })
          c.requires.sound);
    }

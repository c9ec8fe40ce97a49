use Rattle.std.proofs.Common.{◌≡◌, List, [], ◌∷◌, map, length, true, false, refl, sym, ap, subst, Vec, Global, ◌∙◌}
use Rattle.std.proofs.Common.{arith}
use Rattle.c_pre.specs.declared.fault.PreFaultKind.TheVariants.{BadCall}
use Rattle.c_pre.specs.Arguments.{fits}
use Rattle.c_pre.specs.Directives.{names_among}
use Rattle.c_pre.specs.Expansion.{Expansion, expansion, put_in, read_again}
use Rattle.c_pre.specs.HideSets.{HidingToken, common}
use Rattle.c_pre.specs.InnerFirst.{inner_first}
use Rattle.c_pre.specs.Pending.{left, all_hiding, frame, resumed}
use Rattle.c_pre.specs.PutIn.{PutsIn}
use Rattle.c_pre.specs.Names.{Macros}
use Rattle.c_pre.specs.declared.hiding.Hiding.{Hiding}
use Rattle.c_pre.specs.Progress.{last_argument}
use Rattle.c_pre.specs.SharedSets.{names_of}
use Rattle.c_pre.specs.Trace.{fault_at}
use Rattle.c_pre.proofs.Heights.{all_weaker, length_map, still_are_known}
use Rattle.c_pre.proofs.Lefts.{same_done}
use Rattle.c_pre.proofs.Proceeding.{put_steps, sets_then_put}
use Rattle.c_pre.proofs.Sets.{grows_twice}
use Rattle.c_pre.proofs.Steps.{call_ends, call_does_not_fit, resumed_stops}
use Rattle.c_pre.proofs.expander.Expander.end_call.Goals as goal

pub returns-then-not-fits : goal.returns-then-not-fits
returns-then-not-fits c = λ macros.
    let l = left c.args.self.now in
    let sets = c.args.self.now.unread.sets in
    let call = c.args.call in
    let f = frame sets call l.line [] in
    let done = map (λ v. all_hiding sets v.items) call.done.items in
    let no : fits (length f.parameters) f.is_empty (length done) ≡ false =
    ap (fits (length f.parameters) f.is_empty) (length_map (λ v. all_hiding sets v.items) call.done.items
    ∙ (let e : length call.done.items ≡ c.len.result = omega (arith, c.len.ensures) in e))
    ∙ ap (λ n. fits n f.is_empty c.len.result) (sym c.count.ensures) ∙ sym c.if-not-fits.ensures in
    rw c.bad_call.ensures
    (ap (resumed (expansion macros) l.frames)
    (call_does_not_fit (expansion macros) f done l.room (names_of sets c.args.close) l.tokens no)
    ∙ resumed_stops (expansion macros) l.frames (fault_at call.line BadCall))

pub put_in-requires-clause-known : goal.put_in-requires-clause-known
put_in-requires-clause-known c =
    let sets = c.args.self.now.unread.sets in
    still_are_known sets c.with.new.self
    (grows_twice sets c.common.new.self c.with.new.self c.in_ok-shared.ensures.grows c.in_ok-here.ensures.grows)
    c.args.self.now.unread.tokens.items c.requires.sound.unread

pub put_in-requires-clause-arguments : goal.put_in-requires-clause-arguments
put_in-requires-clause-arguments c =
    let sets = c.args.self.now.unread.sets in
    let grows = grows_twice sets c.common.new.self c.with.new.self c.in_ok-shared.ensures.grows
    c.in_ok-here.ensures.grows in
    rw c.as_slice-done.ensures.value
    (all_weaker _ _ (λ v k. still_are_known sets c.with.new.self grows v.items k) c.args.call.done.items
    c.requires.call.done)

pub returns : goal.returns
returns c =
    let u = c.args.self.now.unread in
    let sets = u.sets in
    let made = c.with.new.self in
    let l = left c.args.self.now in
    let call = c.args.call in
    let f = frame sets call l.line [] in
    let done = map (λ v. all_hiding sets v.items) call.done.items in
    let close = names_of sets c.args.close in
    let here = names_of made c.in_ok-here.here in
    let parameters = names_among call.parameters.now in
    let grows = grows_twice sets c.common.new.self made c.in_ok-shared.ensures.grows c.in_ok-here.ensures.grows in
    let tokens = put_in call.line here parameters (map (λ v. all_hiding made v.items) call.done.items) call.list.now in
    let yes : fits (length parameters) call.is_empty (length done) ≡ true =
    ap (fits (length parameters) call.is_empty)
    (length_map (λ v. all_hiding sets v.items) call.done.items
    ∙ (let e : length call.done.items ≡ c.len.result = omega (arith, c.len.ensures) in e))
    ∙ ap (λ n. fits n call.is_empty c.len.result) (sym c.count.ensures) ∙ sym c.if-not-fits.ensures in
    let same_arguments : put_in call.line here parameters
    (map (λ v. all_hiding made v.items) c.as_slice-done.result.now)
    call.list.now ≡ tokens =
    ap (λ (items : List (Vec Hiding Global)). put_in call.line here parameters
    (map (λ v. all_hiding made v.items) items)
    call.list.now) c.as_slice-done.ensures.value in
    let again : List HidingToken → Macros → Expansion = λ ts macros. resumed (expansion macros) l.frames
    (read_again (expansion macros) l.line call.line l.room ts l.tokens) in
    let same : put_in call.line (call.name ∷ common (names_of sets call.hidden) close) parameters done call.list.now
    ≡ tokens =
    ap (λ h. put_in call.line h parameters done call.list.now)
    (sym (c.in_ok-here.ensures.names ∙ ap (λ ns. call.name ∷ ns) c.in_ok-shared.ensures.names))
    ∙ ap (λ d. put_in call.line here parameters d call.list.now)
    (sym (same_done sets made grows (λ v. v.items) call.done.items c.requires.call.done)) in
    put_steps tokens u c.put_in.new.self (inner_first c.args.self.now.calls.items) c.requires.sound c.requires.within
    (λ macros. last_argument macros c.args.self.now call c.args.close) call.line _ c.put_in.result refl refl
    (λ macros. ap (resumed (expansion macros) l.frames)
    (call_ends (expansion macros) f done l.room close l.tokens yes)
    ∙ ap (λ ts. again ts macros) same)
    (subst (λ ts. PutsIn ts u c.put_in.new.self call.line c.put_in.result) same_arguments
    (sets_then_put _ u _ c.put_in.new.self call.line c.put_in.result grows refl refl c.put_in.ensures))

use Rattle.std.proofs.Common.{◌≤◌, ◌∷◌, length, subst, ap, ◌∙◌, arith}
use Rattle.std.proofs.lemmas.Result.{err_from_is_err_and}
use Rattle.c_pre.specs.Ends.{Popped}
use Rattle.c_pre.specs.Expansion.{trace_of}
use Rattle.c_pre.specs.InnerFirst.{inner_first}
use Rattle.c_pre.specs.Outcomes.{macros_of}
use Rattle.c_pre.specs.Pending.{comes_to, left_in}
use Rattle.c_pre.specs.Trace.{after}
use Rattle.c_pre.proofs.Ending.{token_known, popped_sound, popped_reads, nothing_left, innermost}
use Rattle.c_pre.proofs.Proceeding.{empty_list, fails_by}
use Rattle.c_pre.proofs.Stacks.{last_is_inner}
use Rattle.c_pre.proofs.expander.Expander.step.Goals as goal

pub read-requires-clause-sound : goal.read-requires-clause-sound
read-requires-clause-sound c =
    popped_sound c.args.self.now.unread c.next.new.self (inner_first c.args.self.now.calls.items) c.in-Some.x
    (subst (λ end. Popped c.args.self.now.unread c.next.new.self end c.in-Some.x) c.end-end.ensures c.in-Some.ensures)
    c.requires.sound

pub read-requires-clause-set : goal.read-requires-clause-set
read-requires-clause-set c =
    token_known c.args.self.now.unread c.next.new.self (inner_first c.args.self.now.calls.items) c.in-Some.x
    (subst (λ end. Popped c.args.self.now.unread c.next.new.self end c.in-Some.x) c.end-end.ensures c.in-Some.ensures)
    c.requires.sound.unread

pub returns-in-Some : goal.returns-in-Some
returns-in-Some c =
    let whole = popped_reads c.args.self.now.unread c.next.new.self
    (inner_first c.args.self.now.calls.items) c.in-Some.x
    (subst (λ end. Popped c.args.self.now.unread c.next.new.self end c.in-Some.x) c.end-end.ensures c.in-Some.ensures)
    (macros_of c.args.macros.now) in
    record {
      same = ap (λ t. after c.args.out.now.items (trace_of t)) whole ∙ c.in_ok-read.ensures.same;
      sound = c.in_ok-read.ensures.sound;
      few = c.in_ok-read.ensures.few;
    }

pub returns-in_err-read : goal.returns-in_err-read
returns-in_err-read c =
    let whole = popped_reads c.args.self.now.unread c.next.new.self
    (inner_first c.args.self.now.calls.items) c.in-Some.x
    (subst (λ end. Popped c.args.self.now.unread c.next.new.self end c.in-Some.x) c.end-end.ensures c.in-Some.ensures)
    (macros_of c.args.macros.now) in
    let error = err_from_is_err_and c.from_residual.result c.from_residual.ensures.1 in
    rw (error.1, error.2, whole) c.in_err-read.ensures

pub returns-in_default-pop : goal.returns-in_default-pop
returns-in_default-pop c =
    let macros = macros_of c.args.macros.now in
    let calls = c.args.self.now.calls.items in
    let old = c.args.self.now.unread in
    let stays = c.in_default.ensures in
    record {
      same = nothing_left macros old c.next.new.self (inner_first calls) c.args.out.now.items
          (ap inner_first (empty_list calls (omega (arith, c.in_default-pop.ensures.cases.0))))
          (subst (λ end. length old.tokens.items ≤ end) c.end-end.ensures stays.0) stays.1.room;
      few = c.requires.few;
    }

pub returns-in_err-end_argument : goal.returns-in_err-end_argument
returns-in_err-end_argument c =
    let macros = macros_of c.args.macros.now in
    let call = c.in-Some-pop.call in
    let old = c.args.self.now.unread in
    let new = c.next.new.self in
    let outer = inner_first c.pop.new.self.items in
    let error = err_from_is_err_and c.from_residual-in_err-end_argument.result
    c.from_residual-in_err-end_argument.ensures.1 in
    rw (error.1, error.2)
    (fails_by _ (comes_to macros (left_in new.sets (call ∷ outer) new.tokens.items new.room)) c.args.out.now.items
    c.in_err-end_argument.field-0.0 c.requires.few
    (innermost macros old new (inner_first c.args.self.now.calls.items) outer call c.in_default.ensures.1
    (ap inner_first c.in-Some-pop.ensures.items ∙ last_is_inner c.pop.new.self.items call))
    (c.in_err-end_argument.ensures macros))

use Rattle.std.proofs.Common.{subst}
use Rattle.c_pre.specs.Directives.{names_among}
use Rattle.c_pre.specs.Ends.{OpenIs}
use Rattle.c_pre.specs.InnerFirst.{inner_first}
use Rattle.c_pre.specs.Pending.{left}
use Rattle.c_pre.specs.Expansion.{Expansion, line_at}
use Rattle.c_pre.specs.Names.{Macros}
use Rattle.c_pre.specs.Progress.{function_like}
use Rattle.c_pre.proofs.Ending.{popped_sound, opens_call}
use Rattle.c_pre.proofs.Proceeding.{steps_by, goes_by}
use Rattle.c_pre.proofs.expander.Expander.call.Goals as goal

pub begin_call-requires-clause-sound : goal.begin_call-requires-clause-sound
begin_call-requires-clause-sound c =
    let old = c.args.self.now.unread in
    let is_open = subst (λ end. OpenIs old c.open.new.self end c.in_ok-open.field-0) c.end-end.ensures
    c.in_ok-open.ensures in
    let here = rw c.in-Some.is at is_open in
    popped_sound old c.open.new.self (inner_first c.args.self.now.calls.items) c.in-Some.field-0 here.0 c.requires.sound

pub returns-in-Some : goal.returns-in-Some
returns-in-Some c =
    let old = c.args.self.now.unread in
    let is_open = subst (λ end. OpenIs old c.open.new.self end c.in_ok-open.field-0) c.end-end.ensures
    c.in_ok-open.ensures in
    let here = rw c.in-Some.is at is_open in
    let whole : Macros → Expansion = λ macros. function_like macros c.args.self.now c.args.x c.args.name
    c.args.parameters.now c.args.list.now in
    goes_by whole c.begin_call.new.self c.args.out.now.items c.begin_call.result c.requires.few
    (steps_by whole _ c.begin_call.new.self c.begin_call.result
    (λ macros. opens_call old c.open.new.self (inner_first c.args.self.now.calls.items) c.in-Some.field-0 here.0 here.1
    macros c.args.name (line_at (left c.args.self.now).line c.args.x.token.line) c.args.list.now
    (names_among c.args.parameters.now) c.args.x) c.begin_call.ensures)

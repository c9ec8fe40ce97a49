use Rattle.std.proofs.Common.{◌≡◌, ◌∙◌, arith, length, refl, vec_len}
use Rattle.sbcets_core.specs.Commands.{outside_of}
use Rattle.sbcets_core.proofs.WorkCases.{exit_works, limit_works, lines_fail, no_trap_alone, ran_to, report_fails}
use Rattle.sbcets_core.proofs.works.work.Goals as goal

pub returns-in-Err-put_report-clause-works : goal.returns-in-Err-put_report-clause-works
returns-in-Err-put_report-clause-works g c files reads writes input =
    let run = c.in-Ok-run_alone in
    let ran = ran_to c.args.seed c.args.count c.in-Ok.source.built c.in-Ok.source.size run.run'.stop _
    run.run'.shown.items run.run'.reported.items c.in-Ok.ensures.built c.in-Ok.ensures.size
    (rw c.deref.ensures.value at run.ensures.ran) refl in
    report_fails c.args.seed c.args.count c.in-Ok.source.built c.in-Ok.source.size run.run'.stop run.run'.shown.items run.run'.reported.items
    (outside_of files reads writes input (g.O.Sink.taken c.args.output.now) (g.E.Sink.taken c.args.errors.now))
    (g.E.Sink.taken c.put_report.new.sink) ran (rw c.deref-2.ensures.value at c.in-Err-put_report.ensures.err)

pub returns-in-Ok-put_lines-clause-works : goal.returns-in-Ok-put_lines-clause-works
returns-in-Ok-put_lines-clause-works g c files reads writes input =
    let run = c.in-Ok-run_alone in
    let ran = ran_to c.args.seed c.args.count c.in-Ok.source.built c.in-Ok.source.size run.run'.stop _
    run.run'.shown.items run.run'.reported.items c.in-Ok.ensures.built c.in-Ok.ensures.size
    (rw c.deref.ensures.value at run.ensures.ran) c.in-Exited.is in
    let counts : vec_len run.run'.shown ≡ length run.run'.shown.items = omega arith in
    exit_works c.args.seed c.args.count c.in-Exited.status c.in-Ok.source.built c.in-Ok.source.size run.run'.shown.items run.run'.reported.items
    (outside_of files reads writes input (g.O.Sink.taken c.args.output.now) (g.E.Sink.taken c.args.errors.now))
    (g.O.Sink.taken c.put_lines.new.sink) (g.E.Sink.taken c.put_report.new.sink) ran
    (rw (c.len.ensures ∙ counts) at c.in-Ok-put_lines.ensures.ok) (rw c.deref-2.ensures.value at c.in_default.ensures.ok)

pub returns-in-Exited-clause-works : goal.returns-in-Exited-clause-works
returns-in-Exited-clause-works g c files reads writes input =
    let run = c.in-Ok-run_alone in
    let ran = ran_to c.args.seed c.args.count c.in-Ok.source.built c.in-Ok.source.size run.run'.stop _
    run.run'.shown.items run.run'.reported.items c.in-Ok.ensures.built c.in-Ok.ensures.size
    (rw c.deref.ensures.value at run.ensures.ran) c.in-Exited.is in
    let counts : vec_len run.run'.shown ≡ length run.run'.shown.items = omega arith in
    lines_fail c.args.seed c.args.count c.in-Exited.status c.in-Ok.source.built c.in-Ok.source.size run.run'.shown.items run.run'.reported.items
    (outside_of files reads writes input (g.O.Sink.taken c.args.output.now) (g.E.Sink.taken c.args.errors.now))
    (g.O.Sink.taken c.put_lines.new.sink) (g.E.Sink.taken c.put_report.new.sink) ran
    (rw (c.len.ensures ∙ counts) at c.in-Err-put_lines.ensures.err) (rw c.deref-2.ensures.value at c.in_default.ensures.ok)

pub returns-in-Limit-clause-works : goal.returns-in-Limit-clause-works
returns-in-Limit-clause-works g c files reads writes input =
    let run = c.in-Ok-run_alone in
    let ran = ran_to c.args.seed c.args.count c.in-Ok.source.built c.in-Ok.source.size run.run'.stop _
    run.run'.shown.items run.run'.reported.items c.in-Ok.ensures.built c.in-Ok.ensures.size
    (rw c.deref.ensures.value at run.ensures.ran) c.in-Limit.is in
    limit_works c.args.seed c.args.count c.in-Ok.source.built c.in-Ok.source.size run.run'.shown.items run.run'.reported.items
    (outside_of files reads writes input (g.O.Sink.taken c.args.output.now) (g.E.Sink.taken c.args.errors.now))
    (g.E.Sink.taken c.put_report.new.sink) ran (rw c.deref-2.ensures.value at c.in_default.ensures.ok)

pub unreachable-requires-in-Trap : goal.unreachable-requires-in-Trap
unreachable-requires-in-Trap g c =
    let run = c.in-Ok-run_alone in
    let ran = ran_to c.args.seed c.args.count c.in-Ok.source.built c.in-Ok.source.size run.run'.stop _
    run.run'.shown.items run.run'.reported.items c.in-Ok.ensures.built c.in-Ok.ensures.size
    (rw c.deref.ensures.value at run.ensures.ran) c.in-Trap.is in
    no_trap_alone c.args.seed c.args.count c.in-Ok.source.built c.in-Ok.source.size c.in-Trap.kind c.in-Trap.pc run.run'.shown.items run.run'.reported.items ran

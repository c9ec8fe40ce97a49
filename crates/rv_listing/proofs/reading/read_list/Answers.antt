use Rattle.std.proofs.Common.{sym}
use Rattle.rv_listing.proofs.LinesRead.{refuses_at, no_line, image_refused, lines_behind}
use Rattle.rv_listing.proofs.reading.read_list.Goals as goal

pub returns-in_default : goal.returns-in_default
returns-in_default c =
    refuses_at _ _ _ c.fault.result c.fault.ensures (no_line c.args.text.now (sym c.in_default.ensures.value))

pub returns-in-Ok : goal.returns-in-Ok
returns-in-Ok c =
    lines_behind _ c.args.text.now c.in-Some.first.now c.in-Some.rest.now c.in-Ok.size c.read_lines.result
    (sym c.in-Some.ensures.value) (sym c.in-Ok.ensures.value) c.read_lines.ensures

pub returns-in-Err : goal.returns-in-Err
returns-in-Err c =
    refuses_at _ _ _ c.fault-in-Err.result c.fault-in-Err.ensures
    (image_refused c.args.text.now c.in-Some.first.now c.in-Some.rest.now c.in-Err.kind (sym c.in-Some.ensures.value)
    (sym c.in-Err.ensures.value))

use Rattle.std.proofs.Common.{rules, arith, sym, ap, ◌∙◌}
use Rattle.std.proofs.lemmas.Result.{err_from_is_err_and}
use Rattle.rv_listing.specs.Listings.{behind, read_lines, lines_of}
use Rattle.rv_listing.proofs.LinesRead.{nothing_before, line_done, refused_there, ended}
use Rattle.rv_listing.proofs.reading.read_lines.Goals as goal

pub loop-line-init : goal.loop-line-init
loop-line-init c =
    let whole = read_lines 2 c.args.size (lines_of c.args.text.now).0 (lines_of c.args.text.now).1 in
    record {
      read = ap (λ x. behind x whole) c.in_ok-bytes.ensures.items ∙ nothing_before whole;
      number = omega arith;
    }

pub returns-in_default : goal.returns-in_default
returns-in_default c =
    ended _ c.loop-line.bytes.items c.loop-line.number c.loop-line.room c.loop-line.rest.now _ c.at_end.result
    (sym c.in_default.ensures.value) c.loop-line.invariant.read c.at_end.ensures

pub returns-in_err-room : goal.returns-in_err-room
returns-in_err-room c =
    let error = err_from_is_err_and c.from_residual-in_err-room.result c.from_residual-in_err-room.ensures.1 in
    rw (error.1, error.2)
    (refused_there c.loop-line.bytes.items c.loop-line.number c.loop-line.room c.loop-line.rest.now c.in-Some.line.now
    c.in-Some.after.now _ c.in_err-room.field-0.0 (sym c.in-Some.ensures.value) c.in_err-room.ensures.err
    c.loop-line.invariant.read)

pub loop-line-preserved : goal.loop-line-preserved
loop-line-preserved c = record {
  read = line_done c.loop-line.bytes.items c.take_line.new.bytes.items c.loop-line.number c.loop-line.room
      c.in_ok-room.room c.loop-line.rest.now c.in-Some.line.now c.in-Some.after.now _ (sym c.in-Some.ensures.value)
      c.in_ok-room.ensures.ok c.loop-line.invariant.read;
  number = search rules;
}

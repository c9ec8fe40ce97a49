use Rattle.std.proofs.Common.{◌∙◌, ap, arith}
use Rattle.std.proofs.lemmas.Result.{err_from_is_err_and}
use Rattle.elf_image.specs.Layout.{program_header, loads}
use Rattle.elf_image.proofs.Loads.{Step, gives_up, goes_on}
use Rattle.elf_image.proofs.image.collect.Goals as goal

pub returns-in_err-add_segment : goal.returns-in_err-add_segment
returns-in_err-add_segment c =
    let p = err_from_is_err_and c.from_residual.result c.from_residual.ensures.1 in
    let s : Step c.args.count c.loop-i._i c.loop-i.rest.now c.at.result c.split_at.result.1.now = record {
      left = omega arith;
      header_is = c.at.ensures ∙ ap program_header c.split_at.ensures.front;
      after_is = c.split_at.ensures.back;
    } in
    rw (p.1, p.2) (gives_up c.args.bytes.now c.in_err-add_segment.field-0.0
    (loads c.args.count c.args.table.now) s c.in_err-add_segment.ensures c.loop-i.invariant.fault)

pub loop-i-preserved : goal.loop-i-preserved
loop-i-preserved c =
    let s : Step c.args.count c.loop-i._i c.loop-i.rest.now c.at.result c.split_at.result.1.now = record {
      left = omega arith;
      header_is = c.at.ensures ∙ ap program_header c.split_at.ensures.front;
      after_is = c.split_at.ensures.back;
    } in
    let n = goes_on c.args.bytes.now
    (loads c.args.count c.args.table.now) c.loop-i.segments.items c.add_segment.new.segments.items s
    c.in_ok-add_segment.ensures c.loop-i.invariant.fault c.loop-i.invariant.so_far in
    record {
      room = omega (arith, c.split_at.ensures.back_len);
      fault = n.fault;
      so_far = n.so_far;
    }

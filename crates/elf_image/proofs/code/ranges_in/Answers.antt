use Rattle.std.proofs.Common.{◌∙◌, ap, arith}
use Rattle.elf_image.specs.Layout.{program_header, loads, ranges_of}
use Rattle.elf_image.proofs.Loads.{Step}
use Rattle.elf_image.proofs.Ranges.{range_added}
use Rattle.elf_image.proofs.code.ranges_in.Goals as goal

pub loop-i-preserved : goal.loop-i-preserved
loop-i-preserved c =
    let s : Step c.args.count c.loop-i._i c.loop-i.rest.now c.at.result c.split_at.result.1.now = record {
      left = omega arith;
      header_is = c.at.ensures ∙ ap program_header c.split_at.ensures.front;
      after_is = c.split_at.ensures.back;
    } in
    record {
      room = omega (arith, c.split_at.ensures.back_len);
      so_far = range_added (ranges_of (loads c.args.count c.args.table.now)) c.loop-i.ranges.items
          c.add_range.new.ranges.items c.args.count c.loop-i._i c.loop-i.rest.now c.split_at.result.1.now c.at.result s
          c.in_ok-add_range.ensures c.loop-i.invariant.so_far;
    }

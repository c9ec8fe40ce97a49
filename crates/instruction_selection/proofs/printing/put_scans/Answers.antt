use Rattle.std.proofs.Common.{◌∙◌, arith}
use Rattle.metadata_relation.specs.Blocks.{runtime_number, status_code}
use Rattle.metadata_relation.specs.Printing.{scan_statuses}
use Rattle.instruction_selection.proofs.FormatScans.{count_next, scans_next}
use Rattle.instruction_selection.proofs.printing.put_scans.Goals as goal

pub put_scan-requires-clause-among : goal.put_scan-requires-clause-among
put_scan-requires-clause-among c =
    let next = count_next c.args.pieces.now c.loop-i.i c.piece_at.result c.loop-i-test.true c.piece_at.ensures in
    let count = c.loop-i.invariant.count in
    let among = c.requires.among in
    omega (arith, next, count, among)

pub loop-i-preserved : goal.loop-i-preserved
loop-i-preserved c = record {
  made = scans_next (runtime_number c.args.context.now.program.now) (λ r. status_code r c.args.line scan_statuses)
      c.args.context.now.function.now c.args.pieces.now c.loop-i.i c.piece_at.result c.loop-i.temporary _
      c.loop-i.code.items _ c.loop-i-test.true c.piece_at.ensures c.in_ok-temporary.ensures.next
      c.in_ok-temporary.ensures.put
      ∙ c.loop-i.invariant.made;
  count = let next = count_next c.args.pieces.now c.loop-i.i c.piece_at.result c.loop-i-test.true c.piece_at.ensures in
      let count = c.loop-i.invariant.count in
      let given = c.in_ok-temporary.ensures.next in
      omega (arith, next, count, given);
}

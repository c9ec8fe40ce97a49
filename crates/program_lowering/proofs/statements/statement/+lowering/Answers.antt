use Rattle.std.proofs.Common.{arith, ◌≡◌, ◌-◌, ◌<◌, length, ◌∙◌}
use Rattle.std.proofs.lemmas.List.{length-set}
use Rattle.std.specs.Prelude.{get_or}
use Rattle.program_lowering.proofs.StatementCode.Compound.{next_statement, block_code, if_code, if_else_code}
use Rattle.program_lowering.proofs.StatementCode.Elements.{get_any, height_at, nodes_at, decided_at, item_height_at}
use Rattle.program_lowering.proofs.StatementCode.Elements.{item_nodes_at, item_decided_at}
use Rattle.program_lowering.proofs.StatementCode.Loops.{while_code, do_code, for_code, span_between}
use Rattle.program_lowering.proofs.StatementParts.InitializerParts.{room_for}
use Rattle.program_lowering.proofs.StatementCode.Switches.{next_item, switch_code}
use Rattle.program_lowering.proofs.statements.statement.+lowering.Goals as goal

pub statements-loop-i-preserved : goal.statements-loop-i-preserved
statements-loop-i-preserved t c =
    next_statement c.args.body.now c.loop-i.i c.index-body-i.result (omega (arith, c.loop-i-test.true))
    (omega (arith, c.loop-i.auto.i)) c.index-body-i.is c.before-in-loop-i.ensures c.loop-i.invariant
    c.in_ok-node.ensures

pub statements-statement-requires : goal.statements-statement-requires
statements-statement-requires t c =
    let lt : c.loop-i.i - 1 < length c.args.body.now = omega (arith, c.loop-i-test.true, c.loop-i.auto.i) in
    let nodes = nodes_at c.args.body.now (c.loop-i.i - 1) c.index-body-i.result lt c.index-body-i.is in
    let height = height_at c.args.body.now (c.loop-i.i - 1) c.index-body-i.result lt c.index-body-i.is in (
      omega (arith, nodes, c.decreases),
      (
        omega (arith, height, c.requires.height),
        decided_at c.args.body.now (c.loop-i.i - 1) c.index-body-i.result lt c.index-body-i.is c.requires.decided,
      ),
    )

pub switch_items-statement-requires : goal.switch_items-statement-requires
switch_items-statement-requires t c =
    let lt : c.loop-i.i - 1 < length c.args.items.now = omega (arith, c.loop-i-test.true, c.loop-i.auto.i) in
    let x = get_or c.args.items.now (c.loop-i.i - 1) c.index-items-i.result in
    let is : x ≡ get_or c.args.items.now (c.loop-i.i - 1) x = get_any c.args.items.now (c.loop-i.i - 1) _ x lt in
    let nodes = item_nodes_at c.args.items.now (c.loop-i.i - 1) x lt is in
    let height = item_height_at c.args.items.now (c.loop-i.i - 1) x lt is in (
      omega (arith, nodes, c.decreases),
      (
        omega (arith, height, c.requires.height),
        item_decided_at c.args.items.now (c.loop-i.i - 1) x lt is c.requires.decided,
      ),
    )

pub switch_items-loop-i-preserved : goal.switch_items-loop-i-preserved
switch_items-loop-i-preserved t c =
    let lt : c.loop-i.i - 1 < length c.args.items.now = omega (arith, c.loop-i-test.true, c.loop-i.auto.i) in
    let x = get_or c.args.items.now (c.loop-i.i - 1) c.index-items-i.result in
    let is : x ≡ get_or c.args.items.now (c.loop-i.i - 1) x = get_any c.args.items.now (c.loop-i.i - 1) _ x lt in
    record {
      same = length-set c.loop-i.starts.items (c.loop-i.i - 1) c.in_ok-node.node ∙ c.loop-i.invariant.same;
      code =
          next_item c.args.items.now c.loop-i.starts.items c.loop-i.i x (omega (arith, c.loop-i-test.true))
          (omega (arith, c.loop-i.auto.i)) is c.loop-i.invariant.same c.before-in-loop-i.ensures c.loop-i.invariant.code
          c.in_ok-node.ensures;
    }

pub switch-expression-requires : goal.switch-expression-requires
switch-expression-requires t c = room_for c.args.e.now _ c.requires.value

pub block-returns : goal.block-returns
block-returns t c =
    block_code
    (c.as_slice-numbers.ensures.value ∙ c.in_ok-declared.ensures) c.in_ok-inside.ensures c.in_ok-first.ensures
    c.in_ok-entry.ensures

pub if_then-returns : goal.if_then-returns
if_then-returns t c = if_code c.in_ok-taken.ensures c.in_ok-first.ensures

pub if_else-returns : goal.if_else-returns
if_else-returns t c = if_else_code c.in_ok-fails.ensures c.in_ok-holds.ensures c.in_ok-first.ensures

pub while_do-returns : goal.while_do-returns
while_do-returns t c = while_code c.in_ok-head.ensures c.in_loop.ensures c.in_ok-first.ensures c.fill.ensures

pub do_while-returns : goal.do_while-returns
do_while-returns t c = do_code c.in_ok-head.ensures c.in_loop.ensures c.in_ok-first.ensures c.fill.ensures

pub for_loop-returns : goal.for_loop-returns
for_loop-returns t c =
    let first : c.len-start.result ≡ length c.for_parts.new.code.code.items =
    c.len-start.ensures ∙ c.for_parts.new.code.code.ok.0 in
    let last : c.len-end.result ≡ length c.statement.new.code.code.items =
    c.len-end.ensures ∙ c.statement.new.code.code.ok.0 in
    for_code (c.as_slice-numbers.ensures.value ∙ c.in_ok-declared.ensures) c.in_ok-head.ensures c.in_loop.ensures
    c.in_ok-turn.ensures c.counted_parts-range.ensures c.in_ok-entry.ensures
    (span_between c.for_parts.new.code c.statement.new.code first last)

pub switch-returns : goal.switch-returns
switch-returns t c =
    switch_code (c.as_slice-numbers.ensures.value ∙ c.in_ok-declared.ensures) c.requires.default c.in_ok-inside.ensures
    c.in_switch.ensures c.in_ok-nodes.ensures.code c.as_slice-starts.ensures.value c.default_start-other.ensures
    c.in_ok-tests.ensures c.in_ok-entry.ensures c.in_ok-first.ensures

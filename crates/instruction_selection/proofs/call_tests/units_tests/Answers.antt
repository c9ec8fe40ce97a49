use Rattle.instruction_selection.proofs.Joined.{units_list}
use Rattle.instruction_selection.proofs.call_tests.units_tests.Goals as goal

pub returns : goal.returns
returns c =
    units_list c.args.map.now c.args.line c.args.scratch c.stack_end.result c.new-code.result.items c.stack_end.ensures.value
    c.new-code.ensures.items c.in_ok-put_units_end.ensures c.in_ok-put.ensures c.in_ok-put_below_or_end.ensures
    c.in_ok-put_key_test.ensures

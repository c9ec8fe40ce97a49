use Rattle.std.proofs.Common.{◌+◌, ◌++◌, map, ap, ◌∙◌}
use Rattle.metadata_relation.specs.Registers.{parameter_words, passed_as, total}
use Rattle.metadata_relation.specs.Blocks.{pack}
use Rattle.instruction_selection.specs.Calls.{passed_by}
use Rattle.instruction_selection.proofs.Joined.{through_one_list}
use Rattle.instruction_selection.proofs.calls.put_through_one.Goals as goal

pub returns : goal.returns
returns c =
    let context = c.args.context.now in
    let call = c.args.call in
    through_one_list context.map.now context.program.now context.function.now c.args.one.now c.args.kind call.line call.first
    call.with_entry c.temporary-pointer.result c.moved-arguments.result c.argument_words.result c.result_words.result
    c.result_of-given.result (map passed_by c.in_ok-handed.handed.items) c.args.code.now.items
    c.temporary-pointer.ensures.value c.moved-arguments.ensures.value
    (c.in_ok-handed.ensures.list ∙ ap (map (λ v. passed_as v.kind)) c.as_slice.ensures) c.result_of-given.ensures
    (c.argument_words.ensures ∙ ap (total parameter_words) c.as_slice-2.ensures) c.result_words.ensures
    c.in_ok-put_through_tests.ensures c.in_ok-put_await_result.ensures
    (c.in_ok-put_pack.ensures ∙ ap (λ z. c.put_await_result.new.code.items
    ++ pack context.function.now (map passed_by z) c.moved-arguments.result (call.first + 1)) c.deref.ensures.value)
    c.in_ok-put.ensures c.in_ok-put_result.ensures

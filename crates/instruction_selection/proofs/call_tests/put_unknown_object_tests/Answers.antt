use Rattle.std.proofs.Common.{◌+◌, ◌++◌, ap, ◌∙◌}
use Rattle.instruction_selection.specs.Calls.{unless_none}
use Rattle.instruction_selection.proofs.call_tests.put_unknown_object_tests.Goals as goal

pub returns : goal.returns
returns c =
    c.in_ok-put_unless_none.ensures
    ∙ ap (λ ts. c.args.code.now.items ++ unless_none c.args.key (c.args.scratch + 1) ts)
    (c.as_slice.ensures.value ∙ c.in_ok-tests.ensures)

use Rattle.std.proofs.Common.{ap, map, ◌∙◌}
use Rattle.c_tree.specs.Statements.{statements_in}
use Rattle.c_tree.specs.View.{function_of, statement_of}
use Rattle.program_lowering.proofs.ProgramCode.Bodies.{function_code}
use Rattle.program_lowering.proofs.programs.function.lower_function.Goals as goal

pub returns : goal.returns
returns c =
    function_code (function_of c.args.f.now) (c.as_slice-numbered.ensures.value ∙ c.in_ok-all.ensures)
    (ap (λ l. statements_in (map statement_of l)) c.as_slice-statements.ensures)
    (c.in_ok-parameters.ensures ∙ c.as_slice.ensures) (c.in_ok-variables.ensures ∙ c.as_slice-2.ensures)
    (c.from_vec-entered.ensures ∙ c.in_ok-opened.ensures) c.in_ok-body.ensures c.complete.ensures

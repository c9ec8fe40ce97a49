use Rattle.std.proofs.Common.{refl}
use Rattle.program_lowering.proofs.ProgramCode.Bodies.{body_code}
use Rattle.program_lowering.proofs.programs.body.lower_body.Goals as goal

pub returns : goal.returns
returns c =
    body_code c.new-code.ensures.code c.new-code.ensures.loops c.new-code.ensures.texts c.new-code.ensures.literals c.in_ok-returns.ensures
    c.in_ok-end.ensures refl
    c.in_ok-entry.ensures

use Rattle.std.proofs.Common.{refl, subst}
use Rattle.c_tree.specs.View.{function_of}
use Rattle.program_lowering.specs.ProgramCode.Code.{FunctionCode}
use Rattle.program_lowering.proofs.ProgramCode.InTurn.{held}
use Rattle.program_lowering.proofs.programs.program.with_function.Goals as goal

pub returns : goal.returns
returns c =
    held refl
    (subst (λ k. FunctionCode (function_of c.args.f.now) k c.args.done.texts.items c.args.done.literals.items
    c.in_ok-lowered.lowered)
    c.result_of.ensures c.in_ok-lowered.ensures)
    c.in_ok-push.ensures.items refl refl

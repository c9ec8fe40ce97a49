-- The bodies of the counted loops of a program, by its text.
use Rattle.std.specs.Prelude.{◌≡◌, ℕ, Some}
use Rattle.c_tree.specs.Programs.{Function, Program}
use Rattle.source_meaning.specs.Calls.{function_at}
use Rattle.tac_ir.specs.declared.function.CodeFunction.{CodeFunction}
use Rattle.tac_ir.specs.declared.function.Tac.{Tac}
use Rattle.tac_ir.specs.Bodies.{bodies_in}
use Rattle.tac_ir.specs.Meaning.{function_in}
use Rattle.program_lowering.specs.StatementCode.Bodies.{function_bodies}

-- the loops in the table of each function are those of its text, and have just the nodes of its text as their bodies
pub record HaveBodiesOf (program : Program) (code : Tac) : Type 0 where
  pub by : (u : ℕ) (c : CodeFunction) (f : Function) → function_in code u ≡ Some c
      → function_at program.functions u ≡ Some f → bodies_in c.loops ≡ function_bodies f

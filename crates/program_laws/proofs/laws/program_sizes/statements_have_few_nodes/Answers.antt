use Rattle.std.proofs.Common.{arith}
use Rattle.program_laws.proofs.ProgramSizes.Declarations.{declaration_bound}
use Rattle.program_laws.proofs.ProgramSizes.Initializers.{initialized_nodes, parts_in_nodes}
use Rattle.program_laws.proofs.ProgramSizes.Statements.{evaluated_nodes, items_bound, statement_bound}
use Rattle.program_laws.proofs.laws.program_sizes.statements_have_few_nodes.Goals as goal

pub returns : goal.returns
returns c = record {
  expression = λ e s behind x h. (evaluated_nodes e s).each (behind, x) h;
  initializer = λ x i j s behind h.
      let low = (initialized_nodes x i s).each (behind, j) h in
      omega (arith, parts_in_nodes i.parts, parts_in_nodes j.parts);
  declaration = λ in_head d f behind vs h. (declaration_bound in_head d f).each (behind, vs) h;
  statement = λ a ls x f behind y h. (statement_bound a ls x f).each (behind, y) h;
  items = λ a xs f behind ss h. (items_bound a xs f).each (behind, ss) h;
}

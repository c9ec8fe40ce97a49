use Rattle.program_laws.proofs.Scopes.Agreeing.{unnamed_content, unnamed_expression, unnamed_part, unnamed_parts}
use Rattle.program_laws.proofs.laws.scopes.what_names_no_variable_is_valid_in_each_scope.Goals as goal

pub returns : goal.returns
returns c = record {
  expression = unnamed_expression;
  content = unnamed_content;
  part = unnamed_part;
  parts = unnamed_parts;
}
